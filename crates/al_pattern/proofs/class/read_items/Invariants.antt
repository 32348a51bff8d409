use Rattle.std.proofs.Common.{◌≡◌, ◌<◌, ◌≤◌, ℕ, length}
use Rattle.al_pattern.specs.Classes.{items_at, items_from}
use Rattle.al_pattern.proofs.class.read_items.Given as goal

-- what is left to read, after the items so far, gives what reading all gives
abbrev pub invariant-loop-is_first : goal.invariant-loop-is_first
invariant-loop-is_first l =
    ((steps : ℕ) × (length l.rest < steps) × (items_from steps l.is_first l.items.items l.rest ≡ items_at l.text))
    × (length l.rest ≤ length l.text)

abbrev pub decreases-loop-is_first : goal.decreases-loop-is_first
decreases-loop-is_first l = length l.rest
