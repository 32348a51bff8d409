use Rattle.std.proofs.Common.{◌≡◌, ℕ, ◌||◌, drop}
use Rattle.std.specs.List.{list_any}
use Rattle.al_pattern.specs.Sets.{is_in}
use Rattle.al_pattern.specs.Tests.{is_in_item}
use Rattle.al_pattern.proofs.node.insert_items.Given as goal

abbrev pub invariant-loop-item : goal.invariant-loop-item
invariant-loop-item l =
    (c : ℕ) → (list_any (is_in_item c) (drop l.item-index l.items) || is_in l.bytes c) ≡ (list_any (is_in_item c) l.items || is_in l.fn.bytes c)
