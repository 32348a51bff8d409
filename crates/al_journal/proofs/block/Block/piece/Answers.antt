use Rattle.std.proofs.Common.{◌≡◌, List, ℕ, ◌-◌, ◌%◌, ◌∙◌, ap, drop, length, take}
use Rattle.al_journal.specs.Blocks.{BlockView}
use Rattle.al_journal.proofs.BlockReading.{in_block}
use Rattle.al_journal.proofs.block.Block.piece.Goals as goal

pub returns-clause-read : goal.returns-clause-read
returns-clause-read g c = λ s is holds.
    let count = c.self.inside.count in
    let place = c.args.place in
    let filled = c.in_ok-fetch.ensures.holds s is holds in
    let start = c.in_ok-fetch.ensures.start in
    let held : take count c.deref.result.now ≡ take 4096 (drop (place - place % 4096) s.content) =
    ap (λ (l : List ℕ). take count l) c.deref.ensures.value
    ∙ ap (λ (b : BlockView). b.held) c.self.view_is
    ∙ filled start.0
    ∙ ap (λ (n : ℕ). take 4096 (drop n s.content)) start.1 in
    c.copy_from.ensures.copied ∙ ap (λ (l : List ℕ). take (length c.args.buf.now) l) (in_block place _ s.content held)
