-- The disk was synced, and then only read.
use Rattle.std.proofs.Common.{◌∙◌, Ok, Err}
use Rattle.std.proofs.lemmas.Result.{err_from_is_err_and}
use Rattle.al_disk.proofs.Going.{so_goes}
use Rattle.al_journal.specs.Images.{IsNoJournal}
use Rattle.al_journal.specs.Walks.{Walked}
use Rattle.al_journal.proofs.BlockReading.{unfilled}
use Rattle.al_journal.proofs.Reaching.{synced_goes, walk_refused}
use Rattle.al_journal.proofs.walking.find.Goals as goal

pub returns-in_default-clause-finds : goal.returns-in_default-clause-finds
returns-in_default-clause-finds g c =
    synced_goes IsNoJournal _ _ _ c.in_ok-sync.ensures.synced (c.read_capacity.ensures.same ∙ c.size.ensures.same)
    (λ s is. rw (c.in_default.is) at (c.in_ok-capacity.ensures.read s (c.size.ensures.same ∙ is) (unfilled c.args.block.now s.content c.requires)))

pub returns-in_err-gate-clause-finds : goal.returns-in_err-gate-clause-finds
returns-in_err-gate-clause-finds g c =
    let p = err_from_is_err_and c.from_residual-in_err-gate.result c.from_residual-in_err-gate.ensures.1 in
    let told = c.read_capacity.ensures.same ∙ c.size.ensures.same in
    let fault = c.in_err-gate.field-0.0 in
    rw (p.1, p.2)
    (so_goes _ _ _ _
    (synced_goes (λ l. Walked c.in-Some.capacity (Err fault) l) _ _ _ c.in_ok-sync.ensures.synced (c.walk.ensures.same ∙ told)
    (λ s is.
    let none = unfilled c.args.block.now s.content c.requires in
    let read = rw (c.in-Some.is) at (c.in_ok-capacity.ensures.read s (c.size.ensures.same ∙ is) none) in
    c.in_err-gate.ensures.walked s (told ∙ is) (c.read_capacity.ensures.holds s (c.size.ensures.same ∙ is) none) (c.in_ok-size.ensures.size s is) read))
    (λ s t is both. walk_refused c.in-Some.capacity fault s t both.0 both.1))

pub returns-clause-finds : goal.returns-clause-finds
returns-clause-finds g c =
    let told = c.read_capacity.ensures.same ∙ c.size.ensures.same in
    synced_goes (λ l. Walked c.in-Some.capacity (Ok c.in_ok-gate.gate) l) _ _ _ c.in_ok-sync.ensures.synced (c.walk.ensures.same ∙ told)
    (λ s is.
    let none = unfilled c.args.block.now s.content c.requires in
    let read = rw (c.in-Some.is) at (c.in_ok-capacity.ensures.read s (c.size.ensures.same ∙ is) none) in
    c.in_ok-gate.ensures.walked s (told ∙ is) (c.read_capacity.ensures.holds s (c.size.ensures.same ∙ is) none) (c.in_ok-size.ensures.size s is) read)
