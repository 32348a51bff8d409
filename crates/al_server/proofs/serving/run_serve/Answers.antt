use Rattle.std.proofs.Common.{inl, inr, ℕ, refl, subst, sym, ◌∙◌}
use Rattle.al_office.specs.Journaled.{journaled_mark}
use Rattle.al_server.proofs.Ends.{all_ended, no_memory, not_opened, one_rose, only_opened}
use Rattle.al_server.proofs.Keeping.{keeps_journal}
use Rattle.al_server.specs.Crews.{IsRoom}
use Rattle.al_server.proofs.serving.run_serve.Goals as goal

pub returns-in_default-clause-serve : goal.returns-in_default-clause-serve
returns-in_default-clause-serve g c = λ serve is. absurd (c.in_default.ensures.asked serve is)

pub returns-in_default-new-clause-serve : goal.returns-in_default-new-clause-serve
returns-in_default-new-clause-serve g c = λ serve is. inl (no_memory _ _ _, refl)

pub returns-in-Err-clause-usage : goal.returns-in-Err-clause-usage
returns-in-Err-clause-usage g c = λ none. absurd (none c.in-Some.serve c.in-Some.ensures.asked)

pub returns-in-Err-clause-serve : goal.returns-in-Err-clause-serve
returns-in-Err-clause-serve g c = λ serve is. inl (not_opened c.in-Err.fault _ _ _ _ c.in-Err.ensures.refuses c.in-Err.ensures.moments c.in-Err.ensures.cause c.tell_fault.ensures.told, refl)

pub returns-in-Ok-serve_all-clause-usage : goal.returns-in-Ok-serve_all-clause-usage
returns-in-Ok-serve_all-clause-usage g c = λ none. absurd (none c.in-Some.serve c.in-Some.ensures.asked)

pub returns-in-Err-serve_all-clause-usage : goal.returns-in-Err-serve_all-clause-usage
returns-in-Err-serve_all-clause-usage g c = λ none. absurd (none c.in-Some.serve c.in-Some.ensures.asked)

pub serve_all-requires-clause-room : goal.serve_all-requires-clause-room
serve_all-requires-clause-room g c = λ lifetimes within.
    subst (λ (count : ℕ). IsRoom count c.in-Ok.room) (c.from.ensures ∙ sym (c.requires.doors c.in-Some.serve c.in-Some.ensures.asked)) c.in-Ok.ensures

pub returns-in-Ok-serve_all-clause-serve : goal.returns-in-Ok-serve_all-clause-serve
returns-in-Ok-serve_all-clause-serve g c = λ serve is.
    let first = c.in-Ok-open.office in
    let last = c.in-Ok-serve_all.shift.office in
    let opened = c.in-Ok-open.ensures in
    let start = c.keeps_its_history.ensures in
    let kept = c.keeps_its_history-in-Ok-serve_all.ensures in
    let ends = c.in-Ok-serve_all.ensures.ok in
    let keeps = keeps_journal first last _ _ _ _ _ _ start.capacity opened.opens opened.start.1 opened.later ends.all.goes_on kept.capacity kept.now kept.since in
    inr (rw (c.in-Some.ensures.one.connections serve is, c.conclude.ensures.disk, c.conclude.ensures.doors)
    (all_ended c.in-Some.serve.connections _ _ _ _ _ (journaled_mark (g.D.Disk.faults first.journal.disk) first) (journaled_mark (g.D.Disk.faults last.journal.disk) last) _ _ _
    start.legal kept.legal ends keeps c.len-before.ensures c.conclude.ensures.told))

pub returns-in-Ok-serve_all-clause-door_fault : goal.returns-in-Ok-serve_all-clause-door_fault
returns-in-Ok-serve_all-clause-door_fault g c = λ is. rw c.conclude.ensures.doors (one_rose _ _ _ _ _ _ _ _ _ _ c.in-Ok-serve_all.ensures.ok c.conclude.ensures.told is)

pub returns-in-Err-serve_all-clause-serve : goal.returns-in-Err-serve_all-clause-serve
returns-in-Err-serve_all-clause-serve g c = λ serve is.
    let back = c.in-Err-serve_all.ensures.err in
    let disk_is = rw back.0 at c.into_disk.ensures in
    let opened = c.in-Ok-open.ensures in
    inl (rw disk_is (only_opened c.in-Ok-open.office _ _ opened.opens opened.moments), back.1)
