use Rattle.std.proofs.Common.{inl, inr, refl, arith}
use Rattle.al_disk.proofs.Going.{stays}
use Rattle.al_office.specs.declared.fault.OfficeFault.TheVariants as offices
use Rattle.al_commands.proofs.Keeping.{conversation_counts, has_conversed, leaves_same}
use Rattle.al_commands.proofs.session.run_session.Goals as goal

pub returns-in_default-clause-session : goal.returns-in_default-clause-session
returns-in_default-clause-session g c = inl (
  record {
    fault = offices.Memory;
    status_is = refl;
    disk = stays _ _ _ refl (λ s is. inl refl);
    moments = stays _ _ _ refl (λ s is. leaves_same s);
    cause = λ is. absurd (cc);
  },
  record { source = refl; sink = refl; clock = refl },
)

pub returns-clause-session : goal.returns-clause-session
returns-clause-session g c =
    let start = c.keeps_its_history.ensures in
    let opening = c.in-Ok-open.ensures in
    let kept = c.keeps_its_history-2.ensures in
    inr (rw c.into_disk.ensures
    (has_conversed c.in-Ok-open.office c.into_inner-office.result _ _ _ _ _ _ _ _ _ _ _ _ c.of_cause.ensures
    (record { legal = start.legal; capacity = start.capacity; opens = opening.opens; whole = opening.start.1; later = opening.later })
    c.new-turns.ensures.seen c.converse-ending.ensures.conversation c.into_inner-office.ensures
    (record { legal = kept.legal; capacity = kept.capacity; now = kept.now; since = kept.since })))

pub returns-clause-later_disk : goal.returns-clause-later_disk
returns-clause-later_disk g c =
    let more = conversation_counts c.in-Ok-open.office c.into_inner-office.result _ _ _ _ _ _ _ c.new-turns.ensures.seen c.converse-ending.ensures.conversation c.into_inner-office.ensures in
    rw c.into_disk.ensures (omega (arith, c.in-Ok-open.ensures.later, more))
