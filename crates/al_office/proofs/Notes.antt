-- Each entry sends one note at most.
use Rattle.std.proofs.Common.{◌≡◌, ℕ, ◌+◌, ◌≤◌, Option, None, Some, List, [], ◌∷◌, length, refl, ap, arith}
use Rattle.al_notify.specs.Logs.{LogView}
use Rattle.al_notify.specs.declared.note.NoteBody.{NoteBody}
use Rattle.al_model.specs.Events.{set_by}
use Rattle.al_model.specs.History.{replay, replay_from}
use Rattle.al_model.specs.State.{State, start}
use Rattle.al_model.specs.Step.{log_after, note_of, step}
use Rattle.al_model.specs.declared.entry.Entry.{Entry}
use Rattle.al_model.specs.declared.event.Event.{Event}
use Rattle.al_model.specs.declared.event.Event.TheVariants as events

-- no event touches the log by itself
same_log : (s : State) (event : Event) → (set_by s event).log ≡ s.log
same_log s (events.Report key status text) = refl
same_log s (events.Operate key state operator text) = refl
same_log s (events.SetMax max) = refl
same_log s (events.SetNotify rule) = refl
same_log s (events.PutShelf shelf at) = refl
same_log s (events.DropShelf name) = refl
same_log s (events.Purge side filter) = refl
same_log s (events.Compress side filter) = refl
same_log s (events.Install inventory) = refl

one_more : (note : Option NoteBody) (time : ℕ) (log : LogView) → (log_after note time log).sent ≤ log.sent + 1
one_more None time log = omega arith
one_more (Some body) time log = omega arith

step_sends : (s : State) (e : Entry) → (step s e).log.sent ≤ s.log.sent + 1
unfolding step
step_sends s e =
    let same = ap (λ log. (log_after (note_of s e.event) e.time log).sent) (same_log s e.event) in
    omega (arith, same, one_more (note_of s e.event) e.time s.log)

sent_from : (s : State) (h : List Entry) → (replay_from s h).log.sent ≤ s.log.sent + length h
sent_from s [] = omega arith
sent_from s (e ∷ h) =
    let first = step_sends s e in
    let rest = sent_from (step s e) h in
    omega arith

pub few_notes : (h : List Entry) → (replay h).log.sent ≤ length h
few_notes h = let all = sent_from start h in omega arith
