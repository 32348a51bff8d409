-- What the office keeps, as a history grows.
use Rattle.std.proofs.Common.{◌≡◌, ℕ, ◌+◌, ◌<◌, ◌≤◌, ◌^◌, max, arith, List, [], ◌∷◌, ◌++◌, Result, Ok, Err, refl, ap, sym, ◌∙◌, subst}
use Rattle.al_base.specs.Limits.{last_stamp}
use Rattle.al_model.specs.Decision.{decision_of}
use Rattle.al_model.specs.History.{replay, Fits}
use Rattle.al_model.specs.Limits.{IsRequestWithin}
use Rattle.al_model.specs.State.{State}
use Rattle.al_shelf.specs.Places.{AreShelves}
use Rattle.al_model.specs.Step.{step}
use Rattle.al_model.specs.declared.decision.Decision.{Decision}
use Rattle.al_model.specs.declared.decision.Decision.TheVariants.{Refuse, Same, Change}
use Rattle.al_model.specs.declared.decision.Refusal.{Refusal}
use Rattle.al_model.specs.declared.decision.Reply.{Reply}
use Rattle.al_model.specs.declared.entry.Entry.{Entry}
use Rattle.al_model.specs.declared.event.Event.{Event}
use Rattle.al_model.specs.declared.request.Request.{Request}
use Rattle.al_model.proofs.Decided.{decided_fits, decided_early}
use Rattle.al_model.proofs.Histories.{legal_push, replay-push}
use Rattle.al_model.proofs.Validity.{legal_valid}
use Rattle.al_office.specs.Decisions.{carried_by}
use Rattle.al_office.specs.Ledger.{IsKept}

-- the decision that is left to be done so
decision_from : Result (Event × Reply) (Result Reply Refusal) → Decision
decision_from (Ok change) = Change change.0 change.1
decision_from (Err (Ok reply)) = Same reply
decision_from (Err (Err refusal)) = Refuse refusal

decision_from-carried_by : (d : Decision) → decision_from (carried_by d) ≡ d
unfolding decision_from
decision_from-carried_by (Refuse refusal) = refl
decision_from-carried_by (Same reply) = refl
decision_from-carried_by (Change event reply) = refl

-- what is to be carried out was decided on as a change
pub change_is : (d : Decision) (event : Event) (reply : Reply) → Ok (event, reply) ≡ carried_by d → d ≡ Change event reply
unfolding decision_from
change_is d event reply is = sym (ap decision_from is ∙ decision_from-carried_by d)

-- there is a time for an entry that was decided on
pub early : (h : List Entry) (s : State) (request : Request) (now : ℕ) (event : Event) (reply : Reply) → IsKept h s → decision_of s request now ≡ Change event reply → s.time < last_stamp
early h s request now event reply k is =
    let v = legal_valid h k.legal in
    decided_early s request now event reply (subst (λ t. t.time ≤ last_stamp) (sym k.tables) v.time) is

-- An entry that was decided on, at the time of the next one, fits.
pub fits : (h : List Entry) (s : State) (origin : ℕ) (request : Request) (now : ℕ) (event : Event) (reply : Reply) (time : ℕ) → IsKept h s → IsRequestWithin request → origin < 2 ^ 16 → decision_of s request now ≡ Change event reply → time ≡ max now (s.time + 1) → time ≤ last_stamp → (let e : Entry = record { time = time; origin = origin; event = event } in Fits (replay h) e)
fits h s origin request now event reply time k within from decided at last =
    let v = legal_valid h k.legal in
    let reading : now ≤ last_stamp = omega arith in
    let shelves = subst (λ t. AreShelves t.shelves) (sym k.tables) v.shelves in
    let before = subst (λ t. t.time ≤ last_stamp) (sym k.tables) v.time in
    let of_time : ℕ → Entry = λ t. record { time = t; origin = origin; event = event } in
    let f = decided_fits s origin request now event reply shelves before within from reading decided in
    subst (λ t. Fits t (of_time time)) k.tables (subst (λ t. Fits s (of_time t)) (sym at) f)

-- one more entry, with its step, is kept
pub kept_more : (h : List Entry) (e : Entry) (s new : State) → IsKept h s → Fits (replay h) e → new ≡ step s e → IsKept (h ++ e ∷ []) new
kept_more h e s new k f stepped =
    record { legal = legal_push h e k.legal f; tables = stepped ∙ ap (λ t. step t e) k.tables ∙ sym (replay-push h e) }
