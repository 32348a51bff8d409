-- An entry fits exactly where its event is asked for and carried out, and it is within limits and later than the last one.
use Rattle.std.proofs.Common.{◌≡◌, ◌≢◌, ℕ, zero, suc, ◌<◌, ◌≤◌, ◌↔◌, ◌==◌, IsTrue, Bool, true, false, cond, not, Option, None, Some, List, length, get_or, refl, sym, ap, ◌∙◌, subst, arith}
use Rattle.std.specs.Bool.{nat_lt}
use Rattle.std.specs.List.{AllPairs, position_or_len, slice_get}
use Rattle.std.specs.Option.{is_some, option_map, option_or, unwrap_or}
use Rattle.std.proofs.lemmas.Bool.{false≢true}
use Rattle.std.proofs.lemmas.Bool.Decides.{Decides-ltb}
use Rattle.std.proofs.lemmas.List.Kept.{AllPairs-filter}
use Rattle.std.proofs.lemmas.List.Sums.{position_or_len_is}
use Rattle.std.proofs.lemmas.Option.{get_or_from_slice_get, same_Some, slice_get-get_or, slice_get_past, slice_get_within}
use Rattle.al_base.specs.Names.{rank_of}
use Rattle.al_base.specs.declared.severity.Severity.{Severity}
use Rattle.al_notify.specs.declared.rule.NotifyRule.{NotifyRule}
use Rattle.al_shelf.specs.Places.{AreShelves, is_named, place_for, place_of, without}
use Rattle.al_shelf.specs.declared.shelf.Shelf.{Shelf}
use Rattle.al_shelf.specs.declared.spot.Spot.TheVariants.{First, After}
use Rattle.al_model.specs.Decision.{changes, decision_of, event_of, full, reply_of, unless}
use Rattle.al_model.specs.History.{Fits, asked_for}
use Rattle.al_model.specs.Limits.{IsEntryWithin}
use Rattle.al_model.specs.Sames.{same_mode}
use Rattle.al_model.specs.State.{State}
use Rattle.al_model.specs.declared.decision.Decision.TheVariants.{Change}
use Rattle.al_model.specs.declared.decision.Refusal.{Refusal}
use Rattle.al_model.specs.declared.decision.Refusal.TheVariants.{NoPoint}
use Rattle.al_model.specs.declared.decision.Reply.{Reply}
use Rattle.al_model.specs.declared.entry.Entry.{Entry}
use Rattle.al_model.specs.declared.event.Event.{Event}
use Rattle.al_model.specs.declared.event.Event.TheVariants as events
use Rattle.al_model.specs.declared.request.Request.{Request}
use Rattle.al_model.specs.declared.request.Request.TheVariants as requests
use Rattle.al_model.proofs.Fitting.{time_stays}
use Rattle.al_model.proofs.Moves.{same_is, same_itself}
use Rattle.al_model.proofs.Sames.{decides_mode}
use Rattle.al_select.proofs.Takings.{decides_severity}
use Rattle.al_lists.specs.Asked.{IsAsked}
use Rattle.al_lists.specs.Verdicts.{is_change, judged, verdict_at, with_event}
use Rattle.al_lists.specs.declared.verdict.Verdict.{Verdict}
use Rattle.al_lists.specs.declared.verdict.Verdict.TheVariants as verdicts
use Rattle.al_lists.proofs.Judging.{verdict_decides}

-- ---- entries

-- a verdict of a change gives an answer
record IsChanged (v : Verdict) : Type 0 where
  reply : Reply
  is : v ≡ verdicts.Change reply

changed : (v : Verdict) → is_change v ≡ true → IsChanged v
changed (verdicts.Refuse refusal) h = absurd (cc)
changed (verdicts.Same reply) h = absurd (cc)
changed (verdicts.Change reply) h = record { reply = reply; is = refl }

changed_by : (event made : Event) (v : Verdict) (reply : Reply) → with_event event v ≡ Change made reply → (event ≡ made) × (is_change v ≡ true)
changed_by event made (verdicts.Refuse refusal) reply h = absurd (cc)
changed_by event made (verdicts.Same same) reply h = absurd (cc)
changed_by event made (verdicts.Change gives) reply h = (cc, refl)

-- the verdict at the time of a later entry is the decision at it
decided_at : (s : State) (request : Request) (time : ℕ) → s.time < time → with_event (event_of s request) (verdict_at s time request) ≡ decision_of s request time
decided_at s request time later =
    ap (λ t. with_event (event_of s request) (verdict_at s t request)) (sym (time_stays s time later)) ∙ verdict_decides s request time

asked_fits : (s : State) (e : Entry) → IsEntryWithin e → s.time < e.time → IsAsked s e.time e.event → Fits s e
asked_fits s e within later a =
    let change = changed (verdict_at s e.time a.request) a.changes in
    record {
      within = within;
      later = later;
      request = a.request;
      reply = change.reply;
      asked = a.asked;
      decided = sym (decided_at s a.request e.time later) ∙ ap (with_event (event_of s a.request)) change.is ∙ ap (λ v. Change v change.reply) a.event_is;
    }

fits_asked : (s : State) (e : Entry) → Fits s e → IsAsked s e.time e.event
fits_asked s e f =
    let made = changed_by (event_of s f.request) e.event (verdict_at s e.time f.request) f.reply (decided_at s f.request e.time f.later ∙ f.decided) in
    record { request = f.request; asked = f.asked; event_is = made.0; changes = made.1 }

-- ---- events

pub asked_is : (s : State) (time : ℕ) (event : Event) (request : Request) (b : Bool) → asked_for s event ≡ Some request → event_of s request ≡ event → b ≡ is_change (verdict_at s time request) → IsTrue b ↔ IsAsked s time event
asked_is s time event request b asked event_is is = (
  λ h. record { request = request; asked = asked; event_is = event_is; changes = sym is ∙ h },
  λ a. is ∙ ap (λ r. is_change (verdict_at s time r)) (same_Some request a.request (sym asked ∙ a.asked)) ∙ a.changes,
)

-- an event that another one answers for
asked_other : (s : State) (time : ℕ) (event : Event) (request : Request) → asked_for s event ≡ Some request → event_of s request ≢ event → IsAsked s time event → ⊥
asked_other s time event request asked differs a =
    differs (ap (event_of s) (same_Some request a.request (sym asked ∙ a.asked)) ∙ a.event_is)

-- ---- rules

level_asked : (s : State) (rule : NotifyRule) → same_mode s.rule.mode rule.mode ≡ true → asked_for s (events.SetNotify rule) ≡ Some (requests.SetLevel rule.level)
level_asked s rule same = ap (λ b. Some (cond b (requests.SetLevel rule.level) (requests.SetMode rule.mode))) same

mode_asked : (s : State) (rule : NotifyRule) → same_mode s.rule.mode rule.mode ≡ false → asked_for s (events.SetNotify rule) ≡ Some (requests.SetMode rule.mode)
mode_asked s rule other = ap (λ b. Some (cond b (requests.SetLevel rule.level) (requests.SetMode rule.mode))) other

-- a rule of the mode that stands is asked for by its level
pub level_is_asked : (s : State) (time : ℕ) (rule : NotifyRule) (b : Bool) → same_mode s.rule.mode rule.mode ≡ true → b ≡ is_change (verdict_at s time (requests.SetLevel rule.level)) → IsTrue b ↔ IsAsked s time (events.SetNotify rule)
level_is_asked s time rule b same is =
    let event_is : event_of s (requests.SetLevel rule.level) ≡ events.SetNotify rule = ap (λ m. events.SetNotify (record { mode = m; level = rule.level })) ((decides_mode s.rule.mode rule.mode).0 same) in
    asked_is s time (events.SetNotify rule) (requests.SetLevel rule.level) b (level_asked s rule same) event_is is

-- a rule of another mode by its mode, and then its level stands
pub mode_is_asked : (s : State) (time : ℕ) (rule : NotifyRule) (b : Bool) → same_mode s.rule.mode rule.mode ≡ false → (rank_of s.rule.level == rank_of rule.level) ≡ true → b ≡ is_change (verdict_at s time (requests.SetMode rule.mode)) → IsTrue b ↔ IsAsked s time (events.SetNotify rule)
mode_is_asked s time rule b other same is =
    let event_is : event_of s (requests.SetMode rule.mode) ≡ events.SetNotify rule = ap (λ l. events.SetNotify (record { mode = rule.mode; level = l })) ((decides_severity s.rule.level rule.level).0 same) in
    asked_is s time (events.SetNotify rule) (requests.SetMode rule.mode) b (mode_asked s rule other) event_is is

-- what another level answers, another event does
level_of : Event → Option Severity
level_of (events.SetNotify rule) = Some rule.level
level_of event = None

pub mode_is_unasked : (s : State) (time : ℕ) (rule : NotifyRule) → same_mode s.rule.mode rule.mode ≡ false → (rank_of s.rule.level == rank_of rule.level) ≡ false → IsTrue false ↔ IsAsked s time (events.SetNotify rule)
unfolding level_of
mode_is_unasked s time rule other differs = (
  λ h. absurd (false≢true h),
  λ a. absurd (asked_other s time (events.SetNotify rule) (requests.SetMode rule.mode) (mode_asked s rule other) (λ is. (
      let same : s.rule.level ≡ rule.level = same_Some s.rule.level rule.level (ap level_of is) in
      let so : false ≡ true = sym differs ∙ (decides_severity s.rule.level rule.level).1 same in
      false≢true so)) a),
)

-- ---- positions

-- a name leads back to its place
named_at : (others : List Shelf) (n : ℕ) (other : Shelf) → AllPairs (λ a b. a.name ≢ b.name) others → slice_get others n ≡ Some other → place_of other.name others ≡ Some n
named_at others n other distinct is =
    let within = slice_get_within others n other is in
    let at : get_or others n other ≡ other = get_or_from_slice_get others n other other is in
    let here : is_named other.name (get_or others n other) ≡ true = ap (is_named other.name) at ∙ same_itself other.name in
    let before : (k : ℕ) → k < n → is_named other.name (get_or others k other) ≡ false =
    λ k lt. earlier k (is_named other.name (get_or others k other)) refl (λ e. distinct k n other lt within (e ∙ ap (λ x. x.name) (sym at))) in
    let place : position_or_len (is_named other.name) others ≡ n = position_or_len_is (is_named other.name) others n other (omega arith) before (λ _. here) in
    ap (λ i. cond (nat_lt i (length others)) (Some i) None) place ∙ ap (λ b. cond b (Some n) None) ((Decides-ltb n (length others)).1 within)
  where
    earlier : (k : ℕ) (b : Bool) → is_named other.name (get_or others k other) ≡ b → ((get_or others k other).name ≡ other.name → ⊥) → b ≡ false
    earlier k true is differs = absurd (differs (same_is (get_or others k other).name other.name is))
    earlier k false is differs = refl

-- a request that asks for the position
record AsksPlace (s : State) (shelf : Shelf) (place : ℕ) : Type 0 where
  request : Request
  asked : asked_for s (events.PutShelf shelf place) ≡ Some request
  event_is : event_of s request ≡ events.PutShelf shelf place
  verdict_is : (time : ℕ) → is_change (verdict_at s time request) ≡ is_change (judged None (changes s time (events.PutShelf shelf place)) (full s time (events.PutShelf shelf place)) (reply_of s time request))

at_spot : (s : State) (shelf : Shelf) (place : ℕ) (request : Request) → event_of s request ≡ events.PutShelf shelf place → (time : ℕ) → is_change (judged None (changes s time (event_of s request)) (full s time (event_of s request)) (reply_of s time request)) ≡ is_change (judged None (changes s time (events.PutShelf shelf place)) (full s time (events.PutShelf shelf place)) (reply_of s time request))
at_spot s shelf place request is time = ap (λ v. is_change (judged None (changes s time v) (full s time v) (reply_of s time request))) is

asks_place : (s : State) (shelf : Shelf) (place : ℕ) → AreShelves s.shelves → place ≤ length (without shelf.name s.shelves) → AsksPlace s shelf place
unfolding verdict_at
asks_place s shelf zero sound within =
    record { request = requests.PutShelf shelf First; asked = refl; event_is = refl; verdict_is = λ time. refl }
asks_place s shelf (suc n) sound within =
    let others = without shelf.name s.shelves in
    let distinct = AllPairs-filter (λ a b. a.name ≢ b.name) (λ x. not (is_named shelf.name x)) s.shelves sound.names in
    let other = get_or others n shelf in
    let at : slice_get others n ≡ Some other = slice_get-get_or others n shelf (omega arith) in
    let place : place_for (After other.name) shelf.name s.shelves ≡ Some (suc n) = ap (option_map suc) (named_at others n other distinct at) in
    let request : Request = requests.PutShelf shelf (After other.name) in
    let event_is : event_of s request ≡ events.PutShelf shelf (suc n) = ap (λ o. events.PutShelf shelf (unwrap_or o 0)) place in
    record {
      request = request;
      asked = ap (option_map (λ x. requests.PutShelf shelf (After x.name))) at;
      event_is = event_is;
      verdict_is = λ time. ap (λ o. is_change (judged (option_or (unless (is_some o) NoPoint) None) (changes s time (event_of s request)) (full s time (event_of s request)) (reply_of s time request))) place
          ∙ at_spot s shelf (suc n) request event_is time;
    }

-- the answer is no part of it
any_reply : (changing : Bool) (room : Option Refusal) (a b : Reply) → is_change (judged None changing room a) ≡ is_change (judged None changing room b)
any_reply false room a b = refl
any_reply true (Some refusal) a b = refl
any_reply true None a b = refl

pub place_is_asked : (s : State) (time : ℕ) (shelf : Shelf) (place : ℕ) (reply : Reply) (b : Bool) → AreShelves s.shelves → place ≤ length (without shelf.name s.shelves) → b ≡ is_change (judged None (changes s time (events.PutShelf shelf place)) (full s time (events.PutShelf shelf place)) reply) → IsTrue b ↔ IsAsked s time (events.PutShelf shelf place)
place_is_asked s time shelf place reply b sound within is =
    let a = asks_place s shelf place sound within in
    let event : Event = events.PutShelf shelf place in
    asked_is s time event a.request b a.asked a.event_is
    (is ∙ any_reply (changes s time event) (full s time event) reply (reply_of s time a.request) ∙ sym (a.verdict_is time))

past_the_others : (s : State) (time : ℕ) (shelf : Shelf) (place : ℕ) → length (without shelf.name s.shelves) < place → IsAsked s time (events.PutShelf shelf place) → ⊥
past_the_others s time shelf zero past a = absurd (omega arith)
past_the_others s time shelf (suc n) past a =
    let none = slice_get_past (without shelf.name s.shelves) n (omega arith) in
    let asked : None ≡ Some a.request = sym (ap (option_map (λ x. requests.PutShelf shelf (After x.name))) none) ∙ a.asked in
    cc

pub place_is_unasked : (s : State) (time : ℕ) (shelf : Shelf) (place : ℕ) → length (without shelf.name s.shelves) < place → IsTrue false ↔ IsAsked s time (events.PutShelf shelf place)
place_is_unasked s time shelf place past = (λ h. absurd (false≢true h), λ a. absurd (past_the_others s time shelf place past a))

-- ---- entries that are too early

pub early_fits_not : (s : State) (e : Entry) → e.time ≤ s.time → IsTrue false ↔ Fits s e
early_fits_not s e le = (λ h. absurd (false≢true h), λ f. (let later = f.later in absurd (omega arith)))

pub later_fits : (s : State) (e : Entry) (time : ℕ) (b : Bool) → IsEntryWithin e → s.time < e.time → time ≡ e.time → IsTrue b ↔ IsAsked s time e.event → IsTrue b ↔ Fits s e
later_fits s e time b within later at asked = (
  λ h. asked_fits s e within later (subst (λ t. IsAsked s t e.event) at (asked.0 h)),
  λ f. asked.1 (subst (λ t. IsAsked s t e.event) (sym at) (fits_asked s e f)),
)
