-- What is decided on fits.
use Rattle.std.proofs.Common.{◌≡◌, ◌≢◌, ℕ, ◌<◌, ◌≤◌, ◌^◌, max, zero, suc, Bool, true, false, cond, not, Option, None, Some, List, length, get_or, refl, sym, ap, ◌∙◌, subst, arith}
use Rattle.std.specs.Bool.{nat_lt}
use Rattle.std.specs.List.{AllPairs, position_or_len, slice_get}
use Rattle.std.specs.Option.{is_some, option_map, option_or, unwrap_or}
use Rattle.std.proofs.lemmas.Bool.Decides.{Decides-ltb}
use Rattle.std.proofs.lemmas.List.Kept.{AllPairs-filter}
use Rattle.std.proofs.lemmas.List.Sums.{position_or_len_is}
use Rattle.std.proofs.lemmas.Option.{get_or_from_slice_get, slice_get-get_or, slice_get_within}
use Rattle.al_base.specs.Limits.{last_stamp}
use Rattle.al_base.specs.declared.severity.Severity.{Severity}
use Rattle.al_notify.specs.declared.rule.Mode.{Mode}
use Rattle.al_shelf.proofs.Puts.{spot_within}
use Rattle.al_shelf.specs.Places.{AreShelves, is_named, place_for, place_of, without}
use Rattle.al_shelf.specs.declared.shelf.Shelf.{Shelf}
use Rattle.al_shelf.specs.declared.spot.Spot.{Spot}
use Rattle.al_shelf.specs.declared.spot.Spot.TheVariants.{First, After}
use Rattle.al_model.specs.Decision.{changes, decided, decision_of, entry_of, entry_time, event_of, full, missing, reply_of, undeclared, unless}
use Rattle.al_model.specs.History.{Fits, asked_for}
use Rattle.al_model.specs.Limits.{IsEventWithin, IsPutWithin, IsRequestWithin, IsShelfWithin}
use Rattle.al_model.specs.Sames.{same_mode}
use Rattle.al_model.specs.State.{State}
use Rattle.al_model.specs.declared.decision.Decision.TheVariants.{Change}
use Rattle.al_model.specs.declared.decision.Refusal.TheVariants.{NoPoint}
use Rattle.al_model.specs.declared.decision.Reply.{Reply}
use Rattle.al_model.specs.declared.event.Event.{Event}
use Rattle.al_model.specs.declared.event.Event.TheVariants as events
use Rattle.al_model.specs.declared.request.Request.{Request}
use Rattle.al_model.specs.declared.request.Request.TheVariants as requests
use Rattle.al_model.proofs.Bounds.{has_room, length_filter}
use Rattle.al_model.proofs.Fitting.{change_is, changes_to, time_stays}
use Rattle.al_model.proofs.Moves.{same_is, same_itself}
use Rattle.al_model.proofs.Sames.{decides_mode}
use Rattle.al_model.proofs.Tools.{none_of_two}

-- ---- the asked request

-- a request that asks for the event, and that the first two points of the decision allow
pub record Asks (s : State) (event : Event) : Type 0 where
  pub request : Request
  pub asked : asked_for s event ≡ Some request
  pub event_is : event_of s request ≡ event
  pub exists : missing s request ≡ None
  pub is_declared : undeclared s request ≡ None

asks_mode : (s : State) (mode : Mode) (same : Bool) → same_mode s.rule.mode mode ≡ same → Asks s (events.SetNotify (record { mode = mode; level = s.rule.level }))
asks_mode s mode true is =
    let equal = (decides_mode s.rule.mode mode).0 is in
    record {
      request = requests.SetLevel s.rule.level;
      asked = ap (λ b. Some (cond b (requests.SetLevel s.rule.level) (requests.SetMode mode))) is;
      event_is = ap (λ m. events.SetNotify (record { mode = m; level = s.rule.level })) equal;
      exists = refl;
      is_declared = refl;
    }
asks_mode s mode false is =
    record {
      request = requests.SetMode mode;
      asked = ap (λ b. Some (cond b (requests.SetLevel s.rule.level) (requests.SetMode mode))) is;
      event_is = refl;
      exists = refl;
      is_declared = refl;
    }

asks_level : (s : State) (level : Severity) → Asks s (events.SetNotify (record { mode = s.rule.mode; level = level }))
asks_level s level =
    record {
      request = requests.SetLevel level;
      asked = ap (λ b. Some (cond b (requests.SetLevel level) (requests.SetMode s.rule.mode))) ((decides_mode s.rule.mode s.rule.mode).1 refl);
      event_is = refl;
      exists = refl;
      is_declared = refl;
    }

-- a name leads back to its place
named_at : (others : List Shelf) (n : ℕ) (other : Shelf) → AllPairs (λ a b. a.name ≢ b.name) others → slice_get others n ≡ Some other → place_of other.name others ≡ Some n
named_at others n other distinct is =
    let within = slice_get_within others n other is in
    let at : get_or others n other ≡ other = get_or_from_slice_get others n other other is in
    let here : is_named other.name (get_or others n other) ≡ true = ap (is_named other.name) at ∙ same_itself other.name in
    let before : (k : ℕ) → k < n → is_named other.name (get_or others k other) ≡ false =
    λ k lt. earlier k (is_named other.name (get_or others k other)) refl (λ e. distinct k n other lt within (e ∙ ap (λ x. x.name) (sym at))) in
    let place : position_or_len (is_named other.name) others ≡ n = position_or_len_is (is_named other.name) others n other (omega arith) before (λ _. here) in
    ap (λ i. cond (nat_lt i (length others)) (Some i) None) place ∙ ap (λ b. cond b (Some n) None) ((Decides-ltb n (length others)).1 within)
  where
    earlier : (k : ℕ) (b : Bool) → is_named other.name (get_or others k other) ≡ b → ((get_or others k other).name ≡ other.name → ⊥) → b ≡ false
    earlier k true is differs = absurd (differs (same_is (get_or others k other).name other.name is))
    earlier k false is differs = refl

asks_shelf : (s : State) (shelf : Shelf) (place : ℕ) → AreShelves s.shelves → place ≤ length (without shelf.name s.shelves) → Asks s (events.PutShelf shelf place)
asks_shelf s shelf zero sound within =
    record { request = requests.PutShelf shelf First; asked = refl; event_is = refl; exists = refl; is_declared = refl }
asks_shelf s shelf (suc n) sound within =
    let others = without shelf.name s.shelves in
    let distinct = AllPairs-filter (λ a b. a.name ≢ b.name) (λ x. not (is_named shelf.name x)) s.shelves sound.names in
    let other = get_or others n shelf in
    let at : slice_get others n ≡ Some other = slice_get-get_or others n shelf (omega arith) in
    let place : place_for (After other.name) shelf.name s.shelves ≡ Some (suc n) = ap (option_map suc) (named_at others n other distinct at) in
    record {
      request = requests.PutShelf shelf (After other.name);
      asked = ap (option_map (λ x. requests.PutShelf shelf (After x.name))) at;
      event_is = ap (λ o. events.PutShelf shelf (unwrap_or o 0)) place;
      exists = ap (λ o. unless (is_some o) NoPoint) place;
      is_declared = refl;
    }

-- a spot that is there has a position among the others
spotted : (s : State) (shelf : Shelf) (spot : Spot) (o : Option ℕ) → AreShelves s.shelves → place_for spot shelf.name s.shelves ≡ o → unless (is_some o) NoPoint ≡ None → unwrap_or o 0 ≤ length (without shelf.name s.shelves)
spotted s shelf spot None sound is there = absurd (cc)
spotted s shelf spot (Some place) sound is there = spot_within spot shelf.name s.shelves place sound is

asks_spot : (s : State) (shelf : Shelf) (spot : Spot) → AreShelves s.shelves → unless (is_some (place_for spot shelf.name s.shelves)) NoPoint ≡ None → Asks s (events.PutShelf shelf (unwrap_or (place_for spot shelf.name s.shelves) 0))
asks_spot s shelf spot sound there =
    asks_shelf s shelf (unwrap_or (place_for spot shelf.name s.shelves) 0) sound (spotted s shelf spot (place_for spot shelf.name s.shelves) sound refl there)

asks : (s : State) (request : Request) → AreShelves s.shelves → missing s request ≡ None → undeclared s request ≡ None → Asks s (event_of s request)
asks s (requests.Report key status text) sound there known =
    record { request = requests.Report key status text; asked = refl; event_is = refl; exists = there; is_declared = known }
asks s (requests.Operate key state operator text) sound there known =
    record { request = requests.Operate key state operator text; asked = refl; event_is = refl; exists = there; is_declared = known }
asks s (requests.SetMax max) sound there known =
    record { request = requests.SetMax max; asked = refl; event_is = refl; exists = there; is_declared = known }
asks s (requests.SetMode mode) sound there known = asks_mode s mode (same_mode s.rule.mode mode) refl
asks s (requests.SetLevel level) sound there known = asks_level s level
asks s (requests.CreateShelf shelf spot) sound there known =
    asks_spot s shelf spot sound (none_of_two (unless (is_some (place_for spot shelf.name s.shelves)) NoPoint) _ there).0
asks s (requests.PutShelf shelf spot) sound there known = asks_spot s shelf spot sound there
asks s (requests.DropShelf name) sound there known =
    record { request = requests.DropShelf name; asked = refl; event_is = refl; exists = there; is_declared = known }
asks s (requests.Purge side filter) sound there known =
    record { request = requests.Purge side filter; asked = refl; event_is = refl; exists = there; is_declared = known }
asks s (requests.Compress side filter) sound there known =
    record { request = requests.Compress side filter; asked = refl; event_is = refl; exists = there; is_declared = known }
asks s (requests.Install inventory) sound there known =
    record { request = requests.Install inventory; asked = refl; event_is = refl; exists = there; is_declared = known }

-- ---- limits

put_within : (s : State) (shelf : Shelf) (place : ℕ) → AreShelves s.shelves → IsShelfWithin shelf → place ≤ length (without shelf.name s.shelves) → IsPutWithin shelf place
put_within s shelf place sound within le =
    let few = sound.few in
    record { shelf_within = within; at_within = omega (arith, length_filter (λ x. not (is_named shelf.name x)) s.shelves) }

event_within : (s : State) (request : Request) → AreShelves s.shelves → missing s request ≡ None → IsRequestWithin request → IsEventWithin (event_of s request)
unfolding IsEventWithin IsRequestWithin
event_within s (requests.Report key status text) sound there within = within
event_within s (requests.Operate key state operator text) sound there within = within
event_within s (requests.SetMax max) sound there within = within
event_within s (requests.SetMode mode) sound there within = tt
event_within s (requests.SetLevel level) sound there within = tt
event_within s (requests.CreateShelf shelf spot) sound there within =
    let place = place_for spot shelf.name s.shelves in
    let at = none_of_two (unless (is_some place) NoPoint) _ there in
    put_within s shelf (unwrap_or place 0) sound within.shelf_within (spotted s shelf spot place sound refl at.0)
event_within s (requests.PutShelf shelf spot) sound there within =
    let place = place_for spot shelf.name s.shelves in
    put_within s shelf (unwrap_or place 0) sound within.shelf_within (spotted s shelf spot place sound refl there)
event_within s (requests.DropShelf name) sound there within = within
event_within s (requests.Purge side filter) sound there within = within
event_within s (requests.Compress side filter) sound there within = within
event_within s (requests.Install inventory) sound there within = within

-- ---- the entry

-- the asked request is decided on in the same way at the entry's time
asked_decided : (s : State) (event : Event) (time : ℕ) (a : Asks s event) → s.time < time → changes s time event ≡ true → full s time event ≡ None → decision_of s a.request time ≡ Change event (reply_of s time a.request)
unfolding decision_of
asked_decided s event time a later changed room =
    let at = entry_time s time in
    let is : at ≡ time = time_stays s time later in
    ap (λ t. decided (option_or (missing s a.request) (undeclared s a.request)) (changes s t (event_of s a.request)) (full s t (event_of s a.request)) (event_of s a.request) (reply_of s t a.request)) is
    ∙ ap (λ v. decided (option_or (missing s a.request) (undeclared s a.request)) (changes s time v) (full s time v) v (reply_of s time a.request)) a.event_is
    ∙ changes_to _ _ _ event (reply_of s time a.request) (ap (λ o. option_or o (undeclared s a.request)) a.exists ∙ a.is_declared) changed room

pub decided_fits : (s : State) (origin : ℕ) (request : Request) (now : ℕ) (event : Event) (reply : Reply) → AreShelves s.shelves → s.time ≤ last_stamp → IsRequestWithin request → origin < 2 ^ 16 → now ≤ last_stamp → decision_of s request now ≡ Change event reply → Fits s (entry_of s origin event now)
unfolding decision_of
decided_fits s origin request now event reply sound before within from reading h =
    let time = entry_time s now in
    let made = event_of s request in
    let d = change_is (option_or (missing s request) (undeclared s request)) (changes s time made) (full s time made) made (reply_of s time request) event reply h in
    let allowed = none_of_two (missing s request) (undeclared s request) d.allowed in
    let early = (has_room s time made d.bounded).clock in
    let later : s.time < time = omega arith in
    let last : time ≤ last_stamp = omega arith in
    let a = asks s request sound allowed.0 allowed.1 in
    subst (λ v. Fits s (entry_of s origin v now)) d.made_is record {
      within = record { time = last; origin = from; event = event_within s request sound allowed.0 within };
      later = later;
      request = a.request;
      reply = reply_of s time a.request;
      asked = a.asked;
      decided = asked_decided s made time a later d.changed d.bounded;
    }

-- what is decided on leaves a time for its entry
pub decided_early : (s : State) (request : Request) (now : ℕ) (event : Event) (reply : Reply) → s.time ≤ last_stamp → decision_of s request now ≡ Change event reply → s.time < last_stamp
unfolding decision_of
decided_early s request now event reply before h =
    let time = entry_time s now in
    let made = event_of s request in
    let d = change_is (option_or (missing s request) (undeclared s request)) (changes s time made) (full s time made) made (reply_of s time request) event reply h in
    let early = (has_room s time made d.bounded).clock in
    omega arith
