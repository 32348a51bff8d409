-- What edits of the alarms make of their states, and what they leave.
use Rattle.std.proofs.Common.{◌≡◌, ℕ, zero, suc, ◌+◌, ◌-◌, ◌<◌, ◌≤◌, Bool, true, false, cond, not, List, [], ◌∷◌, ◌++◌, min, length, map, take, drop, Option, None, Some, Result, Ok, Err, OnOk, IsOk, refl, ap, sym, ◌∙◌, subst, arith}
use Rattle.std.specs.List.{AllByRecursion, filter, insert, slice_get, slice_index_or, slice_set}
use Rattle.std.specs.Option.{is_some}
use Rattle.std.specs.Result.{is_ok}
use Rattle.al_base.specs.declared.severity.Status.{Status}
use Rattle.al_base.specs.declared.severity.Status.TheVariants.{Cleared, Active}
use Rattle.al_base.specs.declared.text.Text.{Text}
use Rattle.al_model.specs.Alarms.{bounded, reported, with_operator}
use Rattle.al_model.specs.State.{AlarmState, State}
use Rattle.al_model.specs.declared.entry.OperatorEntry.{OperatorEntry}
use Rattle.al_model.specs.declared.event.Side.{Side}
use Rattle.al_model.proofs.Tools.{either}
use Rattle.al_select.specs.declared.compress.CompressFilter.{CompressFilter}
use Rattle.al_contents.specs.Edits.{ChangesAt, HasRoomFor, HaveRoom, IsListedAt, ReservesOnly, after_moves, at_place}
use Rattle.al_contents.specs.Places.{AreParted, AreSides, places_of}
use Rattle.al_contents.specs.Tables.{TablesView}
use Rattle.al_contents.specs.Views.{AlarmView, compressed, compressed_view, is_marked, is_unmarked, marked, states, with_max}
use Rattle.al_contents.proofs.Sides.{length-map, places-at, places-insert, places-map, places_few, places_within}

-- how many status entries each alarm keeps
abbrev pub KeepMost : Option ℕ → List AlarmView → Type 0
KeepMost max views = AllByRecursion (λ v. v.max ≡ max) views

-- ---- what stands at a place

pub on_ok : {A E : Type 0} {P Q : Type 0} (r : Result A E) → (P → Q) → OnOk r P → OnOk r Q
on_ok (Ok x) f h = f h
on_ok (Err e) f h = tt

pub got_at : {X : Type 0} (xs : List X) (i : ℕ) (x : X) → i < length xs → x ≡ slice_index_or xs i x → slice_get xs i ≡ Some x
got_at [] i x lt e = absurd (omega arith)
got_at (y ∷ ys) zero x lt e = ap Some (sym e)
got_at (y ∷ ys) (suc i) x lt e = got_at ys i x (omega arith) e

pub get_set : {X : Type 0} (xs : List X) (i : ℕ) (x : X) → i < length xs → slice_get (slice_set xs i x) i ≡ Some x
get_set [] i x lt = absurd (omega arith)
get_set (y ∷ ys) zero x lt = refl
get_set (y ∷ ys) (suc i) x lt = get_set ys i x (omega arith)

get_states : (views : List AlarmView) (i : ℕ) (v : AlarmView) → slice_get views i ≡ Some v → slice_get (states views) i ≡ Some v.state
get_states [] i v is = absurd (cc)
get_states (x ∷ xs) zero v is = let first : x ≡ v = cc in ap (λ y. Some y.state) first
get_states (x ∷ xs) (suc i) v is = get_states xs i v is

-- ---- the state

abbrev pub with_these : State → List AlarmState → State
with_these s alarms = record s { alarms = alarms }

-- what is made of the state and its alarms, at an equal value
pub with_all : (t u : TablesView) (alarms : List AlarmState) (make : State → List AlarmState → State) (after : State → List AlarmState) → t ≡ u → alarms ≡ after t.state → make t.state alarms ≡ make u.state (after u.state)
with_all t u alarms make after is e = ap (make t.state) e ∙ ap (λ v. make v.state (after v.state)) is

-- ---- one alarm

at_place-set : (f : AlarmState → AlarmState) (views : List AlarmView) (i : ℕ) (v w : AlarmView) → slice_get views i ≡ Some v → w.state ≡ f v.state → states (slice_set views i w) ≡ at_place i f (states views)
at_place-set f [] i v w is e = refl
at_place-set f (x ∷ xs) zero v w is e = let first : x ≡ v = cc in ap (λ a. a ∷ states xs) (e ∙ ap (λ y. f y.state) (sym first))
at_place-set f (x ∷ xs) (suc i) v w is e = ap (λ ys. x.state ∷ ys) (at_place-set f xs i v w is e)

all_get : {X : Type 0} (P : X → Type 0) (xs : List X) (i : ℕ) (x : X) → slice_get xs i ≡ Some x → AllByRecursion P xs → P x
all_get P [] i x is h = absurd (cc)
all_get P (y ∷ ys) zero x is h = let first : y ≡ x = cc in subst P first h.0
all_get P (y ∷ ys) (suc i) x is h = all_get P ys i x is h.1

all_set : {X : Type 0} (P : X → Type 0) (xs : List X) (i : ℕ) (x : X) → P x → AllByRecursion P xs → AllByRecursion P (slice_set xs i x)
all_set P [] i x p h = tt
all_set P (y ∷ ys) zero x p h = (p, h.1)
all_set P (y ∷ ys) (suc i) x p h = (h.0, all_set P ys i x p h.1)

pub moved_maxes : (max : Option ℕ) (views : List AlarmView) (i : ℕ) (v w : AlarmView) → slice_get views i ≡ Some v → w.max ≡ v.max → KeepMost max views → KeepMost max (slice_set views i w)
moved_maxes max views i v w is e h = all_set (λ x. x.max ≡ max) views i w (e ∙ all_get (λ x. x.max ≡ max) views i v is h) h

pub changed_states : (f : Option ℕ → AlarmState → AlarmState) (place : ℕ) (before after : List AlarmView) (max : Option ℕ) → KeepMost max before → ChangesAt f place before after → states after ≡ at_place place (f max) (states before)
changed_states f place before after max keep c =
    let same : c.view.max ≡ max = all_get (λ v. v.max ≡ max) before place c.view c.stands keep in
    ap states c.list ∙ at_place-set (f max) before place c.view c.becomes c.stands (c.state ∙ ap (λ m. f m c.view.state) same)

pub changed_maxes : (f : Option ℕ → AlarmState → AlarmState) (place : ℕ) (before after : List AlarmView) (max : Option ℕ) → KeepMost max before → ChangesAt f place before after → KeepMost max after
changed_maxes f place before after max keep c =
    let same : c.view.max ≡ max = all_get (λ v. v.max ≡ max) before place c.view c.stands keep in
    subst (KeepMost max) (sym c.list) (all_set (λ v. v.max ≡ max) before place c.becomes (c.max ∙ same) keep)

-- where the alarm's mark stays
pub changed_sides : (f : Option ℕ → AlarmState → AlarmState) (place : ℕ) (before after : List AlarmView) (listed shelved : List ℕ) → ((view : AlarmView) → slice_get before place ≡ Some view → is_marked (f view.max view.state) ≡ is_marked view.state) → ChangesAt f place before after → AreSides before listed shelved → AreSides after listed shelved
changed_sides f place before after listed shelved stays c sides =
    let same : is_marked c.becomes.state ≡ is_marked c.view.state = ap is_marked c.state ∙ stays c.view c.stands in
    record {
      listed = sides.listed ∙ sym (ap (λ views. places_of is_unmarked (states views)) c.list ∙ places-at is_unmarked before place c.view c.becomes c.stands (ap not same));
      shelved = sides.shelved ∙ sym (ap (λ views. places_of is_marked (states views)) c.list ∙ places-at is_marked before place c.view c.becomes c.stands same);
    }

pub reported_mark : (max : Option ℕ) (time : ℕ) (status : Status) (text : Text) (a : AlarmState) → is_marked (reported max time status text a) ≡ is_marked a
reported_mark max time (Active severity) text a = refl
reported_mark max time Cleared text a = refl

-- An alarm that is on the list stays there by an entry that doesn't shelve it.
pub operated_mark : (e : OperatorEntry) (views : List AlarmView) (alarms : List AlarmState) (place : ℕ) → states views ≡ alarms → IsListedAt alarms place → marked e.state e.text ≡ None → (view : AlarmView) → slice_get views place ≡ Some view → is_marked (with_operator (Some e) view.state) ≡ is_marked view.state
operated_mark e views alarms place same listed stays view stands =
    ap is_some (stays ∙ sym (listed view.state (ap (λ xs. slice_get xs place) (sym same) ∙ get_states views place view stands)))

-- ---- memory alone

states-set : (views : List AlarmView) (i : ℕ) (v w : AlarmView) → slice_get views i ≡ Some v → w.state ≡ v.state → states (slice_set views i w) ≡ states views
states-set [] i v w is e = refl
states-set (x ∷ xs) zero v w is e = let first : x ≡ v = cc in ap (λ a. a ∷ states xs) (e ∙ ap (λ y. y.state) (sym first))
states-set (x ∷ xs) (suc i) v w is e = ap (λ ys. x.state ∷ ys) (states-set xs i v w is e)

pub reserves_none : (views : List AlarmView) → ReservesOnly views views
reserves_none views = record { states_same = refl; maxes = λ max keep. keep }

pub reserves_more : (first before : List AlarmView) (i : ℕ) (v w : AlarmView) → ReservesOnly first before → slice_get before i ≡ Some v → w.state ≡ v.state → w.max ≡ v.max → ReservesOnly first (slice_set before i w)
reserves_more first before i v w so is state max =
    record {
      states_same = states-set before i v w is state ∙ so.states_same;
      maxes = λ m keep. moved_maxes m before i v w is max (so.maxes m keep);
    }

pub reserves_sides : (before after : List AlarmView) (listed shelved : List ℕ) → ReservesOnly before after → AreSides before listed shelved → AreSides after listed shelved
reserves_sides before after listed shelved so sides =
    record {
      listed = sides.listed ∙ sym (ap (places_of is_unmarked) so.states_same);
      shelved = sides.shelved ∙ sym (ap (places_of is_marked) so.states_same);
    }

pub room_more : (moves : List (Option OperatorEntry)) (move : Option OperatorEntry) (views : List AlarmView) (w : AlarmView) → length moves < length views → HaveRoom moves views → HasRoomFor move w → HaveRoom (moves ++ move ∷ []) (slice_set views (length moves) w)
room_more moves move [] w lt h has = absurd (omega arith)
room_more [] move (v ∷ views) w lt h has = (has, tt)
room_more (m ∷ ms) move (v ∷ views) w lt h has = (h.0, room_more ms move views w (omega arith) h.1 has)

-- ---- all alarms

-- the list with the function done to so many of its first
abbrev pub done_to : {X : Type 0} → (X → X) → ℕ → List X → List X
done_to f i [] = []
done_to f zero (x ∷ xs) = x ∷ xs
done_to f (suc i) (x ∷ xs) = f x ∷ done_to f i xs

pub done_none : {X : Type 0} (f : X → X) (xs : List X) → done_to f 0 xs ≡ xs
done_none f [] = refl
done_none f (x ∷ xs) = refl

pub done_past : {X : Type 0} (f : X → X) (i : ℕ) (xs : List X) → length xs ≤ i → done_to f i xs ≡ map f xs
done_past f i [] le = refl
done_past f zero (x ∷ xs) le = absurd (omega arith)
done_past f (suc i) (x ∷ xs) le = ap (λ ys. f x ∷ ys) (done_past f i xs (omega arith))

-- the next one stands as it did
pub done_next_same : {X : Type 0} (f : X → X) (i : ℕ) (xs : List X) (d : X) → i < length (done_to f i xs) → slice_index_or (done_to f i xs) i d ≡ slice_index_or xs i d
done_next_same f i [] d lt = refl
done_next_same f zero (x ∷ xs) d lt = refl
done_next_same f (suc i) (x ∷ xs) d lt = done_next_same f i xs d (omega arith)

pub length-done : {X : Type 0} (f : X → X) (i : ℕ) (xs : List X) → length (done_to f i xs) ≡ length xs
length-done f i [] = refl
length-done f zero (x ∷ xs) = refl
length-done f (suc i) (x ∷ xs) = ap suc (length-done f i xs)

-- a list of the same length in place of another one
whole : {X : Type 0} (xs ys : List X) → length xs ≡ length ys → take (length ys) (xs ++ drop (length xs) ys) ≡ xs
whole [] [] e = refl
whole [] (y ∷ ys) e = absurd (omega arith)
whole (x ∷ xs) [] e = absurd (omega arith)
whole (x ∷ xs) (y ∷ ys) e = ap (λ zs. x ∷ zs) (whole xs ys (omega arith))

-- at the end of a loop that does the function to each
pub done_whole : {X : Type 0} (f : X → X) (before after : List X) (i n : ℕ) → after ≡ done_to f i before → length after ≤ i → n ≡ length before → take n (after ++ drop (length after) before) ≡ map f before
done_whole f before after i n is past count =
    let same : length after ≡ length before = ap length is ∙ length-done f i before in
    ap (λ m. take m (after ++ drop (length after) before)) count ∙ whole after before same ∙ is ∙ done_past f i before (omega arith)

done_next : {X : Type 0} (f : X → X) (xs : List X) (i : ℕ) (x : X) → slice_get (done_to f i xs) i ≡ Some x → slice_set (done_to f i xs) i (f x) ≡ done_to f (suc i) xs
done_next f [] i x is = refl
done_next f (y ∷ ys) zero x is = let first : y ≡ x = cc in ap (λ z. f z ∷ ys) (sym first) ∙ ap (λ zs. f y ∷ zs) (sym (done_none f ys))
done_next f (y ∷ ys) (suc i) x is = ap (λ zs. f y ∷ zs) (done_next f ys i x is)

pub done_more : {X : Type 0} (f : X → X) (before after : List X) (i : ℕ) (x y : X) → after ≡ done_to f i before → i < length after → x ≡ slice_index_or after i x → y ≡ f (slice_index_or after i x) → slice_set after i y ≡ done_to f (i + 1) before
done_more f before after i x y is lt read makes =
    let here : slice_get (done_to f i before) i ≡ Some x = subst (λ zs. slice_get zs i ≡ Some x) is (got_at after i x lt read) in
    let next : i + 1 ≡ suc i = omega arith in
    ap (λ z. slice_set after i z) (makes ∙ ap f (sym read)) ∙ ap (λ zs. slice_set zs i (f x)) is ∙ done_next f before i x here ∙ sym (ap (λ n. done_to f n before) next)

pub max_states : (max : Option ℕ) (views : List AlarmView) → states (map (with_max max) views) ≡ map (bounded max) (states views)
max_states max [] = refl
max_states max (v ∷ views) = ap (λ ys. bounded max v.state ∷ ys) (max_states max views)

pub max_maxes : (max : Option ℕ) (views : List AlarmView) → KeepMost max (map (with_max max) views)
max_maxes max [] = tt
max_maxes max (v ∷ views) = (refl, max_maxes max views)

mapped_sides : (f : AlarmState → AlarmState) (before after : List AlarmView) (listed shelved : List ℕ) → states after ≡ map f (states before) → ((a : AlarmState) → is_marked (f a) ≡ is_marked a) → AreSides before listed shelved → AreSides after listed shelved
mapped_sides f before after listed shelved is stays sides =
    record {
      listed = sides.listed ∙ sym (ap (places_of is_unmarked) is ∙ places-map is_unmarked f (λ a. ap not (stays a)) (states before));
      shelved = sides.shelved ∙ sym (ap (places_of is_marked) is ∙ places-map is_marked f stays (states before));
    }

pub max_sides : (max : Option ℕ) (views : List AlarmView) (listed shelved : List ℕ) → AreSides views listed shelved → AreSides (map (with_max max) views) listed shelved
max_sides max views listed shelved = mapped_sides (bounded max) views (map (with_max max) views) listed shelved (max_states max views) (λ a. refl)

pub compressed_states : (side : Side) (filter : CompressFilter) (views : List AlarmView) → states (map (compressed_view side filter) views) ≡ map (compressed side filter) (states views)
compressed_states side filter [] = refl
compressed_states side filter (v ∷ views) = ap (λ ys. compressed side filter v.state ∷ ys) (compressed_states side filter views)

pub compressed_maxes : (side : Side) (filter : CompressFilter) (max : Option ℕ) (views : List AlarmView) → KeepMost max views → KeepMost max (map (compressed_view side filter) views)
compressed_maxes side filter max [] h = tt
compressed_maxes side filter max (v ∷ views) h = (h.0, compressed_maxes side filter max views h.1)

pub compressed_sides : (side : Side) (filter : CompressFilter) (views : List AlarmView) (listed shelved : List ℕ) → AreSides views listed shelved → AreSides (map (compressed_view side filter) views) listed shelved
compressed_sides side filter views listed shelved =
    mapped_sides (compressed side filter) views (map (compressed_view side filter) views) listed shelved (compressed_states side filter views)
    (λ a. either (λ b. is_marked b ≡ is_marked a) _ (bounded (Some 1) a) a (λ _. refl) (λ _. refl))

pub kept_states : (p : AlarmState → Bool) (views : List AlarmView) → states (filter (λ v. p v.state) views) ≡ filter p (states views)
kept_states p [] = refl
kept_states p (v ∷ views) = by (p v.state) (kept_states p views)
  where
    by : (b : Bool) → states (filter (λ w. p w.state) views) ≡ filter p (states views) → states (cond b (v ∷ filter (λ w. p w.state) views) (filter (λ w. p w.state) views)) ≡ cond b (v.state ∷ filter p (states views)) (filter p (states views))
    by true e = ap (λ ys. v.state ∷ ys) e
    by false e = e

pub kept_maxes : (p : AlarmState → Bool) (max : Option ℕ) (views : List AlarmView) → KeepMost max views → KeepMost max (filter (λ v. p v.state) views)
kept_maxes p max [] h = tt
kept_maxes p max (v ∷ views) h = by (p v.state) (kept_maxes p max views h.1)
  where
    by : (b : Bool) → KeepMost max (filter (λ w. p w.state) views) → KeepMost max (cond b (v ∷ filter (λ w. p w.state) views) (filter (λ w. p w.state) views))
    by true more = (h.0, more)
    by false more = more

-- ---- a new alarm

-- room for one more in the alarms and in the places of each side
pub has_room : (a l s n room : ℕ) → min a (min l s) - n ≡ room → 0 < room → (n < a) × (n < l) × (n < s)
has_room a l s n room is some = (omega arith, omega arith, omega arith)

-- what an insertion that can't fail makes
pub inserted_is : {A E X : Type 0} (r : Result A E) (x y z : X) → IsOk r → z ≡ cond (is_ok r) x y → z ≡ x
inserted_is (Ok v) x y z ok e = e
inserted_is (Err v) x y z ok e = absurd (cc)

pub inserted_states : (views : List AlarmView) (i : ℕ) (v : AlarmView) → states (insert views i v) ≡ insert (states views) i v.state
inserted_states views zero v = refl
inserted_states [] (suc i) v = refl
inserted_states (x ∷ xs) (suc i) v = ap (λ ys. x.state ∷ ys) (inserted_states xs i v)

-- The places of a side are as many as the alarms at most, and stand among them.
pub side_fits : (p : AlarmState → Bool) (views : List AlarmView) (places : List ℕ) → places ≡ places_of p (states views) → (length places ≤ length views) × AllByRecursion (λ i. i < length views) places
side_fits p views places is =
    let count : length (states views) ≡ length views = length-map (λ (w : AlarmView). w.state) views in (
      subst (λ xs. length xs ≤ length views) (sym is) (omega (arith, places_few p (states views), count)),
      subst (AllByRecursion (λ i. i < length views)) (sym is) (subst (λ n. AllByRecursion (λ i. i < n) (places_of p (states views))) count (places_within p (states views))),
    )

-- the places of a side, with that of the new alarm put in
pub put_side : (p : AlarmState → Bool) (views : List AlarmView) (place : ℕ) (v : AlarmView) (before after : List ℕ) (is_here : Bool) → place ≤ length views → before ≡ places_of p (states views) → is_here ≡ p v.state → ((first last : List ℕ) → AreParted place before first last → after ≡ first ++ (cond is_here (place ∷ []) [] ++ map suc last)) → after ≡ places_of p (states (insert views place v))
put_side p views place v before after is_here le side here put =
    let at = places-insert p (states views) place v.state (omega (arith, le, length-map (λ (w : AlarmView). w.state) views)) in
    put at.before at.after (subst (λ places. AreParted place places at.before at.after) (sym side) at.parted)
    ∙ ap (λ b. at.before ++ (cond b (place ∷ []) [] ++ map suc at.after)) here
    ∙ sym (ap (places_of p) (inserted_states views place v) ∙ at.inserted)

pub inserted_maxes : (max : Option ℕ) (views : List AlarmView) (i : ℕ) (v : AlarmView) → v.max ≡ max → KeepMost max views → KeepMost max (insert views i v)
inserted_maxes max views zero v is h = (is, h)
inserted_maxes max [] (suc i) v is h = (is, tt)
inserted_maxes max (x ∷ xs) (suc i) v is h = (h.0, inserted_maxes max xs i v is h.1)

-- ---- moves, the last one first

pub record MovesLast (moves : List (Option OperatorEntry)) (move : Option OperatorEntry) (views : List AlarmView) : Type 0 where
  pub within : length moves < length views
  pub view : AlarmView
  pub stands : slice_get views (length moves) ≡ Some view
  pub has : HasRoomFor move view

pub last_move : (moves : List (Option OperatorEntry)) (move : Option OperatorEntry) (views : List AlarmView) → HaveRoom (moves ++ move ∷ []) views → MovesLast moves move views
last_move [] move [] h = absurd h
last_move [] move (v ∷ views) h = record { within = omega arith; view = v; stands = refl; has = h.0 }
last_move (m ∷ ms) move [] h = absurd h
last_move (m ∷ ms) move (v ∷ views) h =
    let more = last_move ms move views h.1 in
    record { within = (let lt = more.within in omega arith); view = more.view; stands = more.stands; has = more.has }

pub moved_last : (moves : List (Option OperatorEntry)) (move : Option OperatorEntry) (views : List AlarmView) (v w : AlarmView) → slice_get views (length moves) ≡ Some v → w.state ≡ with_operator move v.state → after_moves moves (states (slice_set views (length moves) w)) ≡ after_moves (moves ++ move ∷ []) (states views)
moved_last [] move [] v w is e = absurd (cc)
moved_last [] move (x ∷ xs) v w is e = let first : x ≡ v = cc in ap (λ a. a ∷ states xs) (e ∙ ap (λ y. with_operator move y.state) (sym first))
moved_last (m ∷ ms) move [] v w is e = absurd (cc)
moved_last (m ∷ ms) move (x ∷ xs) v w is e = ap (λ ys. with_operator m x.state ∷ ys) (moved_last ms move xs v w is e)

pub room_before : (moves : List (Option OperatorEntry)) (move : Option OperatorEntry) (views : List AlarmView) (w : AlarmView) → HaveRoom (moves ++ move ∷ []) views → HaveRoom moves (slice_set views (length moves) w)
room_before [] move views w h = tt
room_before (m ∷ ms) move [] w h = absurd h
room_before (m ∷ ms) move (x ∷ xs) w h = (h.0, room_before ms move xs w h.1)
