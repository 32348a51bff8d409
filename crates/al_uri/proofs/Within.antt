-- What is read is within the limits of keys, shelves and starts.
use Rattle.std.proofs.Common.{◌≡◌, ℕ, ◌≤◌, ◌<◌, ◌^◌, ◌&&◌, nat_le, Bool, true, false, if◌then◌else◌, Option, None, Some, Result, Ok, Err, IfOk, IfSome, List, [], ◌∷◌, length, refl, subst, arith, unwrap_or, lit<, codes}
use Rattle.std.specs.Bool.{⊤}
use Rattle.std.specs.Char.{is_ascii_digit}
use Rattle.std.specs.List.{list_all}
use Rattle.std.specs.Str.Parse.{digits_value}
use Rattle.std.proofs.lemmas.Bool.Decides.{nat_tests}
use Rattle.al_base.proofs.FormTests.{decides_text, decides_type_name}
use Rattle.al_base.specs.Identifiers.{IsTypeName, is_type_name}
use Rattle.al_base.specs.Limits.{IsShelfName, IsText, is_text}
use Rattle.al_base.specs.Answers.{and_then, or_fault}
use Rattle.al_base.specs.Cuts.{behind, front, pieces, pieces_left}
use Rattle.al_uri.specs.Escapes.{decoded}
use Rattle.al_uri.specs.Faults.{Answers}
use Rattle.al_uri.specs.Keys.{alarm_key, entered, text_key, type_key}
use Rattle.al_uri.specs.Limits.{IsTargetWithin}
use Rattle.al_shelf.specs.Limits.{IsSpotWithin}
use Rattle.al_ids.specs.Limits.{IsKeyWithin}
use Rattle.al_uri.specs.Paths.{keys_of, place_at, resource_at, step, walk, walk_rooted}
use Rattle.al_uri.specs.Queries.{after_part, after_parts, from_value, insert_value, known_at, no_parameters, not_empty, once, parameters_of, point_value, shelf_at, spot_of, with_parameters, with_part}
use Rattle.al_uri.specs.Resources.{child, is_same, plain_name, way_of, ways}
use Rattle.al_uri.specs.Targets.{target_of}
use Rattle.al_uri.specs.TypeNames.{with_module}
use Rattle.al_uri.specs.declared.fault.UriFault.{UriFault}
use Rattle.al_uri.specs.declared.fault.UriFault.TheVariants.{BadKeys, BadQuery, NoSuchPath}
use Rattle.al_uri.specs.declared.place.Place.{Place}
use Rattle.al_uri.specs.declared.place.Place.TheVariants.{Start, WellKnown, Restconf, Data, Operations, At}
use Rattle.al_uri.specs.declared.place.Way.{Way}
use Rattle.al_uri.specs.declared.place.Way.TheVariants.{To, ToShelf, ToAlarm, ToShelved}
use Rattle.al_uri.specs.declared.query.Insert.{Insert}
use Rattle.al_uri.specs.declared.query.Insert.TheVariants as inserts
use Rattle.al_uri.specs.declared.query.Known.{Known}
use Rattle.al_uri.specs.declared.query.Known.TheVariants as knowns
use Rattle.al_uri.specs.declared.query.Parameters.{Parameters}
use Rattle.al_uri.specs.declared.target.Target.{Target}
use Rattle.al_uri.specs.declared.target.Target.TheVariants as targets

-- ---- readings one after the other

ok_then : {A B E : Type 0} (P : B → Type 0) (x : Result A E) (read : A → Result B E) → ((a : A) → x ≡ Ok a → IfOk (read a) P) → IfOk (and_then x read) P
ok_then P (Ok a) read h = h a refl
ok_then P (Err e) read h = tt

ok_if : {A E : Type 0} (P : A → Type 0) (test : Bool) (x y : Result A E) → (test ≡ true → IfOk x P) → (test ≡ false → IfOk y P) → IfOk (if test then x else y) P
ok_if P true x y h k = h refl
ok_if P false x y h k = k refl

ok_value : {A E : Type 0} (P : A → Type 0) (x : Result A E) (a : A) → IfOk x P → x ≡ Ok a → P a
ok_value P x a h e = subst (λ r. IfOk r P) e h

and_true : (a b : Bool) → a && b ≡ true → (a ≡ true) × (b ≡ true)
and_true true b h = (refl, h)
and_true false b h = cc

le_true : (m n : ℕ) → nat_le m n ≡ true → m ≤ n
le_true m n h = grind (arith, nat_tests)

-- ---- keys

text_within : (least most : ℕ) (key : List ℕ) → IfOk (text_key least most key) (IsText least most)
unfolding text_key
text_within least most key =
    ok_if (IsText least most) (is_text least most key) (Ok key) (Err BadKeys) (decides_text least most key).0 (λ _. tt)

type_within : (key : List ℕ) → IfOk (type_key key) IsTypeName
unfolding type_key
type_within key =
    ok_if IsTypeName (is_type_name (with_module key)) (Ok (with_module key)) (Err BadKeys) (decides_type_name (with_module key)).0 (λ _. tt)

key_within : (resource type_id qualifier : List ℕ) → IfOk (alarm_key resource type_id qualifier) IsKeyWithin
unfolding alarm_key
key_within resource type_id qualifier =
    ok_then IsKeyWithin (text_key 1 512 resource) _ (λ r is_r.
    ok_then IsKeyWithin (type_key type_id) _ (λ t is_t.
    ok_then IsKeyWithin (text_key 0 255 qualifier) _ (λ q is_q. record {
      resource = ok_value (IsText 1 512) _ r (text_within 1 512 resource) is_r;
      type_id = ok_value IsTypeName _ t (type_within type_id) is_t;
      qualifier = ok_value (IsText 0 255) _ q (text_within 0 255 qualifier) is_q;
    })))

-- ---- places

abbrev pub IsPlaceWithin : Place → Type 0
IsPlaceWithin (At target) = IsTargetWithin target
IsPlaceWithin other = ⊤

abbrev IsWayWithin : Way → Type 0
IsWayWithin (To place) = IsPlaceWithin place
IsWayWithin other = ⊤

abbrev AreWithin : List (List ℕ × Way) → Type 0
AreWithin [] = ⊤
AreWithin (way ∷ rest) = IsWayWithin way.1 × AreWithin rest

first_within : (first way : Way) (later : Option Way) (test : Bool) → IsWayWithin first → (later ≡ Some way → IsWayWithin way) → (if test then Some first else later) ≡ Some way → IsWayWithin way
first_within first way later true within rest h = let same : first ≡ way = cc in subst IsWayWithin same within
first_within first way later false within rest h = rest h

found_within : (name : List ℕ) (table : List (List ℕ × Way)) (way : Way) → AreWithin table → way_of name table ≡ Some way → IsWayWithin way
found_within name [] way within h = cc
found_within name (entry ∷ rest) way within h =
    first_within entry.1 way (way_of name rest) (is_same name entry.0) within.0 (found_within name rest way within.1) h

ways_within : (place : Place) → IsPlaceWithin place → AreWithin (ways place)
ways_within Start within = (tt, (tt, tt))
ways_within WellKnown within = (tt, tt)
ways_within Restconf within = (tt, (tt, tt))
ways_within Operations within = (tt, tt)
ways_within Data within = (tt, (tt, (lit< tt, (lit< tt, tt))))
ways_within (At targets.Alarms) within = (tt, (tt, (tt, (tt, (tt, tt)))))
ways_within (At targets.Control) within = (tt, (tt, (tt, (tt, tt))))
ways_within (At (targets.Shelving spot)) within = (tt, tt)
ways_within (At targets.AlarmList) within = (tt, (tt, (tt, (tt, (tt, tt)))))
ways_within (At (targets.OneAlarm key)) within = (within, tt)
ways_within (At targets.ShelvedAlarms) within = (tt, (tt, (tt, (tt, (tt, tt)))))
ways_within other within = tt

child_within : (place : Place) (name : List ℕ) (way : Way) → IsPlaceWithin place → child place name ≡ Some way → IsWayWithin way
unfolding child
child_within place name way within h = found_within (plain_name place name) (ways place) way (ways_within place within) h

entered_within : (way : Way) (keys : List (List ℕ)) → IsWayWithin way → IfOk (entered way keys) IsPlaceWithin
unfolding entered
entered_within (To place) [] within = within
entered_within ToShelf (name ∷ []) within =
    ok_then IsPlaceWithin (text_key 1 64 name) _ (λ n is_n. record { name_within = ok_value (IsText 1 64) _ n (text_within 1 64 name) is_n; spot_within = tt })
entered_within ToAlarm (resource ∷ type_id ∷ qualifier ∷ []) within =
    ok_then IsPlaceWithin (alarm_key resource type_id qualifier) _ (λ key is_key. ok_value IsKeyWithin _ key (key_within resource type_id qualifier) is_key)
entered_within ToShelved (resource ∷ type_id ∷ qualifier ∷ []) within =
    ok_then IsPlaceWithin (alarm_key resource type_id qualifier) _ (λ key is_key. ok_value IsKeyWithin _ key (key_within resource type_id qualifier) is_key)
entered_within way keys within = tt

-- ---- paths

known_way : (found : Option Way) (way : Way) → or_fault NoSuchPath found ≡ Ok way → found ≡ Some way
known_way None way h = cc
known_way (Some found) way h = cc

step_within : (place : Place) (segment : List ℕ) → IsPlaceWithin place → IfOk (step place segment) IsPlaceWithin
unfolding step
step_within place segment within =
    ok_then IsPlaceWithin (decoded (front 61 segment)) _ (λ name _.
    ok_then IsPlaceWithin (keys_of (behind 61 segment)) _ (λ keys _.
    ok_then IsPlaceWithin (or_fault NoSuchPath (child place name)) _ (λ way is_way.
    entered_within way keys (child_within place name way within (known_way (child place name) way is_way)))))

walk_within : (place : Place) (segments : List (List ℕ)) → IsPlaceWithin place → IfOk (walk place segments) IsPlaceWithin
walk_within place [] within = within
walk_within place (segment ∷ rest) within =
    ok_then IsPlaceWithin (step place segment) (λ next. walk next rest)
    (λ next is_next. walk_within next rest (ok_value IsPlaceWithin _ next (step_within place segment within) is_next))

rooted_within : (place : Place) (segments : List (List ℕ)) → IsPlaceWithin place → IfOk (walk_rooted place segments) IsPlaceWithin
rooted_within place ([] ∷ segments) within = walk_within place segments within
rooted_within place other within = tt

place_within : (from : Place) (path : List ℕ) → IsPlaceWithin from → IfOk (place_at from path) IsPlaceWithin
unfolding place_at
place_within from path within = rooted_within from (pieces 47 path) within

resource_within : (place : Place) → IsPlaceWithin place → IfOk (resource_at place) IsTargetWithin
resource_within (At target) within = within
resource_within other within = tt

-- ---- queries

record AreAsked (asked : Parameters) : Type 0 where
  point_within : IfSome asked.point IsShelfName
  from_within : IfSome asked.from (λ n. n < 2 ^ 32)

named_within : (target : Target) → IsTargetWithin target → IfOk (shelf_at (Ok (At target))) IsShelfName
named_within (targets.OneShelf name spot) within = within.name_within
named_within other within = tt

shelf_within : (said : Result Place UriFault) → IfOk said IsPlaceWithin → IfOk (shelf_at said) IsShelfName
shelf_within (Ok (At target)) within = named_within target within
shelf_within other within = tt

point_within_of : (value : List ℕ) → IfOk (point_value value) IsShelfName
unfolding point_value
point_within_of value = shelf_within (place_at Data value) (place_within Data value tt)

abbrev IsStart : ℕ → Type 0
IsStart n = n < 2 ^ 32

start_within : (value : List ℕ) → IfOk (from_value value) IsStart
unfolding from_value
start_within value =
    ok_if IsStart _ (Ok (digits_value 10 value)) (Err BadQuery)
    (λ passed.
    let last = and_true (nat_le 1 (length value) && nat_le (length value) 10 && list_all is_ascii_digit value) (nat_le (digits_value 10 value) 4294967295) passed in
    let small = le_true (digits_value 10 value) 4294967295 last.1 in
    omega arith)
    (λ _. tt)

once_within : {A : Type 0} (P : A → Type 0) (earlier : Option A) (value : Result A UriFault) → IfOk value P → IfOk (once earlier value) P
once_within P None value h = h
once_within P (Some a) value h = tt

part_within : (known : Known) (before : Parameters) (name value : List ℕ) → AreAsked before → IfOk (with_part known before name value) AreAsked
unfolding with_part
part_within knowns.Order before name value within =
    ok_if AreAsked (is_same name (codes "insert")) _ _
    (λ _. ok_then AreAsked (once before.insert (insert_value value)) _ (λ insert _. record { point_within = within.point_within; from_within = within.from_within }))
    (λ _.
    ok_if AreAsked (is_same name (codes "point")) _ _
    (λ _. ok_then AreAsked (once before.point (point_value value)) _ (λ point is_point. record {
      point_within = ok_value IsShelfName _ point (once_within IsShelfName before.point (point_value value) (point_within_of value)) is_point;
      from_within = within.from_within;
    }))
    (λ _. tt))
part_within knowns.Start before name value within =
    ok_if AreAsked (is_same name (codes "from")) _ _
    (λ _. ok_then AreAsked (once before.from (from_value value)) _ (λ from is_from. record {
      point_within = within.point_within;
      from_within = ok_value IsStart _ from (once_within IsStart before.from (from_value value) (start_within value)) is_from;
    }))
    (λ _. tt)
part_within knowns.Nothing before name value within = tt

after_within : (known : Known) (before : Parameters) (part : List ℕ) → AreAsked before → IfOk (after_part known before part) AreAsked
unfolding after_part
after_within known before part within =
    ok_then AreAsked (decoded (front 61 part)) _ (λ name _.
    ok_then AreAsked (decoded (unwrap_or (behind 61 part) [])) _ (λ value _.
    part_within known before name value within))

parts_within : (known : Known) (before : Parameters) (parts : List (List ℕ)) → AreAsked before → IfOk (after_parts known before parts) AreAsked
parts_within known before [] within = within
parts_within known before (part ∷ rest) within =
    ok_then AreAsked (after_part known before part) (λ after. after_parts known after rest)
    (λ after is_after. parts_within known after rest (ok_value AreAsked _ after (after_within known before part within) is_after))

parameters_within : (known : Known) (query : Option (List ℕ)) → IfOk (parameters_of known query) AreAsked
unfolding parameters_of
parameters_within known query = parts_within known no_parameters (pieces_left 38 (not_empty query)) (record { point_within = tt; from_within = tt })

spot_within_of : (insert : Option Insert) (point : Option (List ℕ)) → IfSome point IsShelfName → IfOk (spot_of insert point) IsSpotWithin
unfolding spot_of
spot_within_of None None within = tt
spot_within_of (Some inserts.First) None within = tt
spot_within_of (Some inserts.Last) None within = tt
spot_within_of (Some inserts.Before) (Some point) within = within
spot_within_of (Some inserts.After) (Some point) within = within
spot_within_of insert point within = tt

start_or : (asked : Option ℕ) (start : ℕ) → IfSome asked IsStart → IsStart start → IsStart (unwrap_or asked start)
start_or None start h k = k
start_or (Some from) start h k = h

asked_within : (target : Target) (asked : Parameters) → IsTargetWithin target → AreAsked asked → IfOk (with_parameters target asked) IsTargetWithin
unfolding with_parameters
asked_within (targets.Shelving spot) asked within h =
    ok_then IsTargetWithin (spot_of asked.insert asked.point) _
    (λ s is_s. ok_value IsSpotWithin _ s (spot_within_of asked.insert asked.point h.point_within) is_s)
asked_within (targets.OneShelf name spot) asked within h =
    ok_then IsTargetWithin (spot_of asked.insert asked.point) _
    (λ s is_s. record {
      name_within = within.name_within;
      spot_within = ok_value IsSpotWithin _ s (spot_within_of asked.insert asked.point h.point_within) is_s;
    })
asked_within (targets.NotificationLog start) asked within h = start_or asked.from start h.from_within within
asked_within (targets.JournalPage start) asked within h = start_or asked.from start h.from_within within
asked_within other asked within h = within

-- ---- targets

target_within : (path : List ℕ) (query : Option (List ℕ)) → IfOk (target_of path query) IsTargetWithin
unfolding target_of
target_within path query =
    ok_then IsTargetWithin (place_at Start path) _ (λ place is_place.
    ok_then IsTargetWithin (resource_at place) _ (λ resource is_resource.
    ok_then IsTargetWithin (parameters_of (known_at resource) query) _ (λ asked is_asked.
    asked_within resource asked
    (ok_value IsTargetWithin _ resource (resource_within place (ok_value IsPlaceWithin _ place (place_within Start path tt) is_place)) is_resource)
    (ok_value AreAsked _ asked (parameters_within (known_at resource) query) is_asked))))

answered : (said answer : Result Target UriFault) → IfOk said IsTargetWithin → Answers said answer → IfOk answer IsTargetWithin
answered said (Ok target) within h = ok_value IsTargetWithin said target within h
answered said (Err e) within h = tt

pub answer_within : (path : List ℕ) (query : Option (List ℕ)) (answer : Result Target UriFault) → Answers (target_of path query) answer → IfOk answer IsTargetWithin
answer_within path query answer h = answered (target_of path query) answer (target_within path query) h
