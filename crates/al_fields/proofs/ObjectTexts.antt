-- Where the names of fields rise, an object's text is that of its fields one after the other.
use Rattle.std.proofs.Common.{◌≡◌, ℕ, Bool, true, false, ◌&&◌, ◌||◌, List, [], ◌∷◌, ◌++◌, Option, None, Some, map, refl, ap, ◌∙◌, append_assoc, append-nil, rules}
use Rattle.std.specs.Prelude.{is_some}
use Rattle.std.specs.Ordering.{nat_cmp, is_gt, match_ordering}
use Rattle.std.specs.declared.cmp.Ordering.{Ordering}
use Rattle.std.specs.declared.cmp.Ordering.TheVariants.{Less, Equal, Greater}
use Rattle.std.specs.Cmp.Lexicographic.{slice_cmp}
use Rattle.json.specs.Print.{quoted}
use Rattle.serde_json.specs.Data.{Data, Members, no_members, member, put}
use Rattle.serde_json.specs.Written.{comma_if, compact_text, members_text}
use Rattle.al_fields.specs.Members.{AreRising, is_after, members_with, object_of, rise_after, with_member}
use Rattle.al_fields.specs.Texts.{braced, member_text, run_text, some_text}

-- the members with one more behind them
abbrev behind : List ℕ → Data → Members → Members
behind k d no_members = member k d no_members
behind k d (member l e ms) = member l e (behind k d ms)

-- whether the name is after those of the members
abbrev follows : List ℕ → Members → Bool
follows name no_members = true
follows name (member l e ms) = is_gt (slice_cmp nat_cmp name l) && follows name ms

-- the members' text without the closing brace
abbrev open_text : Bool → Members → List ℕ
open_text later no_members = []
open_text later (member k d ms) = comma_if later ++ (quoted k ++ 58 ∷ (compact_text d ++ open_text true ms))

-- whether something stands before what follows the members
abbrev later_after : Bool → Members → Bool
later_after later no_members = later
later_after later (member k d ms) = true

and_first : (a b : Bool) → (a && b) ≡ true → a ≡ true
and_first true b h = refl
and_first false b h = h

and_second : (a b : Bool) → (a && b) ≡ true → b ≡ true
and_second true b h = h
and_second false b h = absurd (cc)

and_both : (a b : Bool) → a ≡ true → b ≡ true → (a && b) ≡ true
and_both true b h g = g
and_both false b h g = h

chosen : (o : Ordering) (x y z : Members) → is_gt o ≡ true → match_ordering o x y z ≡ z
chosen Less x y z h = absurd (cc)
chosen Equal x y z h = absurd (cc)
chosen Greater x y z h = refl

put_behind : (k : List ℕ) (d : Data) (ms : Members) → follows k ms ≡ true → put k d ms ≡ behind k d ms
put_behind k d no_members h = refl
put_behind k d (member l e ms) h =
    chosen (slice_cmp nat_cmp k l) (member k d (member l e ms)) (member l d ms) (member l e (put k d ms)) (and_first (is_gt (slice_cmp nat_cmp k l)) (follows k ms) h)
    ∙ ap (member l e) (put_behind k d ms (and_second (is_gt (slice_cmp nat_cmp k l)) (follows k ms) h))

follows_behind : (name k : List ℕ) (d : Data) (ms : Members) → is_gt (slice_cmp nat_cmp name k) ≡ true → follows name ms ≡ true → follows name (behind k d ms) ≡ true
follows_behind name k d no_members g h = and_both (is_gt (slice_cmp nat_cmp name k)) true g refl
follows_behind name k d (member l e ms) g h =
    and_both (is_gt (slice_cmp nat_cmp name l)) (follows name (behind k d ms)) (and_first (is_gt (slice_cmp nat_cmp name l)) (follows name ms) h)
    (follows_behind name k d ms g (and_second (is_gt (slice_cmp nat_cmp name l)) (follows name ms) h))

regroup : (a b c d z : List ℕ) (x : ℕ) → a ++ (b ++ x ∷ (c ++ (d ++ z))) ≡ (a ++ (b ++ x ∷ (c ++ d))) ++ z
regroup a b c d z x = simp append_assoc

text_open : (later : Bool) (ms : Members) → members_text later ms ≡ open_text later ms ++ 125 ∷ []
text_open later no_members = refl
text_open later (member k d ms) =
    ap (λ t. comma_if later ++ (quoted k ++ 58 ∷ (compact_text d ++ t))) (text_open true ms)
    ∙ regroup (comma_if later) (quoted k) (compact_text d) (open_text true ms) (125 ∷ []) 58

later_true : (ms : Members) → later_after true ms ≡ true
later_true no_members = refl
later_true (member k d ms) = refl

open_behind : (later : Bool) (k : List ℕ) (d : Data) (ms : Members) → open_text later (behind k d ms) ≡ open_text later ms ++ member_text (later_after later ms) k (compact_text d)
unfolding member_text
open_behind later k d no_members = ap (λ t. comma_if later ++ (quoted k ++ 58 ∷ t)) (append-nil (compact_text d))
open_behind later k d (member l e ms) =
    ap (λ t. comma_if later ++ (quoted l ++ 58 ∷ (compact_text e ++ t))) (open_behind true k d ms ∙ ap (λ b. open_text true ms ++ member_text b k (compact_text d)) (later_true ms))
    ∙ regroup (comma_if later) (quoted l) (compact_text e) (open_text true ms) (member_text true k (compact_text d)) 58

later_behind : (later : Bool) (k : List ℕ) (d : Data) (ms : Members) → later_after later (behind k d ms) ≡ true
later_behind later k d no_members = refl
later_behind later k d (member l e ms) = refl

run_from : (fields : List (List ℕ × Option Data)) (names : List (List ℕ)) (ms : Members) → ((name : List ℕ) → is_after name names ≡ true → follows name ms ≡ true) → rise_after names (map (λ field. field.0) fields) ≡ true → members_text false (members_with ms fields) ≡ open_text false ms ++ (run_text (later_after false ms) fields ++ 125 ∷ [])
run_from [] names ms after rises = text_open false ms
run_from (field ∷ rest) names ms after rises =
    step field.0 field.1
    (λ (k : List ℕ) (ns : Members) (next : (name : List ℕ) → is_after name (k ∷ names) ≡ true → follows name ns ≡ true) (r : rise_after (k ∷ names) (map (λ field. field.0) rest) ≡ true). run_from rest (k ∷ names) ns next r)
    rises
  where
    step : (k : List ℕ) (said : Option Data)
        → ((k : List ℕ) (ns : Members) → ((name : List ℕ) → is_after name (k ∷ names) ≡ true → follows name ns ≡ true) → rise_after (k ∷ names) (map (λ field. field.0) rest) ≡ true → members_text false (members_with ns rest) ≡ open_text false ns ++ (run_text (later_after false ns) rest ++ 125 ∷ []))
        → (is_after k names && rise_after (k ∷ names) (map (λ field. field.0) rest)) ≡ true
        → members_text false (members_with (with_member k said ms) rest) ≡ open_text false ms ++ ((some_text (later_after false ms) k said ++ run_text (is_some said || later_after false ms) rest) ++ 125 ∷ [])
    step k None ih h =
        ih k ms (λ (name : List ℕ) (g : is_after name (k ∷ names) ≡ true). after name (and_second (is_gt (slice_cmp nat_cmp name k)) (is_after name names) g))
        (and_second (is_after k names) (rise_after (k ∷ names) (map (λ field. field.0) rest)) h)
    step k (Some d) ih h =
        rw (
          put_behind k d ms (after k (and_first (is_after k names) (rise_after (k ∷ names) (map (λ field. field.0) rest)) h)),
          ih k (behind k d ms)
              (λ (name : List ℕ) (g : is_after name (k ∷ names) ≡ true). follows_behind name k d ms (and_first (is_gt (slice_cmp nat_cmp name k)) (is_after name names) g) (after name (and_second (is_gt (slice_cmp nat_cmp name k)) (is_after name names) g)))
              (and_second (is_after k names) (rise_after (k ∷ names) (map (λ field. field.0) rest)) h),
          open_behind false k d ms,
          later_behind false k d ms,
        )
        (simp append_assoc)

-- the text of an object whose fields' names rise
pub object_text : (fields : List (List ℕ × Option Data)) → AreRising fields → compact_text (object_of fields) ≡ braced fields
object_text fields rising = ap (λ t. 123 ∷ t) (run_from fields [] no_members (λ (name : List ℕ) (g : true ≡ true). refl) (search rules))
