-- Where a text stops being an XPath: where it stops being a path or being UTF-8, whichever comes first.
use Rattle.std.proofs.Common.{◌≡◌, ◌⊎◌, inl, inr, ℕ, zero, suc, ◌+◌, ◌<◌, ◌≤◌, Bool, true, false, not, ◌&&◌, Option, Some, None, List, [], ◌∷◌, ◌++◌, length, get_or, take, drop, min, refl, sym, ap, subst, ◌∙◌, arith, append_assoc, length-append}
use Rattle.std.specs.Prelude.{nat_le, IsUtf8}
use Rattle.std.specs.List.{list_all}
use Rattle.std.specs.Option.{option_map_or}
use Rattle.std.specs.Str.{IsCharBoundary}
use Rattle.std.proofs.lemmas.Bool.{cases_Bool, false≢true}
use Rattle.std.proofs.lemmas.Bool.Decides.{nat_tests}
use Rattle.std.proofs.lemmas.List.{take_at, get_or_at, get_or_append_left, take-append-drop, take-take}
use Rattle.std.proofs.lemmas.Str.{IsUtf8-append, IsUtf8-from_ascii, IsUtf8-take, IsCharBoundary-start, IsCharBoundary-after_ascii}
use Rattle.al_ids.specs.Matches.{IsXPath, BeginsXPath, IsXPathStop}
use Rattle.al_ids.specs.PathReading.{leads_to_end, stop_from}
use Rattle.al_ids.specs.StepReading.{front_of, behind_front}
use Rattle.al_ids.specs.TextStops.{BeginsText, IsTextStop}
use Rattle.al_ids.specs.declared.path.State.{State}
use Rattle.al_ids.specs.declared.path.State.TheVariants.{Start, Begin, Root, Module, Slash, Open, Word, Colon, Name, Dot, Equals, Value, Quoted, Closed}
use Rattle.al_ids.proofs.Fronts.{joined, stops, front_passes, behind_stops}
use Rattle.al_ids.proofs.PathStops.{run, leads_behind, Ends, stopped, not_stopped, IsQuoted, run_quoted, end_of, end_leads, end_ascii, goes_on, value_on, InValue, ends_high, ends_in_value}
use Rattle.al_ids.proofs.PathsRead.{leads_path_text, path_text_leads}

and_left : (a b : Bool) → (a && b) ≡ true → a ≡ true
and_left true b h = refl
and_left false b h = h

-- ---- characters that are cut

last_low : (front : List ℕ) (i : ℕ) → ends_high front ≡ false → i + 1 ≡ length front → get_or front i 0 < 128
last_low [] i low at = absurd (omega arith)
last_low (byte ∷ []) zero low at = grind (arith, nat_tests)
last_low (byte ∷ []) (suc i) low at = absurd (omega arith)
last_low (byte ∷ next ∷ rest) zero low at = absurd (omega arith)
last_low (byte ∷ next ∷ rest) (suc i) low at = last_low (next ∷ rest) i low (omega arith)

on_range : (byte : ℕ) → goes_on byte ≡ true → (128 ≤ byte) × (byte < 192)
on_range byte h = (grind (arith, nat_tests), grind (arith, nat_tests))

-- no character goes on behind ASCII
no_inner : (front : List ℕ) (byte : ℕ) (more : List ℕ) → ends_high front ≡ false → goes_on byte ≡ true → ¬ (IsUtf8 (front ++ (byte ∷ more)))
no_inner [] byte more low on utf8 =
    let range = on_range byte on in
    let at : IsCharBoundary (byte ∷ more) 0 = IsCharBoundary-start (byte ∷ more) utf8 in
    let high : 192 ≤ byte = at.1 (omega arith) range.0 in
    absurd (omega arith)
no_inner (first ∷ front) byte more low on utf8 =
    let range = on_range byte on in
    let text : List ℕ = (first ∷ front) ++ (byte ∷ more) in
    let i : ℕ = length front in
    let long = length-append (first ∷ front) (byte ∷ more) in
    let last : get_or (first ∷ front) i 0 < 128 = last_low (first ∷ front) i low (omega arith) in
    let there : get_or text i 0 ≡ get_or (first ∷ front) i 0 = get_or_append_left (first ∷ front) (byte ∷ more) 0 i (omega arith) in
    let at : IsCharBoundary text (i + 1) = IsCharBoundary-after_ascii text i utf8 (omega arith) (rw there last) in
    let next : get_or text (i + 1) 0 ≡ byte = get_or_at (first ∷ front) byte more 0 (i + 1) (omega arith) in
    let high : 128 ≤ get_or text (i + 1) 0 → 192 ≤ get_or text (i + 1) 0 = at.1 (omega arith) in
    absurd (omega arith)

stop_high : (byte : ℕ) → not (goes_on byte) ≡ true → 128 ≤ byte → 192 ≤ byte
stop_high byte h high = grind (arith, nat_tests)

cut_boundary : (front behind : List ℕ) → stops goes_on behind ≡ true → IsCharBoundary (front ++ behind) (length front)
cut_boundary front [] stop = let long = length-append front [] in (omega arith, λ less. absurd (omega arith))
cut_boundary front (byte ∷ behind) stop =
    let long = length-append front (byte ∷ behind) in
    let at : get_or (front ++ (byte ∷ behind)) (length front) 0 ≡ byte = get_or_at front byte behind 0 (length front) refl in
    (omega arith, λ less. rw at (stop_high byte stop))

-- a text may be cut where no character goes on
cut_utf8 : (front behind : List ℕ) → IsUtf8 (front ++ behind) → stops goes_on behind ≡ true → IsUtf8 front
cut_utf8 front behind utf8 stop =
    subst IsUtf8 (take_at front behind (length front) refl) (IsUtf8-take (front ++ behind) (length front) utf8 (cut_boundary front behind stop))

-- ---- fronts of paths

-- some path begins so
pub record BeginsPath (front : List ℕ) : Type 0 where
  pub rest : List ℕ
  pub leads : leads_to_end (front ++ rest) Begin ≡ true

record Reached (front : List ℕ) : Type 0 where
  state : State
  is : run front Begin ≡ Some state

reached_state : (found : Option State) (rest : List ℕ) → option_map_or (leads_to_end rest) found false ≡ true → (state : State) × (found ≡ Some state)
reached_state None rest h = absurd (false≢true h)
reached_state (Some state) rest h = (state, refl)

reached : (front : List ℕ) → BeginsPath front → Reached front
reached front begins =
    let r = reached_state (run front Begin) begins.rest (sym (leads_behind front begins.rest Begin) ∙ begins.leads) in
    record { state = r.0; is = r.1 }

value_leads : (state : State) (cont : List ℕ) → InValue state → IsQuoted state → list_all goes_on cont ≡ true → leads_to_end (cont ++ end_of state) state ≡ true
value_leads (Value quote) cont is quoted all = value_on quote cont (end_of (Value quote)) quoted all ∙ end_leads (Value quote)
value_leads Start cont is quoted all = absurd is
value_leads Begin cont is quoted all = absurd is
value_leads Root cont is quoted all = absurd is
value_leads Module cont is quoted all = absurd is
value_leads Slash cont is quoted all = absurd is
value_leads Open cont is quoted all = absurd is
value_leads (Word p) cont is quoted all = absurd is
value_leads (Colon p) cont is quoted all = absurd is
value_leads (Name p) cont is quoted all = absurd is
value_leads Dot cont is quoted all = absurd is
value_leads Equals cont is quoted all = absurd is
value_leads Quoted cont is quoted all = absurd is
value_leads Closed cont is quoted all = absurd is

first_on : (byte : ℕ) (cont : List ℕ) → list_all goes_on (byte ∷ cont) ≡ true → goes_on byte ≡ true
first_on byte cont all = and_left (goes_on byte) (list_all goes_on cont) all

-- the rest of a character that was cut, and an end
cont_leads : (front cont : List ℕ) (state : State) → run front Begin ≡ Some state → IsQuoted state → list_all goes_on cont ≡ true → IsUtf8 (front ++ cont) → leads_to_end (cont ++ end_of state) state ≡ true
cont_leads front [] state is quoted all utf8 = end_leads state
cont_leads front (byte ∷ cont) state is quoted all utf8 = elim (cases_Bool (ends_high front)) [
  | inl high ↦ value_leads state (byte ∷ cont) (ends_in_value front Begin state is tt high) quoted all
  | inr low ↦ absurd (no_inner front byte cont low (first_on byte cont all) utf8)
]

-- What begins both a path and a text begins an XPath.
pub begins_xpath : (front : List ℕ) → BeginsPath front → BeginsText front → BeginsXPath front
begins_xpath front path text =
    let r = reached front path in
    let quoted : IsQuoted r.state = run_quoted front Begin r.state r.is tt in
    let cont : List ℕ = front_of goes_on text.rest in
    let behind : List ℕ = behind_front goes_on text.rest in
    let whole : front ++ text.rest ≡ (front ++ cont) ++ behind = ap (λ l. front ++ l) (sym (joined goes_on text.rest)) ∙ sym (append_assoc front cont behind) in
    let utf8 : IsUtf8 (front ++ cont) = cut_utf8 (front ++ cont) behind (subst IsUtf8 whole text.utf8) (behind_stops goes_on text.rest) in
    let end : List ℕ = end_of r.state in
    let ends : leads_to_end (cont ++ end) r.state ≡ true = cont_leads front cont r.state r.is quoted (front_passes goes_on text.rest) utf8 in
    let Lead : Option State → Type 0 = λ found. option_map_or (leads_to_end (cont ++ end)) found false ≡ true in
    let leads : leads_to_end (front ++ (cont ++ end)) Begin ≡ true = leads_behind front (cont ++ end) Begin ∙ subst Lead (sym r.is) ends in
    let path' = leads_path_text (front ++ (cont ++ end)) leads in
    let utf8' : IsUtf8 (front ++ (cont ++ end)) = subst IsUtf8 (append_assoc front cont end) (IsUtf8-append (front ++ cont) end utf8 (IsUtf8-from_ascii end (end_ascii r.state quoted))) in
    record { rest = cont ++ end; xpath = record { steps = path'.steps; each = path'.each; some = path'.some; spelling = path'.spelling; utf8 = utf8' } }

xpath_leads : (text : List ℕ) → IsXPath text → leads_to_end text Begin ≡ true
xpath_leads text xpath = path_text_leads text (record { steps = xpath.steps; each = xpath.each; some = xpath.some; spelling = xpath.spelling })

xpath_path : (front : List ℕ) → BeginsXPath front → BeginsPath front
xpath_path front begins = record { rest = begins.rest; leads = xpath_leads (front ++ begins.rest) begins.xpath }

xpath_text : (front : List ℕ) → BeginsXPath front → BeginsText front
xpath_text front begins = record { rest = begins.rest; utf8 = begins.xpath.utf8 }

-- ---- shorter fronts

pub longer : (text : List ℕ) (n m : ℕ) → n ≤ m → take m text ≡ take n text ++ drop n (take m text)
longer text n m le = sym (take-append-drop n (take m text)) ∙ ap (λ l. l ++ drop n (take m text)) (take-take n m text le)

shorter_path : (text : List ℕ) (n m : ℕ) → n ≤ m → BeginsPath (take m text) → BeginsPath (take n text)
shorter_path text n m le begins =
    let whole : take m text ++ begins.rest ≡ take n text ++ (drop n (take m text) ++ begins.rest) = ap (λ l. l ++ begins.rest) (longer text n m le) ∙ append_assoc (take n text) (drop n (take m text)) begins.rest in
    record { rest = drop n (take m text) ++ begins.rest; leads = ap (λ l. leads_to_end l Begin) (sym whole) ∙ begins.leads }

shorter_text : (text : List ℕ) (n m : ℕ) → n ≤ m → BeginsText (take m text) → BeginsText (take n text)
shorter_text text n m le begins =
    let whole : take m text ++ begins.rest ≡ take n text ++ (drop n (take m text) ++ begins.rest) = ap (λ l. l ++ begins.rest) (longer text n m le) ∙ append_assoc (take n text) (drop n (take m text)) begins.rest in
    record { rest = drop n (take m text) ++ begins.rest; utf8 = subst IsUtf8 whole begins.utf8 }

front_of_path : (text : List ℕ) (n : ℕ) → leads_to_end text Begin ≡ true → BeginsPath (take n text)
front_of_path text n leads = record { rest = drop n text; leads = ap (λ l. leads_to_end l Begin) (take-append-drop n text) ∙ leads }

front_of_text : (text : List ℕ) (n : ℕ) → IsUtf8 text → BeginsText (take n text)
front_of_text text n utf8 = record { rest = drop n text; utf8 = subst IsUtf8 (sym (take-append-drop n text)) utf8 }

-- ---- the stop of a path

pub record IsPathStop (text : List ℕ) (place : ℕ) : Type 0 where
  pub within : place ≤ length text
  pub before : BeginsPath (take place text)
  pub here : place < length text → ¬ (BeginsPath (take (place + 1) text))
  pub whole : ¬ (leads_to_end text Begin ≡ true)

front_leads : (front : List ℕ) (state : State) → run front Begin ≡ Some state → BeginsPath front
front_leads front state is =
    let Lead : Option State → Type 0 = λ found. option_map_or (leads_to_end (end_of state)) found false ≡ true in
    record { rest = end_of state; leads = leads_behind front (end_of state) Begin ∙ subst Lead (sym is) (end_leads state) }

ended : (rest : List ℕ) (state : State) → Ends rest state → leads_to_end rest state ≡ false
ended [] state ends = ends
ended (byte ∷ rest) state ends = rw ends refl

-- no path goes on with what ends it
no_longer : (front rest : List ℕ) (state : State) → run front Begin ≡ Some state → Ends rest state → ¬ (leads_to_end (front ++ rest) Begin ≡ true)
no_longer front rest state is ends leads =
    let Lead : Option State → Type 0 = λ found. option_map_or (leads_to_end rest) found false ≡ true in
    let there : leads_to_end rest state ≡ true = subst Lead is (sym (leads_behind front rest Begin) ∙ leads) in
    false≢true (sym (ended rest state ends) ∙ there)

take_one : (front : List ℕ) (byte : ℕ) (rest : List ℕ) → take (length front + 1) (front ++ (byte ∷ rest)) ≡ front ++ (byte ∷ [])
take_one front byte rest = ap (take (length front + 1)) (sym (append_assoc front (byte ∷ []) rest)) ∙ take_at (front ++ (byte ∷ [])) rest (length front + 1) (length-append front (byte ∷ []))

no_byte : (front rest : List ℕ) (state : State) → run front Begin ≡ Some state → Ends rest state → length front < length (front ++ rest) → ¬ (BeginsPath (take (length front + 1) (front ++ rest)))
no_byte front [] state is ends less begins = absurd (let long = length-append front [] in omega arith)
no_byte front (byte ∷ rest) state is ends less begins =
    let one : take (length front + 1) (front ++ (byte ∷ rest)) ≡ front ++ (byte ∷ []) = take_one front byte rest in
    let leads : leads_to_end (front ++ (byte ∷ begins.rest)) Begin ≡ true = ap (λ l. leads_to_end l Begin) (sym (ap (λ l. l ++ begins.rest) one ∙ append_assoc front (byte ∷ []) begins.rest)) ∙ begins.leads in
    no_longer front (byte ∷ begins.rest) state is ends leads

stop_spelled : (front rest : List ℕ) (state : State) → run front Begin ≡ Some state → Ends rest state → IsPathStop (front ++ rest) (length front)
stop_spelled front rest state is ends = record {
  within = let long = length-append front rest in omega arith;
  before = subst BeginsPath (sym (take_at front rest (length front) refl)) (front_leads front state is);
  here = no_byte front rest state is ends;
  whole = no_longer front rest state is ends;
}

pub path_stop_is : (text : List ℕ) (place : ℕ) → Some place ≡ stop_from 0 text Begin → IsPathStop text place
path_stop_is text place e =
    let s = stopped text Begin 0 place e in
    let at : length s.front ≡ place = omega (arith, s.at) in
    let Stop : List ℕ → Type 0 = λ t. IsPathStop t place in
    let At : ℕ → Type 0 = λ n. IsPathStop (s.front ++ s.rest) n in
    subst Stop (sym s.spelled) (subst At at (stop_spelled s.front s.rest s.state s.reached s.ends))

-- ---- both

first_of_two : (a b : ℕ) → (min a b ≡ a) ⊎ (min a b ≡ b)
first_of_two a b = elim (cases_Bool (nat_le a b)) [
  | inl le ↦ inl (let h : a ≤ b = grind (arith, nat_tests) in omega arith)
  | inr gt ↦ inr (let h : b ≤ a = grind (arith, nat_tests) in omega arith)
]

pub both_stop : (text : List ℕ) (path bytes : ℕ) → Some path ≡ stop_from 0 text Begin → IsTextStop text bytes → IsXPathStop text (min path bytes)
both_stop text path bytes e stop =
    let p = path_stop_is text path e in
    record {
      within = omega (arith, p.within);
      before = begins_xpath (take (min path bytes) text) (shorter_path text (min path bytes) path (omega arith) p.before) (shorter_text text (min path bytes) bytes (omega arith) stop.before);
      here = λ less begins. elim (first_of_two path bytes) [
        | inl is ↦ p.here (omega arith) (subst BeginsPath (ap (λ n. take (n + 1) text) is) (xpath_path (take (min path bytes + 1) text) begins))
        | inr is ↦ stop.here (omega arith) (subst BeginsText (ap (λ n. take (n + 1) text) is) (xpath_text (take (min path bytes + 1) text) begins))
      ];
      whole = λ xpath. stop.whole xpath.utf8;
    }

pub path_stop_alone : (text : List ℕ) (path : ℕ) → Some path ≡ stop_from 0 text Begin → IsUtf8 text → IsXPathStop text path
path_stop_alone text path e utf8 =
    let p = path_stop_is text path e in
    record {
      within = p.within;
      before = begins_xpath (take path text) p.before (front_of_text text path utf8);
      here = λ less begins. p.here less (xpath_path (take (path + 1) text) begins);
      whole = λ xpath. p.whole (xpath_leads text xpath);
    }

pub text_stop_alone : (text : List ℕ) (bytes : ℕ) → None ≡ stop_from 0 text Begin → IsTextStop text bytes → IsXPathStop text bytes
text_stop_alone text bytes e stop =
    record {
      within = stop.within;
      before = begins_xpath (take bytes text) (front_of_path text bytes (not_stopped text Begin 0 e)) stop.before;
      here = λ less begins. stop.here less (xpath_text (take (bytes + 1) text) begins);
      whole = λ xpath. stop.whole xpath.utf8;
    }

pub no_stop : (text : List ℕ) → None ≡ stop_from 0 text Begin → IsUtf8 text → IsXPath text
no_stop text e utf8 =
    let path = leads_path_text text (not_stopped text Begin 0 e) in
    record { steps = path.steps; each = path.each; some = path.some; spelling = path.spelling; utf8 = utf8 }
