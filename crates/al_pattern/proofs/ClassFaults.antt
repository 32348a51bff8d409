-- Where reading the items of a class fails, the fault stands where the grammar says.
use Rattle.std.proofs.Common.{◌≡◌, ℕ, Bool, true, false, not, cond, ◌&&◌, ◌||◌, ◌==◌, inl, nat_lt, nat_le, List, [], ◌∷◌, ◌++◌, Some, None, refl, ap, sym, ◌∙◌, subst, append_assoc, arith}
use Rattle.std.proofs.lemmas.List.{append-nil}
use Rattle.std.proofs.lemmas.Bool.Decides.{nat_tests}
use Rattle.al_pattern.specs.declared.letter.Letter.{Letter}
use Rattle.al_pattern.specs.declared.letter.Letter.TheVariants.{Plain, Escaped}
use Rattle.al_pattern.specs.declared.letter.Item.{Item}
use Rattle.al_pattern.specs.declared.letter.Item.TheVariants.{One, Range, Digit, Space}
use Rattle.al_pattern.specs.declared.fault.FaultKind.TheVariants.{Syntax}
use Rattle.al_pattern.specs.Bytes.{is_printable, is_plain, is_escape, is_left_out, begins_with}
use Rattle.al_pattern.specs.Faults.{fault_at, ◌>>=◌}
use Rattle.al_pattern.specs.Letters.{value_of, escape_at}
use Rattle.al_pattern.specs.Classes.{begins_left_out, is_unsupported_in_class, class_stop_at, only_letter, last_at, range_of, range_at, item_behind, item_at}
use Rattle.al_pattern.specs.Tests.{letter_spelling, item_spelling, items_spelling, is_class_letter, is_hyphen, are_items_after, begins_negated}
use Rattle.al_pattern.specs.Trees.{Choice}
use Rattle.al_pattern.specs.Places.{are_item_forms, IsForm, IsRising, IsWithin, Begins}
use Rattle.al_pattern.proofs.CutLemmas.{and_true, true_and, or_left, or_right}
use Rattle.al_pattern.proofs.TestLemmas.{differs, lt_from, eq_from, not_true}
use Rattle.al_pattern.proofs.FoundLemmas.{last_found}
use Rattle.al_pattern.proofs.Scan.{Mode, fresh, behind_atom, behind_slash, opened, first_item, next_item, last_hyphen, item_slash, behind_letter, range_hyphen, range_slash, Limits, at, item_begin, class_step, inside, step, run}
use Rattle.al_pattern.proofs.ScanLemmas.{Runs, Before, in_class}
use Rattle.al_pattern.proofs.ScanTrees.{item_slash_runs, letter_runs, range_hyphen_runs, range_slash_runs, range_last}
use Rattle.al_pattern.proofs.CloseLemmas.{forms_from, begins_shorter}
use Rattle.al_pattern.proofs.StopLemmas.{Fails, if_fails, bind_fails, Located, located, limits, Reached, reached_more, Fine, no_form, no_rising, sound_rising, sound_begun, snoc_same, none_left_out}
use Rattle.al_pattern.proofs.FaultLemmas.{left_out_plain, Clear, departure_at, falling_at, form_of}
use Rattle.al_pattern.proofs.ClassStops.{in_class_kept, slash_clear, before_mode, hyphen_mode, letter_mode, last_mode, item_slash_mode, range_slash_mode, class_stopped, escape_fails, EscapeIs, escape_is}

-- ---- what stands before an item

-- a class that isn't negated may not be given a caret to begin with
abbrev pub NoCaret : Mode → List Item → Type 0
NoCaret opened more = begins_negated more ≡ false
NoCaret m more = Unit {0}

-- the scan stands where an item may begin, and any further items go on to a pattern; a hyphen before a bracket was escaped
pub record ClassFront (front : List ℕ) (is_first : Bool) (m : Mode) (d n : ℕ) (text : List ℕ) : Type 0 where
  pub reached : Reached front m d n
  pub before : Before is_first m text
  pub within : (more : List Item) → are_item_forms is_first more ≡ true → NoCaret m more → Begins IsWithin (front ++ items_spelling more)
  pub rising : (more : List Item) → are_items_after is_first more ≡ true → NoCaret m more → Begins IsRising (front ++ items_spelling more)
  pub bracket : (before : List ℕ) → front ≡ before ++ 45 ∷ [] → begins_with 91 text ≡ true → Begins IsForm (before ++ 91 ∷ [])

pub no_caret : (m : Mode) (more : List Item) → begins_negated more ≡ false → NoCaret m more
no_caret opened more e = e
no_caret first_item more e = tt
no_caret next_item more e = tt
no_caret last_hyphen more e = tt
no_caret item_slash more e = tt
no_caret fresh more e = tt
no_caret behind_atom more e = tt
no_caret behind_slash more e = tt
no_caret (behind_letter v) more e = tt
no_caret (range_hyphen v) more e = tt
no_caret (range_slash v) more e = tt

item_caret : (item : Item) (rest : List ℕ) (more : List Item) → begins_with 94 (item_spelling item ++ rest) ≡ false → begins_negated (item ∷ more) ≡ false
item_caret (One (Plain b)) rest more e = e
item_caret (One (Escaped b)) rest more e = refl
item_caret (Range (Plain b) last) rest more e = e
item_caret (Range (Escaped b) last) rest more e = refl
item_caret Digit rest more e = refl
item_caret Space rest more e = refl

pub before_caret : (is_first : Bool) (m : Mode) (item : Item) (rest : List ℕ) (more : List Item) → Before is_first m (item_spelling item ++ rest) → NoCaret m (item ∷ more)
before_caret true opened item rest more e = item_caret item rest more e
before_caret false opened item rest more e = absurd e
before_caret is_first fresh item rest more e = tt
before_caret is_first behind_atom item rest more e = tt
before_caret is_first behind_slash item rest more e = tt
before_caret is_first first_item item rest more e = tt
before_caret is_first next_item item rest more e = tt
before_caret is_first last_hyphen item rest more e = tt
before_caret is_first item_slash item rest more e = tt
before_caret is_first (behind_letter v) item rest more e = tt
before_caret is_first (range_hyphen v) item rest more e = tt
before_caret is_first (range_slash v) item rest more e = tt

-- what stands behind a letter or a backslash plays no part
pub before_letter : (is_first : Bool) (m : Mode) (l : Letter) (x y : List ℕ) → is_class_letter l ≡ true → Before is_first m (letter_spelling l ++ x) → Before is_first m (letter_spelling l ++ y)
unfolding is_plain
before_letter true opened (Plain b) x y k e = e
before_letter true opened (Escaped b) x y k e = e
before_letter true first_item l x y k e = tt
before_letter false next_item l x y k e = tt
before_letter false (behind_letter v) (Plain b) x y k e = ap (λ r. r && not (begins_with 93 y)) (differs is_plain b 45 k refl)
before_letter false (behind_letter v) (Escaped b) x y k e = refl
before_letter is_first m l x y k e = absurd e

pub before_slash : (is_first : Bool) (m : Mode) (x y : List ℕ) → Before is_first m (92 ∷ x) → Before is_first m (92 ∷ y)
before_slash true opened x y e = e
before_slash true first_item x y e = tt
before_slash false next_item x y e = tt
before_slash false (behind_letter v) x y e = refl
before_slash is_first m x y e = absurd e

-- ---- what may stand there is sound

pub part_begins : (Is : Choice → Type 0) (front part back : List ℕ) (more : List Item) → items_spelling more ≡ part ++ back → Begins Is (front ++ items_spelling more) → Begins Is (front ++ part)
part_begins Is front part back more e b =
    begins_shorter Is (front ++ part) back (subst (Begins Is) (ap (λ t. front ++ t) e ∙ sym (append_assoc front part back)) b)

part_sound : (front : List ℕ) (is_first : Bool) (m : Mode) (d n : ℕ) (text part back : List ℕ) (more : List Item) → ClassFront front is_first m d n text
    → items_spelling more ≡ part ++ back → are_items_after is_first more ≡ true → NoCaret m more → Fine (front ++ part)
part_sound front is_first m d n text part back more c e are caret =
    sound_rising (front ++ part) (part_begins IsWithin front part back more e (c.within more (forms_from is_first more are) caret))
    (part_begins IsRising front part back more e (c.rising more are caret))

pub sound_here : (front : List ℕ) (is_first : Bool) (m : Mode) (d n : ℕ) (text : List ℕ) → ClassFront front is_first m d n text → Fine front
unfolding is_plain
sound_here front is_first m d n text c =
    subst Fine (append-nil front) (part_sound front is_first m d n text [] (110 ∷ []) (One (Plain 110) ∷ []) c refl refl (no_caret m (One (Plain 110) ∷ []) refl))

sound_slash : (front : List ℕ) (is_first : Bool) (m : Mode) (d n : ℕ) (text : List ℕ) → ClassFront front is_first m d n text → Fine (front ++ 92 ∷ [])
unfolding is_escape
sound_slash front is_first m d n text c =
    part_sound front is_first m d n text (92 ∷ []) (110 ∷ []) (One (Escaped 110) ∷ []) c refl refl (no_caret m (One (Escaped 110) ∷ []) refl)

sound_hyphen : (front : List ℕ) (is_first : Bool) (m : Mode) (d n : ℕ) (text : List ℕ) → ClassFront front is_first m d n text → Fine (front ++ 45 ∷ [])
unfolding is_plain
sound_hyphen front is_first m d n text c =
    part_sound front is_first m d n text (45 ∷ []) [] (One (Plain 45) ∷ []) c refl refl (no_caret m (One (Plain 45) ∷ []) refl)

sound_letter : (front : List ℕ) (is_first : Bool) (m : Mode) (d n : ℕ) (l : Letter) (text : List ℕ) → ClassFront front is_first m d n (letter_spelling l ++ text) → is_class_letter l ≡ true
    → Fine (front ++ letter_spelling l)
sound_letter front is_first m d n l text c ok =
    part_sound front is_first m d n (letter_spelling l ++ text) (letter_spelling l) [] (One l ∷ []) c refl (or_left (is_class_letter l) (is_hyphen (One l)) ok)
    (before_caret is_first m (One l) text [] c.before)

same_rises : (v : ℕ) → nat_le v v ≡ true
same_rises v = grind (arith, nat_tests)

pub range_caret : (is_first : Bool) (m : Mode) (l last : Letter) (text : List ℕ) → is_class_letter l ≡ true → Before is_first m (letter_spelling l ++ text) → NoCaret m (Range l last ∷ [])
range_caret is_first m l last text ok e =
    before_caret is_first m (Range l last) [] [] (subst (Before is_first m) (sym (append_assoc (letter_spelling l) (45 ∷ letter_spelling last) []))
    (before_letter is_first m l text ((45 ∷ letter_spelling last) ++ []) ok e))

both_ends : (is_first : Bool) (l : Letter) → is_class_letter l ≡ true → are_items_after is_first (Range l l ∷ []) ≡ true
both_ends is_first l ok =
    or_left (is_class_letter l && is_class_letter l && nat_le (value_of l) (value_of l)) false
    (true_and (is_class_letter l && is_class_letter l) (nat_le (value_of l) (value_of l)) (true_and (is_class_letter l) (is_class_letter l) ok ok) (same_rises (value_of l)))

range_parts : (l last : Letter) → items_spelling (Range l last ∷ []) ≡ (letter_spelling l ++ 45 ∷ []) ++ letter_spelling last
range_parts l last = append-nil (letter_spelling l ++ 45 ∷ letter_spelling last) ∙ sym (append_assoc (letter_spelling l) (45 ∷ []) (letter_spelling last))

range_begun : (front : List ℕ) (is_first : Bool) (m : Mode) (d n : ℕ) (l : Letter) (text : List ℕ) → ClassFront front is_first m d n (letter_spelling l ++ text) → is_class_letter l ≡ true
    → Begins IsRising (front ++ (letter_spelling l ++ 45 ∷ []))
range_begun front is_first m d n l text c ok =
    part_begins IsRising front (letter_spelling l ++ 45 ∷ []) (letter_spelling l) (Range l l ∷ []) (range_parts l l)
    (c.rising (Range l l ∷ []) (both_ends is_first l ok) (range_caret is_first m l l text ok c.before))

sound_range : (front : List ℕ) (is_first : Bool) (m : Mode) (d n : ℕ) (l : Letter) (text : List ℕ) → ClassFront front is_first m d n (letter_spelling l ++ text) → is_class_letter l ≡ true
    → Fine ((front ++ letter_spelling l) ++ 45 ∷ [])
sound_range front is_first m d n l text c ok =
    subst Fine (sym (append_assoc front (letter_spelling l) (45 ∷ [])))
    (part_sound front is_first m d n (letter_spelling l ++ text) (letter_spelling l ++ 45 ∷ []) (letter_spelling l) (Range l l ∷ []) c (range_parts l l) (both_ends is_first l ok)
    (range_caret is_first m l l text ok c.before))

sound_range_slash : (front : List ℕ) (is_first : Bool) (m : Mode) (d n : ℕ) (l : Letter) (text : List ℕ) → ClassFront front is_first m d n (letter_spelling l ++ text) → is_class_letter l ≡ true
    → Fine (((front ++ letter_spelling l) ++ 45 ∷ []) ++ 92 ∷ [])
unfolding is_escape
sound_range_slash front is_first m d n l text c ok =
    let more = Range l (Escaped 110) ∷ [] in
    let form : are_item_forms is_first more ≡ true = or_left (is_class_letter l && true) false (true_and (is_class_letter l) true ok refl) in
    let parts : items_spelling more ≡ ((letter_spelling l ++ 45 ∷ []) ++ 92 ∷ []) ++ 110 ∷ [] =
    range_parts l (Escaped 110) ∙ sym (append_assoc (letter_spelling l ++ 45 ∷ []) (92 ∷ []) (110 ∷ [])) in
    let within = part_begins IsWithin front ((letter_spelling l ++ 45 ∷ []) ++ 92 ∷ []) (110 ∷ []) more parts (c.within more form (range_caret is_first m l (Escaped 110) text ok c.before)) in
    let group : front ++ ((letter_spelling l ++ 45 ∷ []) ++ 92 ∷ []) ≡ ((front ++ letter_spelling l) ++ 45 ∷ []) ++ 92 ∷ [] =
    sym (append_assoc front (letter_spelling l ++ 45 ∷ []) (92 ∷ [])) ∙ ap (λ t. t ++ 92 ∷ []) (sym (append_assoc front (letter_spelling l) (45 ∷ []))) in
    sound_begun (front ++ letter_spelling l) (subst (Begins IsWithin) group within)
    (subst (Begins IsRising) (sym (append_assoc front (letter_spelling l) (45 ∷ []))) (range_begun front is_first m d n l text c ok))

-- ---- what the scan reaches

reached_letter : (front : List ℕ) (is_first : Bool) (m : Mode) (d n : ℕ) (l : Letter) (text : List ℕ) → ClassFront front is_first m d n (letter_spelling l ++ text) → is_class_letter l ≡ true
    → Reached (front ++ letter_spelling l) (behind_letter (value_of l)) d n
reached_letter front is_first m d n l text c ok =
    reached_more front (letter_spelling l) m (behind_letter (value_of l)) d d n n c.reached
    (λ rising most deepest few deep.
    ap (λ t. run (limits rising most deepest) (Some (at m d n)) t) (sym (append-nil (letter_spelling l)))
    ∙ letter_runs (limits rising most deepest) is_first m d n l [] ok (before_letter is_first m l text [] ok c.before))

reached_hyphen : (front : List ℕ) (v d n : ℕ) → Reached front (behind_letter v) d n → Reached (front ++ 45 ∷ []) (range_hyphen v) d n
reached_hyphen front v d n reached =
    reached_more front (45 ∷ []) (behind_letter v) (range_hyphen v) d d n n reached (λ rising most deepest few deep. range_hyphen_runs (limits rising most deepest) v d n [])

reached_range_slash : (front : List ℕ) (v d n : ℕ) → Reached front (range_hyphen v) d n → Reached (front ++ 92 ∷ []) (range_slash v) d n
reached_range_slash front v d n reached =
    reached_more front (92 ∷ []) (range_hyphen v) (range_slash v) d d n n reached (λ rising most deepest few deep. range_slash_runs (limits rising most deepest) v d n [])

reached_slash : (front : List ℕ) (is_first : Bool) (m : Mode) (d n : ℕ) (text : List ℕ) → ClassFront front is_first m d n (92 ∷ text) → Reached (front ++ 92 ∷ []) item_slash d n
reached_slash front is_first m d n text c =
    reached_more front (92 ∷ []) m item_slash d d n n c.reached
    (λ rising most deepest few deep. item_slash_runs (limits rising most deepest) is_first m d n [] (before_slash is_first m text [] c.before))

last_step : (L : Limits) (d n : ℕ) → Runs L (at next_item d n) (45 ∷ []) (at last_hyphen d n) []
unfolding class_step item_begin is_plain
last_step L d n = refl

-- a hyphen that neither is the first item nor begins a range must be the last
reached_last : (front : List ℕ) (m : Mode) (d n : ℕ) (text : List ℕ) → Reached front m d n → Before false m (45 ∷ text) → begins_with 93 text ≡ false → Reached (front ++ 45 ∷ []) last_hyphen d n
reached_last front next_item d n text reached before e =
    reached_more front (45 ∷ []) next_item last_hyphen d d n n reached (λ rising most deepest few deep. last_step (limits rising most deepest) d n)
reached_last front (behind_letter v) d n text reached before e = absurd (ends_not (begins_with 93 text) e before) where
  ends_not : (b : Bool) → b ≡ false → (true && not b) ≡ false → ⊥
  ends_not true e f = cc
  ends_not false e f = cc
reached_last front m d n text reached before e = absurd before

-- ---- stops

item_begin_none : (is_first : Bool) (b : ℕ) → is_plain b ≡ false → (b == 92) ≡ false → (b == 45) ≡ false → item_begin is_first b ≡ None
unfolding item_begin
item_begin_none is_first b e f g = rw (e, f, g) refl

item_stops : (is_first : Bool) (m : Mode) (b : ℕ) (rest : List ℕ) → Before is_first m (b ∷ rest) → (not is_first && (b == 93)) ≡ false → is_plain b ≡ false → (b == 92) ≡ false → (b == 45) ≡ false
    → (L : Limits) (d n : ℕ) → step L m d n b ≡ None
item_stops is_first m b rest before more e f g L d n =
    let c = in_class is_first m b rest before in
    c.steps L d n ∙ ap (inside d n) (c.begins L.rising (turned is_first (b == 93) more) g ∙ item_begin_none is_first b e f g) where
      turned : (a b : Bool) → (not a && b) ≡ false → (a || not b) ≡ true
      turned true b e = refl
      turned false b e = ap not e

hyphen_stops : (v b : ℕ) → (b == 93) ≡ false → is_plain b ≡ false → (b == 92) ≡ false → (L : Limits) (d n : ℕ) → step L (range_hyphen v) d n b ≡ None
unfolding class_step
hyphen_stops v b e f g L d n = rw (e, f, g) refl

last_stops : (b : ℕ) → (b == 93) ≡ false → (L : Limits) (d n : ℕ) → step L last_hyphen d n b ≡ None
unfolding class_step
last_stops b e L d n = rw e refl

digit_stops : (v : ℕ) (L : Limits) (d n : ℕ) → (step L (range_slash v) d n 100 ≡ None) × (step L (range_slash v) d n 115 ≡ None)
unfolding class_step is_escape
digit_stops v L d n = (refl, refl)

-- \d and \s end no range
kept_classes : (is_left_out 100 ≡ false) × (is_left_out 115 ≡ false)
unfolding is_left_out
kept_classes = (refl, refl)

no_range_at : (whole front : List ℕ) (v d n b : ℕ) (rest : List ℕ) → whole ≡ (front ++ 92 ∷ []) ++ b ∷ rest → Fine (front ++ 92 ∷ []) → Reached (front ++ 92 ∷ []) (range_slash v) d n
    → ((L : Limits) → step L (range_slash v) d n b ≡ None) → is_left_out b ≡ false → is_printable b ≡ true → (b == 92) ≡ false → (b ≡ 123 → ⊥) → (b ≡ 45 → ⊥) → Located whole (fault_at Syntax (b ∷ rest))
no_range_at whole front v d n b rest split sound reached stops kept shows slash no_brace no_hyphen =
    located whole (front ++ 92 ∷ []) (b ∷ rest) Syntax split (departure_at (front ++ 92 ∷ []) (b ∷ rest) sound
    (no_form (front ++ 92 ∷ []) (b ∷ []) (range_slash v) d n reached (λ most deepest. stops (limits false most deepest)))
    (none_left_out (front ++ 92 ∷ []) b rest shows (ap (λ r. r && begins_left_out rest) slash) (λ e. absurd (no_brace e)) (λ e. absurd (no_hyphen e)))
    (slash_clear front b rest kept))

ends_no_range : (whole front : List ℕ) (v d n : ℕ) (item : Item) (behind rest : List ℕ) → whole ≡ (front ++ 92 ∷ []) ++ behind → Fine (front ++ 92 ∷ []) → Reached (front ++ 92 ∷ []) (range_slash v) d n
    → EscapeIs behind item rest → Fails (only_letter behind (item, rest)) (Located whole)
ends_no_range whole front v d n (One (Plain b)) behind rest split sound reached is = tt
ends_no_range whole front v d n (One (Escaped b)) behind rest split sound reached is = tt
ends_no_range whole front v d n (Range l k) behind rest split sound reached is = absurd is
ends_no_range whole front v d n Digit behind rest split sound reached is =
    subst (λ t. Located whole (fault_at Syntax t)) (sym is) (no_range_at whole front v d n 100 rest (split ∙ ap (λ t. (front ++ 92 ∷ []) ++ t) is) sound reached
    (λ L. (digit_stops v L d n).0) kept_classes.0 refl refl (λ e. omega (arith, e)) (λ e. omega (arith, e)))
ends_no_range whole front v d n Space behind rest split sound reached is =
    subst (λ t. Located whole (fault_at Syntax t)) (sym is) (no_range_at whole front v d n 115 rest (split ∙ ap (λ t. (front ++ 92 ∷ []) ++ t) is) sound reached
    (λ L. (digit_stops v L d n).1) kept_classes.1 refl refl (λ e. omega (arith, e)) (λ e. omega (arith, e)))

-- a byte that isn't plain completes nothing that is left out, unless it is a bracket
plain_clear : (front : List ℕ) (b : ℕ) (rest : List ℕ) → is_plain b ≡ false → ((before : List ℕ) → front ≡ before ++ 45 ∷ [] → b ≡ 91 → Begins IsForm (before ++ 91 ∷ [])) → Clear front (b ∷ rest)
plain_clear front b rest never bracket = ((λ before e out. absurd (let k = left_out_plain b out in cc)), (λ before e is. inl (bracket before e is)))

pub not_and : (a c : Bool) → a ≡ true → (a && c) ≡ false → c ≡ false
not_and true c e f = f
not_and false c e f = absurd (cc)

last_fails : (whole front : List ℕ) (v d n : ℕ) (text : List ℕ) → whole ≡ front ++ text → begins_with 93 text ≡ false → begins_with 91 text ≡ false → Fine front → Fine (front ++ 92 ∷ [])
    → Reached front (range_hyphen v) d n → Fails (last_at text) (Located whole)
unfolding last_at
last_fails whole front v d n [] split open' no_open sound sound' reached =
    class_stopped whole front [] (range_hyphen v) d n split sound reached (hyphen_mode v) (λ b rest e. absurd (cc))
last_fails whole front v d n (b ∷ rest) split open' no_open sound sound' reached =
    let Q = Located whole in
    if_fails Q (is_unsupported_in_class (b ∷ rest)) _ _
    (λ h. class_stopped whole front (b ∷ rest) (range_hyphen v) d n split sound reached (hyphen_mode v) (λ b' rest' e u. absurd (cc)))
    (λ h. if_fails Q (is_plain b) _ _ (λ k. tt)
    (λ k. if_fails Q (b == 92) _ _
    (λ j.
    let split' : whole ≡ (front ++ 92 ∷ []) ++ rest = split ∙ ap (λ (c : ℕ). front ++ c ∷ rest) (eq_from b 92 j) ∙ sym (append_assoc front (92 ∷ []) rest) in
    let reached' = reached_range_slash front v d n reached in
    bind_fails (λ x. EscapeIs rest x.0 x.1) Q (escape_at rest) (only_letter rest) (escape_is rest)
    (escape_fails whole front rest (range_slash v) d n split' sound' reached' (range_slash_mode v) (not_and (b == 92) (begins_left_out rest) j (in_class_kept b rest h).kept))
    (λ x is. ends_no_range whole front v d n x.0 rest x.1 split' sound' reached' is))
    (λ j. class_stopped whole front (b ∷ rest) (range_hyphen v) d n split sound reached (hyphen_mode v)
    (λ b' rest' e u.
    let same : b ≡ b' = cc in (
      (λ L. subst (λ c. step L (range_hyphen v) d n c ≡ None) same (hyphen_stops v b open' k j L d n)),
      plain_clear front b' rest' (subst (λ c. is_plain c ≡ false) same k) (λ before f is. absurd (let l : (91 == 91) ≡ false = subst (λ c. (c == 91) ≡ false) (same ∙ is) no_open in cc)),
    )))))

-- ---- ranges

falling_refused : (front : List ℕ) (is_first : Bool) (m : Mode) (d n : ℕ) (first last : Letter) (text : List ℕ) → ClassFront front is_first m d n (letter_spelling first ++ text)
    → is_class_letter first ≡ true → is_class_letter last ≡ true → nat_lt (value_of last) (value_of first) ≡ true → Begins IsRising (front ++ item_spelling (Range first last)) → ⊥
falling_refused front is_first m d n first last text c ok ok' falls =
    no_rising front (item_spelling (Range first last)) m d n c.reached
    (λ most deepest.
    let L = limits true most deepest in
    letter_runs L is_first m d n first (45 ∷ letter_spelling last) ok (before_letter is_first m first text (45 ∷ letter_spelling last) ok c.before)
    ∙ range_hyphen_runs L (value_of first) d n (letter_spelling last)
    ∙ range_last L (value_of first) d n last ok'
    ∙ ap (λ b. inside d n (cond b None (Some next_item))) falls)

falling : (whole front : List ℕ) (is_first : Bool) (m : Mode) (d n : ℕ) (first last : Letter) (text rest : List ℕ) → whole ≡ front ++ (letter_spelling first ++ text)
    → ClassFront front is_first m d n (letter_spelling first ++ text) → is_class_letter first ≡ true → is_class_letter last ≡ true → text ≡ 45 ∷ (letter_spelling last ++ rest)
    → nat_lt (value_of last) (value_of first) ≡ true → Located whole (fault_at Syntax (letter_spelling first ++ text))
unfolding is_plain
falling whole front is_first m d n first last text rest split c ok ok' is falls =
    located whole front (letter_spelling first ++ text) Syntax split (falling_at front (letter_spelling first ++ text) m d n (sound_here front is_first m d n (letter_spelling first ++ text) c) (record {
      first = first;
      last = last;
      rest = rest;
      whole = ap (λ t. letter_spelling first ++ t) is ∙ sym (append_assoc (letter_spelling first) (45 ∷ letter_spelling last) rest);
      letters = true_and (is_class_letter first) (is_class_letter last) ok ok';
      falls = (let k = lt_from (value_of last) (value_of first) falls in omega (arith, k));
      free = form_of (front ++ 97 ∷ []) (c.within (One (Plain 97) ∷ []) refl (no_caret m (One (Plain 97) ∷ []) refl));
      before = range_begun front is_first m d n first text c ok;
      form = part_begins IsWithin front (item_spelling (Range first last)) [] (Range first last ∷ []) refl
          (c.within (Range first last ∷ []) (or_left (is_class_letter first && is_class_letter last) false (true_and (is_class_letter first) (is_class_letter last) ok ok'))
          (range_caret is_first m first last text ok c.before));
      refused = falling_refused front is_first m d n first last text c ok ok' falls;
    }) c.reached (before_mode is_first m (letter_spelling first ++ text) c.before).steady)

hyphen_unsupported : (b : ℕ) (rest : List ℕ) → (b == 45) ≡ true → begins_with 91 rest ≡ true → is_unsupported_in_class (b ∷ rest) ≡ true
unfolding is_unsupported_in_class
hyphen_unsupported b rest e f = or_right _ (b == 45 && begins_with 91 rest) (true_and (b == 45) (begins_with 91 rest) e f)

range_fails : (whole front : List ℕ) (is_first : Bool) (m : Mode) (d n : ℕ) (first : Letter) (text : List ℕ) → whole ≡ front ++ (letter_spelling first ++ text)
    → ClassFront front is_first m d n (letter_spelling first ++ text) → is_class_letter first ≡ true → Fails (range_at (letter_spelling first ++ text) first text) (Located whole)
unfolding range_at
range_fails whole front is_first m d n first [] split c ok = tt
range_fails whole front is_first m d n first (b ∷ rest) split c ok =
    let Q = Located whole in
    let v = value_of first in
    let reached = reached_letter front is_first m d n first (b ∷ rest) c ok in
    let split' : whole ≡ (front ++ letter_spelling first) ++ b ∷ rest = split ∙ sym (append_assoc front (letter_spelling first) (b ∷ rest)) in
    if_fails Q (b == 45 && not (begins_with 93 rest)) _ _
    (λ h.
    let both = and_true (b == 45) (not (begins_with 93 rest)) h in
    if_fails Q (begins_with 91 rest) _ _
    (λ k. class_stopped whole (front ++ letter_spelling first) (b ∷ rest) (behind_letter v) d n split' (sound_letter front is_first m d n first (b ∷ rest) c ok) reached (letter_mode v)
    (λ b' rest' e u. absurd (let w = hyphen_unsupported b rest both.0 k in cc)))
    (λ k.
    let front' = (front ++ letter_spelling first) ++ 45 ∷ [] in
    bind_fails (λ x. (rest ≡ letter_spelling x.0 ++ x.1) × (is_class_letter x.0 ≡ true)) Q (last_at rest) (range_of (letter_spelling first ++ b ∷ rest) first) (last_found rest)
    (last_fails whole front' v d n rest
    (split' ∙ ap (λ (c : ℕ). (front ++ letter_spelling first) ++ c ∷ rest) (eq_from b 45 both.0) ∙ sym (append_assoc (front ++ letter_spelling first) (45 ∷ []) rest))
    (not_true (begins_with 93 rest) both.1) k (sound_range front is_first m d n first (b ∷ rest) c ok) (sound_range_slash front is_first m d n first (b ∷ rest) c ok)
    (reached_hyphen (front ++ letter_spelling first) v d n reached))
    (λ x found. if_fails Q (nat_lt (value_of x.0) (value_of first)) _ _
    (λ j. falling whole front is_first m d n first x.0 (b ∷ rest) x.1 split c ok found.1 (ap (λ (c : ℕ). c ∷ rest) (eq_from b 45 both.0) ∙ ap (λ t. 45 ∷ t) found.0) j)
    (λ j. tt))))
    (λ h. tt)

-- ---- items

-- an item behind a backslash
escaped_item_fails : (whole front : List ℕ) (is_first : Bool) (m : Mode) (d n : ℕ) (item : Item) (behind rest : List ℕ) → whole ≡ front ++ 92 ∷ behind
    → ClassFront front is_first m d n (92 ∷ behind) → EscapeIs behind item rest → Fails (item_behind (92 ∷ behind) (item, rest)) (Located whole)
escaped_item_fails whole front is_first m d n (One (Plain b)) behind rest split c is = absurd is
escaped_item_fails whole front is_first m d n (One (Escaped b)) behind rest split c is =
    let e : 92 ∷ behind ≡ letter_spelling (Escaped b) ++ rest = ap (λ t. 92 ∷ t) is.0 in
    subst (λ t. Fails (range_at t (Escaped b) rest) (Located whole)) (sym e)
    (range_fails whole front is_first m d n (Escaped b) rest (split ∙ ap (λ t. front ++ t) e) (subst (ClassFront front is_first m d n) e c) is.1)
escaped_item_fails whole front is_first m d n (Range l k) behind rest split c is = absurd is
escaped_item_fails whole front is_first m d n Digit behind rest split c is = tt
escaped_item_fails whole front is_first m d n Space behind rest split c is = tt

hyphen_item_fails : (whole front : List ℕ) (is_first : Bool) (m : Mode) (d n : ℕ) (rest : List ℕ) → whole ≡ front ++ 45 ∷ rest → ClassFront front is_first m d n (45 ∷ rest)
    → (is_first || begins_with 93 rest) ≡ false → begins_with 91 rest ≡ false → Located whole (class_stop_at rest)
hyphen_item_fails whole front true m d n rest split c e no_open = absurd (cc)
hyphen_item_fails whole front false m d n rest split c e no_open =
    class_stopped whole (front ++ 45 ∷ []) rest last_hyphen d n (split ∙ sym (append_assoc front (45 ∷ []) rest)) (sound_hyphen front false m d n (45 ∷ rest) c)
    (reached_last front m d n rest c.reached c.before e) last_mode
    (λ b rest' same u. (
      last_step_stops b (sym (ap (begins_with 93) same) ∙ e),
      (
        (λ before f out. absurd (let k = (snoc_same 45 92 front before f).1 in omega (arith, k))),
        (λ before f is. absurd (let k : (91 == 91) ≡ false = subst (λ (i : ℕ). (i == 91) ≡ false) is (sym (ap (begins_with 91) same) ∙ no_open) in cc)),
      ),
    )) where
      last_step_stops : (b : ℕ) → (b == 93) ≡ false → (L : Limits) → step L last_hyphen d n b ≡ None
      last_step_stops b e L = last_stops b e L d n

pub item_fails : (whole front : List ℕ) (is_first : Bool) (m : Mode) (d n : ℕ) (text : List ℕ) → whole ≡ front ++ text → ClassFront front is_first m d n text
    → (not is_first && begins_with 93 text) ≡ false → Fails (item_at is_first text) (Located whole)
unfolding item_at
item_fails whole front is_first m d n [] split c more =
    class_stopped whole front [] m d n split (sound_here front is_first m d n [] c) c.reached (before_mode is_first m [] c.before) (λ b rest e. absurd (cc))
item_fails whole front is_first m d n (b ∷ rest) split c more =
    let Q = Located whole in
    let sound = sound_here front is_first m d n (b ∷ rest) c in
    let mode = before_mode is_first m (b ∷ rest) c.before in
    if_fails Q (is_unsupported_in_class (b ∷ rest)) _ _
    (λ h. class_stopped whole front (b ∷ rest) m d n split sound c.reached mode (λ b' rest' e u. absurd (cc)))
    (λ h. if_fails Q (is_plain b) _ _
    (λ k. range_fails whole front is_first m d n (Plain b) rest split c k)
    (λ k. if_fails Q (b == 92) _ _
    (λ j.
    let e : b ∷ rest ≡ 92 ∷ rest = ap (λ (i : ℕ). i ∷ rest) (eq_from b 92 j) in
    let split' : whole ≡ front ++ 92 ∷ rest = split ∙ ap (λ t. front ++ t) e in
    let c' : ClassFront front is_first m d n (92 ∷ rest) = subst (ClassFront front is_first m d n) e c in
    subst (λ t. Fails (escape_at rest >>= item_behind t) Q) (sym e)
    (bind_fails (λ x. EscapeIs rest x.0 x.1) Q (escape_at rest) (item_behind (92 ∷ rest)) (escape_is rest)
    (escape_fails whole front rest item_slash d n (split' ∙ sym (append_assoc front (92 ∷ []) rest)) (sound_slash front is_first m d n (92 ∷ rest) c')
    (reached_slash front is_first m d n rest c') item_slash_mode (not_and (b == 92) (begins_left_out rest) j (in_class_kept b rest h).kept))
    (λ x is. escaped_item_fails whole front is_first m d n x.0 rest x.1 split' c' is)))
    (λ j. if_fails Q (b == 45) _ _
    (λ i. if_fails Q (is_first || begins_with 93 rest) _ _ (λ g. tt)
    (λ g.
    let e : b ∷ rest ≡ 45 ∷ rest = ap (λ (i : ℕ). i ∷ rest) (eq_from b 45 i) in
    hyphen_item_fails whole front is_first m d n rest (split ∙ ap (λ t. front ++ t) e) (subst (ClassFront front is_first m d n) e c) g (not_and (b == 45) (begins_with 91 rest) i (in_class_kept b rest h).no_subtraction)))
    (λ i. class_stopped whole front (b ∷ rest) m d n split sound c.reached mode
    (λ b' rest' e u.
    let same : b ≡ b' = cc in (
      (λ L. subst (λ c. step L m d n c ≡ None) same (item_stops is_first m b rest c.before more k j i L d n)),
      plain_clear front b' rest' (subst (λ c. is_plain c ≡ false) same k) (λ before f is. c.bracket before f (ap (λ (i : ℕ). i == 91) (same ∙ is))),
    ))))))
