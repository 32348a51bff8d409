-- A fault where reading stops is the first: nothing is wrong at a lower byte.
use Rattle.std.proofs.Common.{◌≡◌, ◌≤◌, ◌+◌, ℕ, Bool, true, false, not, cond, ◌&&◌, ◌||◌, ◌==◌, ◌⊎◌, inl, inr, nat_lt, nat_le, List, [], ◌∷◌, ◌++◌, length, Option, Some, None, max, refl, ap, sym, ◌∙◌, subst, append_assoc, length-append, arith}
use Rattle.std.proofs.lemmas.List.{append-nil}
use Rattle.std.proofs.lemmas.Bool.Decides.{nat_tests}
use Rattle.al_pattern.specs.declared.letter.Letter.{Letter}
use Rattle.al_pattern.specs.declared.letter.Letter.TheVariants.{Plain, Escaped}
use Rattle.al_pattern.specs.declared.letter.Item.TheVariants.{Range}
use Rattle.al_pattern.specs.declared.fault.FaultKind.TheVariants.{Syntax, Unsupported, TooLarge, TooDeep}
use Rattle.al_pattern.specs.Bytes.{among, is_printable, is_char, is_plain, is_escape, is_left_out}
use Rattle.al_pattern.specs.Tests.{letter_spelling, item_spelling, is_class_letter}
use Rattle.al_pattern.specs.Tokens.{begins_node, quantifier_of}
use Rattle.al_pattern.specs.Trees.{choice_nodes, choice_depth}
use Rattle.al_pattern.specs.Places.{IsForm, IsRising, HasFewNodes, HasFewGroups, IsWithin, Begins, IsOther, IsLeftOut, byte, escape, brace, subtraction, IsFalling, IsSound, Stops, IsFaultAt}
use Rattle.al_pattern.proofs.CutLemmas.{and_true, true_and, or_left}
use Rattle.al_pattern.proofs.TestLemmas.{differs, among_all, not_true}
use Rattle.al_pattern.proofs.Scan.{Mode, fresh, behind_atom, behind_slash, opened, first_item, next_item, last_hyphen, item_slash, behind_letter, range_hyphen, range_slash, Limits, State, at, started, begin, quantified, item_begin, class_step, inside, step, advance, run, begun, run-append}
use Rattle.al_pattern.proofs.ScanTrees.{barred, plain_hyphen}
use Rattle.al_pattern.proofs.CloseLemmas.{begins_shorter}
use Rattle.al_pattern.proofs.StopLemmas.{limits, Reached, Fine, no_form, snoc_same, plain_slash}

pub by_bool : (b : Bool) → (b ≡ true → ⊥) → b ≡ false
by_bool true f = absurd (f refl)
by_bool false f = refl

-- ---- bytes that are left out

printable_alphanumeric : (b : ℕ) → ((nat_le 48 b && nat_le b 57) || (nat_le 65 b && nat_le b 90) || (nat_le 97 b && nat_le b 122)) ≡ true → is_printable b ≡ true
printable_alphanumeric b e = grind (arith, nat_tests)

pub left_out_printable : (b : ℕ) → is_left_out b ≡ true → is_printable b ≡ true
unfolding is_left_out
left_out_printable b e = printable_alphanumeric b (and_true _ (not (among (110 ∷ 114 ∷ 116 ∷ 100 ∷ 115 ∷ []) b)) e).0

pub left_out_char : (b : ℕ) → is_left_out b ≡ true → is_char b ≡ true
unfolding is_char is_left_out
left_out_char b e =
    true_and (is_printable b) (not (among (46 ∷ 92 ∷ 63 ∷ 42 ∷ 43 ∷ 40 ∷ 41 ∷ 124 ∷ 91 ∷ 93 ∷ 123 ∷ 125 ∷ []) b)) (left_out_printable b e)
    (ap not (by_bool (among (46 ∷ 92 ∷ 63 ∷ 42 ∷ 43 ∷ 40 ∷ 41 ∷ 124 ∷ 91 ∷ 93 ∷ 123 ∷ 125 ∷ []) b)
    (λ h. let k = not_true (is_left_out b) (among_all (λ n. not (is_left_out n)) (46 ∷ 92 ∷ 63 ∷ 42 ∷ 43 ∷ 40 ∷ 41 ∷ 124 ∷ 91 ∷ 93 ∷ 123 ∷ 125 ∷ []) b h refl) in cc)))

pub left_out_plain : (b : ℕ) → is_left_out b ≡ true → is_plain b ≡ true
unfolding is_plain is_left_out
left_out_plain b e =
    true_and (is_printable b) (not (among (91 ∷ 93 ∷ 92 ∷ 45 ∷ []) b)) (left_out_printable b e)
    (ap not (by_bool (among (91 ∷ 93 ∷ 92 ∷ 45 ∷ []) b)
    (λ h. let k = not_true (is_left_out b) (among_all (λ n. not (is_left_out n)) (91 ∷ 93 ∷ 92 ∷ 45 ∷ []) b h refl) in cc)))

pub left_out_node : (b : ℕ) → is_left_out b ≡ true → begins_node b ≡ true
left_out_node b e = or_left (is_char b) (among (46 ∷ 92 ∷ 91 ∷ 40 ∷ 124 ∷ []) b) (left_out_char b e)

-- ---- bytes that aren't printable

record Hidden (b : ℕ) : Type 0 where
  pub other : (k : ℕ) → is_printable k ≡ true → (b == k) ≡ false
  pub no_char : is_char b ≡ false
  pub no_plain : is_plain b ≡ false
  pub no_escape : is_escape b ≡ false
  pub no_node : among (46 ∷ 92 ∷ 91 ∷ 40 ∷ 124 ∷ []) b ≡ false

hidden : (b : ℕ) → is_printable b ≡ false → Hidden b
unfolding is_char is_plain is_escape
hidden b e = record {
  other = λ k shows. differs (λ n. not (is_printable n)) b k (ap not e) (ap not shows);
  no_char = ap (λ r. r && not (among (46 ∷ 92 ∷ 63 ∷ 42 ∷ 43 ∷ 40 ∷ 41 ∷ 124 ∷ 91 ∷ 93 ∷ 123 ∷ 125 ∷ []) b)) e;
  no_plain = ap (λ r. r && not (among (91 ∷ 93 ∷ 92 ∷ 45 ∷ []) b)) e;
  no_escape = by_bool (is_escape b)
      (λ h. let k = among_all is_printable (110 ∷ 114 ∷ 116 ∷ 92 ∷ 124 ∷ 46 ∷ 63 ∷ 42 ∷ 43 ∷ 40 ∷ 41 ∷ 123 ∷ 125 ∷ 45 ∷ 91 ∷ 93 ∷ 94 ∷ []) b h refl in cc);
  no_node = by_bool (among (46 ∷ 92 ∷ 91 ∷ 40 ∷ 124 ∷ []) b) (λ h. let k = among_all is_printable (46 ∷ 92 ∷ 91 ∷ 40 ∷ 124 ∷ []) b h refl in cc);
}

hidden_begin : (L : Limits) (d n b : ℕ) → Hidden b → begin L d n b ≡ None
unfolding begin
hidden_begin L d n b h = rw (h.other 41 refl, h.no_char, h.no_node) refl

hidden_quantifier : (b : ℕ) → Hidden b → quantifier_of b ≡ None
hidden_quantifier b h = rw (h.other 63 refl, h.other 42 refl, h.other 43 refl) refl

hidden_item : (is_first : Bool) (b : ℕ) → Hidden b → item_begin is_first b ≡ None
unfolding item_begin
hidden_item is_first b h = rw (h.no_plain, h.other 92 refl, h.other 45 refl) refl

hidden_class : (r : Bool) (m : Mode) (b : ℕ) → Hidden b → class_step r m b ≡ None
unfolding class_step
hidden_class r opened b h = rw (h.other 94 refl) (hidden_item true b h)
hidden_class r first_item b h = hidden_item true b h
hidden_class r next_item b h = rw (h.other 93 refl) (hidden_item false b h)
hidden_class r (behind_letter v) b h = rw (h.other 93 refl, h.other 45 refl) (hidden_item false b h)
hidden_class r (range_hyphen v) b h = rw (h.other 93 refl, h.no_plain, h.other 92 refl) refl
hidden_class r last_hyphen b h = rw (h.other 93 refl) refl
hidden_class r item_slash b h = rw (h.no_escape, h.other 100 refl, h.other 115 refl) refl
hidden_class r (range_slash v) b h = rw h.no_escape refl
hidden_class r fresh b h = refl
hidden_class r behind_atom b h = refl
hidden_class r behind_slash b h = refl

hidden_step : (L : Limits) (m : Mode) (d n b : ℕ) → Hidden b → step L m d n b ≡ None
hidden_step L fresh d n b h = hidden_begin L d n b h
hidden_step L behind_atom d n b h = ap (quantified L d n b) (hidden_quantifier b h) ∙ hidden_begin L d n b h
hidden_step L behind_slash d n b h = rw (h.no_escape, h.other 100 refl, h.other 115 refl) refl
hidden_step L opened d n b h = ap (inside d n) (hidden_class L.rising opened b h)
hidden_step L first_item d n b h = ap (inside d n) (hidden_class L.rising first_item b h)
hidden_step L next_item d n b h = ap (inside d n) (hidden_class L.rising next_item b h)
hidden_step L last_hyphen d n b h = ap (inside d n) (hidden_class L.rising last_hyphen b h)
hidden_step L item_slash d n b h = ap (inside d n) (hidden_class L.rising item_slash b h)
hidden_step L (behind_letter v) d n b h = ap (inside d n) (hidden_class L.rising (behind_letter v) b h)
hidden_step L (range_hyphen v) d n b h = ap (inside d n) (hidden_class L.rising (range_hyphen v) b h)
hidden_step L (range_slash v) d n b h = ap (inside d n) (hidden_class L.rising (range_slash v) b h)

pub unprintable : (L : Limits) (m : Mode) (d n b : ℕ) → is_printable b ≡ false → step L m d n b ≡ None
unprintable L m d n b e = hidden_step L m d n b (hidden b e)

-- ---- backslashes

abbrev pub Escapes : Mode → Type 0
Escapes behind_slash = Unit {0}
Escapes item_slash = Unit {0}
Escapes (range_slash v) = Unit {0}
Escapes m = ⊥

abbrev shown_mode : Mode → Option State → Mode
shown_mode m None = m
shown_mode m (Some s) = s.mode

same_mode : (m m' : Mode) (d d' n n' : ℕ) → Some (at m d n) ≡ Some (at m' d' n') → m ≡ m'
same_mode m m' d d' n n' e = ap (shown_mode m) e

slash_begins : (L : Limits) (d n : ℕ) (m : Mode) (d' n' : ℕ) → begin L d n 92 ≡ Some (at m d' n') → Escapes m
unfolding begin started is_char
slash_begins L d n m d' n' e = by_room (nat_lt n L.most) e where
  by_room : (room : Bool) → cond room (Some (at behind_slash d (n + 1))) None ≡ Some (at m d' n') → Escapes m
  by_room true e = subst Escapes (same_mode behind_slash m d d' (n + 1) n' e) tt
  by_room false e = absurd (cc)

-- a backslash leads behind a backslash, unless it is itself behind one
slash_leads : (L : Limits) (m : Mode) (d n : ℕ) (m' : Mode) (d' n' : ℕ) → step L m d n 92 ≡ Some (at m' d' n') → Escapes m ⊎ Escapes m'
unfolding class_step item_begin is_plain
slash_leads L fresh d n m' d' n' e = inr (slash_begins L d n m' d' n' e)
slash_leads L behind_atom d n m' d' n' e = inr (slash_begins L d n m' d' n' e)
slash_leads L opened d n m' d' n' e = inr (subst Escapes (same_mode item_slash m' d d' n n' e) tt)
slash_leads L first_item d n m' d' n' e = inr (subst Escapes (same_mode item_slash m' d d' n n' e) tt)
slash_leads L next_item d n m' d' n' e = inr (subst Escapes (same_mode item_slash m' d d' n n' e) tt)
slash_leads L (behind_letter v) d n m' d' n' e = inr (subst Escapes (same_mode item_slash m' d d' n n' e) tt)
slash_leads L (range_hyphen v) d n m' d' n' e = inr (subst Escapes (same_mode (range_slash v) m' d d' n n' e) tt)
slash_leads L last_hyphen d n m' d' n' e = absurd (cc)
slash_leads L behind_slash d n m' d' n' e = inl tt
slash_leads L item_slash d n m' d' n' e = inl tt
slash_leads L (range_slash v) d n m' d' n' e = inl tt

-- behind one, an a goes on to nothing
escapes_no_a : (L : Limits) (m : Mode) (d n : ℕ) → Escapes m → step L m d n 97 ≡ None
unfolding class_step is_escape
escapes_no_a L behind_slash d n e = refl
escapes_no_a L item_slash d n e = refl
escapes_no_a L (range_slash v) d n e = refl
escapes_no_a L fresh d n e = absurd e
escapes_no_a L behind_atom d n e = absurd e
escapes_no_a L opened d n e = absurd e
escapes_no_a L first_item d n e = absurd e
escapes_no_a L next_item d n e = absurd e
escapes_no_a L last_hyphen d n e = absurd e
escapes_no_a L (behind_letter v) d n e = absurd e
escapes_no_a L (range_hyphen v) d n e = absurd e

-- no hyphen leads behind a backslash
hyphen_begins : (L : Limits) (d n : ℕ) (m : Mode) (d' n' : ℕ) → begin L d n 45 ≡ Some (at m d' n') → Escapes m → ⊥
unfolding begin started is_char
hyphen_begins L d n m d' n' e esc = by_room (nat_lt n L.most) e where
  by_room : (room : Bool) → cond room (Some (at behind_atom d (n + 1))) None ≡ Some (at m d' n') → ⊥
  by_room true e = subst Escapes (sym (same_mode behind_atom m d d' (n + 1) n' e)) esc
  by_room false e = cc

hyphen_leads : (L : Limits) (m : Mode) (d n : ℕ) (m' : Mode) (d' n' : ℕ) → step L m d n 45 ≡ Some (at m' d' n') → Escapes m' → ⊥
unfolding class_step item_begin is_plain is_escape
hyphen_leads L fresh d n m' d' n' e esc = hyphen_begins L d n m' d' n' e esc
hyphen_leads L behind_atom d n m' d' n' e esc = hyphen_begins L d n m' d' n' e esc
hyphen_leads L behind_slash d n m' d' n' e esc = subst Escapes (sym (same_mode behind_atom m' d d' n n' e)) esc
hyphen_leads L opened d n m' d' n' e esc = subst Escapes (sym (same_mode next_item m' d d' n n' e)) esc
hyphen_leads L first_item d n m' d' n' e esc = subst Escapes (sym (same_mode next_item m' d d' n n' e)) esc
hyphen_leads L next_item d n m' d' n' e esc = subst Escapes (sym (same_mode last_hyphen m' d d' n n' e)) esc
hyphen_leads L last_hyphen d n m' d' n' e esc = cc
hyphen_leads L item_slash d n m' d' n' e esc = subst Escapes (sym (same_mode (behind_letter 45) m' d d' n n' e)) esc
hyphen_leads L (behind_letter v) d n m' d' n' e esc = subst Escapes (sym (same_mode (range_hyphen v) m' d d' n n' e)) esc
hyphen_leads L (range_hyphen v) d n m' d' n' e esc = cc
hyphen_leads L (range_slash v) d n m' d' n' e esc = by_order (L.rising && nat_lt 45 v) e where
  by_order : (falls : Bool) → inside d n (cond falls None (Some next_item)) ≡ Some (at m' d' n') → ⊥
  by_order true e = cc
  by_order false e = subst Escapes (sym (same_mode next_item m' d d' n n' e)) esc

-- ---- lists

-- of two ways to cut a list, one cuts no earlier than the other
pub overlap : (x y x' y' : List ℕ) → x ++ y ≡ x' ++ y' → ((z : List ℕ) × (x ≡ x' ++ z) × (y' ≡ z ++ y)) ⊎ ((z : List ℕ) × (x' ≡ x ++ z) × (y ≡ z ++ y'))
overlap [] y x' y' e = inr (x', refl, e)
overlap (a ∷ x) y [] y' e = inl (a ∷ x, refl, sym e)
overlap (a ∷ x) y (a' ∷ x') y' e =
    let same : a ≡ a' = cc in
    elim (overlap x y x' y' (cc)) [
      | inl h ↦ inl (h.0, (let k = h.1 in cc), h.2)
      | inr h ↦ inr (h.0, (let k = h.1 in cc), h.2)
    ]

-- ---- nothing is left out at a lower byte

-- what a fault's first byte may not complete
abbrev pub Clear : List ℕ → List ℕ → Type 0
Clear front [] = Unit {0}
Clear front (b ∷ rest) =
    ((before : List ℕ) → front ≡ before ++ 92 ∷ [] → is_left_out b ≡ true → Begins IsForm (front ++ b ∷ []))
    × ((before : List ℕ) → front ≡ before ++ 45 ∷ [] → b ≡ 91 → Begins IsForm (before ++ 91 ∷ []) ⊎ Begins IsForm (front ++ b ∷ []))

front_begins : (front before part more : List ℕ) → Begins IsWithin front → front ≡ before ++ (part ++ more) → Begins IsForm (before ++ part)
front_begins front before part more begins split =
    let whole : front ≡ (before ++ part) ++ more = split ∙ sym (append_assoc before part more) in
    let longer : Begins IsWithin ((before ++ part) ++ more) = subst (Begins IsWithin) whole begins in
    let there = begins_shorter IsWithin (before ++ part) more longer in
    record { tree = there.tree; rest = there.rest; such = there.such.0; spelled = there.spelled }

one_byte : (front behind before more after : List ℕ) (b c : ℕ) → Begins IsWithin front → front ≡ before ++ b ∷ more → b ∷ (more ++ behind) ≡ c ∷ after → (Begins IsForm (before ++ c ∷ []) → ⊥) → ⊥
one_byte front behind before more after b c begins split whole refused =
    let same : b ≡ c = cc in
    refused (subst (λ (i : ℕ). Begins IsForm (before ++ i ∷ [])) same (front_begins front before (b ∷ []) more begins split))

-- two bytes of which the first stands before the fault
two_bytes : (front behind before more after : List ℕ) (b c k : ℕ) → Begins IsWithin front → front ≡ before ++ b ∷ more → b ∷ (more ++ behind) ≡ c ∷ k ∷ after → (Begins IsForm (before ++ c ∷ k ∷ []) → ⊥)
    → (front ≡ before ++ c ∷ [] → behind ≡ k ∷ after → ⊥) → ⊥
two_bytes front behind before [] after b c k begins split whole refused straddles =
    let same : b ≡ c = cc in
    straddles (split ∙ ap (λ (i : ℕ). before ++ i ∷ []) same) (cc)
two_bytes front behind before (a ∷ more) after b c k begins split whole refused straddles =
    let same : b ≡ c = cc in
    let same' : a ≡ k = cc in
    refused (subst (λ (i : ℕ). Begins IsForm (before ++ c ∷ i ∷ [])) same' (subst (λ (i : ℕ). Begins IsForm (before ++ i ∷ a ∷ [])) same
    (front_begins front before (b ∷ a ∷ []) more begins split)))

joined : (front before : List ℕ) (c b : ℕ) → front ≡ before ++ c ∷ [] → front ++ b ∷ [] ≡ before ++ c ∷ b ∷ []
joined front before c b e = ap (λ t. t ++ b ∷ []) e ∙ append_assoc before (c ∷ []) (b ∷ [])

lower_slash : (front behind before after : List ℕ) (q : ℕ) → Clear front behind → front ≡ before ++ 92 ∷ [] → behind ≡ q ∷ after → is_left_out q ≡ true
    → (Begins IsForm (before ++ 92 ∷ q ∷ []) → ⊥) → ⊥
lower_slash front [] before after q clear split whole out refused = cc
lower_slash front (b ∷ rest) before after q clear split whole out refused =
    let same : b ≡ q = cc in
    refused (subst (λ (i : ℕ). Begins IsForm (before ++ 92 ∷ i ∷ [])) same
    (subst (Begins IsForm) (joined front before 92 b split) (clear.0 before split (subst (λ (i : ℕ). is_left_out i ≡ true) (sym same) out))))

lower_hyphen : (front behind before after : List ℕ) → Clear front behind → front ≡ before ++ 45 ∷ [] → behind ≡ 91 ∷ after → (Begins IsForm (before ++ 91 ∷ []) → ⊥)
    → (Begins IsForm (before ++ 45 ∷ 91 ∷ []) → ⊥) → ⊥
lower_hyphen front [] before after clear split whole never refused = cc
lower_hyphen front (b ∷ rest) before after clear split whole never refused =
    let same : b ≡ 91 = cc in
    elim (clear.1 before split same) [
      | inl h ↦ never h
      | inr h ↦ refused (subst (λ (i : ℕ). Begins IsForm (before ++ 45 ∷ i ∷ [])) same (subst (Begins IsForm) (joined front before 45 b split) h))
    ]

lower_other : (front behind before : List ℕ) (b : ℕ) (more part after : List ℕ) → Begins IsWithin front → Clear front behind → front ≡ before ++ b ∷ more → IsOther before part
    → b ∷ (more ++ behind) ≡ part ++ after → (Begins IsForm (before ++ part) → ⊥) → ⊥
lower_other front behind before b more part after begins clear split (byte c e) whole refused = one_byte front behind before more after b c begins split whole refused
lower_other front behind before b more part after begins clear split (brace goes) whole refused = one_byte front behind before more after b 123 begins split whole refused
lower_other front behind before b more part after begins clear split (escape q e) whole refused =
    two_bytes front behind before more after b 92 q begins split whole refused (λ there next. lower_slash front behind before after q clear there next e refused)
lower_other front behind before b more part after begins clear split (subtraction never) whole refused =
    two_bytes front behind before more after b 45 91 begins split whole refused (λ there next. lower_hyphen front behind before after clear there next never refused)

-- ---- no range that falls begins at a lower byte

-- no such range ends behind the place of the fault
abbrev pub Ahead : List ℕ → List ℕ → Type 0
Ahead front behind = (before : List ℕ) (b : ℕ) (more : List ℕ) (f : IsFalling before (b ∷ (more ++ behind))) (c : ℕ) (y : List ℕ) → front ≡ before ++ b ∷ more
    → item_spelling (Range f.first f.last) ≡ (b ∷ more) ++ c ∷ y → behind ≡ c ∷ (y ++ f.rest) → ⊥

lower_falling : (front behind : List ℕ) → Fine front → Ahead front behind → (before : List ℕ) (b : ℕ) (more : List ℕ) → front ≡ before ++ b ∷ more → IsFalling before (b ∷ (more ++ behind)) → ⊥
lower_falling front behind fine ahead before b more split f =
    elim (overlap (b ∷ more) behind (item_spelling (Range f.first f.last)) f.rest f.whole) [
      | inl h ↦ within h.0 h.1
      | inr h ↦ beyond h.0 h.1 h.2
    ] where
      within : (z : List ℕ) → b ∷ more ≡ item_spelling (Range f.first f.last) ++ z → ⊥
      within z whole = fine.rises before (b ∷ more) split (record {
        first = f.first;
        last = f.last;
        rest = z;
        whole = whole;
        letters = f.letters;
        falls = f.falls;
        free = f.free;
        before = f.before;
        form = f.form;
        refused = f.refused;
      })

      beyond : (z : List ℕ) → item_spelling (Range f.first f.last) ≡ (b ∷ more) ++ z → behind ≡ z ++ f.rest → ⊥
      beyond [] whole there = within [] (sym (append-nil (b ∷ more)) ∙ sym whole ∙ sym (append-nil (item_spelling (Range f.first f.last))))
      beyond (c ∷ y) whole there = ahead before b more f c y split whole there

-- what stands before the fault and the byte there begin a tree
ahead_begins : (front behind : List ℕ) (before : List ℕ) (b : ℕ) (more : List ℕ) (f : IsFalling before (b ∷ (more ++ behind))) (c : ℕ) (y : List ℕ) → front ≡ before ++ b ∷ more
    → item_spelling (Range f.first f.last) ≡ (b ∷ more) ++ c ∷ y → Begins IsWithin (front ++ c ∷ y)
ahead_begins front behind before b more f c y split whole =
    let there : before ++ item_spelling (Range f.first f.last) ≡ front ++ c ∷ y =
    ap (λ t. before ++ t) whole ∙ sym (append_assoc before (b ∷ more) (c ∷ y)) ∙ ap (λ t. t ++ c ∷ y) (sym split) in
    subst (Begins IsWithin) there f.form

ahead_byte : (front behind : List ℕ) (before : List ℕ) (b : ℕ) (more : List ℕ) (f : IsFalling before (b ∷ (more ++ behind))) (c : ℕ) (y : List ℕ) → front ≡ before ++ b ∷ more
    → item_spelling (Range f.first f.last) ≡ (b ∷ more) ++ c ∷ y → Begins IsWithin (front ++ c ∷ [])
ahead_byte front behind before b more f c y split whole =
    begins_shorter IsWithin (front ++ c ∷ []) y (subst (Begins IsWithin) (sym (append_assoc front (c ∷ []) y)) (ahead_begins front behind before b more f c y split whole))

pub sound_from : (front behind : List ℕ) → Fine front → Clear front behind → Ahead front behind → IsSound front behind
sound_from front behind fine clear ahead = record {
  begins = fine.begins;
  lower = λ before b more split. elim [
    | inl out ↦ lower_other front behind before b more out.part out.rest fine.begins clear split out.other out.whole out.refused
    | inr f ↦ lower_falling front behind fine ahead before b more split f
  ];
}

-- ---- the faults

pub form_of : (front : List ℕ) → Begins IsWithin front → Begins IsForm front
form_of front b = record { tree = b.tree; rest = b.rest; such = b.such.0; spelled = b.spelled }

pub departure_at : (front behind : List ℕ) → Fine front → Stops front behind → (IsLeftOut front behind → ⊥) → Clear front behind → IsFaultAt Syntax front behind
departure_at front behind fine stops none clear = (
  sound_from front behind fine clear (λ before b more f c y split whole there. stopped behind stops c (y ++ f.rest) there
      (form_of (front ++ c ∷ []) (ahead_byte front behind before b more f c y split whole))),
  none,
  inl stops,
) where
  stopped : (behind : List ℕ) → Stops front behind → (c : ℕ) (rest : List ℕ) → behind ≡ c ∷ rest → Begins IsForm (front ++ c ∷ []) → ⊥
  stopped [] stops c rest e begins = cc
  stopped (a ∷ behind) stops c rest e begins = let same : a ≡ c = cc in stops (subst (λ (i : ℕ). Begins IsForm (front ++ i ∷ [])) (sym same) begins)

-- at a byte with which the grammar without limits goes on, nothing is completed that is left out
going_clear : (front : List ℕ) (b : ℕ) (rest : List ℕ) → Begins IsForm (front ++ b ∷ []) → Clear front (b ∷ rest)
going_clear front b rest goes = ((λ before e out. goes), (λ before e is. inr goes))

pub large_at : (front : List ℕ) (b : ℕ) (rest : List ℕ) → Fine front → Begins IsForm (front ++ b ∷ []) → (Begins HasFewNodes (front ++ b ∷ []) → ⊥) → (IsLeftOut front (b ∷ rest) → ⊥)
    → IsFaultAt TooLarge front (b ∷ rest)
large_at front b rest fine goes many none = (
  sound_from front (b ∷ rest) fine (going_clear front b rest goes) (λ before a more f c y split whole there.
      let same : b ≡ c = cc in
      let there' = ahead_byte front (b ∷ rest) before a more f c y split whole in
      many (subst (λ (i : ℕ). Begins HasFewNodes (front ++ i ∷ [])) (sym same) (record { tree = there'.tree; rest = there'.rest; such = (there'.such.0, there'.such.1); spelled = there'.spelled }))),
  none,
  record { next = b; rest = rest; whole = refl; form = goes; many = many },
)

pub deep_at : (front rest : List ℕ) → Fine front → Begins HasFewNodes (front ++ 40 ∷ []) → (Begins HasFewGroups (front ++ 40 ∷ []) → ⊥) → (IsLeftOut front (40 ∷ rest) → ⊥)
    → IsFaultAt TooDeep front (40 ∷ rest)
deep_at front rest fine few deep none = (
  sound_from front (40 ∷ rest) fine
      (going_clear front 40 rest (record { tree = few.tree; rest = few.rest; such = few.such.0; spelled = few.spelled })) (λ before a more f c y split whole there.
      let same : 40 ≡ c = cc in
      let there' = ahead_byte front (40 ∷ rest) before a more f c y split whole in
      deep (subst (λ (i : ℕ). Begins HasFewGroups (front ++ i ∷ [])) (sym same) (record { tree = there'.tree; rest = there'.rest; such = (there'.such.0, there'.such.2); spelled = there'.spelled }))),
  none,
  record { rest = rest; whole = refl; few = few; deep = deep },
)

-- ---- what is left out

head_clear : (front : List ℕ) (b : ℕ) (rest : List ℕ) → is_left_out b ≡ false → (b ≡ 91 → ⊥) → Clear front (b ∷ rest)
head_clear front b rest kept no_open = ((λ before e out. absurd (let both = sym kept ∙ out in cc)), (λ before e is. absurd (no_open is)))

kept_bytes : (is_left_out 92 ≡ false) × (is_left_out 123 ≡ false) × (is_left_out 45 ≡ false)
unfolding is_left_out
kept_bytes = (refl, refl, refl)

byte_kept : (b : ℕ) → is_printable b ≡ false → is_left_out b ≡ false
byte_kept b e = by_bool (is_left_out b) (λ h. let k = left_out_printable b h in cc)

byte_no_open : (b : ℕ) → is_printable b ≡ false → b ≡ 91 → ⊥
byte_no_open b e is = let k : is_printable 91 ≡ false = subst (λ (i : ℕ). is_printable i ≡ false) is e in cc

out_clear : (front behind part after : List ℕ) → IsOther front part → behind ≡ part ++ after → Clear front behind
out_clear front behind part after (byte c e) whole = subst (Clear front) (sym whole) (head_clear front c after (byte_kept c e) (byte_no_open c e))
out_clear front behind part after (escape c e) whole = subst (Clear front) (sym whole) (head_clear front 92 (c ∷ after) kept_bytes.0 (λ k. omega (arith, k)))
out_clear front behind part after (brace goes) whole = subst (Clear front) (sym whole) (head_clear front 123 after kept_bytes.1 (λ k. omega (arith, k)))
out_clear front behind part after (subtraction never) whole = subst (Clear front) (sym whole) (head_clear front 45 (91 ∷ after) kept_bytes.2 (λ k. omega (arith, k)))

-- a range that ends with a byte that isn't plain ends with an escape
escape_end : (first last : Letter) (x : List ℕ) (c : ℕ) → is_class_letter last ≡ true → is_plain c ≡ false → item_spelling (Range first last) ≡ x ++ c ∷ [] → letter_spelling first ++ 45 ∷ 92 ∷ [] ≡ x
escape_end first (Plain d) x c ok never e =
    let k = (snoc_same d c (letter_spelling first ++ 45 ∷ []) x (append_assoc (letter_spelling first) (45 ∷ []) (d ∷ []) ∙ e)).1 in
    let plain : is_plain c ≡ true = subst (λ (i : ℕ). is_plain i ≡ true) k ok in
    absurd (cc)
escape_end first (Escaped d) x c ok never e =
    (snoc_same d c (letter_spelling first ++ 45 ∷ 92 ∷ []) x (append_assoc (letter_spelling first) (45 ∷ 92 ∷ []) (d ∷ []) ∙ e)).0

-- behind a hyphen and a backslash the scan stands behind a backslash
hyphen_slash : (L : Limits) (o : Option State) (m : Mode) (d n : ℕ) → advance L (advance L o 45) 92 ≡ Some (at m d n) → Escapes m
hyphen_slash L None m d n e = absurd (cc)
hyphen_slash L (Some s) m d n e = by_step (step L s.mode s.depth s.nodes 45) refl e where
  by_step : (o : Option State) → step L s.mode s.depth s.nodes 45 ≡ o → advance L o 92 ≡ Some (at m d n) → Escapes m
  by_step None is e = absurd (cc)
  by_step (Some t) is e = elim (slash_leads L t.mode t.depth t.nodes m d n e) [
    | inl h ↦ absurd (hyphen_leads L s.mode s.depth s.nodes t.mode t.depth t.nodes is h)
    | inr h ↦ h
  ]

slash_reached : (x front : List ℕ) (m : Mode) (d n : ℕ) → Reached front m d n → front ≡ x ++ 45 ∷ 92 ∷ [] → Escapes m
slash_reached x front m d n reached e =
    let L = limits false 256 16 in
    hyphen_slash L (run L begun x) m d n (sym (run-append L begun x (45 ∷ 92 ∷ [])) ∙ ap (run L begun) (sym e) ∙ reached false 256 16 (omega arith) (omega arith))

-- the two bytes of what is left out aren't parted by the end of a falling range
parted : (front behind before : List ℕ) (b : ℕ) (more : List ℕ) (f : IsFalling before (b ∷ (more ++ behind))) (c : ℕ) (m : Mode) (d n : ℕ) → front ≡ before ++ b ∷ more
    → item_spelling (Range f.first f.last) ≡ (b ∷ more) ++ c ∷ [] → is_plain c ≡ false → Reached front m d n → Escapes m
parted front behind before b more f c m d n split whole never reached =
    let e = escape_end f.first f.last (b ∷ more) c (and_true (is_class_letter f.first) (is_class_letter f.last) f.letters).1 never whole in
    slash_reached (before ++ letter_spelling f.first) front m d n reached
    (split ∙ ap (λ t. before ++ t) (sym e) ∙ sym (append_assoc before (letter_spelling f.first) (45 ∷ 92 ∷ [])))

one_ahead : (front behind : List ℕ) (k : ℕ) (after : List ℕ) → behind ≡ k ∷ after → (Begins IsForm (front ++ k ∷ []) → ⊥) → Ahead front behind
one_ahead front behind k after is refused before b more f c y split whole there =
    let same : c ≡ k = cc in
    refused (subst (λ (i : ℕ). Begins IsForm (front ++ i ∷ [])) same (form_of (front ++ c ∷ []) (ahead_byte front behind before b more f c y split whole)))

two_ahead : (front behind : List ℕ) (k j : ℕ) (after : List ℕ) (m : Mode) (d n : ℕ) → behind ≡ k ∷ j ∷ after → is_plain k ≡ false → (Begins IsForm (front ++ k ∷ j ∷ []) → ⊥)
    → Reached front m d n → (Escapes m → ⊥) → Ahead front behind
two_ahead front behind k j after m d n is never refused reached steady before b more f c [] split whole there =
    let same : c ≡ k = cc in
    steady (parted front behind before b more f c m d n split whole (subst (λ (i : ℕ). is_plain i ≡ false) (sym same) never) reached)
two_ahead front behind k j after m d n is never refused reached steady before b more f c (a ∷ y) split whole there =
    let same : c ≡ k = cc in
    let same' : a ≡ j = cc in
    let begins = ahead_begins front behind before b more f c (a ∷ y) split whole in
    let both = begins_shorter IsWithin (front ++ c ∷ a ∷ []) y (subst (Begins IsWithin) (sym (append_assoc front (c ∷ a ∷ []) y)) begins) in
    refused (subst (λ (i : ℕ). Begins IsForm (front ++ k ∷ i ∷ [])) same' (subst (λ (i : ℕ). Begins IsForm (front ++ i ∷ a ∷ [])) same (form_of (front ++ c ∷ a ∷ []) both)))

out_ahead : (front behind part after : List ℕ) (m : Mode) (d n : ℕ) → IsOther front part → behind ≡ part ++ after → (Begins IsForm (front ++ part) → ⊥)
    → Reached front m d n → (Escapes m → ⊥) → Ahead front behind
out_ahead front behind part after m d n (byte c e) whole refused reached steady = one_ahead front behind c after whole refused
out_ahead front behind part after m d n (brace goes) whole refused reached steady = one_ahead front behind 123 after whole refused
out_ahead front behind part after m d n (escape q e) whole refused reached steady = two_ahead front behind 92 q after m d n whole plain_slash refused reached steady
out_ahead front behind part after m d n (subtraction never) whole refused reached steady = two_ahead front behind 45 91 after m d n whole plain_hyphen refused reached steady

pub left_out_at : (front behind : List ℕ) (m : Mode) (d n : ℕ) → Fine front → IsLeftOut front behind → Reached front m d n → (Escapes m → ⊥) → IsFaultAt Unsupported front behind
left_out_at front behind m d n fine out reached steady = (
  sound_from front behind fine (out_clear front behind out.part out.rest out.other out.whole)
      (out_ahead front behind out.part out.rest m d n out.other out.whole out.refused reached steady),
  out,
)

pub byte_out : (front : List ℕ) (b : ℕ) (rest : List ℕ) (m : Mode) (d n : ℕ) → Reached front m d n → is_printable b ≡ false → IsLeftOut front (b ∷ rest)
byte_out front b rest m d n reached e = record {
  part = b ∷ [];
  rest = rest;
  whole = refl;
  other = byte b e;
  refused = no_form front (b ∷ []) m d n reached (λ most deepest. unprintable (limits false most deepest) m d n b e);
}

pub byte_at : (front : List ℕ) (b : ℕ) (rest : List ℕ) (m : Mode) (d n : ℕ) → Fine front → Reached front m d n → is_printable b ≡ false → IsFaultAt Unsupported front (b ∷ rest)
unfolding byte_out
byte_at front b rest m d n fine reached e =
    let out = byte_out front b rest m d n reached e in (
      sound_from front (b ∷ rest) fine (head_clear front b rest (byte_kept b e) (byte_no_open b e)) (one_ahead front (b ∷ rest) b rest refl out.refused),
      out,
    )

-- ---- a range that falls

pub range_head : (front : List ℕ) (first last : Letter) (b : ℕ) (rest after : List ℕ) → b ∷ rest ≡ item_spelling (Range first last) ++ after → Begins IsWithin (front ++ item_spelling (Range first last))
    → Begins IsWithin (front ++ b ∷ [])
range_head front (Plain a) last b rest after whole begins =
    let same : b ≡ a = cc in
    subst (λ (i : ℕ). Begins IsWithin (front ++ i ∷ [])) (sym same)
    (begins_shorter IsWithin (front ++ a ∷ []) (45 ∷ letter_spelling last) (subst (Begins IsWithin) (sym (append_assoc front (a ∷ []) (45 ∷ letter_spelling last))) begins))
range_head front (Escaped a) last b rest after whole begins =
    let same : b ≡ 92 = cc in
    subst (λ (i : ℕ). Begins IsWithin (front ++ i ∷ [])) (sym same)
    (begins_shorter IsWithin (front ++ 92 ∷ []) (a ∷ 45 ∷ letter_spelling last) (subst (Begins IsWithin) (sym (append_assoc front (92 ∷ []) (a ∷ 45 ∷ letter_spelling last))) begins))

falling_clear : (front behind : List ℕ) → IsFalling front behind → Clear front behind
falling_clear front [] f = tt
falling_clear front (b ∷ rest) f = going_clear front b rest (form_of (front ++ b ∷ []) (range_head front f.first f.last b rest f.rest f.whole f.form))

other_short : (front part : List ℕ) → IsOther front part → length part ≤ 2
other_short front part (byte c e) = omega arith
other_short front part (escape c e) = omega arith
other_short front part (brace goes) = omega arith
other_short front part (subtraction never) = omega arith

letter_long : (l : Letter) → 1 ≤ length (letter_spelling l)
letter_long (Plain b) = omega arith
letter_long (Escaped b) = omega arith

falling_none : (front behind : List ℕ) → IsFalling front behind → IsLeftOut front behind → ⊥
falling_none front behind f out =
    let range = item_spelling (Range f.first f.last) in
    elim (overlap out.part out.rest range f.rest (sym out.whole ∙ f.whole)) [
      | inl h ↦
          omega (arith, ap length h.1, length-append range h.0, length-append (letter_spelling f.first) (45 ∷ letter_spelling f.last), letter_long f.first, letter_long f.last, other_short front out.part out.other)
      | inr h ↦
          out.refused (form_of (front ++ out.part) (begins_shorter IsWithin (front ++ out.part) h.0
          (subst (Begins IsWithin) (ap (λ t. front ++ t) h.1 ∙ sym (append_assoc front out.part h.0)) f.form)))
    ]

-- a letter and a hyphen are not within a letter, nor begin with a hyphen
not_inside : (last first : Letter) (more z : List ℕ) → is_class_letter first ≡ true → letter_spelling last ≡ more ++ ((letter_spelling first ++ 45 ∷ []) ++ z) → ⊥
not_inside (Plain e) first more z ok whole =
    omega (arith, ap length whole, length-append more ((letter_spelling first ++ 45 ∷ []) ++ z), length-append (letter_spelling first ++ 45 ∷ []) z, length-append (letter_spelling first) (45 ∷ []), letter_long first)
not_inside (Escaped e) (Plain c) [] z ok whole =
    let same : 92 ≡ c = cc in
    let never = plain_slash in
    let plain : is_plain 92 ≡ true = subst (λ (i : ℕ). is_plain i ≡ true) (sym same) ok in
    cc
not_inside (Escaped e) (Escaped c) [] z ok whole = omega (arith, ap length whole)
not_inside (Escaped e) first (w ∷ more) z ok whole =
    omega (arith, ap length whole, length-append more ((letter_spelling first ++ 45 ∷ []) ++ z), length-append (letter_spelling first ++ 45 ∷ []) z, length-append (letter_spelling first) (45 ∷ []), letter_long first)

heads : (a b : ℕ) (x y : List ℕ) → a ∷ x ≡ b ∷ y → a ≡ b
heads a b x y e = cc

no_hyphen_first : (first : Letter) (x z : List ℕ) → is_class_letter first ≡ true → 45 ∷ x ≡ (letter_spelling first ++ 45 ∷ []) ++ z → ⊥
no_hyphen_first (Plain c) x z ok whole =
    let same : 45 ≡ c = cc in
    let never = plain_hyphen in
    let plain : is_plain 45 ≡ true = subst (λ (i : ℕ). is_plain i ≡ true) (sym same) ok in
    cc
no_hyphen_first (Escaped c) x z ok whole = omega (arith, heads 45 92 x (c ∷ 45 ∷ z) whole)

-- so a range begins inside another at most behind its first backslash
inside_range : (first last first' : Letter) (b : ℕ) (more z : List ℕ) → is_class_letter first' ≡ true → item_spelling (Range first last) ≡ (b ∷ more) ++ ((letter_spelling first' ++ 45 ∷ []) ++ z)
    → b ∷ more ≡ 92 ∷ []
inside_range (Plain a) last first' b [] z ok whole = absurd (no_hyphen_first first' (letter_spelling last) z ok (cc))
inside_range (Plain a) last first' b (w ∷ more) z ok whole = absurd (not_inside last first' more z ok (cc))
inside_range (Escaped a) last first' b [] z ok whole = let same : b ≡ 92 = cc in ap (λ (i : ℕ). i ∷ []) same
inside_range (Escaped a) last first' b (w ∷ []) z ok whole = absurd (no_hyphen_first first' (letter_spelling last) z ok (cc))
inside_range (Escaped a) last first' b (w ∷ v ∷ more) z ok whole = absurd (not_inside last first' more z ok (cc))

slash_then_a : (L : Limits) (o : Option State) (m : Mode) (d n : ℕ) → advance L o 92 ≡ Some (at m d n) → (Escapes m → ⊥) → advance L o 97 ≡ None
slash_then_a L None m d n e steady = refl
slash_then_a L (Some s) m d n e steady = elim (slash_leads L s.mode s.depth s.nodes m d n e) [
  | inl h ↦ escapes_no_a L s.mode s.depth s.nodes h
  | inr h ↦ absurd (steady h)
]

slash_no_a : (before front : List ℕ) (m : Mode) (d n : ℕ) → Reached front m d n → (Escapes m → ⊥) → front ≡ before ++ 92 ∷ [] → Begins IsForm (before ++ 97 ∷ []) → ⊥
slash_no_a before front m d n reached steady e free =
    let most = max 256 (choice_nodes free.tree) in
    let deepest = max 16 (choice_depth free.tree) in
    let L = limits false most deepest in
    let there : advance L (run L begun before) 92 ≡ Some (at m d n) =
    sym (run-append L begun before (92 ∷ [])) ∙ ap (run L begun) (sym e) ∙ reached false most deepest (omega arith) (omega arith) in
    barred L (before ++ 97 ∷ []) free.rest free.tree (run-append L begun before (97 ∷ []) ∙ slash_then_a L (run L begun before) m d n there steady)
    free.spelled free.such (omega arith) (omega arith)

falling_ahead : (front behind : List ℕ) (g : IsFalling front behind) (m : Mode) (d n : ℕ) → Reached front m d n → (Escapes m → ⊥) → Ahead front behind
falling_ahead front behind g m d n reached steady before b more f c y split whole there =
    let sign = letter_spelling g.first ++ 45 ∷ [] in
    let cut : (c ∷ y) ++ f.rest ≡ sign ++ (letter_spelling g.last ++ g.rest) =
    sym there ∙ g.whole ∙ append_assoc (letter_spelling g.first) (45 ∷ letter_spelling g.last) g.rest ∙ sym (append_assoc (letter_spelling g.first) (45 ∷ []) (letter_spelling g.last ++ g.rest)) in
    elim (overlap (c ∷ y) f.rest sign (letter_spelling g.last ++ g.rest) cut) [
      | inl h ↦
          let inner = inside_range f.first f.last g.first b more h.0 (and_true (is_class_letter g.first) (is_class_letter g.last) g.letters).0 (whole ∙ ap (λ t. (b ∷ more) ++ t) h.1) in
          slash_no_a before front m d n reached steady (split ∙ ap (λ t. before ++ t) inner) f.free
      | inr h ↦
          let rises = begins_shorter IsRising (front ++ c ∷ y) h.0 (subst (Begins IsRising) (ap (λ t. front ++ t) h.1 ∙ sym (append_assoc front (c ∷ y) h.0)) g.before) in
          let same : front ++ c ∷ y ≡ before ++ item_spelling (Range f.first f.last) =
          ap (λ t. t ++ c ∷ y) split ∙ append_assoc before (b ∷ more) (c ∷ y) ∙ ap (λ t. before ++ t) (sym whole) in
          f.refused (subst (Begins IsRising) same rises)
    ]

pub falling_at : (front behind : List ℕ) (m : Mode) (d n : ℕ) → Fine front → IsFalling front behind → Reached front m d n → (Escapes m → ⊥) → IsFaultAt Syntax front behind
falling_at front behind m d n fine f reached steady = (
  sound_from front behind fine (falling_clear front behind f) (falling_ahead front behind f m d n reached steady),
  falling_none front behind f,
  inr f,
)
