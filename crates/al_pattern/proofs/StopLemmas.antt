-- Where a scan stops, no text of the grammar goes on: the faults that follow.
use Rattle.std.proofs.Common.{◌≡◌, ◌≤◌, ℕ, Bool, true, false, cond, ◌&&◌, ◌==◌, ◌⊎◌, inl, inr, List, [], ◌∷◌, ◌++◌, length, Option, Some, None, Result, Ok, Err, IfOk, max, refl, ap, sym, ◌∙◌, subst, append_assoc, arith}
use Rattle.al_pattern.specs.declared.letter.Letter.{Letter}
use Rattle.al_pattern.specs.declared.letter.Letter.TheVariants.{Plain, Escaped}
use Rattle.al_pattern.specs.declared.letter.Item.TheVariants.{Range}
use Rattle.al_pattern.specs.declared.fault.FaultKind.{FaultKind}
use Rattle.al_pattern.specs.declared.fault.Fault.{Fault}
use Rattle.al_pattern.specs.Bytes.{is_printable, is_plain, begins_with}
use Rattle.al_pattern.specs.Faults.{fault_at, ◌>>=◌}
use Rattle.al_pattern.specs.Classes.{begins_left_out}
use Rattle.al_pattern.specs.Tests.{letter_spelling, item_spelling, is_class_letter}
use Rattle.al_pattern.specs.Trees.{Choice, choice_spelling, choice_nodes, choice_depth}
use Rattle.al_pattern.specs.Places.{IsForm, IsRising, HasFewNodes, HasFewGroups, IsWithin, Begins, IsOther, IsLeftOut, byte, escape, brace, subtraction, IsFalling, IsFaultAt}
use Rattle.al_pattern.proofs.CutLemmas.{and_true}
use Rattle.al_pattern.proofs.Scan.{Mode, fresh, Limits, State, at, run, begun, run-append}
use Rattle.al_pattern.proofs.ScanLemmas.{Ready, Runs}
use Rattle.al_pattern.proofs.ScanTrees.{choice_mode, choice_ready, tree_runs, barred}
use Rattle.al_pattern.proofs.CloseLemmas.{begins_shorter}

-- ---- reading that fails

-- a fact of the fault
abbrev pub Fails : {A : Type 0} → Result A Fault → (Fault → Type 0) → Type 0
Fails (Ok x) Q = Unit {0}
Fails (Err f) Q = Q f

pub if_fails : {A : Type 0} (Q : Fault → Type 0) (b : Bool) (x y : Result A Fault) → (b ≡ true → Fails x Q) → (b ≡ false → Fails y Q) → Fails (cond b x y) Q
if_fails Q true x y f g = f refl
if_fails Q false x y f g = g refl

pub bind_fails : {A B : Type 0} (P : A → Type 0) (Q : Fault → Type 0) (r : Result A Fault) (f : A → Result B Fault) → IfOk r P → Fails r Q → ((x : A) → P x → Fails (f x) Q) → Fails (r >>= f) Q
bind_fails P Q (Ok x) f p q g = g x p
bind_fails P Q (Err e) f p q g = q

-- a fault with its place in the whole text
pub record Located (whole : List ℕ) (f : Fault) : Type 0 where
  pub front : List ℕ
  pub behind : List ℕ
  pub split : whole ≡ front ++ behind
  pub left : f.left ≡ length behind
  pub found : IsFaultAt f.kind front behind

pub located : (whole front behind : List ℕ) (kind : FaultKind) → whole ≡ front ++ behind → IsFaultAt kind front behind → Located whole (fault_at kind behind)
located whole front behind kind split found = record { front = front; behind = behind; split = split; left = refl; found = found }

-- ---- what a scan reached

abbrev pub limits : Bool → ℕ → ℕ → Limits
limits rising most deepest = record { rising = rising; most = most; deepest = deepest }

-- whichever limits there are, so they are no less than those of patterns
abbrev pub Reached : List ℕ → Mode → ℕ → ℕ → Type 0
Reached front m d n = (rising : Bool) (most deepest : ℕ) → 256 ≤ most → 16 ≤ deepest → run (limits rising most deepest) begun front ≡ Some (at m d n)

pub reached_more : (front part : List ℕ) (m m' : Mode) (d d' n n' : ℕ) → Reached front m d n
    → ((rising : Bool) (most deepest : ℕ) → 256 ≤ most → 16 ≤ deepest → Runs (limits rising most deepest) (at m d n) part (at m' d' n') []) → Reached (front ++ part) m' d' n'
reached_more front part m m' d d' n n' reached runs rising most deepest few deep =
    run-append (limits rising most deepest) begun front part ∙ ap (λ o. run (limits rising most deepest) o part) (reached rising most deepest few deep)
    ∙ runs rising most deepest few deep

-- from there on the scan stops
pub stuck : (front part : List ℕ) (m : Mode) (d n : ℕ) (rising : Bool) (most deepest : ℕ) → Reached front m d n → 256 ≤ most → 16 ≤ deepest
    → run (limits rising most deepest) (Some (at m d n)) part ≡ None → run (limits rising most deepest) begun (front ++ part) ≡ None
stuck front part m d n rising most deepest reached few deep none =
    run-append (limits rising most deepest) begun front part ∙ ap (λ o. run (limits rising most deepest) o part) (reached rising most deepest few deep) ∙ none

pub no_form : (front part : List ℕ) (m : Mode) (d n : ℕ) → Reached front m d n
    → ((most deepest : ℕ) → run (limits false most deepest) (Some (at m d n)) part ≡ None) → Begins IsForm (front ++ part) → ⊥
no_form front part m d n reached none b =
    let most = max 256 (choice_nodes b.tree) in
    let deepest = max 16 (choice_depth b.tree) in
    barred (limits false most deepest) (front ++ part) b.rest b.tree (stuck front part m d n false most deepest reached (omega arith) (omega arith) (none most deepest))
    b.spelled b.such (omega arith) (omega arith)

pub no_rising : (front part : List ℕ) (m : Mode) (d n : ℕ) → Reached front m d n
    → ((most deepest : ℕ) → run (limits true most deepest) (Some (at m d n)) part ≡ None) → Begins IsRising (front ++ part) → ⊥
no_rising front part m d n reached none b =
    let most = max 256 (choice_nodes b.tree) in
    let deepest = max 16 (choice_depth b.tree) in
    barred (limits true most deepest) (front ++ part) b.rest b.tree (stuck front part m d n true most deepest reached (omega arith) (omega arith) (none most deepest))
    b.spelled b.such (omega arith) (omega arith)

pub no_few : (front part : List ℕ) (m : Mode) (d n : ℕ) → Reached front m d n
    → ((deepest : ℕ) → run (limits false 256 deepest) (Some (at m d n)) part ≡ None) → Begins HasFewNodes (front ++ part) → ⊥
no_few front part m d n reached none b =
    let deepest = max 16 (choice_depth b.tree) in
    barred (limits false 256 deepest) (front ++ part) b.rest b.tree (stuck front part m d n false 256 deepest reached (omega arith) (omega arith) (none deepest))
    b.spelled b.such.0 b.such.1 (omega arith)

pub no_deep : (front part : List ℕ) (m : Mode) (d n : ℕ) → Reached front m d n
    → ((most : ℕ) → run (limits false most 16) (Some (at m d n)) part ≡ None) → Begins HasFewGroups (front ++ part) → ⊥
no_deep front part m d n reached none b =
    let most = max 256 (choice_nodes b.tree) in
    barred (limits false most 16) (front ++ part) b.rest b.tree (stuck front part m d n false most 16 reached (omega arith) (omega arith) (none most))
    b.spelled b.such.0 (omega arith) b.such.1

-- a text that is a whole tree is scanned to the end of an atom or a branch, outside groups
pub whole_reached : (front : List ℕ) (m : Mode) (d n : ℕ) (x : Choice) → Reached front m d n → IsForm x → front ≡ choice_spelling x → Ready m × (d ≡ 0)
whole_reached front m d n x reached e spelled =
    let most = max 256 (choice_nodes x) in
    let deepest = max 16 (choice_depth x) in
    let one = reached false most deepest (omega arith) (omega arith) in
    let other : run (limits false most deepest) begun front ≡ Some (at (choice_mode fresh x) 0 (choice_nodes x)) =
    ap (λ t. run (limits false most deepest) begun t) spelled ∙ tree_runs (limits false most deepest) x e (omega arith) (omega arith) in
    let same : Some (at m d n) ≡ Some (at (choice_mode fresh x) 0 (choice_nodes x)) = sym one ∙ other in
    (subst Ready (sym (ap (shown_mode m) same)) (choice_ready fresh x tt), ap (shown_depth d) same) where
      shown_mode : Mode → Option State → Mode
      shown_mode m None = m
      shown_mode m (Some s) = s.mode

      shown_depth : ℕ → Option State → ℕ
      shown_depth d None = d
      shown_depth d (Some s) = s.depth

-- ---- no range falls before

pub record Fine (front : List ℕ) : Type 0 where
  pub begins : Begins IsWithin front
  pub rises : (before behind : List ℕ) → front ≡ before ++ behind → IsFalling before behind → ⊥

pub sound_rising : (front : List ℕ) → Begins IsWithin front → Begins IsRising front → Fine front
sound_rising front within rising = record {
  begins = within;
  rises = λ before behind split f.
      let whole : front ≡ (before ++ item_spelling (Range f.first f.last)) ++ f.rest = split ∙ ap (λ t. before ++ t) f.whole ∙ sym (append_assoc before (item_spelling (Range f.first f.last)) f.rest) in
      f.refused (begins_shorter IsRising (before ++ item_spelling (Range f.first f.last)) f.rest (subst (Begins IsRising) whole rising));
}

-- a list whose last element is known is cut before it or behind it
snoc_cut : (c : ℕ) (x y rest : List ℕ) → x ++ c ∷ [] ≡ y ++ rest → ((rest ≡ []) × (y ≡ x ++ c ∷ [])) ⊎ ((rest' : List ℕ) × (x ≡ y ++ rest'))
snoc_cut c x [] rest e = inr (x, refl)
snoc_cut c [] (b ∷ []) [] e = inl (refl, sym e)
snoc_cut c [] (b ∷ []) (a ∷ rest) e = absurd (cc)
snoc_cut c [] (b ∷ a ∷ y) rest e = absurd (cc)
snoc_cut c (a ∷ x) (b ∷ y) rest e = elim (snoc_cut c x y rest (cc)) [
  | inl h ↦ inl (h.0, cc)
  | inr h ↦ inr (h.0, (let k = h.1 in cc))
]

pub snoc_same : (b c : ℕ) (x y : List ℕ) → x ++ b ∷ [] ≡ y ++ c ∷ [] → (x ≡ y) × (b ≡ c)
snoc_same b c [] [] e = (refl, cc)
snoc_same b c [] (a ∷ []) e = absurd (cc)
snoc_same b c [] (a ∷ a' ∷ y) e = absurd (cc)
snoc_same b c (a ∷ []) [] e = absurd (cc)
snoc_same b c (a ∷ a' ∷ x) [] e = absurd (cc)
snoc_same b c (a ∷ x) (a' ∷ y) e = let h = snoc_same b c x y (cc) in let k = h.0 in (cc, h.1)

pub plain_slash : is_plain 92 ≡ false
unfolding is_plain
plain_slash = refl

pub regroup : (before x y : List ℕ) (b : ℕ) → (before ++ (x ++ y)) ++ b ∷ [] ≡ before ++ (x ++ (y ++ b ∷ []))
regroup before x y b = append_assoc before (x ++ y) (b ∷ []) ∙ ap (λ t. before ++ t) (append_assoc x y (b ∷ []))

-- no range ends with the backslash that was begun for its last end
plain_end : (front before x : List ℕ) (b : ℕ) → is_plain b ≡ true → before ++ (x ++ 45 ∷ b ∷ []) ≡ (front ++ 45 ∷ []) ++ 92 ∷ [] → ⊥
plain_end front before x b e same =
    let k = (snoc_same b 92 (before ++ (x ++ 45 ∷ [])) (front ++ 45 ∷ []) (regroup before x (45 ∷ []) b ∙ same)).1 in
    let never = plain_slash in
    let slash : is_plain 92 ≡ true = subst (λ n. is_plain n ≡ true) k e in
    cc

escaped_end : (front before x : List ℕ) (b : ℕ) → before ++ (x ++ 45 ∷ 92 ∷ b ∷ []) ≡ (front ++ 45 ∷ []) ++ 92 ∷ [] → ⊥
escaped_end front before x b same =
    let k = (snoc_same b 92 (before ++ (x ++ 45 ∷ 92 ∷ [])) (front ++ 45 ∷ []) (regroup before x (45 ∷ 92 ∷ []) b ∙ same)).0 in
    let never : 92 ≡ 45 = (snoc_same 92 45 (before ++ (x ++ 45 ∷ [])) front (regroup before x (45 ∷ []) 92 ∙ k)).1 in
    omega (arith, never)

no_last : (front before : List ℕ) (first last : Letter) → is_class_letter last ≡ true
    → before ++ (letter_spelling first ++ 45 ∷ letter_spelling last) ≡ (front ++ 45 ∷ []) ++ 92 ∷ [] → ⊥
no_last front before first (Plain b) e same = plain_end front before (letter_spelling first) b e same
no_last front before first (Escaped b) e same = escaped_end front before (letter_spelling first) b same

pub sound_begun : (front : List ℕ) → Begins IsWithin ((front ++ 45 ∷ []) ++ 92 ∷ []) → Begins IsRising (front ++ 45 ∷ []) → Fine ((front ++ 45 ∷ []) ++ 92 ∷ [])
sound_begun front within rising = record {
  begins = within;
  rises = λ before behind split f.
      let range = item_spelling (Range f.first f.last) in
      let whole : (front ++ 45 ∷ []) ++ 92 ∷ [] ≡ (before ++ range) ++ f.rest = split ∙ ap (λ t. before ++ t) f.whole ∙ sym (append_assoc before range f.rest) in
      elim (snoc_cut 92 (front ++ 45 ∷ []) (before ++ range) f.rest whole) [
        | inl h ↦ no_last front before f.first f.last (and_true (is_class_letter f.first) (is_class_letter f.last) f.letters).1 h.1
        | inr h ↦ f.refused (begins_shorter IsRising (before ++ range) h.0 (subst (Begins IsRising) h.1 rising))
      ];
}

-- ---- nothing that is left out

none_other : (front : List ℕ) (b : ℕ) (rest : List ℕ) → is_printable b ≡ true → (b == 92 && begins_left_out rest) ≡ false
    → (b ≡ 123 → Begins IsForm (front ++ 91 ∷ []) → ⊥) → (b ≡ 45 → begins_with 91 rest ≡ true → Begins IsForm (front ++ 91 ∷ []))
    → (part after : List ℕ) → IsOther front part → b ∷ rest ≡ part ++ after → ⊥
none_other front b rest shows kept outside inner part after (byte c e) whole =
    let same : b ≡ c = cc in
    let not_shown = subst (λ n. is_printable n ≡ false) (sym same) e in
    cc
none_other front b rest shows kept outside inner part after (escape c e) whole =
    let same : b ≡ 92 = cc in
    let others : rest ≡ c ∷ after = cc in
    let contrary : (92 == 92 && begins_left_out (c ∷ after)) ≡ false = subst (λ t. (92 == 92 && begins_left_out t) ≡ false) others (subst (λ n. (n == 92 && begins_left_out rest) ≡ false) same kept) in
    cc
none_other front b rest shows kept outside inner part after (brace goes) whole = outside (cc) goes
none_other front b rest shows kept outside inner part after (subtraction never) whole =
    let others : rest ≡ 91 ∷ after = cc in
    never (inner (cc) (ap (begins_with 91) others))

pub none_left_out : (front : List ℕ) (b : ℕ) (rest : List ℕ) → is_printable b ≡ true → (b == 92 && begins_left_out rest) ≡ false
    → (b ≡ 123 → Begins IsForm (front ++ 91 ∷ []) → ⊥) → (b ≡ 45 → begins_with 91 rest ≡ true → Begins IsForm (front ++ 91 ∷ [])) → IsLeftOut front (b ∷ rest) → ⊥
none_left_out front b rest shows kept outside inner out = none_other front b rest shows kept outside inner out.part out.rest out.other out.whole

end_other : (front part after : List ℕ) → IsOther front part → [] ≡ part ++ after → ⊥
end_other front part after (byte c e) whole = cc
end_other front part after (escape c e) whole = cc
end_other front part after (brace goes) whole = cc
end_other front part after (subtraction never) whole = cc

pub end_left_out : (front : List ℕ) → IsLeftOut front [] → ⊥
end_left_out front out = end_other front out.part out.rest out.other out.whole
