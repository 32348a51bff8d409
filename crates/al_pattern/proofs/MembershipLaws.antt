-- The function says what the relation says: whether a text is in the language of a pattern.
use Rattle.std.proofs.Common.{◌≡◌, ◌≢◌, ℕ, zero, suc, ◌≤◌, Bool, true, not, ◌&&◌, ◌||◌, ◌⊎◌, inl, inr, List, [], ◌∷◌, ◌++◌, length, refl, ap, subst, ◌∙◌, length-append, arith}
use Rattle.std.specs.Bool.{Decides}
use Rattle.std.specs.List.{concat}
use Rattle.std.proofs.lemmas.Bool.{false≢true}
use Rattle.std.proofs.lemmas.Bool.Decides.{Decides-and, Decides-or, Decides-like, Decides-not}
use Rattle.al_pattern.specs.declared.token.Quantifier.{Quantifier}
use Rattle.al_pattern.specs.declared.token.Quantifier.TheVariants.{Once, Optional, Star, Plus}
use Rattle.al_pattern.specs.Language.{AreParts, IsRepeated, IsQuantified, IsInLanguage, IsInBranch, IsInAtom}
use Rattle.al_pattern.specs.Membership.{is_empty, is_one, some_cut, has_parts, is_repeated, is_quantified, is_in_choice, is_in_branch, is_in_atom, is_in_language}
use Rattle.al_pattern.specs.Reading.{tree_of}
use Rattle.al_pattern.specs.Tests.{is_allowed}
use Rattle.al_pattern.specs.Trees.{Choice, single, either, Branch, nothing, followed, Atom, character, group}
use Rattle.al_pattern.proofs.CutLemmas.{cut, nil_cut}

decides_empty : (text : List ℕ) → Decides (is_empty text) (text ≡ [])
decides_empty [] = (λ h. refl, λ h. refl)
decides_empty (c ∷ text) = (λ h. absurd (false≢true h), λ h. absurd (cc))

-- the text is cut so
abbrev IsCutAs : (List ℕ → List ℕ → Type 0) → List ℕ → Type 0
IsCutAs P text = (front : List ℕ) × (back : List ℕ) × (text ≡ front ++ back) × P front back

none_before : (P : List ℕ → List ℕ → Type 0) → IsCutAs P [] → P [] []
none_before P h =
    let nils = nil_cut h.0 h.1 h.2 in
    subst (λ t. P [] t) nils.1 (subst (λ t. P t h.1) nils.0 h.3)

one_before : (P : List ℕ → List ℕ → Type 0) (c : ℕ) (text : List ℕ) → P [] (c ∷ text) ⊎ IsCutAs (λ front back. P (c ∷ front) back) text → IsCutAs P (c ∷ text)
one_before P c text (inl h) = ([], c ∷ text, refl, h)
one_before P c text (inr h) = (c ∷ h.0, h.1, ap (λ t. c ∷ t) h.2, h.3)

one_behind : (P : List ℕ → List ℕ → Type 0) (c : ℕ) (text : List ℕ) → IsCutAs P (c ∷ text) → P [] (c ∷ text) ⊎ IsCutAs (λ front back. P (c ∷ front) back) text
one_behind P c text h = elim (cut c text h.0 h.1 h.2) [
  | inl k ↦ inl (subst (λ t. P [] t) k.1 (subst (λ t. P t h.1) k.0 h.3))
  | inr k ↦ inr (k.0, h.1, k.2, subst (λ t. P t h.1) k.1 h.3)
]

decides_cut : (p : List ℕ → List ℕ → Bool) (P : List ℕ → List ℕ → Type 0) (text : List ℕ) → ((front back : List ℕ) → Decides (p front back) (P front back)) → Decides (some_cut p text) (IsCutAs P text)
decides_cut p P [] each = Decides-like (p [] []) (λ h. ([], [], refl, h)) (none_before P) (each [] [])
decides_cut p P (c ∷ text) each =
    let later = decides_cut (λ front back. p (c ∷ front) back) (λ front back. P (c ∷ front) back) text (λ front back. each (c ∷ front) back) in
    Decides-like (p [] (c ∷ text) || some_cut (λ front back. p (c ∷ front) back) text) (one_before P c text) (one_behind P c text)
    (Decides-or (p [] (c ∷ text)) (some_cut (λ front back. p (c ∷ front) back) text) (each [] (c ∷ text)) later)

-- ---- parts

abbrev HasParts : (List ℕ → Type 0) → ℕ → List ℕ → Type 0
HasParts Takes most text = (parts : List (List ℕ)) × AreParts Takes parts × (text ≡ concat parts) × (length parts ≤ most)

abbrev BeginsParts : (List ℕ → Type 0) → ℕ → List ℕ → List ℕ → Type 0
BeginsParts Takes most front back = ((¬ (front ≡ [])) × Takes front) × HasParts Takes most back

parts_made : (Takes : List ℕ → Type 0) (most : ℕ) (text : List ℕ) → (text ≡ []) ⊎ IsCutAs (BeginsParts Takes most) text → HasParts Takes (suc most) text
parts_made Takes most text (inl e) = ([], tt, e, omega arith)
parts_made Takes most text (inr h) =
    let more = h.3.1 in
    let few : length more.0 ≤ most = more.3 in
    (h.0 ∷ more.0, (h.3.0.0, h.3.0.1, more.1), h.2 ∙ ap (λ t. h.0 ++ t) more.2, omega arith)

parts_cut : (Takes : List ℕ → Type 0) (most : ℕ) (text : List ℕ) (parts : List (List ℕ)) → AreParts Takes parts → text ≡ concat parts → length parts ≤ suc most
    → (text ≡ []) ⊎ IsCutAs (BeginsParts Takes most) text
parts_cut Takes most text [] are e few = inl e
parts_cut Takes most text (part ∷ parts) are e few = inr (part, concat parts, e, ((are.0, are.1), (parts, are.2, refl, omega arith)))

no_parts_made : (Takes : List ℕ → Type 0) (text : List ℕ) → text ≡ [] → HasParts Takes 0 text
no_parts_made Takes text e = ([], tt, e, omega arith)

no_parts : (Takes : List ℕ → Type 0) (text : List ℕ) (parts : List (List ℕ)) → text ≡ concat parts → length parts ≤ 0 → text ≡ []
no_parts Takes text [] e few = e
no_parts Takes text (part ∷ parts) e few = absurd (omega arith)

decides_parts : (takes : List ℕ → Bool) (Takes : List ℕ → Type 0) (most : ℕ) (text : List ℕ) → ((t : List ℕ) → Decides (takes t) (Takes t)) → Decides (has_parts takes most text) (HasParts Takes most text)
decides_parts takes Takes zero text each = Decides-like (is_empty text) (no_parts_made Takes text) (λ h. no_parts Takes text h.0 h.2 h.3) (decides_empty text)
decides_parts takes Takes (suc most) text each =
    let begins : (front back : List ℕ) → Decides (not (is_empty front) && takes front && has_parts takes most back) (BeginsParts Takes most front back) =
    λ front back. Decides-and (not (is_empty front) && takes front) (has_parts takes most back)
    (Decides-and (not (is_empty front)) (takes front) (Decides-not (is_empty front) (decides_empty front)) (each front)) (decides_parts takes Takes most back each) in
    Decides-like (has_parts takes (suc most) text) (parts_made Takes most text) (λ h. parts_cut Takes most text h.0 h.1 h.2 h.3)
    (Decides-or (is_empty text) (some_cut (λ front back. not (is_empty front) && takes front && has_parts takes most back) text) (decides_empty text)
    (decides_cut (λ front back. not (is_empty front) && takes front && has_parts takes most back) (BeginsParts Takes most) text begins))

has_some : (part : List ℕ) → part ≢ [] → 1 ≤ length part
has_some [] some = absurd (some refl)
has_some (c ∷ part) some = omega arith

few_parts : (Takes : List ℕ → Type 0) (parts : List (List ℕ)) → AreParts Takes parts → length parts ≤ length (concat parts)
few_parts Takes [] are = omega arith
few_parts Takes (part ∷ parts) are =
    let some = has_some part are.0 in
    let rest = few_parts Takes parts are.2 in
    omega (arith, length-append part (concat parts))

decides_repeated : (takes : List ℕ → Bool) (Takes : List ℕ → Type 0) (text : List ℕ) → ((t : List ℕ) → Decides (takes t) (Takes t)) → Decides (is_repeated takes text) (IsRepeated Takes text)
decides_repeated takes Takes text each =
    Decides-like (is_repeated takes text) (λ h. (h.0, h.1, h.2))
    (λ h. let few = few_parts Takes h.0 h.1 in let same = ap length h.2 in (h.0, h.1, h.2, omega arith))
    (decides_parts takes Takes (length text) text each)

decides_quantified : (q : Quantifier) (takes : List ℕ → Bool) (Takes : List ℕ → Type 0) (text : List ℕ) → ((t : List ℕ) → Decides (takes t) (Takes t)) → Decides (is_quantified q takes text) (IsQuantified q Takes text)
decides_quantified Once takes Takes text each = each text
decides_quantified Optional takes Takes text each = Decides-or (is_empty text) (takes text) (decides_empty text) (each text)
decides_quantified Star takes Takes text each = decides_repeated takes Takes text each
decides_quantified Plus takes Takes text each =
    Decides-like (is_quantified Plus takes text) (λ h. (h.0, h.1, h.2, h.3.0, h.3.1)) (λ h. (h.0, h.1, h.2, (h.3, h.4)))
    (decides_cut (λ front back. takes front && is_repeated takes back) (λ front back. Takes front × IsRepeated Takes back) text
    (λ front back. Decides-and (takes front) (is_repeated takes back) (each front) (decides_repeated takes Takes back each)))

-- ---- patterns

decides_one : (p : ℕ → Bool) (text : List ℕ) → Decides (is_one p text) ((c : ℕ) × (text ≡ c ∷ []) × (p c ≡ true))
decides_one p [] = (λ h. absurd (false≢true h), λ h. absurd (let e = h.1 in cc))
decides_one p (c ∷ []) = (λ h. (c, refl, h), λ h. (let e = h.1 in let same : h.0 ≡ c = cc in subst (λ n. p n ≡ true) same h.2))
decides_one p (c ∷ d ∷ text) = (λ h. absurd (false≢true h), λ h. absurd (let e = h.1 in cc))

mutual
  decides_choice : (x : Choice) (text : List ℕ) → Decides (is_in_choice x text) (IsInLanguage x text)
  decides_choice (single b) text = decides_branch b text
  decides_choice (either x b) text = Decides-or (is_in_choice x text) (is_in_branch b text) (decides_choice x text) (decides_branch b text)

  decides_branch : (b : Branch) (text : List ℕ) → Decides (is_in_branch b text) (IsInBranch b text)
  decides_branch nothing text = decides_empty text
  decides_branch (followed b a q) text =
      Decides-like (is_in_branch (followed b a q) text) (λ h. (h.0, h.1, h.2, h.3.0, h.3.1)) (λ h. (h.0, h.1, h.2, (h.3, h.4)))
      (decides_cut (λ front back. is_in_branch b front && is_quantified q (λ t. is_in_atom a t) back) (λ front back. IsInBranch b front × IsQuantified q (λ t. IsInAtom a t) back) text
      (λ front back. Decides-and (is_in_branch b front) (is_quantified q (λ t. is_in_atom a t) back) (decides_branch b front)
      (decides_quantified q (λ t. is_in_atom a t) (λ t. IsInAtom a t) back (λ t. decides_atom a t))))

  decides_atom : (a : Atom) (text : List ℕ) → Decides (is_in_atom a text) (IsInAtom a text)
  decides_atom (character t) text = decides_one (is_allowed t) text
  decides_atom (group x) text = decides_choice x text

-- The function is true exactly where the relation holds.
pub decides_language : (pattern text : List ℕ) → Decides (is_in_language pattern text) (IsInLanguage (tree_of pattern) text)
unfolding is_in_language
decides_language pattern text = decides_choice (tree_of pattern) text
