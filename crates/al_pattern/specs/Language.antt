-- The language of a pattern: which whole lists of characters it takes, cut in parts.
use Rattle.std.specs.Prelude.{◌≡◌, ◌≢◌, ℕ, true, ◌⊎◌, List, [], ◌∷◌, ◌++◌}
use Rattle.std.specs.List.{concat}
use Rattle.al_pattern.specs.declared.token.Quantifier.{Quantifier}
use Rattle.al_pattern.specs.declared.token.Quantifier.TheVariants.{Once, Optional, Star, Plus}
use Rattle.al_pattern.specs.Tests.{is_allowed}
use Rattle.al_pattern.specs.Trees.{Choice, single, either, Branch, nothing, followed, Atom, character, group}

-- each part is taken, and none is empty
abbrev pub AreParts : (List ℕ → Type 0) → List (List ℕ) → Type 0
AreParts Takes [] = Unit {0}
AreParts Takes (part ∷ parts) = (part ≢ []) × Takes part × AreParts Takes parts

-- the text can be cut into such parts, maybe none
abbrev pub IsRepeated : (List ℕ → Type 0) → List ℕ → Type 0
IsRepeated Takes text = (parts : List (List ℕ)) × AreParts Takes parts × (text ≡ concat parts)

abbrev pub IsQuantified : Quantifier → (List ℕ → Type 0) → List ℕ → Type 0
IsQuantified Once Takes text = Takes text
IsQuantified Optional Takes text = (text ≡ []) ⊎ Takes text
IsQuantified Star Takes text = IsRepeated Takes text
IsQuantified Plus Takes text = (front : List ℕ) × (back : List ℕ) × (text ≡ front ++ back) × Takes front × IsRepeated Takes back

-- a choice takes what one of its branches takes; a branch what can be cut into a part for each atom; a test one character
abbrev mutual
  pub IsInLanguage : Choice → List ℕ → Type 0
  IsInLanguage (single b) text = IsInBranch b text
  IsInLanguage (either c b) text = IsInLanguage c text ⊎ IsInBranch b text

  pub IsInBranch : Branch → List ℕ → Type 0
  IsInBranch nothing text = text ≡ []
  IsInBranch (followed b a q) text =
      (front : List ℕ) × (back : List ℕ) × (text ≡ front ++ back) × IsInBranch b front × IsQuantified q (λ t. IsInAtom a t) back

  pub IsInAtom : Atom → List ℕ → Type 0
  IsInAtom (character test) text = (c : ℕ) × (text ≡ c ∷ []) × (is_allowed test c ≡ true)
  IsInAtom (group c) text = IsInLanguage c text
