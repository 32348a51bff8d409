-- The language of a pattern as a function: whether a whole list of characters is in it.
use Rattle.std.specs.Prelude.{ℕ, zero, suc, Bool, true, false, not, ◌&&◌, ◌||◌, List, [], ◌∷◌, length}
use Rattle.al_pattern.specs.declared.token.Quantifier.{Quantifier}
use Rattle.al_pattern.specs.declared.token.Quantifier.TheVariants.{Once, Optional, Star, Plus}
use Rattle.al_pattern.specs.Reading.{tree_of}
use Rattle.al_pattern.specs.Tests.{is_allowed}
use Rattle.al_pattern.specs.Trees.{Choice, single, either, Branch, nothing, followed, Atom, character, group}

abbrev pub is_empty : List ℕ → Bool
is_empty [] = true
is_empty (c ∷ text) = false

-- one character, which passes
abbrev pub is_one : (ℕ → Bool) → List ℕ → Bool
is_one passes [] = false
is_one passes (c ∷ text) = is_empty text && passes c

-- some cut of the text in a front and a back passes
abbrev pub some_cut : (List ℕ → List ℕ → Bool) → List ℕ → Bool
some_cut passes [] = passes [] []
some_cut passes (c ∷ text) = passes [] (c ∷ text) || some_cut (λ front back. passes (c ∷ front) back) text

-- the text can be cut into at most so many parts that are taken, none of them empty
abbrev pub has_parts : (List ℕ → Bool) → ℕ → List ℕ → Bool
has_parts takes zero text = is_empty text
has_parts takes (suc most) text =
    is_empty text || some_cut (λ front back. not (is_empty front) && takes front && has_parts takes most back) text

-- no text has more such parts than characters
abbrev pub is_repeated : (List ℕ → Bool) → List ℕ → Bool
is_repeated takes text = has_parts takes (length text) text

abbrev pub is_quantified : Quantifier → (List ℕ → Bool) → List ℕ → Bool
is_quantified Once takes text = takes text
is_quantified Optional takes text = is_empty text || takes text
is_quantified Star takes text = is_repeated takes text
is_quantified Plus takes text = some_cut (λ front back. takes front && is_repeated takes back) text

-- a choice takes what one of its branches takes; a branch what can be cut into a part for each atom; a test one character
abbrev mutual
  pub is_in_choice : Choice → List ℕ → Bool
  is_in_choice (single b) text = is_in_branch b text
  is_in_choice (either c b) text = is_in_choice c text || is_in_branch b text

  pub is_in_branch : Branch → List ℕ → Bool
  is_in_branch nothing text = is_empty text
  is_in_branch (followed b a q) text =
      some_cut (λ front back. is_in_branch b front && is_quantified q (λ t. is_in_atom a t) back) text

  pub is_in_atom : Atom → List ℕ → Bool
  is_in_atom (character test) text = is_one (is_allowed test) text
  is_in_atom (group c) text = is_in_choice c text

-- whether the pattern of the first text has the second, as a list of characters, in its language
unfoldable pub is_in_language : List ℕ → List ℕ → Bool
is_in_language pattern text = is_in_choice (tree_of pattern) text
