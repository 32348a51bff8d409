-- Where a text leaves the patterns, and why, by the trees that may be written with it in front.
use Rattle.std.specs.Prelude.{◌≡◌, ℕ, ◌≤◌, ◌<◌, Bool, true, false, not, ◌&&◌, ◌||◌, ◌⊎◌, List, [], ◌∷◌, ◌++◌, length, take, drop}
use Rattle.al_pattern.specs.declared.letter.Letter.{Letter}
use Rattle.al_pattern.specs.declared.letter.Item.{Item}
use Rattle.al_pattern.specs.declared.letter.Item.TheVariants.{One, Range, Digit, Space}
use Rattle.al_pattern.specs.declared.fault.FaultKind.{FaultKind}
use Rattle.al_pattern.specs.declared.fault.FaultKind.TheVariants as kinds
use Rattle.al_pattern.specs.declared.fault.PatternFault.{PatternFault}
use Rattle.al_pattern.specs.declared.fault.PatternFault.TheVariants as faults
use Rattle.al_pattern.specs.Bytes.{is_printable, is_left_out}
use Rattle.al_pattern.specs.Letters.{value_of}
use Rattle.al_pattern.specs.Tests.{Test, letter, dot, digit, space, class, letter_spelling, item_spelling, is_class_letter, is_hyphen, begins_negated, is_test}
use Rattle.al_pattern.specs.Trees.{Choice, single, either, Branch, nothing, followed, Atom, character, group, choice_spelling, choice_nodes, choice_depth, is_choice}

-- ---- the grammar without its limits, the ends of a range in any order

abbrev pub is_item_form : Item → Bool
is_item_form (One l) = is_class_letter l
is_item_form (Range first last) = is_class_letter first && is_class_letter last
is_item_form Digit = true
is_item_form Space = true

-- one item at least; a bare hyphen only as the first or the last
abbrev pub are_item_forms : Bool → List Item → Bool
are_item_forms is_first [] = not is_first
are_item_forms is_first (item ∷ []) = is_item_form item || is_hyphen item
are_item_forms is_first (item ∷ next ∷ items) =
    (is_item_form item || (is_hyphen item && is_first)) && are_item_forms false (next ∷ items)

abbrev pub is_test_form : Test → Bool
is_test_form (letter l) = is_test (letter l)
is_test_form dot = true
is_test_form digit = true
is_test_form space = true
is_test_form (class negated items) = are_item_forms true items && (negated || not (begins_negated items))

abbrev mutual
  pub is_form : Choice → Bool
  is_form (single b) = is_branch_form b
  is_form (either c b) = is_form c && is_branch_form b

  pub is_branch_form : Branch → Bool
  is_branch_form nothing = true
  is_branch_form (followed b a q) = is_branch_form b && is_atom_form a

  pub is_atom_form : Atom → Bool
  is_atom_form (character t) = is_test_form t
  is_atom_form (group c) = is_form c

-- ---- what begins a pattern

abbrev pub IsForm : Choice → Type 0
IsForm tree = is_form tree ≡ true

-- no range falls
abbrev pub IsRising : Choice → Type 0
IsRising tree = is_choice tree ≡ true

abbrev pub HasFewNodes : Choice → Type 0
HasFewNodes tree = (is_form tree ≡ true) × (choice_nodes tree ≤ 256)

abbrev pub HasFewGroups : Choice → Type 0
HasFewGroups tree = (is_form tree ≡ true) × (choice_depth tree ≤ 16)

abbrev pub IsWithin : Choice → Type 0
IsWithin tree = (is_form tree ≡ true) × (choice_nodes tree ≤ 256) × (choice_depth tree ≤ 16)

-- the text stands in front of the spelling of some such tree
pub record Begins (Is : Choice → Type 0) (front : List ℕ) : Type 0 where
  pub tree : Choice
  pub rest : List ℕ
  pub such : Is tree
  pub spelled : front ++ rest ≡ choice_spelling tree

-- ---- what may be wrong behind a text

-- what this profile leaves out: a byte that isn't printable, a backslash before a letter or digit, an open brace outside a
-- class, where a class may begin, and the subtraction -[ in a class, where none may
pub data IsOther (front : List ℕ) : List ℕ → Type 0 where
  byte : (b : ℕ) → is_printable b ≡ false → IsOther front (b ∷ [])
  escape : (b : ℕ) → is_left_out b ≡ true → IsOther front (92 ∷ b ∷ [])
  brace : Begins IsForm (front ++ 91 ∷ []) → IsOther front (123 ∷ [])
  subtraction : (Begins IsForm (front ++ 91 ∷ []) → ⊥) → IsOther front (45 ∷ 91 ∷ [])

-- it stands there, and isn't of the grammar, as it may be behind a backslash
pub record IsLeftOut (front behind : List ℕ) : Type 0 where
  pub part : List ℕ
  pub rest : List ℕ
  pub whole : behind ≡ part ++ rest
  pub other : IsOther front part
  pub refused : Begins IsForm (front ++ part) → ⊥

-- a range whose ends fall begins there: before its last end all may rise, and with it nothing; an a may stand there, so it
-- doesn't begin behind a backslash
pub record IsFalling (front behind : List ℕ) : Type 0 where
  pub first : Letter
  pub last : Letter
  pub rest : List ℕ
  pub whole : behind ≡ item_spelling (Range first last) ++ rest
  pub letters : (is_class_letter first && is_class_letter last) ≡ true
  pub falls : value_of last < value_of first
  pub free : Begins IsForm (front ++ 97 ∷ [])
  pub before : Begins IsRising (front ++ (letter_spelling first ++ 45 ∷ []))
  pub form : Begins IsWithin (front ++ item_spelling (Range first last))
  pub refused : Begins IsRising (front ++ item_spelling (Range first last)) → ⊥

-- the text ends too soon, or nothing of the grammar has the byte there
abbrev pub Stops : List ℕ → List ℕ → Type 0
Stops front [] = (tree : Choice) → IsForm tree → front ≡ choice_spelling tree → ⊥
Stops front (b ∷ behind) = Begins IsForm (front ++ b ∷ []) → ⊥

-- the byte begins node 257
pub record IsTooLarge (front behind : List ℕ) : Type 0 where
  pub next : ℕ
  pub rest : List ℕ
  pub whole : behind ≡ next ∷ rest
  pub form : Begins IsForm (front ++ next ∷ [])
  pub many : Begins HasFewNodes (front ++ next ∷ []) → ⊥

-- the byte opens the seventeenth group in groups
pub record IsTooDeep (front behind : List ℕ) : Type 0 where
  pub rest : List ℕ
  pub whole : behind ≡ 40 ∷ rest
  pub few : Begins HasFewNodes (front ++ 40 ∷ [])
  pub deep : Begins HasFewGroups (front ++ 40 ∷ []) → ⊥

-- ---- the fault of a text

-- nothing is wrong before: what stands there begins a tree within the limits, and at no byte of it anything left out or a
-- falling range begins
pub record IsSound (front behind : List ℕ) : Type 0 where
  pub begins : Begins IsWithin front
  pub lower : (before : List ℕ) (b : ℕ) (more : List ℕ) → front ≡ before ++ b ∷ more
      → IsLeftOut before (b ∷ (more ++ behind)) ⊎ IsFalling before (b ∷ (more ++ behind)) → ⊥

abbrev pub IsFaultAt : FaultKind → List ℕ → List ℕ → Type 0
IsFaultAt kinds.Unsupported front behind = IsSound front behind × IsLeftOut front behind
IsFaultAt kinds.TooLarge front behind = IsSound front behind × (IsLeftOut front behind → ⊥) × IsTooLarge front behind
IsFaultAt kinds.TooDeep front behind = IsSound front behind × (IsLeftOut front behind → ⊥) × IsTooDeep front behind
IsFaultAt kinds.Syntax front behind =
    IsSound front behind × (IsLeftOut front behind → ⊥) × (Stops front behind ⊎ IsFalling front behind)

abbrev pub IsFaultIn : FaultKind → List ℕ → ℕ → Type 0
IsFaultIn kind text n = (n ≤ length text) × IsFaultAt kind (take n text) (drop n text)

-- the fault stands where the grammar says; want of memory has no place
abbrev pub IsPlaced : List ℕ → PatternFault → Type 0
IsPlaced text faults.Memory = ⊥
IsPlaced text (faults.Syntax n) = IsFaultIn kinds.Syntax text n
IsPlaced text (faults.Unsupported n) = IsFaultIn kinds.Unsupported text n
IsPlaced text (faults.TooLarge n) = IsFaultIn kinds.TooLarge text n
IsPlaced text (faults.TooDeep n) = IsFaultIn kinds.TooDeep text n
