-- The spelling of a tree is scanned to its end, where the limits allow the tree.
use Rattle.std.proofs.Common.{◌≡◌, ◌≤◌, ◌+◌, ℕ, suc, Bool, true, false, not, cond, ◌&&◌, ◌||◌, ◌==◌, ◌⊎◌, nat_lt, nat_le, List, ◌∷◌, Some, None, refl, ap, ◌∙◌, arith}
use Rattle.std.proofs.lemmas.Bool.Decides.{nat_tests}
use Rattle.al_pattern.specs.declared.letter.Letter.{Letter}
use Rattle.al_pattern.specs.declared.letter.Item.{Item}
use Rattle.al_pattern.specs.declared.letter.Item.TheVariants.{One, Range, Digit, Space}
use Rattle.al_pattern.specs.Bytes.{is_char, is_escape, begins_with}
use Rattle.al_pattern.specs.Letters.{value_of}
use Rattle.al_pattern.specs.Tests.{is_class_letter, is_item}
use Rattle.al_pattern.specs.Tokens.{begins_node, quantifier_of}
use Rattle.al_pattern.specs.Places.{is_item_form}
use Rattle.al_pattern.proofs.CutLemmas.{and_true, or_true}
use Rattle.al_pattern.proofs.TestLemmas.{differs, not_true}
use Rattle.al_pattern.proofs.AgainLemmas.{no_quantifier, EndsLetter}
use Rattle.al_pattern.proofs.Scan.{Mode, fresh, behind_atom, behind_slash, opened, first_item, next_item, last_hyphen, item_slash, behind_letter, range_hyphen, range_slash, Limits, State, at, started, begin, quantified, item_begin, class_step, inside, step, run}

-- ---- facts of either kind: with rising ranges, or with ranges in any order

abbrev pub Good : Bool → Bool → Bool → Type 0
Good r a b = cond r a b ≡ true

pub good_and : (r a b a' b' : Bool) → Good r (a && a') (b && b') → Good r a b × Good r a' b'
good_and true a b a' b' e = and_true a a' e
good_and false a b a' b' e = and_true b b' e

pub good_or : (r a b c : Bool) → Good r (a || c) (b || c) → Good r a b ⊎ (c ≡ true)
good_or true a b c e = or_true a c e
good_or false a b c e = or_true b c e

pub good_same : (r a : Bool) → Good r a a → a ≡ true
good_same true a e = e
good_same false a e = e

pub item_is_form : (item : Item) → is_item item ≡ true → is_item_form item ≡ true
item_is_form (One l) e = e
item_is_form (Range first last) e = (and_true (is_class_letter first && is_class_letter last) (nat_le (value_of first) (value_of last)) e).0
item_is_form Digit e = refl
item_is_form Space e = refl

pub good_form : (r : Bool) (item : Item) → Good r (is_item item) (is_item_form item) → is_item_form item ≡ true
good_form true item e = item_is_form item e
good_form false item e = e

not_below : (a b : ℕ) → nat_le a b ≡ true → nat_lt b a ≡ false
not_below a b e = grind (arith, nat_tests)

pub good_order : (r : Bool) (first last : Letter) → Good r (is_item (Range first last)) (is_item_form (Range first last)) → (r && nat_lt (value_of last) (value_of first)) ≡ false
good_order true first last e =
    not_below (value_of first) (value_of last) (and_true (is_class_letter first && is_class_letter last) (nat_le (value_of first) (value_of last)) e).1
good_order false first last e = refl

-- ---- one step

-- where an atom may begin
abbrev pub Ready : Mode → Type 0
Ready fresh = Unit {0}
Ready behind_atom = Unit {0}
Ready m = ⊥

-- and where none of the text's bytes is a quantifier of what was before
abbrev pub Calm : Mode → List ℕ → Type 0
Calm fresh text = Unit {0}
Calm behind_atom text = no_quantifier text
Calm m text = ⊥

pub calm_from : (m : Mode) (text : List ℕ) → Ready m → no_quantifier text → Calm m text
calm_from fresh text r none = tt
calm_from behind_atom text r none = none
calm_from behind_slash text r none = r
calm_from opened text r none = r
calm_from first_item text r none = r
calm_from next_item text r none = r
calm_from last_hyphen text r none = r
calm_from item_slash text r none = r
calm_from (behind_letter v) text r none = r
calm_from (range_hyphen v) text r none = r
calm_from (range_slash v) text r none = r

pub calm_step : (L : Limits) (m : Mode) (d n b : ℕ) (rest : List ℕ) → Calm m (b ∷ rest) → step L m d n b ≡ begin L d n b
calm_step L fresh d n b rest calm = refl
calm_step L behind_atom d n b rest calm = ap (quantified L d n b) calm
calm_step L behind_slash d n b rest calm = absurd calm
calm_step L opened d n b rest calm = absurd calm
calm_step L first_item d n b rest calm = absurd calm
calm_step L next_item d n b rest calm = absurd calm
calm_step L last_hyphen d n b rest calm = absurd calm
calm_step L item_slash d n b rest calm = absurd calm
calm_step L (behind_letter v) d n b rest calm = absurd calm
calm_step L (range_hyphen v) d n b rest calm = absurd calm
calm_step L (range_slash v) d n b rest calm = absurd calm

pub below : (a b : ℕ) → a + 1 ≤ b → nat_lt a b ≡ true
below a b le = grind (arith, nat_tests)

pub begin_node : (L : Limits) (d n b : ℕ) → (b == 41) ≡ false → begins_node b ≡ true → n + 1 ≤ L.most → begin L d n b ≡ started L d n b
unfolding begin
begin_node L d n b no_close begins room = rw (no_close, begins, below n L.most room) refl

pub record IsChar (b : ℕ) : Type 0 where
  pub no_close : (b == 41) ≡ false
  pub no_bar : (b == 124) ≡ false
  pub no_open : (b == 40) ≡ false
  pub no_slash : (b == 92) ≡ false
  pub no_class : (b == 91) ≡ false
  pub begins : begins_node b ≡ true
  pub none : quantifier_of b ≡ None

pub char_facts : (b : ℕ) → is_char b ≡ true → IsChar b
unfolding is_char
char_facts b e = record {
  no_close = differs is_char b 41 e refl;
  no_bar = differs is_char b 124 e refl;
  no_open = differs is_char b 40 e refl;
  no_slash = differs is_char b 92 e refl;
  no_class = differs is_char b 91 e refl;
  begins = rw e refl;
  none = rw (differs is_char b 63 e refl, differs is_char b 42 e refl, differs is_char b 43 e refl) refl;
}

-- from one place of a scan to another
abbrev pub Runs : Limits → State → List ℕ → State → List ℕ → Type 0
Runs L s text s' rest = run L (Some s) text ≡ run L (Some s') rest

pub step_runs : (L : Limits) (m : Mode) (d n b : ℕ) (rest : List ℕ) (s : State) → step L m d n b ≡ Some s → Runs L (at m d n) (b ∷ rest) s rest
step_runs L m d n b rest s e = ap (λ o. run L o rest) e

pub char_runs : (L : Limits) (m : Mode) (d n b : ℕ) (rest : List ℕ) → Ready m → is_char b ≡ true → n + 1 ≤ L.most → Runs L (at m d n) (b ∷ rest) (at behind_atom d (n + 1)) rest
unfolding started
char_runs L m d n b rest ready e room =
    let f = char_facts b e in
    step_runs L m d n b rest (at behind_atom d (n + 1))
    (calm_step L m d n b rest (calm_from m (b ∷ rest) ready f.none) ∙ begin_node L d n b f.no_close f.begins room ∙ rw (f.no_bar, f.no_open, f.no_slash, f.no_class) refl)

pub dot_runs : (L : Limits) (m : Mode) (d n : ℕ) (rest : List ℕ) → Ready m → n + 1 ≤ L.most → Runs L (at m d n) (46 ∷ rest) (at behind_atom d (n + 1)) rest
unfolding started is_char
dot_runs L m d n rest ready room =
    step_runs L m d n 46 rest (at behind_atom d (n + 1)) (calm_step L m d n 46 rest (calm_from m (46 ∷ rest) ready refl) ∙ begin_node L d n 46 refl refl room)

pub slash_runs : (L : Limits) (m : Mode) (d n : ℕ) (rest : List ℕ) → Ready m → n + 1 ≤ L.most → Runs L (at m d n) (92 ∷ rest) (at behind_slash d (n + 1)) rest
unfolding started is_char
slash_runs L m d n rest ready room =
    step_runs L m d n 92 rest (at behind_slash d (n + 1)) (calm_step L m d n 92 rest (calm_from m (92 ∷ rest) ready refl) ∙ begin_node L d n 92 refl refl room)

pub open_runs : (L : Limits) (m : Mode) (d n : ℕ) (rest : List ℕ) → Ready m → n + 1 ≤ L.most → Runs L (at m d n) (91 ∷ rest) (at opened d (n + 1)) rest
unfolding started is_char
open_runs L m d n rest ready room =
    step_runs L m d n 91 rest (at opened d (n + 1)) (calm_step L m d n 91 rest (calm_from m (91 ∷ rest) ready refl) ∙ begin_node L d n 91 refl refl room)

pub bar_runs : (L : Limits) (m : Mode) (d n : ℕ) (rest : List ℕ) → Ready m → n + 1 ≤ L.most → Runs L (at m d n) (124 ∷ rest) (at fresh d (n + 1)) rest
unfolding started is_char
bar_runs L m d n rest ready room =
    step_runs L m d n 124 rest (at fresh d (n + 1)) (calm_step L m d n 124 rest (calm_from m (124 ∷ rest) ready refl) ∙ begin_node L d n 124 refl refl room)

pub group_runs : (L : Limits) (m : Mode) (d n : ℕ) (rest : List ℕ) → Ready m → n + 1 ≤ L.most → d + 1 ≤ L.deepest → Runs L (at m d n) (40 ∷ rest) (at fresh (suc d) (n + 1)) rest
unfolding started is_char
group_runs L m d n rest ready room deep =
    step_runs L m d n 40 rest (at fresh (suc d) (n + 1))
    (calm_step L m d n 40 rest (calm_from m (40 ∷ rest) ready refl) ∙ begin_node L d n 40 refl refl room ∙ rw (below d L.deepest deep) refl)

pub close_runs : (L : Limits) (m : Mode) (d n : ℕ) (rest : List ℕ) → Ready m → Runs L (at m (suc d) n) (41 ∷ rest) (at behind_atom d n) rest
unfolding begin
close_runs L m d n rest ready =
    step_runs L m (suc d) n 41 rest (at behind_atom d n) (calm_step L m (suc d) n 41 rest (calm_from m (41 ∷ rest) ready refl))

pub escape_runs : (L : Limits) (d n b : ℕ) (rest : List ℕ) → (is_escape b || (b == 100 || b == 115)) ≡ true → Runs L (at behind_slash d n) (b ∷ rest) (at behind_atom d n) rest
escape_runs L d n b rest e = step_runs L behind_slash d n b rest (at behind_atom d n) (rw e refl)

-- ---- classes

-- where an item may begin: whether it is the first, and what the text may not have in front there
abbrev pub Before : Bool → Mode → List ℕ → Type 0
Before true opened text = begins_with 94 text ≡ false
Before true first_item text = Unit {0}
Before false next_item text = Unit {0}
Before false (behind_letter v) text = EndsLetter text
Before is_first m text = ⊥

pub record InClass (is_first : Bool) (m : Mode) (b : ℕ) : Type 0 where
  pub steps : (L : Limits) (d n : ℕ) → step L m d n b ≡ inside d n (class_step L.rising m b)
  pub begins : (r : Bool) → (is_first || not (b == 93)) ≡ true → (b == 45) ≡ false → class_step r m b ≡ item_begin is_first b

pub in_class : (is_first : Bool) (m : Mode) (b : ℕ) (rest : List ℕ) → Before is_first m (b ∷ rest) → InClass is_first m b
unfolding class_step
in_class true opened b rest e = record { steps = λ L d n. refl; begins = λ r f g. rw e refl }
in_class true first_item b rest e = record { steps = λ L d n. refl; begins = λ r f g. refl }
in_class false next_item b rest e = record { steps = λ L d n. refl; begins = λ r f g. rw (not_true (b == 93) f) refl }
in_class false (behind_letter v) b rest e = record { steps = λ L d n. refl; begins = λ r f g. rw (not_true (b == 93) f, g) refl }
in_class is_first m b rest e = absurd e

-- the mode behind an item
abbrev pub item_mode : Item → Mode
item_mode (One l) = behind_letter (value_of l)
item_mode (Range first last) = next_item
item_mode Digit = next_item
item_mode Space = next_item
