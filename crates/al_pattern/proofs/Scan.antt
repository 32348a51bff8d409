-- Scanning a text byte by byte, by which is shown what no text of the grammar begins with.
use Rattle.std.proofs.Common.{◌≡◌, ◌+◌, ℕ, zero, suc, Bool, true, false, ◌&&◌, ◌||◌, ◌==◌, nat_lt, List, [], ◌∷◌, ◌++◌, Option, Some, None, if◌then◌else◌, refl}
use Rattle.al_pattern.specs.declared.letter.Letter.TheVariants.{Escaped}
use Rattle.al_pattern.specs.declared.token.Quantifier.{Quantifier}
use Rattle.al_pattern.specs.Bytes.{is_plain, is_escape}
use Rattle.al_pattern.specs.Letters.{value_of}
use Rattle.al_pattern.specs.Tokens.{begins_node, quantifier_of}

-- where a scan stands: outside classes where no quantifier may stand, behind an atom and behind a backslash; in a class at its
-- front, at its first item, at a further one, behind a hyphen that must be the last item, behind a backslash, and behind a
-- letter, a range's hyphen and a backslash after that, with the letter's value
pub data Mode : Type 0 where
  fresh : Mode
  behind_atom : Mode
  behind_slash : Mode
  opened : Mode
  first_item : Mode
  next_item : Mode
  last_hyphen : Mode
  item_slash : Mode
  behind_letter : ℕ → Mode
  range_hyphen : ℕ → Mode
  range_slash : ℕ → Mode

-- what a scan allows: whether ranges must rise, how many nodes and how many groups in one another
pub record Limits : Type 0 where
  pub rising : Bool
  pub most : ℕ
  pub deepest : ℕ

-- with the groups that are open and the nodes so far
pub record State : Type 0 where
  pub mode : Mode
  pub depth : ℕ
  pub nodes : ℕ

abbrev pub at : Mode → ℕ → ℕ → State
at m d n = record { mode = m; depth = d; nodes = n }

abbrev pub leave : ℕ → ℕ → Option State
leave zero n = None
leave (suc d) n = Some (at behind_atom d n)

unfoldable pub started : Limits → ℕ → ℕ → ℕ → Option State
started L d n b =
    if b == 124 then Some (at fresh d (n + 1))
    else if b == 40 then (if nat_lt d L.deepest then Some (at fresh (suc d) (n + 1)) else None)
    else if b == 92 then Some (at behind_slash d (n + 1))
    else if b == 91 then Some (at opened d (n + 1))
    else Some (at behind_atom d (n + 1))

unfoldable pub begin : Limits → ℕ → ℕ → ℕ → Option State
begin L d n b =
    if b == 41 then leave d n
    else if begins_node b then (if nat_lt n L.most then started L d n b else None)
    else None

abbrev pub quantified : Limits → ℕ → ℕ → ℕ → Option Quantifier → Option State
quantified L d n b None = begin L d n b
quantified L d n b (Some q) = if nat_lt n L.most then Some (at fresh d (n + 1)) else None

unfoldable pub item_begin : Bool → ℕ → Option Mode
item_begin is_first b =
    if is_plain b then Some (behind_letter b)
    else if b == 92 then Some item_slash
    else if b == 45 then Some (if is_first then next_item else last_hyphen)
    else None

abbrev pub range_end : Bool → ℕ → ℕ → Option Mode
range_end rising v w = if rising && nat_lt w v then None else Some next_item

unfoldable pub class_step : Bool → Mode → ℕ → Option Mode
class_step r opened b = if b == 94 then Some first_item else item_begin true b
class_step r first_item b = item_begin true b
class_step r next_item b = if b == 93 then Some behind_atom else item_begin false b
class_step r (behind_letter v) b =
    if b == 93 then Some behind_atom else if b == 45 then Some (range_hyphen v) else item_begin false b
class_step r (range_hyphen v) b =
    if b == 93 then Some behind_atom else if is_plain b then range_end r v b else if b == 92 then Some (range_slash v) else None
class_step r last_hyphen b = if b == 93 then Some behind_atom else None
class_step r item_slash b =
    if is_escape b then Some (behind_letter (value_of (Escaped b))) else if b == 100 || b == 115 then Some next_item else None
class_step r (range_slash v) b = if is_escape b then range_end r v (value_of (Escaped b)) else None
class_step r m b = None

abbrev pub inside : ℕ → ℕ → Option Mode → Option State
inside d n None = None
inside d n (Some m) = Some (at m d n)

abbrev pub step : Limits → Mode → ℕ → ℕ → ℕ → Option State
step L fresh d n b = begin L d n b
step L behind_atom d n b = quantified L d n b (quantifier_of b)
step L behind_slash d n b = if is_escape b || (b == 100 || b == 115) then Some (at behind_atom d n) else None
step L m d n b = inside d n (class_step L.rising m b)

abbrev pub advance : Limits → Option State → ℕ → Option State
advance L None b = None
advance L (Some s) b = step L s.mode s.depth s.nodes b

abbrev pub run : Limits → Option State → List ℕ → Option State
run L o [] = o
run L o (b ∷ text) = run L (advance L o b) text

abbrev pub begun : Option State
begun = Some (at fresh 0 0)

pub run-append : (L : Limits) (o : Option State) (x y : List ℕ) → run L o (x ++ y) ≡ run L (run L o x) y
run-append L o [] y = refl
run-append L o (b ∷ x) y = run-append L (advance L o b) x y

pub run-none : (L : Limits) (x : List ℕ) → run L None x ≡ None
run-none L [] = refl
run-none L (b ∷ x) = run-none L x
