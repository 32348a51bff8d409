-- Reading the items of a class.
use Rattle.std.specs.Prelude.{ℕ, zero, suc, Bool, true, false, ◌&&◌, ◌||◌, not, List, [], ◌∷◌, ◌++◌, length, drop, ◌==◌, nat_lt, if◌then◌else◌, Result, Ok, Err}
use Rattle.al_pattern.specs.declared.letter.Letter.{Letter}
use Rattle.al_pattern.specs.declared.letter.Letter.TheVariants.{Plain}
use Rattle.al_pattern.specs.declared.letter.Item.{Item}
use Rattle.al_pattern.specs.declared.letter.Item.TheVariants.{One, Range}
use Rattle.al_pattern.specs.declared.fault.FaultKind.TheVariants.{Syntax, Unsupported}
use Rattle.al_pattern.specs.declared.fault.Fault.{Fault}
use Rattle.al_pattern.specs.Bytes.{is_printable, is_plain, is_left_out, begins_with}
use Rattle.al_pattern.specs.Faults.{fault_at, ◌>>=◌}
use Rattle.al_pattern.specs.Letters.{value_of, escape_at}
use Rattle.al_pattern.specs.Tests.{Test, class}

abbrev pub begins_left_out : List ℕ → Bool
begins_left_out [] = false
begins_left_out (b ∷ rest) = is_left_out b

-- what this profile leaves out in a class: a byte that isn't printable, a backslash before a letter or digit that has no
-- meaning, and the subtraction sign -[
unfoldable pub is_unsupported_in_class : List ℕ → Bool
is_unsupported_in_class [] = false
is_unsupported_in_class (b ∷ rest) = not (is_printable b) || (b == 92 && begins_left_out rest) || (b == 45 && begins_with 91 rest)

-- the fault where no class has the first byte of what is left, or where it ends
abbrev pub class_stop_at : List ℕ → Fault
class_stop_at text = fault_at (if is_unsupported_in_class text then Unsupported else Syntax) text

-- the letter of an item that was read; \d and \s end no range, which shows at the byte behind the backslash
abbrev pub only_letter : List ℕ → Item × List ℕ → Result (Letter × List ℕ) Fault
only_letter behind (One l, rest) = Ok (l, rest)
only_letter behind (_, rest) = Err (fault_at Syntax behind)

-- the last letter of a range
unfoldable pub last_at : List ℕ → Result (Letter × List ℕ) Fault
last_at [] = Err (class_stop_at [])
last_at (b ∷ rest) =
    if is_unsupported_in_class (b ∷ rest) then Err (class_stop_at (b ∷ rest))
    else if is_plain b then Ok (Plain b, rest)
    else if b == 92 then escape_at rest >>= only_letter rest
    else Err (class_stop_at (b ∷ rest))

-- a range whose ends fall is a fault at its first end
abbrev pub range_of : List ℕ → Letter → Letter × List ℕ → Result (Item × List ℕ) Fault
range_of from first (last, rest) =
    if nat_lt (value_of last) (value_of first) then Err (fault_at Syntax from) else Ok (Range first last, rest)

-- a letter, which from begins with, and what stands behind it
unfoldable pub range_at : List ℕ → Letter → List ℕ → Result (Item × List ℕ) Fault
range_at from first [] = Ok (One first, [])
range_at from first (b ∷ rest) =
    if b == 45 && not (begins_with 93 rest) then
    (if begins_with 91 rest then Err (class_stop_at (b ∷ rest)) else last_at rest >>= range_of from first)
    else Ok (One first, b ∷ rest)

abbrev pub item_behind : List ℕ → Item × List ℕ → Result (Item × List ℕ) Fault
item_behind from (One l, rest) = range_at from l rest
item_behind from (item, rest) = Ok (item, rest)

unfoldable pub item_at : Bool → List ℕ → Result (Item × List ℕ) Fault
item_at is_first [] = Err (class_stop_at [])
item_at is_first (b ∷ rest) =
    if is_unsupported_in_class (b ∷ rest) then Err (class_stop_at (b ∷ rest))
    else if is_plain b then range_at (b ∷ rest) (Plain b) rest
    else if b == 92 then escape_at rest >>= item_behind (b ∷ rest)
    else if b == 45 then (if is_first || begins_with 93 rest then Ok (One (Plain 45), rest) else Err (class_stop_at rest))
    else Err (class_stop_at (b ∷ rest))

-- the items after those that were read, in at most so many steps
unfoldable pub items_from : ℕ → Bool → List Item → List ℕ → Result (List Item × List ℕ) Fault
items_from zero is_first items text = Err (class_stop_at text)
items_from (suc steps) is_first items text =
    if not is_first && begins_with 93 text then Ok (items, drop 1 text)
    else item_at is_first text >>= λ x. items_from steps false (items ++ x.0 ∷ []) x.1

abbrev pub items_at : List ℕ → Result (List Item × List ℕ) Fault
items_at text = items_from (suc (length text)) true [] text

-- what stands behind the bracket that opens a class
unfoldable pub class_at : List ℕ → Result (Test × List ℕ) Fault
class_at text =
    items_at (if begins_with 94 text then drop 1 text else text) >>= λ x. Ok (class (begins_with 94 text) x.0, x.1)
