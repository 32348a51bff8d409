-- What a scan for the end of a block has seen, and one for empty lines.
use Rattle.std.specs.Prelude.{◌≡◌, ◌≤◌, ℕ, Bool, false, not, ◌&&◌, ◌==◌, if◌then◌else◌, List, [], ◌∷◌, ◌++◌, length, take}
use Rattle.std.specs.List.{list_any}
use Rattle.al_http.specs.declared.scan.Seen.{Seen}
use Rattle.al_http.specs.declared.scan.Seen.TheVariants.{Nothing, Text, LineFeed, Return}
use Rattle.al_http.specs.declared.scan.Look.{Look}
use Rattle.al_http.specs.declared.scan.Look.TheVariants.{Ends, Goes}
use Rattle.al_http.specs.Blocks.{line_feed, carriage_return, is_line_byte, HasLineByte, IsBlock, HoldsNoBlock}

-- the bytes end with that end, and a line has text before
pub record EndsWith (bytes end : List ℕ) : Type 0 where
  pub front : List ℕ
  pub parts : bytes ≡ front ++ end
  pub some_line : HasLineByte front

-- how the bytes end
abbrev pub Shows : Seen → List ℕ → Type 0
Shows Nothing bytes = list_any is_line_byte bytes ≡ false
Shows Text bytes = HasLineByte bytes × ¬ (EndsWith bytes (line_feed ∷ [])) × ¬ (EndsWith bytes (line_feed ∷ carriage_return ∷ []))
Shows LineFeed bytes = EndsWith bytes (line_feed ∷ [])
Shows Return bytes = EndsWith bytes (line_feed ∷ carriage_return ∷ [])

-- the bytes hold no block and end so
pub record IsAfter (seen : Seen) (bytes : List ℕ) : Type 0 where
  pub no_block : HoldsNoBlock bytes
  pub shows : Shows seen bytes

-- behind the front, the block ends with so many of the bytes, or it goes on
abbrev pub Looks : List ℕ → List ℕ → Look → Type 0
Looks front bytes (Ends count) = (count ≤ length bytes) × IsBlock (front ++ take count bytes)
Looks front bytes (Goes seen) = IsAfter seen (front ++ bytes)

-- The bytes are ends of lines alone, each LF or CR LF, after a CR or not: after a CR the next byte has to be LF.
abbrev pub are_line_ends : Bool → List ℕ → Bool
are_line_ends after_return [] = not after_return
are_line_ends after_return (b ∷ bytes) =
    if b == line_feed then are_line_ends false bytes else (b == carriage_return && not after_return && are_line_ends (not after_return) bytes)
