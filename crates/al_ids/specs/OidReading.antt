-- How an object identifier is read: byte by byte, from state to state.
use Rattle.std.specs.Prelude.{ℕ, ◌==◌, ◌||◌, Bool, true, false, if◌then◌else◌, Option, Some, None, List, [], ◌∷◌}
use Rattle.std.specs.Char.{is_ascii_digit}
use Rattle.std.specs.Int.{is_in_range}
use Rattle.std.specs.Option.{option_map_or}
use Rattle.al_ids.specs.declared.oid.Place.{Place}
use Rattle.al_ids.specs.declared.oid.Place.TheVariants.{Start, Low, High, Second, Tens, Done, Arc, Digits}

abbrev pub when : Bool → Place → Option Place
when holds place = if holds then Some place else None

abbrev pub next_place : Place → ℕ → Option Place
next_place Start byte = if byte == 50 then Some High else when ((byte == 48) || (byte == 49)) Low
next_place Low byte = when (byte == 46) Second
next_place High byte = when (byte == 46) Arc
next_place Second byte = if is_in_range 49 51 byte then Some Tens else when (is_ascii_digit byte) Done
next_place Tens byte = if byte == 46 then Some Arc else when (is_ascii_digit byte) Done
next_place Done byte = when (byte == 46) Arc
next_place Arc byte = if byte == 48 then Some Done else when (is_ascii_digit byte) Digits
next_place Digits byte = if byte == 46 then Some Arc else when (is_ascii_digit byte) Digits

-- whether an identifier may end here
abbrev pub may_end : Place → Bool
may_end Tens = true
may_end Done = true
may_end Digits = true
may_end place = false

abbrev pub leads_to_end : List ℕ → Place → Bool
leads_to_end [] place = may_end place
leads_to_end (byte ∷ rest) place = option_map_or (leads_to_end rest) (next_place place byte) false

-- whether an arc ends before these bytes
abbrev pub ends_arc : List ℕ → Bool
ends_arc [] = true
ends_arc (byte ∷ rest) = byte == 46
