-- How much of a response is gathered to be written together.
use Rattle.std.specs.Prelude.{ℕ}

-- the most bytes that are gathered
abbrev pub output_room : ℕ
output_room = 1024

-- the most that are gathered of the status line and the fields but Location
abbrev pub most_field_bytes : ℕ
most_field_bytes = 400

-- how many are gathered at most before they are sent while there are more to come
abbrev pub gather_limit : ℕ
gather_limit = 700
