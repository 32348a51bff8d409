-- Names of alarm types as they are written in paths and bodies, where the module `ietf-alarms` may be left out.
use Rattle.std.specs.Prelude.{ℕ, ◌==◌, Bool, if◌then◌else◌, List, ◌++◌, codes}
use Rattle.std.specs.List.{list_any}

-- the byte is the colon between a module and a name
abbrev pub is_colon : ℕ → Bool
is_colon byte = byte == 58

-- A name without a colon is one of the module `ietf-alarms`.
unfoldable pub with_module : List ℕ → List ℕ
with_module name = if list_any is_colon name then name else codes "ietf-alarms:" ++ name
