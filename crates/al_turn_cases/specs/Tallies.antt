-- A value that has a history and nothing else.
use Rattle.std.specs.Prelude.{List}
use Rattle.al_model.specs.declared.entry.Entry.{Entry}
use Rattle.al_model.specs.declared.kept.Mark.{Mark}

-- nothing ever fails, and nothing is fixed
abbrev pub mark_of : List Entry → Mark
mark_of entries = record { entries = entries; faults = 0; fixed = record { capacity = 0; length = 0; since = 0 } }
