-- The lines that the program prints.
use Rattle.std.specs.Prelude.{◌≡◌, ◌⊎◌, ℕ, ◌++◌, List, [], ◌∷◌, Option, Result, Ok, Err, codes, decimal, flat_map, length}
use Rattle.std.specs.Io.KnownBytes.{Appends}
use Rattle.al_http.specs.Fronts.{AppendsFront}
use Rattle.al_journal.specs.declared.faults.BirthFault.{BirthFault}
use Rattle.al_journal.specs.declared.faults.BirthFault.TheVariants as births
use Rattle.al_model.specs.History.{replay}
use Rattle.al_model.specs.State.{listed, shelved}
use Rattle.al_model.specs.declared.entry.Entry.{Entry}
use Rattle.al_office.specs.Images.{used_by}
use Rattle.al_office.specs.declared.fault.OfficeFault.{OfficeFault}
use Rattle.al_office.specs.declared.fault.OfficeFault.TheVariants as offices
use Rattle.al_commands.specs.declared.line.Count.{Count}
use Rattle.al_commands.specs.Statuses.{status_write_fault}

abbrev pub line_end : List ℕ
line_end = 10 ∷ []

-- words, and the number behind them
abbrev pub count_text : List ℕ → ℕ → List ℕ
count_text words number = words ++ decimal number

-- counts, one behind the other, without the end of the last line
abbrev pub text_of_count : Count → List ℕ
text_of_count count = count_text count.words.now count.number

abbrev pub counts_text : List Count → List ℕ
counts_text counts = flat_map text_of_count counts

abbrev pub usage_line : List ℕ
usage_line = codes "usage: alarmd init JOURNAL CAPACITY / session JOURNAL / check JOURNAL / drill SEED COUNT / serve JOURNAL ADDRESS WORKERS CONNECTIONS\n"

-- whether a journal was made
abbrev pub birth_line : {A : Type 0} → ℕ → Result A BirthFault → List ℕ
birth_line capacity (Ok _) = count_text (codes "made ") capacity ++ line_end
birth_line capacity (Err births.AlreadyMade) = codes "already a journal\n"
birth_line capacity (Err births.Disk) = codes "disk fault\n"
birth_line capacity (Err births.BadCapacity) = usage_line

-- why a journal wasn't opened; nothing is told of want of memory
abbrev pub fault_line : OfficeFault → List ℕ
fault_line offices.NotAJournal = codes "not a journal\n"
fault_line (offices.Invalid count) = count_text (codes "invalid at ") count ++ line_end
fault_line offices.Disk = codes "disk fault\n"
fault_line offices.Memory = []

-- what there is in a journal of this capacity with this history
abbrev pub check_lines : ℕ → List Entry → List ℕ
check_lines capacity history =
    count_text (codes "entries ") (length history)
    ++ count_text (codes "\nalarms ") (length (listed (replay history)))
    ++ count_text (codes "\nshelved ") (length (shelved (replay history)))
    ++ count_text (codes "\nnotes ") (replay history).log.sent
    ++ count_text (codes "\nbytes ") (used_by history)
    ++ count_text (codes " of ") capacity
    ++ line_end

-- The text was printed, and the status is this one; or the sink failed inside it.
abbrev pub Tells : List ℕ → ℕ → Option (List ℕ) → Option (List ℕ) → ℕ → Type 0
Tells text done old new status =
    ((status ≡ done) × Appends old new text) ⊎ ((status ≡ status_write_fault) × AppendsFront old new text)
