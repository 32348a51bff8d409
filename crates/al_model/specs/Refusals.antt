-- The numbers by which refusals are told apart in answers.
use Rattle.std.specs.Prelude.{ℕ}
use Rattle.al_model.specs.declared.decision.Refusal.{Refusal}
use Rattle.al_model.specs.declared.decision.Refusal.TheVariants.{NoAlarm, NoShelf, NoPoint, ShelfExists, Installed, NotInInventory, SeverityNotInInventory, AlarmsFull, ShelvesFull, ClockEnd, JournalFull, Disk, Memory}

-- the row of the table of error answers; want of memory has none
abbrev pub refusal_number : Refusal → ℕ
refusal_number NoAlarm = 16
refusal_number NoShelf = 17
refusal_number NoPoint = 18
refusal_number ShelfExists = 20
refusal_number Installed = 21
refusal_number NotInInventory = 22
refusal_number SeverityNotInInventory = 23
refusal_number AlarmsFull = 24
refusal_number ShelvesFull = 25
refusal_number ClockEnd = 26
refusal_number JournalFull = 27
refusal_number Disk = 28
refusal_number Memory = 30
