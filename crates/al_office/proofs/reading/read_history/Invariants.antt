use Rattle.std.proofs.Common.{◌≡◌, ℕ, ◌+◌, ◌-◌, ◌<◌, ◌≤◌, List, ◌++◌}
use Rattle.al_disk.specs.States.{Told}
use Rattle.al_journal.specs.Images.{Shows}
use Rattle.al_office.specs.Images.{frames_of, used_by}
use Rattle.al_office.proofs.reading.read_history.Given as goal

-- the frames that are read are a history, behind which the others are left
abbrev pub invariant-frames : goal.invariant-frames
invariant-frames g l = record {
  place : l.journal.next + 1 ≡ used_by l.ledger.entries;
  within : l.journal.next < l.journal.capacity;
  capacity : l.journal.capacity ≡ l.initial.journal.capacity;
  doubt : l.journal.doubt ≡ l.initial.journal.doubt;
  same : g.D.Disk.told l.journal.disk ≡ g.D.Disk.told l.initial.journal.disk;
  later : g.D.Disk.faults l.initial.journal.disk ≤ g.D.Disk.faults l.journal.disk;
  left : Told (g.D.Disk.told l.journal.disk) (λ s. (payloads : List (List ℕ)) → Shows l.journal.capacity payloads s.content → (left : List (List ℕ)) × (payloads ≡ frames_of l.ledger.entries ++ left));
}

abbrev pub decreases-frames : goal.decreases-frames
decreases-frames g l = l.journal.capacity - l.journal.next
