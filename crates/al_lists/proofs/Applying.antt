-- What carrying out a change leaves as it was.
use Rattle.std.proofs.Common.{◌≡◌, ℕ, refl}
use Rattle.al_model.specs.State.{State}
use Rattle.al_contents.specs.Changes.{with_change}
use Rattle.al_contents.specs.declared.change.Change.{Change}
use Rattle.al_contents.specs.declared.change.Change.TheVariants as changes

-- A change alone sends no note.
pub change_log : (time : ℕ) (change : Change) (s : State) → (with_change time change s).log ≡ s.log
change_log time (changes.Report place status text entry_text) s = refl
change_log time (changes.Insert place alarm) s = refl
change_log time (changes.Operate place entry) s = refl
change_log time (changes.Max max) s = refl
change_log time (changes.Rule rule) s = refl
change_log time (changes.Shelves shelves moves) s = refl
change_log time (changes.Inventory inventory moves) s = refl
change_log time (changes.Purge side chosen) s = refl
change_log time (changes.Compress side chosen) s = refl
