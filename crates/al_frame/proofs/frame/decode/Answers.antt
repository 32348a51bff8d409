use Rattle.std.proofs.Common.{◌≡◌, ℕ, List, Result, Ok, Err, ap, subst, ◌∙◌, arith}
use Rattle.std.specs.Prelude.{IfOk}
use Rattle.al_model.specs.Limits.{IsEntryWithin}
use Rattle.al_model.specs.declared.entry.Entry.{Entry}
use Rattle.al_frame.specs.declared.fault.FrameFault.{FrameFault}
use Rattle.al_frame.specs.Formats.{Gives}
use Rattle.al_frame.specs.Frames.{entry_of, frame_of}
use Rattle.al_frame.proofs.FormatLaws.{IsBytes}
use Rattle.al_frame.proofs.FrameLaws.{frame_is_read, read_is_frame}
use Rattle.al_frame.proofs.WithinLaws.{decides_entry}
use Rattle.al_frame.proofs.frame.decode.Goals as goal

is_found : (bytes : List ℕ) (r : Result Entry FrameFault) → IsBytes bytes → Gives (λ e. e) r (entry_of bytes) → IfOk r (λ e. IsEntryWithin e × (bytes ≡ frame_of e))
is_found bytes (Ok e) fits given = let read = read_is_frame bytes e fits given in ((decides_entry e).0 read.0, read.1)
is_found bytes (Err fault) fits given = tt

pub returns-clause-found : goal.returns-clause-found
returns-clause-found c = is_found c.args.bytes.now c.whole.result (λ i. omega (arith, c.type_inv.bytes i)) c.whole.ensures

pub returns-clause-only : goal.returns-clause-only
returns-clause-only c = λ e within spelled. subst (λ said. Gives (λ entry. entry) c.whole.result said) (ap entry_of spelled ∙ frame_is_read e ((decides_entry e).1 within)) c.whole.ensures
