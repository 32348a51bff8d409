-- The record with one more call.
use Rattle.std.proofs.Common.{◌≡◌, ℕ, true, false, ◌+◌, ◌≤◌, List, [], ◌∷◌, ◌++◌, length, take, drop, refl, sym, ◌∙◌, ap, arith, length-drop, subst}
use Rattle.std.proofs.lemmas.List.{take_all, take-append-le, drop-append-le, nil_from_length}
use Rattle.al_disk.specs.Images.{CutTo, Torn, Wrote}
use Rattle.al_disk.specs.States.{DiskState, ReadsAsAnImage, put}
use Rattle.al_disk.specs.Memory.{CanBeAsked, after_asked, bytes_of, bytes_of_all, replay}
use Rattle.al_disk.specs.declared.log.Asked.{Asked}
use Rattle.al_disk.specs.declared.log.Asked.TheVariants.{Cut, Sync, Write}
use Rattle.al_disk.proofs.Parts.{put_torn, reads_on, same_cut, same_torn, taken_cut}

pub bytes_of_all-push : (calls : List Asked) (asked : Asked) → bytes_of_all (calls ++ asked ∷ []) ≡ bytes_of_all calls + bytes_of asked
bytes_of_all-push [] asked = omega arith
bytes_of_all-push (call ∷ calls) asked = omega (arith, bytes_of_all-push calls asked)

pub replay-push : (s : DiskState) (calls : List Asked) (bytes : List ℕ) (asked : Asked) (piece : List ℕ) → bytes_of_all calls ≡ length bytes → bytes_of asked ≡ length piece
    → replay s (calls ++ asked ∷ []) (bytes ++ piece) ≡ after_asked (replay s calls bytes) piece asked
replay-push s [] bytes asked piece all one =
    let none : bytes ≡ [] = nil_from_length bytes (sym all) in
    rw none (ap (λ (l : List ℕ). after_asked s l asked) (take_all (bytes_of asked) piece (omega arith)))
replay-push s (call ∷ calls) bytes asked piece all one =
    let n = bytes_of call in
    let within : n ≤ length bytes = omega arith in
    ap (λ (l : List ℕ). replay (after_asked s l call) (calls ++ asked ∷ []) (drop n (bytes ++ piece))) (take-append-le n bytes piece within)
    ∙ ap (λ (l : List ℕ). replay (after_asked s (take n bytes) call) (calls ++ asked ∷ []) l) (drop-append-le n bytes piece within)
    ∙ replay-push (after_asked s (take n bytes) call) calls (drop n bytes) asked piece (omega (arith, length-drop n bytes)) one

-- whatever call was asked for, the content is an image
pub reads_after : (s : DiskState) (piece : List ℕ) (asked : Asked) → ReadsAsAnImage s → CanBeAsked s asked → bytes_of asked ≡ length piece → ReadsAsAnImage (after_asked s piece asked)
reads_after s piece (Write place count true) reads fits one =
    reads_on (Wrote place count) (put place piece s.content) s reads (subst (λ n. Torn place n s.content (put place piece s.content)) (sym one) (put_torn place piece s.content fits))
reads_after s piece (Write place count false) reads fits one = reads_on (Wrote place count) s.content s reads (same_torn place count s.content)
reads_after s piece (Cut size true) reads fits one = reads_on (CutTo size) (take size s.content) s reads (taken_cut size s.content)
reads_after s piece (Cut size false) reads fits one = reads_on (CutTo size) s.content s reads (same_cut size s.content)
reads_after s piece Sync reads fits one = refl
