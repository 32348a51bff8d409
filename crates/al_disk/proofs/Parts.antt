-- Whole changes are parts of themselves.
use Rattle.std.proofs.Common.{◌≡◌, ℕ, ◌+◌, ◌≤◌, max, List, ◌++◌, length, take, drop, refl, sym, ◌∙◌, ap, arith, append_assoc, length-append, length-drop}
use Rattle.std.proofs.lemmas.List.{take_at, drop_at, length-take, take_all, take_min}
use Rattle.al_disk.specs.Images.{Change, CutBetween, CutTo, DoesPart, Torn, Wrote}
use Rattle.al_disk.specs.States.{DiskState, ReadsAsAnImage, put, with_change}

pub length-put : (place : ℕ) (bytes old : List ℕ) → place ≤ length old → length (put place bytes old) ≡ max (length old) (place + length bytes)
length-put place bytes old fits =
    omega (arith, length-append (take place old ++ bytes) (drop (place + length bytes) old), length-append (take place old) bytes, length-take place old, length-drop (place + length bytes) old)

-- a write that was done
pub put_torn : (place : ℕ) (bytes old : List ℕ) → place ≤ length old → Torn place (length bytes) old (put place bytes old)
put_torn place bytes old fits =
    let front : length (take place old) ≡ place = omega (arith, length-take place old) in
    let both : length (take place old ++ bytes) ≡ place + length bytes = omega (arith, front, length-append (take place old) bytes) in
    record {
      before = ap (λ (l : List ℕ). take place l) (append_assoc (take place old) bytes (drop (place + length bytes) old)) ∙ take_at (take place old) (bytes ++ drop (place + length bytes) old) place front;
      after = drop_at (take place old ++ bytes) (drop (place + length bytes) old) (place + length bytes) both;
      no_shorter = omega (arith, length-put place bytes old fits);
      no_longer = omega (arith, length-put place bytes old fits);
    }

-- a write of which nothing was done
pub same_torn : (place count : ℕ) (old : List ℕ) → Torn place count old old
same_torn place count old = record { before = refl; after = refl; no_shorter = omega arith; no_longer = omega arith }

-- a cut that was done
pub taken_cut : (size : ℕ) (old : List ℕ) → CutBetween size old (take size old)
taken_cut size old = record { no_shorter = omega (arith, length-take size old); front = sym (ap (λ n. take n old) (length-take size old) ∙ take_min size old) }

-- a cut of which nothing was done
pub same_cut : (size : ℕ) (old : List ℕ) → CutBetween size old old
same_cut size old = record { no_shorter = omega arith; front = sym (take_all (length old) old (omega arith)) }

-- a change goes on from an image to an image
pub reads_on : (change : Change) (content : List ℕ) (s : DiskState) → ReadsAsAnImage s → DoesPart change s.content content → ReadsAsAnImage (with_change change content s)
reads_on change content s reads part = (s.content, reads, part)

-- nothing of a change
pub same_part : (change : Change) (old : List ℕ) → DoesPart change old old
same_part (Wrote place count) old = same_torn place count old
same_part (CutTo size) old = same_cut size old
