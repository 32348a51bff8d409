-- Reading values one after the other, as a loop does.
use Rattle.std.proofs.Common.{◌≡◌, ℕ, suc, ◌-◌, ◌+◌, ◌<◌, List, [], ◌∷◌, ◌++◌, Result, Ok, Err, refl, sym, ap, ◌∙◌, append_assoc, arith}
use Rattle.al_frame.specs.declared.fault.FrameFault.{FrameFault}
use Rattle.al_frame.specs.declared.fault.FrameFault.TheVariants.{Truncated, Byte, Trailing, Memory}
use Rattle.al_frame.specs.Formats.{each_at, IsFault}
use Rattle.al_base.specs.Answers.{and_then}

-- what was read before, and what is still read
abbrev pub with_front : {A : Type 0} → List A → Result (List A × List ℕ) FrameFault → Result (List A × List ℕ) FrameFault
with_front front said = and_then said (λ xs. Ok (front ++ xs.0, xs.1))

regroup : {A : Type 0} (front : List A) (a : A) (said : Result (List A × List ℕ) FrameFault) → with_front front (and_then said (λ xs. Ok (a ∷ xs.0, xs.1))) ≡ with_front (front ++ a ∷ []) said
regroup front a (Ok xs) = ap (λ ys. Ok (ys, xs.1)) (sym (append_assoc front (a ∷ []) xs.0))
regroup front a (Err fault) = refl

pub goes_on : {A : Type 0} (read : ℕ → List ℕ → Result (A × List ℕ) FrameFault) (n : ℕ) (front : List A) (count i : ℕ) (bytes : List ℕ) (a : A) (after : List ℕ) (total : Result (List A × List ℕ) FrameFault)
    → i < count → read n bytes ≡ Ok (a, after) → total ≡ with_front front (each_at read (count - i) n bytes)
    → total ≡ with_front (front ++ a ∷ []) (each_at read (count - (i + 1)) n after)
goes_on read n front count i bytes a after total lt e so_far =
    let k : count - i ≡ suc (count - (i + 1)) = omega arith in
    so_far ∙ rw (k, e) (regroup front a (each_at read (count - (i + 1)) n after))

pub ends : {A : Type 0} (read : ℕ → List ℕ → Result (A × List ℕ) FrameFault) (n : ℕ) (front : List A) (count i : ℕ) (bytes : List ℕ) (fault : FrameFault) (total : Result (List A × List ℕ) FrameFault)
    → i < count → IsFault (read n bytes) fault → total ≡ with_front front (each_at read (count - i) n bytes) → IsFault total fault
ends read n front count i bytes (Truncated place) total lt e so_far = let k : count - i ≡ suc (count - (i + 1)) = omega arith in so_far ∙ rw (k, e) refl
ends read n front count i bytes (Byte place) total lt e so_far = let k : count - i ≡ suc (count - (i + 1)) = omega arith in so_far ∙ rw (k, e) refl
ends read n front count i bytes (Trailing place) total lt e so_far = let k : count - i ≡ suc (count - (i + 1)) = omega arith in so_far ∙ rw (k, e) refl
ends read n front count i bytes Memory total lt e so_far = tt
