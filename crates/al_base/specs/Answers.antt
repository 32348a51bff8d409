-- Readings that may fail: one after the other, and what code answers by them.
use Rattle.std.specs.Prelude.{◌≡◌, Option, None, Some, Result, Ok, Err, List, [], ◌∷◌}

-- the second reading, of what the first gives; the first fault is the fault of both
abbrev pub and_then : {A B E : Type 0} → Result A E → (A → Result B E) → Result B E
and_then (Ok a) read = read a
and_then (Err e) read = Err e

-- the value, or the fault where there is none
abbrev pub or_fault : {A E : Type 0} → E → Option A → Result A E
or_fault e None = Err e
or_fault e (Some a) = Ok a

-- each of a list, from the left
abbrev pub each : {A B E : Type 0} → (A → Result B E) → List A → Result (List B) E
each read [] = Ok []
each read (a ∷ rest) = and_then (read a) (λ b. and_then (each read rest) (λ more. Ok (b ∷ more)))

-- An answer is the one that is said. A fault stands where `IsDue` says so: it is the one that is said, or want of memory.
abbrev pub AnswersBy : {A E : Type 0} → (Result A E → E → Type 0) → Result A E → Result A E → Type 0
AnswersBy IsDue said (Ok a) = said ≡ Ok a
AnswersBy IsDue said (Err e) = IsDue said e
