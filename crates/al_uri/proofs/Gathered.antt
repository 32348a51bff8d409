-- A list that is read from the left, behind what is read so far.
use Rattle.std.proofs.Common.{◌≡◌, ℕ, Bor, Option, Some, Result, Ok, Err, List, [], ◌∷◌, ◌++◌, refl, append_assoc, append-nil}
use Rattle.std.specs.Option.{option_copied}
use Rattle.al_base.specs.Answers.{and_then, each}
use Rattle.al_base.specs.Cuts.{behind, front, pieces_left}
use Rattle.al_uri.specs.Escapes.{decoded}
use Rattle.al_uri.specs.declared.fault.UriFault.{UriFault}
use Rattle.al_base.proofs.CutLemmas.{pieces_cut}

abbrev pub onto : {A E : Type 0} → List A → Result (List A) E → Result (List A) E
onto so_far later = and_then later (λ more. Ok (so_far ++ more))

onto_more : {A E : Type 0} (so_far : List A) (a : A) (later : Result (List A) E) → onto so_far (and_then later (λ more. Ok (a ∷ more))) ≡ onto (so_far ++ a ∷ []) later
onto_more so_far a (Ok more) = rw append_assoc refl
onto_more so_far a (Err e) = refl

pub onto_none : {A E : Type 0} (so_far : List A) → onto {E = E} so_far (Ok []) ≡ Ok so_far
onto_none so_far = rw append-nil refl

-- one more key, cut from what was left
pub key_more : (whole : Result (List (List ℕ)) UriFault) (rest more : Option (Bor (List ℕ))) (bytes : Bor (List ℕ)) (so_far after : List (List ℕ)) (part key : List ℕ) → whole ≡ onto so_far (each decoded (pieces_left 44 (option_copied rest))) → rest ≡ Some bytes → part ≡ front 44 bytes.now → option_copied more ≡ behind 44 bytes.now → decoded part ≡ Ok key → after ≡ so_far ++ key ∷ [] → whole ≡ onto after (each decoded (pieces_left 44 (option_copied more)))
key_more whole rest more bytes so_far after part key said there before behind_it read longer =
    let here : pieces_left 44 (option_copied rest) ≡ front 44 bytes.now ∷ pieces_left 44 (behind 44 bytes.now) = rw there (pieces_cut 44 bytes.now) in
    let first : decoded (front 44 bytes.now) ≡ Ok key = rw (← before) read in
    rw (said, here, first, behind_it, longer) (onto_more so_far key (each decoded (pieces_left 44 (behind 44 bytes.now))))
