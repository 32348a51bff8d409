-- The workers as a list, and what each of them did.
use Rattle.std.proofs.Common.{◌≡◌, ℕ, zero, suc, ◌+◌, ◌*◌, ◌<◌, ◌≤◌, IsSome, List, [], ◌∷◌, length, map, refl, sym, subst, arith}
use Rattle.std.proofs.lemmas.List.Sums.{sum_by-cons}
use Rattle.std.specs.Prelude.{All, slice_index_or}
use Rattle.std.specs.List.{AllByRecursion, AllZip}
use Rattle.al_restconf.specs.Machine.{IsAnswer}
use Rattle.al_serve.specs.Workers.{HasWorked, Work}
use Rattle.al_turn.specs.Passes.{PassState, identity_of}
use Rattle.al_server.proofs.Stations.{same_pass}
use Rattle.al_server.specs.Crews.{HaveBegun, HavePasses, all_there, passes_of, served_of}

module _ {W : Type 0} (f : W → Work) where
  -- what holds of each by recursion holds of each
  pub each_of : (P : Work → Type 0) (workers : List W) → AllByRecursion P (map f workers) → All (λ (w : W). P (f w)) workers
  each_of P [] all k d within = absurd (omega (arith, within))
  each_of P (w ∷ workers) all zero d within = all.0
  each_of P (w ∷ workers) all (suc k) d within = each_of P workers all.1 k d (omega (arith, within))

  -- what holds of each two at one place holds of the lists
  pub zip_of : (R : Work → Work → Type 0) (workers dones : List W) → length dones ≡ length workers
      → ((k : ℕ) (d : W) → k < length workers → R (f (slice_index_or workers k d)) (f (slice_index_or dones k d))) → AllZip R (map f workers) (map f dones)
  zip_of R [] [] lengths each = tt
  zip_of R [] (done ∷ dones) lengths each = absurd (omega (arith, lengths))
  zip_of R (w ∷ workers) [] lengths each = absurd (omega (arith, lengths))
  zip_of R (w ∷ workers) (done ∷ dones) lengths each =
      (each 0 w (omega arith), zip_of R workers dones (omega (arith, lengths)) (λ k d within. each (suc k) d (omega (arith, within))))

-- each that has worked has its pass
pub have_passes : (works dones : List Work) → AllZip (HasWorked IsAnswer) works dones → HavePasses dones
have_passes [] [] worked = tt
have_passes [] (done ∷ dones) worked = absurd worked
have_passes (work ∷ works) [] worked = absurd worked
have_passes (work ∷ works) (done ∷ dones) worked = (subst IsSome (sym worked.0.has) refl, have_passes works dones worked.1)

-- they have served no more connections than there were to be
pub served_most : (connections number : ℕ) (works dones : List Work) → HaveBegun connections number works → AllZip (HasWorked IsAnswer) works dones → served_of dones ≤ length works * connections
served_most connections number [] [] begun worked = omega arith
served_most connections number [] (done ∷ dones) begun worked = absurd worked
served_most connections number (work ∷ works) [] begun worked = absurd worked
served_most connections number (work ∷ works) (done ∷ dones) begun worked =
    let rest = served_most connections (number + 1) works dones begun.1 worked.1 in
    let within : done.served ≤ connections = (let w = worked.0.within in let c = worked.0.connections in let b = begun.0.due in omega arith) in
    let more = sum_by-cons (λ (w : Work). w.served) done dones in
    omega (arith, rest, within, more)

-- the passes that they leave are those that they had
pub same_passes : (passes seen : List PassState) (works dones : List Work) → passes_of works ≡ all_there passes → passes_of dones ≡ all_there seen → AllZip (HasWorked IsAnswer) works dones
    → AllZip (λ (pass last : PassState). identity_of last ≡ identity_of pass) passes seen
same_passes [] [] works dones are left worked = tt
same_passes passes seen [] (done ∷ dones) are left worked = absurd worked
same_passes passes seen (work ∷ works) [] are left worked = absurd worked
same_passes (pass ∷ passes) seen [] [] are left worked = absurd (cc)
same_passes [] (last ∷ seen) [] [] are left worked = absurd (cc)
same_passes [] (last ∷ seen) (work ∷ works) (done ∷ dones) are left worked = absurd (cc)
same_passes (pass ∷ passes) [] (work ∷ works) (done ∷ dones) are left worked = absurd (cc)
same_passes (pass ∷ passes) (last ∷ seen) (work ∷ works) (done ∷ dones) are left worked =
    (same_pass pass last work done (cc) (cc) worked.0, same_passes passes seen works dones (cc) (cc) worked.1)
