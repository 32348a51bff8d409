-- Steps of what a disk tells.
use Rattle.std.proofs.Common.{◌≡◌, Option, None, Some, refl, ◌∙◌, subst}
use Rattle.al_disk.specs.States.{DiskState, Goes}

-- what is told now was reached from what was told before
pub back : (R : DiskState → DiskState → Type 0) (old new : Option DiskState) → Goes R old new → (t : DiskState) → new ≡ Some t → (s : DiskState) × (old ≡ Some s) × R s t
back R None new goes t is = absurd (let silent = goes.silent refl in cc)
back R (Some s) new goes t is =
    let after = goes.goes s refl in
    let same : after.0 ≡ t = let e = after.1 in cc in
    (s, refl, subst (R s) same after.2)

-- a weaker relation
pub so_goes : (P R : DiskState → DiskState → Type 0) (old new : Option DiskState) → Goes P old new → ((s t : DiskState) → old ≡ Some s → P s t → R s t) → Goes R old new
so_goes P R old new goes so = record {
  silent = goes.silent;
  goes = λ s is. let after = goes.goes s is in (after.0, after.1, so s after.0 is after.2);
}

-- nothing new is told
pub stays : (R : DiskState → DiskState → Type 0) (old new : Option DiskState) → new ≡ old → ((s : DiskState) → old ≡ Some s → R s s) → Goes R old new
stays R old new same so = record { silent = λ none. same ∙ none; goes = λ s is. (s, same ∙ is, so s is) }

-- one after the other
pub then_goes : (P Q R : DiskState → DiskState → Type 0) (old between new : Option DiskState) → Goes P old between → Goes Q between new
    → ((s t u : DiskState) → old ≡ Some s → P s t → Q t u → R s u) → Goes R old new
then_goes P Q R old between new first second so = record {
  silent = λ none. second.silent (first.silent none);
  goes = λ s is.
      let middle = first.goes s is in
      let last = second.goes middle.0 middle.1 in
      (last.0, last.1, so s middle.0 last.0 is middle.2 last.2);
}
