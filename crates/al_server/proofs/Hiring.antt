-- Workers are made one by one, and give back what they had one by one.
use Rattle.std.proofs.Common.{◌≡◌, ℕ, ◌+◌, Bool, true, false, Option, Some, List, [], ◌∷◌, ◌++◌, length, map, refl, sym, ap, ◌∙◌, drop, subst, append_assoc, append-nil, length-append, arith}
use Rattle.std.proofs.lemmas.List.{map-append}
use Rattle.std.proofs.lemmas.List.Sums.{sum_by-cons}
use Rattle.std.specs.Prelude.{◌||◌, option_to_list}
use Rattle.al_base.specs.Readings.{Readings}
use Rattle.al_serve.specs.Doors.{DoorState}
use Rattle.al_serve.specs.Workers.{Work}
use Rattle.al_turn.specs.Passes.{PassState}
use Rattle.al_server.proofs.Fresh.{begun_more}
use Rattle.al_server.specs.Crews.{AreDismissed, HasBegun, HaveBegun, HavePasses, all_there, any_failed, clocks_of, doors_of, passes_of, served_of}

-- ---- hiring

-- There are workers for the first passes, doors and clocks, and those are left.
pub record Hiring (connections : ℕ) (passes left_passes : List PassState) (doors left_doors : List DoorState) (clocks left_clocks : List (Option Readings)) (works : List Work) : Type 0 where
  pub passes_are : passes_of works ++ all_there left_passes ≡ all_there passes
  pub doors_are : doors_of works ++ left_doors ≡ doors
  pub clocks_are : clocks_of works ++ left_clocks ≡ clocks
  pub begun : HaveBegun connections 1 works

-- an element goes from the one list to the other
moves : {A B : Type 0} (f : A → B) (xs : List A) (x : A) (ys : List B) → map f (xs ++ x ∷ []) ++ ys ≡ map f xs ++ f x ∷ ys
moves f xs x ys = ap (λ zs. zs ++ ys) (map-append f xs (x ∷ [])) ∙ append_assoc (map f xs) (f x ∷ []) ys

pub one_hired : (connections : ℕ) (passes left_passes : List PassState) (doors left_doors : List DoorState) (clocks left_clocks : List (Option Readings)) (works : List Work) (pass : PassState) (work : Work)
    → Hiring connections passes (pass ∷ left_passes) doors (work.door ∷ left_doors) clocks (work.clock ∷ left_clocks) works → work.pass ≡ Some pass → HasBegun connections (1 + length works) work
    → Hiring connections passes left_passes doors left_doors clocks left_clocks (works ++ work ∷ [])
one_hired connections passes left_passes doors left_doors clocks left_clocks works pass work hiring has begun = record {
  passes_are = moves (λ (w : Work). w.pass) works work (all_there left_passes) ∙ ap (λ (p : Option PassState). passes_of works ++ p ∷ all_there left_passes) has ∙ hiring.passes_are;
  doors_are = moves (λ (w : Work). w.door) works work left_doors ∙ hiring.doors_are;
  clocks_are = moves (λ (w : Work). w.clock) works work left_clocks ∙ hiring.clocks_are;
  begun = begun_more connections 1 works work hiring.begun begun;
}

-- ---- dismissing

-- The first workers have given these passes and doors back, and those are left.
pub record Dismissing (all left : List Work) (passes : List PassState) (doors : List DoorState) (connections : ℕ) (faulted : Bool) : Type 0 where
  pub passes_are : passes_of all ≡ all_there passes ++ passes_of left
  pub doors_are : doors_of all ≡ doors ++ doors_of left
  pub served : served_of all ≡ connections + served_of left
  pub failed : any_failed all ≡ (faulted || any_failed left)
  pub have : HavePasses left

or_assoc : (a b c : Bool) → (a || (b || c)) ≡ ((a || b) || c)
or_assoc true b c = refl
or_assoc false b c = refl

pub one_dismissed : (all left : List Work) (passes : List PassState) (doors : List DoorState) (connections : ℕ) (faulted : Bool) (work : Work) (pass : PassState)
    → Dismissing all (work ∷ left) passes doors connections faulted → work.pass ≡ Some pass
    → Dismissing all left (passes ++ pass ∷ []) (doors ++ work.door ∷ []) (connections + work.served) (faulted || work.faulted)
one_dismissed all left passes doors connections faulted work pass before has = record {
  passes_are = before.passes_are ∙ ap (λ (p : Option PassState). all_there passes ++ p ∷ passes_of left) has ∙ sym (moves (λ (p : PassState). Some p) passes pass (passes_of left));
  doors_are = before.doors_are ∙ sym (append_assoc doors (work.door ∷ []) (doors_of left));
  served = (let s = before.served in let more = sum_by-cons (λ (w : Work). w.served) work left in omega (arith, s, more));
  failed = before.failed ∙ or_assoc faulted work.faulted (any_failed left);
  have = before.have.1;
}

or_false : (b : Bool) → (b || false) ≡ b
or_false true = refl
or_false false = refl

pub all_dismissed : (all : List Work) (passes : List PassState) (doors : List DoorState) (connections : ℕ) (faulted : Bool) → Dismissing all [] passes doors connections faulted → AreDismissed all passes doors connections faulted
all_dismissed all passes doors connections faulted done = record {
  passes_are = done.passes_are ∙ append-nil (all_there passes);
  doors_are = done.doors_are ∙ append-nil doors;
  connections_are = (let s = done.served in omega (arith, s));
  faulted_is = sym (done.failed ∙ or_false faulted);
}

-- ---- the same of the workers, doors and clocks themselves

pub popped : {A : Type 0} (xs ys : List A) (o : Option A) (x : A) → o ≡ Some x → xs ≡ option_to_list o ++ ys → xs ≡ x ∷ ys
popped {A} xs ys o x is pops = pops ∙ ap (λ (some : Option A). option_to_list some ++ ys) is

pub popped_len : {A : Type 0} (before after : ℕ) (o : Option A) (x : A) → o ≡ Some x → after + length (option_to_list o) ≡ before → after + 1 ≡ before
popped_len {A} before after o x is lengths = subst (λ (some : Option A). after + length (option_to_list some) ≡ before) is lengths

pub pushed_len : {A : Type 0} (xs ys : List A) (x : A) (count : ℕ) → ys ≡ xs ++ x ∷ [] → count ≡ length xs → count + 1 ≡ length ys
pushed_len {A} xs ys x count pushes counted =
    let lengths = ap (λ (zs : List A). length zs) pushes in
    omega (arith, lengths, length-append xs (x ∷ []), counted)

pub counted_more : {A : Type 0} (xs ys : List A) (x : A) (count : ℕ) → ys ≡ xs ++ x ∷ [] → length xs + 1 ≡ count → length ys + 1 ≡ count + 1
counted_more {A} xs ys x count pushes counted =
    let lengths = ap (λ (zs : List A). length zs) pushes in
    omega (arith, lengths, length-append xs (x ∷ []), counted)

-- nothing was popped of an empty list
pub none_left : {A : Type 0} (xs ys : List A) → xs ≡ ys → ys ≡ drop 1 xs → xs ≡ []
none_left [] ys same rest = refl
none_left {A} (x ∷ xs) ys same rest =
    let lengths = ap (λ (zs : List A). length zs) (same ∙ rest) in
    absurd (omega (arith, lengths))

module _ {W N : Type 0} (f : W → Work) (state : N → DoorState) where
  pub done_dismissing : (all first : List W) (left : List W) (passes : List PassState) (doors : List N) (connections : ℕ) (faulted : Bool) → first ≡ all → left ≡ []
      → Dismissing (map f first) (map f left) passes (map state doors) connections faulted → AreDismissed (map f all) passes (map state doors) connections faulted
  done_dismissing all first left passes doors connections faulted same none done =
      let a = subst (λ (ws : List W). Dismissing (map f ws) (map f left) passes (map state doors) connections faulted) same done in
      let b = subst (λ (ws : List W). Dismissing (map f all) (map f ws) passes (map state doors) connections faulted) none a in
      all_dismissed (map f all) passes (map state doors) connections faulted b

  pub dismissed_more : (all : List Work) (old new : List W) (passes new_passes : List PassState) (doors new_doors : List N) (connections : ℕ) (faulted : Bool) (w : W) (pass : PassState) (door : N)
      → old ≡ w ∷ new → Dismissing all (map f old) passes (map state doors) connections faulted → (f w).pass ≡ Some pass → (f w).door ≡ state door
      → new_passes ≡ passes ++ pass ∷ [] → new_doors ≡ doors ++ door ∷ []
      → Dismissing all (map f new) new_passes (map state new_doors) (connections + (f w).served) (faulted || (f w).faulted)
  dismissed_more all old new passes new_passes doors new_doors connections faulted w pass door pops before has is_door pushes_pass pushes_door =
      let there : Dismissing all (f w ∷ map f new) passes (map state doors) connections faulted = subst (λ (ws : List W). Dismissing all (map f ws) passes (map state doors) connections faulted) pops before in
      let one = one_dismissed all (map f new) passes (map state doors) connections faulted (f w) pass there has in
      let doors_are : map state doors ++ (f w).door ∷ [] ≡ map state new_doors =
      ap (λ (d : DoorState). map state doors ++ d ∷ []) is_door ∙ sym (ap (map state) pushes_door ∙ map-append state doors (door ∷ [])) in
      let with_doors = subst (λ (ds : List DoorState). Dismissing all (map f new) (passes ++ pass ∷ []) ds (connections + (f w).served) (faulted || (f w).faulted)) doors_are one in
      subst (λ (ps : List PassState). Dismissing all (map f new) ps (map state new_doors) (connections + (f w).served) (faulted || (f w).faulted)) (sym pushes_pass) with_doors

module _ {W N K : Type 0} (f : W → Work) (state : N → DoorState) (readings : K → Option Readings) where
  pub hired_more : (connections : ℕ) (passes old_passes new_passes : List PassState) (all_doors : List DoorState) (old_doors new_doors : List N) (all_clocks : List (Option Readings)) (old_clocks new_clocks : List K)
      (old new : List W) (w : W) (pass : PassState) (door : N) (clock : K)
      → old_passes ≡ pass ∷ new_passes → old_doors ≡ door ∷ new_doors → old_clocks ≡ clock ∷ new_clocks → new ≡ old ++ w ∷ []
      → Hiring connections passes old_passes all_doors (map state old_doors) all_clocks (map readings old_clocks) (map f old)
      → (f w).pass ≡ Some pass → (f w).door ≡ state door → (f w).clock ≡ readings clock → HasBegun connections (1 + length (map f old)) (f w)
      → Hiring connections passes new_passes all_doors (map state new_doors) all_clocks (map readings new_clocks) (map f new)
  hired_more connections passes old_passes new_passes all_doors old_doors new_doors all_clocks old_clocks new_clocks old new w pass door clock pops_pass pops_door pops_clock pushes before has is_door is_clock begun =
      let a = subst (λ (ps : List PassState). Hiring connections passes ps all_doors (map state old_doors) all_clocks (map readings old_clocks) (map f old)) pops_pass before in
      let doors_are : map state old_doors ≡ (f w).door ∷ map state new_doors = ap (map state) pops_door ∙ ap (λ (d : DoorState). d ∷ map state new_doors) (sym is_door) in
      let b = subst (λ (ds : List DoorState). Hiring connections passes (pass ∷ new_passes) all_doors ds all_clocks (map readings old_clocks) (map f old)) doors_are a in
      let clocks_are : map readings old_clocks ≡ (f w).clock ∷ map readings new_clocks = ap (map readings) pops_clock ∙ ap (λ (k : Option Readings). k ∷ map readings new_clocks) (sym is_clock) in
      let c = subst (λ (ks : List (Option Readings)). Hiring connections passes (pass ∷ new_passes) all_doors ((f w).door ∷ map state new_doors) all_clocks ks (map f old)) clocks_are b in
      let one = one_hired connections passes new_passes all_doors (map state new_doors) all_clocks (map readings new_clocks) (map f old) pass (f w) c has begun in
      subst (λ (ws : List Work). Hiring connections passes new_passes all_doors (map state new_doors) all_clocks (map readings new_clocks) ws) (sym (ap (map f) pushes ∙ map-append f old (w ∷ []))) one
