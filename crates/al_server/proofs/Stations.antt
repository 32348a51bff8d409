-- What came of the doors, from what the workers did.
use Rattle.std.proofs.Common.{◌≡◌, inl, inr, ℕ, suc, ◌+◌, ◌≤◌, Bool, false, Option, None, Some, List, [], ◌∷◌, ◌++◌, length, map, refl, sym, ap, ◌∙◌, subst, arith, slice_get, length-append}
use Rattle.std.proofs.lemmas.List.{length-map}
use Rattle.std.proofs.lemmas.List.Sums.{sum_by-cons}
use Rattle.std.specs.Prelude.{◌||◌}
use Rattle.std.specs.List.{AllZip}
use Rattle.std.specs.Option.{option_map}
use Rattle.al_base.specs.Readings.{Readings}
use Rattle.al_model.specs.declared.entry.Entry.{Entry}
use Rattle.al_model.specs.declared.kept.Mark.{Mark}
use Rattle.al_restconf.specs.Machine.{IsAnswer}
use Rattle.al_serve.specs.Doors.{Connection, DoorState}
use Rattle.al_serve.specs.Laws.{AreNumberedFrom, put_by_all}
use Rattle.al_serve.specs.Workers.{AreServed, HasWorked, Round, Work, given_of, put_by}
use Rattle.al_turn.specs.Histories.{entries_of}
use Rattle.al_turn.specs.Identities.{Identity}
use Rattle.al_turn.specs.Passes.{Ended, LockState, PassState, identity_of}
use Rattle.al_server.specs.Crews.{AreFresh, HasBegun, HaveBegun, IsFresh, all_there, any_failed, clocks_of, doors_of, passes_of, served_of}
use Rattle.al_server.specs.Serving.{HasServedDoor, HaveServedDoors, Station, added_by, due_by, has_failed, only, served_by}

-- ---- what is due

-- a door that told those to come had so many at least
given_within : (connections served : ℕ) (rounds : List Round) (before after : Option (List Connection))
    → before ≡ option_map (λ rest. given_of rounds ++ rest) after → served ≡ length rounds → served ≤ connections → length rounds ≤ due_by connections before
given_within connections served rounds None after is counted within = omega (arith, counted, within)
given_within connections served rounds (Some coming) None is counted within = absurd (cc)
given_within connections served rounds (Some coming) (Some rest) is counted within =
    let all : coming ≡ given_of rounds ++ rest = (cc) in
    let lengths = ap (λ (cs : List Connection). length cs) all in
    let parts = length-append (given_of rounds) rest in
    let given : length (given_of rounds) ≡ length rounds = length-map rounds (λ (round : Round). round.given) in
    omega (arith, lengths, parts, given, counted, within)

-- no door that doesn't tell those to come is at its end; one that is gave all of them
given_all : (connections served : ℕ) (rounds : List Round) (before after : Option (List Connection))
    → before ≡ option_map (λ rest. given_of rounds ++ rest) after → served ≡ length rounds → served ≤ connections → after ≡ Some [] → length rounds ≡ due_by connections before
given_all connections served rounds None None is counted within done = absurd (cc)
given_all connections served rounds None (Some rest) is counted within done = absurd (cc)
given_all connections served rounds (Some coming) None is counted within done = absurd (cc)
given_all connections served rounds (Some coming) (Some rest) is counted within done =
    let all : coming ≡ given_of rounds ++ rest = (cc) in
    let none : rest ≡ [] = (cc) in
    let lengths = ap (λ (cs : List Connection). length cs) all in
    let empty = ap (λ (cs : List Connection). length cs) none in
    let parts = length-append (given_of rounds) rest in
    let given : length (given_of rounds) ≡ length rounds = length-map rounds (λ (round : Round). round.given) in
    omega (arith, lengths, parts, given, empty, counted, within)

given_most : (connections served : ℕ) (rounds : List Round) (before after : Option (List Connection))
    → before ≡ option_map (λ rest. given_of rounds ++ rest) after → served ≡ length rounds → served ≡ connections → length rounds ≡ due_by connections before
given_most connections served rounds None after is counted all = sym counted ∙ all
given_most connections served rounds (Some coming) after is counted all =
    let least = given_within connections served rounds (Some coming) after is counted (omega (arith, all)) in
    omega (arith, least, counted, all)

-- ---- one door

-- the pass that a worker leaves is the one that it had
pub same_pass : (pass seen : PassState) (work done : Work) → work.pass ≡ Some pass → done.pass ≡ Some seen → HasWorked IsAnswer work done → identity_of seen ≡ identity_of pass
same_pass pass seen work done has had worked =
    let first_is : worked.first ≡ pass = (let w = worked.had in cc) in
    let last_is : worked.last ≡ seen = (let w = worked.has in cc) in
    ap identity_of (sym last_is) ∙ worked.identity ∙ ap identity_of first_is

module _ (lock : LockState) (connections : ℕ) (last : Mark) where
  abbrev pub station_of : (work done : Work) → PassState → List Round → Station
  station_of work done seen rounds = record {
    given = work.door;
    left = done.door;
    old_clock = work.clock;
    new_clock = done.clock;
    rounds = rounds;
    seen = seen.view.seen;
    added = put_by seen;
    faulted = done.faulted;
  }

  due_is : (work done : Work) → work.connections ≡ connections → work.served ≡ 0 → (worked : HasWorked IsAnswer work done) → done.faulted ≡ false
      → length worked.rounds ≡ due_by connections work.door.coming
  due_is work done due none worked sound =
      let counted : done.served ≡ length worked.rounds = (let s = worked.served in omega arith) in
      let within : done.served ≤ connections = (let w = worked.within in let c = worked.connections in omega arith) in
      elim worked.ends [
        | inl all ↦ given_most connections done.served worked.rounds _ _ worked.door.coming counted (let c = worked.connections in omega arith)
        | inr other ↦ elim other [
          | inl ended ↦ given_all connections done.served worked.rounds _ _ worked.door.coming counted within ended
          | inr failed ↦ absurd (cc)
        ]
      ]

  one_served : (number : ℕ) (pass seen : PassState) (work done : Work) → IsFresh lock number pass → work.pass ≡ Some pass → done.pass ≡ Some seen → HasBegun connections number work
      → (worked : HasWorked IsAnswer work done) → Ended lock.start seen last → HasServedDoor connections lock.start last number (station_of work done seen worked.rounds)
  one_served number pass seen work done fresh has had begun worked ended =
      let first_is : worked.first ≡ pass = (let w = worked.had in cc) in
      let last_is : worked.last ≡ seen = (let w = worked.has in cc) in
      let same = same_pass pass seen work done has had worked in
      let number_is : seen.view.number ≡ number = ap (λ (i : Identity). i.number) same ∙ fresh.numbered in
      let base_is : seen.view.base ≡ length lock.start.entries = ap (λ (i : Identity). i.base) same ∙ fresh.base in
      let first_number : worked.first.view.number ≡ number = ap (λ (p : PassState). p.view.number) first_is ∙ fresh.numbered in
      let first_seen : worked.first.view.seen ≡ lock.start = ap (λ (p : PassState). p.view.seen) first_is ∙ fresh.seen in
      let last_seen : worked.last.view.seen ≡ seen.view.seen = ap (λ (p : PassState). p.view.seen) last_is in
      let a0 : AreServed IsAnswer (only worked.first.view.number) work.origin worked.first.view.seen work.clock worked.rounds worked.last.view.seen done.clock = worked.are_served in
      let a1 = subst (λ (n : ℕ). AreServed IsAnswer (only n) work.origin worked.first.view.seen work.clock worked.rounds worked.last.view.seen done.clock) first_number a0 in
      let a2 = subst (λ (n : ℕ). AreServed IsAnswer (only number) n worked.first.view.seen work.clock worked.rounds worked.last.view.seen done.clock) begun.origin a1 in
      let a3 = subst (λ (m : Mark). AreServed IsAnswer (only number) number m work.clock worked.rounds worked.last.view.seen done.clock) first_seen a2 in
      let a4 = subst (λ (m : Mark). AreServed IsAnswer (only number) number lock.start work.clock worked.rounds m done.clock) last_seen a3 in
      let counted : done.served ≡ length worked.rounds = (let s = worked.served in let b = begun.served in omega arith) in
      let within : done.served ≤ connections = (let w = worked.within in let c = worked.connections in let b = begun.due in omega arith) in
      let own = subst (λ (n : ℕ). entries_of last.entries n (length lock.start.entries) ≡ entries_of seen.view.seen.entries n (length lock.start.entries)) number_is ended.own in
      record {
        are_served = a4;
        goes_on = ended.goes_on;
        own = own;
        added = ap (λ (n : ℕ). length (entries_of seen.view.seen.entries n seen.view.base)) number_is ∙ ap (λ (n : ℕ). length (entries_of seen.view.seen.entries number n)) base_is
            ∙ sym (ap (λ (es : List Entry). length es) own);
        door = worked.door;
        within = given_within connections done.served worked.rounds _ _ worked.door.coming counted within;
        due = λ sound. due_is work done begun.due begun.served worked sound;
        faulted = worked.faulted;
      }

  -- ---- all doors

  pub record Stations (number : ℕ) (seen : List PassState) (works dones : List Work) : Type 0 where
    pub stations : List Station
    pub given : map (λ (station : Station). station.given) stations ≡ doors_of works
    pub left : map (λ (station : Station). station.left) stations ≡ doors_of dones
    pub clocks : map (λ (station : Station). station.old_clock) stations ≡ clocks_of works
    pub served : HaveServedDoors connections lock.start last number stations
    pub counted : served_by stations ≡ served_of dones
    pub failed : has_failed stations ≡ any_failed dones
    pub added : added_by stations ≡ put_by_all seen
    pub numbered : AreNumberedFrom (length lock.start.entries) number seen
    pub as_many : length stations ≡ length seen

  pub all_served : (number : ℕ) (passes seen : List PassState) (works dones : List Work) → AreFresh lock number passes → passes_of works ≡ all_there passes → passes_of dones ≡ all_there seen
      → HaveBegun connections number works → AllZip (HasWorked IsAnswer) works dones → ((k : ℕ) (p : PassState) → slice_get seen k ≡ Some p → Ended lock.start p last) → Stations number seen works dones
  all_served number passes [] [] [] fresh are left begun worked ended = record {
    stations = [];
    given = refl;
    left = refl;
    clocks = refl;
    served = tt;
    counted = refl;
    failed = refl;
    added = refl;
    numbered = tt;
    as_many = refl;
  }
  all_served number passes (p ∷ seen) [] [] fresh are left begun worked ended = absurd (cc)
  all_served number passes seen [] (done ∷ dones) fresh are left begun worked ended = absurd worked
  all_served number passes seen (work ∷ works) [] fresh are left begun worked ended = absurd worked
  all_served number [] seen (work ∷ works) (done ∷ dones) fresh are left begun worked ended = absurd (cc)
  all_served number (pass ∷ passes) [] (work ∷ works) (done ∷ dones) fresh are left begun worked ended = absurd (cc)
  all_served number (pass ∷ passes) (p ∷ seen) (work ∷ works) (done ∷ dones) fresh are left begun worked ended =
      let rest = all_served (number + 1) passes seen works dones fresh.1 (cc) (cc) begun.1 worked.1 (λ k q at. ended (suc k) q at) in
      let has : work.pass ≡ Some pass = (cc) in
      let had : done.pass ≡ Some p = (cc) in
      let one = one_served number pass p work done fresh.0 has had begun.0 worked.0 (ended 0 p refl) in
      let station = station_of work done p worked.0.rounds in
      let number_is : p.view.number ≡ number = ap (λ (i : Identity). i.number) (same_pass pass p work done has had worked.0) ∙ fresh.0.numbered in
      let base_is : p.view.base ≡ length lock.start.entries = ap (λ (i : Identity). i.base) (same_pass pass p work done has had worked.0) ∙ fresh.0.base in
      let counted : length worked.0.rounds ≡ done.served = (let s = worked.0.served in let b = begun.0.served in omega arith) in
      record {
        stations = station ∷ rest.stations;
        given = ap (λ (doors : List DoorState). work.door ∷ doors) rest.given;
        left = ap (λ (doors : List DoorState). done.door ∷ doors) rest.left;
        clocks = ap (λ (clocks : List (Option Readings)). work.clock ∷ clocks) rest.clocks;
        served = (one, rest.served);
        counted = sum_by-cons (λ (s : Station). length s.rounds) station rest.stations ∙ ap (λ (n : ℕ). n + served_by rest.stations) counted ∙ ap (λ (n : ℕ). done.served + n) rest.counted
            ∙ sym (sum_by-cons (λ (w : Work). w.served) done dones);
        failed = ap (λ (b : Bool). done.faulted || b) rest.failed;
        added = sum_by-cons (λ (s : Station). s.added) station rest.stations ∙ ap (λ (n : ℕ). put_by p + n) rest.added;
        numbered = (number_is, base_is, rest.numbered);
        as_many = ap (λ (n : ℕ). suc n) rest.as_many;
      }
