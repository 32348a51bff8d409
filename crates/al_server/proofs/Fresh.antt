-- Passes and workers before their first turns.
use Rattle.std.proofs.Common.{◌≡◌, ℕ, zero, suc, ◌+◌, ◌≤◌, Some, List, [], ◌∷◌, ◌++◌, length, refl, sym, ap, ◌∙◌, subst, arith, slice_get, add-zero, add_comm}
use Rattle.std.specs.List.{AllByRecursion, AllZip}
use Rattle.al_serve.specs.Workers.{IsReady, Work}
use Rattle.al_turn.specs.Identities.{Identity}
use Rattle.al_turn.specs.Passes.{AllPasses, LockState, PassState, identity_of}
use Rattle.al_turn.specs.Views.{first_view, next_view}
use Rattle.al_turn.specs.declared.view.View.{View}
use Rattle.al_server.specs.Crews.{AreFresh, ArePasses, HasBegun, HaveBegun, IsFresh, all_there, passes_of}

one_behind : (number count : ℕ) → number + suc count ≡ number + 1 + count
one_behind number count = omega arith

-- one more pass, with the next number
pub fresh_more : (lock : LockState) (number : ℕ) (passes : List PassState) (pass : PassState) → AreFresh lock number passes → IsFresh lock (number + length passes) pass → AreFresh lock number (passes ++ pass ∷ [])
fresh_more lock number [] pass fresh last = (subst (λ n. IsFresh lock n pass) (add-zero number) last, tt)
fresh_more lock number (first ∷ rest) pass fresh last =
    (fresh.0, fresh_more lock (number + 1) rest pass fresh.1 (subst (λ n. IsFresh lock n pass) (one_behind number (length rest)) last))

-- one more worker, with the next number
pub begun_more : (connections number : ℕ) (works : List Work) (work : Work) → HaveBegun connections number works → HasBegun connections (number + length works) work → HaveBegun connections number (works ++ work ∷ [])
begun_more connections number [] work begun last = (subst (λ n. HasBegun connections n work) (add-zero number) last, tt)
begun_more connections number (first ∷ rest) work begun last =
    (begun.0, begun_more connections (number + 1) rest work begun.1 (subst (λ n. HasBegun connections n work) (one_behind number (length rest)) last))

-- a worker that has done nothing, with a pass that has had no turn, may work
one_ready : (lock : LockState) (connections number : ℕ) (pass : PassState) (work : Work) → connections ≤ 1000000 → IsFresh lock number pass → work.pass ≡ Some pass → HasBegun connections number work → IsReady lock work
one_ready lock connections number pass work few fresh has begun = record {
  pass = pass;
  has = has;
  table = fresh.table;
  number = fresh.numbered ∙ sym begun.origin;
  turns = (let left = fresh.left in let served = begun.served in let due = begun.due in omega arith);
  served = (let served = begun.served in omega arith);
  added = (let added = begun.added in omega arith);
}

-- so all of them may
pub all_ready : (lock : LockState) (connections number : ℕ) (passes : List PassState) (works : List Work) → connections ≤ 1000000 → AreFresh lock number passes → passes_of works ≡ all_there passes → HaveBegun connections number works → AllByRecursion (IsReady lock) works
all_ready lock connections number passes [] few fresh are begun = tt
all_ready lock connections number [] (work ∷ works) few fresh are begun = absurd (cc)
all_ready lock connections number (pass ∷ passes) (work ∷ works) few fresh are begun =
    (one_ready lock connections number pass work few fresh.0 (cc) begun.0, all_ready lock connections (number + 1) passes works few fresh.1 (cc) begun.1)

-- passes that have had turns keep their numbers and their turnstile
each_last : (lock : LockState) (number : ℕ) (passes seen : List PassState) → AreFresh lock number passes → AllZip (λ (pass last : PassState). identity_of last ≡ identity_of pass) passes seen
    → (k : ℕ) (last : PassState) → slice_get seen k ≡ Some last → (last.view.number ≡ number + k) × (last.table ≡ lock.table)
each_last lock number [] [] fresh same k last at = absurd (cc)
each_last lock number [] (first ∷ seen) fresh same k last at = absurd same
each_last lock number (pass ∷ passes) [] fresh same k last at = absurd same
each_last lock number (pass ∷ passes) (first ∷ seen) fresh same zero last at =
    let is : first ≡ last = (cc) in
    let kept : identity_of last ≡ identity_of pass = ap identity_of (sym is) ∙ same.0 in
    let table_is : Some last.table ≡ Some pass.table = ap (λ (i : Identity). i.table) kept in
    (ap (λ (i : Identity). i.number) kept ∙ fresh.0.numbered ∙ sym (add-zero number), (let own : last.table ≡ pass.table = (cc) in own ∙ fresh.0.table))
each_last lock number (pass ∷ passes) (first ∷ seen) fresh same (suc k) last at =
    let rest = each_last lock (number + 1) passes seen fresh.1 same.1 k last at in
    (rest.0 ∙ sym (one_behind number k), rest.1)

-- pass 1 keeps the number of passes that it made
first_made : (count : ℕ) (passes seen : List PassState) → ((pass : PassState) → slice_get passes 0 ≡ Some pass → pass.view.made ≡ count) → AllZip (λ (pass last : PassState). identity_of last ≡ identity_of pass) passes seen
    → (last : PassState) → slice_get seen 0 ≡ Some last → last.view.made ≡ count
first_made count [] [] made same last at = absurd (cc)
first_made count [] (first ∷ seen) made same last at = absurd same
first_made count (pass ∷ passes) [] made same last at = absurd same
first_made count (pass ∷ passes) (first ∷ seen) made same last at =
    let is : first ≡ last = (cc) in
    ap (λ (i : Identity). i.made) (ap identity_of (sym is) ∙ same.0) ∙ made pass refl

same_length : (passes seen : List PassState) → AllZip (λ (pass last : PassState). identity_of last ≡ identity_of pass) passes seen → length seen ≡ length passes
same_length [] [] same = refl
same_length [] (first ∷ seen) same = absurd same
same_length (pass ∷ passes) [] same = absurd same
same_length (pass ∷ passes) (first ∷ seen) same = ap (λ (n : ℕ). suc n) (same_length passes seen same.1)

-- so the turnstile may be closed with them
pub all_back : (lock : LockState) (count : ℕ) (passes seen : List PassState) → ArePasses lock count passes → AllZip (λ (pass last : PassState). identity_of last ≡ identity_of pass) passes seen → AllPasses lock.table seen
all_back lock count passes seen are same =
    let lengths : length seen ≡ count = same_length passes seen same ∙ are.counted in
    record {
      some_pass = (let s = are.some_pass in omega arith);
      each = λ k last at.
          let kept = each_last lock 1 passes seen are.fresh same k last at in
          (kept.0 ∙ add_comm 1 k, kept.1);
      made = λ last at. first_made count passes seen are.made same last at ∙ sym lengths;
    }

-- the passes that pass 1 has made, and the next one
pub next_fresh : (lock : LockState) (made : ℕ) (old new : List PassState) (first next : PassState) → first.table ≡ lock.table → first.view ≡ record (first_view lock.start) { made = made } → length old + 1 ≡ made
    → next.table ≡ first.table → next.view ≡ next_view first.view → new ≡ old ++ next ∷ [] → AreFresh lock 2 old → AreFresh lock 2 new
next_fresh lock made old new first next table view counted next_table next_is pushes fresh =
    let known : next.view ≡ next_view (record (first_view lock.start) { made = made }) = next_is ∙ ap next_view view in
    let one : IsFresh lock (2 + length old) next = record {
      table = next_table ∙ table;
      numbered = (let number = ap (λ (v : View). v.number) known in omega (arith, number, counted));
      base = ap (λ (v : View). v.base) known;
      seen = ap (λ (v : View). v.seen) known;
      left = ap (λ (v : View). v.left) known;
    } in
    subst (λ (ps : List PassState). AreFresh lock 2 ps) (sym pushes) (fresh_more lock 2 old next fresh one)
