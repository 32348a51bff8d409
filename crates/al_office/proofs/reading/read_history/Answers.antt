-- All frames before the walk's place are those of the history so far.
use Rattle.std.proofs.Common.{◌++◌, List, ℕ, arith, refl, sym, ◌∙◌, ap, subst, Ok}
use Rattle.std.proofs.lemmas.List.{append-nil}
use Rattle.std.proofs.lemmas.Result.{err_from_is_err_and}
use Rattle.al_journal.specs.Images.{Shows}
use Rattle.al_office.specs.Images.{frames_of}
use Rattle.al_office.proofs.Frames.{walk_refused}
use Rattle.al_office.proofs.reading.read_history.Goals as goal

pub frames-init : goal.frames-init
frames-init g c = rw (c.in_ok-ledger.ensures) (record {
  place = omega (arith, c.requires.start);
  within = omega (arith, c.requires.start, c.requires.allowed.0);
  capacity = refl;
  doubt = refl;
  same = refl;
  later = omega arith;
  left = λ s is payloads shows. (payloads, refl);
})

pub returns-in_err-read_next-clause-read : goal.returns-in_err-read_next-clause-read
returns-in_err-read_next-clause-read g c =
    let p = err_from_is_err_and c.from_residual-in_err-read_next.result c.from_residual-in_err-read_next.ensures.1 in
    let i = c.frames.invariant in
    rw (p.1, p.2) (λ s is payloads shows.
    let here = subst (λ (n : ℕ). Shows n payloads s.content) (sym i.capacity) shows in
    let left = i.left s (i.same ∙ is) payloads here in
    let read = c.in_err-read_next.ensures.read s (i.same ∙ is) left.0 (subst (λ (l : List (List ℕ)). Shows c.frames.journal.capacity l s.content) left.1 here) in
    walk_refused c.frames.ledger.entries c.read_next.new.ledger.entries left.0 payloads c.frames.journal.capacity s.content c.in_err-read_next.field-0.0 left.1 here read)

pub frames-preserved : goal.frames-preserved
frames-preserved g c =
    let i = c.frames.invariant in
    let more = c.in_ok-read_next.ensures.more (ap (λ b. Ok b) c.if-branch.true) in
    record {
      place = more.0;
      within = c.in_ok-read_next.ensures.within;
      capacity = c.in_ok-read_next.ensures.capacity ∙ i.capacity;
      doubt = c.in_ok-read_next.ensures.doubt ∙ i.doubt;
      same = c.in_ok-read_next.ensures.same ∙ i.same;
      later = omega (arith, i.later, c.in_ok-read_next.ensures.later);
      left = λ s is payloads shows.
          let before = sym c.in_ok-read_next.ensures.same ∙ is in
          let here = subst (λ (n : ℕ). Shows n payloads s.content) c.in_ok-read_next.ensures.capacity shows in
          let left = i.left s before payloads here in
          let read = rw (c.if-branch.true) at (c.in_ok-read_next.ensures.read s before left.0 (subst (λ (l : List (List ℕ)). Shows c.frames.journal.capacity l s.content) left.1 here)) in
          (read.0, left.1 ∙ read.1);
    }

pub returns-clause-read : goal.returns-clause-read
returns-clause-read g c = λ s is payloads shows.
    let i = c.frames.invariant in
    let end = c.in_ok-read_next.ensures.end (ap (λ b. Ok b) c.if-branch.false) in
    let here = subst (λ (n : ℕ). Shows n payloads s.content) (sym i.capacity) shows in
    let left = i.left s (i.same ∙ is) payloads here in
    let none = rw (c.if-branch.false) at (c.in_ok-read_next.ensures.read s (i.same ∙ is) left.0 (subst (λ (l : List (List ℕ)). Shows c.frames.journal.capacity l s.content) left.1 here)) in
    left.1 ∙ ap (λ (l : List (List ℕ)). frames_of c.frames.ledger.entries ++ l) none ∙ append-nil (frames_of c.frames.ledger.entries) ∙ ap (λ l. frames_of l) (sym end.2)
