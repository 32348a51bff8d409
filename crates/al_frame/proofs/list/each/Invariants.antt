use Rattle.std.proofs.Common.{◌≡◌, ◌-◌, ◌++◌, Ok}
use Rattle.al_frame.specs.Formats.{each_at}
use Rattle.al_base.specs.Answers.{and_then}
use Rattle.al_frame.proofs.list.each.Given as goal

abbrev pub invariant-loop : goal.invariant-loop
invariant-loop g l =
    each_at g.F.Field.format.read l.count l.n l.bytes
    ≡ and_then (each_at g.F.Field.format.read (l.count - l.counter) l.n l.rest) (λ xs. Ok (l.values.items ++ xs.0, xs.1))
