use Rattle.std.proofs.Common.{refl}
use Rattle.al_pattern.specs.Reading.{tree_of}
use Rattle.al_pattern.specs.Programs.{IsCompiled}
use Rattle.al_pattern.proofs.PatternLemmas.{nodes_compiled, ready_from, spelled_from, no_fault, refused_never}
use Rattle.al_pattern.proofs.OneFault.{first_placed}
use Rattle.al_pattern.proofs.pattern.Pattern.read.Goals as goal

pub takes_nothing-nullable-requires : goal.takes_nothing-nullable-requires
takes_nothing-nullable-requires c =
    (tree_of c.args.text.now, rw c.deref.ensures.value (nodes_compiled c.in-Ok.nodes.items c.args.text.now c.in-Ok.ensures))

pub invariant_of-result : goal.invariant_of-result
invariant_of-result c =
    let compiled : IsCompiled c.deref.result.now (tree_of c.args.text.now) = rw c.deref.ensures.value (nodes_compiled c.in-Ok.nodes.items c.args.text.now c.in-Ok.ensures) in
    rw c.in_ok-source-in-Ok.ensures.items
    (ready_from c.in-Ok.nodes.items c.args.text.now c.takes_nothing-nullable.result c.in-Ok.ensures (c.takes_nothing-nullable.ensures (tree_of c.args.text.now) compiled))

pub returns-in_ok-source-in-Ok-clause-found : goal.returns-in_ok-source-in-Ok-clause-found
returns-in_ok-source-in-Ok-clause-found c =
    rw c.in_ok-source-in-Ok.ensures.items (refl, spelled_from c.args.text.now c.in-Ok.ensures.tree c.in-Ok.ensures.read)

pub returns-in_ok-source-in-Ok-clause-fault : goal.returns-in_ok-source-in-Ok-clause-fault
returns-in_ok-source-in-Ok-clause-fault c = no_fault c.args.text.now c.in-Ok.ensures.tree c.in-Ok.ensures.read

pub returns-in-Err-clause-only : goal.returns-in-Err-clause-only
returns-in-Err-clause-only c tree spelled =
    refused_never c.args.text.now tree c.refusal.result spelled (c.refusal.ensures c.args.text.now refl c.in-Err.ensures)

pub returns-in-Err-clause-place : goal.returns-in-Err-clause-place
returns-in-Err-clause-place c = first_placed c.args.text.now c.refusal.result (c.refusal.ensures c.args.text.now refl c.in-Err.ensures)
