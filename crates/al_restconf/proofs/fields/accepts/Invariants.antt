use Rattle.std.proofs.Common.{◌≡◌}
use Rattle.std.specs.List.{list_any}
use Rattle.std.specs.Option.{option_copied}
use Rattle.al_base.proofs.CutLemmas.{size_left}
use Rattle.al_base.specs.Cuts.{pieces, pieces_left}
use Rattle.al_restconf.specs.Fields.{answered_types, is_of_types}
use Rattle.al_restconf.proofs.fields.accepts.Given as goal

-- the parts that are left decide
abbrev pub invariant-loop-rest : goal.invariant-loop-rest
invariant-loop-rest l =
    list_any (is_of_types answered_types) (pieces 44 l.value) ≡ list_any (is_of_types answered_types) (pieces_left 44 (option_copied l.rest))

abbrev pub decreases-loop-rest : goal.decreases-loop-rest
decreases-loop-rest l = size_left l.rest
