use Rattle.std.proofs.Common.{◌≡◌, drop}
use Rattle.std.specs.Prelude.{codes}
use Rattle.std.specs.List.{list_any}
use Rattle.al_http.specs.Requests.{values_of}
use Rattle.al_http.specs.Shown.{message_of}
use Rattle.al_restconf.specs.Fields.{accepts}
use Rattle.al_restconf.proofs.fields.has_accepted.Given as goal

-- the fields that are left decide
abbrev pub invariant-loop-n : goal.invariant-loop-n
invariant-loop-n l =
    list_any accepts (drop l.n (values_of (codes "accept") (message_of l.request).fields)) ≡ list_any accepts (values_of (codes "accept") (message_of l.request).fields)
