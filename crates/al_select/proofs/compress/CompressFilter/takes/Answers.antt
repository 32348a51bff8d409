use Rattle.std.proofs.Common.{rules, ◌≡◌, ◌↔◌, Bool, IsTrue, sym, subst}
use Rattle.al_select.specs.Filters.{compress_takes}
use Rattle.al_select.specs.Meets.{MeetsCompress}
use Rattle.al_select.specs.declared.compress.CompressFilter.{CompressFilter}
use Rattle.al_ids.specs.declared.key.AlarmKey.{AlarmKey}
use Rattle.al_select.proofs.Takings.{decides_compress}
use Rattle.al_select.proofs.compress.CompressFilter.takes.Goals as goal

means : (filter : CompressFilter) (key : AlarmKey) (r : Bool) → r ≡ compress_takes filter key → IsTrue r ↔ MeetsCompress filter key
means filter key r is = subst (λ b. IsTrue b ↔ MeetsCompress filter key) (sym is) (decides_compress filter key)

pub returns-then-takes_type-clause-meaning : goal.returns-then-takes_type-clause-meaning
unfolding compress_takes
returns-then-takes_type-clause-meaning c = means c.args.self.now c.args.key.now c.takes_qualifier.result (search rules)

pub returns-else-takes_type-clause-meaning : goal.returns-else-takes_type-clause-meaning
unfolding compress_takes
returns-else-takes_type-clause-meaning c = means c.args.self.now c.args.key.now c.if-takes_resource.value (search rules)
