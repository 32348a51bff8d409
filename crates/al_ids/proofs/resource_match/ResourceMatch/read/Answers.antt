use Rattle.std.proofs.Common.{◌≤◌, Err, refl, length, arith}
use Rattle.std.proofs.lemmas.Bool.Decides.{nat_tests}
use Rattle.al_ids.specs.Matches.{IsSized}
use Rattle.al_ids.proofs.MatchFaults.{only_memory, stop_exactly, no_fault_read}
use Rattle.al_ids.proofs.resource_match.ResourceMatch.read.Goals as goal

pub returns-in-Err-clause-only : goal.returns-in-Err-clause-only
returns-in-Err-clause-only c = λ match. only_memory c.args.text.now c.in-Err.fault c.in-Err.ensures match.formed

pub returns-in-Err-clause-xpath : goal.returns-in-Err-clause-xpath
returns-in-Err-clause-xpath c = λ place.
    let shortest : 1 ≤ length c.args.text.now = grind (arith, nat_tests, c.is_empty.ensures, c.if-is_empty.false) in
    let longest : length c.args.text.now ≤ 512 = omega (arith, c.if-text-gt-LONGEST_RESOURCE.false) in
    stop_exactly (Err c.in-Err.fault) (IsSized c.args.text.now) c.args.text.now c.in-Err.fault place refl (record { shortest = shortest; longest = longest }) c.in-Err.ensures

pub returns-in-Ok-clause-no_pattern : goal.returns-in-Ok-clause-no_pattern
returns-in-Ok-clause-no_pattern c = λ fault sized other found.
    absurd (no_fault_read c.args.text.now c.in-Ok.form fault c.in-Ok.ensures.0 c.in-Ok.ensures.1 other found)
