use Rattle.std.proofs.Common.{◌≡◌, ◌≤◌, length}
use Rattle.al_http.specs.Requests.{has_member}
use Rattle.al_http.proofs.member.has_member.Given as goal

-- what is left of the value has the member where all of it has it
abbrev pub invariant-parts : goal.invariant-parts
invariant-parts l = record {
  shorter : length l.rest ≤ length l.value;
  same : has_member l.member l.value ≡ has_member l.member l.rest;
}

abbrev pub decreases-parts : goal.decreases-parts
decreases-parts l = length l.rest
