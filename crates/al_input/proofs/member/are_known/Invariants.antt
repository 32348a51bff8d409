use Rattle.std.proofs.Common.{◌≡◌, map, string_bytes}
use Rattle.std.specs.List.{list_all}
use Rattle.serde_json.specs.View.{members_view}
use Rattle.al_input.specs.Members.{is_among, names_in}
use Rattle.al_input.proofs.member.are_known.Given as goal

-- the names that are left
abbrev pub invariant-loop-name : goal.invariant-loop-name
invariant-loop-name l =
    list_all (is_among (map (λ other. other.now) l.known)) (names_in (members_view l.fn.members.entries))
    ≡ list_all (is_among (map (λ other. other.now) l.known)) (map string_bytes l.name-iterator)
