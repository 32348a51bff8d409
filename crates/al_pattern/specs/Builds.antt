-- What a pattern under construction stands for.
use Rattle.std.specs.Prelude.{◌≡◌, ℕ, ◌+◌, List, [], ◌∷◌, ◌++◌, map}
use Rattle.al_pattern.specs.declared.token.Quantifier.TheVariants.{Once}
use Rattle.al_pattern.specs.declared.node.Node.{Node}
use Rattle.al_pattern.specs.Trees.{Choice}
use Rattle.al_pattern.specs.Reading.{Progress}
use Rattle.al_pattern.specs.Walk.{Seen, seen, seen_open, choice_seen, choice_size}

-- the nodes of the choices around the open groups, each with its group's beginning
abbrev pub outer_seen : ℕ → List Choice → List Seen
outer_seen c [] = []
outer_seen c (around ∷ outer) = outer_seen c outer ++ (choice_seen c around ++ seen_open Once 0 ∷ [])

abbrev pub outer_size : List Choice → ℕ
outer_size [] = 0
outer_size (around ∷ outer) = outer_size outer + (choice_size around + 1)

-- where the open groups begin, the outermost first
abbrev pub openings : List Choice → List ℕ
openings [] = []
openings (around ∷ outer) = openings outer ++ (outer_size outer + choice_size around) ∷ []

-- the nodes and the beginnings of open groups are those of what was read
pub record Builds (p : Progress) (nodes : List Node) (opens : List ℕ) : Type 0 where
  pub compiled : (c : ℕ) → map (seen c) nodes ≡ outer_seen c p.outer ++ choice_seen c p.top
  pub opened : opens ≡ openings p.outer
