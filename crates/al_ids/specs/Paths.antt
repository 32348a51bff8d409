-- Paths, which name a node of a data tree: steps, each with predicates.
use Rattle.std.specs.Prelude.{◌≡◌, ◌⊎◌, ℕ, ◌==◌, not, IsTrue, Option, Some, None, IfSome, IsSome, List, [], ◌∷◌, ◌++◌}
use Rattle.std.specs.List.{AllByRecursion, flat_map, list_all}
use Rattle.al_base.specs.Identifiers.{is_identifier}

-- `[name='value']` or `[name="value"]`, where `.` may stand for the name; 39 and 34 are the quotes
pub record Predicate : Type 0 where
  pub defined_in : Option (List ℕ)
  pub name : List ℕ
  pub quote : ℕ
  pub value : List ℕ

-- `/name`, with the module that defines the name where it is said, and predicates
pub record Step : Type 0 where
  pub defined_in : Option (List ℕ)
  pub name : List ℕ
  pub predicates : List Predicate

-- a name as it is spelled, with its module where it is said; 58 is the colon
abbrev pub qualified : Option (List ℕ) → List ℕ → List ℕ
qualified None name = name
qualified (Some owner) name = owner ++ (58 ∷ name)

-- `[` .. `=` .. `]`
abbrev pub predicate_text : Predicate → List ℕ
predicate_text p =
    91 ∷ (qualified p.defined_in p.name ++ (61 ∷ p.quote ∷ (p.value ++ (p.quote ∷ 93 ∷ []))))

-- `/` ..
abbrev pub step_text : Step → List ℕ
step_text s = 47 ∷ (qualified s.defined_in s.name ++ flat_map predicate_text s.predicates)

abbrev pub path_text : List Step → List ℕ
path_text steps = flat_map step_text steps

-- identifiers
abbrev pub AreNames : Option (List ℕ) → List ℕ → Type 0
AreNames owner name = IfSome owner (λ o. IsTrue (is_identifier o)) × IsTrue (is_identifier name)

pub record IsPredicate (p : Predicate) : Type 0 where
  pub names : AreNames p.defined_in p.name ⊎ ((p.defined_in ≡ None) × (p.name ≡ 46 ∷ []))
  pub quotes : (p.quote ≡ 39) ⊎ (p.quote ≡ 34)
  pub inside : IsTrue (list_all (λ byte. not (byte == p.quote)) p.value)

pub record IsStep (s : Step) : Type 0 where
  pub names : AreNames s.defined_in s.name
  pub each : AllByRecursion IsPredicate s.predicates

-- the first step says its module
abbrev pub BeginsInModule : List Step → Type 0
BeginsInModule [] = ⊥
BeginsInModule (s ∷ rest) = IsSome s.defined_in

-- one or more steps, of which the first says its module
pub record IsPath (text : List ℕ) : Type 0 where
  pub steps : List Step
  pub each : AllByRecursion IsStep steps
  pub begins : BeginsInModule steps
  pub spelling : text ≡ path_text steps
