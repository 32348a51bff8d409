-- Resource matches: what they are, and which resources they take.
use Rattle.std.specs.Prelude.{◌≡◌, ◌≢◌, ◌⊎◌, ℕ, ◌+◌, ◌<◌, ◌≤◌, ◌==◌, Bool, false, Option, Some, None, IfSome, List, [], ◌∷◌, ◌++◌, length, take, IsUtf8, chars}
use Rattle.std.specs.List.{AllByRecursion, AllZip}
use Rattle.std.specs.Option.{option_or}
use Rattle.al_base.specs.Limits.{longest_resource}
use Rattle.al_pattern.specs.Language.{IsInLanguage}
use Rattle.al_pattern.specs.Reading.{tree_of}
use Rattle.al_pattern.specs.Trees.{IsSpelled}
use Rattle.al_ids.specs.Oids.{IsOid}
use Rattle.al_ids.specs.Paths.{Predicate, Step, path_text, IsStep, IsPath}

-- ---- the three forms

-- begins with a slash
abbrev pub is_rooted : List ℕ → Bool
is_rooted [] = false
is_rooted (byte ∷ rest) = byte == 47

-- one or more steps, none of which has to say its module
pub record IsXPath (text : List ℕ) : Type 0 where
  pub steps : List Step
  pub each : AllByRecursion IsStep steps
  pub some : steps ≢ []
  pub spelling : text ≡ path_text steps
  pub utf8 : IsUtf8 text

-- a match in neither of the first two forms
pub record IsOther (text : List ℕ) : Type 0 where
  pub no_path : is_rooted text ≡ false
  pub no_oid : ¬ (IsOid text)

pub record IsPatternMatch (text : List ℕ) : Type 0 where
  pub other : IsOther text
  pub pattern : IsSpelled (tree_of text) text

-- an XPath, an object identifier, or any other text that is a pattern
abbrev pub IsFormed : List ℕ → Type 0
IsFormed text = IsXPath text ⊎ IsOid text ⊎ IsPatternMatch text

-- 1 to 512 bytes
pub record IsSized (text : List ℕ) : Type 0 where
  pub shortest : 1 ≤ length text
  pub longest : length text ≤ longest_resource

pub record IsMatch (text : List ℕ) : Type 0 where
  pub sized : IsSized text
  pub formed : IsFormed text

-- ---- where a text stops being an XPath

-- some XPath begins so
pub record BeginsXPath (front : List ℕ) : Type 0 where
  pub rest : List ℕ
  pub xpath : IsXPath (front ++ rest)

-- the first byte that no XPath has there, or the length of a text that ends too soon
pub record IsXPathStop (text : List ℕ) (place : ℕ) : Type 0 where
  pub within : place ≤ length text
  pub before : BeginsXPath (take place text)
  pub here : place < length text → ¬ (BeginsXPath (take (place + 1) text))
  pub whole : ¬ (IsXPath text)

-- ---- which resources are taken

-- the same name, whatever its module, and the same value, whatever its quotes
abbrev pub IsSamePredicate : Predicate → Predicate → Type 0
IsSamePredicate p q = (p.name ≡ q.name) × (p.value ≡ q.value)

abbrev pub HasPredicate : List Predicate → Predicate → Type 0
HasPredicate [] p = ⊥
HasPredicate (q ∷ qs) p = IsSamePredicate p q ⊎ HasPredicate qs p

-- Each step says the module that holds there: its own, or else that of the step before it.
abbrev pub with_modules : Option (List ℕ) → List Step → List Step
with_modules before [] = []
with_modules before (s ∷ rest) =
    record { defined_in = option_or s.defined_in before; name = s.name; predicates = s.predicates }
    ∷ with_modules (option_or s.defined_in before) rest

-- A step takes a step of its name, of its module where one holds, and with each of its predicates in any order.
pub record TakesStep (asked given : Step) : Type 0 where
  pub names : asked.name ≡ given.name
  pub modules : IfSome asked.defined_in (λ owner. given.defined_in ≡ Some owner)
  pub predicates : AllByRecursion (HasPredicate given.predicates) asked.predicates

-- An XPath takes a path of as many steps, each taken by its own.
pub record TakesPath (asked given : List ℕ) : Type 0 where
  pub xpath : IsXPath asked
  pub path : IsPath given
  pub steps : AllZip TakesStep (with_modules None xpath.steps) (with_modules None path.steps)

-- An object identifier takes those that begin with its arcs.
pub record TakesOid (asked given : List ℕ) : Type 0 where
  pub front : IsOid asked
  pub oid : IsOid given
  pub more : List (List ℕ)
  pub arcs : oid.arcs ≡ front.arcs ++ more

-- A pattern takes a plain resource that is as a whole in its language.
pub record TakesPlain (asked given : List ℕ) : Type 0 where
  pub pattern : IsPatternMatch asked
  pub no_path : ¬ (IsPath given)
  pub no_oid : ¬ (IsOid given)
  pub language : IsInLanguage (tree_of asked) (chars given)

-- A match takes resources of its own kind alone.
abbrev pub Matches : List ℕ → List ℕ → Type 0
Matches asked given = TakesPath asked given ⊎ TakesOid asked given ⊎ TakesPlain asked given
