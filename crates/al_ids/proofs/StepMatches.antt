-- What was found at the front of a path, and whether a step takes another.
use Rattle.std.proofs.Common.{◌≡◌, ◌↔◌, inl, inr, IsTrue, ℕ, Bool, true, false, Option, Some, None, List, [], ◌∷◌, refl, sym, ap, subst, ◌∙◌, length, Bor, arith}
use Rattle.std.specs.List.{AllByRecursion, AllZip}
use Rattle.std.specs.Prelude.{◌==◌}
use Rattle.std.specs.Option.{option_copied, option_map, option_or}
use Rattle.std.proofs.lemmas.Bool.Decides.{nat_tests}
use Rattle.std.proofs.lemmas.Bool.{false≢true}
use Rattle.al_ids.specs.Paths.{Predicate, Step, path_text, IsStep}
use Rattle.al_ids.specs.Matches.{HasPredicate, with_modules, TakesStep}
use Rattle.al_ids.specs.StepReading.{behind_byte, owner_of, name_of, behind_names, Parts, parts_of, IsTail}
use Rattle.al_ids.proofs.PathCuts.{IsRead, parts_read, AreStepsRead, steps_read}

-- ---- among the predicates

read_as : (text : List ℕ) (found : Option Parts) (predicates : List Predicate) (steps : List Step) → found ≡ parts_of text → IsTail text predicates steps → IsRead found predicates steps
read_as text found predicates steps e tail =
    let Read : Option Parts → Type 0 = λ f. IsRead f predicates steps in
    subst Read (sym e) (parts_read text predicates steps tail)

here : (found : Parts) (predicates : List Predicate) (steps : List Step) (asked : Predicate) → IsRead (Some found) predicates steps → found.name ≡ asked.name → found.value ≡ asked.value → HasPredicate predicates asked
here found [] steps asked read name value = absurd read
here found (p ∷ predicates) steps asked read name value = inl (sym name ∙ read.0, sym value ∙ read.1)

pub has_here : (text : List ℕ) (found : Parts) (name value : List ℕ) → Some found ≡ parts_of text → found.name ≡ name → found.value ≡ value
    → (predicates : List Predicate) (steps : List Step) (asked : Predicate) → IsTail text predicates steps → asked.name ≡ name → asked.value ≡ value → HasPredicate predicates asked
has_here text found name value e same_name same_value predicates steps asked tail asked_name asked_value =
    here found predicates steps asked (read_as text (Some found) predicates steps e tail) (same_name ∙ sym asked_name) (same_value ∙ sym asked_value)

-- the answer on what follows
abbrev pub Answers : List ℕ → List ℕ → List ℕ → Bool → Type 0
Answers text name value answer =
    (predicates : List Predicate) (steps : List Step) (asked : Predicate) → IsTail text predicates steps → asked.name ≡ name → asked.value ≡ value → IsTrue answer ↔ HasPredicate predicates asked

later : (found : Parts) (name value : List ℕ) (answer : Bool) (predicates : List Predicate) (steps : List Step) (asked : Predicate) → IsRead (Some found) predicates steps → asked.name ≡ name → asked.value ≡ value
    → ¬ ((found.name ≡ name) × (found.value ≡ value)) → Answers found.rest name value answer → IsTrue answer ↔ HasPredicate predicates asked
later found name value answer [] steps asked read asked_name asked_value other answers = absurd read
later found name value answer (p ∷ predicates) steps asked read asked_name asked_value other answers =
    let rest = answers predicates steps asked read.2 asked_name asked_value in (
      λ h. inr (rest.0 h),
      λ has. elim has [
        | inl same ↦ absurd (other (read.0 ∙ sym same.0 ∙ asked_name, read.1 ∙ sym same.1 ∙ asked_value))
        | inr among ↦ rest.1 among
      ],
    )

pub has_later : (text : List ℕ) (found : Parts) (name value : List ℕ) (answer : Bool) → Some found ≡ parts_of text → ¬ ((found.name ≡ name) × (found.value ≡ value)) → Answers found.rest name value answer → Answers text name value answer
has_later text found name value answer e other answers predicates steps asked tail asked_name asked_value =
    later found name value answer predicates steps asked (read_as text (Some found) predicates steps e tail) asked_name asked_value other answers

none : (predicates : List Predicate) (steps : List Step) (asked : Predicate) → IsRead None predicates steps → ¬ (HasPredicate predicates asked)
none [] steps asked read has = has
none (p ∷ predicates) steps asked read has = read

pub has_none : (text name value : List ℕ) → None ≡ parts_of text → Answers text name value false
has_none text name value e predicates steps asked tail asked_name asked_value =
    (λ h. absurd (false≢true h), λ has. absurd (none predicates steps asked (read_as text None predicates steps e tail) has))

-- ---- all of them

abbrev pub AllAnswer : List ℕ → List ℕ → Bool → Type 0
AllAnswer asked given answer =
    (asked_predicates given_predicates : List Predicate) (asked_steps given_steps : List Step) → IsTail asked asked_predicates asked_steps → IsTail given given_predicates given_steps
    → IsTrue answer ↔ AllByRecursion (HasPredicate given_predicates) asked_predicates

all_first : (found : Parts) (given : List ℕ) (first answer : Bool) (asked_predicates given_predicates : List Predicate) (asked_steps given_steps : List Step) → IsRead (Some found) asked_predicates asked_steps → IsTail given given_predicates given_steps
    → Answers given found.name found.value first → AllAnswer found.rest given answer → (IsTrue first × IsTrue answer) ↔ AllByRecursion (HasPredicate given_predicates) asked_predicates
all_first found given first answer [] given_predicates asked_steps given_steps read tail answers all = absurd read
all_first found given first answer (p ∷ asked_predicates) given_predicates asked_steps given_steps read tail answers all =
    let one = answers given_predicates given_steps p tail (sym read.0) (sym read.1) in
    let rest = all asked_predicates given_predicates asked_steps given_steps read.2 tail in
    (λ h. (one.0 h.0, rest.0 h.1), λ each. (one.1 each.0, rest.1 each.1))

pub all_more : (asked given : List ℕ) (found : Parts) (first answer : Bool) → Some found ≡ parts_of asked → Answers given found.name found.value first → first ≡ true → AllAnswer found.rest given answer → AllAnswer asked given answer
all_more asked given found first answer e answers is all asked_predicates given_predicates asked_steps given_steps asked_tail given_tail =
    let both = all_first found given first answer asked_predicates given_predicates asked_steps given_steps (read_as asked (Some found) asked_predicates asked_steps e asked_tail) given_tail answers all in
    (λ h. both.0 (is, h), λ each. (both.1 each).1)

first_lacks : (found : Parts) (given : List ℕ) (first : Bool) (asked_predicates given_predicates : List Predicate) (asked_steps given_steps : List Step) → IsRead (Some found) asked_predicates asked_steps → IsTail given given_predicates given_steps
    → Answers given found.name found.value first → first ≡ false → ¬ (AllByRecursion (HasPredicate given_predicates) asked_predicates)
first_lacks found given first [] given_predicates asked_steps given_steps read tail answers is each = absurd read
first_lacks found given first (p ∷ asked_predicates) given_predicates asked_steps given_steps read tail answers is each =
    false≢true (sym is ∙ (answers given_predicates given_steps p tail (sym read.0) (sym read.1)).1 each.0)

pub all_lack : (asked given : List ℕ) (found : Parts) (first : Bool) → Some found ≡ parts_of asked → Answers given found.name found.value first → first ≡ false → AllAnswer asked given first
all_lack asked given found first e answers is asked_predicates given_predicates asked_steps given_steps asked_tail given_tail = (
  λ h. absurd (false≢true (sym is ∙ h)),
  λ each. absurd (first_lacks found given first asked_predicates given_predicates asked_steps given_steps (read_as asked (Some found) asked_predicates asked_steps e asked_tail) given_tail answers is each),
)

no_more : (given_predicates asked_predicates : List Predicate) (asked_steps : List Step) → IsRead None asked_predicates asked_steps → AllByRecursion (HasPredicate given_predicates) asked_predicates
no_more given_predicates [] asked_steps read = tt
no_more given_predicates (p ∷ asked_predicates) asked_steps read = absurd read

pub all_none : (asked given : List ℕ) → None ≡ parts_of asked → AllAnswer asked given true
all_none asked given e asked_predicates given_predicates asked_steps given_steps asked_tail given_tail =
    (λ h. no_more given_predicates asked_predicates asked_steps (read_as asked None asked_predicates asked_steps e asked_tail), λ each. refl)

-- ---- behind the predicates

abbrev pub LeadsToSteps : List ℕ → List ℕ → Type 0
LeadsToSteps text rest = (predicates : List Predicate) (steps : List Step) → IsTail text predicates steps → rest ≡ path_text steps

passed_one : (found : Parts) (rest : List ℕ) (predicates : List Predicate) (steps : List Step) → IsRead (Some found) predicates steps → LeadsToSteps found.rest rest → rest ≡ path_text steps
passed_one found rest [] steps read leads = absurd read
passed_one found rest (p ∷ predicates) steps read leads = leads predicates steps read.2

pub steps_later : (text rest : List ℕ) (found : Parts) → Some found ≡ parts_of text → LeadsToSteps found.rest rest → LeadsToSteps text rest
steps_later text rest found e leads predicates steps tail = passed_one found rest predicates steps (read_as text (Some found) predicates steps e tail) leads

all_passed : (text : List ℕ) (predicates : List Predicate) (steps : List Step) → IsRead None predicates steps → IsTail text predicates steps → text ≡ path_text steps
all_passed text [] steps read tail = tail.spelling
all_passed text (p ∷ predicates) steps read tail = absurd read

pub steps_here : (text : List ℕ) → None ≡ parts_of text → LeadsToSteps text text
steps_here text e predicates steps tail = all_passed text predicates steps (read_as text None predicates steps e tail) tail

-- ---- the steps

abbrev HeadRead : Option (List ℕ) → List ℕ → List ℕ → List Step → Type 0
HeadRead owner name rest [] = ⊥
HeadRead owner name rest (s ∷ steps) = (owner ≡ s.defined_in) × (name ≡ s.name) × IsTail rest s.predicates steps

head_of : (behind : Option (List ℕ)) (owner : Option (List ℕ)) (name rest : List ℕ) (steps : List Step) → Some owner ≡ option_map owner_of behind → Some name ≡ option_map name_of behind → Some rest ≡ option_map behind_names behind
    → AreStepsRead behind steps → HeadRead owner name rest steps
head_of None owner name rest steps owner_is name_is rest_is read = absurd (cc)
head_of (Some text) owner name rest [] owner_is name_is rest_is read = absurd read
head_of (Some text) owner name rest (s ∷ steps) owner_is name_is rest_is read =
    let same : rest ≡ behind_names text = cc in
    let o : owner ≡ owner_of text = cc in
    let n : name ≡ name_of text = cc in
    (o ∙ read.owner, n ∙ read.name, rw same read.rest)

-- what was cut off the front of a path
pub record IsCut (text : List ℕ) (owner : Option (List ℕ)) (name rest : List ℕ) : Type 0 where
  pub owner_is : Some owner ≡ option_map owner_of (behind_byte 47 text)
  pub name_is : Some name ≡ option_map name_of (behind_byte 47 text)
  pub rest_is : Some rest ≡ option_map behind_names (behind_byte 47 text)

head_read : (text : List ℕ) (owner : Option (List ℕ)) (name rest : List ℕ) (steps : List Step) → IsCut text owner name rest → AllByRecursion IsStep steps → text ≡ path_text steps → HeadRead owner name rest steps
head_read text owner name rest steps cut each spelled = head_of (behind_byte 47 text) owner name rest steps cut.owner_is cut.name_is cut.rest_is (steps_read text steps each spelled)

pub cut_is : (text : List ℕ) (owner : Option (List ℕ)) (name rest : List ℕ) → Some owner ≡ option_map owner_of (behind_byte 47 text) → Some name ≡ option_map name_of (behind_byte 47 text) → Some rest ≡ option_map behind_names (behind_byte 47 text) → IsCut text owner name rest
cut_is text owner name rest o n r = record { owner_is = o; name_is = n; rest_is = r }

abbrev pub StepsAnswer : List ℕ → Option (List ℕ) → List ℕ → Option (List ℕ) → Bool → Type 0
StepsAnswer asked asked_owner given given_owner answer =
    (asked_steps given_steps : List Step) → AllByRecursion IsStep asked_steps → asked ≡ path_text asked_steps → AllByRecursion IsStep given_steps → given ≡ path_text given_steps
    → IsTrue answer ↔ AllZip TakesStep (with_modules asked_owner asked_steps) (with_modules given_owner given_steps)

no_steps : (behind : Option (List ℕ)) → None ≡ option_map owner_of behind → (steps : List Step) → AreStepsRead behind steps → steps ≡ []
no_steps None e [] read = refl
no_steps None e (s ∷ steps) read = absurd read
no_steps (Some text) e steps read = absurd (cc)

pub ended : (text : List ℕ) → None ≡ option_map owner_of (behind_byte 47 text) → (steps : List Step) → AllByRecursion IsStep steps → text ≡ path_text steps → steps ≡ []
ended text e steps each spelled = no_steps (behind_byte 47 text) e steps (steps_read text steps each spelled)

no_bytes : (s : Step) (steps : List Step) → ¬ ((length (path_text (s ∷ steps)) == 0) ≡ true)
no_bytes s steps e = grind (arith, nat_tests)

ends_too : (given : List ℕ) (given_owner : Option (List ℕ)) (answer : Bool) (steps : List Step) → given ≡ path_text steps → answer ≡ (length given == 0) → IsTrue answer ↔ AllZip TakesStep [] (with_modules given_owner steps)
ends_too given given_owner answer [] spelled is = (λ h. tt, λ all. is ∙ ap (λ l. length l == 0) spelled)
ends_too given given_owner answer (s ∷ steps) spelled is = (λ h. absurd (no_bytes s steps (sym (ap (λ l. length l == 0) spelled) ∙ sym is ∙ h)), λ all. absurd all)

pub both_ended : (asked given : List ℕ) (asked_owner given_owner : Option (List ℕ)) (answer : Bool) → None ≡ option_map owner_of (behind_byte 47 asked) → answer ≡ (length given == 0) → StepsAnswer asked asked_owner given given_owner answer
both_ended asked given asked_owner given_owner answer e is asked_steps given_steps asked_each asked_spelled given_each given_spelled =
    let none = ended asked e asked_steps asked_each asked_spelled in
    rw none (ends_too given given_owner answer given_steps given_spelled is)

more_asked : (owner : Option (List ℕ)) (name rest : List ℕ) (asked_owner : Option (List ℕ)) (steps : List Step) → HeadRead owner name rest steps → ¬ (AllZip TakesStep (with_modules asked_owner steps) [])
more_asked owner name rest asked_owner [] read all = read
more_asked owner name rest asked_owner (s ∷ steps) read all = all

pub given_ended : (asked given : List ℕ) (asked_owner given_owner owner : Option (List ℕ)) (name rest : List ℕ) → IsCut asked owner name rest → None ≡ option_map owner_of (behind_byte 47 given) → StepsAnswer asked asked_owner given given_owner false
given_ended asked given asked_owner given_owner owner name rest cut e asked_steps given_steps asked_each asked_spelled given_each given_spelled =
    let none = ended given e given_steps given_each given_spelled in (
      λ h. absurd (false≢true h),
      rw none (λ all. absurd (more_asked owner name rest asked_owner asked_steps (head_read asked owner name rest asked_steps cut asked_each asked_spelled) all)),
    )

-- a step and its module
abbrev stepped : Option (List ℕ) → List ℕ → List Predicate → Step
stepped owner name predicates = record { defined_in = owner; name = name; predicates = predicates }

abbrev pub StepAnswer : Option (List ℕ) → List ℕ → List ℕ → Option (List ℕ) → List ℕ → List ℕ → Bool → Type 0
StepAnswer asked_owner asked_name asked_rest given_owner given_name given_rest answer =
    (asked_predicates given_predicates : List Predicate) (asked_steps given_steps : List Step) → IsTail asked_rest asked_predicates asked_steps → IsTail given_rest given_predicates given_steps
    → IsTrue answer ↔ TakesStep (record { defined_in = asked_owner; name = asked_name; predicates = asked_predicates }) (record { defined_in = given_owner; name = given_name; predicates = given_predicates })

-- what is known of the first steps of two paths
pub record FirstSteps (asked given : List ℕ) (asked_owner given_owner : Option (List ℕ)) : Type 0 where
  pub asked_said : Option (List ℕ)
  pub given_said : Option (List ℕ)
  pub asked_name : List ℕ
  pub given_name : List ℕ
  pub asked_rest : List ℕ
  pub given_rest : List ℕ
  pub asked_cut : IsCut asked asked_said asked_name asked_rest
  pub given_cut : IsCut given given_said given_name given_rest
  pub first : Bool
  pub first_is : StepAnswer (option_or asked_said asked_owner) asked_name asked_rest (option_or given_said given_owner) given_name given_rest first

both : (asked given : List ℕ) (asked_owner given_owner : Option (List ℕ)) (f : FirstSteps asked given asked_owner given_owner) (asked_behind given_behind : List ℕ) (answer : Bool)
    → LeadsToSteps f.asked_rest asked_behind → LeadsToSteps f.given_rest given_behind
    → StepsAnswer asked_behind (option_or f.asked_said asked_owner) given_behind (option_or f.given_said given_owner) answer
    → (asked_steps given_steps : List Step) → HeadRead f.asked_said f.asked_name f.asked_rest asked_steps → HeadRead f.given_said f.given_name f.given_rest given_steps
    → (IsTrue f.first × IsTrue answer) ↔ AllZip TakesStep (with_modules asked_owner asked_steps) (with_modules given_owner given_steps)
both asked given asked_owner given_owner f asked_behind given_behind answer asked_leads given_leads answers [] given_steps asked_read given_read = absurd asked_read
both asked given asked_owner given_owner f asked_behind given_behind answer asked_leads given_leads answers (m ∷ ms) [] asked_read given_read = absurd given_read
both asked given asked_owner given_owner f asked_behind given_behind answer asked_leads given_leads answers (m ∷ ms) (r ∷ rs) asked_read given_read =
    let one = f.first_is m.predicates r.predicates ms rs asked_read.2 given_read.2 in
    let rest = answers ms rs asked_read.2.each_step (asked_leads m.predicates ms asked_read.2) given_read.2.each_step (given_leads r.predicates rs given_read.2) in
    rw (← asked_read.0, ← asked_read.1, ← given_read.0, ← given_read.1)
    (λ h. (one.0 h.0, rest.0 h.1), λ all. (one.1 all.0, rest.1 all.1))

pub heads : (asked given : List ℕ) (asked_owner given_owner : Option (List ℕ)) (f : FirstSteps asked given asked_owner given_owner) (asked_behind given_behind : List ℕ) (answer : Bool)
    → LeadsToSteps f.asked_rest asked_behind → LeadsToSteps f.given_rest given_behind
    → StepsAnswer asked_behind (option_or f.asked_said asked_owner) given_behind (option_or f.given_said given_owner) answer
    → f.first ≡ true → StepsAnswer asked asked_owner given given_owner answer
heads asked given asked_owner given_owner f asked_behind given_behind answer asked_leads given_leads answers is asked_steps given_steps asked_each asked_spelled given_each given_spelled =
    let all = both asked given asked_owner given_owner f asked_behind given_behind answer asked_leads given_leads answers asked_steps given_steps
    (head_read asked f.asked_said f.asked_name f.asked_rest asked_steps f.asked_cut asked_each asked_spelled)
    (head_read given f.given_said f.given_name f.given_rest given_steps f.given_cut given_each given_spelled) in
    (λ h. all.0 (is, h), λ zip. (all.1 zip).1)

differs : (asked given : List ℕ) (asked_owner given_owner : Option (List ℕ)) (f : FirstSteps asked given asked_owner given_owner) → f.first ≡ false
    → (asked_steps given_steps : List Step) → HeadRead f.asked_said f.asked_name f.asked_rest asked_steps → HeadRead f.given_said f.given_name f.given_rest given_steps
    → ¬ (AllZip TakesStep (with_modules asked_owner asked_steps) (with_modules given_owner given_steps))
differs asked given asked_owner given_owner f is [] given_steps asked_read given_read all = asked_read
differs asked given asked_owner given_owner f is (m ∷ ms) [] asked_read given_read all = given_read
differs asked given asked_owner given_owner f is (m ∷ ms) (r ∷ rs) asked_read given_read all =
    let one = f.first_is m.predicates r.predicates ms rs asked_read.2 given_read.2 in
    let takes : TakesStep (stepped (option_or f.asked_said asked_owner) f.asked_name m.predicates) (stepped (option_or f.given_said given_owner) f.given_name r.predicates) =
    rw (asked_read.0, asked_read.1, given_read.0, given_read.1) all.0 in
    false≢true (sym is ∙ one.1 takes)

pub apart : (asked given : List ℕ) (asked_owner given_owner : Option (List ℕ)) (f : FirstSteps asked given asked_owner given_owner) → f.first ≡ false → StepsAnswer asked asked_owner given given_owner f.first
apart asked given asked_owner given_owner f is asked_steps given_steps asked_each asked_spelled given_each given_spelled = (
  λ h. absurd (false≢true (sym is ∙ h)),
  λ all. absurd (differs asked given asked_owner given_owner f is asked_steps given_steps
      (head_read asked f.asked_said f.asked_name f.asked_rest asked_steps f.asked_cut asked_each asked_spelled)
      (head_read given f.given_said f.given_name f.given_rest given_steps f.given_cut given_each given_spelled) all),
)

-- the same for modules behind references
copied_or : (a b : Option (Bor (List ℕ))) → option_copied (option_or a b) ≡ option_or (option_copied a) (option_copied b)
copied_or None b = refl
copied_or (Some x) b = refl

pub owner_or : (said before owner : Option (Bor (List ℕ))) → owner ≡ option_or said before → option_copied owner ≡ option_or (option_copied said) (option_copied before)
owner_or said before owner e = ap option_copied e ∙ copied_or said before

pub step_answer : (asked_owner asked_same : Option (List ℕ)) (asked_name asked_rest : List ℕ) (given_owner given_same : Option (List ℕ)) (given_name given_rest : List ℕ) (answer : Bool) → asked_owner ≡ asked_same → given_owner ≡ given_same
    → StepAnswer asked_owner asked_name asked_rest given_owner given_name given_rest answer → StepAnswer asked_same asked_name asked_rest given_same given_name given_rest answer
step_answer asked_owner asked_same asked_name asked_rest given_owner given_same given_name given_rest answer a g h = rw (← a, ← g) h

pub steps_answer : (asked : List ℕ) (asked_owner asked_same : Option (List ℕ)) (given : List ℕ) (given_owner given_same : Option (List ℕ)) (answer : Bool) → asked_owner ≡ asked_same → given_owner ≡ given_same
    → StepsAnswer asked asked_owner given given_owner answer → StepsAnswer asked asked_same given given_same answer
steps_answer asked asked_owner asked_same given given_owner given_same answer a g h = rw (← a, ← g) h
