-- Which fault a call may answer.
use Rattle.std.specs.Prelude.{◌≡◌, ⊤, Result, Ok, Err}
use Rattle.al_base.specs.Answers.{AnswersBy}
use Rattle.al_base.specs.declared.form.FormFault.{FormFault}
use Rattle.al_base.specs.declared.form.FormFault.TheVariants as forms
use Rattle.al_input.specs.declared.fault.InputFault.{InputFault}
use Rattle.al_input.specs.declared.fault.InputFault.TheVariants.{Unknown, Missing, BadValue, Memory}

-- the fault that is said; want of memory may stand in the place of every answer
abbrev pub IsDue : {A : Type 0} → Result A InputFault → InputFault → Type 0
IsDue said Unknown = said ≡ Err Unknown
IsDue said Missing = said ≡ Err Missing
IsDue said BadValue = said ≡ Err BadValue
IsDue said Memory = ⊤

-- The answer is what is said, value or fault, or want of memory.
abbrev pub Answers : {A : Type 0} → Result A InputFault → Result A InputFault → Type 0
Answers said answer = AnswersBy IsDue said answer

-- The answer, seen so, is what is said.
abbrev pub Gives : {A B : Type 0} → (A → B) → Result A InputFault → Result B InputFault → Type 0
Gives seen (Ok a) said = said ≡ Ok (seen a)
Gives seen (Err fault) said = IsDue said fault

-- the fault of a text that isn't read
abbrev pub form_fault : FormFault → InputFault
form_fault forms.Form = BadValue
form_fault forms.Memory = Memory
