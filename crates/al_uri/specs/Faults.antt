-- Which fault a call may answer.
use Rattle.std.specs.Prelude.{◌≡◌, ⊤, Result, Err}
use Rattle.al_base.specs.Answers.{AnswersBy}
use Rattle.al_base.specs.declared.form.FormFault.{FormFault}
use Rattle.al_base.specs.declared.form.FormFault.TheVariants as forms
use Rattle.al_uri.specs.declared.fault.UriFault.{UriFault}
use Rattle.al_uri.specs.declared.fault.UriFault.TheVariants.{NoSuchPath, BadEscape, BadKeys, BadQuery, Memory}

-- the fault that is said; want of memory may stand in the place of every answer
abbrev pub IsDue : {A : Type 0} → Result A UriFault → UriFault → Type 0
IsDue said NoSuchPath = said ≡ Err NoSuchPath
IsDue said BadEscape = said ≡ Err BadEscape
IsDue said BadKeys = said ≡ Err BadKeys
IsDue said BadQuery = said ≡ Err BadQuery
IsDue said Memory = ⊤

-- The answer is what is said, value or fault, or want of memory.
abbrev pub Answers : {A : Type 0} → Result A UriFault → Result A UriFault → Type 0
Answers said answer = AnswersBy IsDue said answer

-- the fault of a key that isn't read
abbrev pub key_fault : FormFault → UriFault
key_fault forms.Form = BadKeys
key_fault forms.Memory = Memory
