-- How texts are read that have to be of a form.
use Rattle.std.specs.Prelude.{◌≡◌, ℕ, ⊤, Bool, true, false, List, Result, Ok, Err}
use Rattle.al_base.specs.declared.form.FormFault.{FormFault}
use Rattle.al_base.specs.declared.form.FormFault.TheVariants.{Form, Memory}

-- What is read are the bytes, and they are of the form; the fault of the form says that they aren't. Want of memory may stand in the place of both.
abbrev pub IsReadAs : (List ℕ → Bool) → List ℕ → Result (List ℕ) FormFault → Type 0
IsReadAs is_form bytes (Ok value) = (value ≡ bytes) × (is_form bytes ≡ true)
IsReadAs is_form bytes (Err Form) = is_form bytes ≡ false
IsReadAs is_form bytes (Err Memory) = ⊤
