-- A report whose members are texts asks what its body asks.
use Rattle.std.proofs.Common.{◌≡◌, IsUtf8, Some, Result, Ok, Err, List, ℕ, ap}
use Rattle.std.proofs.lemmas.Str.{is_utf8-from_IsUtf8}
use Rattle.std.specs.Prelude.{codes}
use Rattle.al_input.specs.Bodies.{AnswersBody, data_of, json_of}
use Rattle.al_input.specs.Faults.{Answers}
use Rattle.al_input.specs.Inputs.{body, input_of, report, report_input, whole}
use Rattle.al_input.specs.declared.asked.Asked.TheVariants.{Whole}
use Rattle.al_input.specs.declared.fault.InputFault.{InputFault}
use Rattle.al_input.specs.declared.fault.InputFault.TheVariants.{Unknown, Missing, BadValue, Memory}
use Rattle.al_model.specs.declared.request.Request.{Request}
use Rattle.al_uri.specs.declared.target.Target.TheVariants.{Report}
use Rattle.serde_json.specs.Data.{Data}
use Rattle.serde_json.specs.Read.{read}

-- what the body of a report says
abbrev said : Data → Result Request InputFault
said d = body (codes "input") (codes "alarmd:input") report d

-- it says so of a tree that the bytes have
abbrev pub SaysPlainly : List ℕ → Result Request InputFault → Type 0
SaysPlainly bytes answer = (d : Data) × IsUtf8 bytes × (read bytes ≡ Some d) × Answers (said d) answer

module _ (bytes : List ℕ) (d : Data) (utf8 : IsUtf8 bytes) (found : read bytes ≡ Some d) where
  tree : data_of Report bytes ≡ Some d
  unfolding data_of json_of
  tree = rw (is_utf8-from_IsUtf8 bytes utf8) found

  asked : (request : Request) → said d ≡ Ok request → input_of Report d ≡ Ok (Whole request)
  unfolding input_of report_input
  asked request is = ap (whole (λ asked. asked)) is

  refused : (fault : InputFault) → said d ≡ Err fault → input_of Report d ≡ Err fault
  unfolding input_of report_input
  refused fault is = ap (whole (λ asked. asked)) is

  due : (fault : InputFault) → Answers (said d) (Err fault) → Answers (input_of Report d) (Err fault)
  due Unknown is = refused Unknown is
  due Missing is = refused Missing is
  due BadValue is = refused BadValue is
  due Memory is = tt

pub plainly_asked : (bytes : List ℕ) (request : Request) → SaysPlainly bytes (Ok request) → AnswersBody (data_of Report bytes) (input_of Report) (Ok (Ok (Whole request)))
plainly_asked bytes request (d, utf8, found, is) = (d, tree bytes d utf8 found, asked bytes d utf8 found request is)

pub plainly_refused : (bytes : List ℕ) (fault : InputFault) → SaysPlainly bytes (Err fault) → AnswersBody (data_of Report bytes) (input_of Report) (Ok (Err fault))
plainly_refused bytes fault (d, utf8, found, is) = (d, tree bytes d utf8 found, due bytes d utf8 found fault is)
