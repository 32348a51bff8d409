-- The members of a report, each as the text that stands there.
use Rattle.std.specs.Prelude.{ℕ, Option, Result, List, codes}
use Rattle.al_base.specs.Answers.{and_then, or_fault}
use Rattle.serde_json.specs.Data.{Data}
use Rattle.al_input.specs.Members.{optional}
use Rattle.al_input.specs.Readers.{string_of}
use Rattle.al_input.specs.declared.fault.InputFault.{InputFault}
use Rattle.al_input.specs.declared.fault.InputFault.TheVariants.{Missing}
use Rattle.al_input.specs.declared.report.Member.{Member}
use Rattle.al_input.specs.declared.report.Member.TheVariants as members

abbrev pub plain_of : Member → List ℕ
plain_of members.Resource = codes "resource"
plain_of members.TypeId = codes "alarm-type-id"
plain_of members.Severity = codes "perceived-severity"
plain_of members.AlarmText = codes "alarm-text"
plain_of members.Qualifier = codes "alarm-type-qualifier"

abbrev pub qualified_of : Member → List ℕ
qualified_of members.Resource = codes "alarmd:resource"
qualified_of members.TypeId = codes "alarmd:alarm-type-id"
qualified_of members.Severity = codes "alarmd:perceived-severity"
qualified_of members.AlarmText = codes "alarmd:alarm-text"
qualified_of members.Qualifier = codes "alarmd:alarm-type-qualifier"

-- the text of a member, which has to be one where it is there
abbrev pub text_at : Member → Data → Result (Option (List ℕ)) InputFault
text_at member d = optional (plain_of member) (qualified_of member) string_of d

-- the text of a member that has to be there
abbrev pub needed_at : Member → Data → Result (List ℕ) InputFault
needed_at member d = and_then (text_at member d) (or_fault Missing)
