-- How a resource match is kept, and why a text of 1 to 512 bytes is none.
use Rattle.std.specs.Prelude.{◌≡◌, ℕ, List, IsTrue, Some}
use Rattle.al_pattern.specs.Reading.{first_fault}
use Rattle.al_ids.specs.Oids.{IsOid}
use Rattle.al_ids.specs.Matches.{IsXPath, IsXPathStop, IsOther, IsPatternMatch, IsSized, is_rooted}
use Rattle.al_ids.specs.declared.resource_match.Form.{Form}
use Rattle.al_ids.specs.declared.resource_match.Form.TheVariants.{Path, Oid, Pattern}
use Rattle.al_ids.specs.declared.resource_match.MatchFault.{MatchFault}
use Rattle.al_ids.specs.declared.resource_match.MatchFault.TheVariants as faults

abbrev pub text_of : Form → List ℕ
text_of (Path text) = text
text_of (Oid text) = text
text_of (Pattern pattern) = pattern

abbrev pub IsOfForm : Form → Type 0
IsOfForm (Path text) = IsXPath text
IsOfForm (Oid text) = IsOid text
IsOfForm (Pattern pattern) = IsPatternMatch pattern

pub record IsKept (form : Form) : Type 0 where
  pub sized : IsSized (text_of form)
  pub of_form : IsOfForm form

-- want of memory tells that a text with a slash is an XPath
abbrev pub IsFormFault : List ℕ → MatchFault → Type 0
IsFormFault text faults.Empty = ⊥
IsFormFault text faults.TooLong = ⊥
IsFormFault text (faults.XPathUnsupported place) = IsTrue (is_rooted text) × IsXPathStop text place
IsFormFault text (faults.Pattern fault) = IsOther text × (first_fault text ≡ Some fault)
IsFormFault text faults.Memory = IsTrue (is_rooted text) → IsXPath text
