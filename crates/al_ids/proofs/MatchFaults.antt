-- A text has one answer: its form, or one fault.
use Rattle.std.proofs.Common.{◌≡◌, ◌↔◌, inl, inr, IsTrue, ℕ, ◌+◌, ◌<◌, ◌≤◌, true, Some, None, List, ◌++◌, take, drop, Result, Err, refl, sym, ap, subst, ◌∙◌, arith, append_assoc}
use Rattle.std.proofs.lemmas.Bool.{false≢true}
use Rattle.std.proofs.str.Laws.{order}
use Rattle.al_pattern.specs.declared.fault.PatternFault.{PatternFault}
use Rattle.al_pattern.specs.Reading.{tree_of, first_fault}
use Rattle.al_pattern.proofs.OnlyLemmas.{fault_again}
use Rattle.al_ids.specs.Oids.{IsOid}
use Rattle.al_ids.specs.Matches.{is_rooted, IsXPath, IsOther, IsFormed, BeginsXPath, IsXPathStop}
use Rattle.al_ids.specs.MatchForms.{text_of, IsOfForm, IsFormFault}
use Rattle.al_ids.specs.declared.resource_match.Form.{Form}
use Rattle.al_ids.specs.declared.resource_match.Form.TheVariants.{Path, Oid, Pattern}
use Rattle.al_ids.specs.declared.resource_match.MatchFault.{MatchFault}
use Rattle.al_ids.specs.declared.resource_match.MatchFault.TheVariants as faults
use Rattle.al_ids.proofs.MatchKinds.{xpath_rooted, rooted_no_oid}
use Rattle.al_ids.proofs.XPathStops.{longer}

no_other : (text : List ℕ) → is_rooted text ≡ true → ¬ (IsOther text)
no_other text rooted other = false≢true (sym other.no_path ∙ rooted)

-- ---- one place

shorter_xpath : (text : List ℕ) (n m : ℕ) → n ≤ m → BeginsXPath (take m text) → BeginsXPath (take n text)
shorter_xpath text n m le begins =
    let whole : take m text ++ begins.rest ≡ take n text ++ (drop n (take m text) ++ begins.rest) = ap (λ l. l ++ begins.rest) (longer text n m le) ∙ append_assoc (take n text) (drop n (take m text)) begins.rest in
    record { rest = drop n (take m text) ++ begins.rest; xpath = subst IsXPath whole begins.xpath }

no_earlier : (text : List ℕ) (n m : ℕ) → n < m → IsXPathStop text n → ¬ (IsXPathStop text m)
no_earlier text n m less first second =
    let within = second.within in
    first.here (omega arith) (shorter_xpath text (n + 1) m (omega arith) second.before)

one_place : (text : List ℕ) (n m : ℕ) → IsXPathStop text n → IsXPathStop text m → n ≡ m
one_place text n m first second = elim (order n m) [
  | inl less ↦ absurd (no_earlier text n m less first second)
  | inr le ↦ elim (order m n) [
    | inl less ↦ absurd (no_earlier text m n less second first)
    | inr ge ↦ omega arith
  ]
]

-- ---- one fault

pub only_memory : (text : List ℕ) (fault : MatchFault) → IsFormFault text fault → IsFormed text → fault ≡ faults.Memory
only_memory text faults.Empty is formed = absurd is
only_memory text faults.TooLong is formed = absurd is
only_memory text (faults.XPathUnsupported place) is (inl xpath) = absurd (is.1.whole xpath)
only_memory text (faults.XPathUnsupported place) is (inr (inl oid)) = absurd (rooted_no_oid text is.0 oid)
only_memory text (faults.XPathUnsupported place) is (inr (inr pattern)) = absurd (no_other text is.0 pattern.other)
only_memory text (faults.Pattern fault) is (inl xpath) = absurd (no_other text (xpath_rooted text xpath) is.0)
only_memory text (faults.Pattern fault) is (inr (inl oid)) = absurd (is.0.no_oid oid)
only_memory text (faults.Pattern fault) is (inr (inr pattern)) = absurd (let none = fault_again (tree_of text) text pattern.pattern in cc)
only_memory text faults.Memory is formed = refl

stop_told : (text : List ℕ) (fault : MatchFault) (place : ℕ) → IsFormFault text fault → is_rooted text ≡ true → IsXPathStop text place → fault ≡ faults.XPathUnsupported place
stop_told text faults.Empty place is rooted stop = absurd is
stop_told text faults.TooLong place is rooted stop = absurd is
stop_told text (faults.XPathUnsupported other) place is rooted stop = ap faults.XPathUnsupported (one_place text other place is.1 stop)
stop_told text (faults.Pattern fault) place is rooted stop = absurd (no_other text rooted is.0)
stop_told text faults.Memory place is rooted stop = absurd (stop.whole (is rooted))

told_stop : (text : List ℕ) (fault : MatchFault) (place : ℕ) → IsFormFault text fault → fault ≡ faults.XPathUnsupported place → IsTrue (is_rooted text) × IsXPathStop text place
told_stop text fault place is same = let Told : MatchFault → Type 0 = λ f. IsFormFault text f in subst Told same is

-- that a form's fault is the stop of an XPath, exactly where there is one
pub stop_exactly : {T : Type 0} (r : Result T MatchFault) (Sized : Type 0) (text : List ℕ) (fault : MatchFault) (place : ℕ) → r ≡ Err fault → Sized → IsFormFault text fault
    → (r ≡ Err (faults.XPathUnsupported place)) ↔ (Sized × IsTrue (is_rooted text) × IsXPathStop text place)
stop_exactly r Sized text fault place failed sized is = (
  λ e. let same : fault ≡ faults.XPathUnsupported place = cc in let told = told_stop text fault place is same in (sized, told.0, told.1),
  λ stop. failed ∙ ap Err (stop_told text fault place is stop.1 stop.2),
)

-- what was read has no fault
pub no_fault_read : (text : List ℕ) (form : Form) (fault : PatternFault) → text_of form ≡ text → IsOfForm form → IsOther text → ¬ (first_fault text ≡ Some fault)
no_fault_read text (Path path) fault e is other found = absurd (no_other text (ap is_rooted (sym e) ∙ xpath_rooted path is) other)
no_fault_read text (Oid oid) fault e is other found = absurd (other.no_oid (subst IsOid e is))
no_fault_read text (Pattern pattern) fault e is other found =
    let none : first_fault text ≡ None = ap first_fault (sym e) ∙ fault_again (tree_of pattern) pattern is.pattern in
    let no : Some fault ≡ None = sym found ∙ none in
    absurd (cc)
