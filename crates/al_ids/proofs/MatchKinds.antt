-- A match takes resources of its own kind alone.
use Rattle.std.proofs.Common.{◌≡◌, ◌≢◌, ◌↔◌, inl, inr, IsTrue, ℕ, Bool, true, false, List, [], ◌∷◌, refl, sym, ap, ◌∙◌, arith}
use Rattle.std.specs.Prelude.{◌==◌}
use Rattle.std.specs.List.{AllByRecursion, join_with_byte}
use Rattle.std.proofs.lemmas.Bool.{false≢true}
use Rattle.std.proofs.lemmas.Bool.Decides.{nat_tests}
use Rattle.al_ids.specs.Oids.{is_arc, IsRooted, IsOid}
use Rattle.al_ids.specs.Paths.{Step, path_text, IsPath}
use Rattle.al_ids.specs.Matches.{is_rooted, IsXPath, IsPatternMatch, TakesPath, TakesOid, TakesPlain, Matches}

pub steps_rooted : (steps : List Step) → steps ≢ [] → is_rooted (path_text steps) ≡ true
steps_rooted [] some = absurd (some refl)
steps_rooted (s ∷ steps) some = refl

pub xpath_rooted : (text : List ℕ) → IsXPath text → is_rooted text ≡ true
xpath_rooted text xpath = ap is_rooted xpath.spelling ∙ steps_rooted xpath.steps xpath.some

no_slash : (byte : ℕ) (digits : List ℕ) → IsTrue (is_arc (byte ∷ digits)) → (byte == 47) ≡ false
no_slash byte digits is = grind (arith, nat_tests)

arcs_unrooted : (arcs : List (List ℕ)) → AllByRecursion (λ arc. IsTrue (is_arc arc)) arcs → IsRooted arcs → is_rooted (join_with_byte 46 arcs) ≡ false
arcs_unrooted [] each rooted = absurd rooted
arcs_unrooted (arc ∷ []) each rooted = absurd rooted
arcs_unrooted ([] ∷ second ∷ more) each rooted = absurd (false≢true each.0)
arcs_unrooted ((byte ∷ digits) ∷ second ∷ more) each rooted = no_slash byte digits each.0

pub oid_unrooted : (text : List ℕ) → IsOid text → is_rooted text ≡ false
oid_unrooted text oid = ap is_rooted oid.spelling ∙ arcs_unrooted oid.arcs oid.each oid.rooted

pub rooted_no_oid : (text : List ℕ) → is_rooted text ≡ true → ¬ (IsOid text)
rooted_no_oid text rooted oid = false≢true (sym (oid_unrooted text oid) ∙ rooted)

only_path : (asked given : List ℕ) → IsXPath asked → Matches asked given → TakesPath asked given
only_path asked given xpath (inl path) = path
only_path asked given xpath (inr (inl oid)) = absurd (rooted_no_oid asked (xpath_rooted asked xpath) oid.front)
only_path asked given xpath (inr (inr plain)) = absurd (false≢true (sym plain.pattern.other.no_path ∙ xpath_rooted asked xpath))

only_oid : (asked given : List ℕ) → IsOid asked → Matches asked given → TakesOid asked given
only_oid asked given front (inl path) = absurd (rooted_no_oid asked (xpath_rooted asked path.xpath) front)
only_oid asked given front (inr (inl oid)) = oid
only_oid asked given front (inr (inr plain)) = absurd (plain.pattern.other.no_oid front)

only_plain : (asked given : List ℕ) → IsPatternMatch asked → Matches asked given → TakesPlain asked given
only_plain asked given pattern (inl path) = absurd (false≢true (sym pattern.other.no_path ∙ xpath_rooted asked path.xpath))
only_plain asked given pattern (inr (inl oid)) = absurd (pattern.other.no_oid oid.front)
only_plain asked given pattern (inr (inr plain)) = plain

pub oid_answer : (asked given : List ℕ) (answer : Bool) → IsOid asked → IsTrue answer ↔ TakesOid asked given → IsTrue answer ↔ Matches asked given
oid_answer asked given answer front is = (λ h. inr (inl (is.0 h)), λ matches. is.1 (only_oid asked given front matches))

-- the same for texts that are known to be those
pub oid_moved : (front whole asked given : List ℕ) (answer : Bool) → front ≡ asked → whole ≡ given → IsOid asked → IsTrue answer ↔ TakesOid front whole → IsTrue answer ↔ Matches asked given
oid_moved front whole asked given answer e f oid is = oid_answer asked given answer oid (rw (← e, ← f) is)

pub path_refused : (asked given : List ℕ) (answer : Bool) → IsXPath asked → answer ≡ false → (IsPath given → IsTrue answer) → IsTrue answer ↔ Matches asked given
path_refused asked given answer xpath refused kind = (λ h. absurd (false≢true (sym refused ∙ h)), λ matches. kind (only_path asked given xpath matches).path)

pub oid_refused : (asked given : List ℕ) (answer : Bool) → IsOid asked → answer ≡ false → (IsOid given → IsTrue answer) → IsTrue answer ↔ Matches asked given
oid_refused asked given answer front refused kind = (λ h. absurd (false≢true (sym refused ∙ h)), λ matches. kind (only_oid asked given front matches).oid)

pub plain_refused : (asked given : List ℕ) (answer : Bool) → IsPatternMatch asked → answer ≡ false → ((¬ (IsPath given)) × (¬ (IsOid given)) → IsTrue answer) → IsTrue answer ↔ Matches asked given
plain_refused asked given answer pattern refused kind =
    (λ h. absurd (false≢true (sym refused ∙ h)), λ matches. let plain = only_plain asked given pattern matches in kind (plain.no_path, plain.no_oid))
