-- A compiled text is ready.
use Rattle.std.proofs.Common.{◌≡◌, ◌↔◌, ℕ, Bool, true, List, [], Some, None, Result, Ok, Err, IfOk, refl, ap, sym, ◌∙◌, subst}
use Rattle.al_pattern.specs.declared.node.Node.{Node}
use Rattle.al_pattern.specs.declared.fault.Fault.{Fault}
use Rattle.al_pattern.specs.declared.fault.FaultKind.{FaultKind}
use Rattle.al_pattern.specs.declared.fault.FaultKind.TheVariants.{Syntax, Unsupported, TooLarge, TooDeep}
use Rattle.al_pattern.specs.declared.fault.PatternFault.{PatternFault}
use Rattle.al_pattern.specs.declared.fault.PatternFault.TheVariants as faults
use Rattle.al_pattern.specs.Trees.{Choice, IsSpelled}
use Rattle.al_pattern.specs.Language.{IsInLanguage}
use Rattle.al_pattern.specs.Walk.{choice_seen}
use Rattle.al_pattern.specs.Programs.{IsCompiled}
use Rattle.al_pattern.specs.Patterns.{AreNodesOf, IsReady}
use Rattle.al_pattern.specs.Reading.{reading, tree_of, tree_or_empty, first_fault, fault_or_none, fault_named, placed, IsFirstFault}
use Rattle.al_pattern.proofs.CompileLemmas.{compiled_from}
use Rattle.al_pattern.proofs.GrammarLemmas.{reading_found}
use Rattle.al_pattern.proofs.OnlyLemmas.{tree_again, fault_again}

-- the tree of a text that is read
pub tree_is : (text : List ℕ) (tree : Choice) → reading text ≡ Ok tree → tree_of text ≡ tree
unfolding tree_of
tree_is text tree e = ap tree_or_empty e

pub spelled_from : (text : List ℕ) (tree : Choice) → reading text ≡ Ok tree → IsSpelled (tree_of text) text
spelled_from text tree e =
    let found : IsSpelled tree text = subst (λ r. IfOk r (λ t. IsSpelled t text)) e (reading_found text) in
    subst (λ t. IsSpelled t text) (sym (tree_is text tree e)) found

pub nodes_compiled : (nodes : List Node) (text : List ℕ) → AreNodesOf nodes text → IsCompiled nodes (tree_of text)
nodes_compiled nodes text n =
    let same = tree_is text n.tree n.read in
    compiled_from nodes (tree_of text) (spelled_from text n.tree n.read).pattern (λ c. n.agree c ∙ ap (choice_seen c) (sym same))

pub ready_from : (nodes : List Node) (text : List ℕ) (nullable : Bool) → AreNodesOf nodes text → (nullable ≡ true ↔ IsInLanguage (tree_of text) []) → IsReady text nodes nullable
ready_from nodes text nullable n empty = record {
  spelled = spelled_from text n.tree n.read;
  program = record { compiled = nodes_compiled nodes text n; empty_text = empty };
}

pub no_fault : (text : List ℕ) (tree : Choice) → reading text ≡ Ok tree → first_fault text ≡ None
unfolding first_fault
no_fault text tree e = ap (fault_or_none text) e

the_fault : (text : List ℕ) (f : Fault) → reading text ≡ Err f → first_fault text ≡ Some (placed text f)
unfolding first_fault
the_fault text f e = ap (fault_or_none text) e

-- a named fault is the first where it is equal to it
named : (text : List ℕ) (kind : FaultKind) (place : ℕ) → first_fault text ≡ Some (fault_named kind place) → IsFirstFault text (fault_named kind place)
named text Syntax place e = e
named text Unsupported place e = e
named text TooLarge place e = e
named text TooDeep place e = e

pub fault_is_first : (text : List ℕ) (f : Fault) → reading text ≡ Err f → IsFirstFault text (placed text f)
fault_is_first text f e = named text f.kind _ (the_fault text f e)

-- ---- laws

pub one_tree : (a b : Choice) (text : List ℕ) → IsSpelled a text → IsSpelled b text → a ≡ b
one_tree a b text s t = sym (tree_again a text s) ∙ tree_again b text t

fault_spelled : (text : List ℕ) (read : Result Choice Fault) → reading text ≡ read → fault_or_none text read ≡ None → IsSpelled (tree_of text) text
fault_spelled text (Ok tree) e none = spelled_from text tree e
fault_spelled text (Err f) e none = absurd (cc)

pub no_fault_spelled : (text : List ℕ) → first_fault text ≡ None → IsSpelled (tree_of text) text
unfolding first_fault
no_fault_spelled text none = fault_spelled text (reading text) refl none

-- a fault that comes first is no fault of a pattern
pub refused_never : (text : List ℕ) (tree : Choice) (e : PatternFault) → IsSpelled tree text → IsFirstFault text e → e ≡ faults.Memory
refused_never text tree faults.Memory s first = refl
refused_never text tree (faults.Syntax n) s first = absurd (let none = fault_again tree text s in cc)
refused_never text tree (faults.Unsupported n) s first = absurd (let none = fault_again tree text s in cc)
refused_never text tree (faults.TooLarge n) s first = absurd (let none = fault_again tree text s in cc)
refused_never text tree (faults.TooDeep n) s first = absurd (let none = fault_again tree text s in cc)
