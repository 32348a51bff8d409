use Rattle.std.proofs.Common.{◌≡◌, ◌||◌, Bool, false, length, rules, ap, sym, ◌∙◌, tests}
use Rattle.std.specs.List.{list_any}
use Rattle.std.specs.Prelude.{◌==◌}
use Rattle.std.proofs.lemmas.Iterator.{YieldsList-from_slice}
use Rattle.std.proofs.lemmas.Iterator.Search.{any_from_yields_List}
use Rattle.al_shelf.specs.Taking.{is_of_type}
use Rattle.al_shelf.specs.declared.shelf.TypeMatch.{TypeMatch}
use Rattle.al_shelf.proofs.shelf.Shelf.takes_type.Goals as goal

pub returns-else-is_empty-clause-value : goal.returns-else-is_empty-clause-value
returns-else-is_empty-clause-value c =
    let given = c.as_slice-criteria.result.now in
    let test : TypeMatch → Bool = is_of_type c.args.inventory.now c.args.key.now in
    let any : c.any.result ≡ list_any test given =
    any_from_yields_List test _ _ c.any.result c.any.ensures.ran (YieldsList-from_slice given cc) (λ x b q k. search (rules, tests)) in
    let some : (length given == 0) ≡ false = sym c.is_empty.ensures ∙ c.if-is_empty.false in
    any ∙ ap (λ b. b || list_any test given) (sym some) ∙ ap (λ l. (length l == 0) || list_any test l) c.as_slice-criteria.ensures
