use Rattle.std.proofs.Common.{◌≡◌, Option, None, Some, Bor, refl, ap, ◌∙◌}
use Rattle.std.specs.Option.{is_some, option_copied, unwrap_or}
use Rattle.al_lists.specs.Moves.{first_name}
use Rattle.al_lists.proofs.prepare.report.New.of.Goals as goal

some_copied : {X : Type 0} (o : Option (Bor X)) → is_some o ≡ is_some (option_copied o)
some_copied None = refl
some_copied (Some x) = refl

pub returns-clause-shelved : goal.returns-clause-shelved
returns-clause-shelved c =
    let s = c.args.contents.now.state in
    let key = c.args.key.now in
    let none = c.empty-none.result in
    let inventory : c.installed_or-inventory.result.now ≡ unwrap_or s.inventory none =
    c.installed_or-inventory.ensures ∙ ap (λ o. unwrap_or o none) c.inventory.ensures in
    c.is_some-shelved.ensures ∙ some_copied c.first_name-name.result
    ∙ ap is_some (c.first_name-name.ensures ∙ ap (λ shelves. first_name c.installed_or-inventory.result.now shelves key) c.shelves.ensures
    ∙ ap (λ i. first_name i s.shelves key) inventory ∙ ap (λ i. first_name (unwrap_or s.inventory i) s.shelves key) c.empty-none.ensures)
