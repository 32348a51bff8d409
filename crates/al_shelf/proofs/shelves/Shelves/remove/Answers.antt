use Rattle.std.proofs.Common.{◌≡◌, refl, sym, ◌∙◌, ap, get_or}
use Rattle.std.specs.List.{remove}
use Rattle.std.specs.Prelude.{List, Some}
use Rattle.al_shelf.specs.declared.shelf.Shelf.{Shelf}
use Rattle.al_shelf.proofs.Puts.{without_none, without_one, shelf_of_none, shelf_of_one, none_named_so, one_named_so}
use Rattle.al_shelf.proofs.shelves.Shelves.remove.Goals as goal

pub returns-in_default-clause-answer : goal.returns-in_default-clause-answer
returns-in_default-clause-answer c = sym (shelf_of_none c.args.name.now c.args.self.now.shelves (sym c.place_of.ensures.place ∙ c.in_default.is))

pub returns-in_default-clause-none : goal.returns-in_default-clause-none
returns-in_default-clause-none c = (λ _. none_named_so c.args.name.now c.args.self.now.shelves (sym c.place_of.ensures.place ∙ c.in_default.is), λ _. refl)

pub returns-in_default-clause-shelves : goal.returns-in_default-clause-shelves
returns-in_default-clause-shelves c = sym (without_none c.args.name.now c.args.self.now.shelves (sym c.place_of.ensures.place ∙ c.in_default.is))

pub returns-clause-answer : goal.returns-clause-answer
returns-clause-answer c =
    let found = sym c.place_of.ensures.place ∙ c.in-Some.is in
    let same : c.self.inside.shelves.items ≡ c.args.self.now.shelves = ap (λ v. v.shelves) c.self.view_is in
    let value = c.remove.ensures.value ∙ ap (λ (l : List Shelf). get_or l c.in-Some.place c.remove.result) same in
    ap Some value ∙ sym (shelf_of_one c.args.name.now c.args.self.now.shelves c.in-Some.place c.remove.result found)

pub returns-clause-none : goal.returns-clause-none
returns-clause-none c =
    let found = sym c.place_of.ensures.place ∙ c.in-Some.is in
    (λ e. absurd (cc), λ none. absurd (one_named_so c.args.name.now c.args.self.now.shelves c.in-Some.place found none))

pub returns-clause-shelves : goal.returns-clause-shelves
returns-clause-shelves c =
    let found = sym c.place_of.ensures.place ∙ c.in-Some.is in
    let same : c.self.inside.shelves.items ≡ c.args.self.now.shelves = ap (λ v. v.shelves) c.self.view_is in
    c.remove.ensures.items ∙ ap (λ (l : List Shelf). remove l c.in-Some.place) same
    ∙ sym (without_one c.args.name.now c.args.self.now.shelves c.in-Some.place c.place_of.ensures.sound found)
