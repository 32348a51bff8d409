use Rattle.std.proofs.Common.{◌≡◌, ◌<◌, length, refl, subst, sym, rules}
use Rattle.std.proofs.lemmas.Option.{slice_get_read, slice_get_within}
use Rattle.al_types.specs.Inventories.{InventoryView}
use Rattle.al_types.specs.declared.place.Place.{Place}
use Rattle.al_types.specs.declared.place.Place.TheVariants.{Root, Declared}
use Rattle.al_types.proofs.Derivations.{GoesOn, goes_on, goes_down, stopped, depth}
use Rattle.al_types.proofs.inventory.Inventory.leads.Goals as goal

pub loop-self-smaller : goal.loop-self-smaller
loop-self-smaller c =
    let i : InventoryView = record { identities = c.self.inside.identities; rows = c.self.inside.rows } in
    let P : Place → Type 0 = λ place. GoesOn i c.args.start c.args.goal place in
    let Q : Place → Type 0 = λ place. depth c.index.result.now < depth place in
    let before : P (Declared c.in-Declared.n) = subst P c.in-Declared.is c.loop-self.invariant in
    let within = slice_get_within i.identities c.in-Declared.n _ before.standing.1.1 in
    let lt : c.in-Declared.n < length c.self.inside.bases.items = rw c.self.invariant.bases.count within in
    let at = slice_get_read c.self.inside.bases.items (length c.self.inside.bases.items) c.in-Declared.n c.index.result.now refl lt c.index.ensures in
    subst Q (sym c.in-Declared.is) (goes_down i c.self.inside.bases.items c.self.invariant c.args.start c.args.goal c.index.result.now c.in-Declared.n at before)

pub loop-self-preserved : goal.loop-self-preserved
loop-self-preserved c =
    let i : InventoryView = record { identities = c.self.inside.identities; rows = c.self.inside.rows } in
    let P : Place → Type 0 = λ place. GoesOn i c.args.start c.args.goal place in
    let before : P (Declared c.in-Declared.n) = subst P c.in-Declared.is c.loop-self.invariant in
    let within = slice_get_within i.identities c.in-Declared.n _ before.standing.1.1 in
    let lt : c.in-Declared.n < length c.self.inside.bases.items = rw c.self.invariant.bases.count within in
    let at = slice_get_read c.self.inside.bases.items (length c.self.inside.bases.items) c.in-Declared.n c.index.result.now refl lt c.index.ensures in
    let other : ¬ (Declared c.in-Declared.n ≡ c.args.goal) = search rules in
    goes_on i c.self.inside.bases.items c.self.invariant c.args.start c.args.goal c.index.result.now c.in-Declared.n at other before

pub returns-in-Root : goal.returns-in-Root
returns-in-Root c =
    let i : InventoryView = record { identities = c.self.inside.identities; rows = c.self.inside.rows } in
    let P : Place → Type 0 = λ place. GoesOn i c.args.start c.args.goal place in
    let before : P Root = subst P c.in-Root.is c.loop-self.invariant in
    let other : ¬ (Root ≡ c.args.goal) = search rules in
    rw (← c.self.view_is) (stopped i c.self.invariant.sound c.args.start c.args.goal other before)
