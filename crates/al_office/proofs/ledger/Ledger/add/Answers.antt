use Rattle.std.proofs.Common.{sym, ◌∙◌, subst}
use Rattle.al_model.specs.History.{replay, Fits}
use Rattle.al_office.specs.Ledger.{CanAdd, IsKept}
use Rattle.al_office.proofs.Keeping.{kept_more}
use Rattle.al_office.proofs.ledger.Ledger.add.Goals as goal

pub invariant_of-self : goal.invariant_of-self
invariant_of-self c =
    let e = c.args.entry in
    let s = c.self.inside.tables.state in
    let ready = subst (λ o. CanAdd o e c.args.prepared) (sym c.self.view_is) c.requires.room in
    let fits = subst (λ o. Fits (replay o.entries) e) (sym c.self.view_is) c.requires.fits in
    let stepped = c.apply.ensures ∙ ready.ready.gives in
    subst (λ h. IsKept h c.apply.new.self.state) (sym c.push_entry.ensures)
    (kept_more c.self.inside.entries.items e s c.apply.new.self.state c.self.invariant fits stepped)
