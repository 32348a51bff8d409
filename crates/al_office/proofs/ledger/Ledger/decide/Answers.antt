-- The entry has the time of the next one, so it fits.
use Rattle.std.proofs.Common.{◌+◌, ◌<◌, max, sym, ap, ◌∙◌, subst}
use Rattle.al_base.specs.Limits.{last_stamp}
use Rattle.al_model.specs.History.{replay, Fits}
use Rattle.al_model.specs.declared.entry.Entry.{Entry}
use Rattle.al_office.proofs.Keeping.{change_is, early, fits}
use Rattle.al_office.proofs.ledger.Ledger.decide.Goals as goal

pub time_after-time-requires : goal.time_after-time-requires
time_after-time-requires c =
    let decided = sym c.decide.ensures ∙ change_is _ c.in-Ok.event c.in-Ok.reply c.in-Ok.ensures in
    subst (λ t. t < last_stamp) (sym c.time.ensures)
    (early c.self.inside.entries.items c.self.inside.tables.state c.args.request c.args.now c.in-Ok.event c.in-Ok.reply c.self.invariant decided)

pub returns-in-Ok-clause-fits : goal.returns-in-Ok-clause-fits
returns-in-Ok-clause-fits c =
    let time = c.time_after-time in
    let decided = sym c.decide.ensures ∙ change_is _ c.in-Ok.event c.in-Ok.reply c.in-Ok.ensures in
    let at = time.ensures.time ∙ ap (λ t. max c.args.now (t + 1)) c.time.ensures in
    let f = fits c.self.inside.entries.items c.self.inside.tables.state c.args.origin c.args.request c.args.now c.in-Ok.event c.in-Ok.reply time.result c.self.invariant c.requires c.ranges.origin.fits decided at time.ensures.bound in
    let e : Entry = record { time = time.result; origin = c.args.origin; event = c.in-Ok.event } in
    subst (λ o. Fits (replay o.entries) e) c.self.view_is f
