use Rattle.std.proofs.Common.{◌≡◌, subst, sym}
use Rattle.std.proofs.lemmas.Result.{IfOk-weaker}
use Rattle.al_model.specs.History.{Fits}
use Rattle.al_model.specs.State.{State}
use Rattle.al_model.specs.declared.entry.Entry.{Entry}
use Rattle.al_model.specs.declared.event.Event.{Event}
use Rattle.al_model.specs.declared.event.Event.TheVariants as events
use Rattle.al_lists.specs.Prepares.{Comes, Prepares}
use Rattle.al_lists.proofs.prepare.prepare.Goals as goal

comes_as : (s : State) (e : Entry) (event : Event) → e.event ≡ event → Fits s e → Comes s e.time event
comes_as s e event is fits =
    record { origin = e.origin; fits = subst (λ v. Fits s (record { time = e.time; origin = e.origin; event = v })) is fits }

pub returns-in-Purge-clause-ok : goal.returns-in-Purge-clause-ok
returns-in-Purge-clause-ok c =
    let t = c.args.contents.now in
    let e = c.args.entry.now in
    let event = events.Purge c.in-Purge.side c.in-Purge.filter in
    let comes : Comes t.state e.time event = comes_as t.state e event c.in-Purge.is c.requires.fits in
    IfOk-weaker c.purge.result _ _ (λ p h. subst (λ v. Prepares t e.time v p) (sym c.in-Purge.is) (h t c.requires.valid comes)) c.purge.ensures

pub returns-in-Compress-clause-ok : goal.returns-in-Compress-clause-ok
returns-in-Compress-clause-ok c =
    let t = c.args.contents.now in
    let e = c.args.entry.now in
    let event = events.Compress c.in-Compress.side c.in-Compress.filter in
    let comes : Comes t.state e.time event = comes_as t.state e event c.in-Compress.is c.requires.fits in
    IfOk-weaker c.compress.result _ _ (λ p h. subst (λ v. Prepares t e.time v p) (sym c.in-Compress.is) (h t c.requires.valid comes)) c.compress.ensures
