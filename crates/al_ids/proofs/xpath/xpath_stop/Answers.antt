use Rattle.std.proofs.Common.{sym, ◌∙◌}
use Rattle.al_ids.proofs.XPathStops.{both_stop, path_stop_alone, text_stop_alone, no_stop}
use Rattle.al_ids.proofs.xpath.xpath_stop.Goals as goal

pub returns-in-Some-Some : goal.returns-in-Some-Some
returns-in-Some-Some c =
    rw c.min.ensures
    (both_stop c.args.text.now c.in-Some-Some.path c.in-Some-Some.bytes (sym c.in-Some-Some.is-0 ∙ c.path_stop.ensures) (rw c.in-Some-Some.is-1 at c.text_stop.ensures))

pub returns-in-Some-None : goal.returns-in-Some-None
returns-in-Some-None c =
    path_stop_alone c.args.text.now c.in-Some-None.path (sym c.in-Some-None.is-0 ∙ c.path_stop.ensures) (rw c.in-Some-None.is-1 at c.text_stop.ensures)

pub returns-in-None-Some : goal.returns-in-None-Some
returns-in-None-Some c =
    text_stop_alone c.args.text.now c.in-None-Some.bytes (sym c.in-None-Some.is-0 ∙ c.path_stop.ensures) (rw c.in-None-Some.is-1 at c.text_stop.ensures)

pub returns-in-None-None : goal.returns-in-None-None
returns-in-None-None c =
    no_stop c.args.text.now (sym c.in-None-None.is-0 ∙ c.path_stop.ensures) (rw c.in-None-None.is-1 at c.text_stop.ensures)
