use Rattle.al_restconf.proofs.Paging.{page_none, page_some}
use Rattle.al_restconf.proofs.page.page_texts.Goals as goal

pub returns-in_ok-texts-in-Some : goal.returns-in_ok-texts-in-Some
returns-in_ok-texts-in-Some g c =
    page_some c.args.office.now.entries c.args.start _ c.in-Some.frame.items (rw c.in-Some.is at c.in_ok-frame.ensures) c.in_ok-texts-in-Some.ensures

pub returns-in-None : goal.returns-in-None
returns-in-None g c = page_none c.args.office.now.entries c.args.start _ c.new.ensures.items (rw c.in-None.is at c.in_ok-frame.ensures)
