use Rattle.std.proofs.Common.{◌∙◌, ap}
use Rattle.std.specs.List.{slice_get}
use Rattle.al_notify.proofs.Keeping.{page_reads, page_ends}
use Rattle.al_notify.proofs.log.Page.at.Goals as goal

pub returns-then-i-lt-MOST_PAGE_NOTES : goal.returns-then-i-lt-MOST_PAGE_NOTES
returns-then-i-lt-MOST_PAGE_NOTES c =
    page_reads _ c.self.inside.first c.args.i c.get.result c.if-i-lt-MOST_PAGE_NOTES.true c.get.ensures.item
    ∙ ap (λ page. slice_get page c.args.i) c.self.view_is

pub returns-else-i-lt-MOST_PAGE_NOTES : goal.returns-else-i-lt-MOST_PAGE_NOTES
returns-else-i-lt-MOST_PAGE_NOTES c = page_ends _ c.args.i c.if-i-lt-MOST_PAGE_NOTES.false ∙ ap (λ page. slice_get page c.args.i) c.self.view_is
