use Rattle.std.proofs.Common.{Some, ap, ◌∙◌}
use Rattle.al_restconf.proofs.Paging.{entry_is_within, frame_is, no_frame}
use Rattle.al_restconf.proofs.page.frame_at.Goals as goal

pub encode-requires : goal.encode-requires
encode-requires g c = entry_is_within _ _ _ c.keeps_its_history.ensures.legal c.in-Some.ensures

pub returns-in_ok-encode-in-Some : goal.returns-in_ok-encode-in-Some
returns-in_ok-encode-in-Some g c = ap (λ frame. Some frame) c.in_ok-encode-in-Some.ensures ∙ frame_is c.args.office.now.entries c.args.n _ c.in-Some.ensures

pub returns-in-None : goal.returns-in-None
returns-in-None g c = no_frame c.args.office.now.entries c.args.n c.in-None.ensures
