use Rattle.std.proofs.Common.{refl, ◌∙◌}
use Rattle.al_restconf.proofs.page.texts_from.Goals as goal

pub returns : goal.returns
returns g c =
    rw (c.in_ok-add_frames.ensures, c.in_ok-push.ensures.items, c.new-texts.ensures.items, c.in_ok-text_of.ensures, c.saturating_sub-room.ensures, c.len.ensures ∙ c.args.frame.ok.0) refl
