use Rattle.std.proofs.Common.{arith, ap, ◌∙◌}
use Rattle.al_json.specs.Showings.{tree_shown}
use Rattle.al_json.specs.Trees.{tree_of}
use Rattle.al_restconf.proofs.Showings.{state_answered, state_too_big}
use Rattle.al_restconf.proofs.read.read_state.Goals as goal

pub returns-then-len-gt-MAX_BODY-clause-exact : goal.returns-then-len-gt-MAX_BODY-clause-exact
returns-then-len-gt-MAX_BODY-clause-exact g c =
    state_too_big c.args.office.now.entries c.args.target.now c.in-Some.len (tree_shown c.of-showing.result) c.requires.host c.requires.page
    (c.of-showing.ensures ∙ ap (tree_of c.args.target.now) c.look.ensures) c.in-Some.ensures c.if-len-gt-MAX_BODY.true

pub returns-clause-exact : goal.returns-clause-exact
returns-clause-exact g c =
    rw (c.shown.ensures, c.of.ensures)
    (state_answered c.args.office.now.entries c.args.target.now c.entries-place.result c.in-Some.len (tree_shown c.of-showing.result) c.append_text.new.out.items c.requires.host
    c.requires.page (c.of-showing.ensures ∙ ap (tree_of c.args.target.now) c.look.ensures) c.entries-place.ensures c.in-Some.ensures
    (omega (arith, c.if-len-gt-MAX_BODY.false)) (rw c.in_ok-text.ensures.items at c.append_text.ensures.items))
