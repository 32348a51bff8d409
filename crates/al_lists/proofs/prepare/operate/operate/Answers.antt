use Rattle.std.proofs.lemmas.Option.{slice_get_within}
use Rattle.al_lists.proofs.Preparing.{operable, operate_prepared}
use Rattle.al_lists.proofs.prepare.operate.operate.Goals as goal

pub place_of-place-requires-clause-known : goal.place_of-place-requires-clause-known
place_of-place-requires-clause-known c =
    (operable c.args.contents.now.state c.args.time c.args.key.now c.args.state c.args.operator.now c.args.text.now c.requires.comes).known

pub reserve_operator-requires : goal.reserve_operator-requires
reserve_operator-requires c = slice_get_within _ _ c.place_of-place.ensures.alarm c.place_of-place.ensures.stands

pub returns-clause-ok : goal.returns-clause-ok
returns-clause-ok c =
    operate_prepared c.args.contents.now.state c.reserve_operator.new.self c.args.time c.args.key.now c.args.state c.args.operator.now c.args.text.now
    c.place_of-place.result c.in_ok-entry.entry c.in_ok-note.note c.reserve_operator.ensures.state c.requires.valid c.requires.comes c.place_of-place.ensures
    c.in_ok-entry.ensures c.in_ok-note.ensures c.in_ok-reserve_operator.ensures.ok
