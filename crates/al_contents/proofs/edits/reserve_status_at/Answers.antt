use Rattle.std.proofs.Common.{◌<◌, length, rules}
use Rattle.al_contents.proofs.Editing.{get_set, got_at, on_ok, reserves_more, reserves_none}
use Rattle.al_contents.proofs.edits.reserve_status_at.Goals as goal

pub returns-clause-same : goal.returns-clause-same
returns-clause-same c =
    let views = c.args.alarms.now.items in
    let within : c.args.place < length views = search rules in
    let stands = got_at views c.args.place c.index_mut.result.now within c.index_mut.ensures.value in
    reserves_more views views c.args.place c.index_mut.result.now c.reserve_status.new.self (reserves_none views) stands c.reserve_status.ensures.state c.reserve_status.ensures.max

pub returns-clause-ok : goal.returns-clause-ok
returns-clause-ok c =
    let views = c.args.alarms.now.items in
    let within : c.args.place < length views = search rules in
    on_ok c.reserve_status.result (λ room. record { view = c.reserve_status.new.self; stands = get_set views c.args.place c.reserve_status.new.self within; has = room }) c.reserve_status.ensures.ok
