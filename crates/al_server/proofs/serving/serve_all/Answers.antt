use denote.Param.Send.{sendable}
use Rattle.std.proofs.Common.{List, ap, arith, length, map}
use Rattle.std.proofs.lemmas.List.{length-map}
use Rattle.al_serve.specs.Workers.{IsReady, work_of}
use Rattle.al_server.proofs.Fresh.{all_back, all_ready}
use Rattle.al_server.proofs.Sending.{office_send}
use Rattle.al_server.proofs.Shifts.{served_fits, shift_ends, written_back, zip_worked}
use Rattle.al_server.proofs.Workers.{each_of, have_passes, same_passes, served_most}
use Rattle.al_server.proofs.serving.serve_all.Goals as goal

pub work_all-requires-after_bounds : goal.work_all-requires-after_bounds
work_all-requires-after_bounds g c = λ lifetimes within.
    let hired = c.hire-workers.ensures.hired in
    let f = work_of g.N.Doors.state g.K.Clock.readings in
    let ready = all_ready c.in-Ok.made.0 c.args.connections 1 c.all_passes-passes.result.items (map f c.hire-workers.result.items) c.requires.connections c.all_passes-passes.ensures.all.fresh hired.passes_are hired.begun in
    rw c.as_mut_slice.ensures.value (each_of f (IsReady c.in-Ok.made.0) c.hire-workers.result.items ready)

pub work_all-requires-send-T : goal.work_all-requires-send-T
work_all-requires-send-T g c = λ lifetimes within. let sends = c.type_bounds.send-D in search (office_send, sendable)

pub dismiss-served-requires-clause-have : goal.dismiss-served-requires-clause-have
dismiss-served-requires-clause-have g c =
    let f = work_of g.N.Doors.state g.K.Clock.readings in
    let slice = c.as_mut_slice.ensures in
    let worked = c.work_all.ensures.worked in
    let written = written_back _ _ _ _ slice.value slice.len worked.count in
    let zip = zip_worked f _ _ _ slice.value worked.count worked.each in
    rw written (have_passes _ _ zip)

pub dismiss-served-requires-clause-few : goal.dismiss-served-requires-clause-few
dismiss-served-requires-clause-few g c =
    let f = work_of g.N.Doors.state g.K.Clock.readings in
    let slice = c.as_mut_slice.ensures in
    let worked = c.work_all.ensures.worked in
    let written = written_back _ _ _ _ slice.value slice.len worked.count in
    let zip = zip_worked f _ _ _ slice.value worked.count worked.each in
    let most = served_most c.args.connections 1 _ _ c.hire-workers.ensures.hired.begun zip in
    let items = ap (λ (ws : List _). length ws) slice.value in
    let lengths = length-map c.hire-workers.result.items f in
    rw written (served_fits _ c.args.connections _ most (omega (arith, lengths, items, slice.len, c.hire-workers.ensures.len, c.all_passes-passes.ensures.len, c.len.ensures, c.requires.some.1)) c.requires.connections)

pub close-requires : goal.close-requires
close-requires g c =
    let f = work_of g.N.Doors.state g.K.Clock.readings in
    let slice = c.as_mut_slice.ensures in
    let worked = c.work_all.ensures.worked in
    let written = written_back _ _ _ _ slice.value slice.len worked.count in
    let zip = zip_worked f _ _ _ slice.value worked.count worked.each in
    let dismissed = rw written at c.dismiss-served.ensures in
    rw c.into_vec.ensures.items
    (all_back c.in-Ok.made.0 _ c.all_passes-passes.result.items _ c.all_passes-passes.ensures.all (same_passes _ _ _ _ c.hire-workers.ensures.hired.passes_are dismissed.passes_are zip))

pub returns-clause-ok : goal.returns-clause-ok
returns-clause-ok g c =
    let f = work_of g.N.Doors.state g.K.Clock.readings in
    let slice = c.as_mut_slice.ensures in
    let worked = c.work_all.ensures.worked in
    let written = written_back _ _ _ _ slice.value slice.len worked.count in
    let zip = zip_worked f _ _ _ slice.value worked.count worked.each in
    let dismissed = rw written at c.dismiss-served.ensures in
    let hired = rw (c.from_vec-doors.ensures.items, c.from_vec-clocks.ensures.items) at c.hire-workers.ensures.hired in
    let closed = rw c.into_vec.ensures.items at c.close.ensures in
    rw c.into_vec-2.ensures.items
    (shift_ends c.in-Ok.made.0 c.args.connections _ _ _ _ _ _ _ _ _ _ _ _ c.in-Ok.ensures.ok.0 c.all_passes-passes.ensures.all hired zip dismissed closed)
