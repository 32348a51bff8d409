use Rattle.std.proofs.Common.{◌+◌, ◌≤◌, length}
use Rattle.al_http.specs.Ends.{IsRejected, IsCut}
use Rattle.al_http.specs.InputBuffers.{held_bytes}
use Rattle.al_http.proofs.StreamLemmas.{keeps_same, stream_all, all_has, takes_kept}
use Rattle.al_http.proofs.RequestLemmas.{first_request, rejected_block, stops_so, cut_body}
use Rattle.al_http.proofs.input_buffer.InputBuffer.take_block.Goals as goal

pub returns-in-Err-clause-takes : goal.returns-in-Err-clause-takes
returns-in-Err-clause-takes g c =
    let held = held_bytes c.args.self.now in
    let rejection = c.in-Err.rejection in (
      rw c.read_block.ensures.held (keeps_same _),
      rw c.stop.ensures (stops_so rejection _ (stream_all (IsRejected rejection) held _ (λ more. rejected_block rejection held more c.args.len c.requires.is_block c.requires.short c.in-Err.ensures.rejects))),
    )

pub returns-in-Ok-true-clause-takes : goal.returns-in-Ok-true-clause-takes
returns-in-Ok-true-clause-takes g c =
    let held = held_bytes c.args.self.now in
    let more = held_bytes c.read_up_to.new.self in
    let kept = rw c.read_block.ensures.held at c.read_up_to.ensures.kept in
    let stream = rw c.read_block.ensures.held at c.read_up_to.ensures.stream in
    let full : c.args.len + c.in-Ok.found.1 ≤ length more = c.read_up_to.ensures.full (cc) in (
      c.give.ensures.extent,
      rw (c.give.ensures.held, c.give.ensures.message, c.read_up_to.ensures.spans) (takes_kept _ more _ _ _ stream
          (λ rest. first_request held more rest c.args.len c.in-Ok.found.1 _ c.in-Ok.found.0 c.in-Ok.ensures.reads c.requires.within kept full)),
    )

pub returns-in-Ok-false-clause-takes : goal.returns-in-Ok-false-clause-takes
returns-in-Ok-false-clause-takes g c =
    let held = held_bytes c.args.self.now in
    let more = held_bytes c.read_up_to.new.self in
    let kept = rw c.read_block.ensures.held at c.read_up_to.ensures.kept in
    let stream = rw c.read_block.ensures.held at c.read_up_to.ensures.stream in
    let end = rw c.read_block.ensures.held at (c.read_up_to.ensures.end (cc)) in
    (stream, all_has IsCut more _ end.1 (cut_body held more c.args.len c.in-Ok.found.1 _ c.in-Ok.found.0 c.in-Ok.ensures.reads c.requires.within kept end.0))
