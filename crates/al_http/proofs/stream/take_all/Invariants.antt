use Rattle.std.proofs.Common.{◌-◌, ◌≡◌, ◌≤◌, List, length}
use Rattle.al_http.specs.Requests.{RequestMessage}
use Rattle.al_http.specs.Streams.{GoOn, HasGiven, request_limit}
use Rattle.al_http.specs.Moves.{stream_of}
use Rattle.al_http.proofs.stream.take_all.Given as goal

-- the stream was as many requests as were counted, none of them last, and then what is left now
abbrev pub invariant-loop-count : goal.invariant-loop-count
invariant-loop-count g l = record {
  few : l.count ≤ request_limit;
  given : (requests : List RequestMessage) × (length requests ≡ l.count) × GoOn requests
      × HasGiven (stream_of l.fn.framer (g.S.Source.left l.fn.source)) requests (stream_of l.framer (g.S.Source.left l.source));
  later : g.S.Source.faults l.fn.source ≤ g.S.Source.faults l.source;
}

abbrev pub decreases-loop-count : goal.decreases-loop-count
decreases-loop-count g l = request_limit - l.count
