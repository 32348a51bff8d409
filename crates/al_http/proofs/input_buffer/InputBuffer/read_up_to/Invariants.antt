use Rattle.std.proofs.Common.{◌≡◌, ◌-◌, ◌≤◌, length, take}
use Rattle.std.specs.Io.KnownBytes.{Keeps}
use Rattle.al_http.specs.Moves.{stream_of}
use Rattle.al_http.specs.InputBuffers.{held_bytes}
use Rattle.al_http.proofs.input_buffer.InputBuffer.read_up_to.Given as goal

abbrev pub invariant-reading : goal.invariant-reading
invariant-reading g l = record {
  kept : take (length (held_bytes l.fn.self)) (held_bytes l.self) ≡ held_bytes l.fn.self;
  spans : l.self.spans ≡ l.fn.self.spans;
  stream : Keeps (stream_of (held_bytes l.fn.self) (g.S.Source.left l.fn.source)) (stream_of (held_bytes l.self) (g.S.Source.left l.source));
  later : g.S.Source.faults l.fn.source ≤ g.S.Source.faults l.source;
}

abbrev pub decreases-reading : goal.decreases-reading
decreases-reading g l = l.need - length (held_bytes l.self)
