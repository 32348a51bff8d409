use Rattle.std.proofs.Common.{◌-◌, ◌<◌, ◌≤◌, length, take}
use Rattle.std.specs.Io.KnownBytes.{Keeps}
use Rattle.al_http.specs.Moves.{stream_of}
use Rattle.al_http.specs.Scans.{IsAfter}
use Rattle.al_http.specs.InputBuffers.{held_bytes}
use Rattle.al_http.proofs.input_buffer.InputBuffer.find_block.Given as goal

abbrev pub invariant-reading : goal.invariant-reading
invariant-reading g l = record {
  stream : Keeps (stream_of (held_bytes l.fn.self) (g.S.Source.left l.fn.source)) (stream_of (held_bytes l.self) (g.S.Source.left l.source));
  later : g.S.Source.faults l.fn.source ≤ g.S.Source.faults l.source;
  seen : IsAfter l.seen (take l.done (held_bytes l.self));
  held : l.done ≤ length (held_bytes l.self);
  short : l.done < 16384;
}

abbrev pub decreases-reading : goal.decreases-reading
decreases-reading g l = 16384 - length (held_bytes l.self)
