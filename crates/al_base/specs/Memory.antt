-- What the objects of the outside that lie in memory hold.
use Rattle.std.specs.Prelude.{ℕ, ◌+◌, ◌-◌, ◌==◌, min, Bool, true, if◌then◌else◌, List, ◌++◌, length, take, drop, slice_get, unwrap_or, Result, Ok, Err}
use Rattle.std.specs.List.{list_any}
use Rattle.al_base.specs.Outside.{last_count}
use Rattle.al_base.specs.declared.outside.ReadFault.{ReadFault}
use Rattle.al_base.specs.declared.outside.WriteFault.{WriteFault}

-- one more, up to the last value of a count
abbrev pub count_after : ℕ → ℕ
count_after n = min (n + 1) last_count

-- The calls that are to fail, by their numbers from 1 on, how many calls were made, and how many of them failed.
pub record PlanView : Type 0 where
  pub fails : List ℕ
  pub calls : ℕ
  pub faults : ℕ

-- whether the next call is to fail
abbrev pub fails_next : PlanView → Bool
fails_next p = list_any (λ planned. planned == count_after p.calls) p.fails

-- the next call was made, and failed or didn't
abbrev pub after_call : PlanView → Bool → PlanView
after_call p failed = record { fails = p.fails; calls = count_after p.calls; faults = if failed then count_after p.faults else p.faults }

-- A source in memory: the bytes that it still gives, and the greatest size of each of its first reads.
pub record SourceView : Type 0 where
  pub left : List ℕ
  pub pieces : List ℕ
  pub plan : PlanView

-- how many bytes the next read gives into a buffer of this size
abbrev pub read_size : SourceView → ℕ → ℕ
read_size s size = min (min size (length s.left)) (unwrap_or (slice_get s.pieces s.plan.calls) size)

-- what the next read into a buffer of this size answers
abbrev pub read_answer : SourceView → ℕ → Result ℕ ReadFault
read_answer s size = if fails_next s.plan then Err (record {}) else Ok (read_size s size)

-- the source after it
abbrev pub after_read : SourceView → ℕ → SourceView
after_read s size = record {
  left = if fails_next s.plan then s.left else drop (read_size s size) s.left;
  pieces = s.pieces;
  plan = after_call s.plan (fails_next s.plan);
}

-- A sink in memory: the bytes that it holds, and how many it can hold.
pub record SinkView : Type 0 where
  pub held : List ℕ
  pub room : ℕ
  pub plan : PlanView

-- whether the next write fails: it is planned to, or no room is left
abbrev pub refuses_next : SinkView → Bool
refuses_next s = if fails_next s.plan then true else (s.room - length s.held == 0)

-- how many bytes of a piece of this length the next write takes
abbrev pub write_size : SinkView → ℕ → ℕ
write_size s size = min size (s.room - length s.held)

-- what the next write of a piece of this length answers
abbrev pub write_answer : SinkView → ℕ → Result ℕ WriteFault
write_answer s size = if refuses_next s then Err (record {}) else Ok (write_size s size)

-- the sink after it
abbrev pub after_write : SinkView → List ℕ → SinkView
after_write s piece = record {
  held = if refuses_next s then s.held else s.held ++ take (write_size s (length piece)) piece;
  room = s.room;
  plan = after_call s.plan (refuses_next s);
}
