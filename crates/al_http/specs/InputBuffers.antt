-- What the buffer of a framer holds and gives.
use Rattle.std.specs.Prelude.{◌≡◌, ℕ, ◌≤◌, List, length, take, slice_range, vec_len, Option, Some, None, Result, Ok, Err, IfSome}
use Rattle.std.specs.Io.KnownBytes.{Keeps}
use Rattle.httparse.specs.Spans.{IsRequestWithin}
use Rattle.al_http.specs.declared.input_buffer.InputBuffer.{InputBuffer}
use Rattle.al_http.specs.declared.input_buffer.Extent.{Extent}
use Rattle.al_http.specs.declared.framer.Stop.{Stop}
use Rattle.al_http.specs.Blocks.{IsBlock}
use Rattle.al_http.specs.Requests.{RequestMessage, head_limit}
use Rattle.al_http.specs.Ends.{HasEnded}
use Rattle.al_http.specs.Shown.{message_at}
use Rattle.al_http.specs.Moves.{TakesRequest, Stops}

-- the bytes that were read and not yet given
abbrev pub held_bytes : InputBuffer → List ℕ
held_bytes buffer = slice_range buffer.bytes.items buffer.start buffer.filled

-- the block of the head of that extent
abbrev pub block_on : InputBuffer → Extent → List ℕ
block_on buffer extent = slice_range buffer.bytes.items extent.start extent.body

-- the request of that extent
abbrev pub message_on : InputBuffer → Extent → RequestMessage
message_on buffer extent =
    message_at (block_on buffer extent) (take extent.head.headers buffer.spans.items) extent.head (slice_range buffer.bytes.items extent.body extent.end)

-- the extent lies in the buffer, and the parts of its head in its block
pub record IsExtentOn (buffer : InputBuffer) (extent : Extent) : Type 0 where
  pub head_ordered : extent.start ≤ extent.body
  pub body_ordered : extent.body ≤ extent.end
  pub fits : extent.end ≤ vec_len buffer.bytes
  pub within : IsRequestWithin (block_on buffer extent) buffer.spans.items extent.head
  pub whole : extent.head.len ≡ length (block_on buffer extent)

-- a search for a block found its length, or how the stream ends
abbrev pub Finds : List ℕ → Option (List ℕ) → Result (Option ℕ) Stop → Type 0
Finds held stream (Ok (Some len)) = (len ≤ length held) × (len ≤ head_limit) × IsBlock (take len held)
Finds held stream (Ok None) = IfSome stream HasEnded
Finds held stream (Err stop) = Stops stop stream

-- the stream lost the request of that extent, or it stayed, and ends as the answer says
abbrev pub Takes : InputBuffer → Option (List ℕ) → Option (List ℕ) → Result Extent Stop → Type 0
Takes buffer old new (Ok extent) = IsExtentOn buffer extent × TakesRequest old new (message_on buffer extent)
Takes buffer old new (Err stop) = Keeps old new × Stops stop old

-- the same, or the stream has ended
abbrev pub Serves : InputBuffer → Option (List ℕ) → Option (List ℕ) → Result (Option Extent) Stop → Type 0
Serves buffer old new (Ok (Some extent)) = Takes buffer old new (Ok extent)
Serves buffer old new (Ok None) = Keeps old new × IfSome old HasEnded
Serves buffer old new (Err stop) = Takes buffer old new (Err stop)
