-- What a head was read as.
use Rattle.std.specs.Prelude.{◌≡◌, ℕ, List, length, Ok}
use Rattle.httparse.specs.declared.spans.HeaderSpan.{HeaderSpan}
use Rattle.httparse.specs.declared.spans.RequestSpans.{RequestSpans}
use Rattle.httparse.specs.Grammar.{RequestHead}
use Rattle.httparse.specs.Spans.{IsRequestWithin, IsRequestAt}
use Rattle.al_http.specs.Requests.{fields_of, framing_of, IsHead}

-- the block is a head with its parts at those spans, and frames a body of that size
pub record ReadsHead (block : List ℕ) (spans : List HeaderSpan) (head : RequestSpans) (size : ℕ) : Type 0 where
  pub within : IsRequestWithin block spans head
  pub whole : head.len ≡ length block
  pub tree : RequestHead
  pub is_head : IsHead block tree
  pub at : IsRequestAt block spans head tree
  pub frames : framing_of (fields_of tree) ≡ Ok size
