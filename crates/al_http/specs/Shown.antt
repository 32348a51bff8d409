-- What a request value is.
use Rattle.std.specs.Prelude.{ℕ, List, map}
use Rattle.httparse.specs.declared.spans.HeaderSpan.{HeaderSpan}
use Rattle.httparse.specs.declared.spans.RequestSpans.{RequestSpans}
use Rattle.httparse.specs.Spans.{span_bytes, header_bytes}
use Rattle.al_http.specs.declared.request.HttpRequest.{HttpRequest}
use Rattle.al_http.specs.Requests.{RequestMessage}

-- the request with that head, of which the spans cover the parts, and that body
abbrev pub message_at : List ℕ → List HeaderSpan → RequestSpans → List ℕ → RequestMessage
message_at block headers head body =
    record {
      method = span_bytes block head.method;
      target = span_bytes block head.path;
      minor = head.version;
      fields = map (header_bytes block) headers;
      body = body;
    }

-- the request that the value shows
abbrev pub message_of : HttpRequest → RequestMessage
message_of request = message_at request.block.now request.headers.now request.head request.body.now
