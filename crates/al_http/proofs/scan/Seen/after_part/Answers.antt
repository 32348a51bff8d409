use Rattle.std.proofs.Common.{◌++◌, take, drop, append_assoc, ◌≢◌}
use Rattle.std.proofs.lemmas.List.{take-append-drop}
use Rattle.std.proofs.lemmas.List.Elements.{All-drop, recursion_from_All}
use Rattle.al_http.specs.Blocks.{line_feed}
use Rattle.al_http.proofs.ScanLemmas.{text_stays}
use Rattle.al_http.proofs.scan.Seen.after_part.Goals as goal

pub returns-in-Text : goal.returns-in-Text
returns-in-Text c = λ front seen.
    let bytes = c.args.bytes.now in
    let i = c.loop-byte.byte-index in
    let rest = recursion_from_All (λ b. b ≢ line_feed) (drop i bytes) (All-drop (λ b. b ≢ line_feed) i bytes c.requires) in
    rw (append_assoc front (take i bytes) (drop i bytes), take-append-drop i bytes)
    at (text_stays (front ++ take i bytes) (drop i bytes) (rw c.in-Text.is at (c.loop-byte.invariant front seen)) rest)
