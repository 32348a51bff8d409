-- The request whose head and body stand at the front.
use Rattle.std.proofs.Common.{◌≡◌, ℕ, ◌+◌, ◌≤◌, ◌<◌, ◌==◌, ◌&&◌, cond, List, [], ◌∷◌, ◌++◌, length, take, drop, Bool, true, false, if◌then◌else◌, Option, None, Result, Ok, Err, refl, sym, ◌∙◌, ap, inl, inr, append_assoc, arith}
use Rattle.std.specs.Prelude.{IfSome}
use Rattle.std.proofs.lemmas.Bool.Decides.{nat_tests}
use Rattle.std.proofs.lemmas.List.{take-append-drop, length-take, length-take-le, length-drop, drop-drop}
use Rattle.httparse.specs.declared.spans.HeaderSpan.{HeaderSpan}
use Rattle.httparse.specs.declared.spans.RequestSpans.{RequestSpans}
use Rattle.al_http.specs.declared.framer.Stop.{Stop}
use Rattle.al_http.specs.declared.framer.Stop.TheVariants.{Cut}
use Rattle.httparse.specs.Grammar.{LineEnd, crlf, lf, print_blank}
use Rattle.al_http.specs.Blocks.{line_feed, carriage_return, IsBlock, HoldsNoBlock, AreEmptyLines}
use Rattle.al_http.specs.Scans.{are_line_ends}
use Rattle.al_http.specs.declared.rejection.Rejection.{Rejection}
use Rattle.al_http.specs.declared.rejection.Rejection.TheVariants.{Bad, HeadTooBig, BodyTooBig, Unimplemented}
use Rattle.al_http.specs.Requests.{FirstRequest, head_limit}
use Rattle.al_http.specs.Ends.{HasEnded, RejectsBlock, HasRejectedBlock, IsRejected, IsCut}
use Rattle.al_http.specs.Moves.{IsAll, stop_of, Stops}
use Rattle.al_http.specs.InputBuffers.{Finds}
use Rattle.al_http.specs.Shown.{message_at}
use Rattle.al_http.specs.Heads.{ReadsHead}
use Rattle.al_http.proofs.StreamLemmas.{front_kept, all_has}

-- bytes are a front of n, then m more, and the rest
three_parts : (xs rest : List ℕ) (n m : ℕ) → xs ++ rest ≡ take n xs ++ (take m (drop n xs) ++ (drop (n + m) xs ++ rest))
three_parts xs rest n m =
    ap (λ t. t ++ rest) (sym (take-append-drop n xs ∙ refl) ∙ ap (λ t. take n xs ++ t) (sym (take-append-drop m (drop n xs)) ∙ ap (λ t. take m (drop n xs) ++ t) (drop-drop m n xs)))
    ∙ append_assoc (take n xs) _ rest ∙ ap (λ t. take n xs ++ t) (append_assoc (take m (drop n xs)) _ rest)

-- the head and the body that were read are the first request
pub first_request : (held more rest : List ℕ) (len size : ℕ) (spans : List HeaderSpan) (head : RequestSpans) → ReadsHead (take len held) spans head size
    → len ≤ length held → take (length held) more ≡ held → len + size ≤ length more
    → FirstRequest (more ++ rest) (message_at (take head.len more) (take head.headers spans) head (take size (drop head.len more))) (drop (head.len + size) more ++ rest)
first_request held more rest len size spans head reads within kept full =
    let len_is : head.len ≡ len = reads.whole ∙ length-take-le len held within in
    let block : take head.len more ≡ take len held = ap (λ n. take n more) len_is ∙ front_kept held more len within kept in
    let left : size ≤ length (drop head.len more) = omega (arith, length-drop head.len more) in
    let body : length (take size (drop head.len more)) ≡ size = length-take-le size (drop head.len more) left in
    record {
      text = take head.len more;
      head = reads.tree;
      parts = three_parts more rest head.len size;
      is_head = rw block reads.is_head;
      frames = rw body reads.frames;
      says = rw (block, reads.at.method, reads.at.path, reads.at.version, reads.at.fields) refl;
    }

-- a rejected block is what rejects the bytes
by_block : (rejection : Rejection) (bytes : List ℕ) → HasRejectedBlock rejection bytes → IsRejected rejection bytes
by_block HeadTooBig bytes block = inr block
by_block Bad bytes block = block
by_block Unimplemented bytes block = block
by_block BodyTooBig bytes block = block

-- the block at the front is rejected
pub rejected_block : (rejection : Rejection) (held more : List ℕ) (len : ℕ) → IsBlock (take len held) → len ≤ head_limit → RejectsBlock rejection (take len held) → IsRejected rejection (held ++ more)
rejected_block rejection held more len is_block short rejects = by_block rejection (held ++ more) (record {
  text = take len held;
  rest = drop len held ++ more;
  parts = ap (λ t. t ++ more) (sym (take-append-drop len held)) ∙ append_assoc (take len held) (drop len held) more;
  is_block = is_block;
  short = omega (arith, short, length-take len held);
  rejected = rejects;
})

-- and that is its stop
pub stops_so : (rejection : Rejection) (stream : Option (List ℕ)) → IfSome stream (IsRejected rejection) → Stops (stop_of rejection) stream
stops_so Bad stream is = is
stops_so HeadTooBig stream is = is
stops_so BodyTooBig stream is = is
stops_so Unimplemented stream is = is

-- the head that was read lacks some of its body
pub cut_body : (held more : List ℕ) (len size : ℕ) (spans : List HeaderSpan) (head : RequestSpans) → ReadsHead (take len held) spans head size
    → len ≤ length held → take (length held) more ≡ held → length more < len + size → IsCut more
cut_body held more len size spans head reads within kept short =
    let block = front_kept held more len within kept in
    let longer : length held ≤ length more = omega (arith, ap length kept, length-take (length held) more) in
    inr (record {
      text = take len more;
      head = reads.tree;
      part = drop len more;
      size = size;
      parts = sym (take-append-drop len more);
      is_head = rw block reads.is_head;
      frames = reads.frames;
      lacks = omega (arith, length-drop len more);
    })

-- bytes that pass as ends of lines are such ends, behind a CR or not
abbrev AreEnds : List ℕ → Type 0
AreEnds bytes = (are_line_ends false bytes ≡ true → AreEmptyLines bytes) × (are_line_ends true bytes ≡ true → AreEmptyLines (carriage_return ∷ bytes))

empty_lines : (bytes : List ℕ) → AreEnds bytes
empty_lines [] = (λ _. ([], refl), λ ends. absurd (cc (ends)))
empty_lines (b ∷ bytes) = let more = empty_lines bytes in (outside (b == line_feed) (b == carriage_return) refl refl more, behind (b == line_feed) refl more)
  where
    outside : (feed return : Bool) → (b == line_feed) ≡ feed → (b == carriage_return) ≡ return → AreEnds bytes → cond feed (are_line_ends false bytes) (return && true && are_line_ends true bytes) ≡ true → AreEmptyLines (b ∷ bytes)
    outside true return f r more ends = let rest = more.0 ends in let is : b ≡ line_feed = grind (arith, nat_tests) in (lf ∷ rest.0, rw is (ap (λ t. line_feed ∷ t) rest.1))
    outside false true f r more ends = let is : b ≡ carriage_return = grind (arith, nat_tests) in rw is (more.1 ends)
    outside false false f r more ends = absurd (cc (ends))

    behind : (feed : Bool) → (b == line_feed) ≡ feed → AreEnds bytes → cond feed (are_line_ends false bytes) ((b == carriage_return) && false && are_line_ends false bytes) ≡ true → AreEmptyLines (carriage_return ∷ b ∷ bytes)
    behind true f more ends = let rest = more.0 ends in let is : b ≡ line_feed = grind (arith, nat_tests) in (crlf ∷ rest.0, rw is (ap (λ t. carriage_return ∷ line_feed ∷ t) rest.1))
    behind false f more ends = absurd (no_end (b == carriage_return) ends)
      where
        no_end : (return : Bool) → (return && false && are_line_ends false bytes) ≡ true → ⊥
        no_end true e = cc (e)
        no_end false e = cc (e)

-- ends of lines pass
line_ends : (ends : List LineEnd) → are_line_ends false (print_blank ends) ≡ true
line_ends [] = refl
line_ends (crlf ∷ ends) = line_ends ends
line_ends (lf ∷ ends) = line_ends ends

-- a stream of which all is held, without a block, ends as these bytes do
pub ends_so : (held : List ℕ) (stream : Option (List ℕ)) (result : Result (Option ℕ) Stop) → result ≡ (if are_line_ends false held then Ok None else Err Cut)
    → length held < head_limit → HoldsNoBlock held → IsAll held stream → Finds held stream result
ends_so held stream result answer short no_block all = rw answer (by_lines (are_line_ends false held) refl)
  where
    by_lines : (blank : Bool) → are_line_ends false held ≡ blank → Finds held stream (if blank then Ok None else Err Cut)
    by_lines true is = all_has HasEnded held stream all (record { short = short; empty_lines = (empty_lines held).0 is })
    by_lines false is = all_has IsCut held stream all (inl (record { short = short; no_block = no_block; some_text = λ lines. cc (is, ap (are_line_ends false) lines.1, line_ends lines.0) }))
