-- How many lines a head has: that of the request, and one for each field.
use Rattle.std.proofs.Common.{◌≡◌, ℕ, ◌+◌, ◌-◌, ◌≤◌, Bool, true, false, ◌==◌, List, [], ◌∷◌, ◌++◌, length, take, drop, None, Some, refl, sym, ◌∙◌, ap, append_assoc, arith, codes, cond, nat_lt}
use Rattle.std.specs.List.{AllByRecursion, AllPass, count_by, position, position_or_len, slice_range, flat_map}
use Rattle.std.proofs.lemmas.Bool.Decides.{nat_tests}
use Rattle.std.proofs.lemmas.List.{append-nil, drop-drop, drop_all, length-take, length-map}
use Rattle.std.proofs.lemmas.List.Sums.{sum_by-append, sum_by-cons}
use Rattle.std.proofs.lemmas.List.Elements.{recursion_from_All}
use Rattle.std.proofs.lemmas.Slice.{between_to_end}
use Rattle.httparse.specs.declared.spans.HeaderSpan.{HeaderSpan}
use Rattle.httparse.specs.declared.spans.RequestSpans.{RequestSpans}
use Rattle.httparse.specs.Grammar.{LineEnd, crlf, lf, print_end, print_blank, print_version, Field, IsField, IsToken, print_field, print_section, is_token_byte, is_uri_byte, is_value_byte, RequestHead, IsRequestHead, print_request}
use Rattle.httparse.specs.Spans.{header_bytes, name_and_value, IsRequestAt, IsRequestOf}
use Rattle.al_http.specs.Blocks.{line_feed, carriage_return, is_line_byte, from_first_line, line_count, IsBlock}
use Rattle.al_http.specs.Requests.{line_limit, IsHead}

-- the LFs of a text
abbrev feeds : List ℕ → ℕ
feeds text = count_by (λ b. b == line_feed) text

both : (xs ys : List ℕ) → feeds (xs ++ ys) ≡ feeds xs + feeds ys
both xs ys = sum_by-append (λ b. cond (b == line_feed) 1 0) xs ys

one_more : (x : ℕ) (xs : List ℕ) → feeds (x ∷ xs) ≡ cond (x == line_feed) 1 0 + feeds xs
one_more x xs = sum_by-cons (λ b. cond (b == line_feed) 1 0) x xs

-- text of bytes that aren't LF has none
none_of : (test : ℕ → Bool) → test line_feed ≡ false → (xs : List ℕ) → AllByRecursion (λ b. test b ≡ true) xs → feeds xs ≡ 0
none_of test other [] all = refl
none_of test other (x ∷ xs) all = one_more x xs ∙ rw (none_of test other xs all.1) (by (x == line_feed) refl)
  where
    by : (is : Bool) → (x == line_feed) ≡ is → cond (x == line_feed) 1 0 + 0 ≡ 0
    by true is = let same : x ≡ line_feed = grind (arith, nat_tests) in absurd (let yes = all.0 in cc (same, other))
    by false is = rw is refl

none_in : (test : ℕ → Bool) → test line_feed ≡ false → (xs : List ℕ) → AllPass test xs → feeds xs ≡ 0
none_in test other xs all = none_of test other xs (recursion_from_All (λ b. test b ≡ true) xs all)

token_no_feed : is_token_byte line_feed ≡ false
unfolding is_token_byte
token_no_feed = refl

token_no_return : is_token_byte carriage_return ≡ false
unfolding is_token_byte
token_no_return = refl

end_feeds : (end : LineEnd) → feeds (print_end end) ≡ 1
end_feeds crlf = refl
end_feeds lf = refl

-- a field is a line
field_feeds : (f : Field) → IsField f → feeds (print_field f) ≡ 1
field_feeds f is =
    let name = none_in is_token_byte token_no_feed f.name is.name.1 in
    let raw = none_in is_value_byte refl f.raw is.raw in
    rw (both (f.name ++ 58 ∷ f.raw) (print_end f.end), both f.name (58 ∷ f.raw), one_more 58 f.raw, name, raw, end_feeds f.end) refl

fields_feeds : (fields : List Field) → AllByRecursion IsField fields → feeds (flat_map print_field fields) ≡ length fields
fields_feeds [] all = refl
fields_feeds (f ∷ fields) all =
    rw (both (print_field f) (flat_map print_field fields), field_feeds f all.0, fields_feeds fields all.1) (omega arith)

drop_one : (x : ℕ) (xs : List ℕ) (n : ℕ) → drop (1 + n) (x ∷ xs) ≡ drop n xs
drop_one x xs n = sym (drop-drop n 1 (x ∷ xs))

-- the end of an empty line is no text of a line
skip_end : (end : LineEnd) (rest : List ℕ) → from_first_line (print_end end ++ rest) ≡ from_first_line rest
skip_end crlf rest = drop_one 13 (10 ∷ rest) (1 + position_or_len is_line_byte rest) ∙ drop_one 10 rest (position_or_len is_line_byte rest)
skip_end lf rest = drop_one 10 rest (position_or_len is_line_byte rest)

skip_blank : (ends : List LineEnd) (rest : List ℕ) → from_first_line (print_blank ends ++ rest) ≡ from_first_line rest
skip_blank [] rest = refl
skip_blank (end ∷ ends) rest =
    ap from_first_line (append_assoc (print_end end) (print_blank ends) rest) ∙ skip_end end (print_blank ends ++ rest) ∙ skip_blank ends rest

-- the first byte of a token is text of a line
token_starts : (token rest : List ℕ) → IsToken token → from_first_line (token ++ rest) ≡ token ++ rest
token_starts [] rest is = absurd (omega (arith, is.0))
token_starts (b ∷ token) rest is = rw (text (b == line_feed) (b == carriage_return) refl refl) refl
  where
    passes : is_token_byte b ≡ true
    passes = (recursion_from_All (λ x. is_token_byte x ≡ true) (b ∷ token) is.1).0

    text : (feed return : Bool) → (b == line_feed) ≡ feed → (b == carriage_return) ≡ return → is_line_byte b ≡ true
    text true return f r = let same : b ≡ line_feed = grind (arith, nat_tests) in absurd (cc (passes, same, token_no_feed))
    text false true f r = let same : b ≡ carriage_return = grind (arith, nat_tests) in absurd (cc (passes, same, token_no_return))
    text false false f r = rw (f, r) refl

-- what follows the method, the target, and the version
abbrev behind_version : RequestHead → List ℕ
behind_version h = print_end h.line_end ++ (flat_map print_field h.fields ++ print_end h.last)

abbrev behind_target : RequestHead → List ℕ
behind_target h = (32 ∷ print_version h.minor) ++ behind_version h

abbrev behind_method : RequestHead → List ℕ
behind_method h = (32 ∷ h.target) ++ behind_target h

head_feeds : (h : RequestHead) → IsRequestHead h → feeds (h.method ++ behind_method h) ≡ length h.fields + 2
head_feeds h is =
    let method = none_in is_token_byte token_no_feed h.method is.method.1 in
    let target = none_in is_uri_byte refl h.target is.target.1 in
    let fields = fields_feeds h.fields (recursion_from_All IsField h.fields is.fields) in
    let last : feeds (behind_version h) ≡ length h.fields + 2 =
    rw (both (print_end h.line_end) (flat_map print_field h.fields ++ print_end h.last), both (flat_map print_field h.fields) (print_end h.last), end_feeds h.line_end, end_feeds h.last, fields) (omega arith) in
    let third : feeds (behind_target h) ≡ length h.fields + 2 =
    rw (both (32 ∷ print_version h.minor) (behind_version h), one_more 32 (print_version h.minor), version_feeds h.minor, last) (omega arith) in
    let second : feeds (behind_method h) ≡ length h.fields + 2 =
    rw (both (32 ∷ h.target) (behind_target h), one_more 32 h.target, target, third) (omega arith) in
    rw (both h.method (behind_method h), method, second) (omega arith)
  where
    digit : (minor : ℕ) → (48 + minor == line_feed) ≡ false
    digit minor = grind (arith, nat_tests)

    version_feeds : (minor : ℕ) → feeds (print_version minor) ≡ 0
    version_feeds minor = both (codes "HTTP/1.") ((48 + minor) ∷ []) ∙ rw (one_more (48 + minor) [], digit minor) refl

regroup : (a b c d e f : List ℕ) → ((((a ++ b) ++ c) ++ d) ++ e) ++ f ≡ a ++ (b ++ (c ++ (d ++ (e ++ f))))
regroup a b c d e f = simp append_assoc

-- a block that is the text of a head has a line for the request and one for each field
lines_of : (block : List ℕ) (h : RequestHead) → IsRequestHead h → block ≡ print_request h → line_count block ≡ length h.fields + 1
unfolding print_request
lines_of block h is text =
    let parts : block ≡ print_blank h.blank ++ (h.method ++ behind_method h) = text ∙ regroup (print_blank h.blank) h.method (32 ∷ h.target) (32 ∷ print_version h.minor) (print_end h.line_end) (print_section h.fields h.last) in
    let first : from_first_line block ≡ h.method ++ behind_method h =
    ap from_first_line parts ∙ skip_blank h.blank (h.method ++ behind_method h) ∙ token_starts h.method (behind_method h) is.method in
    let feeds_are = head_feeds h is in
    rw (first, feeds_are) (omega arith)

field_count : (block : List ℕ) (spans : List HeaderSpan) (r : RequestSpans) (h : RequestHead) → length spans ≤ 64 → IsRequestAt block spans r h → length h.fields ≤ 64
field_count block spans r h room at =
    let same = ap length at.fields in
    omega (arith, same, length-map (take r.headers spans) (header_bytes block), length-map h.fields name_and_value, length-take r.headers spans)

-- a block that was read as a head to its end is one, with 65 lines at most
pub head_here : (block : List ℕ) (spans : List HeaderSpan) (r : RequestSpans) → IsBlock block → length block ≤ 16384 → length spans ≤ 64 → r.len ≡ length block → IsRequestOf block spans r
    → (h : RequestHead) × IsHead block h × IsRequestAt block spans r h
head_here block spans r is_block short room whole (h, at) =
    let none : drop r.len block ≡ [] = rw whole (drop_all (length block) block (omega arith)) in
    let text : block ≡ print_request h = at.reads.1 ∙ ap (λ t. print_request h ++ t) none ∙ append-nil _ in
    let few = field_count block spans r h room at in
    let lines = lines_of block h at.reads.0 text in
    (h, record { is_block = is_block; short = short; few_lines = omega arith; reads = rw none at at.reads; few_fields = few }, at)

more_lines : (ends : ℕ) → nat_lt 66 ends ≡ nat_lt 65 (ends - 1)
more_lines ends = grind (arith, nat_tests)

-- the lines of a block are the LFs from its first text on, but for the last
pub lines_at : (block : List ℕ) (start ends : ℕ) → position is_line_byte block ≡ Some start → ends ≡ count_by (λ b. b == line_feed) (slice_range block start (length block)) → nat_lt 66 ends ≡ nat_lt line_limit (line_count block)
lines_at block start ends found count =
    let is : position_or_len is_line_byte block ≡ start = grind (arith, nat_tests) in
    let within : start ≤ length block = grind (arith, nat_tests) in
    let same : ends ≡ feeds (drop start block) = count ∙ ap feeds (between_to_end block start (length block) (omega arith)) in
    rw (is, ← same) (more_lines ends)

-- without text there is none
pub no_lines : (block : List ℕ) → position is_line_byte block ≡ None → false ≡ nat_lt line_limit (line_count block)
no_lines block none =
    let past : length block ≤ position_or_len is_line_byte block = grind (arith, nat_tests) in
    rw (drop_all (position_or_len is_line_byte block) block past) refl
