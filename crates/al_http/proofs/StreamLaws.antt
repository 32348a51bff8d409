-- A stream has one list of requests and one ending, and the calls of a framer run through it.
use Rattle.std.proofs.Common.{◌≡◌, ℕ, ◌+◌, ◌-◌, ◌≤◌, ◌<◌, ◌⊎◌, Bool, true, false, ◌||◌, List, [], ◌∷◌, ◌++◌, length, take, drop, Option, None, Some, Result, Ok, Err, refl, sym, ◌∙◌, ap, inl, inr, arith}
use Rattle.std.specs.List.{list_any}
use Rattle.std.specs.Prelude.{IfSome}
use Rattle.std.proofs.Math.Seq.{take-append-add}
use Rattle.std.proofs.lemmas.List.{append_cancel_left, append-nil, length-append, take_at, drop_at}
use Rattle.std.proofs.lemmas.List.Folds.{list_any-append}
use Rattle.httparse.specs.Grammar.{LineEnd, crlf, lf, print_end, print_blank, RequestHead}
use Rattle.httparse.proofs.GrammarLemmas.{request_unique}
use Rattle.al_http.specs.declared.framer.Stop.{Stop}
use Rattle.al_http.specs.declared.framer.Stop.TheVariants.{ReadFault}
use Rattle.al_http.specs.declared.framer.Stop.TheVariants as stops
use Rattle.al_http.specs.declared.rejection.Rejection.{Rejection}
use Rattle.al_http.specs.declared.rejection.Rejection.TheVariants.{Bad, HeadTooBig, BodyTooBig, Unimplemented}
use Rattle.al_http.specs.declared.request.HttpRequest.{HttpRequest}
use Rattle.al_http.specs.Blocks.{is_line_byte, HasLineByte, IsBlock, HoldsNoBlock, AreEmptyLines, line_count}
use Rattle.al_http.specs.Requests.{RequestMessage, line_limit, fields_of, framing_of, is_last, IsHead, FirstRequest}
use Rattle.al_http.specs.Ends.{HasEnded, IsTooLong, IsNoHead, IsFramedAs, RejectsBlock, HasRejectedBlock, IsRejected, LacksBody, IsCut}
use Rattle.al_http.specs.Streams.{Ending, Ended, Closed, Limit, Cut, Rejected, Cuts, GoOn, AreClosed, RestEnds, EndsAs, request_limit, IsStream, HasGiven, IsWhole}
use Rattle.al_http.specs.Shown.{message_of}
use Rattle.al_http.specs.Moves.{Moves, Stops}
use Rattle.al_http.specs.Told.{ending_at}

-- of two fronts of one list, one is a front of the other
fronts : (a b r q : List ℕ) → a ++ r ≡ b ++ q → ((m : List ℕ) × (b ≡ a ++ m)) ⊎ ((m : List ℕ) × (a ≡ b ++ m))
fronts [] b r q e = inl (b, refl)
fronts (x ∷ a) [] r q e = inr (x ∷ a, refl)
fronts (x ∷ a) (y ∷ b) r q e = elim (fronts a b r q (cc)) [
  | inl found ↦ inl (found.0, cc (found.1))
  | inr found ↦ inr (found.0, cc (found.1))
]

no_more : (a m : List ℕ) → m ≡ [] → a ≡ a ++ m
no_more a m none = rw none (sym (append-nil a))

-- bytes begin with one block at most
block_unique : (a b r q : List ℕ) → IsBlock a → IsBlock b → a ++ r ≡ b ++ q → (a ≡ b) × (r ≡ q)
block_unique a b r q first second e = let same = equal (fronts a b r q e) in (same, append_cancel_left a r q (e ∙ ap (λ t. t ++ q) (sym same)))
  where
    equal : ((m : List ℕ) × (b ≡ a ++ m)) ⊎ ((m : List ℕ) × (a ≡ b ++ m)) → a ≡ b
    equal (inl found) = no_more a found.0 (second.shortest a found.0 found.1 first.ends) ∙ sym found.1
    equal (inr found) = found.1 ∙ sym (no_more b found.0 (first.shortest b found.0 found.1 second.ends))

-- a block is one head at most
head_unique : (block : List ℕ) (a b : RequestHead) → IsHead block a → IsHead block b → a ≡ b
head_unique block a b first second = (request_unique block a b [] [] first.reads second.reads).0

-- bytes begin with one request at most
pub first_unique : (bytes : List ℕ) (a b : RequestMessage) (rest other : List ℕ) → FirstRequest bytes a rest → FirstRequest bytes b other → (a ≡ b) × (rest ≡ other)
first_unique bytes a b rest other first second =
    let block = block_unique first.text second.text (a.body ++ rest) (b.body ++ other) first.is_head.is_block second.is_head.is_block (sym first.parts ∙ second.parts) in
    let head : first.head ≡ second.head = head_unique second.text first.head second.head (rw block.0 at first.is_head) second.is_head in
    let frames = rw head at first.frames in
    let size : length a.body ≡ length b.body = cc in
    let body : a.body ≡ b.body = sym (take_at a.body rest (length a.body) refl) ∙ ap (take (length a.body)) block.1 ∙ take_at b.body other (length a.body) (sym size) in
    let left : rest ≡ other = sym (drop_at a.body rest (length a.body) refl) ∙ ap (drop (length a.body)) block.1 ∙ drop_at b.body other (length a.body) (sym size) in
    (first.says ∙ rw (head, body) (sym second.says), left)

-- empty lines have no text
blank_none : (ends : List LineEnd) → list_any is_line_byte (print_blank ends) ≡ false
blank_none [] = refl
blank_none (end ∷ ends) = list_any-append is_line_byte (print_end end) (print_blank ends) ∙ rw (none end, blank_none ends) refl
  where
    none : (end : LineEnd) → list_any is_line_byte (print_end end) ≡ false
    none crlf = refl
    none lf = refl

-- a block has text of a line
block_line : (text rest : List ℕ) → IsBlock text → HasLineByte (text ++ rest)
block_line text rest block =
    let e = block.ends in
    rw (e.parts, list_any-append is_line_byte (e.front ++ e.end) rest, list_any-append is_line_byte e.front e.end, e.some_line) refl

blank_holds_none : (bytes text rest : List ℕ) → AreEmptyLines bytes → bytes ≡ text ++ rest → IsBlock text → ⊥
blank_holds_none bytes text rest (ends, printed) parts block =
    let some : HasLineByte bytes = rw parts (block_line text rest block) in cc (ap (list_any is_line_byte) printed, blank_none ends, some)

none_holds_none : (bytes text rest : List ℕ) → HoldsNoBlock bytes → bytes ≡ text ++ rest → IsBlock text → ⊥
none_holds_none bytes text rest none parts block = none.none text rest parts block.ends

-- a block within a front that holds none
long_holds_none : (bytes text rest : List ℕ) → IsTooLong bytes → bytes ≡ text ++ rest → IsBlock text → length text ≤ 16384 → ⊥
long_holds_none bytes text rest long parts block short =
    let size : length text + (16384 - length text) ≡ 16384 = omega arith in
    none_holds_none (take 16384 bytes) text (take (16384 - length text) rest) long.no_block
    (rw parts (ap (λ n. take n (text ++ rest)) (sym size) ∙ take-append-add text rest (16384 - length text))) block

-- the head of a first request that lacks some of its body
lacks_none : (bytes : List ℕ) (request : RequestMessage) (rest : List ℕ) → FirstRequest bytes request rest → LacksBody bytes → ⊥
lacks_none bytes request rest first lacks =
    let block = block_unique first.text lacks.text (request.body ++ rest) lacks.part first.is_head.is_block lacks.is_head.is_block (sym first.parts ∙ lacks.parts) in
    let head : first.head ≡ lacks.head = head_unique lacks.text first.head lacks.head (rw block.0 at first.is_head) lacks.is_head in
    let frames = rw head at first.frames in
    let size : length request.body ≡ lacks.size = cc in
    omega (arith, lacks.lacks, ap length block.1, length-append request.body rest)

-- a block is framed in one way at most
framed_unique : (block : List ℕ) (a b : Result ℕ Rejection) → IsFramedAs a block → IsFramedAs b block → a ≡ b
framed_unique block a b first second =
    sym first.framed ∙ ap (λ (h : RequestHead). framing_of (fields_of h)) (head_unique block first.head second.head first.is_head second.is_head) ∙ second.framed

-- a head that frames a body isn't rejected
accepted : (block : List ℕ) (size : ℕ) (rejection : Rejection) → IsFramedAs (Ok size) block → RejectsBlock rejection block → ⊥
accepted block size HeadTooBig framed many = omega (arith, framed.is_head.few_lines, many)
accepted block size Bad framed (inl none) = none.no_head framed.head framed.is_head
accepted block size Bad framed (inr other) = cc (framed_unique block (Ok size) (Err Bad) framed other)
accepted block size Unimplemented framed other = cc (framed_unique block (Ok size) (Err Unimplemented) framed other)
accepted block size BodyTooBig framed other = cc (framed_unique block (Ok size) (Err BodyTooBig) framed other)

-- the three causes for which a block is rejected
data Cause (block : List ℕ) (rejection : Rejection) : Type 0 where
  too_many : line_limit < line_count block → rejection ≡ HeadTooBig → Cause block rejection
  no_head : IsNoHead block → rejection ≡ Bad → Cause block rejection
  framed : IsFramedAs (Err rejection) block → Cause block rejection

cause : (block : List ℕ) (rejection : Rejection) → RejectsBlock rejection block → Cause block rejection
cause block HeadTooBig many = too_many many refl
cause block Bad (inl none) = no_head none refl
cause block Bad (inr is) = framed is
cause block Unimplemented is = framed is
cause block BodyTooBig is = framed is

same_cause : (block : List ℕ) (a b : Rejection) → Cause block a → Cause block b → a ≡ b
same_cause block a b (too_many many is) (too_many other too) = is ∙ sym too
same_cause block a b (too_many many is) (no_head none too) = absurd (omega (arith, many, none.few_lines))
same_cause block a b (too_many many is) (framed other) = absurd (omega (arith, many, other.is_head.few_lines))
same_cause block a b (no_head none is) (too_many many too) = absurd (omega (arith, many, none.few_lines))
same_cause block a b (no_head none is) (no_head other too) = is ∙ sym too
same_cause block a b (no_head none is) (framed other) = absurd (none.no_head other.head other.is_head)
same_cause block a b (framed other) (too_many many too) = absurd (omega (arith, many, other.is_head.few_lines))
same_cause block a b (framed other) (no_head none too) = absurd (none.no_head other.head other.is_head)
same_cause block a b (framed first) (framed second) = cc (framed_unique block (Err a) (Err b) first second)

-- bytes are rejected with too long a head, or for their block
long_or_block : (rejection : Rejection) (bytes : List ℕ) → IsRejected rejection bytes → (IsTooLong bytes × (rejection ≡ HeadTooBig)) ⊎ HasRejectedBlock rejection bytes
long_or_block HeadTooBig bytes (inl long) = inl (long, refl)
long_or_block HeadTooBig bytes (inr block) = inr block
long_or_block Bad bytes block = inr block
long_or_block Unimplemented bytes block = inr block
long_or_block BodyTooBig bytes block = inr block

-- bytes that begin with a head that frames a body aren't rejected
not_rejected : (bytes text rest : List ℕ) (head : RequestHead) (size : ℕ) (rejection : Rejection) → bytes ≡ text ++ rest → IsHead text head → framing_of (fields_of head) ≡ Ok size → IsRejected rejection bytes → ⊥
not_rejected bytes text rest head size rejection parts is_head frames is = elim (long_or_block rejection bytes is) [
  | inl long ↦ long_holds_none bytes text rest long.0 parts is_head.is_block is_head.short
  | inr bad ↦ (let block = block_unique text bad.text rest bad.rest is_head.is_block bad.is_block (sym parts ∙ bad.parts) in
      accepted bad.text size rejection (record { head = head; is_head = rw block.0 at is_head; framed = frames }) bad.rejected)
]

-- bytes are rejected for one cause at most
one_rejection : (bytes : List ℕ) (a b : Rejection) → IsRejected a bytes → IsRejected b bytes → a ≡ b
one_rejection bytes a b first second = by (long_or_block a bytes first) (long_or_block b bytes second)
  where
    by : (IsTooLong bytes × (a ≡ HeadTooBig)) ⊎ HasRejectedBlock a bytes → (IsTooLong bytes × (b ≡ HeadTooBig)) ⊎ HasRejectedBlock b bytes → a ≡ b
    by (inl long) (inl other) = long.1 ∙ sym other.1
    by (inl long) (inr bad) = absurd (long_holds_none bytes bad.text bad.rest long.0 bad.parts bad.is_block bad.short)
    by (inr bad) (inl long) = absurd (long_holds_none bytes bad.text bad.rest long.0 bad.parts bad.is_block bad.short)
    by (inr bad) (inr other) =
        let block = block_unique bad.text other.text bad.rest other.rest bad.is_block other.is_block (sym bad.parts ∙ other.parts) in
        same_cause other.text a b (cause other.text a (rw block.0 at bad.rejected)) (cause other.text b other.rejected)

pub no_end : (bytes : List ℕ) (request : RequestMessage) (rest : List ℕ) (ending : Ending) → FirstRequest bytes request rest → ¬ (RestEnds bytes ending)
no_end bytes request rest Limit first ends = ends
no_end bytes request rest Closed first ends = ends
no_end bytes request rest Ended first ends = blank_holds_none bytes first.text _ ends.empty_lines first.parts first.is_head.is_block
no_end bytes request rest Cut first (inl lacks) = none_holds_none bytes first.text _ lacks.no_block first.parts first.is_head.is_block
no_end bytes request rest Cut first (inr lacks) = lacks_none bytes request rest first lacks
no_end bytes request rest (Rejected rejection) first is = not_rejected bytes first.text _ first.head _ rejection first.parts first.is_head first.frames is

ended_or_cut : (bytes : List ℕ) → HasEnded bytes → IsCut bytes → ⊥
ended_or_cut bytes ended (inl lacks) = lacks.some_text ended.empty_lines
ended_or_cut bytes ended (inr lacks) = blank_holds_none bytes lacks.text _ ended.empty_lines lacks.parts lacks.is_head.is_block

ended_or_rejected : (bytes : List ℕ) (rejection : Rejection) → HasEnded bytes → IsRejected rejection bytes → ⊥
ended_or_rejected bytes rejection ended is = elim (long_or_block rejection bytes is) [
  | inl long ↦ omega (arith, ended.short, long.0.long)
  | inr bad ↦ blank_holds_none bytes bad.text _ ended.empty_lines bad.parts bad.is_block
]

cut_or_rejected : (bytes : List ℕ) (rejection : Rejection) → IsCut bytes → IsRejected rejection bytes → ⊥
cut_or_rejected bytes rejection (inl lacks) is = elim (long_or_block rejection bytes is) [
  | inl long ↦ omega (arith, lacks.short, long.0.long)
  | inr bad ↦ none_holds_none bytes bad.text _ lacks.no_block bad.parts bad.is_block
]
cut_or_rejected bytes rejection (inr lacks) is = not_rejected bytes lacks.text _ lacks.head _ rejection lacks.parts lacks.is_head lacks.frames is

pub one_end : (bytes : List ℕ) (a b : Ending) → RestEnds bytes a → RestEnds bytes b → a ≡ b
one_end bytes Limit b first second = absurd first
one_end bytes Closed b first second = absurd first
one_end bytes a Limit first second = absurd second
one_end bytes a Closed first second = absurd second
one_end bytes Ended Ended first second = refl
one_end bytes Ended Cut first second = absurd (ended_or_cut bytes first second)
one_end bytes Ended (Rejected rejection) first second = absurd (ended_or_rejected bytes rejection first second)
one_end bytes Cut Ended first second = absurd (ended_or_cut bytes second first)
one_end bytes Cut Cut first second = refl
one_end bytes Cut (Rejected rejection) first second = absurd (cut_or_rejected bytes rejection first second)
one_end bytes (Rejected rejection) Ended first second = absurd (ended_or_rejected bytes rejection second first)
one_end bytes (Rejected rejection) Cut first second = absurd (cut_or_rejected bytes rejection second first)
one_end bytes (Rejected a) (Rejected b) first second = ap Rejected (one_rejection bytes a b first second)

-- one list of requests is as far as the other, which has more, the first of them at the rest
record GoesFurther (requests others : List RequestMessage) (rest : List ℕ) : Type 0 where
  request : RequestMessage
  behind : List RequestMessage
  parts : others ≡ requests ++ request ∷ behind
  after : List ℕ
  first : FirstRequest rest request after

further_more : (a b : RequestMessage) (requests others : List RequestMessage) (rest : List ℕ) → a ≡ b → GoesFurther requests others rest → GoesFurther (a ∷ requests) (b ∷ others) rest
further_more a b requests others rest same goes = record { request = goes.request; behind = goes.behind; parts = cc (same, goes.parts); after = goes.after; first = goes.first }

cuts_apart : (bytes : List ℕ) (requests others : List RequestMessage) (rest left : List ℕ) → Cuts bytes requests rest → Cuts bytes others left
    → ((requests ≡ others) × (rest ≡ left)) ⊎ (GoesFurther requests others rest ⊎ GoesFurther others requests left)
cuts_apart bytes [] [] rest left a b = inl (refl, sym a ∙ b)
cuts_apart bytes [] (r ∷ others) rest left a b = inr (inl (record { request = r; behind = others; parts = refl; after = b.0; first = rw a at b.1 }))
cuts_apart bytes (q ∷ requests) [] rest left a b = inr (inr (record { request = q; behind = requests; parts = refl; after = a.0; first = rw b at a.1 }))
cuts_apart bytes (q ∷ requests) (r ∷ others) rest left a b =
    let one = first_unique bytes q r a.0 b.0 a.1 b.1 in
    elim (cuts_apart b.0 requests others rest left (rw one.1 at a.2) b.2) [
      | inl same ↦ inl (cc (one.0, same.0), same.1)
      | inr (inl goes) ↦ inr (inl (further_more q r requests others rest one.0 goes))
      | inr (inr goes) ↦ inr (inr (further_more r q others requests left (sym one.0) goes))
    ]

no_left : (a b : Bool) → (a || b) ≡ false → a ≡ false
no_left true b e = cc (e)
no_left false b e = refl

-- where none of some requests is last, none of the first ones is
go_on_front : (front back : List RequestMessage) → GoOn (front ++ back) → GoOn front
go_on_front front back on = no_left (list_any is_last front) (list_any is_last back) (sym (list_any-append is_last front back) ∙ on)

-- what stands before a final one begins with each front that is shorter than all
front_of_final : (earlier : List RequestMessage) (final : RequestMessage) (front : List RequestMessage) (y : RequestMessage) (back : List RequestMessage)
    → earlier ++ final ∷ [] ≡ front ++ y ∷ back → (more : List RequestMessage) × (earlier ≡ front ++ more)
front_of_final earlier final [] y back e = (earlier, refl)
front_of_final [] final (z ∷ front) y back e = absurd (no_nil front y back (let t : [] ≡ front ++ y ∷ back = cc in t))
  where
    no_nil : (front : List RequestMessage) (y : RequestMessage) (back : List RequestMessage) → [] ≡ front ++ y ∷ back → ⊥
    no_nil [] y back e = cc
    no_nil (z ∷ front) y back e = cc
front_of_final (x ∷ earlier) final (z ∷ front) y back e =
    let rest = front_of_final earlier final front y back cc in (rest.0, cc (rest.1))

-- where the final one is last, it isn't so that none is
closed_not_on : (requests : List RequestMessage) → AreClosed requests → GoOn requests → ⊥
closed_not_on requests closed on =
    let some : list_any is_last requests ≡ (list_any is_last closed.earlier || (is_last closed.final || false)) =
    ap (list_any is_last) closed.parts ∙ list_any-append is_last closed.earlier (closed.final ∷ []) in
    let none : false ≡ (false || (true || false)) = rw (closed.go_on, closed.last) at (sym on ∙ some) in
    cc

-- of the requests of a stream none but the final one is last, and those before it are fewer than the most
before_final : (front : List RequestMessage) (request : RequestMessage) (back : List RequestMessage) (rest : List ℕ) (ending : Ending)
    → EndsAs (front ++ request ∷ back) rest ending → GoOn front × (length front < request_limit)
before_final front request back rest Closed closed =
    let more = front_of_final closed.earlier closed.final front request back (sym closed.parts) in
    (go_on_front front more.0 (rw more.1 at closed.go_on), omega (arith, closed.few, ap length more.1, length-append front more.0))
before_final front request back rest Limit ends = (go_on_front front (request ∷ back) ends.0, omega (arith, ends.1, length-append front (request ∷ back)))
before_final front request back rest Ended ends = (go_on_front front (request ∷ back) ends.go_on, omega (arith, ends.few, length-append front (request ∷ back)))
before_final front request back rest Cut ends = (go_on_front front (request ∷ back) ends.go_on, omega (arith, ends.few, length-append front (request ∷ back)))
before_final front request back rest (Rejected rejection) ends = (go_on_front front (request ∷ back) ends.go_on, omega (arith, ends.few, length-append front (request ∷ back)))

-- where the requests go on, below the limit, it is what is left that ends
below : (requests : List RequestMessage) (rest : List ℕ) (ending : Ending) → GoOn requests → length requests < request_limit → EndsAs requests rest ending → RestEnds rest ending
below requests rest Closed on few ends = closed_not_on requests ends on
below requests rest Limit on few ends = omega (arith, few, ends.1)
below requests rest Ended on few ends = ends.rest_ends
below requests rest Cut on few ends = ends.rest_ends
below requests rest (Rejected rejection) on few ends = ends.rest_ends

not_further : (requests others : List RequestMessage) (rest left : List ℕ) (a b : Ending) → EndsAs requests rest a → EndsAs others left b → GoesFurther requests others rest → ⊥
not_further requests others rest left a b first second goes =
    let before = before_final requests goes.request goes.behind left b (rw goes.parts at second) in
    no_end rest goes.request goes.after a goes.first (below requests rest a before.0 before.1 first)

same_ends : (requests : List RequestMessage) (rest : List ℕ) (a b : Ending) → EndsAs requests rest a → EndsAs requests rest b → a ≡ b
same_ends requests rest Closed Closed first second = refl
same_ends requests rest Closed Limit first second = absurd (closed_not_on requests first second.0)
same_ends requests rest Closed Ended first second = absurd (closed_not_on requests first second.go_on)
same_ends requests rest Closed Cut first second = absurd (closed_not_on requests first second.go_on)
same_ends requests rest Closed (Rejected rejection) first second = absurd (closed_not_on requests first second.go_on)
same_ends requests rest Limit Closed first second = absurd (closed_not_on requests second first.0)
same_ends requests rest Limit Limit first second = refl
same_ends requests rest Limit Ended first second = absurd (omega (arith, first.1, second.few))
same_ends requests rest Limit Cut first second = absurd (omega (arith, first.1, second.few))
same_ends requests rest Limit (Rejected rejection) first second = absurd (omega (arith, first.1, second.few))
same_ends requests rest Ended b first second = one_end rest Ended b first.rest_ends (below requests rest b first.go_on first.few second)
same_ends requests rest Cut b first second = one_end rest Cut b first.rest_ends (below requests rest b first.go_on first.few second)
same_ends requests rest (Rejected rejection) b first second =
    one_end rest (Rejected rejection) b first.rest_ends (below requests rest b first.go_on first.few second)

pub one_stream : (bytes : List ℕ) (requests others : List RequestMessage) (a b : Ending) → IsStream bytes requests a → IsStream bytes others b → (requests ≡ others) × (a ≡ b)
one_stream bytes requests others a b first second = elim (cuts_apart bytes requests others first.rest second.rest first.cuts second.cuts) [
  | inl same ↦ (same.0, same_ends others second.rest a b (rw (same.0, same.1) at first.ends) second.ends)
  | inr (inl goes) ↦ absurd (not_further requests others first.rest second.rest a b first.ends second.ends goes)
  | inr (inr goes) ↦ absurd (not_further others requests second.rest first.rest b a second.ends first.ends goes)
]

-- one more request behind those so far
cuts_more : (bytes : List ℕ) (requests : List RequestMessage) (rest : List ℕ) (request : RequestMessage) (after : List ℕ)
    → Cuts bytes requests rest → FirstRequest rest request after → Cuts bytes (requests ++ request ∷ []) after
cuts_more bytes [] rest request after cuts first = (after, rw cuts first, refl)
cuts_more bytes (q ∷ requests) rest request after cuts first = (cuts.0, cuts.1, cuts_more cuts.0 requests rest request after cuts.2 first)

pub given_nothing : (start : Option (List ℕ)) → HasGiven start [] start
given_nothing None = tt
given_nothing (Some bytes) = refl

pub given_more : (start old new : Option (List ℕ)) (requests : List RequestMessage) (request : HttpRequest)
    → HasGiven start requests old → Moves old new (Ok (Some request)) → HasGiven start (requests ++ message_of request ∷ []) new
given_more None old new requests request given moves = tt
given_more (Some bytes) None new requests request given moves = absurd given
given_more (Some bytes) (Some rest) None requests request given moves = absurd moves
given_more (Some bytes) (Some rest) (Some after) requests request given moves = cuts_more bytes requests rest (message_of request) after given moves

pub given_still : (start old new : Option (List ℕ)) (requests : List RequestMessage) → HasGiven start requests old → Moves old new (Err ReadFault) → HasGiven start requests new
given_still None old new requests given moves = tt
given_still (Some bytes) None new requests given moves = absurd given
given_still (Some bytes) (Some rest) None requests given moves = absurd moves.0
given_still (Some bytes) (Some rest) (Some same) requests given moves = rw moves.0 given

-- what is left when the calls end is the rest of the stream
whole : (start old : Option (List ℕ)) (requests : List RequestMessage) (ending : Ending) → HasGiven start requests old
    → ((rest : List ℕ) → old ≡ Some rest → EndsAs requests rest ending) → IsWhole start requests ending
whole None old requests ending given ends = tt
whole (Some bytes) None requests ending given ends = absurd given
whole (Some bytes) (Some rest) requests ending given ends = record { rest = rest; cuts = given; ends = ends rest refl }

-- what holds of a told stream
told : (P : List ℕ → Type 0) (stream : Option (List ℕ)) (bytes : List ℕ) → IfSome stream P → stream ≡ Some bytes → P bytes
told P stream bytes holds is = let at : IfSome (Some bytes) P = rw is at holds in at

pub ends_ended : (start old new : Option (List ℕ)) (requests : List RequestMessage) → HasGiven start requests old → GoOn requests → length requests < request_limit
    → Moves old new (Ok None) → IsWhole start requests Ended
ends_ended start old new requests given on few moves =
    whole start old requests Ended given (λ rest is. record { go_on = on; few = few; rest_ends = told HasEnded old rest moves.1 is })

module _ (start old : Option (List ℕ)) (requests : List RequestMessage) where
  ends_cut : HasGiven start requests old → GoOn requests → length requests < request_limit → IfSome old IsCut → IsWhole start requests Cut
  ends_cut given on few is =
      whole start old requests Cut given (λ rest at. record { go_on = on; few = few; rest_ends = told IsCut old rest is at })

  ends_rejected : (rejection : Rejection) → HasGiven start requests old → GoOn requests → length requests < request_limit → IfSome old (IsRejected rejection) → IsWhole start requests (Rejected rejection)
  ends_rejected rejection given on few is =
      whole start old requests (Rejected rejection) given (λ rest at. record { go_on = on; few = few; rest_ends = told (IsRejected rejection) old rest is at })

  ends_by : (stop : Stop) → HasGiven start requests old → GoOn requests → length requests < request_limit → Stops stop old → IfSome (ending_at stop) (λ ending. IsWhole start requests ending)
  ends_by stops.ReadFault given on few is = tt
  ends_by stops.Cut given on few is = ends_cut given on few is
  ends_by stops.Bad given on few is = ends_rejected Bad given on few is
  ends_by stops.HeadTooBig given on few is = ends_rejected HeadTooBig given on few is
  ends_by stops.BodyTooBig given on few is = ends_rejected BodyTooBig given on few is
  ends_by stops.Unimplemented given on few is = ends_rejected Unimplemented given on few is

pub ends_at : (start old new : Option (List ℕ)) (requests : List RequestMessage) (stop : Stop) (ending : Ending) → HasGiven start requests old → GoOn requests → length requests < request_limit
    → Moves old new (Err stop) → ending_at stop ≡ Some ending → IsWhole start requests ending
ends_at start old new requests stop ending given on few moves at =
    let ends : IfSome (Some ending) (λ e. IsWhole start requests e) = rw at at (ends_by start old requests stop given on few moves.1) in ends

pub ends_limit : (start old : Option (List ℕ)) (requests : List RequestMessage) → HasGiven start requests old → GoOn requests → length requests ≡ request_limit → IsWhole start requests Limit
ends_limit start old requests given on full = whole start old requests Limit given (λ rest is. (on, full))

pub ends_closed : (start new : Option (List ℕ)) (requests : List RequestMessage) (request : RequestMessage) → HasGiven start (requests ++ request ∷ []) new
    → GoOn requests → is_last request ≡ true → length requests < request_limit → IsWhole start (requests ++ request ∷ []) Closed
ends_closed start new requests request given on last few =
    whole start new (requests ++ request ∷ []) Closed given (λ rest is. record { earlier = requests; final = request; parts = refl; go_on = on; last = last; few = few })

-- one more request that isn't last
pub go_on_more : (requests : List RequestMessage) (request : RequestMessage) → GoOn requests → is_last request ≡ false → GoOn (requests ++ request ∷ [])
go_on_more requests request on other = list_any-append is_last requests (request ∷ []) ∙ rw (on, other) refl
