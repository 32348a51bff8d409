-- Where a block ends, line after line.
use Rattle.std.proofs.Common.{◌≡◌, ◌≢◌, ℕ, ◌⊎◌, Bool, true, false, ◌||◌, ◌==◌, List, [], ◌∷◌, ◌++◌, refl, sym, ◌∙◌, ap, inl, inr, append_assoc, arith}
use Rattle.std.proofs.lemmas.Bool.Decides.{nat_tests}
use Rattle.std.proofs.lemmas.List.{same_from_push, append-nil}
use Rattle.std.proofs.lemmas.List.Folds.{list_any-append}
use Rattle.std.specs.List.{AllByRecursion}
use Rattle.al_http.specs.declared.scan.Seen.{Seen}
use Rattle.al_http.specs.declared.scan.Seen.TheVariants.{Nothing, Text, LineFeed, Return}
use Rattle.al_http.specs.Blocks.{line_feed, carriage_return, is_line_byte, HasLineByte, EndsInEmptyLine, IsBlock, HoldsNoBlock}
use Rattle.al_http.specs.Scans.{EndsWith, IsAfter}

-- What stands before a last byte begins with each front that is shorter than all of it.
front_of_push : (xs : List ℕ) (b : ℕ) (front : List ℕ) (y : ℕ) (back : List ℕ) → xs ++ b ∷ [] ≡ front ++ y ∷ back → (more : List ℕ) × (xs ≡ front ++ more)
front_of_push xs b [] y back e = (xs, refl)
front_of_push [] b (z ∷ front) y back e = absurd (no_nil front y back (let t : [] ≡ front ++ y ∷ back = cc in t))
  where
    no_nil : (front : List ℕ) (y : ℕ) (back : List ℕ) → [] ≡ front ++ y ∷ back → ⊥
    no_nil [] y back e = cc
    no_nil (z ∷ front) y back e = cc
front_of_push (x ∷ xs) b (z ∷ front) y back e =
    let rest = front_of_push xs b front y back cc in (rest.0, cc (rest.1))

-- no front of all of it ends in an empty line, if none of what stands before its last byte does, and it doesn't itself
no_block_more : (xs : List ℕ) (b : ℕ) → HoldsNoBlock xs → ¬ (EndsInEmptyLine (xs ++ b ∷ [])) → HoldsNoBlock (xs ++ b ∷ [])
no_block_more xs b before here = record { none = λ front back. step front back }
  where
    step : (front back : List ℕ) → xs ++ b ∷ [] ≡ front ++ back → ¬ (EndsInEmptyLine front)
    step front [] e ends = here (rw (e ∙ append-nil front) ends)
    step front (y ∷ back) e ends = let found = front_of_push xs b front y back e in before.none front found.0 found.1 ends

-- a block ends where the first empty line does
block_here : (xs : List ℕ) (b : ℕ) → HoldsNoBlock xs → EndsInEmptyLine (xs ++ b ∷ []) → IsBlock (xs ++ b ∷ [])
block_here xs b before here = record { ends = here; shortest = λ front back. step front back }
  where
    step : (front back : List ℕ) → xs ++ b ∷ [] ≡ front ++ back → EndsInEmptyLine front → back ≡ []
    step front [] e ends = refl
    step front (y ∷ back) e ends = let found = front_of_push xs b front y back e in absurd (before.none front found.0 found.1 ends)

-- the last byte of an empty line is LF, and an end of a line stands before
ends_apart : (xs : List ℕ) (b : ℕ) → EndsInEmptyLine (xs ++ b ∷ [])
    → (b ≡ line_feed) × (EndsWith xs (line_feed ∷ []) ⊎ EndsWith xs (line_feed ∷ carriage_return ∷ []))
ends_apart xs b ends = elim ends.empty_line [
  | inl e ↦ (let at = same_from_push xs (ends.front ++ line_feed ∷ []) b line_feed (ends.parts ∙ ap (λ t. ends.front ++ t) e ∙ sym (append_assoc ends.front _ _)) in
      (at.1, inl (record { front = ends.front; parts = at.0; some_line = ends.some_line })))
  | inr e ↦ (let at = same_from_push xs (ends.front ++ line_feed ∷ carriage_return ∷ []) b line_feed (ends.parts ∙ ap (λ t. ends.front ++ t) e ∙ sym (append_assoc ends.front _ _)) in
      (at.1, inr (record { front = ends.front; parts = at.0; some_line = ends.some_line })))
]

-- an end with text before it has text
line_before : (xs end : List ℕ) → EndsWith xs end → HasLineByte xs
line_before xs end ends = rw (ends.parts, list_any-append is_line_byte ends.front end) (or_left _ _ ends.some_line)
  where
    or_left : (a b : Bool) → a ≡ true → (a || b) ≡ true
    or_left true b e = refl
    or_left false b e = cc

line_kept : (xs : List ℕ) (b : ℕ) → HasLineByte xs → HasLineByte (xs ++ b ∷ [])
line_kept xs b some = line_before _ (b ∷ []) (record { front = xs; parts = refl; some_line = some })

-- the last bytes of two ends that are one
last_byte : (xs : List ℕ) (b y : ℕ) → EndsWith (xs ++ b ∷ []) (y ∷ []) → b ≡ y
last_byte xs b y ends = (same_from_push xs ends.front b y ends.parts).1

last_bytes : (xs : List ℕ) (b y z : ℕ) → EndsWith (xs ++ b ∷ []) (y ∷ z ∷ []) → (b ≡ z) × EndsWith xs (y ∷ [])
last_bytes xs b y z ends =
    let at = same_from_push xs (ends.front ++ y ∷ []) b z (ends.parts ∙ sym (append_assoc ends.front _ _)) in
    (at.1, record { front = ends.front; parts = at.0; some_line = ends.some_line })

pub after_nothing : (xs : List ℕ) (b : ℕ) → is_line_byte b ≡ false → IsAfter Nothing xs → IsAfter Nothing (xs ++ b ∷ [])
after_nothing xs b blank seen = record {
  no_block = no_block_more xs b seen.no_block (λ ends. elim (ends_apart xs b ends).1 [
    | inl e ↦ absurd (cc (line_before xs _ e, seen.shows))
    | inr e ↦ absurd (cc (line_before xs _ e, seen.shows))
  ]);
  shows = rw (list_any-append is_line_byte xs (b ∷ []), seen.shows, blank) refl;
}

-- with no LF there is no end
no_end : (xs : List ℕ) (b : ℕ) → b ≢ line_feed → ¬ (EndsInEmptyLine (xs ++ b ∷ []))
no_end xs b other ends = other (ends_apart xs b ends).0

pub after_text : (seen : Seen) (xs : List ℕ) (b : ℕ) → b ≢ line_feed → b ≢ carriage_return → is_line_byte b ≡ true → IsAfter seen xs → IsAfter Text (xs ++ b ∷ [])
after_text seen xs b feed return line before = record {
  no_block = no_block_more xs b before.no_block (no_end xs b feed);
  shows = (rw (list_any-append is_line_byte xs (b ∷ []), line) (or_true _), (λ e. feed (last_byte xs b _ e)), (λ e. return (last_bytes xs b _ _ e).0));
}
  where
    or_true : (a : Bool) → (a || (true || false)) ≡ true
    or_true true = refl
    or_true false = refl

pub after_line_feed : (xs : List ℕ) → IsAfter Text xs → IsAfter LineFeed (xs ++ line_feed ∷ [])
after_line_feed xs before = record {
  no_block = no_block_more xs line_feed before.no_block (λ ends. elim (ends_apart xs line_feed ends).1 [
    | inl e ↦ before.shows.1 e
    | inr e ↦ before.shows.2 e
  ]);
  shows = record { front = xs; parts = refl; some_line = before.shows.0 };
}

no_feed : carriage_return ≢ line_feed
no_feed e = cc

pub after_return : (xs : List ℕ) → IsAfter LineFeed xs → IsAfter Return (xs ++ carriage_return ∷ [])
after_return xs before = record {
  no_block = no_block_more xs carriage_return before.no_block (no_end xs carriage_return no_feed);
  shows = record { front = before.shows.front; parts = rw before.shows.parts (append_assoc before.shows.front _ _); some_line = before.shows.some_line };
}

-- a CR that is in no line's end
lone_return : (xs : List ℕ) → HasLineByte xs → ¬ (EndsWith xs (line_feed ∷ [])) → HoldsNoBlock xs → IsAfter Text (xs ++ carriage_return ∷ [])
lone_return xs line no_line no_block = record {
  no_block = no_block_more xs carriage_return no_block (no_end xs carriage_return no_feed);
  shows = (line_kept xs carriage_return line, (λ e. no_feed (last_byte xs carriage_return line_feed e)), (λ e. no_line (last_bytes xs carriage_return _ _ e).1));
}

pub after_text_return : (xs : List ℕ) → IsAfter Text xs → IsAfter Text (xs ++ carriage_return ∷ [])
after_text_return xs before = lone_return xs before.shows.0 before.shows.1 before.no_block

pub after_two_returns : (xs : List ℕ) → IsAfter Return xs → IsAfter Text (xs ++ carriage_return ∷ [])
after_two_returns xs before = lone_return xs (line_before xs _ before.shows) (λ e. no_feed (ends_differ xs before.shows e)) before.no_block
  where
    ends_differ : (xs : List ℕ) → EndsWith xs (line_feed ∷ carriage_return ∷ []) → EndsWith xs (line_feed ∷ []) → carriage_return ≡ line_feed
    ends_differ xs a b = (same_from_push (a.front ++ line_feed ∷ []) b.front carriage_return line_feed (append_assoc a.front _ _ ∙ sym a.parts ∙ b.parts)).1

pub ends_line_feed : (xs : List ℕ) → IsAfter LineFeed xs → IsBlock (xs ++ line_feed ∷ [])
ends_line_feed xs before = block_here xs line_feed before.no_block (record {
  front = before.shows.front;
  end = line_feed ∷ line_feed ∷ [];
  parts = rw before.shows.parts (append_assoc before.shows.front _ _);
  some_line = before.shows.some_line;
  empty_line = inl refl;
})

pub ends_return : (xs : List ℕ) → IsAfter Return xs → IsBlock (xs ++ line_feed ∷ [])
ends_return xs before = block_here xs line_feed before.no_block (record {
  front = before.shows.front;
  end = line_feed ∷ carriage_return ∷ line_feed ∷ [];
  parts = rw before.shows.parts (append_assoc before.shows.front _ _);
  some_line = before.shows.some_line;
  empty_line = inr refl;
})

nothing_empty : (xs ys : List ℕ) → [] ≡ xs ++ ys → HasLineByte xs → ⊥
nothing_empty [] ys e some = cc (some)
nothing_empty (x ∷ xs) ys e some = cc

no_front : (front back : List ℕ) → [] ≡ front ++ back → ¬ (EndsInEmptyLine front)
no_front [] back e ends = nothing_empty ends.front ends.end ends.parts ends.some_line
no_front (x ∷ front) back e ends = cc

-- nothing was seen yet
pub after_none : IsAfter Nothing []
after_none = record { no_block = record { none = no_front }; shows = refl }

-- a byte that is neither LF nor CR
pub line_byte : (b : ℕ) → b ≢ line_feed → b ≢ carriage_return → is_line_byte b ≡ true
line_byte b feed return = grind (arith, nat_tests)

-- what comes of one more LF
pub feed_on_nothing : (seen : Seen) (xs : List ℕ) → seen ≡ Nothing → IsAfter seen xs → IsAfter Nothing (xs ++ line_feed ∷ [])
feed_on_nothing seen xs e before = after_nothing xs line_feed refl (rw e at before)

pub feed_on_text : (seen : Seen) (xs : List ℕ) → seen ≡ Text → IsAfter seen xs → IsAfter LineFeed (xs ++ line_feed ∷ [])
feed_on_text seen xs e before = after_line_feed xs (rw e at before)

pub feed_on_end : (seen : Seen) (xs : List ℕ) → (seen ≡ LineFeed) ⊎ (seen ≡ Return) → IsAfter seen xs → IsBlock (xs ++ line_feed ∷ [])
feed_on_end seen xs (inl e) before = ends_line_feed xs (rw e at before)
feed_on_end seen xs (inr e) before = ends_return xs (rw e at before)

-- what comes of one more CR
pub return_on_nothing : (seen : Seen) (xs : List ℕ) → seen ≡ Nothing → IsAfter seen xs → IsAfter Nothing (xs ++ carriage_return ∷ [])
return_on_nothing seen xs e before = after_nothing xs carriage_return refl (rw e at before)

pub return_on_line_feed : (seen : Seen) (xs : List ℕ) → seen ≡ LineFeed → IsAfter seen xs → IsAfter Return (xs ++ carriage_return ∷ [])
return_on_line_feed seen xs e before = after_return xs (rw e at before)

pub return_on_text : (seen : Seen) (xs : List ℕ) → (seen ≡ Text) ⊎ (seen ≡ Return) → IsAfter seen xs → IsAfter Text (xs ++ carriage_return ∷ [])
return_on_text seen xs (inl e) before = after_text_return xs (rw e at before)
return_on_text seen xs (inr e) before = after_two_returns xs (rw e at before)

-- behind text of a line, bytes without LF are text of it
pub text_stays : (xs bytes : List ℕ) → IsAfter Text xs → AllByRecursion (λ b. b ≢ line_feed) bytes → IsAfter Text (xs ++ bytes)
text_stays xs [] before none = rw append-nil before
text_stays xs (b ∷ bytes) before none = rw (sym (append_assoc xs (b ∷ []) bytes)) (text_stays (xs ++ b ∷ []) bytes (one (b == carriage_return) refl) none.1)
  where
    one : (is : Bool) → (b == carriage_return) ≡ is → IsAfter Text (xs ++ b ∷ [])
    one true is = let same : b ≡ carriage_return = grind (arith, nat_tests) in rw same (after_text_return xs before)
    one false is = let other : b ≢ carriage_return = grind (arith, nat_tests) in after_text Text xs b none.0 other (line_byte b none.0 other) before

pub ruleset on_line_feed = (feed_on_nothing, feed_on_text, feed_on_end)

pub ruleset on_return = (return_on_nothing, return_on_line_feed, return_on_text)
