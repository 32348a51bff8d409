-- The turns of an exchange as parts of one history.
use Rattle.std.proofs.Common.{◌≡◌, ◌≢◌, ◌==◌, ℕ, ◌+◌, Bool, true, cond, List, [], ◌∷◌, ◌++◌, length, take, refl, sym, ap, ◌∙◌, subst, arith, append_assoc, append-nil, length-drop, ne_eqb, eq-eqb}
use Rattle.std.specs.List.{AllByRecursion}
use Rattle.std.proofs.lemmas.Bool.{false≢true}
use Rattle.std.proofs.lemmas.List.Elements.{filter-append, recursion_from_All}
use Rattle.std.proofs.Math.Seq.{take-append_seam}
use Rattle.std.proofs.lemmas.List.Prefix.{front_rest}
use Rattle.al_http.specs.Services.{Adds}
use Rattle.al_model.specs.declared.entry.Entry.{Entry}
use Rattle.al_model.specs.declared.kept.Mark.{Mark}
use Rattle.al_turn.proofs.Grows.{begins_with, drop_longer, goes_further, goes_on_itself, is_longer}
use Rattle.al_turn.specs.Histories.{GoesOn, MadeByOthers, StartsWith, entries_by, further}
use Rattle.al_serve.specs.Exchanges.{AreAtPlaces, CountsRise, GoThrough, GoesOnByOthers, IsOfOneHistory, Turn, added_by, all_added, place_of}

-- each of a list, and one more
pub each_more : {X : Type 0} (P : X → Type 0) (xs : List X) (x : X) → AllByRecursion P xs → P x → AllByRecursion P (xs ++ x ∷ [])
each_more P [] x all one = (one, tt)
each_more P (y ∷ xs) x all one = (all.0, each_more P xs x all.1 one)

-- turns, and one more
pub through_more : (origins : ℕ → Bool) (before : Mark) (turns : List Turn) (mid : Mark) (turn : Turn) (after : Mark)
    → GoThrough origins before turns mid → GoesOnByOthers origins mid turn.before → after ≡ turn.after → GoThrough origins before (turns ++ turn ∷ []) after
through_more origins before [] mid turn after so_far found left = (subst (λ (m : Mark). GoesOnByOthers origins m turn.before) so_far found, left)
through_more origins before (first ∷ turns) mid turn after so_far found left =
    (so_far.0, through_more origins first.after turns mid turn after so_far.1 found left)

pub added_more : (turns : List Turn) (turn : Turn) → all_added (turns ++ turn ∷ []) ≡ all_added turns ++ added_by turn
added_more [] turn = append-nil (added_by turn)
added_more (first ∷ turns) turn = ap (λ (x : List Entry). added_by first ++ x) (added_more turns turn) ∙ sym (append_assoc (added_by first) (all_added turns) (added_by turn))

-- what a service added goes on from what was
pub adds_goes_on : (origin : ℕ) (before after : Mark) → Adds origin before after → GoesOn before after
adds_goes_on origin before after a =
    record { begins = begins_with after.entries before.entries a.entries a.grown; counts = a.counts; same = a.same }

pub adds_further : (origin : ℕ) (before after : Mark) (a : Adds origin before after) → further after.entries before.entries ≡ a.entries
adds_further origin before after a = front_rest after.entries before.entries a.entries a.grown

-- an origin's entries among its own are all of them
all_by : (origin : ℕ) (es : List Entry) → AllByRecursion (λ (e : Entry). e.origin ≡ origin) es → entries_by origin es ≡ es
all_by origin [] all = refl
all_by origin (e ∷ es) all =
    ap (λ (b : Bool). cond b (e ∷ entries_by origin es) (entries_by origin es)) (eq-eqb e.origin origin all.0) ∙ ap (λ (x : List Entry). e ∷ x) (all_by origin es all.1)

pub adds_by : (origin : ℕ) (before after : Mark) → Adds origin before after → entries_by origin (further after.entries before.entries) ≡ further after.entries before.entries
adds_by origin before after a =
    let is = adds_further origin before after a in
    ap (entries_by origin) is ∙ all_by origin a.entries (recursion_from_All (λ (e : Entry). e.origin ≡ origin) a.entries a.own) ∙ sym is

-- and among those of others there is none
pub none_of_others : (origins : ℕ → Bool) (origin : ℕ) (es : List Entry) → origins origin ≡ true → MadeByOthers origins es → entries_by origin es ≡ []
none_of_others origins origin [] own others = refl
none_of_others origins origin (e ∷ es) own others =
    let ne : e.origin ≢ origin = λ q. false≢true (sym others.0 ∙ ap origins q ∙ own) in
    ap (λ (b : Bool). cond b (e ∷ entries_by origin es) (entries_by origin es)) (ne_eqb e.origin origin ne) ∙ none_of_others origins origin es own others.1

-- where all origins are among those, there are no others
no_others : (origins : ℕ → Bool) (es : List Entry) → ((other : ℕ) → origins other ≡ true) → MadeByOthers origins es → es ≡ []
no_others origins [] all others = refl
no_others origins (e ∷ es) all others = absurd (false≢true (sym others.0 ∙ all e.origin))

-- what a history grew by, in two steps
pub further_twice : (a b c : List Entry) → StartsWith b a → StartsWith c b → further c a ≡ further b a ++ further c b
further_twice a b c p q = drop_longer b c (length a) (is_longer a b p) q

pub by_twice : (origin : ℕ) (a b c : List Entry) → StartsWith b a → StartsWith c b → entries_by origin (further c a) ≡ entries_by origin (further b a) ++ entries_by origin (further c b)
by_twice origin a b c p q = ap (entries_by origin) (further_twice a b c p q) ∙ filter-append (λ (e : Entry). e.origin == origin) (further b a) (further c b)

pub nothing_further : (h : List Entry) → further h h ≡ []
nothing_further h = front_rest h h [] (sym (append-nil h))

-- a front is what is taken of its length
pub front_taken : (front history : List Entry) → StartsWith history front → front ≡ take (length front) history
front_taken front history e = sym (ap (take (length front)) e ∙ take-append_seam front (further history front))

module _ (origins : ℕ → Bool) (origin : ℕ) where
  goes_through : (before : Mark) (turns : List Turn) (after : Mark) → AllByRecursion (λ (turn : Turn). Adds origin turn.before turn.after) turns → GoThrough origins before turns after → GoesOn before after
  goes_through before [] after each through = subst (GoesOn before) (sym through) (goes_on_itself before)
  goes_through before (turn ∷ turns) after each through =
      goes_further before turn.before after through.0.goes_on
      (goes_further turn.before turn.after after (adds_goes_on origin turn.before turn.after each.0) (goes_through turn.after turns after each.1 through.1))

  -- a turn's place and its entries together are the length that it left
  place_after : (turn : Turn) → Adds origin turn.before turn.after → place_of turn + length (added_by turn) ≡ length turn.after.entries
  place_after turn adds =
      let longer = is_longer turn.before.entries turn.after.entries (adds_goes_on origin turn.before turn.after adds).begins in
      omega (arith, length-drop (length turn.before.entries) turn.after.entries)

  at_places : (before : Mark) (turns : List Turn) (after : Mark) → AllByRecursion (λ (turn : Turn). Adds origin turn.before turn.after) turns → GoThrough origins before turns after → AreAtPlaces after.entries (length before.entries) turns
  at_places before [] after each through = is_longer before.entries after.entries (goes_through before [] after each through).begins
  at_places before (turn ∷ turns) after each through =
      let end = place_after turn each.0 in
      let rest = goes_through turn.after turns after each.1 through.1 in
      let from_before = goes_further turn.before turn.after after (adds_goes_on origin turn.before turn.after each.0) rest in (
        is_longer before.entries turn.before.entries through.0.goes_on.begins,
        front_taken turn.before.entries after.entries from_before.begins,
        front_taken turn.after.entries after.entries rest.begins ∙ ap (λ (n : ℕ). take n after.entries) (sym end),
        subst (λ (n : ℕ). AreAtPlaces after.entries n turns) (sym end) (at_places turn.after turns after each.1 through.1),
      )

  counts_rise : (before : Mark) (turns : List Turn) (after : Mark) → AllByRecursion (λ (turn : Turn). Adds origin turn.before turn.after) turns → GoThrough origins before turns after → CountsRise before.faults turns after.faults
  counts_rise before [] after each through = (goes_through before [] after each through).counts
  counts_rise before (turn ∷ turns) after each through = (through.0.goes_on.counts, each.0.counts, counts_rise turn.after turns after each.1 through.1)

  own_entries : (before : Mark) (turns : List Turn) (after : Mark) → AllByRecursion (λ (turn : Turn). Adds origin turn.before turn.after) turns → GoThrough origins before turns after → origins origin ≡ true
      → entries_by origin (further after.entries before.entries) ≡ all_added turns
  own_entries before [] after each through own =
      ap (entries_by origin) (ap (λ (m : Mark). further m.entries before.entries) through ∙ nothing_further before.entries)
  own_entries before (turn ∷ turns) after each through own =
      let found = through.0 in
      let taken = adds_goes_on origin turn.before turn.after each.0 in
      let rest = goes_through turn.after turns after each.1 through.1 in
      by_twice origin before.entries turn.before.entries after.entries found.goes_on.begins (goes_further turn.before turn.after after taken rest).begins
      ∙ ap (λ (x : List Entry). x ++ entries_by origin (further after.entries turn.before.entries)) (none_of_others origins origin (further turn.before.entries before.entries) own found.others)
      ∙ by_twice origin turn.before.entries turn.after.entries after.entries taken.begins rest.begins
      ∙ ap (λ (x : List Entry). x ++ entries_by origin (further after.entries turn.after.entries)) (adds_by origin turn.before turn.after each.0)
      ∙ ap (λ (x : List Entry). added_by turn ++ x) (own_entries turn.after turns after each.1 through.1 own)

  all_entries : (before : Mark) (turns : List Turn) (after : Mark) → AllByRecursion (λ (turn : Turn). Adds origin turn.before turn.after) turns → GoThrough origins before turns after → ((other : ℕ) → origins other ≡ true)
      → further after.entries before.entries ≡ all_added turns
  all_entries before [] after each through all = ap (λ (m : Mark). further m.entries before.entries) through ∙ nothing_further before.entries
  all_entries before (turn ∷ turns) after each through all =
      let found = through.0 in
      let taken = adds_goes_on origin turn.before turn.after each.0 in
      let rest = goes_through turn.after turns after each.1 through.1 in
      further_twice before.entries turn.before.entries after.entries found.goes_on.begins (goes_further turn.before turn.after after taken rest).begins
      ∙ ap (λ (x : List Entry). x ++ further after.entries turn.before.entries) (no_others origins (further turn.before.entries before.entries) all found.others)
      ∙ further_twice turn.before.entries turn.after.entries after.entries taken.begins rest.begins
      ∙ ap (λ (x : List Entry). added_by turn ++ x) (all_entries turn.after turns after each.1 through.1 all)

  pub one_history : (before : Mark) (turns : List Turn) (after : Mark) → AllByRecursion (λ (turn : Turn). Adds origin turn.before turn.after) turns → GoThrough origins before turns after → IsOfOneHistory origins origin before turns after
  one_history before turns after each through =
      record {
        goes_on = goes_through before turns after each through;
        places = at_places before turns after each through;
        counts = counts_rise before turns after each through;
        own = own_entries before turns after each through;
        alone = all_entries before turns after each through;
      }
