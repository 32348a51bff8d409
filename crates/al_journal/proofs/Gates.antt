-- Writes behind a gate and over it.
use Rattle.std.proofs.Common.{◌≡◌, inl, inr, ℕ, ◌+◌, ◌<◌, ◌≤◌, List, [], ◌∷◌, ◌++◌, length, take, drop, get_or, sym, ◌∙◌, ap, arith, append_assoc, length-append, take-append-drop}
use Rattle.std.proofs.lemmas.Bool.{cases_eq}
use Rattle.std.proofs.lemmas.List.{drop_at, drop_more, length_push, take_at}
use Rattle.al_disk.specs.Images.{Torn}
use Rattle.al_disk.specs.States.{put}
use Rattle.al_journal.specs.Format.{before_gate, framed, gate_of, piece_of, records, birth}
use Rattle.al_journal.specs.Images.{Shows, ShowsWithOrWithout, Staged}
use Rattle.al_journal.proofs.Pieces.{gate_of-push, length-before_gate, records-push}

module _ (front : List ℕ) (place : ℕ) (size : length front ≡ place) (gate : ℕ) (rest old : List ℕ) (is : old ≡ front ++ gate ∷ rest) where
  through : front ++ gate ∷ rest ≡ (front ++ gate ∷ []) ++ rest
  through = sym (append_assoc front (gate ∷ []) rest)

  longer : length (front ++ gate ∷ []) ≡ place + 1
  longer = omega (arith, length_push front gate, size)

  before : take place old ≡ front
  before = ap (λ (l : List ℕ). take place l) is ∙ take_at front (gate ∷ rest) place size

  with_gate : take (place + 1) old ≡ front ++ gate ∷ []
  with_gate = ap (λ (l : List ℕ). take (place + 1) l) (is ∙ through) ∙ take_at (front ++ gate ∷ []) rest (place + 1) longer

  behind : drop (place + 1) old ≡ rest
  behind = ap (λ (l : List ℕ). drop (place + 1) l) (is ∙ through) ∙ drop_at (front ++ gate ∷ []) rest (place + 1) longer

  pub reaches : place + 1 ≤ length old
  reaches = omega (arith, ap (λ (l : List ℕ). length l) is, length-append front (gate ∷ rest), size)

  -- a torn write behind the gate leaves the gate
  pub torn_behind : (n : ℕ) (new : List ℕ) → Torn (place + 1) n old new → new ≡ front ++ gate ∷ drop (place + 1) new
  torn_behind n new torn =
      sym (take-append-drop (place + 1) new)
      ∙ ap (λ (l : List ℕ). l ++ drop (place + 1) new) (torn.before ∙ with_gate)
      ∙ append_assoc front (gate ∷ []) (drop (place + 1) new)

  -- a torn write over the gate leaves what is around it
  pub torn_gate : (new : List ℕ) → Torn place 1 old new → new ≡ front ++ get_or new place 0 ∷ rest
  torn_gate new torn =
      let there : place < length new = omega (arith, reaches, torn.no_shorter) in
      sym (take-append-drop place new)
      ∙ ap (λ (l : List ℕ). l ++ drop place new) (torn.before ∙ before)
      ∙ ap (λ (l : List ℕ). front ++ l) (drop_more new place 0 there ∙ ap (λ (l : List ℕ). get_or new place 0 ∷ l) (torn.after ∙ behind))

  pub put_behind : (bytes : List ℕ) → put (place + 1) bytes old ≡ front ++ gate ∷ (bytes ++ drop (place + 1 + length bytes) old)
  put_behind bytes =
      ap (λ (l : List ℕ). l ++ bytes ++ drop (place + 1 + length bytes) old) with_gate
      ∙ append_assoc (front ++ gate ∷ []) bytes (drop (place + 1 + length bytes) old)
      ∙ append_assoc front (gate ∷ []) (bytes ++ drop (place + 1 + length bytes) old)

  pub put_gate : (byte : ℕ) → put place (byte ∷ []) old ≡ front ++ byte ∷ rest
  put_gate byte =
      ap (λ (l : List ℕ). l ++ (byte ∷ []) ++ drop (place + 1) old) before
      ∙ ap (λ (l : List ℕ). front ++ (byte ∷ []) ++ l) behind
      ∙ append_assoc front (byte ∷ []) rest

module _ (capacity : ℕ) (payloads : List (List ℕ)) (payload : List ℕ) where
  abbrev place : ℕ
  place = gate_of payloads

  size : length (before_gate capacity payloads) ≡ place
  size = length-before_gate capacity payloads

  -- the further record, in its place
  pub further : (next : ℕ) (rest : List ℕ) → before_gate capacity payloads ++ 1 ∷ (framed payload ++ next ∷ rest) ≡ before_gate capacity (payloads ++ payload ∷ []) ++ next ∷ rest
  further next rest =
      let record_is = 1 ∷ framed payload in
      sym (append_assoc (before_gate capacity payloads) record_is (next ∷ rest))
      ∙ ap (λ (l : List ℕ). l ++ next ∷ rest) (append_assoc (birth capacity) (records payloads) record_is ∙ ap (λ (l : List ℕ). birth capacity ++ l) (sym (records-push payloads payload)))

  -- with its gate open it counts, else it doesn't
  pub staged_shows : (image : List ℕ) → Staged capacity payloads payload image → ShowsWithOrWithout capacity payloads payload image
  staged_shows image staged = elim (cases_eq staged.gate 1) [
    | inl open_gate ↦ inr (record {
      gate = staged.next;
      rest = staged.rest;
      is = staged.is ∙ ap (λ (g : ℕ). before_gate capacity payloads ++ g ∷ (framed payload ++ staged.next ∷ staged.rest)) open_gate ∙ further staged.next staged.rest;
      shut = staged.shut;
      within = omega (arith, gate_of-push payloads payload, staged.within);
      allowed = staged.allowed;
    })
    | inr shut_gate ↦ inl (record {
      gate = staged.gate;
      rest = framed payload ++ staged.next ∷ staged.rest;
      is = staged.is;
      shut = shut_gate;
      within = omega (arith, staged.within);
      allowed = staged.allowed;
    })
  ]

  pub torn_piece : (n : ℕ) (old new : List ℕ) → Shows capacity payloads old → Torn (place + 1) n old new → Shows capacity payloads new
  torn_piece n old new shows torn = record {
    gate = shows.gate;
    rest = drop (place + 1) new;
    is = torn_behind (before_gate capacity payloads) place size shows.gate shows.rest old shows.is n new torn;
    shut = shows.shut;
    within = shows.within;
    allowed = shows.allowed;
  }

  pub put_piece : (old : List ℕ) → Shows capacity payloads old → place + 6 + length payload ≤ capacity → Staged capacity payloads payload (put (place + 1) (piece_of payload) old)
  put_piece old shows fits = record {
    gate = shows.gate;
    next = 0;
    rest = drop (place + 1 + length (piece_of payload)) old;
    is = put_behind (before_gate capacity payloads) place size shows.gate shows.rest old shows.is (piece_of payload)
        ∙ ap (λ (l : List ℕ). before_gate capacity payloads ++ shows.gate ∷ l) (append_assoc (framed payload) (0 ∷ []) (drop (place + 1 + length (piece_of payload)) old));
    shut = λ same. omega (arith, same);
    within = fits;
    allowed = shows.allowed;
  }

  pub torn_over_gate : (old new : List ℕ) → Staged capacity payloads payload old → Torn place 1 old new → Staged capacity payloads payload new
  torn_over_gate old new staged torn = record {
    gate = get_or new place 0;
    next = staged.next;
    rest = staged.rest;
    is = torn_gate (before_gate capacity payloads) place size staged.gate (framed payload ++ staged.next ∷ staged.rest) old staged.is new torn;
    shut = staged.shut;
    within = staged.within;
    allowed = staged.allowed;
  }

  -- the gate opened: the further payload is there
  pub put_open : (old : List ℕ) → Staged capacity payloads payload old → Shows capacity (payloads ++ payload ∷ []) (put place (1 ∷ []) old)
  put_open old staged = record {
    gate = staged.next;
    rest = staged.rest;
    is = put_gate (before_gate capacity payloads) place size staged.gate (framed payload ++ staged.next ∷ staged.rest) old staged.is 1 ∙ further staged.next staged.rest;
    shut = staged.shut;
    within = omega (arith, gate_of-push payloads payload, staged.within);
    allowed = staged.allowed;
  }

  -- the gate shut: it isn't
  pub put_shut : (old : List ℕ) → Staged capacity payloads payload old → Shows capacity payloads (put place (0 ∷ []) old)
  put_shut old staged = record {
    gate = 0;
    rest = framed payload ++ staged.next ∷ staged.rest;
    is = put_gate (before_gate capacity payloads) place size staged.gate (framed payload ++ staged.next ∷ staged.rest) old staged.is 0;
    shut = λ same. omega (arith, same);
    within = omega (arith, staged.within);
    allowed = staged.allowed;
  }
