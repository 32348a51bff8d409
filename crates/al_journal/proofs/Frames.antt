-- Frames in a row are one list of payloads.
use Rattle.std.proofs.Common.{◌≡◌, ◌≢◌, inl, inr, ℕ, ◌+◌, ◌-◌, ◌<◌, ◌≤◌, ◌^◌, true, false, List, [], ◌∷◌, ◌++◌, length, take, drop, get_or, Ok, refl, sym, ◌∙◌, ap, arith, append_assoc, length-append, length-drop, take-append-drop}
use Rattle.std.proofs.lemmas.List.{append_cancel_left, drop_at, drop_more, take_at, take_more}
use Rattle.al_journal.specs.Format.{before_gate, birth, framed, gate_of, in_four, records}
use Rattle.al_journal.specs.Images.{HasBirth, HoldsNone, IsTornAfter, Shows}
use Rattle.al_journal.specs.Walks.{IsFrame, IsNext}
use Rattle.al_journal.specs.declared.walking.Step.{Step}
use Rattle.al_journal.specs.declared.walking.Step.TheVariants.{Closed, Cut, Whole}
use Rattle.al_journal.proofs.FrontReading.{same_number}
use Rattle.al_journal.proofs.Heads.{in_front_once}
use Rattle.al_journal.proofs.Pieces.{gate_of-push, length-before_gate, length-birth, length-framed}

-- two frames in front of equal bytes are equal, and so is what follows
pub frame_once : (payload other rest more : List ℕ) → length payload < 2 ^ 32 → length other < 2 ^ 32 → framed payload ++ rest ≡ framed other ++ more → (payload ≡ other) × (rest ≡ more)
frame_once payload other rest more few few' same =
    let apart = sym (append_assoc (in_four (length payload)) payload rest) ∙ same ∙ append_assoc (in_four (length other)) other more in
    let size : length payload ≡ length other = in_front_once (length payload) (length other) (payload ++ rest) (other ++ more) few few' apart in
    let behind : payload ++ rest ≡ other ++ more =
    append_cancel_left (in_four (length other)) (payload ++ rest) (other ++ more) (ap (λ (n : ℕ). in_four n ++ (payload ++ rest)) (sym size) ∙ apart) in (
      sym (take_at payload rest (length payload) refl) ∙ ap (λ (l : List ℕ). take (length payload) l) behind ∙ take_at other more (length payload) (sym size),
      sym (drop_at payload rest (length payload) refl) ∙ ap (λ (l : List ℕ). drop (length payload) l) behind ∙ drop_at other more (length payload) (sym size),
    )

-- a byte and more follow
pub follows : (left : List (List ℕ)) (gate : ℕ) (rest : List ℕ) → (next : ℕ) × (more : List ℕ) × (records left ++ gate ∷ rest ≡ next ∷ more)
follows [] gate rest = (gate, rest, refl)
follows (payload ∷ left) gate rest = (1, framed payload ++ records left ++ gate ∷ rest, refl)

first_frame : (payload : List ℕ) (left : List (List ℕ)) (gate : ℕ) (rest : List ℕ) → records (payload ∷ left) ++ gate ∷ rest ≡ 1 ∷ (framed payload ++ (records left ++ gate ∷ rest))
first_frame payload left gate rest = ap (λ (l : List ℕ). 1 ∷ l) (append_assoc (framed payload) (records left) (gate ∷ rest))

length-first : (payload : List ℕ) (left : List (List ℕ)) → length (records (payload ∷ left)) ≡ 5 + length payload + length (records left)
length-first payload left = omega (arith, length-append (framed payload) (records left), length-framed payload)

-- what was read is the first payload that is left, or the end
abbrev pub Reads : Step → List (List ℕ) → List ℕ → Type 0
Reads Closed left payload = left ≡ []
Reads (Whole size) left payload = ((behind : List (List ℕ)) × (left ≡ payload ∷ behind)) × (length payload ≡ size)
Reads Cut left payload = ⊥

module _ (gate : ℕ) (shut : gate ≢ 1) (rest : List ℕ) (room : ℕ) (small : room ≤ 268435456) (tail payload : List ℕ) where
  pub reads : (step : Step) (left : List (List ℕ)) → tail ≡ records left ++ gate ∷ rest → length (records left) + 1 ≤ room → IsFrame step room tail payload → Reads step left payload
  reads Closed [] is fits frame = refl
  reads Closed (first ∷ left) is fits frame = absurd (frame.3 (let same : frame.0 ∷ frame.1 ≡ 1 ∷ _ = sym frame.2 ∙ is in cc))
  reads (Whole size) [] is fits frame = absurd (shut (let same : gate ∷ rest ≡ 1 ∷ _ = sym is ∙ frame.0.2 in cc))
  reads (Whole size) (first ∷ left) is fits frame =
      let both : 1 ∷ (framed payload ++ frame.0.0 ∷ frame.0.1) ≡ 1 ∷ (framed first ++ (records left ++ gate ∷ rest)) = sym frame.0.2 ∙ is ∙ first_frame first left gate rest in
      let behind : framed payload ++ frame.0.0 ∷ frame.0.1 ≡ framed first ++ (records left ++ gate ∷ rest) = cc in
      let same = frame_once payload first _ _ (omega (arith, frame.1, frame.2, small)) (omega (arith, fits, length-first first left, small)) behind in
      ((left, ap (λ (p : List ℕ). p ∷ left) (sym same.0)), frame.1)
  reads Cut [] is fits frame = absurd (elim frame.unshut [
    | inl empty ↦ let both : gate ∷ rest ≡ [] = sym is ∙ empty in cc
    | inr begins ↦ shut (let both : gate ∷ rest ≡ 1 ∷ begins.0 = sym is ∙ begins.1 in cc)
  ])
  reads Cut (first ∷ left) is fits frame =
      let more = follows left gate rest in
      let begins = is ∙ first_frame first left gate rest in
      frame.none (framed first ++ (records left ++ gate ∷ rest)) begins first more.0 more.1 (ap (λ (l : List ℕ). framed first ++ l) more.2) (omega (arith, fits, length-first first left))

pub records-append : (first second : List (List ℕ)) → records (first ++ second) ≡ records first ++ records second
records-append [] second = refl
records-append (payload ∷ first) second = ap (λ (l : List ℕ). 1 ∷ (framed payload ++ l)) (records-append first second) ∙ ap (λ (l : List ℕ). 1 ∷ l) (sym (append_assoc (framed payload) (records first) (records second)))

module _ (capacity : ℕ) (payloads : List (List ℕ)) (content : List ℕ) (shows : Shows capacity payloads content) (count place : ℕ) (within : count ≤ length payloads) (at_place : place ≡ gate_of (take count payloads)) where
  abbrev left : List (List ℕ)
  left = drop count payloads

  abbrev taken : List (List ℕ)
  taken = take count payloads

  all_records : records payloads ≡ records taken ++ records left
  all_records = ap records (sym (take-append-drop count payloads)) ∙ records-append taken left

  pub left_tail : drop place content ≡ records left ++ shows.gate ∷ shows.rest
  left_tail =
      ap (λ (l : List ℕ). drop place l)
      (shows.is
      ∙ ap (λ (l : List ℕ). birth capacity ++ l ++ shows.gate ∷ shows.rest) all_records
      ∙ ap (λ (l : List ℕ). l ++ shows.gate ∷ shows.rest) (sym (append_assoc (birth capacity) (records taken) (records left)))
      ∙ append_assoc (before_gate capacity taken) (records left) (shows.gate ∷ shows.rest))
      ∙ drop_at (before_gate capacity taken) (records left ++ shows.gate ∷ shows.rest) place (length-before_gate capacity taken ∙ sym at_place)

  pub left_room : length (records left) + 1 ≤ capacity - place
  left_room = omega (arith, at_place, shows.within, ap (λ (l : List ℕ). length l) all_records, length-append (records taken) (records left))

  pub next_closed : (payload : List ℕ) → left ≡ [] → IsNext payloads count place (Ok false) payload place
  next_closed payload none = (omega (arith, within, length-drop count payloads, ap (λ (l : List (List ℕ)). length l) none), refl)

  pub next_whole : (size : ℕ) (payload : List ℕ) (behind : List (List ℕ)) → left ≡ payload ∷ behind → length payload ≡ size → IsNext payloads count place (Ok true) payload (place + (size + 5))
  next_whole size payload behind is size_is =
      let there : count < length payloads = omega (arith, within, length-drop count payloads, ap (λ (l : List (List ℕ)). length l) is) in
      let more : get_or payloads count [] ∷ drop (count + 1) payloads ≡ payload ∷ behind = sym (drop_more payloads count [] there) ∙ is in
      let here : payload ≡ get_or payloads count [] = cc in (
        there,
        here,
        omega (arith, at_place, size_is, gate_of-push taken payload, ap gate_of (take_more payloads count [] there ∙ ap (λ (p : List ℕ). taken ++ p ∷ []) (sym here))),
      )

-- One list of payloads stands in front of a shut gate.
pub records_once : (payloads others : List (List ℕ)) (gate gate' : ℕ) (rest rest' : List ℕ) → gate ≢ 1 → gate' ≢ 1 → length (records payloads) < 2 ^ 32 → length (records others) < 2 ^ 32
    → records payloads ++ gate ∷ rest ≡ records others ++ gate' ∷ rest' → payloads ≡ others
records_once [] [] gate gate' rest rest' shut shut' few few' same = refl
records_once [] (other ∷ others) gate gate' rest rest' shut shut' few few' same = absurd (shut (cc))
records_once (payload ∷ payloads) [] gate gate' rest rest' shut shut' few few' same = absurd (shut' (cc))
records_once (payload ∷ payloads) (other ∷ others) gate gate' rest rest' shut shut' few few' same =
    let both : 1 ∷ (framed payload ++ (records payloads ++ gate ∷ rest)) ≡ 1 ∷ (framed other ++ (records others ++ gate' ∷ rest')) =
    sym (first_frame payload payloads gate rest) ∙ same ∙ first_frame other others gate' rest' in
    let behind : framed payload ++ (records payloads ++ gate ∷ rest) ≡ framed other ++ (records others ++ gate' ∷ rest') = cc in
    let sizes = length-first payload payloads in
    let sizes' = length-first other others in
    let once = frame_once payload other _ _ (omega arith) (omega arith) behind in
    let fewer = records_once payloads others gate gate' rest rest' shut shut' (omega arith) (omega arith) once.1 in
    let first = once.0 in
    cc

-- no list of payloads in front of a shut gate is torn
pub records_whole : (room : ℕ) (payloads others : List (List ℕ)) (gate : ℕ) (rest rest' : List ℕ) → gate ≢ 1 → room ≤ 268435456 → length (records payloads) + 1 ≤ room
    → records payloads ++ gate ∷ rest ≡ records others ++ 1 ∷ rest' → length (records others) < 2 ^ 32 → ((left : ℕ) → length (records others) + left ≡ room → HoldsNone left rest') → ⊥
records_whole room [] [] gate rest rest' shut small fits same few none = shut (cc)
records_whole room [] (other ∷ others) gate rest rest' shut small fits same few none = shut (cc)
records_whole room (payload ∷ payloads) [] gate rest rest' shut small fits same few none =
    let more = follows payloads gate rest in
    let both : 1 ∷ (framed payload ++ (records payloads ++ gate ∷ rest)) ≡ 1 ∷ rest' = sym (first_frame payload payloads gate rest) ∙ same in
    let behind : framed payload ++ (records payloads ++ gate ∷ rest) ≡ rest' = cc in
    none room (omega arith) payload more.0 more.1 (sym behind ∙ ap (λ (l : List ℕ). framed payload ++ l) more.2) (omega (arith, length-first payload payloads))
records_whole room (payload ∷ payloads) (other ∷ others) gate rest rest' shut small fits same few none =
    let both : 1 ∷ (framed payload ++ (records payloads ++ gate ∷ rest)) ≡ 1 ∷ (framed other ++ (records others ++ 1 ∷ rest')) =
    sym (first_frame payload payloads gate rest) ∙ same ∙ first_frame other others 1 rest' in
    let behind : framed payload ++ (records payloads ++ gate ∷ rest) ≡ framed other ++ (records others ++ 1 ∷ rest') = cc in
    let sizes = length-first payload payloads in
    let sizes' = length-first other others in
    let once = frame_once payload other _ _ (omega arith) (omega arith) behind in
    let used = 5 + length payload in
    records_whole (room - used) payloads others gate rest rest' shut (omega arith) (omega arith) once.1 (omega arith)
    (λ left is. none left (omega (arith, is, sizes', ap (λ (l : List ℕ). length l) once.0)))

-- the capacity of a birth
pub capacity_once : (capacity other : ℕ) (image : List ℕ) → HasBirth capacity image → HasBirth other image → capacity ≡ other
capacity_once capacity other image has has' = sym (same_number (take 14 image) image refl capacity has) ∙ same_number (take 14 image) image refl other has'

-- what is torn has a birth
pub torn_birth : (count : ℕ) (image : List ℕ) (torn : IsTornAfter count image) → HasBirth torn.capacity image
torn_birth count image torn =
    let next = follows torn.payloads 1 torn.rest in
    record {
      gate = next.0;
      rest = next.1;
      is = torn.is ∙ append_assoc (birth torn.capacity) (records torn.payloads) (1 ∷ torn.rest) ∙ ap (λ (l : List ℕ). birth torn.capacity ++ l) next.2;
      allowed = torn.allowed;
    }

module _ (capacity : ℕ) (payloads : List (List ℕ)) (image : List ℕ) (shows : Shows capacity payloads image) where
  -- what shows payloads has a birth
  pub shows_birth : HasBirth capacity image
  shows_birth =
      let next = follows payloads shows.gate shows.rest in
      record {
        gate = next.0;
        rest = next.1;
        is = shows.is ∙ append_assoc (birth capacity) (records payloads) (shows.gate ∷ shows.rest) ∙ ap (λ (l : List ℕ). birth capacity ++ l) next.2;
        allowed = shows.allowed;
      }

  behind_birth : drop 13 image ≡ records payloads ++ shows.gate ∷ shows.rest
  behind_birth =
      ap (λ (l : List ℕ). drop 13 l) (shows.is ∙ append_assoc (birth capacity) (records payloads) (shows.gate ∷ shows.rest))
      ∙ drop_at (birth capacity) (records payloads ++ shows.gate ∷ shows.rest) 13 (length-birth capacity)

  pub shows_once : (other : ℕ) (others : List (List ℕ)) → Shows other others image → (capacity ≡ other) × (payloads ≡ others)
  shows_once other others shows' =
      let next' = follows others shows'.gate shows'.rest in
      let has' : HasBirth other image = record {
        gate = next'.0;
        rest = next'.1;
        is = shows'.is ∙ append_assoc (birth other) (records others) (shows'.gate ∷ shows'.rest) ∙ ap (λ (l : List ℕ). birth other ++ l) next'.2;
        allowed = shows'.allowed;
      } in
      let behind' : drop 13 image ≡ records others ++ shows'.gate ∷ shows'.rest =
      ap (λ (l : List ℕ). drop 13 l) (shows'.is ∙ append_assoc (birth other) (records others) (shows'.gate ∷ shows'.rest)) ∙ drop_at (birth other) (records others ++ shows'.gate ∷ shows'.rest) 13 (length-birth other) in (
        capacity_once capacity other image shows_birth has',
        records_once payloads others shows.gate shows'.gate shows.rest shows'.rest shows.shut shows'.shut (omega (arith, shows.within, shows.allowed)) (omega (arith, shows'.within, shows'.allowed)) (sym behind_birth ∙ behind'),
      )

  pub shows_whole : (count : ℕ) → IsTornAfter count image → ⊥
  shows_whole count torn =
      let behind' : drop 13 image ≡ records torn.payloads ++ 1 ∷ torn.rest =
      ap (λ (l : List ℕ). drop 13 l) (torn.is ∙ append_assoc (birth torn.capacity) (records torn.payloads) (1 ∷ torn.rest)) ∙ drop_at (birth torn.capacity) (records torn.payloads ++ 1 ∷ torn.rest) 13 (length-birth torn.capacity) in
      let same : capacity ≡ torn.capacity = capacity_once capacity torn.capacity image shows_birth (torn_birth count image torn) in
      records_whole (capacity - 13) payloads torn.payloads shows.gate shows.rest torn.rest shows.shut (omega (arith, shows.allowed)) (omega (arith, shows.within)) (sym behind_birth ∙ behind')
      (omega (arith, torn.within, torn.allowed)) (λ left is. torn.none left (omega (arith, is, same, torn.within)))
