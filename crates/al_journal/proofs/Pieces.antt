-- Lengths and parts of records.
use Rattle.std.proofs.Common.{◌≡◌, ℕ, ◌+◌, ◌-◌, List, [], ◌∷◌, ◌++◌, length, take, drop, refl, sym, ◌∙◌, ap, arith, append_assoc, length-append}
use Rattle.std.proofs.lemmas.List.{append-nil, drop_at, take_at}
use Rattle.al_journal.specs.Format.{birth, framed, gate_of, in_eight, in_four, piece_of, records, before_gate}

pub length-in_four : (n : ℕ) → length (in_four n) ≡ 4
unfolding in_four
length-in_four n = refl

pub length-in_eight : (n : ℕ) → length (in_eight n) ≡ 8
unfolding in_eight
length-in_eight n = refl

pub length-birth : (capacity : ℕ) → length (birth capacity) ≡ 13
length-birth capacity = omega (arith, length-in_eight capacity)

pub length-framed : (payload : List ℕ) → length (framed payload) ≡ 4 + length payload
length-framed payload = omega (arith, length-append (in_four (length payload)) payload, length-in_four (length payload))

pub length-piece_of : (payload : List ℕ) → length (piece_of payload) ≡ 5 + length payload
length-piece_of payload = omega (arith, length-append (framed payload) (0 ∷ []), length-framed payload)

pub length-before_gate : (capacity : ℕ) (payloads : List (List ℕ)) → length (before_gate capacity payloads) ≡ gate_of payloads
length-before_gate capacity payloads = omega (arith, length-append (birth capacity) (records payloads), length-birth capacity)

-- the payload of a piece, by its places
pub payload-piece_of : (payload : List ℕ) → take (length (piece_of payload) - 5) (drop 4 (piece_of payload)) ≡ payload
payload-piece_of payload =
    let behind : drop 4 (piece_of payload) ≡ payload ++ 0 ∷ [] =
    ap (λ (l : List ℕ). drop 4 l) (append_assoc (in_four (length payload)) payload (0 ∷ [])) ∙ drop_at (in_four (length payload)) (payload ++ 0 ∷ []) 4 (length-in_four (length payload)) in
    ap (λ (l : List ℕ). take (length (piece_of payload) - 5) l) behind ∙ take_at payload (0 ∷ []) (length (piece_of payload) - 5) (omega (arith, length-piece_of payload))

pub records-push : (payloads : List (List ℕ)) (payload : List ℕ) → records (payloads ++ payload ∷ []) ≡ records payloads ++ 1 ∷ framed payload
records-push [] payload = append-nil (1 ∷ framed payload)
records-push (first ∷ payloads) payload =
    ap (λ (l : List ℕ). 1 ∷ (framed first ++ l)) (records-push payloads payload) ∙ ap (λ (l : List ℕ). 1 ∷ l) (sym (append_assoc (framed first) (records payloads) (1 ∷ framed payload)))

pub gate_of-push : (payloads : List (List ℕ)) (payload : List ℕ) → gate_of (payloads ++ payload ∷ []) ≡ gate_of payloads + 5 + length payload
gate_of-push payloads payload =
    omega (arith, ap (λ (l : List ℕ). length l) (records-push payloads payload), length-append (records payloads) (1 ∷ framed payload), length-framed payload)
