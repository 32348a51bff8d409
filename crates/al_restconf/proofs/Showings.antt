-- What a read shows, by the length and the text of a tree.
use Rattle.std.proofs.Common.{◌≡◌, ℕ, ◌<◌, ◌≤◌, true, false, Option, None, Some, Ok, Err, List, length, refl, arith}
use Rattle.std.specs.Prelude.{nat_le, option_map}
use Rattle.std.proofs.lemmas.Bool.{le-leb}
use Rattle.al_base.specs.Answers.{and_then, or_fault}
use Rattle.al_fields.specs.Lengths.{saturated}
use Rattle.al_fields.specs.Texts.{text_of}
use Rattle.al_http.specs.declared.response.Content.TheVariants as contents
use Rattle.al_json.specs.Trees.{tree_of}
use Rattle.al_model.specs.History.{replay}
use Rattle.al_model.specs.declared.entry.Entry.{Entry}
use Rattle.al_uri.specs.declared.target.Target.{Target}
use Rattle.al_uri.specs.declared.target.Target.TheVariants.{HostMeta, JournalPage}
use Rattle.serde_json.specs.Data.{Data}
use Rattle.serde_json.specs.Written.{compact_text}
use Rattle.al_restconf.proofs.Paging.{too_long}
use Rattle.al_restconf.specs.Reads.{absence, read_of, shown, within_size}
use Rattle.al_restconf.specs.declared.fault.Fault.{Fault}
use Rattle.al_restconf.specs.declared.fault.Fault.TheVariants.{TooBig}

-- a read of all but the description of the host and pages of the journal
read_is : (history : List Entry) (target : Target) (t : Option Data) → ¬ (target ≡ HostMeta) → ((start : ℕ) → ¬ (target ≡ JournalPage start)) → t ≡ tree_of target (replay history)
    → read_of history target ≡ and_then (or_fault (absence target) t) (λ tree. within_size (length history) (compact_text tree))
unfolding read_of
read_is history HostMeta t host page is = absurd (host refl)
read_is history (JournalPage from) t host page is = absurd (page from refl)
read_is history other t host page is = rw is refl

measured_big : (absent : Fault) (place len : ℕ) (t : Option Data) → Some len ≡ option_map (λ tree. saturated (length (compact_text tree))) t → 67108864 < len
    → and_then (or_fault absent t) (λ tree. within_size place (compact_text tree)) ≡ Err TooBig
measured_big absent place len None measured big = absurd (cc)
measured_big absent place len (Some tree) measured big =
    let same : len ≡ saturated (length (compact_text tree)) = (let is = measured in cc) in
    let long_text : 67108864 < length (compact_text tree) = omega (arith, same, big) in
    let none : nat_le (length (compact_text tree)) 67108864 ≡ false = too_long (length (compact_text tree)) 67108864 _ refl long_text in
    rw none refl

measured_small : (absent : Fault) (place len : ℕ) (t : Option Data) (text : List ℕ) → Some len ≡ option_map (λ tree. saturated (length (compact_text tree))) t → len ≤ 67108864 → text ≡ text_of t
    → and_then (or_fault absent t) (λ tree. within_size place (compact_text tree)) ≡ Ok (shown place (contents.Tree text))
measured_small absent place len None text measured short is = absurd (cc)
measured_small absent place len (Some tree) text measured short is =
    let same : len ≡ saturated (length (compact_text tree)) = (let it = measured in cc) in
    let short_text : length (compact_text tree) ≤ 67108864 = omega (arith, same, short) in
    let some : nat_le (length (compact_text tree)) 67108864 ≡ true = le-leb (length (compact_text tree)) 67108864 short_text in
    rw (some, is) refl

-- a text that is too long
pub state_too_big : (history : List Entry) (target : Target) (len : ℕ) (t : Option Data) → ¬ (target ≡ HostMeta) → ((start : ℕ) → ¬ (target ≡ JournalPage start)) → t ≡ tree_of target (replay history)
    → Some len ≡ option_map (λ tree. saturated (length (compact_text tree))) t → 67108864 < len → read_of history target ≡ Err TooBig
state_too_big history target len t host page is measured big =
    rw (read_is history target t host page is) (measured_big (absence target) (length history) len t measured big)

-- a text that is short enough
pub state_answered : (history : List Entry) (target : Target) (place len : ℕ) (t : Option Data) (text : List ℕ) → ¬ (target ≡ HostMeta) → ((start : ℕ) → ¬ (target ≡ JournalPage start))
    → t ≡ tree_of target (replay history) → place ≡ length history → Some len ≡ option_map (λ tree. saturated (length (compact_text tree))) t → len ≤ 67108864 → text ≡ text_of t
    → read_of history target ≡ Ok (shown place (contents.Tree text))
state_answered history target place len t text host page is long measured short written =
    rw (read_is history target t host page is, long) (measured_small (absence target) (length history) len t text measured short written)
