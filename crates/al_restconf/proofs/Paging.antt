-- Pages of the journal, frame by frame.
use Rattle.std.proofs.Common.{◌≡◌, ℕ, zero, suc, ◌+◌, ◌-◌, ◌<◌, ◌≤◌, Bool, true, false, Some, None, Ok, Err, List, [], ◌∷◌, ◌++◌, length, drop, map, refl, sym, ap, ◌∙◌, append_assoc, add-one, arith, nat_le}
use Rattle.std.specs.List.{AllByRecursion, slice_get}
use Rattle.std.specs.Prelude.{codes, option_map}
use Rattle.std.proofs.lemmas.List.{append-nil}
use Rattle.std.proofs.lemmas.Option.{slice_get-map}
use Rattle.std.proofs.lemmas.Bool.{le-leb, leb-true}
use Rattle.al_frame.specs.Frames.{frame_of}
use Rattle.al_model.proofs.Histories.{all_within}
use Rattle.al_model.specs.History.{IsLegal}
use Rattle.al_model.specs.Limits.{IsEntryWithin}
use Rattle.al_model.specs.State.{start}
use Rattle.al_model.specs.declared.entry.Entry.{Entry}
use Rattle.al_office.specs.Images.{frames_of}
use Rattle.hex.specs.Hex.{encode_lower}
use Rattle.al_fields.specs.Lengths.{saturated}
use Rattle.al_fields.specs.Members.{object_of}
use Rattle.al_http.specs.declared.response.Content.TheVariants as contents
use Rattle.al_uri.specs.declared.target.Target.TheVariants.{JournalPage}
use Rattle.serde_json.specs.Written.{compact_text}
use Rattle.al_restconf.specs.Members.{page_shown}
use Rattle.al_restconf.specs.Pages.{front_within, page_of, page_tree}
use Rattle.al_restconf.specs.Reads.{read_of, shown}
use Rattle.al_restconf.specs.declared.fault.Fault.TheVariants.{TooBig}

-- what stands at an index is the first of what stands from there on
pub dropped_some : {X : Type 0} (xs : List X) (n : ℕ) (x : X) → Some x ≡ slice_get xs n → drop n xs ≡ x ∷ drop (n + 1) xs
dropped_some [] zero x some = absurd (cc)
dropped_some [] (suc n) x some = absurd (cc)
dropped_some (y ∷ xs) zero x some = let e : x ≡ y = cc in rw e refl
dropped_some (y ∷ xs) (suc n) x some = rw add-one (rw add-one at (dropped_some xs n x some))

pub dropped_none : {X : Type 0} (xs : List X) (n : ℕ) → None ≡ slice_get xs n → drop n xs ≡ []
dropped_none [] zero none = refl
dropped_none [] (suc n) none = refl
dropped_none (y ∷ xs) zero none = absurd (cc)
dropped_none (y ∷ xs) (suc n) none = dropped_none xs n none

-- nothing stands before nothing
pub front_none : (count room : ℕ) → front_within count room [] ≡ []
front_none zero room = refl
front_none (suc count) room = refl

pub too_long : (a b : ℕ) (test : Bool) → nat_le a b ≡ test → b < a → test ≡ false
too_long a b true is lt = absurd (omega (arith, leb-true a b is, lt))
too_long a b false is lt = refl

-- a frame for which there is room
pub front_more : (more room : ℕ) (frame : List ℕ) (frames : List (List ℕ)) → more < 63 → length frame ≤ room → front_within (63 - more) room (frame ∷ frames) ≡ frame ∷ front_within (63 - (more + 1)) (room - length frame) frames
front_more more room frame frames few fits =
    let left : 63 - more ≡ suc (63 - (more + 1)) = omega (arith, few) in
    rw (left, le-leb (length frame) room fits) refl

-- a frame for which there is none
pub front_stop : (more room : ℕ) (frame : List ℕ) (frames : List (List ℕ)) → more < 63 → room < length frame → front_within (63 - more) room (frame ∷ frames) ≡ []
front_stop more room frame frames few long =
    let left : 63 - more ≡ suc (63 - (more + 1)) = omega (arith, few) in
    rw (left, too_long (length frame) room _ refl long) refl

-- an entry of a legal history is within limits
within_at : (h : List Entry) (n : ℕ) (e : Entry) → AllByRecursion IsEntryWithin h → Some e ≡ slice_get h n → IsEntryWithin e
within_at [] zero e within some = absurd (cc)
within_at [] (suc n) e within some = absurd (cc)
within_at (f ∷ h) zero e within some = let is : e ≡ f = cc in rw is within.0
within_at (f ∷ h) (suc n) e within some = within_at h n e within.1 some

pub entry_is_within : (h : List Entry) (n : ℕ) (e : Entry) → IsLegal h → Some e ≡ slice_get h n → IsEntryWithin e
entry_is_within h n e legal some = within_at h n e (all_within start h legal) some

-- the frame at an index is that of the entry there
pub frame_is : (h : List Entry) (n : ℕ) (e : Entry) → Some e ≡ slice_get h n → Some (frame_of e) ≡ slice_get (frames_of h) n
frame_is h n e some = sym (slice_get-map frame_of h n ∙ ap (option_map frame_of) (sym some))

pub no_frame : (h : List Entry) (n : ℕ) → None ≡ slice_get h n → None ≡ slice_get (frames_of h) n
no_frame h n none = sym (slice_get-map frame_of h n ∙ ap (option_map frame_of) (sym none))

-- ---- the texts of a page

-- no frame is left
pub none_left : (texts target frames : List (List ℕ)) (count left n : ℕ) → texts ++ map encode_lower (front_within count left (drop n frames)) ≡ target → None ≡ slice_get frames n → texts ≡ target
none_left texts target frames count left n so_far none =
    let nothing : front_within count left (drop n frames) ≡ [] = rw (dropped_none frames n none) (front_none count left) in
    sym (append-nil texts) ∙ (rw nothing at so_far)

-- the next frame has no room
pub none_fits : (texts target frames : List (List ℕ)) (frame : List ℕ) (more left n : ℕ) → texts ++ map encode_lower (front_within (63 - more) left (drop n frames)) ≡ target → more < 63 → Some frame ≡ slice_get frames n → left < length frame → texts ≡ target
none_fits texts target frames frame more left n so_far few some long =
    let nothing : front_within (63 - more) left (drop n frames) ≡ [] = rw (dropped_some frames n frame some) (front_stop more left frame (drop (n + 1) frames) few long) in
    sym (append-nil texts) ∙ (rw nothing at so_far)

-- the next frame has room
pub one_fits : (texts target frames : List (List ℕ)) (frame : List ℕ) (more left next : ℕ) → texts ++ map encode_lower (front_within (63 - more) left (drop (next + more) frames)) ≡ target → more < 63 → Some frame ≡ slice_get frames (next + more) → length frame ≤ left
    → (texts ++ encode_lower frame ∷ []) ++ map encode_lower (front_within (63 - (more + 1)) (left - length frame) (drop (next + (more + 1)) frames)) ≡ target
one_fits texts target frames frame more left next so_far few some fits =
    let on : next + (more + 1) ≡ next + more + 1 = omega arith in
    let one : front_within (63 - more) left (drop (next + more) frames) ≡ frame ∷ front_within (63 - (more + 1)) (left - length frame) (drop (next + more + 1) frames)
    = rw (dropped_some frames (next + more) frame some) (front_more more left frame (drop (next + more + 1) frames) few fits) in
    rw on (append_assoc texts (encode_lower frame ∷ []) (map encode_lower (front_within (63 - (more + 1)) (left - length frame) (drop (next + more + 1) frames))) ∙ (rw one at so_far))

-- as many frames were read as a page has
pub all_read : (texts target frames : List (List ℕ)) (more left : ℕ) → texts ++ map encode_lower (front_within (63 - more) left frames) ≡ target → more ≡ 63 → texts ≡ target
all_read texts target frames more left so_far full = sym (append-nil texts) ∙ (rw full at so_far)

-- a page that begins past the last frame
pub page_none : (history : List Entry) (from : ℕ) (texts : List (List ℕ)) → texts ≡ [] → None ≡ slice_get (frames_of history) from → texts ≡ map encode_lower (page_of history from)
unfolding page_of
page_none history from texts nothing none = rw (nothing, dropped_none (frames_of history) from none) refl

-- a page that begins with a frame
pub page_some : (history : List Entry) (from : ℕ) (texts : List (List ℕ)) (frame : List ℕ) → Some frame ≡ slice_get (frames_of history) from
    → texts ≡ (encode_lower frame ∷ []) ++ map encode_lower (front_within 63 (1048576 - length frame) (drop (from + 1) (frames_of history))) → texts ≡ map encode_lower (page_of history from)
unfolding page_of
page_some history from texts frame some is = rw (dropped_some (frames_of history) from frame some) is

-- ---- what is answered

-- the page of these texts is that of the history
page_is : (history : List Entry) (from place : ℕ) (texts : List (List ℕ)) → texts ≡ map encode_lower (page_of history from) → place ≡ length history → page_shown texts place ≡ page_tree history from
unfolding page_shown page_tree
page_is history from place texts are long = rw (are, long) refl

-- what stands under the name of the journal
abbrev pub shown_text : List (List ℕ) → ℕ → List ℕ
shown_text texts place = compact_text (object_of ((codes "alarmd:journal", Some (page_shown texts place)) ∷ []))

-- a page whose text is too long
pub page_too_big : (history : List Entry) (from place len : ℕ) (texts : List (List ℕ)) → texts ≡ map encode_lower (page_of history from) → place ≡ length history
    → Some len ≡ Some (saturated (length (shown_text texts place))) → 67108864 < len → read_of history (JournalPage from) ≡ Err TooBig
unfolding read_of
page_too_big history from place len texts are long measured big =
    let same : len ≡ saturated (length (shown_text texts place)) = (let is = measured in cc) in
    let long_text : 67108864 < length (shown_text texts place) = omega (arith, same, big) in
    let none : nat_le (length (shown_text texts place)) 67108864 ≡ false = too_long (length (shown_text texts place)) 67108864 _ refl long_text in
    rw (← page_is history from place texts are long, none) refl

-- a page whose text is short enough
pub page_answered : (history : List Entry) (from place len : ℕ) (texts : List (List ℕ)) (text : List ℕ) → texts ≡ map encode_lower (page_of history from) → place ≡ length history
    → Some len ≡ Some (saturated (length (shown_text texts place))) → len ≤ 67108864 → text ≡ shown_text texts place → read_of history (JournalPage from) ≡ Ok (shown place (contents.Tree text))
unfolding read_of
page_answered history from place len texts text are long measured short is =
    let same : len ≡ saturated (length (shown_text texts place)) = (let it = measured in cc) in
    let short_text : length (shown_text texts place) ≤ 67108864 = omega (arith, same, short) in
    let some : nat_le (length (shown_text texts place)) 67108864 ≡ true = le-leb (length (shown_text texts place)) 67108864 short_text in
    rw (← page_is history from place texts are long, some, is, long) refl
