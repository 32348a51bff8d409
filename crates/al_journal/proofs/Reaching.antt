-- How the walk over the frames goes on and ends.
use Rattle.std.proofs.Common.{◌≡◌, inl, inr, ℕ, ◌+◌, ◌-◌, ◌<◌, ◌≤◌, List, [], ◌∷◌, ◌++◌, length, take, drop, get_or, Option, Result, Ok, Err, refl, sym, ◌∙◌, ap, subst, arith, append_assoc, length-append, length-drop, take-append-drop}
use Rattle.std.proofs.lemmas.List.{append-nil, drop_at, drop_more, length-take-le, length_push}
use Rattle.al_disk.specs.States.{DiskState, Goes, ReadsAsAnImage, Told, synced}
use Rattle.al_disk.proofs.Moments.{synced_since}
use Rattle.al_journal.specs.Format.{IsCapacity, before_gate, birth, framed, in_four}
use Rattle.al_journal.specs.Images.{HasBirth, HoldsNone, IsTornAfter}
use Rattle.al_journal.specs.Walks.{BeginsShut, Finds, IsCut, LeavesAsBefore, Reaches, Walked}
use Rattle.al_journal.specs.declared.walking.Opened.{Opened}
use Rattle.al_journal.specs.declared.faults.OpenFault.{OpenFault}
use Rattle.al_journal.specs.declared.faults.OpenFault.TheVariants.{Disk, Memory, NotAJournal, TornLength}
use Rattle.al_journal.proofs.Bearing.{birth_long}
use Rattle.al_journal.proofs.Gates.{further}
use Rattle.al_journal.proofs.Heads.{cut_frame}
use Rattle.al_journal.proofs.Pieces.{gate_of-push, length-before_gate, length-in_four}

-- the first gate
pub reach_begins : (capacity : ℕ) (content : List ℕ) → HasBirth capacity content → Reaches capacity 0 13 content
reach_begins capacity content has = record {
  payloads = [];
  rest = has.gate ∷ has.rest;
  frames = refl;
  place_is = refl;
  is = has.is ∙ ap (λ (l : List ℕ). l ++ has.gate ∷ has.rest) (sym (append-nil (birth capacity)));
  some = birth_long capacity content has;
}

-- a frame by its parts
pub by_parts : (size : ℕ) (behind : List ℕ) → size < length behind → in_four size ++ behind ≡ framed (take size behind) ++ get_or behind size 0 ∷ drop (size + 1) behind
by_parts size behind long =
    let payload = take size behind in
    let same : length payload ≡ size = length-take-le size behind (omega arith) in
    ap (λ (l : List ℕ). in_four size ++ l) (sym (take-append-drop size behind) ∙ ap (λ (l : List ℕ). payload ++ l) (drop_more behind size 0 long))
    ∙ ap (λ (n : ℕ). in_four n ++ (payload ++ get_or behind size 0 ∷ drop (size + 1) behind)) (sym same)
    ∙ sym (append_assoc (in_four (length payload)) payload (get_or behind size 0 ∷ drop (size + 1) behind))

module _ (capacity count place : ℕ) (content : List ℕ) (reaches : Reaches capacity count place content) where
  tail_is : drop place content ≡ reaches.rest
  tail_is =
      ap (λ (l : List ℕ). drop place l) reaches.is
      ∙ drop_at (before_gate capacity reaches.payloads) reaches.rest place (length-before_gate capacity reaches.payloads ∙ sym reaches.place_is)

  with_tail : (tail : List ℕ) → drop place content ≡ tail → content ≡ before_gate capacity reaches.payloads ++ tail
  with_tail tail is = reaches.is ∙ ap (λ (l : List ℕ). before_gate capacity reaches.payloads ++ l) (sym tail_is ∙ is)

  behind_size : (size : ℕ) (behind : List ℕ) → drop place content ≡ 1 ∷ (in_four size ++ behind) → length content ≡ place + 5 + length behind
  behind_size size behind is =
      omega (arith, reaches.some, length-drop place content, ap (λ (l : List ℕ). length l) is, length-append (in_four size) behind, length-in_four size)

  -- a whole frame more
  pub advances : (size : ℕ) (behind : List ℕ) → drop place content ≡ 1 ∷ (in_four size ++ behind) → place + size + 6 ≤ length content → Reaches capacity (count + 1) (place + (size + 5)) content
  advances size behind is fits =
      let long : size < length behind = omega (arith, behind_size size behind is, fits) in
      let payload = take size behind in
      let next = get_or behind size 0 in
      let more = drop (size + 1) behind in
      record {
        payloads = reaches.payloads ++ payload ∷ [];
        rest = next ∷ more;
        frames = omega (arith, length_push reaches.payloads payload, reaches.frames);
        place_is = omega (arith, reaches.place_is, gate_of-push reaches.payloads payload, length-take-le size behind (omega (arith, long)));
        is = with_tail (1 ∷ (framed payload ++ next ∷ more)) (is ∙ ap (λ (l : List ℕ). 1 ∷ l) (by_parts size behind long)) ∙ further capacity reaches.payloads payload next more;
        some = omega (arith, fits);
      }

  module _ (allowed : IsCapacity capacity) (room : place < capacity) where
    pub ends_closed : BeginsShut (drop place content) → Walked capacity (Ok place) content
    ends_closed shut = (
      reaches.payloads,
      record {
        gate = shut.0;
        rest = shut.1;
        is = with_tail (shut.0 ∷ shut.1) shut.2;
        shut = shut.3;
        within = omega (arith, room, reaches.place_is);
        allowed = allowed;
      },
      reaches.place_is,
    )

    torn : (rest : List ℕ) → drop place content ≡ 1 ∷ rest → HoldsNone (capacity - place) rest → IsTornAfter count content
    torn rest is none = record {
      capacity = capacity;
      payloads = reaches.payloads;
      rest = rest;
      frames = reaches.frames;
      is = with_tail (1 ∷ rest) is;
      within = omega (arith, room, reaches.place_is);
      allowed = allowed;
      none = λ left is_left. let same : capacity - place ≡ left = omega (arith, is_left, reaches.place_is) in subst (λ (n : ℕ). HoldsNone n rest) same none;
    }

    pub ends_cut : IsCut (capacity - place) (drop place content) → IsTornAfter count content
    ends_cut cut = elim cut.unshut [
      | inl empty ↦ absurd (omega (arith, reaches.some, length-drop place content, ap (λ (l : List ℕ). length l) empty))
      | inr begins ↦ torn begins.0 begins.1 (cut.none begins.0 begins.1)
    ]

    pub ends_long : (size : ℕ) (behind : List ℕ) → drop place content ≡ 1 ∷ (in_four size ++ behind) → 6 + size ≤ capacity - place → length content < place + size + 6 → IsTornAfter count content
    ends_long size behind is fits short =
        ends_cut (cut_frame (capacity - place) size (omega (arith, allowed)) fits (drop place content) behind [] is (omega (arith, behind_size size behind is, short)))

-- The disk was synced, and then only read.
pub synced_goes : (Q : List ℕ → Type 0) (old between new : Option DiskState) → Goes (λ s t. t ≡ synced s) old between → new ≡ between → Told between (λ s. Q s.content) → Goes (λ s t. (t ≡ synced s) × Q s.content) old new
synced_goes Q old between new first same told = record {
  silent = λ none. same ∙ first.silent none;
  goes = λ s is. let after = first.goes s is in (after.0, same ∙ after.1, (after.2, subst (λ (t : DiskState). Q t.content) after.2 (told after.0 after.1)));
}

pub walk_refused : (capacity : ℕ) (fault : OpenFault) (s t : DiskState) → t ≡ synced s → Walked capacity (Err fault) s.content → Finds (Err fault) s t
walk_refused capacity NotAJournal s t syncs walked = absurd walked
walk_refused capacity (TornLength count) s t syncs walked = (syncs, walked)
walk_refused capacity Disk s t syncs walked = inr syncs
walk_refused capacity Memory s t syncs walked = absurd walked

still : (s : DiskState) → LeavesAsBefore s s
still s = record { moments = s.now ∷ []; are = refl; later = omega arith; each = (λ image left. left, tt) }

pub stays_as_before : (s t : DiskState) → t ≡ s → LeavesAsBefore s t
stays_as_before s t same = subst (LeavesAsBefore s) (sym same) (still s)

syncs_as_before : (s t : DiskState) → ReadsAsAnImage s → t ≡ synced s → LeavesAsBefore s t
syncs_as_before s t reads is = subst (LeavesAsBefore s) (sym is) (synced_since s reads)

-- opening leaves what was possible before
pub finds_as_before : (result : Result Opened OpenFault) (s t : DiskState) → ReadsAsAnImage s → Finds result s t → LeavesAsBefore s t
finds_as_before (Ok opened) s t reads finds = syncs_as_before s t reads finds.0
finds_as_before (Err NotAJournal) s t reads finds = syncs_as_before s t reads finds.0
finds_as_before (Err (TornLength count)) s t reads finds = syncs_as_before s t reads finds.0
finds_as_before (Err Disk) s t reads (inl same) = stays_as_before s t same
finds_as_before (Err Disk) s t reads (inr is) = syncs_as_before s t reads is
finds_as_before (Err Memory) s t reads finds = absurd finds
