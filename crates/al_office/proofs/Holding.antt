-- What a journal and its images say of a history, as the history grows.
use Rattle.std.proofs.Common.{◌≡◌, ◌⊎◌, inl, inr, ℕ, ◌+◌, ◌*◌, ◌≤◌, List, [], ◌∷◌, ◌++◌, length, take, refl, sym, subst, arith, length-append}
use Rattle.std.proofs.Math.Seq.{take-length}
use Rattle.std.proofs.lemmas.List.{map-append, take-append-le}
use Rattle.al_disk.specs.Moments.{Between, Since}
use Rattle.al_disk.specs.Images.{MayLeave}
use Rattle.al_disk.specs.States.{DiskState, time}
use Rattle.al_disk.proofs.Moments.{since_on, weaker_since}
use Rattle.al_frame.specs.Frames.{frame_of}
use Rattle.al_journal.specs.Format.{framed, gate_of, records}
use Rattle.al_journal.specs.Images.{Shows, ShowsWithOrWithout}
use Rattle.al_journal.proofs.Pieces.{length-framed}
use Rattle.al_model.specs.History.{Fits, replay}
use Rattle.al_model.specs.declared.entry.Entry.{Entry}
use Rattle.al_office.specs.Images.{ShowsFront, ShowsHistory, ShowsNear, frames_of, used_by}
use Rattle.al_office.specs.Ledger.{CanNote}
use Rattle.al_office.proofs.Notes.{few_notes}

-- ---- frames

pub frames-push : (h : List Entry) (e : Entry) → frames_of (h ++ e ∷ []) ≡ frames_of h ++ frame_of e ∷ []
frames-push h e = map-append frame_of h (e ∷ [])

pub used-push : (h : List Entry) (e : Entry) → used_by (h ++ e ∷ []) ≡ used_by h + 5 + length (frame_of e)
used-push [] e = refl
used-push (x ∷ h) e = omega (arith, used-push h e)

-- the used bytes are those up to the gate, and the gate
pub used-gate : (h : List Entry) → gate_of (frames_of h) + 1 ≡ used_by h
used-gate [] = refl
used-gate (e ∷ h) =
    omega (arith, used-gate h, length-append (framed (frame_of e)) (records (frames_of h)), length-framed (frame_of e))

used_long : (h : List Entry) → 14 + 5 * length h ≤ used_by h
used_long [] = omega arith
used_long (e ∷ h) = omega (arith, used_long h)

-- A journal has no room for so many entries that their notes had no numbers.
pub can_note : (h : List Entry) → used_by h ≤ 268435456 → CanNote h
can_note h within = omega (arith, few_notes h, used_long h)

-- ---- images

-- the frames of one more entry are one more payload
pub near_is : (capacity : ℕ) (h : List Entry) (e : Entry) (image : List ℕ) → ShowsWithOrWithout capacity (frames_of h) (frame_of e) image → ShowsNear capacity h e image
near_is capacity h e image (inl shows) = inl shows
near_is capacity h e image (inr shows) = inr (subst (λ (l : List (List ℕ)). Shows capacity l image) (sym (frames-push h e)) shows)

pub near_between : (capacity : ℕ) (h : List Entry) (e : Entry) (s t : DiskState) → Between (ShowsWithOrWithout capacity (frames_of h) (frame_of e)) s t → Between (ShowsNear capacity h e) s t
near_between capacity h e s t between =
    weaker_since (ShowsWithOrWithout capacity (frames_of h) (frame_of e)) (ShowsNear capacity h e) (near_is capacity h e) s.past t between

-- the whole history is a front of it
whole_front : (capacity least : ℕ) (h : List Entry) → least ≤ length h → (image : List ℕ) → ShowsHistory capacity h image → ShowsFront capacity least h image
whole_front capacity least h long image shows = record {
  count = length h;
  enough = long;
  within = omega arith;
  shows = inl (subst (λ (l : List Entry). ShowsHistory capacity l image) (sym (take-length h)) shows);
}

with_front : (capacity least : ℕ) (h : List Entry) (e : Entry) → least ≤ length h → Fits (replay h) e → (image : List ℕ) → ShowsHistory capacity (h ++ e ∷ []) image → ShowsFront capacity least h image
with_front capacity least h e long fits image shows = record {
  count = length h;
  enough = long;
  within = omega arith;
  shows = inr (e, subst (λ (l : List Entry). Fits (replay l) e) (sym (take-length h)) fits, subst (λ (l : List Entry). ShowsHistory capacity (l ++ e ∷ []) image) (sym (take-length h)) shows);
}

near_front : (capacity least : ℕ) (h : List Entry) (e : Entry) → least ≤ length h → Fits (replay h) e → (image : List ℕ) → ShowsNear capacity h e image → ShowsFront capacity least h image
near_front capacity least h e long fits image (inl shows) = whole_front capacity least h long image shows
near_front capacity least h e long fits image (inr shows) = with_front capacity least h e long fits image shows

-- a front of the history is one of a longer history
front_push : (capacity least : ℕ) (h : List Entry) (e : Entry) (image : List ℕ) → ShowsFront capacity least h image → ShowsFront capacity least (h ++ e ∷ []) image
front_push capacity least h e image front =
    let same : take front.count (h ++ e ∷ []) ≡ take front.count h = take-append-le front.count h (e ∷ []) front.within in
    record {
      count = front.count;
      enough = front.enough;
      within = omega (arith, front.within, length-append h (e ∷ []));
      shows = subst (λ (l : List Entry). ShowsHistory capacity l image ⊎ ((further : Entry) × Fits (replay l) further × ShowsHistory capacity (l ++ further ∷ []) image)) (sym same) front.shows;
    }

-- ---- since the office was opened

module _ (capacity least since : ℕ) (h : List Entry) (e : Entry) where
  -- an entry was written behind the history, or a part of that was done
  pub since_near : (s t : DiskState) → least ≤ length h → Fits (replay h) e → Since (ShowsFront capacity least h) since s → Between (ShowsNear capacity h e) s t → Since (ShowsFront capacity least h) since t
  since_near s t long fits before after =
      since_on (ShowsFront capacity least h) since s t before
      (weaker_since (ShowsNear capacity h e) (ShowsFront capacity least h) (near_front capacity least h e long fits) s.past t after)

  pub since_push : (s : DiskState) → Since (ShowsFront capacity least h) since s → Since (ShowsFront capacity least (h ++ e ∷ [])) since s
  since_push s before =
      (before.0, before.1, weaker_since (ShowsFront capacity least h) (ShowsFront capacity least (h ++ e ∷ [])) (front_push capacity least h e) before.0 s before.2)

-- a disk that leaves the history alone, just opened
pub since_opened : (capacity : ℕ) (h : List Entry) (s : DiskState) → ((image : List ℕ) → MayLeave s.now image → ShowsHistory capacity h image) → Since (ShowsFront capacity (length h) h) (time s) s
since_opened capacity h s leaves = (
  s.past,
  refl,
  record {
    moments = s.now ∷ [];
    are = refl;
    later = omega arith;
    each = (λ image left. whole_front capacity (length h) h (omega arith) image (leaves image left), tt);
  },
)
