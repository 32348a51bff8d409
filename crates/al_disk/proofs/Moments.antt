-- How a run of calls goes on from moments to moments.
use Rattle.std.proofs.Common.{◌≡◌, inl, inr, ℕ, ◌≤◌, List, [], ◌∷◌, ◌++◌, length, refl, sym, ◌∙◌, ap, subst, append_assoc, arith}
use Rattle.al_disk.specs.Images.{Change, DoesPart, LeavesOnly, MayLeave, Moment}
use Rattle.al_disk.specs.States.{DiskState, MayChange, ReadsAsAnImage, synced, time, with_change}
use Rattle.al_disk.specs.Moments.{AllLeaveOnly, Between, Has, Since, SinceMoments}
use Rattle.al_disk.proofs.Parts.{same_part}

-- a weaker predicate
pub weaker_moments : (P R : List ℕ → Type 0) → ((image : List ℕ) → P image → R image) → (moments : List Moment) → AllLeaveOnly P moments → AllLeaveOnly R moments
weaker_moments P R so [] each = tt
weaker_moments P R so (m ∷ moments) each = (λ image left. so image (each.0 image left), weaker_moments P R so moments each.1)

pub weaker_since : (P R : List ℕ → Type 0) → ((image : List ℕ) → P image → R image) → (earlier : List Moment) (s : DiskState) → SinceMoments P earlier s → SinceMoments R earlier s
weaker_since P R so earlier s since = record { moments = since.moments; are = since.are; later = since.later; each = weaker_moments P R so since.moments since.each }

both_moments : (P : List ℕ → Type 0) (later moments : List Moment) → AllLeaveOnly P later → AllLeaveOnly P moments → AllLeaveOnly P (later ++ moments)
both_moments P [] moments first second = second
both_moments P (m ∷ later) moments first second = (first.0, both_moments P later moments first.1 second)

-- one moment more, before the others
pub one_earlier : (P : List ℕ → Type 0) (m : Moment) (earlier : List Moment) (s : DiskState) → LeavesOnly P m → SinceMoments P (m ∷ earlier) s → SinceMoments P earlier s
one_earlier P m earlier s leaves since = record {
  moments = since.moments ++ m ∷ [];
  are = since.are ∙ sym (append_assoc since.moments (m ∷ []) earlier);
  later = omega (arith, since.later);
  each = both_moments P since.moments (m ∷ []) since.each (leaves, tt);
}

-- one moment more, behind the others
pub one_later : (P : List ℕ → Type 0) (earlier : List Moment) (s t : DiskState) → LeavesOnly P t.now → t.past ≡ s.now ∷ s.past → SinceMoments P earlier s → SinceMoments P earlier t
one_later P earlier s t leaves past since = record {
  moments = t.now ∷ since.moments;
  are = ap (λ (l : List Moment). t.now ∷ l) (past ∙ since.are);
  later = omega (arith, since.later, ap (λ (l : List Moment). length l) past);
  each = (leaves, since.each);
}

module _ (P : List ℕ → Type 0) (earlier : List Moment) (old new : DiskState) where
  joined : (moments : List Moment) → old.now ∷ old.past ≡ moments ++ earlier → AllLeaveOnly P moments → length earlier ≤ length old.past → Between P old new → SinceMoments P earlier new
  joined [] are each fits after = absurd (let same : length (old.now ∷ old.past) ≡ length earlier = ap length are in omega (arith, same))
  joined (m ∷ moments) are each fits after =
      let past : old.past ≡ moments ++ earlier = cc in
      record {
        moments = after.moments ++ moments;
        are = after.are ∙ ap (λ (l : List Moment). after.moments ++ l) past ∙ sym (append_assoc after.moments moments earlier);
        later = omega (arith, fits, after.later);
        each = both_moments P after.moments moments after.each each.1;
      }

  -- what held of each moment up to a state, and from it on, holds of all of them
  pub goes_on : length earlier ≤ time old → SinceMoments P earlier old → Between P old new → SinceMoments P earlier new
  goes_on fits before after = joined before.moments before.are before.each fits after

-- the same, since a time
pub since_on : (P : List ℕ → Type 0) (t : ℕ) (old new : DiskState) → Since P t old → Between P old new → Since P t new
since_on P t old new before after = (before.0, before.1, goes_on P before.0 old new before.2.later before.2 after)

pub begins : (P R : List ℕ → Type 0) (s : DiskState) → P s.content → LeavesOnly P s.now → ((image : List ℕ) → P image → R image) → Has P R s.past s
begins P R s content images so = record {
  content = content;
  images = images;
  moments = record { moments = s.now ∷ []; are = refl; later = omega arith; each = (λ image left. so image (images image left), tt) };
}

pub after_sync : (P Q R : List ℕ → Type 0) (earlier : List Moment) (s t : DiskState) → t ≡ synced s → Has P R earlier s → Q s.content → ((image : List ℕ) → Q image → R image) → Has Q R earlier t
after_sync P Q R earlier s t is has content so =
    let images : LeavesOnly Q (synced s).now = λ image left. subst Q (sym left) content in
    let after : Has Q R earlier (synced s) = record { content = content; images = images; moments = one_later R earlier s (synced s) (λ image left. so image (images image left)) refl has.moments } in
    subst (Has Q R earlier) (sym is) after

module _ (P Q R : List ℕ → Type 0) (change : Change) (earlier : List Moment) (s t : DiskState) (has : Has P R earlier s)
    (part : (old new : List ℕ) → P old → DoesPart change old new → Q new) (so : (image : List ℕ) → Q image → R image) where
  pub after_change : (content : List ℕ) → DoesPart change s.content content → t ≡ with_change change content s → Has Q R earlier t
  after_change content done is =
      let next = with_change change content s in
      let images : LeavesOnly Q next.now = λ image left. part left.0 image (has.images left.0 left.1) left.2 in
      let after : Has Q R earlier next = record {
        content = part s.content content has.content done;
        images = images;
        moments = one_later R earlier s next (λ image left. so image (images image left)) refl has.moments;
      } in
      subst (Has Q R earlier) (sym is) after

  pub after_refusal : MayChange change s t → Has Q R earlier t
  after_refusal (inl same) =
      let after : Has Q R earlier s = record {
        content = part s.content s.content has.content (same_part change s.content);
        images = λ image left. part image image (has.images image left) (same_part change image);
        moments = has.moments;
      } in
      subst (Has Q R earlier) (sym same) after
  after_refusal (inr done) = after_change done.0 done.1 done.2

-- A state that reads as an image is synced: no image is new.
pub synced_since : (s : DiskState) → ReadsAsAnImage s → Between (λ image. MayLeave s.now image) s (synced s)
synced_since s reads = record {
  moments = (synced s).now ∷ s.now ∷ [];
  are = refl;
  later = omega arith;
  each = (λ image left. subst (MayLeave s.now) (sym left) reads, (λ image left. left, tt));
}
