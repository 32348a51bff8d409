-- Which history bytes show.
use Rattle.std.proofs.Common.{◌≡◌, inl, inr, ℕ, List, [], ◌∷◌, ◌++◌, refl, sym, ◌∙◌, ap, subst}
use Rattle.std.specs.List.{AllByRecursion}
use Rattle.std.proofs.lemmas.List.{append-nil}
use Rattle.al_frame.specs.Frames.{frame_of}
use Rattle.al_journal.specs.Laws.{ShowsABirth, ShowsNothingTorn, ShowsOnce}
use Rattle.al_model.specs.History.{IsLegal}
use Rattle.al_model.specs.Limits.{IsEntryWithin}
use Rattle.al_model.specs.State.{start}
use Rattle.al_model.specs.declared.entry.Entry.{Entry}
use Rattle.al_model.proofs.Histories.{all_within, legal_parts}
use Rattle.al_office.specs.Images.{ShowsHistory, frames_of}
use Rattle.al_office.specs.Laws.{ShowsOneHistory, ShownIsAJournal, ShownIsValid}
use Rattle.al_office.specs.Opening.{IsWrongBehind}

-- no frame begins another one, and two entries of one frame are one
abbrev pub FramesAreOne : Type 0
FramesAreOne = (a b : Entry) (more : List ℕ) → IsEntryWithin a → IsEntryWithin b → frame_of b ≡ frame_of a ++ more → (more ≡ []) × (a ≡ b)

module _ (one : FramesAreOne) where
  same_entry : (e f : Entry) → IsEntryWithin e → IsEntryWithin f → frame_of e ≡ frame_of f → e ≡ f
  same_entry e f e_within f_within is = sym (one f e [] f_within e_within (is ∙ sym (append-nil (frame_of f)))).1

  frames_once : (h k : List Entry) → AllByRecursion IsEntryWithin h → AllByRecursion IsEntryWithin k → frames_of h ≡ frames_of k → h ≡ k
  frames_once [] [] h_within k_within is = refl
  frames_once [] (f ∷ k) h_within k_within is = cc
  frames_once (e ∷ h) [] h_within k_within is = cc
  frames_once (e ∷ h) (f ∷ k) h_within k_within is =
      let first : frame_of e ≡ frame_of f = cc in
      let rest : frames_of h ≡ frames_of k = cc in
      let same = same_entry e f h_within.0 k_within.0 first in
      let others = frames_once h k h_within.1 k_within.1 rest in
      cc

  -- what stands in a history behind a front of its frames
  pub record Behind (h k : List Entry) (frame : List ℕ) : Type 0 where
    pub entry : Entry
    pub rest : List Entry
    pub is : h ≡ k ++ entry ∷ rest
    pub frame_is : frame ≡ frame_of entry

  behind : (h k : List Entry) (frame : List ℕ) (more : List (List ℕ)) → AllByRecursion IsEntryWithin h → AllByRecursion IsEntryWithin k → frames_of h ≡ frames_of k ++ frame ∷ more → Behind h k frame
  behind [] [] frame more h_within k_within is = cc
  behind [] (f ∷ k) frame more h_within k_within is = cc
  behind (e ∷ h) [] frame more h_within k_within is = record { entry = e; rest = h; is = refl; frame_is = (let first : frame ≡ frame_of e = cc in first) }
  behind (e ∷ h) (f ∷ k) frame more h_within k_within is =
      let first : frame_of e ≡ frame_of f = cc in
      let others : frames_of h ≡ frames_of k ++ frame ∷ more = cc in
      let same = same_entry e f h_within.0 k_within.0 first in
      let there = behind h k frame more h_within.1 k_within.1 others in
      record {
        entry = there.entry;
        rest = there.rest;
        is = (let whole : e ∷ h ≡ f ∷ (k ++ there.entry ∷ there.rest) = ap (λ (x : Entry). x ∷ h) same ∙ ap (λ (l : List Entry). f ∷ l) there.is in whole);
        frame_is = there.frame_is;
      }

  pub one_history : ShowsOnce → ShowsOneHistory
  one_history once image capacity other h k h_legal k_legal first second =
      let same = once image capacity other (frames_of h) (frames_of k) first second in
      (same.0, frames_once h k (all_within start h h_legal) (all_within start k k_legal) same.1)

  wrong : ShowsOnce → (image : List ℕ) (capacity : ℕ) (h : List Entry) (count : ℕ) → IsLegal h → ShowsHistory capacity h image → IsWrongBehind count image → ⊥
  wrong once image capacity h count legal shows w =
      let same = once image capacity w.capacity (frames_of h) (frames_of w.history ++ w.frame ∷ w.more) shows w.shows in
      let there = behind h w.history w.frame w.more (all_within start h legal) (all_within start w.history w.legal) same.1 in
      let parts = legal_parts start w.history (there.entry ∷ there.rest) (subst IsLegal there.is legal) in
      w.none there.entry there.frame_is parts.1.0

  pub valid : ShowsOnce → ShowsNothingTorn → ShownIsValid
  valid once whole image capacity h count legal shows (inl torn) = whole image capacity (frames_of h) count shows torn
  valid once whole image capacity h count legal shows (inr is_wrong) = wrong once image capacity h count legal shows is_wrong

pub a_journal : ShowsABirth → ShownIsAJournal
a_journal birth image capacity h shows none = none capacity (birth image capacity (frames_of h) shows)
