-- The frames of a journal, read one after the other.
use Rattle.std.proofs.Common.{◌≡◌, ℕ, ◌+◌, ◌<◌, ◌≤◌, List, [], ◌∷◌, ◌++◌, length, take, get_or, Err, sym, ◌∙◌, ap, subst, arith, append_assoc, length-append}
use Rattle.std.proofs.Math.Seq.{get_or-append_seam}
use Rattle.std.proofs.lemmas.List.{length-map, nil_from_length, take_at}
use Rattle.al_frame.specs.Frames.{frame_of}
use Rattle.al_journal.specs.Format.{gate_of}
use Rattle.al_journal.specs.Images.{Shows}
use Rattle.al_journal.specs.Walks.{IsNext}
use Rattle.al_journal.specs.declared.faults.OpenFault.{OpenFault}
use Rattle.al_journal.specs.declared.faults.OpenFault.TheVariants as opens
use Rattle.al_model.specs.declared.entry.Entry.{Entry}
use Rattle.al_office.specs.Faults.{office_fault}
use Rattle.al_office.specs.Images.{frames_of, used_by}
use Rattle.al_office.specs.Reading.{IsEntryIn, IsHistoryIn, IsRead}
use Rattle.al_office.specs.declared.fault.OfficeFault.{OfficeFault}
use Rattle.al_office.specs.declared.fault.OfficeFault.TheVariants.{Disk, Invalid, Memory, NotAJournal}
use Rattle.al_office.proofs.Holding.{frames-push, used-gate}

module _ (h : List Entry) (left : List (List ℕ)) where
  front_length : length (frames_of h) ≡ length h
  front_length = length-map h frame_of

  pub front_few : length h ≤ length (frames_of h ++ left)
  front_few = omega (arith, front_length, length-append (frames_of h) left)

  front_taken : take (length h) (frames_of h ++ left) ≡ frames_of h
  front_taken = take_at (frames_of h) left (length h) front_length

  pub at_gate : (next : ℕ) → next + 1 ≡ used_by h → next ≡ gate_of (take (length h) (frames_of h ++ left))
  at_gate next place =
      let here : next ≡ gate_of (frames_of h) = omega (arith, place, used-gate h) in
      here ∙ ap gate_of (sym front_taken)

  pub none_left : length h ≡ length (frames_of h ++ left) → left ≡ []
  none_left all = nil_from_length left (omega (arith, all, front_length, length-append (frames_of h) left))

-- the next frame
pub one_left : (h : List Entry) (left : List (List ℕ)) (frame : List ℕ) → length h < length (frames_of h ++ left) → frame ≡ get_or (frames_of h ++ left) (length h) [] → (more : List (List ℕ)) × (left ≡ frame ∷ more)
one_left h [] frame some is = absurd (omega (arith, some, length-map h frame_of, length-append (frames_of h) []))
one_left h (x ∷ left) frame some is =
    let here : get_or (frames_of h ++ x ∷ left) (length h) [] ≡ x =
    ap (λ n. get_or (frames_of h ++ x ∷ left) n []) (sym (length-map h frame_of)) ∙ get_or-append_seam (frames_of h) x left [] in
    (left, ap (λ (f : List ℕ). f ∷ left) (sym (is ∙ here)))

-- the walk was refused
pub next_refused : (h longer : List Entry) (left : List (List ℕ)) (fault : OpenFault) (count place next : ℕ) (payload : List ℕ) → IsNext (frames_of h ++ left) count place (Err fault) payload next → IsRead h left (Err (office_fault fault)) longer
next_refused h longer left opens.NotAJournal count place next payload is = absurd is
next_refused h longer left (opens.TornLength n) count place next payload is = absurd is
next_refused h longer left opens.Disk count place next payload is = tt
next_refused h longer left opens.Memory count place next payload is = tt

-- the frame is wrong, or there was no memory for its entry
pub entry_refused : (h longer : List Entry) (left more : List (List ℕ)) (frame : List ℕ) (fault : OfficeFault) → left ≡ frame ∷ more → IsEntryIn h frame (Err fault) → IsRead h left (Err fault) longer
entry_refused h longer left more frame (Invalid count) is refused = (refused.0, refused.1, (frame, more, is, refused.2))
entry_refused h longer left more frame Memory is refused = tt
entry_refused h longer left more frame NotAJournal is refused = absurd refused
entry_refused h longer left more frame Disk is refused = absurd refused

-- the entry stands behind the others
pub entry_added : (h : List Entry) (e : Entry) (left more : List (List ℕ)) (frame : List ℕ) → left ≡ frame ∷ more → frame ≡ frame_of e → frames_of h ++ left ≡ frames_of (h ++ e ∷ []) ++ more
entry_added h e left more frame is frame_is =
    ap (λ (l : List (List ℕ)). frames_of h ++ l) (is ∙ ap (λ (f : List ℕ). f ∷ more) frame_is)
    ∙ sym (append_assoc (frames_of h) (frame_of e ∷ []) more)
    ∙ ap (λ (l : List (List ℕ)). l ++ more) (sym (frames-push h e))

-- the walk ended at what was wrong
pub walk_refused : (h longer : List Entry) (left payloads : List (List ℕ)) (capacity : ℕ) (image : List ℕ) (fault : OfficeFault) → payloads ≡ frames_of h ++ left → Shows capacity payloads image
    → IsRead h left (Err fault) longer → IsHistoryIn payloads image (Err fault)
walk_refused h longer left payloads capacity image (Invalid count) is shows read = record {
  capacity = capacity;
  history = h;
  frame = read.2.0;
  more = read.2.1;
  shows = subst (λ (l : List (List ℕ)). Shows capacity l image) (is ∙ ap (λ (l : List (List ℕ)). frames_of h ++ l) read.2.2) shows;
  legal = read.1;
  count_is = sym read.0;
  none = read.2.3;
}
walk_refused h longer left payloads capacity image Memory is shows read = tt
walk_refused h longer left payloads capacity image Disk is shows read = tt
walk_refused h longer left payloads capacity image NotAJournal is shows read = absurd read
