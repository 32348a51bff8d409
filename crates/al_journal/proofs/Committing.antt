-- What the durable writes of a commit and of settling leave.
use Rattle.std.proofs.Common.{◌≡◌, inl, inr, ℕ, ◌+◌, ◌≤◌, Bool, true, false, List, [], ◌∷◌, ◌++◌, length, Ok, Err, refl, sym, subst, arith}
use Rattle.al_disk.specs.Images.{Moment, Torn, Wrote}
use Rattle.al_disk.specs.States.{DiskState, MayChange, put, synced, with_change}
use Rattle.al_disk.specs.Moments.{Has}
use Rattle.al_disk.proofs.Moments.{after_change, after_refusal, after_sync, begins}
use Rattle.al_disk.proofs.Parts.{put_torn}
use Rattle.al_journal.specs.Format.{before_gate, framed, gate_of, piece_of}
use Rattle.al_journal.specs.Images.{Shows, ShowsWithOrWithout, Staged}
use Rattle.al_journal.specs.Views.{InDoubt, Stands}
use Rattle.al_journal.specs.Calls.{Commits, Settles}
use Rattle.al_journal.specs.declared.faults.CommitFault.TheVariants.{Disk, Full}
use Rattle.al_journal.proofs.Pieces.{gate_of-push, length-before_gate}
use Rattle.al_journal.proofs.Gates.{put_open, put_piece, put_shut, reaches, staged_shows, torn_over_gate, torn_piece}

-- A durable write: what had P has Q after a part of it, and W after the whole.
pub after_durable : (P Q W R : List ℕ → Type 0) (place : ℕ) (bytes : List ℕ) (earlier : List Moment) (s t : DiskState) → Has P R earlier s
    → ((old new : List ℕ) → P old → Torn place (length bytes) old new → Q new) → ((image : List ℕ) → Q image → R image)
    → place ≤ length s.content → W (put place bytes s.content) → ((image : List ℕ) → W image → R image)
    → t ≡ synced (with_change (Wrote place (length bytes)) (put place bytes s.content) s) → Has W R earlier t
after_durable P Q W R place bytes earlier s t has part so fits whole then is =
    let written = with_change (Wrote place (length bytes)) (put place bytes s.content) s in
    let middle : Has Q R earlier written = after_change P Q R (Wrote place (length bytes)) earlier s written has part so (put place bytes s.content) (put_torn place bytes s.content fits) refl in
    after_sync Q W R earlier written t is middle whole then

module _ (capacity gate : ℕ) (payloads : List (List ℕ)) (payload : List ℕ) where
  abbrev Old : List ℕ → Type 0
  Old = Shows capacity payloads

  abbrev Middle : List ℕ → Type 0
  Middle = Staged capacity payloads payload

  abbrev New : List ℕ → Type 0
  New = Shows capacity (payloads ++ payload ∷ [])

  abbrev Any : List ℕ → Type 0
  Any = ShowsWithOrWithout capacity payloads payload

  stands_begins : (s : DiskState) → Stands capacity gate payloads s → Has Old Any s.past s
  stands_begins s stands = begins Old Any s stands.content stands.images (λ image shows. inl shows)

  doubt_begins : (s : DiskState) → InDoubt capacity gate payloads payload s → Has Middle Any s.past s
  doubt_begins s doubt = begins Middle Any s doubt.content doubt.images (staged_shows capacity payloads payload)

  pub stands_reaches : (s : DiskState) → Stands capacity gate payloads s → gate + 1 ≤ length s.content
  stands_reaches s stands =
      let shows = stands.content in
      omega (arith, reaches (before_gate capacity payloads) (gate_of payloads) (length-before_gate capacity payloads) shows.gate shows.rest s.content shows.is, stands.gate_is)

  pub doubt_reaches : (s : DiskState) → InDoubt capacity gate payloads payload s → gate + 1 ≤ length s.content
  doubt_reaches s doubt =
      let staged = doubt.content in
      omega (arith, reaches (before_gate capacity payloads) (gate_of payloads) (length-before_gate capacity payloads) staged.gate (framed payload ++ staged.next ∷ staged.rest) s.content staged.is, doubt.gate_is)

  -- the parts of the writes, at the place of the gate
  part_behind : gate ≡ gate_of payloads → (n : ℕ) (old new : List ℕ) → Old old → Torn (gate + 1) n old new → Old new
  part_behind is n old new shows torn = torn_piece capacity payloads payload n old new shows (subst (λ (k : ℕ). Torn (k + 1) n old new) is torn)

  part_over : gate ≡ gate_of payloads → (old new : List ℕ) → Middle old → Torn gate 1 old new → Middle new
  part_over is old new staged torn = torn_over_gate capacity payloads payload old new staged (subst (λ (k : ℕ). Torn k 1 old new) is torn)

  has_doubt : (s t : DiskState) → gate ≡ gate_of payloads → Has Middle Any s.past t → InDoubt capacity gate payloads payload t
  has_doubt s t is has = record { content = has.content; images = has.images; gate_is = is }

  has_old : (s t : DiskState) → gate ≡ gate_of payloads → Has Old Any s.past t → Stands capacity gate payloads t
  has_old s t is has = record { content = has.content; images = has.images; gate_is = is }

  -- the piece is there, behind its shut gate
  after_piece : (s t : DiskState) → Stands capacity gate payloads s → gate + 6 + length payload ≤ capacity → t ≡ synced (with_change (Wrote (gate + 1) (length (piece_of payload))) (put (gate + 1) (piece_of payload) s.content) s) → Has Middle Any s.past t
  after_piece s t stands fits is =
      let here = stands.gate_is in
      let whole : Middle (put (gate + 1) (piece_of payload) s.content) =
      subst (λ (k : ℕ). Middle (put (k + 1) (piece_of payload) s.content)) (sym here) (put_piece capacity payloads payload s.content stands.content (omega (arith, fits, here))) in
      after_durable Old Old Middle Any (gate + 1) (piece_of payload) s.past s t (stands_begins s stands) (part_behind here (length (piece_of payload))) (λ image shows. inl shows)
      (stands_reaches s stands) whole (staged_shows capacity payloads payload) is

  pub full_commits : (doubt : Bool) → doubt ≡ false → (s : DiskState) → Stands capacity gate payloads s → Commits capacity gate payload (Err Full) doubt payloads s s
  full_commits doubt sure s stands = record { ended = (sure, refl); moments = (stands_begins s stands).moments }

  pub piece_refused : (s t : DiskState) → Stands capacity gate payloads s → MayChange (Wrote (gate + 1) (length (piece_of payload))) s t → Commits capacity gate payload (Err Disk) false payloads s t
  piece_refused s t stands may =
      let has = after_refusal Old Old Any (Wrote (gate + 1) (length (piece_of payload))) s.past s t (stands_begins s stands) (part_behind stands.gate_is (length (piece_of payload))) (λ image shows. inl shows) may in
      record { ended = has_old s t stands.gate_is has; moments = has.moments }

  module _ (s t u : DiskState) (stands : Stands capacity gate payloads s) (fits : gate + 6 + length payload ≤ capacity)
      (piece : t ≡ synced (with_change (Wrote (gate + 1) (length (piece_of payload))) (put (gate + 1) (piece_of payload) s.content) s)) where
    pub piece_doubt : InDoubt capacity gate payloads payload t
    piece_doubt = has_doubt s t stands.gate_is (after_piece s t stands fits piece)

    pub gate_refused : MayChange (Wrote gate 1) t u → Commits capacity gate payload (Err Disk) true payloads s u
    gate_refused may =
        let has = after_refusal Middle Middle Any (Wrote gate 1) s.past t u (after_piece s t stands fits piece) (part_over stands.gate_is) (staged_shows capacity payloads payload) may in
        record { ended = has_doubt s u stands.gate_is has; moments = has.moments }

    pub gate_opened : (done : Unit {0}) → u ≡ synced (with_change (Wrote gate 1) (put gate (1 ∷ []) t.content) t) → Commits capacity gate payload (Ok done) false payloads s u
    gate_opened done is =
        let here = stands.gate_is in
        let middle = after_piece s t stands fits piece in
        let whole : New (put gate (1 ∷ []) t.content) = subst (λ (k : ℕ). New (put k (1 ∷ []) t.content)) (sym here) (put_open capacity payloads payload t.content middle.content) in
        let has : Has New Any s.past u = after_durable Middle Middle New Any gate (1 ∷ []) s.past t u middle (part_over here) (staged_shows capacity payloads payload)
        (omega (arith, doubt_reaches t piece_doubt)) whole (λ image shows. inr shows) is in
        record {
          ended = (refl, record { content = has.content; images = has.images; gate_is = omega (arith, here, gate_of-push payloads payload) });
          moments = has.moments;
        }

  module _ (s t : DiskState) (doubt : InDoubt capacity gate payloads payload s) where
    pub shut_refused : MayChange (Wrote gate 1) s t → Settles capacity gate (Err Disk) true payloads payload s t
    shut_refused may =
        let has = after_refusal Middle Middle Any (Wrote gate 1) s.past s t (doubt_begins s doubt) (part_over doubt.gate_is) (staged_shows capacity payloads payload) may in
        record { ended = (refl, has_doubt s t doubt.gate_is has); moments = has.moments }

    pub gate_shut : (done : Unit {0}) → t ≡ synced (with_change (Wrote gate 1) (put gate (0 ∷ []) s.content) s) → Settles capacity gate (Ok done) false payloads payload s t
    gate_shut done is =
        let here = doubt.gate_is in
        let whole : Old (put gate (0 ∷ []) s.content) = subst (λ (k : ℕ). Old (put k (0 ∷ []) s.content)) (sym here) (put_shut capacity payloads payload s.content doubt.content) in
        let has : Has Old Any s.past t = after_durable Middle Middle Old Any gate (0 ∷ []) s.past s t (doubt_begins s doubt) (part_over here) (staged_shows capacity payloads payload)
        (omega (arith, doubt_reaches s doubt)) whole (λ image shows. inl shows) is in
        record { ended = (refl, has_old s t here has); moments = has.moments }
