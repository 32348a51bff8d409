-- The rule of the turnstile's table, which holds between any two atomic steps.
-- Its words are the next ticket, the ticket that is served, and the length of the history; its one slot has the value, or nothing where a pass has it.
use Rattle.std.specs.Prelude.{◌≡◌, ◌⊎◌, ℕ, suc, ◌+◌, ◌-◌, ◌*◌, ◌<◌, ◌≤◌, nat_lt, cond, List, [], ◌∷◌, Option, Some, drop, length}
use lib.ListN.{get_elem?}
use Rattle.atomic_table.specs.Table.{State}
use Rattle.al_model.specs.declared.kept.Mark.{Mark}
use Rattle.al_turn.specs.Histories.{GoesOn, Numbered, entries_of}
use Rattle.al_turn.specs.Views.{rank, turns_at_first}
use Rattle.al_turn.specs.declared.view.Joined.{Joined}
use Rattle.al_turn.specs.declared.view.View.{View}
use mathlib.Core.Option as options

-- how many tickets a pass may still draw
abbrev pub to_draw : View → ℕ
to_draw v = cond (nat_lt 0 (rank v.stage)) (v.left - 1) v.left

abbrev pub total : List View → ℕ
total [] = 0
total (v ∷ vs) = to_draw v + total vs

-- Where a pass with a ticket stands in the queue.
pub record InLine (drawn serving : ℕ) (v : View) : Type 0 where
  pub waits : 1 ≤ rank v.stage → (serving ≤ v.ticket) × (v.ticket < drawn) × (0 < v.left) × (0 < v.number)
  pub turn : 2 ≤ rank v.stage → v.ticket ≡ serving

-- What a pass that isn't spent, at the place, knows of the history now.
pub record Fits (start : Mark) (count : ℕ) (now : Mark) (place : ℕ) (v : View) : Type 0 where
  pub number : v.number ≡ suc place
  pub counts : v.number ≡ 1 → v.made ≡ count
  pub base : v.base ≡ length start.entries
  pub seen : GoesOn v.seen now
  pub deep : GoesOn start v.seen
  pub own_now : entries_of now.entries v.number v.base ≡ entries_of v.seen.entries v.number v.base
  pub looks : rank v.stage ≡ 3 → v.seen ≡ now

-- What a pass that was joined into another knew.
pub record Past (start : Mark) (views : List View) (now : Mark) (j : Joined) : Type 0 where
  pub spent : (k : ℕ) (u : View) → j.number ≡ suc k → get_elem? views k ≡ options.some u → u.number ≡ 0
  pub number : (1 ≤ j.number) × (j.number ≤ length views)
  pub seen : GoesOn j.seen now
  pub own_now : entries_of now.entries j.number (length start.entries) ≡ entries_of j.seen.entries j.number (length start.entries)

abbrev pub Gathered : Mark → List View → Mark → List Joined → Type 0
Gathered start views now [] = Unit {0}
Gathered start views now (j ∷ js) = Past start views now j × Gathered start views now js

-- The value with the mark is at home, or a pass holds it.
abbrev pub HomeIs : {T : Type 0} → (T → Mark) → List (options.Option (Option T)) → List View → Mark → Type 0
HomeIs {T} mark homes views now =
    ((c : T) × (homes ≡ options.some (Some c) ∷ []) × (mark c ≡ now))
    ⊎ ((homes ≡ options.none ∷ []) × ((by : ℕ) × (v : View) × (get_elem? views by ≡ options.some v) × (rank v.stage ≡ 3)))

pub record Turning {T : Type 0} (mark : T → Mark) (start : Mark) (s : State (Option T) View) : Type 0 where
  pub drawn : ℕ
  pub serving : ℕ
  -- of the value at home, or what its holder has seen
  pub now : Mark
  pub words : s.words ≡ drawn ∷ serving ∷ length now.entries ∷ []
  pub behind : serving ≤ drawn
  pub home : HomeIs mark s.homes s.views now
  pub line : (by : ℕ) (v : View) → get_elem? s.views by ≡ options.some v → InLine drawn serving v
  pub apart : (i j : ℕ) (v w : View) → get_elem? s.views i ≡ options.some v → get_elem? s.views j ≡ options.some w → 1 ≤ rank v.stage → 1 ≤ rank w.stage → v.ticket ≡ w.ticket → i ≡ j
  pub fits : (by : ℕ) (v : View) → get_elem? s.views by ≡ options.some v → 0 < v.number → Fits start (length s.views) now by v
  pub gone : (by : ℕ) (v : View) → get_elem? s.views by ≡ options.some v → Gathered start s.views now v.joined
  -- so no word wraps
  pub room : drawn + total s.views ≤ turns_at_first * length s.views
  pub few : length s.views < 65536
  pub origins : Numbered (length s.views) (drop (length start.entries) now.entries)
  pub goes_on : GoesOn start now
