-- What a pass knows, before and after each step.
use Rattle.std.specs.Prelude.{◌≡◌, ◌==◌, ℕ, ◌+◌, ◌-◌, ◌^◌, ◌≤◌, Bool, cond, [], ◌∷◌, Option, Some, length}
use Rattle.atomic_table.specs.Table.{Me}
use Rattle.al_model.specs.declared.kept.Mark.{Mark}
use Rattle.al_turn.specs.Histories.{GoesOn, entries_of}
use Rattle.al_turn.specs.declared.view.Joined.{Joined}
use Rattle.al_turn.specs.declared.view.Stage.{Stage}
use Rattle.al_turn.specs.declared.view.Stage.TheVariants.{Idle, Waiting, Served, Holding, Given}
use Rattle.al_turn.specs.declared.view.View.{View}

-- the stages as numbers: a pass has a ticket from 1 on, its turn from 2 on, and the value at 3
abbrev pub rank : Stage → ℕ
rank Idle = 0
rank Waiting = 1
rank Served = 2
rank Holding = 3
rank Given = 4

-- whether the pass has the value
abbrev pub is_taken : View → Bool
is_taken v = rank v.stage == 3

-- how many turns a pass has
abbrev pub turns_at_first : ℕ
turns_at_first = 2 ^ 48

-- the first pass over a value
abbrev pub first_view : Mark → View
first_view m = record { stage = Idle; number = 1; made = 1; ticket = 0; left = turns_at_first; base = length m.entries; seen = m; joined = [] }

-- it draws the ticket n
abbrev pub drew : View → ℕ → View
drew v n = record v { stage = Waiting; ticket = n }

-- it reads that the ticket n is served
abbrev pub looked : View → ℕ → View
looked v n = record v { stage = cond (n == v.ticket) Served v.stage }

-- it takes the value out, and sees its mark
abbrev pub fetched : View → Mark → View
fetched v m = record v { stage = Holding; seen = m }

-- it has put back a value with the mark
abbrev pub counted : View → Mark → View
counted v m = record v { stage = Given; seen = m }

-- its turn is over
abbrev pub ended : View → View
ended v = record v { stage = Idle; left = v.left - 1 }

-- pass 1 has made one more
abbrev pub one_more : View → View
one_more v = record v { made = v.made + 1 }

-- the pass that pass 1 makes next: it has seen what pass 1 has
abbrev pub next_view : View → View
next_view v = record { stage = Idle; number = v.made + 1; made = 0; ticket = 0; left = turns_at_first; base = v.base; seen = v.seen; joined = [] }

-- what is kept of a pass that is joined into another
abbrev pub joined_of : View → Joined
joined_of w = record { number = w.number; seen = w.seen }

abbrev pub with_joined : View → View → View
with_joined v w = record v { joined = joined_of w ∷ v.joined }

-- a pass that was joined into another
abbrev pub spent_view : View
spent_view = record {
  stage = Idle;
  number = 0;
  made = 0;
  ticket = 0;
  left = 0;
  base = 0;
  seen = record { entries = []; faults = 0; fixed = record { capacity = 0; length = 0; since = 0 } };
  joined = [];
}

-- What a value taken out shows the pass: its mark goes on from what the pass has seen, and the pass's own entries in it are those that it has seen.
abbrev pub Found : View → Mark → Type 0
Found v m = GoesOn v.seen m × (entries_of m.entries v.number v.base ≡ entries_of v.seen.entries v.number v.base) × (v.base ≤ length v.seen.entries)

module _ {T : Type 0} (mark : T → Mark) where
  -- The value is out with the seat, which has seen its mark and read the length n of its history.
  pub record Fetched (before : Me (Option T) View) (n : ℕ) (after : Me (Option T) View) : Type 0 where
    pub value : T
    pub seat : after ≡ (fetched before.0 (mark value), (0, Some value) ∷ [])
    pub length_is : n ≡ length (mark value).entries
    pub found : Found before.0 (mark value)

  -- The value that the seat has put into the slot is at home, and the seat has seen its mark.
  abbrev pub GivenBack : Me (Option T) View → Me (Option T) View → Type 0
  GivenBack before after = (x : T) → before.1 ≡ (0, Some x) ∷ [] → after ≡ (counted before.0 (mark x), [])
