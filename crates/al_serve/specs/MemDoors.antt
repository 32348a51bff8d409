-- Doors in memory.
use Rattle.std.specs.Prelude.{ℕ, Option, Some, List, map}
use Rattle.al_base.specs.Memory.{PlanView}
use Rattle.al_serve.specs.Doors.{Connection, DoorState, connection_of}

-- A door in memory: the connections that it still gives, those that were finished, and how many are out.
pub record MemDoorsView (I O : Type 0) : Type 0 where
  pub coming : List (I × O)
  pub finished : List (I × O)
  pub out : ℕ
  pub plan : PlanView

module _ {I O : Type 0} (left : I → Option (List ℕ)) (input_faults : I → ℕ) (held : O → Option (List ℕ)) (output_faults : O → ℕ) where
  abbrev pub connections_of : List (I × O) → List Connection
  connections_of = map (λ (pair : I × O). connection_of left input_faults held output_faults pair.0 pair.1)

  -- it tells both lists
  abbrev pub mem_state : MemDoorsView I O → DoorState
  mem_state d =
      record { coming = Some (connections_of d.coming); finished = Some (connections_of d.finished); out = d.out; faults = d.plan.faults }
