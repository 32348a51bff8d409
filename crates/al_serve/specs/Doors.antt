-- Doors, by which connections come one after the other and go again.
use Rattle.std.specs.Prelude.{◌≡◌, ℕ, ◌+◌, Option, Some, List, [], ◌∷◌, ◌++◌}
use Rattle.std.specs.Option.{option_map}

-- A connection: the bytes that its source has left and those that its sink holds, where they are told, and how often each of the two has failed.
pub record Connection : Type 0 where
  pub input : Option (List ℕ)
  pub input_faults : ℕ
  pub output : Option (List ℕ)
  pub output_faults : ℕ

-- the connection of a source and a sink
abbrev pub connection_of : {I O : Type 0} → (I → Option (List ℕ)) → (I → ℕ) → (O → Option (List ℕ)) → (O → ℕ) → I → O → Connection
connection_of left input_faults held output_faults input output =
    record { input = left input; input_faults = input_faults input; output = held output; output_faults = output_faults output }

-- A door: the connections that it still gives and those that were finished, as they then were, where it tells them; how many are out; how often it has failed.
-- A door that doesn't tell what it still gives has no end.
pub record DoorState : Type 0 where
  pub coming : Option (List Connection)
  pub finished : Option (List Connection)
  pub out : ℕ
  pub faults : ℕ

-- It gives no further connection.
abbrev pub IsAtEnd : DoorState → Type 0
IsAtEnd door = door.coming ≡ Some []

-- Nothing but its count of faults is another.
pub record StaysOpen (before after : DoorState) : Type 0 where
  pub coming : after.coming ≡ before.coming
  pub finished : after.finished ≡ before.finished
  pub out : after.out ≡ before.out

-- It gave the first connection that was to come.
pub record Gives (before : DoorState) (connection : Connection) (after : DoorState) : Type 0 where
  pub coming : before.coming ≡ option_map (λ rest. connection ∷ rest) after.coming
  pub finished : after.finished ≡ before.finished
  pub out : after.out ≡ before.out + 1

-- It took a connection back, as it is now.
pub record TakesBack (before : DoorState) (connection : Connection) (after : DoorState) : Type 0 where
  pub coming : after.coming ≡ before.coming
  pub finished : after.finished ≡ option_map (λ earlier. earlier ++ connection ∷ []) before.finished
  pub out : after.out + 1 ≡ before.out
