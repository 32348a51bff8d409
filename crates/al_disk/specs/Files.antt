-- A file as a disk: how many of its calls have failed, and whether there is a file.
use Rattle.std.specs.Prelude.{ℕ, Bool}

pub record FileView : Type 0 where
  pub faults : ℕ
  pub is_open : Bool
