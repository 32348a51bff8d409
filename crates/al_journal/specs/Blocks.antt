-- One block of a disk, as it is kept in memory.
use Rattle.std.specs.Prelude.{◌≡◌, ℕ, Bool, true, List, take, drop}

-- The bytes of a disk from a place on, if the block is filled.
pub record BlockView : Type 0 where
  pub start : ℕ
  pub held : List ℕ
  pub filled : Bool

-- a filled block has just the bytes that a content has there, up to 4,096 of them
abbrev pub Holds : BlockView → List ℕ → Type 0
Holds block content = block.filled ≡ true → block.held ≡ take 4096 (drop block.start content)
