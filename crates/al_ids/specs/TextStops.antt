-- Where bytes stop being UTF-8.
use Rattle.std.specs.Prelude.{ℕ, ◌+◌, ◌<◌, ◌≤◌, List, ◌++◌, length, take, IsUtf8}

-- some text in UTF-8 begins so
pub record BeginsText (front : List ℕ) : Type 0 where
  pub rest : List ℕ
  pub utf8 : IsUtf8 (front ++ rest)

-- the first byte that no text has there, or the length of bytes that end inside a character
pub record IsTextStop (bytes : List ℕ) (place : ℕ) : Type 0 where
  pub within : place ≤ length bytes
  pub before : BeginsText (take place bytes)
  pub here : place < length bytes → ¬ (BeginsText (take (place + 1) bytes))
  pub whole : ¬ (IsUtf8 bytes)
