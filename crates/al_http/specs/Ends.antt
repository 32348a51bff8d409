-- How bytes end where a request has to begin: with their input, rejected, or inside a request.
use Rattle.std.specs.Prelude.{◌≡◌, ℕ, ◌<◌, ◌≤◌, ◌⊎◌, List, ◌++◌, length, take, Result, Ok, Err}
use Rattle.httparse.specs.Grammar.{RequestHead}
use Rattle.al_http.specs.Blocks.{IsBlock, HoldsNoBlock, line_count, AreEmptyLines}
use Rattle.al_http.specs.Requests.{head_limit, line_limit, fields_of, framing_of, IsHead}
use Rattle.al_http.specs.declared.rejection.Rejection.{Rejection}
use Rattle.al_http.specs.declared.rejection.Rejection.TheVariants.{Bad, HeadTooBig, BodyTooBig, Unimplemented}

-- Nothing but empty lines, less than a head may take.
pub record HasEnded (bytes : List ℕ) : Type 0 where
  pub short : length bytes < head_limit
  pub empty_lines : AreEmptyLines bytes

-- What a head may take is there without a block.
pub record IsTooLong (bytes : List ℕ) : Type 0 where
  pub long : head_limit ≤ length bytes
  pub no_block : HoldsNoBlock (take head_limit bytes)

-- The block has no more lines than a head may have, and is none.
pub record IsNoHead (block : List ℕ) : Type 0 where
  pub few_lines : line_count block ≤ line_limit
  pub no_head : (head : RequestHead) → ¬ (IsHead block head)

-- The block is a head whose fields frame a body so.
pub record IsFramedAs (framing : Result ℕ Rejection) (block : List ℕ) : Type 0 where
  pub head : RequestHead
  pub is_head : IsHead block head
  pub framed : framing_of (fields_of head) ≡ framing

-- Why a block is rejected: first for its lines, then as no head, then for what its fields say of the body.
abbrev pub RejectsBlock : Rejection → List ℕ → Type 0
RejectsBlock HeadTooBig block = line_limit < line_count block
RejectsBlock Bad block = IsNoHead block ⊎ IsFramedAs (Err Bad) block
RejectsBlock Unimplemented block = IsFramedAs (Err Unimplemented) block
RejectsBlock BodyTooBig block = IsFramedAs (Err BodyTooBig) block

-- The block at the front, which isn't too long, is rejected.
pub record HasRejectedBlock (rejection : Rejection) (bytes : List ℕ) : Type 0 where
  pub text : List ℕ
  pub rest : List ℕ
  pub parts : bytes ≡ text ++ rest
  pub is_block : IsBlock text
  pub short : length text ≤ head_limit
  pub rejected : RejectsBlock rejection text

-- Why bytes are rejected: nothing but too long a head is seen before its end.
abbrev pub IsRejected : Rejection → List ℕ → Type 0
IsRejected HeadTooBig bytes = IsTooLong bytes ⊎ HasRejectedBlock HeadTooBig bytes
IsRejected Bad bytes = HasRejectedBlock Bad bytes
IsRejected Unimplemented bytes = HasRejectedBlock Unimplemented bytes
IsRejected BodyTooBig bytes = HasRejectedBlock BodyTooBig bytes

-- The bytes end before the head does.
pub record LacksBlock (bytes : List ℕ) : Type 0 where
  pub short : length bytes < head_limit
  pub no_block : HoldsNoBlock bytes
  pub some_text : ¬ (AreEmptyLines bytes)

-- The bytes end before the body does.
pub record LacksBody (bytes : List ℕ) : Type 0 where
  pub text : List ℕ
  pub head : RequestHead
  pub part : List ℕ
  pub size : ℕ
  pub parts : bytes ≡ text ++ part
  pub is_head : IsHead text head
  pub frames : framing_of (fields_of head) ≡ Ok size
  pub lacks : length part < size

-- The bytes end inside a request.
abbrev pub IsCut : List ℕ → Type 0
IsCut bytes = LacksBlock bytes ⊎ LacksBody bytes
