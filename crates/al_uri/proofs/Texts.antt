-- Text as a test.
use Rattle.std.proofs.Common.{◌≡◌, ℕ, true, List}
use Rattle.std.specs.Str.{IsUtf8, is_utf8}
use Rattle.std.proofs.lemmas.Str.{IsUtf8-from_is_utf8, is_utf8-from_IsUtf8}

pub tested_text : (bytes : List ℕ) → is_utf8 bytes ≡ true → IsUtf8 bytes
tested_text = IsUtf8-from_is_utf8

pub text_tested : (bytes : List ℕ) → IsUtf8 bytes → is_utf8 bytes ≡ true
text_tested = is_utf8-from_IsUtf8
