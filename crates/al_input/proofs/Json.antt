-- Bodies as JSON.
use Rattle.std.proofs.Common.{◌≡◌, ℕ, Bool, true, false, Some, None, List, refl}
use Rattle.std.specs.Prelude.{IsUtf8}
use Rattle.std.specs.Str.{is_utf8}
use Rattle.std.proofs.lemmas.Str.{IsUtf8-from_is_utf8, is_utf8-from_IsUtf8}
use Rattle.serde_json.specs.Data.{Data}
use Rattle.serde_json.specs.Read.{read}
use Rattle.al_input.specs.Bodies.{json_of}

-- text that is read as a value
pub json_is : (body : List ℕ) (value : Data) → IsUtf8 body → read body ≡ Some value → json_of body ≡ Some value
unfolding json_of
json_is body value utf8 reads = rw (is_utf8-from_IsUtf8 body utf8, reads) refl

tested : (body : List ℕ) (test : Bool) → is_utf8 body ≡ test → (IsUtf8 body → read body ≡ None) → json_of body ≡ None
unfolding json_of
tested body true is none = rw (is, none (IsUtf8-from_is_utf8 body is)) refl
tested body false is none = rw is refl

-- bytes that are no text, or are read as no value
pub json_is_not : (body : List ℕ) → (IsUtf8 body → read body ≡ None) → json_of body ≡ None
json_is_not body none = tested body (is_utf8 body) refl none
