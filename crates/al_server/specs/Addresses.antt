-- Addresses in words: `a.b.c.d:port`.
use Rattle.std.specs.Prelude.{◌≡◌, ◌≢◌, ◌≤◌, List, ◌∷◌, ◌++◌, ℕ, Option, None, Some, decimal}
use Rattle.std.specs.List.{AllByRecursion}
use Rattle.std.specs.Net.Grammar.{IsIpv4Text}
use Rattle.al_server.specs.declared.serve_words.Address.{Address}

abbrev pub colon : ℕ
colon = 58

abbrev pub HasNoColon : List ℕ → Type 0
HasNoColon = AllByRecursion (λ byte. byte ≢ colon)

-- the text, cut at its first colon
abbrev pub SplitsAtColon : List ℕ → List ℕ → List ℕ → Type 0
SplitsAtColon text before behind = (text ≡ before ++ colon ∷ behind) × HasNoColon before

-- The text is four numbers up to 255 with dots between them, a colon and the port. Numbers are decimal digits without sign or needless leading zero.
pub record IsAddress (text : List ℕ) (address : Address) : Type 0 where
  pub ip : List ℕ
  pub text_is : text ≡ ip ++ colon ∷ decimal address.port
  pub ip_is : IsIpv4Text ip address.ip
  pub port : address.port ≤ 65535

-- which address the text is, where it is one
abbrev pub TellsAddress : List ℕ → Option Address → Type 0
TellsAddress text (Some address) = IsAddress text address
TellsAddress text None = (address : Address) → ¬ (IsAddress text address)
