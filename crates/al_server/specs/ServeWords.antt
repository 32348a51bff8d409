-- The row `serve JOURNAL ADDRESS WORKERS CONNECTIONS` of the command line.
use Rattle.std.specs.Prelude.{◌≡◌, ◌≤◌, List, [], ◌∷◌, ℕ, Option, None, Some, codes, decimal}
use Rattle.al_server.specs.Addresses.{IsAddress}
use Rattle.al_commands.specs.Words.{IsJournal}
use Rattle.al_server.specs.declared.serve_words.ServeWords.{ServeWords}

-- the number from 1 on whose digits these are, where it is this great at most
abbrev pub IsCount : List ℕ → ℕ → Option ℕ → Type 0
IsCount digits greatest (Some number) = (digits ≡ decimal number) × (1 ≤ number) × (number ≤ greatest)
IsCount digits greatest None = (number : ℕ) → 1 ≤ number → number ≤ greatest → ¬ (digits ≡ decimal number)

-- The words are a row that asks to serve so; numbers are decimal digits without sign or needless leading zero.
pub record IsServe (words : List (List ℕ)) (serve : ServeWords) : Type 0 where
  pub journal : List ℕ
  pub address : List ℕ
  pub row : words ≡ codes "serve" ∷ journal ∷ address ∷ decimal serve.workers ∷ decimal serve.connections ∷ []
  pub is_journal : IsJournal journal
  pub is_address : IsAddress address serve.address
  pub workers : (1 ≤ serve.workers) × (serve.workers ≤ 64)
  pub connections : (1 ≤ serve.connections) × (serve.connections ≤ 1000000)

-- no row that serves
abbrev pub IsNoServe : List (List ℕ) → Type 0
IsNoServe words = (serve : ServeWords) → ¬ (IsServe words serve)

-- how the words ask to serve
abbrev pub AskToServe : List (List ℕ) → Option ServeWords → Type 0
AskToServe words (Some serve) = IsServe words serve
AskToServe words None = IsNoServe words

-- The words ask for no other numbers.
pub record IsOneServe (words : List (List ℕ)) (serve : ServeWords) : Type 0 where
  pub workers : (other : ServeWords) → IsServe words other → other.workers ≡ serve.workers
  pub connections : (other : ServeWords) → IsServe words other → other.connections ≡ serve.connections
