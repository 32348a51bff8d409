-- The command line: which words are a row of it.
use Rattle.std.specs.Prelude.{◌≡◌, ◌≤◌, List, [], ◌∷◌, ℕ, Option, None, Some, codes, decimal, length, ⊤}
use Rattle.al_commands.specs.declared.command.Command.{Command}
use Rattle.al_commands.specs.declared.command.Command.TheVariants.{Init, Session, Check, Drill}

-- the longest name of a journal, in bytes
abbrev pub journal_limit : ℕ
journal_limit = 4096

-- a word that may be the name of a journal
abbrev pub IsJournal : List ℕ → Type 0
IsJournal journal = (1 ≤ length journal) × (length journal ≤ journal_limit)

-- the number whose digits these are, where it is this great at most
abbrev pub IsNumber : List ℕ → ℕ → Option ℕ → Type 0
IsNumber digits greatest (Some number) = (digits ≡ decimal number) × (number ≤ greatest)
IsNumber digits greatest None = (number : ℕ) → number ≤ greatest → ¬ (digits ≡ decimal number)

-- `init JOURNAL CAPACITY`; numbers are decimal digits without sign or needless leading zero
pub record IsInit (words : List (List ℕ)) (capacity : ℕ) : Type 0 where
  pub journal : List ℕ
  pub row : words ≡ codes "init" ∷ journal ∷ decimal capacity ∷ []
  pub is_journal : IsJournal journal
  pub least : 4096 ≤ capacity
  pub greatest : capacity ≤ 268435456

-- `session JOURNAL`
pub record IsSession (words : List (List ℕ)) : Type 0 where
  pub journal : List ℕ
  pub row : words ≡ codes "session" ∷ journal ∷ []
  pub is_journal : IsJournal journal

-- `check JOURNAL`
pub record IsCheck (words : List (List ℕ)) : Type 0 where
  pub journal : List ℕ
  pub row : words ≡ codes "check" ∷ journal ∷ []
  pub is_journal : IsJournal journal

-- `drill SEED COUNT`
pub record IsDrill (words : List (List ℕ)) (seed count : ℕ) : Type 0 where
  pub row : words ≡ codes "drill" ∷ decimal seed ∷ decimal count ∷ []
  pub seed_within : seed ≤ 2147483647
  pub count_within : count ≤ 20000

-- No row of these four.
pub record IsNoRow (words : List (List ℕ)) : Type 0 where
  pub no_init : (capacity : ℕ) → ¬ (IsInit words capacity)
  pub no_session : ¬ (IsSession words)
  pub no_check : ¬ (IsCheck words)
  pub no_drill : (seed count : ℕ) → ¬ (IsDrill words seed count)

-- what the words ask for
abbrev pub AskFor : List (List ℕ) → Option Command → Type 0
AskFor words (Some (Init capacity)) = IsInit words capacity
AskFor words (Some Session) = IsSession words
AskFor words (Some Check) = IsCheck words
AskFor words (Some (Drill seed count)) = IsDrill words seed count
AskFor words None = IsNoRow words

-- a fact for each command
abbrev pub ByCommand : Command → (ℕ → Type 0) → Type 0 → Type 0 → (ℕ → ℕ → Type 0) → Type 0
ByCommand (Init capacity) init session check drill = init capacity
ByCommand Session init session check drill = session
ByCommand Check init session check drill = check
ByCommand (Drill seed count) init session check drill = drill seed count

-- the numbers of a command are within the bounds of its row
abbrev pub IsWithinRow : Command → Type 0
IsWithinRow command =
    ByCommand command (λ capacity. (4096 ≤ capacity) × (capacity ≤ 268435456)) ⊤ ⊤ (λ seed count. (seed ≤ 2147483647) × (count ≤ 20000))
