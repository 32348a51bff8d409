-- The words ask for one command at most.
use Rattle.std.proofs.Common.{◌≡◌, ℕ, List, [], ◌∷◌, Some, refl, ap, arith}
use Rattle.std.specs.Prelude.{decimal}
use Rattle.std.proofs.lemmas.Fmt.{decimal_injective}
use Rattle.al_commands.specs.Words.{AskFor, IsCheck, IsDrill, IsInit, IsNoRow, IsSession, IsWithinRow}
use Rattle.al_commands.specs.declared.command.Command.{Command}
use Rattle.al_commands.specs.declared.command.Command.TheVariants.{Check, Drill, Init, Session}

-- three words aren't two
three_or_two : {words : List (List ℕ)} {a b c d e : List ℕ} → words ≡ a ∷ b ∷ c ∷ [] → words ≡ d ∷ e ∷ [] → ⊥
three_or_two three two = cc

module _ (words : List (List ℕ)) where
  pub asks_init : (command : Command) → AskFor words (Some command) → (capacity : ℕ) → IsInit words capacity → command ≡ Init capacity
  asks_init (Init other) asked capacity is =
      let same : decimal other ≡ decimal capacity = (let a = asked.row in let b = is.row in cc) in
      ap Init (decimal_injective other capacity (omega (arith, asked.greatest)) (omega (arith, is.greatest)) same)
  asks_init Session asked capacity is = absurd (three_or_two is.row asked.row)
  asks_init Check asked capacity is = absurd (three_or_two is.row asked.row)
  asks_init (Drill seed count) asked capacity is = absurd (let a = asked.row in let b = is.row in cc)

  pub asks_session : (command : Command) → AskFor words (Some command) → IsSession words → command ≡ Session
  asks_session (Init capacity) asked is = absurd (three_or_two asked.row is.row)
  asks_session Session asked is = refl
  asks_session Check asked is = absurd (let a = asked.row in let b = is.row in cc)
  asks_session (Drill seed count) asked is = absurd (three_or_two asked.row is.row)

  pub asks_check : (command : Command) → AskFor words (Some command) → IsCheck words → command ≡ Check
  asks_check (Init capacity) asked is = absurd (three_or_two asked.row is.row)
  asks_check Session asked is = absurd (let a = asked.row in let b = is.row in cc)
  asks_check Check asked is = refl
  asks_check (Drill seed count) asked is = absurd (three_or_two asked.row is.row)

  pub asks_drill : (command : Command) → AskFor words (Some command) → (seed count : ℕ) → IsDrill words seed count → command ≡ Drill seed count
  asks_drill (Init capacity) asked seed count is = absurd (let a = asked.row in let b = is.row in cc)
  asks_drill Session asked seed count is = absurd (three_or_two is.row asked.row)
  asks_drill Check asked seed count is = absurd (three_or_two is.row asked.row)
  asks_drill (Drill first second) asked seed count is =
      let seeds : decimal first ≡ decimal seed = (let a = asked.row in let b = is.row in cc) in
      let counts : decimal second ≡ decimal count = (let a = asked.row in let b = is.row in cc) in
      let same_seed : first ≡ seed = decimal_injective first seed (omega (arith, asked.seed_within)) (omega (arith, is.seed_within)) seeds in
      let same_count : second ≡ count = decimal_injective second count (omega (arith, asked.count_within)) (omega (arith, is.count_within)) counts in
      cc

  -- they are a row then
  pub asks_row : (command : Command) → AskFor words (Some command) → ¬ (IsNoRow words)
  asks_row (Init capacity) asked none = none.no_init capacity asked
  asks_row Session asked none = none.no_session asked
  asks_row Check asked none = none.no_check asked
  asks_row (Drill seed count) asked none = none.no_drill seed count asked

  -- whose numbers are within its bounds
  pub within_row : (command : Command) → AskFor words (Some command) → IsWithinRow command
  within_row (Init capacity) asked = (asked.least, asked.greatest)
  within_row Session asked = tt
  within_row Check asked = tt
  within_row (Drill seed count) asked = (asked.seed_within, asked.count_within)
