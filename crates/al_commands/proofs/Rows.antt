-- Words that are no row.
use Rattle.std.proofs.Common.{◌≡◌, ◌≢◌, ℕ, ◌≤◌, List, [], ◌∷◌, length, ap, sym, ◌∙◌, arith}
use Rattle.std.specs.Prelude.{codes, decimal}
use Rattle.std.proofs.lemmas.Fmt.{decimal_injective}
use Rattle.al_commands.specs.Words.{IsJournal, IsNoRow}

-- neither two words nor three
pub no_row : (words : List (List ℕ)) → ¬ (length words ≡ 2) → ¬ (length words ≡ 3) → IsNoRow words
no_row words two three = record {
  no_init = λ capacity is. three (ap length is.row);
  no_session = λ is. two (ap length is.row);
  no_check = λ is. two (ap length is.row);
  no_drill = λ seed count is. three (ap length is.row);
}

module _ (name journal : List ℕ) where
  -- the second word can't be the name of a journal
  pub no_journal : ¬ (IsJournal journal) → IsNoRow (name ∷ journal ∷ [])
  no_journal none = record {
    no_init = λ capacity is. let no = is.row in cc;
    no_session = λ is. let e : journal ≡ is.journal = (let row = is.row in cc) in none (rw e is.is_journal);
    no_check = λ is. let e : journal ≡ is.journal = (let row = is.row in cc) in none (rw e is.is_journal);
    no_drill = λ seed count is. let no = is.row in cc;
  }

  -- the first word is none of those that a journal follows alone
  pub no_two : name ≢ codes "session" → name ≢ codes "check" → IsNoRow (name ∷ journal ∷ [])
  no_two session check = record {
    no_init = λ capacity is. let no = is.row in cc;
    no_session = λ is. session (let row = is.row in cc);
    no_check = λ is. check (let row = is.row in cc);
    no_drill = λ seed count is. let no = is.row in cc;
  }

module _ (name first second : List ℕ) where
  -- the first word is none of those that two follow
  pub no_three : name ≢ codes "init" → name ≢ codes "drill" → IsNoRow (name ∷ first ∷ second ∷ [])
  no_three init drill = record {
    no_init = λ capacity is. init (let row = is.row in cc);
    no_session = λ is. let no = is.row in cc;
    no_check = λ is. let no = is.row in cc;
    no_drill = λ seed count is. drill (let row = is.row in cc);
  }

-- the words of `init` with a name that can't be a journal's, or a number that can't be a capacity
pub no_init : (journal digits : List ℕ) (n : ℕ) → digits ≡ decimal n → n ≤ 268435456 → (IsJournal journal → 4096 ≤ n → ⊥) → IsNoRow (codes "init" ∷ journal ∷ digits ∷ [])
no_init journal digits n is most none = record {
  no_init = λ capacity row.
      let same_digits : digits ≡ decimal capacity = (let r = row.row in cc) in
      let same_journal : journal ≡ row.journal = (let r = row.row in cc) in
      let same : n ≡ capacity = decimal_injective n capacity (omega (arith, most)) (omega (arith, row.greatest)) (sym is ∙ same_digits) in
      none (rw same_journal row.is_journal) (rw same row.least);
  no_session = λ row. let r = row.row in cc;
  no_check = λ row. let r = row.row in cc;
  no_drill = λ seed count row. let r = row.row in cc;
}
