-- Where reading a class stops, the fault stands where the grammar says.
use Rattle.std.proofs.Common.{◌≡◌, ℕ, Bool, true, false, not, cond, ◌&&◌, ◌||◌, ◌==◌, inl, inr, List, [], ◌∷◌, ◌++◌, Some, None, IfOk, refl, ap, sym, ◌∙◌, subst, arith}
use Rattle.al_pattern.specs.declared.letter.Letter.TheVariants.{Escaped}
use Rattle.al_pattern.specs.declared.letter.Item.{Item}
use Rattle.al_pattern.specs.declared.letter.Item.TheVariants.{One, Digit, Space}
use Rattle.al_pattern.specs.declared.fault.FaultKind.TheVariants.{Syntax, Unsupported}
use Rattle.al_pattern.specs.Bytes.{is_printable, is_plain, is_escape, is_left_out, begins_with}
use Rattle.al_pattern.specs.Faults.{fault_at}
use Rattle.al_pattern.specs.Letters.{escape_at}
use Rattle.al_pattern.specs.Classes.{begins_left_out, is_unsupported_in_class, class_stop_at}
use Rattle.al_pattern.specs.Places.{IsLeftOut, escape, subtraction}
use Rattle.al_pattern.proofs.CutLemmas.{and_true, or_true}
use Rattle.al_pattern.proofs.TestLemmas.{if_read, differs, eq_from, begins_is, not_true, not_false, or_false}
use Rattle.al_pattern.proofs.AgainLemmas.{escape_kept}
use Rattle.al_pattern.proofs.Scan.{Mode, behind_slash, opened, first_item, next_item, last_hyphen, item_slash, behind_letter, range_hyphen, range_slash, Limits, at, item_begin, class_step, step, run}
use Rattle.al_pattern.proofs.ScanLemmas.{Ready, Before}
use Rattle.al_pattern.proofs.StopLemmas.{Fails, if_fails, Located, located, limits, Reached, Fine, no_form, whole_reached, snoc_same, none_left_out, end_left_out}
use Rattle.al_pattern.proofs.FaultLemmas.{by_bool, Escapes, Clear, departure_at, left_out_at, byte_out, byte_at}

-- ---- modes

pub record KeptOut (q : ℕ) : Type 0 where
  pub no_escape : is_escape q ≡ false
  pub no_digit : (q == 100) ≡ false
  pub no_space : (q == 115) ≡ false

pub kept_out : (q : ℕ) → is_left_out q ≡ true → KeptOut q
unfolding is_left_out
kept_out q e = record {
  no_escape = by_bool (is_escape q) (λ h. let k = escape_kept q h in cc);
  no_digit = differs is_left_out q 100 e refl;
  no_space = differs is_left_out q 115 e refl;
}

-- in a class, not behind a backslash
pub record ClassMode (m : Mode) : Type 0 where
  pub unfinished : Ready m → ⊥
  pub bracket : (L : Limits) (d n : ℕ) → step L m d n 91 ≡ None
  pub slash : (L : Limits) (d n q : ℕ) → KeptOut q → run L (Some (at m d n)) (92 ∷ q ∷ []) ≡ None
  pub subtracts : (L : Limits) (d n : ℕ) → run L (Some (at m d n)) (45 ∷ 91 ∷ []) ≡ None
  pub steady : Escapes m → ⊥

opened_mode : ClassMode opened
unfolding class_step item_begin is_plain
opened_mode = record { unfinished = λ r. r; bracket = λ L d n. refl; slash = λ L d n q k. rw (k.no_escape, k.no_digit, k.no_space) refl; subtracts = λ L d n. refl; steady = λ e. e }

first_mode : ClassMode first_item
unfolding class_step item_begin is_plain
first_mode = record { unfinished = λ r. r; bracket = λ L d n. refl; slash = λ L d n q k. rw (k.no_escape, k.no_digit, k.no_space) refl; subtracts = λ L d n. refl; steady = λ e. e }

next_mode : ClassMode next_item
unfolding class_step item_begin is_plain
next_mode = record { unfinished = λ r. r; bracket = λ L d n. refl; slash = λ L d n q k. rw (k.no_escape, k.no_digit, k.no_space) refl; subtracts = λ L d n. refl; steady = λ e. e }

pub letter_mode : (v : ℕ) → ClassMode (behind_letter v)
unfolding class_step item_begin is_plain
letter_mode v = record { unfinished = λ r. r; bracket = λ L d n. refl; slash = λ L d n q k. rw (k.no_escape, k.no_digit, k.no_space) refl; subtracts = λ L d n. refl; steady = λ e. e }

pub hyphen_mode : (v : ℕ) → ClassMode (range_hyphen v)
unfolding class_step is_plain
hyphen_mode v = record { unfinished = λ r. r; bracket = λ L d n. refl; slash = λ L d n q k. rw k.no_escape refl; subtracts = λ L d n. refl; steady = λ e. e }

pub last_mode : ClassMode last_hyphen
unfolding class_step
last_mode = record { unfinished = λ r. r; bracket = λ L d n. refl; slash = λ L d n q k. refl; subtracts = λ L d n. refl; steady = λ e. e }

pub before_mode : (is_first : Bool) (m : Mode) (text : List ℕ) → Before is_first m text → ClassMode m
before_mode true opened text b = opened_mode
before_mode true first_item text b = first_mode
before_mode false next_item text b = next_mode
before_mode false (behind_letter v) text b = letter_mode v
before_mode is_first m text b = absurd b

-- behind a backslash
pub record SlashMode (m : Mode) : Type 0 where
  pub unfinished : Ready m → ⊥
  pub other : (L : Limits) (d n b : ℕ) → is_escape b ≡ false → (b == 100) ≡ false → (b == 115) ≡ false → step L m d n b ≡ None

pub slash_mode : SlashMode behind_slash
slash_mode = record { unfinished = λ r. r; other = λ L d n b e f g. rw (e, f, g) refl }

pub item_slash_mode : SlashMode item_slash
unfolding class_step
item_slash_mode = record { unfinished = λ r. r; other = λ L d n b e f g. rw (e, f, g) refl }

pub range_slash_mode : (v : ℕ) → SlashMode (range_slash v)
unfolding class_step
range_slash_mode v = record { unfinished = λ r. r; other = λ L d n b e f g. rw e refl }

-- ---- stops

-- the text ends inside a token
pub ends_inside : (whole front : List ℕ) (m : Mode) (d n : ℕ) → whole ≡ front ++ [] → Fine front → Reached front m d n → (Ready m → ⊥) → Located whole (fault_at Syntax [])
ends_inside whole front m d n split sound reached unfinished =
    located whole front [] Syntax split
    (departure_at front [] sound (λ tree e spelled. unfinished (whole_reached front m d n tree reached e spelled).0) (end_left_out front) tt)

unsupported_out : (front : List ℕ) (m : Mode) (d n b : ℕ) (rest : List ℕ) → Reached front m d n → ClassMode m → is_unsupported_in_class (b ∷ rest) ≡ true → IsLeftOut front (b ∷ rest)
unfolding is_unsupported_in_class
unsupported_out front m d n b rest reached mode e =
    elim (or_true (not (is_printable b) || (b == 92 && begins_left_out rest)) (b == 45 && begins_with 91 rest) e) [
      | inl h ↦ elim (or_true (not (is_printable b)) (b == 92 && begins_left_out rest) h) [
        | inl k ↦ byte_out front b rest m d n reached (not_true (is_printable b) k)
        | inr k ↦
            let both = and_true (b == 92) (begins_left_out rest) k in
            let out = left_out_is rest both.1 in record {
              part = 92 ∷ out.0 ∷ [];
              rest = out.1;
              whole = ap (λ n. n ∷ rest) (eq_from b 92 both.0) ∙ ap (λ t. 92 ∷ t) out.2;
              other = escape out.0 out.3;
              refused = no_form front (92 ∷ out.0 ∷ []) m d n reached (λ most deepest. mode.slash (limits false most deepest) d n out.0 (kept_out out.0 out.3));
            }
      ]
      | inr h ↦
          let both = and_true (b == 45) (begins_with 91 rest) h in
          let open' = begins_is 91 rest both.1 in record {
            part = 45 ∷ 91 ∷ [];
            rest = open'.0;
            whole = ap (λ n. n ∷ rest) (eq_from b 45 both.0) ∙ ap (λ t. 45 ∷ t) open'.1;
            other = subtraction (no_form front (91 ∷ []) m d n reached (λ most deepest. mode.bracket (limits false most deepest) d n));
            refused = no_form front (45 ∷ 91 ∷ []) m d n reached (λ most deepest. mode.subtracts (limits false most deepest) d n);
          }
    ] where
      left_out_is : (rest : List ℕ) → begins_left_out rest ≡ true → (q : ℕ) × (after : List ℕ) × (rest ≡ q ∷ after) × (is_left_out q ≡ true)
      left_out_is [] e = absurd (cc)
      left_out_is (q ∷ after) e = (q, after, refl, e)

pub record InClassKept (b : ℕ) (rest : List ℕ) : Type 0 where
  pub shows : is_printable b ≡ true
  pub kept : (b == 92 && begins_left_out rest) ≡ false
  pub no_subtraction : (b == 45 && begins_with 91 rest) ≡ false

pub in_class_kept : (b : ℕ) (rest : List ℕ) → is_unsupported_in_class (b ∷ rest) ≡ false → InClassKept b rest
unfolding is_unsupported_in_class
in_class_kept b rest e =
    let outer = or_false (not (is_printable b) || (b == 92 && begins_left_out rest)) (b == 45 && begins_with 91 rest) e in
    let inner = or_false (not (is_printable b)) (b == 92 && begins_left_out rest) outer.0 in
    record { shows = not_false (is_printable b) inner.0; kept = inner.1; no_subtraction = outer.1 }

class_stop_end : class_stop_at [] ≡ fault_at Syntax []
unfolding is_unsupported_in_class
class_stop_end = refl

byte_stopped : (whole front : List ℕ) (m : Mode) (d n b : ℕ) (rest : List ℕ) (u : Bool) → is_unsupported_in_class (b ∷ rest) ≡ u → whole ≡ front ++ b ∷ rest → Fine front → Reached front m d n → ClassMode m
    → (u ≡ false → ((L : Limits) → step L m d n b ≡ None) × Clear front (b ∷ rest)) → Located whole (fault_at (cond u Unsupported Syntax) (b ∷ rest))
byte_stopped whole front m d n b rest true is split sound reached mode stops =
    located whole front (b ∷ rest) Unsupported split (left_out_at front (b ∷ rest) m d n sound (unsupported_out front m d n b rest reached mode is) reached mode.steady)
byte_stopped whole front m d n b rest false is split sound reached mode stops =
    let k = in_class_kept b rest is in
    let s = stops refl in
    located whole front (b ∷ rest) Syntax split (departure_at front (b ∷ rest) sound
    (no_form front (b ∷ []) m d n reached (λ most deepest. s.0 (limits false most deepest)))
    (none_left_out front b rest k.shows k.kept
    (λ e. no_form front (91 ∷ []) m d n reached (λ most deepest. mode.bracket (limits false most deepest) d n))
    (λ e open'. absurd (both_ways b rest e open' k.no_subtraction))) s.1) where
      both_ways : (b : ℕ) (rest : List ℕ) → b ≡ 45 → begins_with 91 rest ≡ true → (b == 45 && begins_with 91 rest) ≡ false → ⊥
      both_ways b rest e f g = let h : (45 == 45 && begins_with 91 rest) ≡ false = subst (λ n. (n == 45 && begins_with 91 rest) ≡ false) e g in cc

pub class_stopped : (whole front text : List ℕ) (m : Mode) (d n : ℕ) → whole ≡ front ++ text → Fine front → Reached front m d n → ClassMode m
    → ((b : ℕ) (rest : List ℕ) → text ≡ b ∷ rest → is_unsupported_in_class text ≡ false → ((L : Limits) → step L m d n b ≡ None) × Clear front (b ∷ rest)) → Located whole (class_stop_at text)
class_stopped whole front [] m d n split sound reached mode stops =
    subst (Located whole) (sym class_stop_end) (ends_inside whole front m d n split sound reached mode.unfinished)
class_stopped whole front (b ∷ rest) m d n split sound reached mode stops =
    byte_stopped whole front m d n b rest (is_unsupported_in_class (b ∷ rest)) refl split sound reached mode (stops b rest refl)

-- behind a backslash
pub slash_clear : (front : List ℕ) (b : ℕ) (rest : List ℕ) → is_left_out b ≡ false → Clear (front ++ 92 ∷ []) (b ∷ rest)
slash_clear front b rest kept = (
  (λ before e out. absurd (let both = sym kept ∙ out in cc)),
  (λ before e is. absurd (let k = (snoc_same 92 45 front before e).1 in omega (arith, k))),
)

escape_byte_stopped : (whole front : List ℕ) (m : Mode) (d n b : ℕ) (rest : List ℕ) (shows : Bool) → is_printable b ≡ shows → whole ≡ (front ++ 92 ∷ []) ++ b ∷ rest → Fine (front ++ 92 ∷ [])
    → Reached (front ++ 92 ∷ []) m d n → is_escape b ≡ false → is_left_out b ≡ false → ((L : Limits) → step L m d n b ≡ None) → Located whole (fault_at (cond shows Syntax Unsupported) (b ∷ rest))
unfolding is_escape
escape_byte_stopped whole front m d n b rest true is split sound reached e kept stops =
    located whole (front ++ 92 ∷ []) (b ∷ rest) Syntax split (departure_at (front ++ 92 ∷ []) (b ∷ rest) sound
    (no_form (front ++ 92 ∷ []) (b ∷ []) m d n reached (λ most deepest. stops (limits false most deepest)))
    (none_left_out (front ++ 92 ∷ []) b rest is (ap (λ r. r && begins_left_out rest) (differs (λ n. not (is_escape n)) b 92 (ap not e) refl))
    (λ f. absurd (let k : is_escape 123 ≡ false = subst (λ n. is_escape n ≡ false) f e in cc))
    (λ f. absurd (let k : is_escape 45 ≡ false = subst (λ n. is_escape n ≡ false) f e in cc)))
    (slash_clear front b rest kept))
escape_byte_stopped whole front m d n b rest false is split sound reached e kept stops =
    located whole (front ++ 92 ∷ []) (b ∷ rest) Unsupported split (byte_at (front ++ 92 ∷ []) b rest m d n sound reached is)

pub escape_fails : (whole front text : List ℕ) (m : Mode) (d n : ℕ) → whole ≡ (front ++ 92 ∷ []) ++ text → Fine (front ++ 92 ∷ []) → Reached (front ++ 92 ∷ []) m d n → SlashMode m
    → begins_left_out text ≡ false → Fails (escape_at text) (Located whole)
unfolding escape_at
escape_fails whole front [] m d n split sound reached mode kept = ends_inside whole (front ++ 92 ∷ []) m d n split sound reached mode.unfinished
escape_fails whole front (b ∷ rest) m d n split sound reached mode kept =
    let Q = Located whole in
    if_fails Q (is_escape b) _ _ (λ h. tt)
    (λ h. if_fails Q (b == 100) _ _ (λ k. tt)
    (λ k. if_fails Q (b == 115) _ _ (λ j. tt)
    (λ j. escape_byte_stopped whole front m d n b rest (is_printable b) refl split sound reached h kept (λ L. mode.other L d n b h k j))))

-- what is read behind a backslash
abbrev pub EscapeIs : List ℕ → Item → List ℕ → Type 0
EscapeIs text (One (Escaped b)) rest = (text ≡ b ∷ rest) × (is_escape b ≡ true)
EscapeIs text Digit rest = text ≡ 100 ∷ rest
EscapeIs text Space rest = text ≡ 115 ∷ rest
EscapeIs text item rest = ⊥

pub escape_is : (text : List ℕ) → IfOk (escape_at text) (λ x. EscapeIs text x.0 x.1)
unfolding escape_at
escape_is [] = tt
escape_is (b ∷ rest) =
    let P : Item × List ℕ → Type 0 = λ x. EscapeIs (b ∷ rest) x.0 x.1 in
    if_read P (is_escape b) _ _ (λ h. (refl, h))
    (λ h. if_read P (b == 100) _ _ (λ k. ap (λ n. n ∷ rest) (eq_from b 100 k))
    (λ k. if_read P (b == 115) _ _ (λ j. ap (λ n. n ∷ rest) (eq_from b 115 j))
    (λ j. tt)))
