-- The phrases are those of the crate `http`.
use Rattle.std.proofs.Common.{◌≡◌, ℕ, ◌<◌, ◌≤◌, ◌==◌, Bool, true, false, cond, List, [], ◌∷◌, length, Option, None, Some, IfSome, IsSome, refl, sym, ◌∙◌, subst, lit≤, lit<, arith}
use Rattle.std.specs.List.{AllByRecursion, find}
use Rattle.std.specs.Option.{option_map, unwrap_or}
use Rattle.std.proofs.lemmas.Bool.Decides.{nat_tests}
use Rattle.http.specs.StatusCode.{reason_phrase}
use Rattle.al_http.specs.Phrases.{phrases, phrase, phrase_of, HasPhrase}

-- a status, and the phrase that it has there, which is short
record IsRow (status : ℕ) (text : List ℕ) : Type 0 where
  from : 100 ≤ status
  to : status < 1000
  is : reason_phrase status ≡ Some text
  short : length text ≤ 22

row : (status : ℕ) (text : List ℕ) → 100 ≤ status → status < 1000 → reason_phrase status ≡ Some text → length text ≤ 22 → IsRow status text
row status text from to is short = record { from = from; to = to; is = is; short = short }

all_rows : AllByRecursion (λ r. IsRow r.0 r.1) phrases
all_rows = (
  row 200 _ (lit≤ tt) (lit< tt) refl (lit≤ tt),
  (
    row 201 _ (lit≤ tt) (lit< tt) refl (lit≤ tt),
    (
      row 204 _ (lit≤ tt) (lit< tt) refl (lit≤ tt),
      (
        row 400 _ (lit≤ tt) (lit< tt) refl (lit≤ tt),
        (
          row 404 _ (lit≤ tt) (lit< tt) refl (lit≤ tt),
          (
            row 405 _ (lit≤ tt) (lit< tt) refl (lit≤ tt),
            (
              row 406 _ (lit≤ tt) (lit< tt) refl (lit≤ tt),
              (
                row 409 _ (lit≤ tt) (lit< tt) refl (lit≤ tt),
                (
                  row 413 _ (lit≤ tt) (lit< tt) refl (lit≤ tt),
                  (
                    row 415 _ (lit≤ tt) (lit< tt) refl (lit≤ tt),
                    (
                      row 500 _ (lit≤ tt) (lit< tt) refl (lit≤ tt),
                      (
                        row 501 _ (lit≤ tt) (lit< tt) refl (lit≤ tt),
                        (
                          row 503 _ (lit≤ tt) (lit< tt) refl (lit≤ tt),
                          tt,
                        ),
                      ),
                    ),
                  ),
                ),
              ),
            ),
          ),
        ),
      ),
    ),
  ),
)

found_row : (status : ℕ) (rows : List (ℕ × List ℕ)) → AllByRecursion (λ r. IsRow r.0 r.1) rows → IfSome (option_map (λ r. r.1) (find (λ r. r.0 == status) rows)) (λ text. IsRow status text)
found_row status [] all = tt
found_row status (r ∷ rows) all = by (r.0 == status) refl (found_row status rows all.1)
  where
    by : (same : Bool) → (r.0 == status) ≡ same → IfSome (option_map (λ x. x.1) (find (λ x. x.0 == status) rows)) (λ text. IsRow status text)
        → IfSome (option_map (λ x. x.1) (cond same (Some r) (find (λ x. x.0 == status) rows))) (λ text. IsRow status text)
    by true is later = let at : r.0 ≡ status = grind (arith, nat_tests) in subst (λ s. IsRow s r.1) at all.0
    by false is later = later

-- a status of alarmd is one of HTTP, with the same phrase
pub record IsOfHttp (status : ℕ) : Type 0 where
  pub from : 100 ≤ status
  pub to : status < 1000
  pub is : reason_phrase status ≡ phrase status
  pub value : unwrap_or (phrase status) [] ≡ phrase_of status
  pub short : length (phrase_of status) ≤ 22

pub of_status : (status : ℕ) → HasPhrase status → IsOfHttp status
of_status status has = by (phrase status) refl has (found_row status phrases all_rows)
  where
    by : (answer : Option (List ℕ)) → phrase status ≡ answer → IsSome answer → IfSome answer (λ text. IsRow status text) → IsOfHttp status
    by None is some known = absurd (cc (some))
    by (Some text) is some known = record { from = known.from; to = known.to; is = known.is ∙ sym is; value = refl; short = rw is known.short }
