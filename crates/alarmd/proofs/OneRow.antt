-- The words of `serve` are one row.
use Rattle.std.proofs.Common.{◌≡◌, ℕ, List, arith}
use Rattle.std.specs.Prelude.{decimal}
use Rattle.std.proofs.lemmas.Fmt.{decimal_injective}
use Rattle.al_server.specs.ServeWords.{IsServe}
use Rattle.al_server.specs.declared.serve_words.ServeWords.{ServeWords}

-- they ask for one number of workers
pub same_workers : (words : List (List ℕ)) (asked serve : ServeWords) → IsServe words asked → IsServe words serve → asked.workers ≡ serve.workers
same_workers words asked serve is too =
    let one = is.row in
    let other = too.row in
    let few = is.workers in
    let little = too.workers in
    let digits : decimal asked.workers ≡ decimal serve.workers = cc in
    decimal_injective asked.workers serve.workers (omega (arith, few)) (omega (arith, little)) digits
