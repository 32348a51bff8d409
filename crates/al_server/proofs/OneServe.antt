-- Words ask to serve in one way.
use Rattle.std.proofs.Common.{◌≡◌, ℕ, ◌≤◌, List, [], ◌∷◌, ◌∙◌, arith}
use Rattle.std.specs.Prelude.{decimal}
use Rattle.std.proofs.lemmas.Fmt.{decimal_injective}
use Rattle.al_server.specs.ServeWords.{IsOneServe, IsServe}
use Rattle.al_server.specs.declared.serve_words.ServeWords.{ServeWords}

same_workers : (words : List (List ℕ)) (name journal address workers connections : List ℕ) (other : ServeWords) → words ≡ name ∷ journal ∷ address ∷ workers ∷ connections ∷ [] → IsServe words other → decimal other.workers ≡ workers
same_workers words name journal address workers connections other are is = let row = is.row in cc

same_connections : (words : List (List ℕ)) (name journal address workers connections : List ℕ) (other : ServeWords) → words ≡ name ∷ journal ∷ address ∷ workers ∷ connections ∷ [] → IsServe words other → decimal other.connections ≡ connections
same_connections words name journal address workers connections other are is = let row = is.row in cc

pub one_serve : (words : List (List ℕ)) (name journal address workers connections : List ℕ) (serve : ServeWords) → words ≡ name ∷ journal ∷ address ∷ workers ∷ connections ∷ []
    → workers ≡ decimal serve.workers → connections ≡ decimal serve.connections → serve.workers ≤ 64 → serve.connections ≤ 1000000 → IsOneServe words serve
one_serve words name journal address workers connections serve are is_workers is_connections few due = record {
  workers = λ other is.
      decimal_injective other.workers serve.workers (let most = is.workers.1 in omega arith) (omega (arith, few)) (same_workers words name journal address workers connections other are is ∙ is_workers);
  connections = λ other is.
      decimal_injective other.connections serve.connections (let most = is.connections.1 in omega arith) (omega (arith, due))
      (same_connections words name journal address workers connections other are is ∙ is_connections);
}
