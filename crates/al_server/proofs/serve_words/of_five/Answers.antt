use Rattle.std.proofs.Common.{◌≡◌, refl, subst}
use Rattle.al_server.proofs.OneServe.{one_serve}
use Rattle.al_server.specs.Addresses.{IsAddress}
use Rattle.al_server.proofs.serve_words.of_five.Goals as goal

pub returns-in_err-address-clause-asked : goal.returns-in_err-address-clause-asked
returns-in_err-address-clause-asked c =
    rw c.from_residual.ensures
    (λ serve is.
    let same : is.address ≡ c.args.address.now = (let row = is.row in cc) in
    c.in_err-address.ensures serve.address (subst (λ text. IsAddress text serve.address) same is.is_address))

pub returns-clause-one : goal.returns-clause-one
returns-clause-one c =
    let workers = c.in_ok-workers.ensures in
    let connections = c.in_ok-connections.ensures in
    one_serve _ c.args.name.now c.args.journal.now c.args.address.now c.args.workers.now c.args.connections.now _ refl workers.0 connections.0 workers.2 connections.2
