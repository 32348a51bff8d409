use Rattle.std.proofs.Common.{sym, subst}
use Rattle.std.specs.Net.Grammar.{IsIpv4Text}
use Rattle.al_server.proofs.Colons.{no_address, parts_are}
use Rattle.al_server.proofs.serve_words.address_of.Goals as goal

pub returns-in_err-ip : goal.returns-in_err-ip
returns-in_err-ip c = rw c.from_residual.ensures (λ address. no_address c.args.text.now address c.in_err-ip.ensures.none)

pub returns-in_default : goal.returns-in_default
returns-in_default c = λ address is.
    let parts = parts_are c.args.text.now _ _ address c.in_ok-ip.ensures.some is in
    c.in_default.ensures address.ip (subst (λ text. IsIpv4Text text address.ip) parts.0 is.ip_is)

pub returns-in_err-port : goal.returns-in_err-port
returns-in_err-port c =
    rw c.from_residual-in_err-port.ensures
    (λ address is. c.in_err-port.ensures address.port is.port (sym (parts_are c.args.text.now _ _ address c.in_ok-ip.ensures.some is).1))
