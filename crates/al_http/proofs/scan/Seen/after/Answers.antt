use Rattle.std.proofs.Common.{◌≢◌}
use Rattle.al_http.specs.Blocks.{carriage_return}
use Rattle.al_http.proofs.ScanLemmas.{after_text, line_byte}
use Rattle.al_http.proofs.scan.Seen.after.Goals as goal

pub returns-else-byte-eq-CARRIAGE_RETURN : goal.returns-else-byte-eq-CARRIAGE_RETURN
returns-else-byte-eq-CARRIAGE_RETURN c =
    let other : c.args.byte ≢ carriage_return = c.if-byte-eq-CARRIAGE_RETURN.false in
    λ front before. after_text c.args.self front c.args.byte c.requires other (line_byte c.args.byte c.requires other) before
