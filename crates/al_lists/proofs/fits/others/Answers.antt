use Rattle.std.proofs.Common.{None, Some, sym, arith}
use Rattle.al_lists.proofs.Shelving.{others_count}
use Rattle.al_lists.proofs.fits.others.Goals as goal

pub returns-in-Some : goal.returns-in-Some
returns-in-Some c =
    let count = others_count c.args.name.now c.args.shelves.now.shelves (Some c.in-Some.field-0) c.len.ensures.sound (sym c.in-Some.ensures.place) in
    omega (arith, count, c.len.ensures.len)

pub returns-in-None : goal.returns-in-None
returns-in-None c =
    let count = others_count c.args.name.now c.args.shelves.now.shelves None c.len-in-None.ensures.sound (sym c.in-None.ensures.place) in
    omega (arith, count, c.len-in-None.ensures.len)
