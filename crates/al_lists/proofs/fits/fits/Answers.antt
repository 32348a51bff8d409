use Rattle.std.proofs.Common.{◌<◌, arith}
use Rattle.al_lists.proofs.Asking.{later_fits}
use Rattle.al_lists.proofs.fits.fits.Goals as goal

pub returns : goal.returns
returns c =
    let s = c.args.contents.now.state in
    let e = c.args.entry.now in
    let later : s.time < e.time = omega (arith, c.if-time-ms.false, c.ms-time.ensures.value, c.ms.ensures.value, c.time.ensures) in
    later_fits s e c.ms-time.result c.is_asked.result c.requires.within later c.ms-time.ensures.value c.is_asked.ensures
