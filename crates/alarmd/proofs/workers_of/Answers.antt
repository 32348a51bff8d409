use Rattle.std.proofs.Common.{◌≡◌}
use Rattle.alarmd.proofs.OneRow.{same_workers}
use Rattle.alarmd.proofs.workers_of.Goals as goal

pub returns : goal.returns
returns c serve is =
    let same = same_workers c.args.words.now c.args.asked serve c.requires is in
    let number = c.from.ensures in
    cc
