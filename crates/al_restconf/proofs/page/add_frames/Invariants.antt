use Rattle.std.proofs.Common.{◌≡◌, ◌++◌, ◌+◌, ◌-◌, drop, map}
use Rattle.al_office.specs.Images.{frames_of}
use Rattle.hex.specs.Hex.{encode_lower}
use Rattle.al_restconf.specs.Pages.{front_within}
use Rattle.al_restconf.proofs.page.add_frames.Given as goal

-- the texts so far, with those that are still to come, are all of them
abbrev pub invariant-loop-more : goal.invariant-loop-more
invariant-loop-more g l =
    l.texts.items ++ map encode_lower (front_within (63 - l.more) l.left (drop (l.next + l.more) (frames_of l.office.entries)))
    ≡ l.fn.texts.items ++ map encode_lower (front_within 63 l.room (drop l.next (frames_of l.office.entries)))
