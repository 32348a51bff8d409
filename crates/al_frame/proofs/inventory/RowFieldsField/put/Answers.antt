use Rattle.std.proofs.Common.{append_assoc}
use Rattle.al_frame.specs.Frames.{row}
use Rattle.al_frame.proofs.inventory.RowFieldsField.put.Goals as goal

pub returns : goal.returns
unfolding row
returns c =
    rw (c.in_ok-put-7.ensures, c.in_ok-put-6.ensures, c.in_ok-put-5.ensures, c.in_ok-put-4.ensures, c.in_ok-put-3.ensures, c.in_ok-put-2.ensures, c.in_ok-put.ensures) (simp append_assoc)
