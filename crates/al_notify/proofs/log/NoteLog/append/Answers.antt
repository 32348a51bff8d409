use Rattle.std.proofs.Common.{◌+◌, ◌<◌, ap, ◌∙◌, sym, arith}
use Rattle.std.specs.VecDeque.{deque_capacity, deque_len}
use Rattle.al_notify.proofs.Keeping.{keeps, put_last}
use Rattle.al_notify.proofs.log.NoteLog.append.Goals as goal

pub invariant_of-self : goal.invariant_of-self
invariant_of-self c =
    let room : deque_len c.make_room.new.notes < deque_capacity c.make_room.new.notes = omega (arith, c.self.invariant.1) in (
      keeps _ c.args.note c.push_back.new.self.items c.self.invariant.0 (c.requires ∙ ap (λ log. log.sent + 1) (sym c.self.view_is))
          (put_last _ _ _ _ _ c.push_back.ensures.items (c.push_back.ensures.succeeds room) c.make_room.ensures.items),
      omega (arith, c.self.invariant.1),
    )
