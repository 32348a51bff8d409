use Rattle.al_shelf.proofs.Puts.{kept_within}
use Rattle.al_shelf.proofs.shelves.Shelves.place_for.Goals as goal

pub returns-in-Keep-clause-within : goal.returns-in-Keep-clause-within
returns-in-Keep-clause-within c =
    rw (c.unwrap_or.ensures, c.place_of.ensures.place, c.count_of_others-in-Keep.ensures) (kept_within c.args.name.now c.args.self.now.shelves c.place_of.ensures.sound)
