use Rattle.std.proofs.Common.{inl}
use Rattle.al_disk.proofs.Going.{so_goes}
use Rattle.al_commands.proofs.checking.run_check.Goals as goal

pub returns-in-Ok-clause-checked : goal.returns-in-Ok-clause-checked
returns-in-Ok-clause-checked g c =
    let office = c.in-Ok.office in
    rw c.into_disk.ensures (record {
      ended = inl (record {
        capacity = office.journal.capacity;
        history = office.entries;
        legal = c.keeps_its_history.ensures.legal;
        disk = so_goes _ _ _ _ c.in-Ok.ensures.opens (λ s t is opens. record { shows = opens.shows; syncs = opens.syncs });
        told = rw c.counts_of.ensures at c.tell_counts-status.ensures.told;
      });
      moments = c.in-Ok.ensures.moments;
    })
