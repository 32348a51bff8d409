use Rattle.std.proofs.Common.{◌∷◌, []}
use Rattle.al_model.specs.State.{start}
use Rattle.al_model.proofs.Histories.{all_within, legal_at, legal_from_each, legal_parts, legal_push, legal_take, replay-push}
use Rattle.al_model.proofs.Validity.{legal_valid}
use Rattle.al_model.proofs.laws.histories_grow_by_one_step.Goals as goal

pub returns : goal.returns
returns c =
    record {
      every_prefix = λ h. (legal_at start h, legal_from_each start h);
      replay = replay-push;
      legal = λ h e. (λ l. (let parts = legal_parts start h (e ∷ []) l in (parts.0, parts.1.0)), λ l. legal_push h e l.0 l.1);
      fronts = λ h n legal. legal_take start h n legal;
      within = λ h legal. all_within start h legal;
      time = λ h legal. (legal_valid h legal).time;
    }
