use Rattle.al_model.specs.History.{replay}
use Rattle.al_model.proofs.Validity.{bounded_alarms, legal_valid, marked_alarms, newest_alarms, timed_alarms}
use Rattle.al_model.proofs.laws.alarms_agree_with_their_histories.Goals as goal

pub returns : goal.returns
returns c =
    record {
      newest = λ h legal. newest_alarms (replay h) (legal_valid h legal);
      times = λ h legal. timed_alarms (replay h) (legal_valid h legal);
      shelved = λ h legal. marked_alarms (replay h) (legal_valid h legal);
      bounded = λ h legal. bounded_alarms (replay h) (legal_valid h legal);
    }
