use Rattle.al_model.proofs.Validity.{legal_valid, moves_side, step_valid}
use Rattle.al_model.proofs.laws.states_are_valid.Goals as goal

pub returns : goal.returns
returns c =
    record {
      alarms = λ h legal. ((legal_valid h legal).order, (legal_valid h legal).few);
      shelves = λ h legal. (legal_valid h legal).shelves;
      valid = legal_valid;
      steps = step_valid;
      side_times = moves_side;
    }
