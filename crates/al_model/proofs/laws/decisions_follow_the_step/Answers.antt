use Rattle.al_model.specs.History.{replay}
use Rattle.al_model.proofs.Decided.{decided_fits}
use Rattle.al_model.proofs.Refusing.{change_reply, is_refused, never_refuses, refused_is, same_reply}
use Rattle.al_model.proofs.Validity.{is_same, legal_valid, same_is}
use Rattle.al_model.proofs.laws.decisions_follow_the_step.Goals as goal

pub returns : goal.returns
returns c =
    record {
      same = λ s origin request now v there known. (same_is s origin request now there known, is_same s origin request now v there known);
      refusals = λ s request now refusal. (refused_is s request now refusal, is_refused s request now refusal);
      never = never_refuses;
      replies = λ s request now. (λ reply h. (same_reply s request now reply h).0, change_reply s request now);
      fits = λ h origin request now event reply legal within from reading decided.
          decided_fits (replay h) origin request now event reply (legal_valid h legal).shelves (legal_valid h legal).time within from reading decided;
    }
