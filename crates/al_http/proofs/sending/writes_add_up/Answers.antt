use Rattle.al_http.proofs.FrontLaws.{appends_more, front_more}
use Rattle.al_http.proofs.sending.writes_add_up.Goals as goal

pub returns-clause-whole : goal.returns-clause-whole
returns-clause-whole c = appends_more

pub returns-clause-front : goal.returns-clause-front
returns-clause-front c = front_more
