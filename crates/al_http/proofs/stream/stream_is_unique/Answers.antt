use Rattle.al_http.proofs.StreamLaws.{first_unique, no_end, one_end, one_stream}
use Rattle.al_http.proofs.stream.stream_is_unique.Goals as goal

pub returns-clause-one_request : goal.returns-clause-one_request
returns-clause-one_request c = first_unique

pub returns-clause-no_end : goal.returns-clause-no_end
returns-clause-no_end c = no_end

pub returns-clause-one_end : goal.returns-clause-one_end
returns-clause-one_end c = one_end

pub returns-clause-one_stream : goal.returns-clause-one_stream
returns-clause-one_stream c = one_stream
