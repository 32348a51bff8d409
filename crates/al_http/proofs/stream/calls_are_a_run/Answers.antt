use Rattle.al_http.proofs.StreamLaws.{given_nothing, given_more, given_still, ends_ended, ends_at, ends_limit, ends_closed}
use Rattle.al_http.proofs.stream.calls_are_a_run.Goals as goal

pub returns-clause-begins : goal.returns-clause-begins
returns-clause-begins c = given_nothing

pub returns-clause-goes_on : goal.returns-clause-goes_on
returns-clause-goes_on c = given_more

pub returns-clause-stays : goal.returns-clause-stays
returns-clause-stays c = given_still

pub returns-clause-ends : goal.returns-clause-ends
returns-clause-ends c = λ start old new requests given on. (
  λ few. ends_ended start old new requests given on few,
  λ stop ending few. ends_at start old new requests stop ending given on few,
  ends_limit start old requests given on,
)

pub returns-clause-closes : goal.returns-clause-closes
returns-clause-closes c = ends_closed
