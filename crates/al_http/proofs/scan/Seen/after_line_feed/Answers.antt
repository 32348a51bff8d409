use Rattle.al_http.proofs.ScanLemmas.{feed_on_nothing}
use Rattle.al_http.proofs.scan.Seen.after_line_feed.Goals as goal

pub returns-in-Nothing : goal.returns-in-Nothing
returns-in-Nothing c = λ front before. search (feed_on_nothing)
