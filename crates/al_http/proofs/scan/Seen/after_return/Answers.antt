use Rattle.al_http.proofs.ScanLemmas.{return_on_nothing, return_on_line_feed}
use Rattle.al_http.proofs.scan.Seen.after_return.Goals as goal

pub returns-in-Nothing : goal.returns-in-Nothing
returns-in-Nothing c = λ front before. search (return_on_nothing)

pub returns-in-LineFeed : goal.returns-in-LineFeed
returns-in-LineFeed c = λ front before. search (return_on_line_feed)
