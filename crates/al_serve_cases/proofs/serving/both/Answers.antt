use Rattle.std.proofs.Common.{◌≡◌, Some, List, [], ◌∷◌, ◌++◌, ap, ◌∙◌}
use Rattle.std.proofs.lemmas.List.Elements.{All-nil, All-push, All-same}
use Rattle.al_base.specs.Readings.{Readings}
use Rattle.al_serve.specs.Workers.{IsReady, work_of}
use Rattle.al_serve.specs.declared.worker.Worker.{Worker}
use Rattle.al_serve_cases.specs.declared.tally.Adder.{Adder}
use Rattle.al_serve_cases.specs.declared.tally.Tally.{Tally}
use Rattle.al_serve_cases.proofs.serving.both.Goals as goal

pub returns-clause-ready : goal.returns-clause-ready
returns-clause-ready g c =
    let ready = λ (w : Worker Tally g.row.N.Denot Adder Readings). IsReady c.args.turnstile.now (work_of g.N.Doors.state (λ (r : Readings). Some r) w) in
    let items : c.push.new.self.items ≡ [] ++ c.args.first ∷ [] = c.in_ok-push.ensures.items ∙ ap (λ (xs : List (Worker Tally g.row.N.Denot Adder Readings)). xs ++ c.args.first ∷ []) c.new-workers.ensures.items in
    let one = All-push ready [] c.args.first (All-nil ready) c.requires.first in
    let two = All-push ready c.push.new.self.items c.args.second (All-same ready c.push.new.self.items ([] ++ c.args.first ∷ []) items one) c.requires.second in
    All-same ready c.push-2.new.self.items (c.push.new.self.items ++ c.args.second ∷ []) c.in_ok-push-2.ensures.items two
