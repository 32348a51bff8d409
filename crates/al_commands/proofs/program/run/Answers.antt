use Rattle.std.proofs.Common.{◌≡◌}
use Rattle.al_commands.proofs.Asking.{asks_check, asks_drill, asks_init, asks_row, asks_session, within_row}
use Rattle.al_commands.specs.declared.command.Command.TheVariants.{Check, Drill, Init, Session}
use Rattle.al_commands.proofs.program.run.Goals as goal

pub run_command-requires : goal.run_command-requires
run_command-requires g c = within_row _ c.in-Some.command c.in-Some.ensures

pub returns-in-Some-clause-init : goal.returns-in-Some-clause-init
returns-in-Some-clause-init g c = λ capacity is.
    let e : c.in-Some.command ≡ Init capacity = asks_init _ c.in-Some.command c.in-Some.ensures capacity is in
    rw e at c.run_command.ensures.does

pub returns-in-Some-clause-session : goal.returns-in-Some-clause-session
returns-in-Some-clause-session g c = λ is.
    let e : c.in-Some.command ≡ Session = asks_session _ c.in-Some.command c.in-Some.ensures is in
    rw e at c.run_command.ensures.does

pub returns-in-Some-clause-check : goal.returns-in-Some-clause-check
returns-in-Some-clause-check g c = λ is.
    let e : c.in-Some.command ≡ Check = asks_check _ c.in-Some.command c.in-Some.ensures is in
    rw e at c.run_command.ensures.does

pub returns-in-Some-clause-drill : goal.returns-in-Some-clause-drill
returns-in-Some-clause-drill g c = λ seed count is.
    let e : c.in-Some.command ≡ Drill seed count = asks_drill _ c.in-Some.command c.in-Some.ensures seed count is in
    rw e at c.run_command.ensures.does

pub returns-in-Some-clause-usage : goal.returns-in-Some-clause-usage
returns-in-Some-clause-usage g c = λ none. absurd (asks_row _ c.in-Some.command c.in-Some.ensures none)

pub returns-in-Some-clause-untouched : goal.returns-in-Some-clause-untouched
returns-in-Some-clause-untouched g c = λ other.
    c.run_command.ensures.untouched (λ is. other (rw is at c.in-Some.ensures))

pub returns-in-None-clause-init : goal.returns-in-None-clause-init
returns-in-None-clause-init g c = λ capacity is. absurd (c.in-None.ensures.no_init capacity is)

pub returns-in-None-clause-session : goal.returns-in-None-clause-session
returns-in-None-clause-session g c = λ is. absurd (c.in-None.ensures.no_session is)

pub returns-in-None-clause-check : goal.returns-in-None-clause-check
returns-in-None-clause-check g c = λ is. absurd (c.in-None.ensures.no_check is)

pub returns-in-None-clause-drill : goal.returns-in-None-clause-drill
returns-in-None-clause-drill g c = λ seed count is. absurd (c.in-None.ensures.no_drill seed count is)
