use Rattle.std.proofs.Common.{ap, ◌∙◌}
use Rattle.al_base.specs.Memory.{SinkView, SourceView}
use Rattle.al_commands.proofs.Drilling.{conversation_fixed, conversation_sends}
use Rattle.al_commands.proofs.drill.exchange.Goals as goal

pub returns-in_default : goal.returns-in_default
returns-in_default c = record {
  sends = tt;
  idle = c.converse-ending.ensures.idle;
  fixed = conversation_fixed _ _ _ _ _ c.converse-ending.ensures.conversation;
}

pub returns-then-ending-ne1-clause-fixed : goal.returns-then-ending-ne1-clause-fixed
returns-then-ending-ne1-clause-fixed c = conversation_fixed _ _ _ _ _ c.converse-ending.ensures.conversation

pub returns-clause-sends : goal.returns-clause-sends
returns-clause-sends c =
    conversation_sends c.args.text.now c.in_ok-source.source.left c.in_ok-sink.sink.held c.converse-ending.new.sink.held c.args.turns.now.seen c.converse-ending.new.turns.seen
    c.in_ok-clock.clock c.converse-ending.new.clock c.converse-ending.result c.status_in-status.result c.converse-ending.ensures.conversation
    (ap (λ (s : SourceView). s.left) c.in_ok-source.ensures) (ap (λ (s : SinkView). s.held) c.in_ok-sink.ensures) c.in_ok-clock.ensures c.in-Ended.is c.if-ending-ne1.false
    c.requires.capacity (λ s rest is. c.status_in-status.ensures s rest (c.bytes.ensures ∙ is)) c.if-status-eq500.false c.if-status-eq503.false

pub returns-clause-fixed : goal.returns-clause-fixed
returns-clause-fixed c = conversation_fixed _ _ _ _ _ c.converse-ending.ensures.conversation
