use Rattle.std.proofs.Common.{◌≡◌, ◌+◌, false, ltb, sym, ap, ◌∙◌, subst, take, List, ℕ, arith}
use Rattle.std.specs.Io.KnownBytes.{Keeps}
use Rattle.std.specs.Vec.{with_items}
use Rattle.std.specs.Prelude.{slice_range}
use Rattle.std.proofs.lemmas.Bool.{ltb-false}
use Rattle.std.proofs.lemmas.List.{with_items_is}
use Rattle.al_http.specs.Moves.{stream_of}
use Rattle.al_http.specs.InputBuffers.{held_bytes}
use Rattle.al_http.proofs.StreamLemmas.{read_on, same_left, held_grown, held_same, at_end}
use Rattle.al_http.proofs.input_buffer.InputBuffer.read_more.Goals as goal

pub returns-in-Ok-clause-stream : goal.returns-in-Ok-clause-stream
returns-in-Ok-clause-stream g c =
    let old = c.settle.new.self in
    let new = c.read_behind.new.bytes in
    let items = with_items_is old.bytes new (c.read_behind.auto.bytes ∙ c.deref_mut.ensures.len) in
    let kept = c.in-Ok.ensures.kept ∙ ap (take old.filled) c.deref_mut.ensures.value in
    let grown = held_grown _ new old.bytes.items _ old.start old.filled c.in-Ok.count items c.settle.ensures.front kept c.settle.ensures.held in
    subst (λ (held : List ℕ). Keeps (stream_of (held_bytes c.args.self.now) (g.S.Source.left c.args.source.now)) (stream_of held (g.S.Source.left c.read_behind.new.source)))
    (sym grown) (read_on _ _ _ _ c.in-Ok.ensures.gave)

pub returns-in-Ok-clause-end : goal.returns-in-Ok-clause-end
returns-in-Ok-clause-end g c = λ ended.
    let old = c.settle.new.self in
    let new = c.read_behind.new.bytes in
    let test : ltb 0 c.in-Ok.count ≡ false = cc (ended) in
    let none : c.in-Ok.count ≡ 0 = omega (arith, ltb-false 0 c.in-Ok.count test) in
    let items = with_items_is old.bytes new (c.read_behind.auto.bytes ∙ c.deref_mut.ensures.len) in
    let kept = c.in-Ok.ensures.kept ∙ ap (take old.filled) c.deref_mut.ensures.value in
    let all : old.filled + c.in-Ok.count ≡ old.filled = omega arith in (
      ap (λ n. slice_range (with_items old.bytes new).items old.start n) all ∙ held_same _ new old.bytes.items _ old.start old.filled items c.settle.ensures.front kept c.settle.ensures.held,
      at_end _ _ c.in-Ok.count none c.in-Ok.ensures.end,
    )

pub returns-in-Err-clause-stream : goal.returns-in-Err-clause-stream
returns-in-Err-clause-stream g c =
    let old = c.settle.new.self in
    let new = c.read_behind.new.bytes in
    let items = with_items_is old.bytes new (c.read_behind.auto.bytes ∙ c.deref_mut.ensures.len) in
    let kept = c.in-Err.ensures.kept ∙ ap (take old.filled) c.deref_mut.ensures.value in
    let same = held_same _ new old.bytes.items _ old.start old.filled items c.settle.ensures.front kept c.settle.ensures.held in
    subst (λ (held : List ℕ). Keeps (stream_of (held_bytes c.args.self.now) (g.S.Source.left c.args.source.now)) (stream_of held (g.S.Source.left c.read_behind.new.source)))
    (sym same) (same_left _ _ _ c.in-Err.ensures.fault)
