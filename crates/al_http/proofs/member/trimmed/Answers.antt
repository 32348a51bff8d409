use Rattle.std.proofs.Common.{◌≡◌, ◌≤◌, ℕ, List, length, reverse, slice_range, sym, ap, ◌∙◌, arith}
use Rattle.std.proofs.lemmas.List.{reverse-reverse}
use Rattle.httparse.specs.Grammar.{skip_ows, trim_ows}
use Rattle.httparse.proofs.TrimLemmas.{skip_ows_yes, skip_ows_no, slice_first, slice_last, slice_empty}
use Rattle.al_http.proofs.member.trimmed.Goals.{then-loop-start-test+else-is_space_or_tab, else-loop-start-test, then-loop-end-test+else-is_space_or_tab-2, else-loop-end-test}
use Rattle.al_http.proofs.member.trimmed.Goals as goal

pub loop-start-preserved : goal.loop-start-preserved
loop-start-preserved c = record {
  within = (omega arith, omega arith);
  same = c.loop-start.invariant.same ∙ skip_ows_yes (slice_first _ _ _ c.loop-start-test.true (omega arith)) c.if-is_space_or_tab.ensures;
}

pub loop-end-init : goal.loop-end-init
unfolding trim_ows
loop-end-init c =
    let here = slice_range c.args.bytes.now c.loop-start.start (length c.args.bytes.now) in
    let all : length c.args.bytes.now ≤ length c.args.bytes.now = omega arith in
    let stays : skip_ows here ≡ here =
    elim c.loop-start-test.branch [
      | then-loop-start-test+else-is_space_or_tab w ↦
          let first = slice_first _ _ _ w.loop-start-test.true all in
          skip_ows_no first w.if-is_space_or_tab.ensures
      | else-loop-start-test w ↦
          let empty = slice_empty c.args.bytes.now c.loop-start.start (length c.args.bytes.now) (omega arith) all in
          ap skip_ows empty ∙ sym empty
    ] in record {
      within = (omega arith, all);
      same = ap (λ (t : List ℕ). reverse (skip_ows (reverse t))) (c.loop-start.invariant.same ∙ stays);
    }

pub loop-end-preserved : goal.loop-end-preserved
loop-end-preserved c =
    let last = slice_last c.args.bytes.now _ _ c.loop-end-test.true (omega arith) in record {
      within = (omega arith, omega arith);
      same = c.loop-end.invariant.same ∙ ap reverse (skip_ows_yes last c.if-is_space_or_tab-2.ensures);
    }

pub returns : goal.returns
returns c =
    let bytes = c.args.bytes.now in
    elim c.loop-end-test.branch [
      | then-loop-end-test+else-is_space_or_tab-2 w ↦
          (let last = slice_last bytes _ _ w.loop-end-test.true (omega arith) in
          sym (c.loop-end.invariant.same ∙ ap reverse (skip_ows_no last w.if-is_space_or_tab-2.ensures) ∙ reverse-reverse _))
      | else-loop-end-test w ↦
          (let empty = slice_empty bytes c.loop-start.start c.loop-end.end (omega arith) (omega arith) in
          empty ∙ sym (c.loop-end.invariant.same ∙ ap (λ (t : List ℕ). reverse (skip_ows (reverse t))) empty))
    ]
