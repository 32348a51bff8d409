use Rattle.std.proofs.Common.{◌<◌, length, refl, arith, rules}
use Rattle.std.proofs.lemmas.Option.{slice_get_read}
use Rattle.al_types.specs.Known.{IsDuplicateRow}
use Rattle.al_types.proofs.Found.{none_before_next}
use Rattle.al_types.proofs.repeats.repeats.Goals as goal

pub returns-then-is_of : goal.returns-then-is_of
returns-then-is_of c =
    let lt : c.loop-earlier.earlier < length c.args.rows.now = omega arith in
    let first = slice_get_read c.args.rows.now (length c.args.rows.now) c.loop-earlier.earlier c.index-rows-earlier.result refl lt c.index-rows-earlier.is in
    let second = slice_get_read c.args.rows.now (length c.args.rows.now) c.args.n c.index-rows-n.result refl c.requires c.index-rows-n.is in
    let same = c.is_of.ensures.exact.0 c.if-is_of.true in
    let d : IsDuplicateRow c.args.rows.now c.args.n = record {
      earlier = c.loop-earlier.earlier;
      before = omega arith;
      repeated = c.index-rows-earlier.result;
      row = c.index-rows-n.result;
      first = first;
      second = second;
      same_type = same.0;
      same_qualifier = same.1;
    } in
    (λ yes. d, λ no. search rules)

pub loop-earlier-preserved : goal.loop-earlier-preserved
loop-earlier-preserved c =
    let lt : c.loop-earlier.earlier < length c.args.rows.now = omega arith in
    let first = slice_get_read c.args.rows.now (length c.args.rows.now) c.loop-earlier.earlier c.index-rows-earlier.result refl lt c.index-rows-earlier.is in
    let second = slice_get_read c.args.rows.now (length c.args.rows.now) c.args.n c.index-rows-n.result refl c.requires c.index-rows-n.is in
    none_before_next c.args.rows.now c.args.n c.loop-earlier.earlier c.index-rows-earlier.result c.index-rows-n.result c.loop-earlier.invariant first second
    (λ type_ids qualifiers. (let yes = c.is_of.ensures.exact.1 (type_ids, qualifiers) in absurd (cc)))
