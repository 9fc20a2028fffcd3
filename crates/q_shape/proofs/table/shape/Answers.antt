use Rattle.std.proofs.Common.{arith, ◌++◌, ◌∙◌, ◌∷◌, [], ap, subst, sym, take, length, ◌<◌, ◌≤◌}
use Rattle.std.specs.Prelude.{slice_index_or}
use Rattle.std.proofs.lemmas.List.{take_all, take_more}
use Rattle.q_shape.proofs.CountLaws.{total-push}
use Rattle.q_shape.specs.Counts.{total}
use Rattle.q_shape.specs.Rows.{HasCounted}
use Rattle.q_shape.proofs.TextLaws.{if_ok}
use Rattle.q_shape.proofs.table.shape.Goals as goal

pub loop-domain-preserved : goal.loop-domain-preserved
loop-domain-preserved c =
    let i = c.loop-domain.domain-index in
    let cs = c.args.counted.now in
    let one = c.loop-domain-item.result in
    let within = subst (λ ds. i < length ds) c.as_slice-domain-items.ensures c.loop-domain-test.true in
    let same = ap (λ x. take i cs ++ x ∷ []) c.loop-domain-item.is ∙ ap (λ ds. take i cs ++ slice_index_or ds i one ∷ []) c.as_slice-domain-items.ensures ∙ sym (take_more cs i one within) in
    let sum = total-push (take i cs) one in
    let few = c.loop-domain.invariant.few in
    record {
      counted = subst (λ ds. HasCounted c.args.options.now ds c.add.new.self) same (c.in_ok-add.ensures c.args.options.now (take i cs) c.loop-domain.invariant.counted (omega (arith, sum, few)));
      few = let all = ap total same in omega (arith, sum, few, all);
    }

pub returns : goal.returns
returns c =
    let cs = c.args.counted.now in
    let o = c.args.options.now in
    let all = subst (λ ds. HasCounted o ds c.loop-domain.table) (take_all c.loop-domain.domain-index cs (subst (λ ds. length ds ≤ c.loop-domain.domain-index) c.as_slice-domain-items.ensures c.loop-domain-test.false)) c.loop-domain.invariant.counted in
    if_ok c.text.result (λ text h. h o cs all) c.text.ensures
