use Rattle.std.proofs.Common.{◌∙◌, ap, arith, get_or, length}
use Rattle.std.proofs.lemmas.List.{length-set}
use Rattle.q_marked.proofs.Keying.{ranked_all, ranked_more}
use Rattle.q_marked.proofs.marking.mark_anew.Goals as goal

pub loop-number-preserved : goal.loop-number-preserved
loop-number-preserved c =
    let i = c.loop-number.number in
    let ranks = c.args.order.now.ranks in
    let count = ap length c.key_anew.ensures in (
      count ∙ length-set c.loop-number.keys i _ ∙ c.loop-number.invariant.0,
      λ n. ap (λ ks. get_or ks n 0) c.key_anew.ensures ∙ ranked_more ranks c.args.keys.now c.loop-number.keys i n (omega (arith, c.loop-number-test.true, c.loop-number.invariant.0)) c.loop-number.invariant.1,
    )

pub returns-clause-ranked : goal.returns-clause-ranked
returns-clause-ranked c = λ n below.
    c.loop-number.invariant.1 n ∙ ranked_all c.args.order.now.ranks c.args.keys.now c.loop-number.number n (omega (arith, c.loop-number-test.false, below))
