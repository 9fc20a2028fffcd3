use Rattle.std.proofs.Common.{◌≡◌, ◌∙◌, ◌+◌, ap, arith, List, slice_set, sym}
use Rattle.q_ledger.proofs.PreemptedLaws.{line_set, lines_within}
use Rattle.q_ledger.specs.Changed.{ids_without}
use Rattle.q_model.specs.declared.id.Id.{Id}
use Rattle.q_model.specs.Preemptions.{put_before}
use Rattle.q_ledger.proofs.preempting.preempt_at.Goals as goal

pub returns-in_ok-put_before-clause-ok : goal.returns-in_ok-put_before-clause-ok
returns-in_ok-put_before-clause-ok c =
    let i = c.from-place.result in
    let lines = c.args.lines.now in
    let line = c.index-lines-place.result in
    let place : c.args.transport ≡ 0 + i = omega (arith, c.from-place.ensures) in
    ap (slice_set lines i) (c.in_ok-put_before.ensures.ok ∙ ap (λ (ids : List Id). put_before c.args.child c.args.parent (ids_without c.args.child ids)) (sym c.index-lines-place.is))
    ∙ line_set c.args.child c.args.parent c.args.transport i 0 lines line place c.if-place-lines.true c.index-lines-place.is

pub returns-else-place-lines-clause-ok : goal.returns-else-place-lines-clause-ok
returns-else-place-lines-clause-ok c =
    lines_within c.args.child c.args.parent c.args.transport 0 c.args.lines.now (omega (arith, c.from-place.ensures, c.if-place-lines.false))
