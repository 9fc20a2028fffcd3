use Rattle.std.proofs.Common.{◌≡◌, ◌≤◌, arith, length, subst, true}
use Rattle.q_model.specs.Notices.{original_text}
use Rattle.q_model.specs.Texts.{is_address}
use Rattle.q_model.specs.Values.{Receiver}
use Rattle.q_notice.proofs.NoticeLengths.{always_ok, line_short}
use Rattle.q_notice.proofs.failures.add_failure.Goals as goal

pub returns-clause-short : goal.returns-clause-short
returns-clause-short c =
    let form = subst (λ (r : Receiver). is_address r.address ≡ true) c.receiver.view_is c.bytes.ensures.form in
    let few = subst (λ (r : Receiver). length (original_text r.original) ≤ 261) c.receiver.view_is c.in_ok-add_original.ensures.short in
    always_ok c.add-5.result (line_short c.args.receiver.now c.args.failure form few (omega arith))
