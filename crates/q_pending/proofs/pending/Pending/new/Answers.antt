use Rattle.std.proofs.Common.{◌≡◌, ◌∙◌, ap, List, length, ℕ, refl, subst}
use Rattle.q_logfile.specs.Flags.{AreFlags}
use Rattle.q_model.specs.declared.id.Id.{Id}
use Rattle.q_model.specs.declared.outcome.Failure.{Failure}
use Rattle.q_model.specs.SpoolFiles.{logged_in}
use Rattle.q_model.specs.Values.{FileHead}
use Rattle.q_pending.proofs.ReadingLaws.{begins, count_is}
use Rattle.q_pending.proofs.pending.Pending.new.Goals as goal

pub returns-clause-ahead : goal.returns-clause-ahead
returns-clause-ahead g c t m file same =
    let files = (g.H.Host.view c.args.host.now).files in
    let flags = c.in_ok-logged.logged.items in
    let recipients : c.head.inside.recipients ≡ c.args.head.now.recipients = ap (λ (h : FileHead). h.recipients) c.head.view_is in
    let count : c.head.inside.recipients ≡ length m.recipients = recipients ∙ count_is files m c.args.spot c.args.head.now file (c.requires.head t) in
    let records : c.as_slice.result.now ≡ logged_in files m.id = c.as_slice.ensures ∙ c.in_ok-records.ensures.records t ∙ ap (λ (i : Id). logged_in files i) same in
    let are : AreFlags (length m.recipients) (logged_in files m.id) flags = subst (λ (n : ℕ). AreFlags n (logged_in files m.id) flags) count (subst (λ (fs : List Failure). AreFlags c.head.inside.recipients fs flags) records c.in_ok-logged.ensures) in
    begins files m _ file c.in_ok-batch.ensures.0 refl are
