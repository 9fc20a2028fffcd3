use Rattle.std.proofs.Common.{ap, subst, ◌≡◌, ℕ, ◌∙◌, sym, length, List, Bool}
use Rattle.std.specs.Option.{IfSome}
use Rattle.q_model.specs.declared.outcome.Failure.{Failure}
use Rattle.q_model.specs.FailureLog.{failures_of}
use Rattle.q_model.specs.QueueFile.{queue_file}
use Rattle.q_model.specs.SpoolFiles.{Files, logged_in}
use Rattle.q_model.specs.Values.{FileHead}
use Rattle.q_message.specs.Told.{bytes_at}
use Rattle.q_logfile.specs.Flags.{AreFlags}
use Rattle.q_look.specs.Failures.{first_flagged}
use Rattle.q_look.proofs.UnmarkedLaws.{failed_is, nothing_failed}
use Rattle.q_look.proofs.failed.failed_at.Goals as goal

pub returns-then-len-eq0-clause-failed : goal.returns-then-len-eq0-clause-failed
returns-then-len-eq0-clause-failed g c t =
    let before = g.H.Host.view c.args.host.now in
    nothing_failed (bytes_at before c.args.spot) c.args.head.now (logged_in before.files c.args.id) c.in_ok-records.records (c.in_ok-records.ensures.records t) (sym c.len.ensures ∙ c.if-len-eq0.true) (c.requires.reading t)

pub returns-clause-failed : goal.returns-clause-failed
returns-clause-failed g c t =
    let before = g.H.Host.view c.args.host.now in
    let set = c.in_ok-flags.flags.set.items in
    let recipients : c.head.inside.recipients ≡ c.args.head.now.recipients = ap (λ (h : FileHead). h.recipients) c.head.view_is in
    let records : c.as_slice.result.now ≡ logged_in before.files c.args.id = c.as_slice.ensures ∙ c.in_ok-records.ensures.records t in
    let are : AreFlags c.args.head.now.recipients (logged_in before.files c.args.id) set = subst (λ (n : ℕ). AreFlags n (logged_in before.files c.args.id) set) recipients (subst (λ (fs : List Failure). AreFlags c.head.inside.recipients fs set) records c.in_ok-flags.ensures.set) in
    let count : c.in_ok-flags.flags.count ≡ length (failures_of c.args.head.now.recipients (logged_in before.files c.args.id)) = c.in_ok-flags.ensures.count ∙ ap (λ (fs : List Failure). length (failures_of c.head.inside.recipients fs)) records ∙ ap (λ (n : ℕ). length (failures_of n (logged_in before.files c.args.id))) recipients in
    let there : IfSome (bytes_at before c.args.spot) (λ bytes. IfSome (queue_file bytes) (λ m. c.in_ok-unmarked.unmarked ≡ first_flagged set m)) =
    subst (λ (f : Files). IfSome (f c.args.spot.area c.args.spot.name) (λ bytes. IfSome (queue_file bytes) (λ m. c.in_ok-unmarked.unmarked ≡ first_flagged set m))) (c.in_ok-records.ensures.stays t).files
    (subst (λ (ts : List Bool). IfSome (bytes_at (g.H.Host.view c.log_of.new.host) c.args.spot) (λ bytes. IfSome (queue_file bytes) (λ m. c.in_ok-unmarked.unmarked ≡ first_flagged ts m))) c.as_slice-2.ensures.value (c.in_ok-unmarked.ensures.first t)) in
    failed_is (bytes_at before c.args.spot) c.args.head.now (logged_in before.files c.args.id) set c.in_ok-flags.flags.count c.in_ok-unmarked.unmarked are count (c.requires.reading t) there
