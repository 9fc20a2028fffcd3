use Rattle.std.proofs.Common.{◌-◌, ◌^◌, ◌∙◌, ap}
use Rattle.std.specs.Prelude.{min}
use Rattle.q_engine.specs.Stands.{preempts}
use Rattle.q_load.specs.Loads.{load_world}
use Rattle.q_load.specs.Mails.{all_recipients}
use Rattle.q_load.specs.declared.summary.Summary.{Summary}
use Rattle.q_model.specs.Past.{starts}
use Rattle.q_load.proofs.Unfailing.{engine_memory}
use Rattle.q_load.proofs.loading.conclude.Goals as goal

pub returns-in-Ok : goal.returns-in-Ok
returns-in-Ok c l stands =
    let begun = c.last_number.ensures load_world l stands.core stands.counts in
    let before = c.preempts.ensures load_world l stands.core stands.counts in
    let left = c.in_ok-count_left.ensures.exact l.book stands.host.reads in
    ap (λ n. record { messages = c.args.mails; recipients = n; starts = c.last_number.result; preempts = c.preempts.result; left = c.in_ok-count_left.field-0 }) c.all_recipients.ensures
    ∙ ap (λ n. record { messages = c.args.mails; recipients = all_recipients c.args.mails; starts = n; preempts = c.preempts.result; left = c.in_ok-count_left.field-0 }) begun
    ∙ ap (λ n. record { messages = c.args.mails; recipients = all_recipients c.args.mails; starts = starts l; preempts = n; left = c.in_ok-count_left.field-0 }) before
    ∙ ap (λ n. record { messages = c.args.mails; recipients = all_recipients c.args.mails; starts = starts l; preempts = min (preempts l) (2 ^ 64 - 1); left = n }) left

pub want_of_memory-requires : goal.want_of_memory-requires
want_of_memory-requires c =
    let error = c.in-Err.error in
    engine_memory error c.finish.result c.in-Err.is c.finish.ensures.cause (c.finish.ensures.kinds error c.in-Err.is)
