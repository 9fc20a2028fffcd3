use Rattle.std.proofs.Common.{◌≡◌, ◌++◌, subst}
use Rattle.std.specs.Prelude.{codes, OnOk}
use Rattle.q_views.specs.declared.figures.QueueCounts.{QueueCounts}
use Rattle.q_views.specs.Metrics.{counts_text, recipients_text}
use Rattle.q_views.proofs.metrics.add_recipients.Goals as goal

pub returns : goal.returns
unfolding recipients_text
returns c = subst (λ (counts : QueueCounts). OnOk c.add_counts.result (c.add_counts.new.text.items ≡ c.args.text.now.items ++ counts_text (codes "qmgr_pending_recipients") (codes "Pending recipients of the messages in the queue.") counts)) c.recipients.ensures c.add_counts.ensures
