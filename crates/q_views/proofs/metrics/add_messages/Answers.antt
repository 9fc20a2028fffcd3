use Rattle.std.proofs.Common.{◌≡◌, ◌++◌, subst}
use Rattle.std.specs.Prelude.{codes, OnOk}
use Rattle.q_views.specs.declared.figures.QueueCounts.{QueueCounts}
use Rattle.q_views.specs.Metrics.{counts_text, messages_text}
use Rattle.q_views.proofs.metrics.add_messages.Goals as goal

pub returns : goal.returns
unfolding messages_text
returns c = subst (λ (counts : QueueCounts). OnOk c.add_counts.result (c.add_counts.new.text.items ≡ c.args.text.now.items ++ counts_text (codes "qmgr_messages") (codes "Messages in the queue.") counts)) c.messages.ensures c.add_counts.ensures
