use Rattle.std.proofs.Common.{rules}
use Rattle.q_reply.proofs.Cutting.{cuts_as}
use Rattle.q_reply.proofs.replies.Replies.feed.Goals as goal

pub returns-in-BadReply-clause-codes : goal.returns-in-BadReply-clause-codes
returns-in-BadReply-clause-codes c = λ p h. cuts_as p c.args.bytes.now _ (c.in-BadReply.ensures.fed p (search rules))
