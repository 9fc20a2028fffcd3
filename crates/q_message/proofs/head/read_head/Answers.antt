use Rattle.std.proofs.Common.{IsTrue}
use Rattle.q_message.proofs.HeadLaws.{fault_answered, head_answered}
use Rattle.q_message.proofs.head.read_head.Goals as goal

pub returns-clause-head : goal.returns-clause-head
returns-clause-head g c = head_answered (IsTrue g.H.Host.tells) c.read_whole.result ((g.H.Host.view c.args.host.now).files c.args.spot.area c.args.spot.name) c.read_whole.ensures.reads

pub returns-clause-no_message : goal.returns-clause-no_message
returns-clause-no_message g c place is t = fault_answered (IsTrue g.H.Host.tells) c.read_whole.result ((g.H.Host.view c.args.host.now).files c.args.spot.area c.args.spot.name) c.read_whole.ensures.reads place is t
