use Rattle.q_content.proofs.EncodingLaws.{sent_rest-append}
use Rattle.q_content.proofs.LineLaws.{lines_sent}
use Rattle.q_content.proofs.laws.lines_are_sent.Goals as goal

pub returns-clause-whole : goal.returns-clause-whole
returns-clause-whole c = lines_sent

pub returns-clause-pieces : goal.returns-clause-pieces
returns-clause-pieces c = sent_rest-append
