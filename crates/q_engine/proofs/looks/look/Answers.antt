use Rattle.q_books.proofs.Results.{if_ok}
use Rattle.q_engine.proofs.Looking.{looked_dated}
use Rattle.q_engine.proofs.looks.look.Goals as goal

pub returns-in-LookActive-clause-dated : goal.returns-in-LookActive-clause-dated
returns-in-LookActive-clause-dated g c = if_ok c.look_active.result looked_dated c.look_active.ensures.form

pub returns-in-LookIncoming-clause-dated : goal.returns-in-LookIncoming-clause-dated
returns-in-LookIncoming-clause-dated g c = if_ok c.look_incoming.result looked_dated c.look_incoming.ensures.form

pub returns-in-LookDeferred-clause-dated : goal.returns-in-LookDeferred-clause-dated
returns-in-LookDeferred-clause-dated g c = if_ok c.look_deferred.result looked_dated c.look_deferred.ensures.form
