use Rattle.std.proofs.Common.{arith}
use Rattle.q_look.proofs.LookLaws.{nothing_later}
use Rattle.q_look.proofs.looks.look_deferred.Goals as goal

pub returns-then-place-ge-DUE_END-clause-found : goal.returns-then-place-ge-DUE_END-clause-found
returns-then-place-ge-DUE_END-clause-found g c t l h orderly = nothing_later (g.H.Host.view c.args.host.now).files l h c.args.after c.in-Some.place c.args.until c.in-Some.is (omega (arith, c.if-place-ge-DUE_END.true))
