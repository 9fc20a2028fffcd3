use Rattle.std.proofs.Common.{subst}
use Rattle.q_door.proofs.ScriptDoors.{closes, on_ok}
use Rattle.q_link.specs.Records.{Closes as HopsClose}
use Rattle.q_door.specs.Doors.{Closes}
use Rattle.q_door.specs.ScriptDoors.{ScriptDoor, view_of}
use Rattle.q_door.proofs.script_door.ScriptDoorDoor.close.Goals as goal

pub returns-clause-ok : goal.returns-clause-ok
returns-clause-ok c =
    let i = c.self.inside in
    let new : ScriptDoor = record { hops = c.close.new.self; binds = i.binds; ports = i.ports.items; tells = i.tells; bound = i.bound } in
    on_ok c.close.result (HopsClose c.args.link.view i.hops.view c.close.new.self.view) (Closes c.args.link.view (view_of c.args.self.now) (view_of new))
    (λ h. subst (λ (d : ScriptDoor). Closes c.args.link.view (view_of d) (view_of new)) c.self.view_is
    (closes i.tells i.binds i.ports.items i.bound c.args.link.view i.hops.view c.close.new.self.view h)) c.close.ensures.ok
