use Rattle.std.proofs.Common.{◌≡◌, ◌++◌, ◌∷◌, [], Ok, true, subst}
use Rattle.q_door.proofs.ScriptDoors.{binds_ok}
use Rattle.q_door.specs.Doors.{Binds}
use Rattle.q_door.specs.ScriptDoors.{ScriptDoor, view_of}
use Rattle.q_door.proofs.script_door.ScriptDoorDoor.bind.Goals as goal

pub returns-clause-binds : goal.returns-clause-binds
returns-clause-binds c =
    let i = c.self.inside in
    let items : c.push.new.self.items ≡ i.ports.items ++ c.args.port ∷ [] = rw c.if-is_err.ensures.negation at c.push.ensures.items in
    let new : ScriptDoor = record { hops = i.hops; binds = c.in-Some.count; ports = c.push.new.self.items; tells = i.tells; bound = true } in
    subst (λ (d : ScriptDoor). Binds c.args.port (Ok tt) (view_of d) (view_of new)) c.self.view_is
    (rw (c.in-Some.ensures.1, items) (binds_ok i.binds i.ports.items i.bound i.tells c.args.port i.hops.view))
