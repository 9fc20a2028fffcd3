use Rattle.std.proofs.Common.{subst}
use Rattle.q_door.proofs.ScriptDoors.{accepts, fresh, told_some}
use Rattle.q_door.specs.Doors.{Accepts}
use Rattle.q_door.specs.ScriptDoors.{ScriptDoor, view_of}
use Rattle.q_door.proofs.script_door.ScriptDoorDoor.accept.Goals as goal

pub returns-in-Err-NoMemory-clause-accepts : goal.returns-in-Err-NoMemory-clause-accepts
returns-in-Err-NoMemory-clause-accepts c =
    let i = c.self.inside in
    let new : ScriptDoor = record { hops = c.connect.new.self; binds = i.binds; ports = i.ports.items; tells = i.tells; bound = i.bound } in
    subst (λ (d : ScriptDoor). Accepts (view_of d) (view_of new)) c.self.view_is
    (accepts i.tells i.binds i.ports.items i.bound i.hops.view c.connect.new.self.view c.connect.ensures.counts
    (told_some c.connect.result i.hop i.hops.view c.connect.new.self.view c.connect.ensures.told c.connect.ensures.told_none))

pub returns-in-Err-Failed-clause-accepts : goal.returns-in-Err-Failed-clause-accepts
returns-in-Err-Failed-clause-accepts c =
    let i = c.self.inside in
    let new : ScriptDoor = record { hops = c.connect.new.self; binds = i.binds; ports = i.ports.items; tells = i.tells; bound = i.bound } in
    subst (λ (d : ScriptDoor). Accepts (view_of d) (view_of new)) c.self.view_is
    (accepts i.tells i.binds i.ports.items i.bound i.hops.view c.connect.new.self.view c.connect.ensures.counts
    (told_some c.connect.result i.hop i.hops.view c.connect.new.self.view c.connect.ensures.told c.connect.ensures.told_none))

pub returns-clause-accepts : goal.returns-clause-accepts
returns-clause-accepts c =
    let i = c.self.inside in
    let new : ScriptDoor = record { hops = c.connect.new.self; binds = i.binds; ports = i.ports.items; tells = i.tells; bound = i.bound } in
    subst (λ (d : ScriptDoor). Accepts (view_of d) (view_of new)) c.self.view_is
    (accepts i.tells i.binds i.ports.items i.bound i.hops.view c.connect.new.self.view c.connect.ensures.counts
    (told_some c.connect.result i.hop i.hops.view c.connect.new.self.view c.connect.ensures.told c.connect.ensures.told_none))

pub returns-clause-fresh : goal.returns-clause-fresh
returns-clause-fresh c =
    let i = c.self.inside in
    fresh i.tells i.binds i.ports.items i.bound i.hop c.connect.new.self.view c.in-Ok.link.view c.in-Ok.ensures.fresh
