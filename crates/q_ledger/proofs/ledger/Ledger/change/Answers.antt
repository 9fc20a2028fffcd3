use Rattle.std.proofs.Common.{List, subst, sym, ℕ}
use Rattle.q_ledger.proofs.BegunLaws.{life_law}
use Rattle.q_ledger.proofs.CalmLaws.{at_law, end_law, trigger_law}
use Rattle.q_ledger.proofs.TakenEntries.{of_kind}
use Rattle.q_ledger.specs.Following.{ChangesIn}
use Rattle.q_ledger.specs.Taking.{IsChanged}
use Rattle.q_ledger.specs.Worlds.{world_of}
use Rattle.q_model.specs.declared.entry.Entry.{Entry}
use Rattle.q_model.specs.declared.entry.Entry.TheVariants as entries
use Rattle.q_model.specs.declared.outcome.Outcome.{Outcome}
use Rattle.q_model.specs.Values.{Receiver}
use Rattle.q_ledger.proofs.ledger.Ledger.change.Goals as goal

pub returns-in_ok-begin-in-Life-clause-ok : goal.returns-in_ok-begin-in-Life-clause-ok
returns-in_ok-begin-in-Life-clause-ok c =
    let w = world_of c.args.world.now in
    let old = c.args.self.now in
    let e = entries.Life c.in-Life.generation c.in-Life.mode in
    of_kind w old c.args.entry.now e c.begin.new.self c.in-Life.is
    (λ k held beside may. subst (IsChanged w old.ledger e) (sym c.in_ok-begin-in-Life.ensures.ok) (life_law w k old c.in-Life.generation c.in-Life.mode held))

pub returns-in-At-clause-ok : goal.returns-in-At-clause-ok
returns-in-At-clause-ok c =
    let w = world_of c.args.world.now in
    let old = c.args.self.now in
    let e = entries.At c.in-At.moment in
    of_kind w old c.args.entry.now e c.pass_time.new.self c.in-At.is
    (λ k held beside may. subst (IsChanged w old.ledger e) (sym c.pass_time.ensures) (at_law w k old c.in-At.moment held beside))

pub returns-in_ok-arrive-in-Arrive-clause-ok : goal.returns-in_ok-arrive-in-Arrive-clause-ok
returns-in_ok-arrive-in-Arrive-clause-ok c =
    let w = world_of c.args.world.now in
    let old = c.args.self.now in
    of_kind w old c.args.entry.now (entries.Arrive c.in-Arrive.id c.in-Arrive.sender c.in-Arrive.to c.in-Arrive.content) c.arrive.new.self c.in-Arrive.is
    (subst (λ (to : List Receiver). ChangesIn w old (entries.Arrive c.in-Arrive.id c.in-Arrive.sender to c.in-Arrive.content) c.arrive.new.self) c.as_slice.ensures
    (c.in_ok-arrive-in-Arrive.ensures.ok c.in-Arrive.content w))

pub returns-in-Back-clause-ok : goal.returns-in-Back-clause-ok
returns-in-Back-clause-ok c =
    let w = world_of c.args.world.now in
    of_kind w c.args.self.now c.args.entry.now (entries.Back c.in-Back.id) c.back.new.self c.in-Back.is (c.back.ensures w)

pub returns-in_ok-admit-in-Admit-clause-ok : goal.returns-in_ok-admit-in-Admit-clause-ok
returns-in_ok-admit-in-Admit-clause-ok c =
    let w = world_of c.args.world.now in
    of_kind w c.args.self.now c.args.entry.now (entries.Admit c.in-Admit.id) c.admit.new.self c.in-Admit.is (c.in_ok-admit-in-Admit.ensures.ok w)

pub returns-in_ok-preempt-in-Preempt-clause-ok : goal.returns-in_ok-preempt-in-Preempt-clause-ok
returns-in_ok-preempt-in-Preempt-clause-ok c =
    let w = world_of c.args.world.now in
    of_kind w c.args.self.now c.args.entry.now (entries.Preempt c.in-Preempt.child c.in-Preempt.parent c.in-Preempt.transport c.in-Preempt.need) c.preempt.new.self c.in-Preempt.is
    (c.in_ok-preempt-in-Preempt.ensures.ok c.in-Preempt.need w)

pub returns-in-Defer-clause-ok : goal.returns-in-Defer-clause-ok
returns-in-Defer-clause-ok c =
    let w = world_of c.args.world.now in
    of_kind w c.args.self.now c.args.entry.now (entries.Defer c.in-Defer.id c.in-Defer.due) c.defer.new.self c.in-Defer.is (c.defer.ensures w)

pub returns-in_ok-bounce-in-Bounce-clause-ok : goal.returns-in_ok-bounce-in-Bounce-clause-ok
returns-in_ok-bounce-in-Bounce-clause-ok c =
    let w = world_of c.args.world.now in
    of_kind w c.args.self.now c.args.entry.now (entries.Bounce c.in-Bounce.id) c.bounce.new.self c.in-Bounce.is (c.in_ok-bounce-in-Bounce.ensures.ok w)

pub returns-in-Remove-clause-ok : goal.returns-in-Remove-clause-ok
returns-in-Remove-clause-ok c =
    let w = world_of c.args.world.now in
    of_kind w c.args.self.now c.args.entry.now (entries.Remove c.in-Remove.id) c.remove.new.self c.in-Remove.is (c.remove.ensures w)

pub returns-in-Trigger-clause-ok : goal.returns-in-Trigger-clause-ok
returns-in-Trigger-clause-ok c =
    let w = world_of c.args.world.now in
    let old = c.args.self.now in
    let e = entries.Trigger c.in-Trigger.kind in
    of_kind w old c.args.entry.now e c.pull.new.self c.in-Trigger.is
    (λ k held beside may. subst (IsChanged w old.ledger e) (sym c.pull.ensures) (trigger_law w k old c.in-Trigger.kind held beside))

pub returns-in-End-clause-ok : goal.returns-in-End-clause-ok
returns-in-End-clause-ok c =
    let w = world_of c.args.world.now in
    let old = c.args.self.now in
    of_kind w old c.args.entry.now entries.End old c.in-End.is (λ k held beside may. end_law w k old held beside)

-- ---- rows that come, are sent, are put off, and outcomes

pub returns-in_ok-load-in-Load-clause-ok : goal.returns-in_ok-load-in-Load-clause-ok
returns-in_ok-load-in-Load-clause-ok c =
    let w = world_of c.args.world.now in
    of_kind w c.args.self.now c.args.entry.now (entries.Load c.in-Load.id c.in-Load.from c.in-Load.to) c.load.new.self c.in-Load.is
    c.in_ok-load-in-Load.ensures.changed

pub returns-in_ok-start-in-Start-clause-ok : goal.returns-in_ok-start-in-Start-clause-ok
returns-in_ok-start-in-Start-clause-ok c =
    let w = world_of c.args.world.now in
    let old = c.args.self.now in
    let row : List ℕ → Entry = entries.Start c.in-Start.number c.in-Start.id c.in-Start.site in
    of_kind w old c.args.entry.now (row c.in-Start.positions) c.start.new.self c.in-Start.is
    (subst (λ (ps : List ℕ). ChangesIn w old (row ps) c.start.new.self) c.as_slice-in-Start.ensures (c.in_ok-start-in-Start.ensures.changed w))

pub returns-in_ok-reply-in-Reply-clause-ok : goal.returns-in_ok-reply-in-Reply-clause-ok
returns-in_ok-reply-in-Reply-clause-ok c =
    let w = world_of c.args.world.now in
    let old = c.args.self.now in
    let reply : List Outcome → Entry = entries.Reply c.in-Reply.number c.in-Reply.site in
    of_kind w old c.args.entry.now (reply c.in-Reply.outcomes) c.reply.new.self c.in-Reply.is
    (subst (λ (os : List Outcome). ChangesIn w old (reply os) c.reply.new.self) c.as_slice-in-Reply.ensures c.in_ok-reply-in-Reply.ensures.changed)

pub returns-in_ok-skip-in-Skip-clause-ok : goal.returns-in_ok-skip-in-Skip-clause-ok
returns-in_ok-skip-in-Skip-clause-ok c =
    let w = world_of c.args.world.now in
    let old = c.args.self.now in
    let row : List ℕ → Entry = entries.Skip c.in-Skip.id c.in-Skip.site in
    of_kind w old c.args.entry.now (row c.in-Skip.positions) c.skip.new.self c.in-Skip.is
    (subst (λ (ps : List ℕ). ChangesIn w old (row ps) c.skip.new.self) c.as_slice-in-Skip.ensures c.in_ok-skip-in-Skip.ensures.changed)

pub returns-in_ok-log-in-Log-clause-ok : goal.returns-in_ok-log-in-Log-clause-ok
returns-in_ok-log-in-Log-clause-ok c =
    let w = world_of c.args.world.now in
    of_kind w c.args.self.now c.args.entry.now (entries.Log c.in-Log.id c.in-Log.failure) c.log.new.self c.in-Log.is
    (c.in_ok-log-in-Log.ensures.changed w)

pub returns-in-Mark-clause-ok : goal.returns-in-Mark-clause-ok
returns-in-Mark-clause-ok c =
    let w = world_of c.args.world.now in
    of_kind w c.args.self.now c.args.entry.now (entries.Mark c.in-Mark.id c.in-Mark.position) c.mark.new.self c.in-Mark.is
    (c.mark.ensures w)

pub returns-in_ok-sync-in-Sync-clause-ok : goal.returns-in_ok-sync-in-Sync-clause-ok
returns-in_ok-sync-in-Sync-clause-ok c =
    let w = world_of c.args.world.now in
    of_kind w c.args.self.now c.args.entry.now (entries.Sync c.in-Sync.id) c.sync.new.self c.in-Sync.is
    (c.in_ok-sync-in-Sync.ensures.changed w)
