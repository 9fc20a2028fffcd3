use Rattle.std.proofs.Common.{◌∙◌, ◌+◌, ◌<◌, ◌^◌, ap, rules, sym, ℕ}
use Rattle.std.specs.Prelude.{◌&&◌, false}
use Rattle.q_bare.specs.CountedRows.{may_by}
use Rattle.q_ledger.proofs.BesideLaws.{back_same, bounce_same, defer_same, mark_same, remove_same, sync_same}
use Rattle.q_ledger.proofs.MayLaws.{life_same, load_same, preempt_same}
use Rattle.q_ledger.proofs.NextLaws.{not_corrupt}
use Rattle.q_ledger.specs.Worlds.{world_of}
use Rattle.q_model.specs.Ids.{id_eq}
use Rattle.q_ledger.proofs.ledger.Ledger.may.Goals as goal

pub returns-in-Life : goal.returns-in-Life
returns-in-Life c = λ n k beside accounts begun.
    let few : c.in-Life.generation < 2 ^ 32 = search rules in
    c.may_begin.ensures ∙ life_same n c.args.self.now.ledger c.in-Life.generation c.in-Life.mode few begun ∙ ap (may_by n (world_of c.args.world.now) c.args.self.now.ledger) (sym c.in-Life.is)

pub returns-in-Arrive : goal.returns-in-Arrive
returns-in-Arrive c = λ n k beside accounts begun.
    let l = c.args.self.now.ledger in
    c.may_arrive.ensures ∙ ap (λ (m : ℕ). l.timed && id_eq c.in-Arrive.id (record { generation = l.book.generation; serial = m + 1; bounce = false })) accounts.messages ∙ ap (may_by n (world_of c.args.world.now) c.args.self.now.ledger) (sym c.in-Arrive.is)

pub returns-in-Back : goal.returns-in-Back
returns-in-Back c = λ n k beside accounts begun. c.may_back.ensures ∙ back_same c.args.self.now beside c.in-Back.id ∙ ap (may_by n (world_of c.args.world.now) c.args.self.now.ledger) (sym c.in-Back.is)

pub returns-in-Load : goal.returns-in-Load
returns-in-Load c = λ n k beside accounts begun.
    c.may_load.ensures ∙ load_same (world_of c.args.world.now) c.args.self.now beside.counted c.in-Load.id c.in-Load.from c.in-Load.to ∙ ap (may_by n (world_of c.args.world.now) c.args.self.now.ledger) (sym c.in-Load.is)

pub returns-in-Preempt : goal.returns-in-Preempt
returns-in-Preempt c = λ n k beside accounts begun.
    c.may_preempt.ensures ∙ preempt_same c.args.world.now c.args.self.now c.args.accounts.now n beside.counted accounts c.in-Preempt.child c.in-Preempt.parent c.in-Preempt.transport c.in-Preempt.need ∙ ap (may_by n (world_of c.args.world.now) c.args.self.now.ledger) (sym c.in-Preempt.is)

pub returns-in-Mark : goal.returns-in-Mark
returns-in-Mark c = λ n k beside accounts begun. c.may_mark.ensures ∙ mark_same c.args.self.now beside c.in-Mark.id c.in-Mark.position ∙ ap (may_by n (world_of c.args.world.now) c.args.self.now.ledger) (sym c.in-Mark.is)

pub returns-in-Sync : goal.returns-in-Sync
returns-in-Sync c = λ n k beside accounts begun. c.may_sync.ensures ∙ sync_same c.args.self.now beside c.in-Sync.id ∙ ap (may_by n (world_of c.args.world.now) c.args.self.now.ledger) (sym c.in-Sync.is)

pub returns-in-Defer : goal.returns-in-Defer
returns-in-Defer c = λ n k beside accounts begun. c.may_defer.ensures ∙ defer_same c.args.world.now c.args.self.now beside c.in-Defer.id c.in-Defer.due ∙ ap (may_by n (world_of c.args.world.now) c.args.self.now.ledger) (sym c.in-Defer.is)

pub returns-in-Bounce : goal.returns-in-Bounce
returns-in-Bounce c = λ n k beside accounts begun. c.may_bounce.ensures ∙ bounce_same c.args.self.now beside c.in-Bounce.id ∙ ap (may_by n (world_of c.args.world.now) c.args.self.now.ledger) (sym c.in-Bounce.is)

pub returns-in-Remove : goal.returns-in-Remove
returns-in-Remove c = λ n k beside accounts begun. c.may_remove.ensures ∙ remove_same c.args.self.now beside c.in-Remove.id ∙ ap (may_by n (world_of c.args.world.now) c.args.self.now.ledger) (sym c.in-Remove.is)

pub returns-in-Corrupt : goal.returns-in-Corrupt
returns-in-Corrupt c = λ n k beside accounts begun. sym (not_corrupt (world_of c.args.world.now) c.args.self.now.ledger c.is_whole.ensures c.in-Corrupt.id) ∙ ap (may_by n (world_of c.args.world.now) c.args.self.now.ledger) (sym c.in-Corrupt.is)
