use Rattle.std.proofs.Common.{sym, subst, arith}
use Rattle.q_ledger.proofs.NeedsLaws.{needs_few}
use Rattle.q_ledger.proofs.ReplyLaws.{reply_changes}
use Rattle.q_ledger.specs.Settled.{is_old_in}
use Rattle.q_ledger.specs.Taking.{IsChanged}
use Rattle.q_ledger.specs.Worlds.{world_of}
use Rattle.q_model.specs.declared.entry.Entry.TheVariants as entries
use Rattle.q_ledger.proofs.ledger.Ledger.reply.Goals as goal

pub returns-clause-changed : goal.returns-clause-changed
returns-clause-changed c = λ k h beside may.
    let w = world_of c.args.world.now in
    let s = c.args.self.now in
    let os = c.args.outcomes.now in
    let few = c.total_rows.ensures in
    subst (IsChanged w s.ledger (entries.Reply c.args.number c.args.state os)) (sym c.in_ok-settle_reply.ensures.replied)
    (reply_changes w k s c.args.number c.args.state os h beside may
    (λ f there. let less = needs_few (is_old_in w s.ledger f.row.id) f.row.id f.row.positions os in omega (arith, few, less)))
