use Rattle.std.proofs.Common.{◌∙◌, ap, sym, subst, arith, length, replicate}
use Rattle.std.proofs.lemmas.List.{length-replicate}
use Rattle.q_ledger.proofs.NeedsLaws.{needs_few}
use Rattle.q_ledger.proofs.SkipLaws.{skip_changes}
use Rattle.q_ledger.specs.LinesLeft.{with_lines_left, with_served_left}
use Rattle.q_ledger.specs.Settled.{is_old_in}
use Rattle.q_ledger.specs.Taking.{IsChanged}
use Rattle.q_ledger.specs.Worlds.{world_of}
use Rattle.q_model.specs.declared.entry.Entry.TheVariants as entries
use Rattle.q_model.specs.declared.outcome.Outcome.TheVariants as outcomes
use Rattle.q_ledger.proofs.ledger.Ledger.skip.Goals as goal

pub returns-clause-changed : goal.returns-clause-changed
returns-clause-changed c = λ k h beside may.
    let w = world_of c.args.world.now in
    let s = c.args.self.now in
    let id = c.args.id in
    let site = c.args.site.now in
    let ps = c.args.positions.now in
    let few = c.total_rows.ensures in
    let less = needs_few (is_old_in w s.ledger id) id ps (replicate (length ps) (outcomes.Later 0)) in
    let many = length-replicate (length ps) (outcomes.Later 0) in
    let tidied = c.tidy_served.ensures ∙ ap (with_served_left id site) (c.tidy_lines.ensures ∙ ap (with_lines_left id) c.in_ok-settle_skip.ensures.skipped) in
    subst (IsChanged w s.ledger (entries.Skip id site ps)) (sym tidied)
    (skip_changes w k s id site ps h beside may (omega (arith, few, less, many)))
