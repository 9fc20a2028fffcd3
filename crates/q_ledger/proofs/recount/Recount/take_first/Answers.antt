use Rattle.std.proofs.Common.{◌≡◌, ◌∙◌, ap, false, refl, subst}
use Rattle.q_ledger.proofs.StepLaws.{empty_state, take_first}
use Rattle.q_ledger.specs.Holding.{goes_on, has_begun, Recounted, TakesOver}
use Rattle.q_ledger.specs.declared.recount.Stage.TheVariants.{Living}
use Rattle.q_ledger.proofs.recount.Recount.take_first.Goals as goal

pub returns-clause-ok : goal.returns-clause-ok
returns-clause-ok c = λ before.
    let old : Recounted = record {
      given = c.self.inside.world;
      begun = has_begun c.self.inside.stage;
      living = goes_on c.self.inside.stage;
      state = c.self.inside.ledger;
      starts = c.self.inside.accounts.starts;
      arrivals = c.self.inside.accounts.arrivals;
      jobs = c.self.inside.accounts.jobs.items;
    } in
    let new : Recounted = record {
      given = c.self.inside.world;
      begun = has_begun Living;
      living = goes_on Living;
      state = c.take.new.self;
      starts = c.new.result.starts;
      arrivals = c.new.result.arrivals;
      jobs = c.new.result.jobs.items;
    } in
    let none : old.begun ≡ false = ap (λ (r : Recounted). r.begun) c.self.view_is ∙ before in
    subst (λ (r : Recounted). TakesOver r c.args.entry.now new) c.self.view_is
    (take_first old new c.on_empty_spool-ledger.result c.args.entry.now c.first_generation-generation.result c.fronts_open.ensures c.held_begins.ensures none (record {
      given = refl;
      begun = refl;
      living = refl;
      starts = c.new.ensures.starts;
      arrivals = c.new.ensures.arrivals;
      jobs = c.new.ensures.jobs;
      life = c.first_generation-generation.ensures;
      empty = c.on_empty_spool-ledger.ensures ∙ ap empty_state c.saturating_sub.ensures;
      takes = c.in_ok-take.ensures.ok;
    }))
