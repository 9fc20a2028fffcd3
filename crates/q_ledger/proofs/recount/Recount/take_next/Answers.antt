use Rattle.std.proofs.Common.{◌≡◌, ◌∙◌, ap, refl, subst, true}
use Rattle.q_ledger.proofs.StepLaws.{kept_accounts, take_next}
use Rattle.q_ledger.specs.Beside.{AreAccounts}
use Rattle.q_ledger.specs.Holding.{goes_on, has_begun, Recounted, TakesOver}
use Rattle.q_ledger.proofs.recount.Recount.take_next.Goals as goal

pub returns-clause-ok : goal.returns-clause-ok
returns-clause-ok c = λ begun.
    let old : Recounted = record {
      given = c.self.inside.world;
      begun = has_begun c.self.inside.stage;
      living = goes_on c.self.inside.stage;
      state = c.self.inside.ledger;
      starts = c.self.inside.accounts.starts;
      arrivals = c.self.inside.accounts.arrivals;
      jobs = c.self.inside.accounts.jobs.items;
    } in
    let new : Recounted = record {
      given = c.self.inside.world;
      begun = has_begun c.stage_after-self-inside.result;
      living = goes_on c.stage_after-self-inside.result;
      state = c.take.new.self;
      starts = c.note.new.self.starts;
      arrivals = c.note.new.self.arrivals;
      jobs = c.note.new.self.jobs.items;
    } in
    let e = c.args.entry.now in
    let some : old.begun ≡ true = ap (λ (r : Recounted). r.begun) c.self.view_is ∙ begun in
    subst (λ (r : Recounted). TakesOver r e new) c.self.view_is
    (take_next old new e c.held_judges.ensures c.held_goes_on.ensures c.fronts_fit.ensures c.next_is_allowed.ensures c.rows_are_the_same.ensures c.next_is_the_same.ensures some (record {
      given = refl;
      begun = c.stage_after-self-inside.ensures.begun;
      living = c.stage_after-self-inside.ensures.living;
      taken = λ n k. c.in_ok-take.ensures.ok n k.ledger k.beside k.may;
      accounts = λ n k.
          let kept : AreAccounts c.reserve.new.self n = kept_accounts old c.reserve.new.self n k.accounts c.in_ok-reserve.ensures.starts c.in_ok-reserve.ensures.arrivals c.in_ok-reserve.ensures.jobs in
          let within = c.charge_fits.ensures n k.beside k.few k.may in
          let noted = c.note.ensures n kept k.few within c.in_ok-reserve.ensures.room in
          record { deliveries = noted.deliveries; messages = noted.messages; starts = noted.starts; charged = noted.charged };
    }))
