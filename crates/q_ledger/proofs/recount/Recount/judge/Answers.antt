use Rattle.std.proofs.Common.{◌≡◌, ◌∙◌, ap, IfOk, false, true, subst, sym}
use Rattle.q_ledger.proofs.HoldLaws.{judge_before, judge_ended}
use Rattle.q_ledger.proofs.StepLaws.{judge_living}
use Rattle.q_ledger.specs.Holding.{goes_on, has_begun, IsJudged, IsJudgment, Recounted}
use Rattle.q_ledger.proofs.recount.Recount.judge.Goals as goal

pub returns-in-Before : goal.returns-in-Before
returns-in-Before c = λ w es h short.
    let before : c.args.self.now.begun ≡ false = sym (ap (λ (r : Recounted). r.begun) c.self.view_is) ∙ ap has_begun c.in-Before.is in
    subst (IsJudged w es c.args.entry.now) (sym c.judge_first.ensures) (judge_before w c.args.self.now es c.args.entry.now c.fronts_open.ensures h before)

pub returns-in-Living : goal.returns-in-Living
returns-in-Living c =
    let old : Recounted = record {
      given = c.self.inside.world;
      begun = has_begun c.self.inside.stage;
      living = goes_on c.self.inside.stage;
      state = c.self.inside.ledger;
      starts = c.self.inside.accounts.starts;
      arrivals = c.self.inside.accounts.arrivals;
      jobs = c.self.inside.accounts.jobs.items;
    } in
    let living : old.living ≡ true = ap goes_on c.in-Living.is in
    subst (λ (r : Recounted). IfOk c.judge_living.result (IsJudgment r c.args.entry.now)) c.self.view_is
    (judge_living old c.args.entry.now c.judge_living.result c.held_judges.ensures c.held_rules.ensures c.fronts_fit.ensures living
    (λ n k beside accounts lines on begun. c.judge_living.ensures n k beside (record {
      deliveries = accounts.deliveries;
      messages = accounts.messages;
      starts = accounts.starts;
      charged = accounts.charged;
    }) lines on begun))

pub returns-in-Ended : goal.returns-in-Ended
returns-in-Ended c = λ w es h short.
    let begun : c.args.self.now.begun ≡ true = sym (ap (λ (r : Recounted). r.begun) c.self.view_is) ∙ ap has_begun c.in-Ended.is in
    let living : c.args.self.now.living ≡ false = sym (ap (λ (r : Recounted). r.living) c.self.view_is) ∙ ap goes_on c.in-Ended.is in
    judge_ended w c.args.self.now es c.args.entry.now c.held_judges.ensures c.held_rules.ensures h short begun living
