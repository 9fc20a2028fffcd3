use Rattle.std.proofs.Common.{◌≡◌, ◌∙◌, ◌++◌, ◌∷◌, [], ◌<◌, ◌+◌, ap, arith, length, None, Ok, Some, subst, sym}
use Rattle.q_audit.proofs.ReadingLaws.{broken_next, lawful_next}
use Rattle.q_audit.specs.Reading.{AuditState, IsBreach, Reads}
use Rattle.q_audit.specs.declared.audit.Breach.{Breach}
use Rattle.q_ledger.specs.Holding.{Holds}
use Rattle.q_ledger.specs.Worlds.{world_of}
use Rattle.q_audit.proofs.audit.Audit.judge.Goals as goal

pub returns-in_ok-take-in-Lawful-clause-judges : goal.returns-in_ok-take-in-Lawful-clause-judges
returns-in_ok-take-in-Lawful-clause-judges c w es reads none short =
    let old : AuditState = record { recount = c.self.inside.recount; jobs = c.self.inside.tallies; lines = c.self.inside.lines; breach = c.self.inside.breach } in
    let new : AuditState = record { recount = c.step.new.self; jobs = c.take.new.self; lines = c.self.inside.lines; breach = c.self.inside.breach } in
    let mine : Reads w old es = subst (λ (a : AuditState). Reads w a es) (sym c.self.view_is) reads in
    let empty : c.self.inside.breach ≡ None = ap (λ (a : AuditState). a.breach) c.self.view_is ∙ none in
    let keeps = mine.lawful empty in
    let step = c.in_ok-step.ensures in
    let holds = step.lawful w es keeps.holds short (ap Ok c.in-Lawful.is) in
    record {
      world = ap world_of step.given ∙ mine.world;
      lines = mine.lines;
      lawful = λ h. lawful_next w old new es c.args.entry.now c.recipients-recipients.result keeps holds c.in_ok-take-in-Lawful.ensures.jobs c.recipients-recipients.type_inv
          (λ l after. c.recipients-recipients.ensures w es l (subst (λ (a : AuditState). Holds w a.recount es) c.self.view_is keeps.holds) after);
      broken = λ b h. let bad : None ≡ Some b = sym empty ∙ h in absurd cc;
    }

pub returns-in-Broken-clause-judges : goal.returns-in-Broken-clause-judges
returns-in-Broken-clause-judges c w es reads none short =
    let old : AuditState = record { recount = c.self.inside.recount; jobs = c.self.inside.tallies; lines = c.self.inside.lines; breach = c.self.inside.breach } in
    let mine : Reads w old es = subst (λ (a : AuditState). Reads w a es) (sym c.self.view_is) reads in
    let empty : c.self.inside.breach ≡ None = ap (λ (a : AuditState). a.breach) c.self.view_is ∙ none in
    let b : Breach = record { line = c.saturating_add.result; rule = c.in-Broken.rule } in
    let step = c.in_ok-step.ensures in
    let keeps = mine.lawful empty in
    let count : c.saturating_add.result ≡ length es + 1 = (let n = mine.lines in let m = c.saturating_add.ensures in omega (arith, n, m, short)) in
    let broken = broken_next w es c.args.entry.now b keeps.holds.front (step.broken w es c.in-Broken.rule keeps.holds short (ap Ok c.in-Broken.is)) count in
    record {
      world = ap world_of step.given ∙ mine.world;
      lines = mine.lines;
      lawful = λ h. absurd cc;
      broken = λ d h. subst (IsBreach w (es ++ c.args.entry.now ∷ [])) (same d h) broken;
    }
  where
    same : (d : Breach) {b : Breach} → Some b ≡ Some d → b ≡ d
    same d h = cc
