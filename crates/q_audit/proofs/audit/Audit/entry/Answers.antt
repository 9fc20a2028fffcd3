use Rattle.std.proofs.Common.{◌≡◌, ◌∙◌, ◌++◌, ◌∷◌, [], ◌+◌, ap, arith, false, length, None, Option, refl, Some, subst, sym}
use Rattle.std.specs.Prelude.{is_some}
use Rattle.q_audit.proofs.ReadingLaws.{counted_line, passed_over}
use Rattle.q_audit.specs.Reading.{AuditState, Judges, Reads}
use Rattle.q_audit.specs.declared.audit.Breach.{Breach}
use Rattle.q_audit.proofs.audit.Audit.entry.Goals.{else-is_none, then-is_none+in_ok-judge}
use Rattle.q_audit.proofs.audit.Audit.entry.Goals as goal

none_is : (o : Option Breach) → is_some o ≡ false → o ≡ None
none_is None h = refl
none_is (Some b) h = absurd cc

pub returns-clause-reads : goal.returns-clause-reads
returns-clause-reads c w es reads short =
    let e = c.args.entry.now in
    let judged : Judges w c.if-is_none.self es e = elim c.if-is_none.branch [
      | then-is_none+in_ok-judge k ↦
          let none : c.args.self.now.breach ≡ None = sym (ap (λ (a : AuditState). a.breach) c.self.view_is) ∙ none_is c.self.inside.breach k.if-is_none.ensures in
          subst (λ (a : AuditState). Judges w a es e) (sym k.self-is) (k.in_ok-judge.ensures.judges w es reads none short)
      | else-is_none k ↦
          let mine = subst (λ (a : AuditState). Reads w a es) (sym c.self.view_is) reads in
          let old : AuditState = record { recount = c.self.inside.recount; jobs = c.self.inside.tallies; lines = c.self.inside.lines; breach = c.self.inside.breach } in
          subst (λ (a : AuditState). Judges w a es e) (c.self.view_is ∙ sym k.self-is) (passed_over w old es e mine k.if-is_none.ensures)
    ] in
    let old : AuditState = record { recount = c.self-2.inside.recount; jobs = c.self-2.inside.tallies; lines = c.self-2.inside.lines; breach = c.self-2.inside.breach } in
    let mine : Judges w old es e = subst (λ (a : AuditState). Judges w a es e) (sym c.self-2.view_is) judged in
    let count : c.saturating_add-self-inside.result ≡ length es + 1 = (let n = mine.lines in let m = c.saturating_add-self-inside.ensures in omega (arith, n, m, short)) in
    counted_line w old es e c.saturating_add-self-inside.result mine count
