use Rattle.std.proofs.Common.{◌≡◌, ◌∙◌, ap, inl, inr, List, map, subst, sym}
use Rattle.q_audit.proofs.ReadingLaws.{told_broken, told_lawful}
use Rattle.q_audit.specs.Reading.{AuditState, Reads}
use Rattle.q_audit.specs.ReportTexts.{lawful_text}
use Rattle.q_audit.specs.Tallied.{delay_of, Job}
use Rattle.q_model.specs.Settings.{Table}
use Rattle.q_transport.specs.Routing.{table_of}
use Rattle.q_audit.proofs.audit.Audit.report.Goals.{in-None+in_ok-text-in-None, in-Some+in_ok-text-in-Some}
use Rattle.q_audit.proofs.audit.Audit.report.Goals as goal

pub returns : goal.returns
returns c w es reads =
    let old : AuditState = record { recount = c.self.inside.recount; jobs = c.self.inside.tallies; lines = c.self.inside.lines; breach = c.self.inside.breach } in
    let mine : Reads w old es = subst (λ (a : AuditState). Reads w a es) (sym c.self.view_is) reads in
    elim c.match-self.branch [
      | in-None+in_ok-text-in-None k ↦
          let keeps = mine.lawful k.in-None.is in
          let contents : k.table.result.now ≡ c.self.inside.recount.given.contents = k.table.ensures ∙ sym (ap (λ (a : AuditState). a.recount.given.contents) c.self.view_is) in
          let table = ap table_of contents in
          let jobs : k.jobs.result.now ≡ c.self.inside.tallies = k.jobs.ensures in
          let said : c.from_vec.result ≡ lawful_text (table_of k.table.result.now) c.self.inside.lines (map delay_of k.jobs.result.now) = c.from_vec.ensures ∙ ap (λ t. t.items) k.text-is ∙ k.in_ok-text-in-None.ensures in
          inl (told_lawful w old es keeps.holds.front c.from_vec.result keeps mine.lines
          (said
          ∙ ap (λ (t : Table). lawful_text t c.self.inside.lines (map delay_of k.jobs.result.now)) table
          ∙ ap (λ (js : List Job). lawful_text (table_of c.self.inside.recount.given.contents) c.self.inside.lines (map delay_of js)) jobs))
      | in-Some+in_ok-text-in-Some k ↦
          inr (told_broken w es k.in-Some.breach c.from_vec.result (mine.broken k.in-Some.breach k.in-Some.is) (c.from_vec.ensures ∙ ap (λ t. t.items) k.text-is ∙ k.in_ok-text-in-Some.ensures))
    ]
