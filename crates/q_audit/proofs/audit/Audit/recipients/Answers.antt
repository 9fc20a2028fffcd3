use Rattle.std.proofs.Common.{◌≡◌, ◌∙◌, ap, Some, subst, sym, ℕ}
use Rattle.q_audit.specs.Delays.{Preempted, preempted_by, recipients_of}
use Rattle.q_audit.specs.Reading.{AuditState}
use Rattle.q_ledger.specs.Holding.{Holds}
use Rattle.q_model.specs.declared.entry.Entry.{Entry}
use Rattle.q_model.specs.declared.entry.Entry.TheVariants as entries
use Rattle.q_model.specs.declared.id.Id.{Id}
use Rattle.q_audit.proofs.audit.Audit.recipients.Goals as goal

parent_of : (e : Entry) (child parent : Id) (transport need : ℕ) (p : Preempted) → e ≡ entries.Preempt child parent transport need → preempted_by e ≡ Some p → parent ≡ p.id
parent_of e child parent transport need p same is =
    let known : preempted_by (entries.Preempt child parent transport need) ≡ Some p = subst (λ x. preempted_by x ≡ Some p) same is in cc

pub returns-in-Preempt : goal.returns-in-Preempt
returns-in-Preempt c w es l holds after p is =
    let mine : Holds w c.self.inside.recount es = subst (λ (a : AuditState). Holds w a.recount es) (sym c.self.view_is) holds in
    c.recipients.ensures w es l mine after
    ∙ ap (recipients_of l) (parent_of c.args.entry.now c.in-Preempt.child c.in-Preempt.parent c.in-Preempt.transport c.in-Preempt.need p c.in-Preempt.is is)
