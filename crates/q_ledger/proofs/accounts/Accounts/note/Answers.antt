use Rattle.std.proofs.Common.{ap, subst, sym, ◌∙◌}
use Rattle.q_ledger.proofs.AccountLaws.{begun_accounts, charged_accounts, started_accounts}
use Rattle.q_bare.specs.Counts.{counts_after}
use Rattle.q_ledger.specs.Accounting.{IsChargedWithin}
use Rattle.q_ledger.specs.Beside.{AreAccounts}
use Rattle.q_ledger.specs.Counted.{started_jobs}
use Rattle.q_model.specs.Values.{Site}
use Rattle.q_ledger.proofs.accounts.Accounts.note.Goals as goal

pub returns-in-Admit : goal.returns-in-Admit
returns-in-Admit c = λ n k few within room.
    subst (λ e. AreAccounts c.begin.new.self (counts_after e n)) (sym c.in-Admit.is) (begun_accounts c.args.self.now c.begin.new.self n c.in-Admit.id k c.begin.ensures.starts c.begin.ensures.arrivals c.begin.ensures.jobs)

pub returns-in-Start : goal.returns-in-Start
returns-in-Start c = λ n k few within room.
    subst (λ e. AreAccounts c.start.new.self (counts_after e n)) (sym c.in-Start.is) (started_accounts c.args.self.now c.start.new.self n c.in-Start.number c.in-Start.id c.in-Start.site c.in-Start.positions k few c.start.ensures.starts c.start.ensures.arrivals
    (c.start.ensures.jobs room ∙ ap (λ (s : Site). started_jobs c.in-Start.id s.transport c.args.self.now.jobs.items) c.site.view_is))

pub returns-in-Preempt : goal.returns-in-Preempt
returns-in-Preempt c = λ n k few within room.
    subst (λ e. AreAccounts c.charge.new.self (counts_after e n)) (sym c.in-Preempt.is) (charged_accounts c.args.self.now c.charge.new.self n c.in-Preempt.child c.in-Preempt.parent c.in-Preempt.transport c.in-Preempt.need k (subst (IsChargedWithin n) c.in-Preempt.is within) c.charge.ensures.starts c.charge.ensures.arrivals (c.charge.ensures.jobs room))
