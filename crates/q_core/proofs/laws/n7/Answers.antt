use Rattle.std.proofs.Common.{sym, subst}
use Rattle.q_core.proofs.RuleLaws.{load_law}
use Rattle.q_core.specs.Decisions.{IsReadRule}
use Rattle.q_model.specs.Next.{load_rule}
use Rattle.q_core.proofs.laws.n7.Goals as goal

pub returns : goal.returns
returns c = λ w l a. subst (λ d. IsReadRule w l d (load_rule w l)) (sym c.next_read.ensures) (load_law a.matches.parts a.consistent.memory.present)
