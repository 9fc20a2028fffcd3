use Rattle.std.proofs.Common.{◌-◌, ◌≡◌, ◌≤◌, drop, length}
use Rattle.q_link.specs.WaitsLeft.{Spares}
use Rattle.q_link.specs.declared.usage.Usage.TheVariants.{Open}
use Rattle.q_smtpd.specs.Answers.{answer_line}
use Rattle.q_smtpd.specs.Traffic.{Gave, GoesOn, Tells}
use Rattle.q_smtpd.proofs.outbox.Outbox.flush.Given as goal

abbrev pub invariant-loop-self : goal.invariant-loop-self
invariant-loop-self g l = record {
  line : l.line ≡ answer_line l.self-inside.answer;
  within : l.self-inside.gone ≤ length l.line;
  link : GoesOn (g.L.Link.view l.fn.link) (g.L.Link.view l.link);
  usable : (g.L.Link.view l.fn.link).usage ≡ Open → (g.L.Link.view l.link).usage ≡ Open;
  spared : Spares 0 (g.L.Link.view l.fn.link).waits_left (g.L.Link.view l.link).waits_left;
  gave : Tells (Gave l.fn.self (drop l.self-inside.gone l.line) 0) (g.L.Link.view l.fn.link) (g.L.Link.view l.link);
}

abbrev pub decreases-loop-self : goal.decreases-loop-self
decreases-loop-self g l = length l.line - l.self-inside.gone
