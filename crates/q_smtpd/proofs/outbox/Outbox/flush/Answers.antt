use Rattle.std.proofs.Common.{arith, subst, List, ℕ}
use Rattle.q_link.proofs.Sparing.{spares_then}
use Rattle.q_link.specs.Reads.{with_sent, Writes}
use Rattle.q_link.specs.Views.{NoWait}
use Rattle.q_link.specs.declared.link.Put.TheVariants as put
use Rattle.q_smtpd.proofs.Traffic.{gives_on, goes_by_leaving, goes_then}
use Rattle.q_smtpd.proofs.Using.{called_open, closed_once}
use Rattle.q_smtpd.proofs.outbox.Outbox.flush.Goals as goal

pub loop-self-preserved : goal.loop-self-preserved
loop-self-preserved g c =
    let view = g.L.Link.view in
    let now = c.loop-self.self-inside in
    let n = c.in-Gave.count in
    let i = c.loop-self.invariant in
    let u = view c.args.link.now in
    let v = view c.loop-self.link in
    let w = view c.write.new.self in
    let writes = subst (λ (x : List ℕ). Writes v w (put.Gave n) x) c.split_at.ensures.back c.in-Gave.ensures.writes in
    record {
      line = i.line;
      within = omega (arith, c.in-Gave.ensures.writes.1, c.split_at.ensures.back_len);
      link = goes_then u v w i.link (goes_by_leaving NoWait (with_sent _) v w writes.2);
      usable = λ usable. called_open v.usage w.usage (i.usable usable) writes.2.usage;
      spared = spares_then 0 0 u.waits_left v.waits_left w.waits_left i.spared writes.2.waits_left;
      gave = gives_on c.args.self.now c.line-line.result.now now.gone n u v w i.gave writes.2;
    }

pub returns-in-NotYet-clause-uses : goal.returns-in-NotYet-clause-uses
returns-in-NotYet-clause-uses g c = λ usable.
    called_open (g.L.Link.view c.loop-self.link).usage (g.L.Link.view c.write.new.self).usage (c.loop-self.invariant.usable usable) c.in-NotYet.ensures.writes.usage

pub returns-in-NotYet-clause-spares : goal.returns-in-NotYet-clause-spares
returns-in-NotYet-clause-spares g c =
    spares_then 0 1 (g.L.Link.view c.args.link.now).waits_left (g.L.Link.view c.loop-self.link).waits_left (g.L.Link.view c.write.new.self).waits_left c.loop-self.invariant.spared c.in-NotYet.ensures.writes.waits_left

pub returns-in-Failed-clause-uses : goal.returns-in-Failed-clause-uses
returns-in-Failed-clause-uses g c = λ usable.
    closed_once (g.L.Link.view c.loop-self.link).usage (g.L.Link.view c.write.new.self).usage (c.loop-self.invariant.usable usable) c.in-Failed.ensures.writes.usage
