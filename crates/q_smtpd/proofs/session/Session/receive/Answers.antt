use Rattle.std.proofs.Common.{ℕ, List, arith, subst, slice_index_or, ap, length, ◌≡◌}
use Rattle.q_link.specs.Reads.{Leaves, with_received}
use Rattle.q_link.specs.Views.{NoWait}
use Rattle.q_smtpd.proofs.Polling.{heard_steps, heard_stops, one_byte}
use Rattle.q_smtpd.proofs.Results.{if_ok_both, on_err_of}
use Rattle.q_smtpd.proofs.Stepping.{steps_ended, steps_failed, steps_unread}
use Rattle.q_smtpd.specs.Hearings.{Holds}
use Rattle.q_smtpd.specs.Intakes.{comes}
use Rattle.q_smtpd.specs.Places.{Place}
use Rattle.q_smtpd.specs.Polls.{Stops}
use Rattle.q_smtpd.specs.Steps.{Acts, IsHeard, Steps}
use Rattle.q_smtpd.specs.declared.session.Session.{Session}
use Rattle.q_smtpd.proofs.Using.{called_open}
use Rattle.q_link.specs.declared.usage.Usage.TheVariants.{Open}
use Rattle.q_smtpd.proofs.session.Session.receive.Goals as goal

pub returns-clause-steps : goal.returns-clause-steps
returns-clause-steps g c =
    let u = g.L.Link.view c.args.link.now in
    let v = g.L.Link.view c.read.new.self in
    let old : Session = c.args.self.now in
    let new : Session = c.act.new.self in
    let b = slice_index_or c.read.new.buf 0 0 in
    let size : length c.read.new.buf ≡ 1 = omega arith in
    let reads = c.in-Took.ensures.reads in
    let leaves = subst (λ (xs : List ℕ). Leaves NoWait (with_received xs) u v) (one_byte c.read.new.buf c.in-Took.field-0 size reads.0 reads.1) reads.2 in
    if_ok_both c.act.result (λ step. IsHeard step new) (λ step. (p : Place) → Holds p old.hearing → Acts (comes p b) step new) (λ step. Steps old step new u v)
    (λ step goes acts. heard_steps old new step b u v c.requires.taken c.requires.sent c.requires.stays (ap (λ (s : Session). s.count) c.act.ensures.same) leaves goes acts)
    c.act.ensures.goes c.act.ensures.acts

pub returns-clause-err : goal.returns-clause-err
returns-clause-err g c =
    let u = g.L.Link.view c.args.link.now in
    let v = g.L.Link.view c.read.new.self in
    let size : length c.read.new.buf ≡ 1 = omega arith in
    let reads = c.in-Took.ensures.reads in
    let leaves = subst (λ (xs : List ℕ). Leaves NoWait (with_received xs) u v) (one_byte c.read.new.buf c.in-Took.field-0 size reads.0 reads.1) reads.2 in
    on_err_of c.act.result (Stops c.args.self.now u v) (heard_stops c.args.self.now (slice_index_or c.read.new.buf 0 0) u v c.requires.taken c.requires.sent c.requires.stays leaves)

pub returns-in-NotYet-clause-steps : goal.returns-in-NotYet-clause-steps
returns-in-NotYet-clause-steps g c =
    steps_unread c.args.self.now (g.L.Link.view c.args.link.now) (g.L.Link.view c.read.new.self) c.requires.taken c.requires.sent c.requires.stays c.requires.few c.in-NotYet.ensures.reads

pub returns-in-End-clause-steps : goal.returns-in-End-clause-steps
returns-in-End-clause-steps g c =
    steps_ended c.args.self.now (g.L.Link.view c.args.link.now) (g.L.Link.view c.read.new.self) c.requires.taken c.requires.sent c.in-End.ensures.reads

pub returns-in-Failed-clause-steps : goal.returns-in-Failed-clause-steps
returns-in-Failed-clause-steps g c =
    steps_failed c.args.self.now (g.L.Link.view c.args.link.now) (g.L.Link.view c.read.new.self) c.requires.taken c.in-Failed.ensures.reads

pub returns-clause-usable : goal.returns-clause-usable
returns-clause-usable g c =
    let u = g.L.Link.view c.args.link.now in
    let v = g.L.Link.view c.read.new.self in
    on_err_of c.act.result (u.usage ≡ Open → v.usage ≡ Open) (λ usable. called_open u.usage v.usage usable c.in-Took.ensures.reads.2.usage)
