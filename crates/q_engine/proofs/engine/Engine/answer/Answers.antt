use Rattle.std.proofs.Common.{◌∙◌, ap, subst, sym}
use Rattle.q_books.proofs.Joining.{reads_keep}
use Rattle.q_books.specs.HostStands.{TellsCrashes}
use Rattle.q_engine.proofs.Counting.{counts_core}
use Rattle.q_engine.proofs.Looking.{always_err, shown_answers}
use Rattle.q_engine.proofs.Boxed.{lent_agrees}
use Rattle.q_core.specs.Answers.{IsFound}
use Rattle.q_core.specs.Deciding.{is_look}
use Rattle.q_core.specs.Looking.{LeavesFewer}
use Rattle.q_core.specs.declared.state.Core.{Core}
use Rattle.q_engine.proofs.engine.Engine.answer.Goals as goal

pub returns-clause-ok : goal.returns-clause-ok
returns-clause-ok g c t w l h look =
    let v = g.H.Host.view c.args.host.now in
    let x = g.H.Host.view c.look.new.host in
    let lawful : TellsCrashes v = (record { only = g.met.H.Host.only_now c.args.host.now; told = g.met.H.Host.told_stays c.args.host.now }) in
    let takes = reads_keep l.book l.book v x lawful (c.in_ok-found.ensures.stays t) h.host in
    let shown = c.in_ok-found.ensures.found t w l (lent_agrees w l _ _ c.deref.ensures h.core) h.host.reads in
    let answers = subst (λ (k : Core). IsFound k c.in_ok-found.found l) (sym c.deref_mut.ensures.value) (shown_answers c.args.decision.now c.args.self.now.core.value c.in_ok-found.found l c.requires.asked look shown) in
    let core = c.found.ensures.exact w l (lent_agrees w l _ _ c.deref_mut.ensures.value h.core) answers in
    (record { table = h.table; core = core; counts = counts_core c.args.self.now c.found.new.self l h.counts; host = takes.stands; logs = takes.logs h.logs; places = h.places }, takes)

pub returns-in_err-found-clause-err : goal.returns-in_err-found-clause-err
returns-in_err-found-clause-err g c = always_err c.from_residual.result (λ t w l h.
    let v = g.H.Host.view c.args.host.now in
    let x = g.H.Host.view c.look.new.host in
    let lawful : TellsCrashes v = (record { only = g.met.H.Host.only_now c.args.host.now; told = g.met.H.Host.told_stays c.args.host.now }) in
    reads_keep l.book l.book v x lawful (c.in_err-found.ensures.stays t) h.host)

pub look-requires : goal.look-requires
look-requires g c = ap is_look (sym c.requires.asked) ∙ c.requires.look

pub returns-clause-fewer : goal.returns-clause-fewer
returns-clause-fewer g c = subst (λ (k : Core). LeavesFewer k c.found.new.self) c.deref_mut.ensures.value c.found.ensures.fewer

pub returns-clause-timed : goal.returns-clause-timed
returns-clause-timed g c = c.found.ensures.timed ∙ ap (λ (k : Core). k.timed) c.deref_mut.ensures.value
