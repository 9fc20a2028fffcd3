use Rattle.std.proofs.Common.{◌≡◌, ◌∙◌, ap, false, subst, sym, true}
use Rattle.q_top.specs.Courses.{Moments, Texts}
use Rattle.q_top.specs.Lives.{DoesWork}
use Rattle.q_top.specs.Tools.{is_listed, IsWork, names_some}
use Rattle.q_top.specs.declared.work.Work.{Work}
use Rattle.q_top.proofs.tooling.use_tool.Goals as goal

pub work_now-requires-clause-task : goal.work_now-requires-clause-task
work_now-requires-clause-task g c = subst IsWork c.in-Ready.is c.work_of.ensures.form

pub returns-in-Ready-clause-works : goal.returns-in-Ready-clause-works
returns-in-Ready-clause-works g c t =
    let texts : Texts = record { before = g.S.Source.left c.args.source.now; after = g.S.Source.left c.args.source.now } in
    let moments : Moments = record { before = g.C.Clock.given c.args.clock.now; after = g.C.Clock.given c.work_now.new.clock } in
    subst (λ (w : Work). DoesWork w texts moments (g.H.Host.view c.args.host.now) (g.H.Host.view c.work_now.new.host) c.work_now.result) (sym c.in-Ready.is ∙ c.work_of.ensures.exact) (c.work_now.ensures.works t)

pub returns-in-Listed-clause-works : goal.returns-in-Listed-clause-works
returns-in-Listed-clause-works g c t =
    let texts : Texts = record { before = g.S.Source.left c.args.source.now; after = g.S.Source.left c.work_through.new.source } in
    let moments : Moments = record { before = g.C.Clock.given c.args.clock.now; after = g.C.Clock.given c.work_through.new.clock } in
    subst (λ (w : Work). DoesWork w texts moments (g.H.Host.view c.args.host.now) (g.H.Host.view c.work_through.new.host) c.work_through.result) (sym c.in-Listed.is ∙ c.work_of.ensures.exact) (c.work_through.ensures.works t)

pub returns-in-Ready-clause-named : goal.returns-in-Ready-clause-named
returns-in-Ready-clause-named g c = c.work_now.ensures.named c.args.tool (g.S.Source.left c.args.source.now) (λ lacks. ap names_some (sym c.work_of.ensures.exact ∙ c.in-Ready.is) ∙ lacks)

pub returns-in-Listed-clause-named : goal.returns-in-Listed-clause-named
returns-in-Listed-clause-named g c = c.work_through.ensures.named c.args.tool (ap is_listed (sym c.work_of.ensures.exact ∙ c.in-Listed.is))

pub returns-in-Listed-clause-source_stays : goal.returns-in-Listed-clause-source_stays
returns-in-Listed-clause-source_stays g c none = absurd (let bad : true ≡ false = sym (ap is_listed (sym c.work_of.ensures.exact ∙ c.in-Listed.is)) ∙ none in cc)
