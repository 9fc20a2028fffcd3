use Rattle.std.proofs.Common.{◌∙◌, ap, option_map, subst, sym}
use Rattle.q_candidates.specs.Candidates.{IsBest}
use Rattle.q_candidates.specs.declared.candidate.Candidate.{Candidate}
use Rattle.q_keyed.specs.Numbered.{values_of}
use Rattle.q_schedule.proofs.MessageLaws.{all_found}
use Rattle.q_schedule.proofs.Waiting.{all_wait}
use Rattle.q_schedule.proofs.Winners.{best_won}
use Rattle.q_schedule.specs.declared.admitted.Admitted.{Admitted}
use Rattle.q_schedule.specs.Schedule.{best_in, Scheduling}
use Rattle.q_turns.proofs.TiedLaws.{tied_shut}
use Rattle.q_turns.specs.Suspending.{HaveNoSpace}
use Rattle.q_schedule.proofs.schedule.Schedule.best.Goals as goal

-- no site that is suspended has space
pub best-kept-requires : goal.best-kept-requires
best-kept-requires c =
    let a = c.self.inside in
    let ds = c.args.sites.now.items in
    tied_shut ds a.turns.suspended a.candidates.suspended (subst (λ (v : Scheduling). HaveNoSpace ds v.suspended) (sym c.self.view_is) c.requires) c.self.invariant.tied

pub returns-in_err-best : goal.returns-in_err-best
returns-in_err-best c =
    let a = c.self.inside in
    let ds = c.args.sites.now.items in
    let won = best_won ds a.turns.lines a.turns.peers (values_of a.messages.items) a.stale a.candidates.items c.args.transport c.args.most c.args.now c.args.except c.self.invariant.kept (all_wait a.turns.lines a.turns.peers c.stand_apart.ensures.jobs) a.next c.self.invariant.ranked c.stand_apart-3.ensures.needs (all_found a.messages.items c.stand_apart-2.ensures.keys)
    c.copied.result c.own-own.result (subst (λ f. IsBest ds c.args.transport c.args.most c.args.now c.args.except a.candidates.items f) (sym c.copied.ensures) c.best-kept.ensures) c.own-own.ensures in
    c.from_residual.ensures
    ∙ sym (ap (λ (v : Scheduling). option_map (λ (m : Admitted). m.id) (best_in ds v.lines v.peers c.args.transport c.args.most c.args.now c.args.except v.messages)) (sym c.self.view_is)
    ∙ won ∙ ap (option_map (λ (x : Candidate). x.id)) (sym c.sooner.ensures ∙ c.in_err-best.was))

pub returns : goal.returns
returns c =
    let a = c.self.inside in
    let ds = c.args.sites.now.items in
    let won = best_won ds a.turns.lines a.turns.peers (values_of a.messages.items) a.stale a.candidates.items c.args.transport c.args.most c.args.now c.args.except c.self.invariant.kept (all_wait a.turns.lines a.turns.peers c.stand_apart.ensures.jobs) a.next c.self.invariant.ranked c.stand_apart-3.ensures.needs (all_found a.messages.items c.stand_apart-2.ensures.keys)
    c.copied.result c.own-own.result (subst (λ f. IsBest ds c.args.transport c.args.most c.args.now c.args.except a.candidates.items f) (sym c.copied.ensures) c.best-kept.ensures) c.own-own.ensures in
    sym (ap (λ (v : Scheduling). option_map (λ (m : Admitted). m.id) (best_in ds v.lines v.peers c.args.transport c.args.most c.args.now c.args.except v.messages)) (sym c.self.view_is)
    ∙ won ∙ ap (option_map (λ (x : Candidate). x.id)) (sym c.sooner.ensures ∙ c.in_ok-best.was))
