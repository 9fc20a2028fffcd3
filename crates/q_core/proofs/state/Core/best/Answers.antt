use Rattle.std.proofs.Common.{◌≡◌, ◌∙◌, ap, arith, false, None, not, option_and_then, Some, subst, sym}
use Rattle.std.proofs.lemmas.List.{length-map}
use Rattle.std.specs.Option.{option_map_or}
use Rattle.std.specs.Prelude.{◌&&◌, ◌==◌, nat_le}
use Rattle.q_core.proofs.AbleLaws.{able_known}
use Rattle.q_core.proofs.BestLaws.{best_found, few_job_left, has_process, none_best}
use Rattle.q_core.proofs.CountLaws.{count_within}
use Rattle.q_core.proofs.MessageTies.{slots_found}
use Rattle.q_core.proofs.SuspendedLaws.{suspended_full}
use Rattle.q_core.proofs.TurnTies.{rows_left_counted}
use Rattle.q_core.specs.Choosing.{best_in, current_in, job_left_in, jobs_at, pays_in}
use Rattle.q_core.specs.Held.{slot_in}
use Rattle.q_core.specs.RowWalks.{is_row_for}
use Rattle.q_core.specs.State.{State}
use Rattle.q_core.specs.View.{state_of}
use Rattle.q_held.specs.Held.{HeldRow, rows_of}
use Rattle.q_jobs.specs.Jobs.{AreOfOthers, behind_jobs}
use Rattle.q_core.proofs.state.Core.best.Goals as goal

-- no site that is suspended has space
pub best-requires : goal.best-requires
best-requires c = suspended_full c.self.inside.sites.items c.self.inside.schedule.suspended c.self.invariant.9

pub returns-in_err-most : goal.returns-in_err-most
returns-in_err-most c =
    let a = c.self.inside in
    let t = c.args.transport in
    let parent = c.args.parent.now in
    let now = state_of a in
    let rows = rows_of a.waiting.items in
    let tied = c.self.invariant.5.known in
    let found = slots_found a.admitted.items c.stand_apart-3.ensures.apart in
    let same = length-map a.waiting.items (λ (k : HeldRow). k.row) in
    let few = few_job_left now t a.schedule.messages (λ id. omega (arith, count_within (is_row_for id t) rows, same, c.stand_apart-4.ensures.within, c.stand_apart-4.ensures.few)) tied found c.stand_apart-2.ensures.few_unread in
    let left : c.job_left-left.result ≡ job_left_in now t parent.id = c.job_left-left.ensures.value ∙ ap (λ (s : State). job_left_in s t parent.id) (sym c.self.view_is) in
    let none = none_best now t parent (λ need low. ap (λ n. not (a.params.slot_cost == 0) && pays_in a.params parent n need) (sym left) ∙ c.most_need.ensures need low ∙ ap (λ o. option_map_or (nat_le need) o false) c.in_err-most.was) (behind_jobs parent.id (jobs_at now t)) few in
    c.from_residual.ensures ∙ sym (subst (λ (s : State). best_in s t (behind_jobs parent.id (jobs_at s t)) parent ≡ None) c.self.view_is none)

pub returns-in_err-child : goal.returns-in_err-child
returns-in_err-child c =
    let a = c.self.inside in
    let t = c.args.transport in
    let parent = c.args.parent.now in
    let now = state_of a in
    let rows = rows_of a.waiting.items in
    let tied = c.self.invariant.5.known in
    let found = slots_found a.admitted.items c.stand_apart-3.ensures.apart in
    let same = length-map a.waiting.items (λ (k : HeldRow). k.row) in
    let few = few_job_left now t a.schedule.messages (λ id. omega (arith, count_within (is_row_for id t) rows, same, c.stand_apart-4.ensures.within, c.stand_apart-4.ensures.few)) tied found c.stand_apart-2.ensures.few_unread in
    let left : c.job_left-left.result ≡ job_left_in now t parent.id = c.job_left-left.ensures.value ∙ ap (λ (s : State). job_left_in s t parent.id) (sym c.self.view_is) in
    let current : current_in now t ≡ Some parent = ap (λ (s : State). current_in s t) c.self.view_is ∙ c.requires in
    let best = best_found now a.sites.items a.schedule.peers t c.in_ok-most.most parent (λ id. rows_left_counted id t a.schedule.peers rows c.stand_apart-2.ensures.apart c.self.invariant.3.counts)
    (λ id. able_known a c.self.invariant.2 c.self.invariant.3.counts c.stand_apart-2.ensures.apart c.stand_apart-2.ensures.jobs t (has_process now t parent current) id)
    (subst (λ (s : State). AreOfOthers (jobs_at s t)) (sym c.self.view_is) c.stand_apart.ensures) current
    (λ need low. ap (λ n. not (a.params.slot_cost == 0) && pays_in a.params parent n need) (sym left) ∙ c.most_need.ensures need low ∙ ap (λ o. option_map_or (nat_le need) o false) c.in_ok-most.was)
    a.schedule.messages c.best.result tied found few c.best.ensures in
    let whole = subst (λ (s : State). option_and_then (slot_in s) c.best.result ≡ best_in s t (behind_jobs parent.id (jobs_at s t)) parent) c.self.view_is best in
    c.from_residual-in_err-child.ensures ∙ sym (ap (option_and_then (slot_in c.args.self.now)) c.in_err-child.was) ∙ whole

pub returns : goal.returns
returns c =
    let a = c.self.inside in
    let t = c.args.transport in
    let parent = c.args.parent.now in
    let now = state_of a in
    let rows = rows_of a.waiting.items in
    let tied = c.self.invariant.5.known in
    let found = slots_found a.admitted.items c.stand_apart-3.ensures.apart in
    let same = length-map a.waiting.items (λ (k : HeldRow). k.row) in
    let few = few_job_left now t a.schedule.messages (λ id. omega (arith, count_within (is_row_for id t) rows, same, c.stand_apart-4.ensures.within, c.stand_apart-4.ensures.few)) tied found c.stand_apart-2.ensures.few_unread in
    let left : c.job_left-left.result ≡ job_left_in now t parent.id = c.job_left-left.ensures.value ∙ ap (λ (s : State). job_left_in s t parent.id) (sym c.self.view_is) in
    let current : current_in now t ≡ Some parent = ap (λ (s : State). current_in s t) c.self.view_is ∙ c.requires in
    let best = best_found now a.sites.items a.schedule.peers t c.in_ok-most.most parent (λ id. rows_left_counted id t a.schedule.peers rows c.stand_apart-2.ensures.apart c.self.invariant.3.counts)
    (λ id. able_known a c.self.invariant.2 c.self.invariant.3.counts c.stand_apart-2.ensures.apart c.stand_apart-2.ensures.jobs t (has_process now t parent current) id)
    (subst (λ (s : State). AreOfOthers (jobs_at s t)) (sym c.self.view_is) c.stand_apart.ensures) current
    (λ need low. ap (λ n. not (a.params.slot_cost == 0) && pays_in a.params parent n need) (sym left) ∙ c.most_need.ensures need low ∙ ap (λ o. option_map_or (nat_le need) o false) c.in_ok-most.was)
    a.schedule.messages c.best.result tied found few c.best.ensures in
    let whole = subst (λ (s : State). option_and_then (slot_in s) c.best.result ≡ best_in s t (behind_jobs parent.id (jobs_at s t)) parent) c.self.view_is best in
    c.copied.ensures ∙ c.slot.ensures ∙ sym (ap (option_and_then (slot_in c.args.self.now)) c.in_ok-child.was) ∙ whole
