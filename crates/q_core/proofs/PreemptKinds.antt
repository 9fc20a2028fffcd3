-- A job that goes before another is of another message, and the other one is there.
use Rattle.std.proofs.Common.{◌≡◌, ◌∙◌, ◌+◌, ap, Bool, cond, false, List, [], ◌∷◌, None, not, Option, option_map, refl, Some, suc, subst, sym, true, zero, ℕ}
use Rattle.std.specs.Option.{option_or}
use Rattle.std.specs.Prelude.{◌&&◌, ◌==◌, ◌^◌, filter, find, nat_lt, option_and_then}
use Rattle.q_core.proofs.KindLaws.{start_first}
use Rattle.q_core.proofs.LineSteps.{none_fresh}
use Rattle.q_core.proofs.ListLaws.{find-any}
use Rattle.q_core.specs.Choosing.{best_in, candidate_slot, choice_in, choices_from, current_in, is_better_in, is_fresh_among, job_left_in, jobs_at, pays_in, preempt_or}
use Rattle.q_core.specs.Deciding.{decide_in}
use Rattle.q_core.specs.declared.decision.Decision.{Decision}
use Rattle.q_core.specs.declared.decision.Decision.TheVariants as decisions
use Rattle.q_core.specs.declared.state.Core.{Core}
use Rattle.q_core.specs.Starting.{can_start_in, start_of_row}
use Rattle.q_jobs.specs.declared.job.Job.{Job}
use Rattle.q_jobs.specs.Jobs.{AreOfOthers, behind_jobs, is_job_of}
use Rattle.q_laws.proofs.Members.{in_filtered, least_in}
use Rattle.q_model.proofs.IdLaws.{id_eq-refl, id_eq-true}
use Rattle.q_model.specs.declared.id.Id.{Id}
use Rattle.q_model.specs.declared.rows.Row.{Row}
use Rattle.q_model.specs.Ids.{id_eq}
use Rattle.q_pool.specs.declared.slot.Slot.{Slot}
use Rattle.q_turns.specs.Turns.{has_job}

second : (a b e f : Bool) → (a && b && e && f) ≡ true → b ≡ true
second true true e f h = refl
second true false e f h = cc
second false b e f h = cc

-- Of a decision that a job goes before another.
module _ (c : Core) (child parent : Id) (t need : ℕ) where
  abbrev IsChosen : Type 0
  IsChosen = (p : Job) × (p.id ≡ parent) × (current_in c t ≡ Some p) × (is_fresh_among (behind_jobs parent (jobs_at c t)) child ≡ true)

  no_start : (o : Option Row) → option_map (start_of_row c) o ≡ Some (decisions.Preempt child parent t need) → IsChosen
  no_start None h = cc
  no_start (Some r) h = cc

  of_best : (u : ℕ) (p : Job) (o : Option Slot) → current_in c u ≡ Some p → best_in c u (behind_jobs p.id (jobs_at c u)) p ≡ o → preempt_or c u p o ≡ Some (decisions.Preempt child parent t need) → IsChosen
  of_best u p None cur is h = no_start _ h
  of_best u p (Some s) cur is h =
      let own : s.id ≡ child = cc in
      let of : p.id ≡ parent = cc in
      let at : u ≡ t = cc in
      let behind = behind_jobs p.id (jobs_at c u) in
      let passes : candidate_slot c u behind p s ≡ true =
      (in_filtered (candidate_slot c u behind p) s c.admitted (least_in (is_better_in c u) s (filter (candidate_slot c u behind p) c.admitted) is)).1 in
      let fresh : is_fresh_among behind s.id ≡ true =
      second (not (c.params.slot_cost == 0)) (is_fresh_among behind s.id) (can_start_in c u s.id) (pays_in c.params p (job_left_in c u p.id) (job_left_in c u s.id)) passes in (
        p,
        of,
        ap (current_in c) (sym at) ∙ cur,
        subst (λ v. is_fresh_among (behind_jobs parent (jobs_at c v)) child ≡ true) at
            (subst (λ i. is_fresh_among (behind_jobs i (jobs_at c u)) child ≡ true) of (subst (λ i. is_fresh_among behind i ≡ true) own fresh)),
      )

  of_current : (u : ℕ) (o : Option Job) → current_in c u ≡ o → option_and_then (λ (p : Job). preempt_or c u p (best_in c u (behind_jobs p.id (jobs_at c u)) p)) o ≡ Some (decisions.Preempt child parent t need) → IsChosen
  of_current u None cur h = cc
  of_current u (Some p) cur h = of_best u p (best_in c u (behind_jobs p.id (jobs_at c u)) p) cur refl h

  first_step : (n u : ℕ) (o : Option Decision) → (o ≡ Some (decisions.Preempt child parent t need) → IsChosen) → (choices_from c (u + 1) n ≡ Some (decisions.Preempt child parent t need) → IsChosen) →
      option_or o (choices_from c (u + 1) n) ≡ Some (decisions.Preempt child parent t need) → IsChosen
  first_step n u None one rest h = rest h
  first_step n u (Some d) one rest h = one h

  of_choices : (n u : ℕ) → choices_from c u n ≡ Some (decisions.Preempt child parent t need) → IsChosen
  of_choices zero u h = cc
  of_choices (suc n) u h = first_step n u (choice_in c u) (of_current u (current_in c u) refl) (of_choices n (u + 1)) h

  of_start : (b : Bool) → cond b (choices_from c 0 c.transports) None ≡ Some (decisions.Preempt child parent t need) → IsChosen
  of_start true h = of_choices c.transports 0 h
  of_start false h = cc

  pub chosen : decide_in c ≡ Some (decisions.Preempt child parent t need) → IsChosen
  chosen h = of_start (nat_lt c.starts (2 ^ 48)) (start_first c (decisions.Preempt child parent t need) refl h).2

  -- the other one is there
  pub parent_there : decide_in c ≡ Some (decisions.Preempt child parent t need) → has_job c.lines t parent ≡ true
  parent_there h =
      let k = chosen h in
      find-any (λ (j : Job). can_start_in c t j.id) (is_job_of parent) (jobs_at c t) k.0 k.2 (ap (λ i. id_eq i parent) k.1 ∙ id_eq-refl parent)

none_step : (id : Id) (j : Job) (js : List Job) (b : Bool) → id_eq j.id id ≡ b → find (is_job_of j.id) js ≡ None → find (is_job_of id) (behind_jobs id js) ≡ None → find (is_job_of id) (cond b js (behind_jobs id js)) ≡ None
none_step id j js true e none rest = ap (λ i. find (is_job_of i) js) (sym (id_eq-true j.id id e)) ∙ none
none_step id j js false e none rest = rest

none_behind : (id : Id) (js : List Job) → AreOfOthers js → find (is_job_of id) (behind_jobs id js) ≡ None
none_behind id [] h = refl
none_behind id (j ∷ js) h = none_step id j js (id_eq j.id id) refl h.0 (none_behind id js h.1)

-- and it is of another message
pub other_child : (c : Core) (child parent : Id) (t need : ℕ) → AreOfOthers (jobs_at c t) → decide_in c ≡ Some (decisions.Preempt child parent t need) → id_eq child parent ≡ false
other_child c child parent t need apart h = on (id_eq child parent) refl
  where
    on : (b : Bool) → id_eq child parent ≡ b → b ≡ false
    on false e = refl
    on true e =
        let k = chosen c child parent t need h in
        let same : child ≡ parent = id_eq-true child parent e in
        let none : is_fresh_among (behind_jobs parent (jobs_at c t)) child ≡ false =
        ap (is_fresh_among (behind_jobs parent (jobs_at c t))) same ∙ none_fresh parent (behind_jobs parent (jobs_at c t)) (none_behind parent (jobs_at c t) apart) in
        let bad : true ≡ false = sym k.3 ∙ none in cc
