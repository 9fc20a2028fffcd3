-- A delivery that is decided is of a row that waits, has a number beyond all others, and is at a
-- transport that there is, which has a process left.
use Rattle.q_jobs.specs.Jobs.{behind_jobs}
use Rattle.q_jobs.specs.declared.job.Job.{Job}
use Rattle.q_laws.proofs.Members.{any_from, in_filtered, least_in}
use Rattle.std.proofs.Common.{◌≡◌, ◌+◌, ◌<◌, ◌≤◌, ◌==◌, arith, Bool, false, filter, None, Option, option_map, refl, Some, subst, suc, sym, true, zero, ℕ}
use Rattle.std.proofs.lemmas.Bool.{and_from, and_parts, eqb-true, ltb-true}
use Rattle.std.specs.List.{list_any}
use Rattle.std.specs.Option.{option_or}
use Rattle.std.specs.Prelude.{◌&&◌, ◌^◌, if◌then◌else◌, nat_lt, option_and_then}
use Rattle.q_core.proofs.KindLaws.{start_first}
use Rattle.q_core.proofs.NameLaws.{id_eq-same}
use Rattle.q_core.specs.Sending.{is_for}
use Rattle.q_model.proofs.IdLaws.{site_eq-refl}
use Rattle.q_model.specs.Sites.{site_eq}
use Rattle.q_core.specs.Choosing.{best_in, choice_in, choices_from, choose_in, current_in, jobs_at, preempt_or}
use Rattle.q_core.specs.Deciding.{decide_in}
use Rattle.q_core.specs.Rooms.{HasProcess}
use Rattle.q_core.specs.Starting.{flights_at, has_room_in, is_startable_in, next_row_in, rows_for, sent_before, start_of_row}
use Rattle.q_core.specs.declared.decision.Decision.{Decision}
use Rattle.q_core.specs.declared.decision.Decision.TheVariants as decisions
use Rattle.q_core.specs.declared.state.Core.{Core}
use Rattle.q_model.specs.declared.id.Id.{Id}
use Rattle.q_model.specs.declared.rows.Row.{Row}
use Rattle.q_model.specs.Ids.{id_eq}
use Rattle.q_model.specs.Values.{Site}
use Rattle.q_pool.specs.declared.slot.Slot.{Slot}

pub record MayStart (c : Core) (number : ℕ) (id : Id) (site : Site) : Type 0 where
  pub there : list_any (is_for id site) c.waiting ≡ true
  pub next : c.starts < number
  pub process : HasProcess c site.transport

-- where it is a start, it is such a one
abbrev StartsWithin : Core → Option Decision → Type 0
StartsWithin c None = Unit {0}
StartsWithin c (Some (decisions.Start number id site)) = MayStart c number id site
StartsWithin c (Some _) = Unit {0}

or_within : (c : Core) (o q : Option Decision) → StartsWithin c o → StartsWithin c q → StartsWithin c (option_or o q)
or_within c None q a b = b
or_within c (Some d) q a b = a

row_within : (c : Core) (t : ℕ) (id : Id) (r : Row) → t < c.transports → rows_for c id t r ≡ true → HasProcess c r.site.transport
row_within c t id r below h =
    let parts = and_parts (id_eq r.id id && (r.site.transport == t)) (is_startable_in c r) h in
    let at = eqb-true r.site.transport t (and_parts (id_eq r.id id) (r.site.transport == t) parts.0).1 in
    let left = and_parts (nat_lt (flights_at c r.site.transport) c.params.process_limit) (has_room_in c r.site) parts.1 in
    (subst (λ u. u < c.transports) (sym at) below, ltb-true (flights_at c r.site.transport) c.params.process_limit left.0)

next_within : (c : Core) (t : ℕ) (id : Id) → t < c.transports → (o : Option Row) → next_row_in c t id ≡ o → StartsWithin c (option_map (start_of_row c) o)
next_within c t id below None e = tt
next_within c t id below (Some r) e =
    let waits = in_filtered (rows_for c id t) r c.waiting (least_in (sent_before c) r (filter (rows_for c id t) c.waiting) e) in
    record {
      there = any_from (is_for r.id r.site) r c.waiting waits.0 (and_from (id_eq r.id r.id) (site_eq r.site r.site) (id_eq-same r.id) (site_eq-refl r.site));
      next = omega arith;
      process = row_within c t id r below waits.1;
    }

best_within : (c : Core) (t : ℕ) (parent : Job) → t < c.transports → (o : Option Slot) → StartsWithin c (preempt_or c t parent o)
best_within c t parent below None = next_within c t parent.id below (next_row_in c t parent.id) refl
best_within c t parent below (Some s) = tt

chosen_within : (c : Core) (t : ℕ) → t < c.transports → (o : Option Job) → StartsWithin c (option_and_then (choose_in c t) o)
chosen_within c t below None = tt
chosen_within c t below (Some parent) = best_within c t parent below (best_in c t (behind_jobs parent.id (jobs_at c t)) parent)

choices_within : (c : Core) (t left : ℕ) → t + left ≤ c.transports → StartsWithin c (choices_from c t left)
choices_within c t zero h = tt
choices_within c t (suc left) h =
    or_within c (choice_in c t) (choices_from c (t + 1) left) (chosen_within c t (omega (arith, h)) (current_in c t)) (choices_within c (t + 1) left (omega (arith, h)))

if_within : (c : Core) (b : Bool) (o : Option Decision) → StartsWithin c o → StartsWithin c (if b then o else None)
if_within c true o a = a
if_within c false o a = tt

-- the delivery that is decided
pub decided_start : (c : Core) (number : ℕ) (id : Id) (site : Site) → decide_in c ≡ Some (decisions.Start number id site) → MayStart c number id site
decided_start c number id site e =
    let first = start_first c (decisions.Start number id site) refl e in
    subst (StartsWithin c) first.2 (if_within c (nat_lt c.starts (2 ^ 48)) (choices_from c 0 c.transports) (choices_within c 0 c.transports (omega arith)))
