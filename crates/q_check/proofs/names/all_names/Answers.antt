use Rattle.std.proofs.Common.{◌<◌, ◌≤◌, ◌++◌, ◌∙◌, List, ℕ, ap, arith, length, subst}
use Rattle.q_host.specs.Reads.{IsListing}
use Rattle.q_model.specs.SpoolFiles.{Files}
use Rattle.q_host.proofs.NamesLeft.{fewer_listed}
use Rattle.q_host.proofs.Stays.{stays_here, stays_on}
use Rattle.q_restart.proofs.NameLists.{front-all, front-more, front-none}
use Rattle.q_check.proofs.names.all_names.Goals as goal

pub loop-all-init : goal.loop-all-init
loop-all-init g c = record {
  found = λ t. front-none _ c.new-all.result.items c.new-all.ensures.items;
  stays = λ t. stays_here (g.H.Host.view c.args.host.now);
  disk_later = omega arith;
  tell_later = omega arith;
}

pub returns-in_default-clause-names : goal.returns-in_default-clause-names
returns-in_default-clause-names g c t =
    let so_far = c.loop-all.invariant in
    let part = c.list_after.new.out in
    let listing = subst (λ (fs : Files). IsListing (fs c.args.area) c.loop-all.after part) (so_far.stays t).files (c.in_ok-list_after.ensures.names t) in
    let short : length part < 64 = c.in_default.ensures.few in
    front-all ((g.H.Host.view c.args.host.now).files c.args.area) c.loop-all.after c.loop-all.all.items part c.extend_from_slice.new.self.items (so_far.found t) listing
    (c.in_ok-extend_from_slice.ensures.items ∙ ap (λ (xs : List (List ℕ)). c.loop-all.all.items ++ xs) c.as_slice.ensures) short

pub loop-all-preserved : goal.loop-all-preserved
loop-all-preserved g c =
    let view = g.H.Host.view in
    let so_far = c.loop-all.invariant in
    let part = c.list_after.new.out in
    let whole : length part ≤ 64 = omega (arith, c.in_ok-list_after.ensures.form.1) in
    record {
      found = λ t.
          let listing = subst (λ (fs : Files). IsListing (fs c.args.area) c.loop-all.after part) (so_far.stays t).files (c.in_ok-list_after.ensures.names t) in
          front-more ((view c.args.host.now).files c.args.area) c.loop-all.after c.loop-all.all.items part c.extend_from_slice.new.self.items (so_far.found t) listing
          (c.in_ok-extend_from_slice.ensures.items ∙ ap (λ (xs : List (List ℕ)). c.loop-all.all.items ++ xs) c.as_slice.ensures) 63 c.in-Some.last c.in-Some.ensures.last whole;
      stays = λ t. stays_on (view c.args.host.now) (view c.loop-all.host) (view c.list_after.new.self) (so_far.stays t) (c.list_after.ensures.stays t);
      disk_later = omega (arith, so_far.disk_later, c.list_after.ensures.cause.disk_later);
      tell_later = omega (arith, so_far.tell_later, c.list_after.ensures.cause.tell_later);
    }

pub loop-all-smaller : goal.loop-all-smaller
loop-all-smaller g c = fewer_listed c.loop-all.after c.list_after.new.out 63 c.in-Some.last c.in_ok-list_after.ensures.form.0 c.in-Some.ensures.last c.in-Some.ensures.form
