use Rattle.std.proofs.Common.{List, ℕ, arith, subst}
use Rattle.q_host.specs.Reads.{IsListing}
use Rattle.q_host.proofs.NamesLeft.{fewer_listed}
use Rattle.q_host.proofs.Stays.{stays_here, stays_on}
use Rattle.q_model.specs.SpoolFiles.{Files}
use Rattle.q_look.specs.FirstNames.{HasNone, IsFirstIn}
use Rattle.q_look.proofs.Listings.{first_is, first_none, passed_last, passed_none, there_at}
use Rattle.q_look.proofs.names.first_name.Goals as goal

pub walk-init : goal.walk-init
walk-init g c = record {
  passed = λ t. passed_none (g.W.Wanted.names c.args.wanted.now) ((g.H.Host.view c.args.host.now).files c.args.area) c.args.after;
  stays = λ t. stays_here (g.H.Host.view c.args.host.now);
  disk_later = omega arith;
  tell_later = omega arith;
}

pub walk-preserved : goal.walk-preserved
walk-preserved g c =
    let view = g.H.Host.view in
    let so_far = c.walk.invariant in
    let names = g.W.Wanted.names c.args.wanted.now in
    let listed = c.list_after.new.out in
    record {
      passed = λ t.
          let listing = subst (λ (fs : Files). IsListing (fs c.args.area) c.walk.behind listed) (so_far.stays t).files (c.in_ok-list_after.ensures.names t) in
          passed_last names ((view c.args.host.now).files c.args.area) c.args.after c.walk.behind listed listing (so_far.passed t) (subst (HasNone names) c.as_slice.ensures c.in_default.ensures.none) c.in-Some-last_of_full.last (there_at listed 63 c.in-Some-last_of_full.last c.in-Some-last_of_full.ensures.last);
      stays = λ t. stays_on (view c.args.host.now) (view c.walk.host) (view c.list_after.new.self) (so_far.stays t) (c.list_after.ensures.stays t);
      disk_later = omega (arith, so_far.disk_later, c.list_after.ensures.cause.disk_later);
      tell_later = omega (arith, so_far.tell_later, c.list_after.ensures.cause.tell_later);
    }

pub returns-in-Some-clause-first : goal.returns-in-Some-clause-first
returns-in-Some-clause-first g c t =
    let so_far = c.walk.invariant in
    let names = g.W.Wanted.names c.args.wanted.now in
    let listed = c.list_after.new.out in
    let listing = subst (λ (fs : Files). IsListing (fs c.args.area) c.walk.behind listed) (so_far.stays t).files (c.in_ok-list_after.ensures.names t) in
    first_is names ((g.H.Host.view c.args.host.now).files c.args.area) c.args.after c.walk.behind listed listing (so_far.passed t) c.in-Some.file (subst (λ (ns : List (List ℕ)). IsFirstIn names ns c.in-Some.file) c.as_slice.ensures c.in-Some.ensures.some)

pub returns-in_default-last_of_full-clause-first : goal.returns-in_default-last_of_full-clause-first
returns-in_default-last_of_full-clause-first g c t =
    let so_far = c.walk.invariant in
    let names = g.W.Wanted.names c.args.wanted.now in
    let listed = c.list_after.new.out in
    let listing = subst (λ (fs : Files). IsListing (fs c.args.area) c.walk.behind listed) (so_far.stays t).files (c.in_ok-list_after.ensures.names t) in
    first_none names ((g.H.Host.view c.args.host.now).files c.args.area) c.args.after c.walk.behind listed listing (so_far.passed t) (subst (HasNone names) c.as_slice.ensures c.in_default.ensures.none) c.in_default-last_of_full.ensures.few

pub walk-smaller : goal.walk-smaller
walk-smaller g c = fewer_listed c.walk.behind c.list_after.new.out 63 c.in-Some-last_of_full.last c.in_ok-list_after.ensures.form.0 c.in-Some-last_of_full.ensures.last c.in-Some-last_of_full.ensures.form
