use Rattle.std.proofs.Common.{◌<◌, ◌∙◌, arith, List, Option, subst, sym, ℕ}
use Rattle.std.specs.Prelude.{IfSome}
use Rattle.q_host.proofs.Stays.{stays_here, stays_on}
use Rattle.q_host.specs.NamesLeft.{names_left}
use Rattle.q_model.specs.SpoolFiles.{Files}
use Rattle.q_scan.specs.Walks.{IsGiven, IsNextOf, IsUpToDate}
use Rattle.q_super.proofs.Names.{each_next, each_none, front_all, front_next, front_none, IsFront}
use Rattle.q_super.proofs.taking.files_in.Goals as goal

pub loop-found-init : goal.loop-found-init
loop-found-init g c = record {
  area = c.in_ok-scan.ensures.area;
  each = each_none c.args.area c.new-found.result.items c.new-found.ensures.items;
  up_to_date = λ t. c.in_ok-scan.ensures.up_to_date (g.H.Host.view c.args.host.now).files;
  front = λ t. front_none (g.H.Host.view c.args.host.now).files c.args.area _ _ c.in_ok-scan.ensures.place c.new-found.ensures.items;
  stays = λ t. stays_here (g.H.Host.view c.args.host.now);
  disk_later = omega arith;
  tell_later = omega arith;
}

pub returns-in_default-clause-each : goal.returns-in_default-clause-each
returns-in_default-clause-each g c = c.loop-found.invariant.each

pub returns-in_default-clause-all : goal.returns-in_default-clause-all
returns-in_default-clause-all g c t =
    let so = c.loop-found.invariant in
    let f = (g.H.Host.view c.args.host.now).files in
    let w = c.loop-found.scan in
    let exact = c.in_ok-name.ensures.exact t (subst (λ (fs : Files). IsUpToDate fs w) (sym (so.stays t).files) (so.up_to_date t)) in
    let none = subst (λ (o : Option (List ℕ)). IsNextOf f w 999999999999 o) c.in_default.is (subst (λ (fs : Files). IsNextOf fs w 999999999999 c.in_ok-name.field-0) (so.stays t).files exact) in
    front_all f c.args.area w c.loop-found.found.items so.area (so.front t) none

pub loop-found-preserved : goal.loop-found-preserved
loop-found-preserved g c =
    let so = c.loop-found.invariant in
    let view = g.H.Host.view in
    let f = (view c.args.host.now).files in
    let w = c.loop-found.scan in
    let x = c.in-Some.name in
    let given = subst (λ (o : Option (List ℕ)). IfSome o (IsGiven 999999999999 w c.next.new.self)) c.in-Some.is c.in_ok-name.ensures.given in
    record {
      area = c.next.ensures.area ∙ so.area;
      each = each_next c.args.area c.loop-found.found.items c.add_named.new.found.items x c.in_ok-add_named.ensures so.each;
      up_to_date = λ t. subst (λ (fs : Files). IsUpToDate fs c.next.new.self) (so.stays t).files (c.in_ok-name.ensures.up_to_date t (subst (λ (fs : Files). IsUpToDate fs w) (sym (so.stays t).files) (so.up_to_date t)));
      front = λ t.
          let exact = c.in_ok-name.ensures.exact t (subst (λ (fs : Files). IsUpToDate fs w) (sym (so.stays t).files) (so.up_to_date t)) in
          let first = subst (λ (o : Option (List ℕ)). IsNextOf f w 999999999999 o) c.in-Some.is (subst (λ (fs : Files). IsNextOf fs w 999999999999 c.in_ok-name.field-0) (so.stays t).files exact) in
          subst (λ (p : Option (List ℕ)). IsFront f c.args.area p c.add_named.new.found.items) (sym given.place) (front_next f c.args.area w x c.loop-found.found.items so.area (so.front t) first c.add_named.new.found.items c.in_ok-add_named.ensures);
      stays = λ t. stays_on (view c.args.host.now) (view c.loop-found.host) (view c.next.new.host) (so.stays t) (c.in_ok-name.ensures.stays t);
      disk_later = omega (arith, so.disk_later, c.in_ok-name.ensures.cause.disk_later);
      tell_later = omega (arith, so.tell_later, c.in_ok-name.ensures.cause.tell_later);
    }

pub loop-found-smaller : goal.loop-found-smaller
loop-found-smaller g c = subst (λ (o : Option (List ℕ)). IfSome o (λ _. names_left c.next.new.self.place < names_left c.loop-found.scan.place)) c.in-Some.is c.in_ok-name.ensures.fewer
