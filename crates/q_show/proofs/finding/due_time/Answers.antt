use Rattle.std.proofs.Common.{◌<◌, ◌∙◌, arith, List, Option, subst, sym, ℕ}
use Rattle.std.specs.Prelude.{IfSome}
use Rattle.q_host.proofs.Stays.{stays_here, stays_on}
use Rattle.q_host.specs.NamesLeft.{names_left}
use Rattle.q_model.specs.SpoolFiles.{Files}
use Rattle.q_scan.specs.Walks.{IsGiven, IsNextOf, IsUpToDate}
use Rattle.q_show.proofs.DueTimes.{found_here, found_nowhere, IsStillToCome, to_come_behind, to_come_none}
use Rattle.q_show.proofs.finding.due_time.Goals as goal

pub loop-scan-init : goal.loop-scan-init
loop-scan-init g c = record {
  area = c.in_ok-scan.ensures.area;
  up_to_date = λ t. c.in_ok-scan.ensures.up_to_date (g.H.Host.view c.args.host.now).files;
  to_come = λ t. to_come_none (g.H.Host.view c.args.host.now).files c.args.id _ c.in_ok-scan.ensures.place;
  stays = λ t. stays_here (g.H.Host.view c.args.host.now);
  disk_later = omega arith;
  tell_later = omega arith;
}

pub returns-in_default-clause-due : goal.returns-in_default-clause-due
returns-in_default-clause-due g c t =
    let so = c.loop-scan.invariant in
    let f = (g.H.Host.view c.args.host.now).files in
    let w = c.loop-scan.scan in
    let exact = c.in_ok-name.ensures.exact t (subst (λ (fs : Files). IsUpToDate fs w) (sym (so.stays t).files) (so.up_to_date t)) in
    let none = subst (λ (o : Option (List ℕ)). IsNextOf f w 999999999999 o) c.in_default.is (subst (λ (fs : Files). IsNextOf fs w 999999999999 c.in_ok-name.field-0) (so.stays t).files exact) in
    found_nowhere f w c.args.id c.requires so.area (so.to_come t) none

pub returns-in-Some-due_in-clause-due : goal.returns-in-Some-due_in-clause-due
returns-in-Some-due_in-clause-due g c t =
    let so = c.loop-scan.invariant in
    let f = (g.H.Host.view c.args.host.now).files in
    let w = c.loop-scan.scan in
    let exact = c.in_ok-name.ensures.exact t (subst (λ (fs : Files). IsUpToDate fs w) (sym (so.stays t).files) (so.up_to_date t)) in
    let first = subst (λ (o : Option (List ℕ)). IsNextOf f w 999999999999 o) c.in-Some.is (subst (λ (fs : Files). IsNextOf fs w 999999999999 c.in_ok-name.field-0) (so.stays t).files exact) in
    found_here f w c.args.id c.in-Some.name c.in-Some-due_in.due so.area first c.in-Some-due_in.ensures.some.1

pub loop-scan-preserved : goal.loop-scan-preserved
loop-scan-preserved g c =
    let so = c.loop-scan.invariant in
    let view = g.H.Host.view in
    let f = (view c.args.host.now).files in
    let w = c.loop-scan.scan in
    let x = c.in-Some.name in
    let given = subst (λ (o : Option (List ℕ)). IfSome o (IsGiven 999999999999 w c.next.new.self)) c.in-Some.is c.in_ok-name.ensures.given in
    record {
      area = c.next.ensures.area ∙ so.area;
      up_to_date = λ t. subst (λ (fs : Files). IsUpToDate fs c.next.new.self) (so.stays t).files (c.in_ok-name.ensures.up_to_date t (subst (λ (fs : Files). IsUpToDate fs w) (sym (so.stays t).files) (so.up_to_date t)));
      to_come = λ t.
          let exact = c.in_ok-name.ensures.exact t (subst (λ (fs : Files). IsUpToDate fs w) (sym (so.stays t).files) (so.up_to_date t)) in
          let first = subst (λ (o : Option (List ℕ)). IsNextOf f w 999999999999 o) c.in-Some.is (subst (λ (fs : Files). IsNextOf fs w 999999999999 c.in_ok-name.field-0) (so.stays t).files exact) in
          subst (λ (p : Option (List ℕ)). IsStillToCome f c.args.id p) (sym given.place) (to_come_behind f w c.args.id x c.requires so.area (so.to_come t) first (λ due fits. c.in_default-due_in.ensures.none due fits c.requires));
      stays = λ t. stays_on (view c.args.host.now) (view c.loop-scan.host) (view c.next.new.host) (so.stays t) (c.in_ok-name.ensures.stays t);
      disk_later = omega (arith, so.disk_later, c.in_ok-name.ensures.cause.disk_later);
      tell_later = omega (arith, so.tell_later, c.in_ok-name.ensures.cause.tell_later);
    }

pub loop-scan-smaller : goal.loop-scan-smaller
loop-scan-smaller g c = subst (λ (o : Option (List ℕ)). IfSome o (λ _. names_left c.next.new.self.place < names_left c.loop-scan.scan.place)) c.in-Some.is c.in_ok-name.ensures.fewer
