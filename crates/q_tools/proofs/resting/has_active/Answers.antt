use Rattle.std.proofs.Common.{◌<◌, arith, List, Option, subst, sym, ℕ}
use Rattle.std.specs.Prelude.{IfSome}
use Rattle.q_host.proofs.Stays.{stays_here}
use Rattle.q_host.specs.NamesLeft.{names_left}
use Rattle.q_model.specs.SpoolFiles.{Files}
use Rattle.q_scan.specs.Walks.{IsNextOf, IsUpToDate}
use Rattle.q_tools.proofs.ActiveWalks.{come_none, none_come}
use Rattle.q_tools.proofs.resting.has_active.Goals as goal

pub loop-scan-init : goal.loop-scan-init
loop-scan-init g c = record {
  area = c.in_ok-scan.ensures.area;
  up_to_date = λ t. c.in_ok-scan.ensures.up_to_date (g.H.Host.view c.args.host.now).files;
  to_come = λ t. come_none (g.H.Host.view c.args.host.now).files _ c.in_ok-scan.ensures.place;
  stays = λ t. stays_here (g.H.Host.view c.args.host.now);
  disk_later = omega arith;
  tell_later = omega arith;
}

pub returns-in_default-clause-none : goal.returns-in_default-clause-none
returns-in_default-clause-none g c t is =
    let so = c.loop-scan.invariant in
    let f = (g.H.Host.view c.args.host.now).files in
    let w = c.loop-scan.scan in
    let exact = c.in_ok-name.ensures.exact t (subst (λ (fs : Files). IsUpToDate fs w) (sym (so.stays t).files) (so.up_to_date t)) in
    let none = subst (λ (o : Option (List ℕ)). IsNextOf f w 999990000000 o) c.in_default.is (subst (λ (fs : Files). IsNextOf fs w 999990000000 c.in_ok-name.field-0) (so.stays t).files exact) in
    none_come f w so.area (so.to_come t) none

pub loop-scan-smaller : goal.loop-scan-smaller
loop-scan-smaller g c = subst (λ (o : Option (List ℕ)). IfSome o (λ _. names_left c.next.new.self.place < names_left c.loop-scan.scan.place)) c.in-Some.is c.in_ok-name.ensures.fewer
