use Rattle.std.proofs.Common.{◌∙◌, ap, Global, List, ℕ, subst, take_all, Vec}
use Rattle.q_restart.specs.declared.standing.Standing.{Standing}
use Rattle.q_restart.specs.Walks.{AddsStandings}
use Rattle.q_restart.proofs.Standings.{adds-none, adds-push, adds-skip}
use Rattle.q_restart.proofs.standing.add_standings.Goals as goal
use Rattle.q_restart.proofs.standing.add_standings.Goals.{in-Some+in_ok-push, in_default}

pub loop-name-init : goal.loop-name-init
loop-name-init c = record { adds = adds-none c.args.area c.args.walk.now.items }

pub loop-name-preserved : goal.loop-name-preserved
loop-name-preserved c = elim c.match-standing_at.branch [
  | in-Some+in_ok-push w ↦ record {
    adds = adds-push c.args.area c.args.names.now c.loop-name.name-index c.name-item.result w.in-Some.standing c.args.walk.now.items c.loop-name.walk.items c.match-standing_at.walk.items
        c.loop-name-test.true c.name-item.is w.in-Some.ensures.some (ap (λ (v : Vec Standing Global). v.items) w.walk-is ∙ w.in_ok-push.ensures.items) c.loop-name.invariant.adds;
  }
  | in_default w ↦ record {
    adds = adds-skip c.args.area c.args.names.now c.loop-name.name-index c.name-item.result c.args.walk.now.items c.loop-name.walk.items c.match-standing_at.walk.items
        c.loop-name-test.true c.name-item.is w.in_default.ensures.none (ap (λ (v : Vec Standing Global). v.items) w.walk-is) c.loop-name.invariant.adds;
  }
]

pub returns : goal.returns
returns c = subst (λ (ns : List (List ℕ)). AddsStandings c.args.area ns c.args.walk.now.items c.loop-name.walk.items) (take_all c.loop-name.name-index c.args.names.now c.loop-name-test.false) c.loop-name.invariant.adds
