use Rattle.std.proofs.Common.{◌∙◌, ap, subst, sym}
use Rattle.q_heads.specs.Lanes.{Lanes}
use Rattle.q_suspended.specs.Suspensions.{Suspensions}
use Rattle.q_turns.proofs.Reclassing.{lane_known, sound_reclassed}
use Rattle.q_turns.proofs.SuspensionLaws.{any_more}
use Rattle.q_turns.proofs.TiedLaws.{tied_more}
use Rattle.q_suspended.specs.declared.suspension.Suspension.{Suspension}
use Rattle.q_turns.specs.Sound.{IsSound}
use Rattle.q_turns.specs.Suspending.{AreTied, class_at, class_in}
use Rattle.q_turns.specs.Turns.{Turning}
use Rattle.q_turns.proofs.turns.Turns.suspend.Goals as goal

pub class_lane-requires : goal.class_lane-requires
class_lane-requires c =
    let a = c.self.inside in
    lane_known a.lanes.items c.stand_apart.ensures.apart a.peers.items a.heads (class_at a.suspended.items) c.self.invariant.places.lanes_are c.args.site.now

pub invariant_of-self : goal.invariant_of-self
invariant_of-self c =
    let a = c.self.inside in
    let site = c.args.site.now in
    let pushed = c.push.new.self in
    subst (λ (h : Lanes). IsSound a.lines.items a.peers a.lanes h a.messages pushed a.line_room) (sym c.class_lane.ensures)
    (sound_reclassed a.lines.items a.peers a.lanes a.heads a.messages a.suspended pushed a.line_room site c.self.invariant c.stand_apart.ensures.apart c.stand_apart.ensures.keys c.stand_sorted.ensures.classes
    (λ t other.
    ap (λ (v : Suspensions). class_at v.items t) c.push.ensures
    ∙ ap (λ b. class_in b t.transport) (any_more t (record { site = site; until = c.args.until }) a.suspended.items other)))

pub returns-clause-tied : goal.returns-clause-tied
returns-clause-tied c =
    let s : Suspension = record { site = c.args.site.now; until = c.args.until } in
    let ss = c.self.inside.suspended.items in
    let tied = subst (λ (t : Turning). AreTied t.suspended c.args.candidates.now.suspended) (sym c.self.view_is) c.requires.tied in
    subst (λ (v : Suspensions). AreTied v.items c.set_suspended.new.self.suspended) (sym c.push.ensures)
    (tied_more ss c.args.candidates.now.suspended c.set_suspended.new.self.suspended tied s c.set_suspended.ensures.suspended)
