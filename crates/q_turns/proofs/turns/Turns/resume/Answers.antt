use Rattle.std.proofs.Common.{rules, ◌≡◌, ◌∙◌, ap, false, subst, sym}
use Rattle.std.specs.List.{list_any}
use Rattle.q_heads.specs.Lanes.{Lanes}
use Rattle.q_suspended.specs.Suspensions.{is_at, Suspensions}
use Rattle.q_turns.proofs.Reclassing.{lane_known, sound_reclassed}
use Rattle.q_turns.proofs.SuspensionLaws.{any_less, none_less}
use Rattle.q_turns.proofs.TiedLaws.{tied_less}
use Rattle.q_turns.specs.Sound.{IsSound}
use Rattle.q_turns.specs.Suspending.{AreTied, class_at, class_in}
use Rattle.q_turns.specs.Turns.{Turning}
use Rattle.q_turns.proofs.turns.Turns.resume.Goals as goal

pub returns-then-not-has-clause-suspended : goal.returns-then-not-has-clause-suspended
returns-then-not-has-clause-suspended c =
    let now = c.args.self.now in
    let site = c.args.site.now in
    let has : c.has.result ≡ false = search rules in
    let none = sym (ap (λ (t : Turning). list_any (is_at site) t.suspended) c.self.view_is) ∙ sym c.has.ensures ∙ has in
    ap (λ xs. record now { suspended = xs }) (sym (none_less site now.suspended none))

pub class_lane-requires : goal.class_lane-requires
class_lane-requires c =
    let a = c.self.inside in
    lane_known a.lanes.items c.stand_apart.ensures.apart a.peers.items a.heads (class_at a.suspended.items) c.self.invariant.places.lanes_are c.args.site.now

pub invariant_of-self : goal.invariant_of-self
invariant_of-self c =
    let a = c.self.inside in
    let site = c.args.site.now in
    let left = c.remove.new.self in
    subst (λ (h : Lanes). IsSound a.lines.items a.peers a.lanes h a.messages left a.line_room) (sym c.class_lane.ensures)
    (sound_reclassed a.lines.items a.peers a.lanes a.heads a.messages a.suspended left a.line_room site c.self.invariant c.stand_apart.ensures.apart c.stand_apart.ensures.keys c.stand_sorted.ensures.classes
    (λ t other. ap (λ (v : Suspensions). class_at v.items t) c.remove.ensures ∙ ap (λ b. class_in b t.transport) (any_less site t a.suspended.items other)))

pub returns-clause-tied : goal.returns-clause-tied
returns-clause-tied c =
    let ss = c.self.inside.suspended.items in
    let tied = subst (λ (t : Turning). AreTied t.suspended c.args.candidates.now.suspended) (sym c.self.view_is) c.requires in
    subst (λ (v : Suspensions). AreTied v.items c.set_suspended.new.self.suspended) (sym c.remove.ensures)
    (tied_less ss c.args.candidates.now.suspended c.set_suspended.new.self.suspended tied c.args.site.now c.set_suspended.ensures.suspended)
