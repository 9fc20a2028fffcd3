use Rattle.std.proofs.Common.{◌∙◌, subst}
use Rattle.q_candidates.specs.Candidates.{Listed}
use Rattle.q_candidates.specs.Suspending.{AreInAnew, sites_of}
use Rattle.q_candidates.proofs.SuspendedSites.{sites_anew}
use Rattle.q_candidates.proofs.candidates.Candidates.set_suspended.Goals as goal

pub set_suspended-requires : goal.set_suspended-requires
set_suspended-requires c = c.self.invariant.ordered.laid

pub invariant_of-self : goal.invariant_of-self
invariant_of-self c =
    let sound = c.self.invariant in
    let set = c.set_suspended.ensures in
    record {
      ordered = record {
        fit = sound.ordered.fit;
        laid = set.laid;
        filed = set.filed c.self.inside.candidates.items sound.ordered.filed;
        room = set.room ∙ sound.ordered.room;
      };
      arrived = sound.arrived;
      arrival_room = sound.arrival_room;
    }

pub returns-clause-suspended : goal.returns-clause-suspended
returns-clause-suspended c =
    let site = c.args.site.now in
    let lanes = c.set_suspended.new.self.lanes.items in
    subst (λ (v : Listed). AreInAnew site c.args.suspended v.suspended (sites_of lanes)) c.self.view_is
    (sites_anew site c.args.suspended c.self.inside.index.lanes.items lanes c.stand_apart.ensures.apart c.set_suspended.ensures.set)
