use Rattle.std.proofs.Common.{◌≤◌, subst}
use Rattle.std.specs.List.{AllByRecursion}
use Rattle.q_rounds.proofs.ItemSets.{each_of}
use Rattle.q_candidates.specs.Candidates.{AreApart, Listed}
use Rattle.q_candidates.specs.declared.candidate.Candidate.{Candidate}
use Rattle.q_candidates.proofs.Listing.{values_apart}
use Rattle.q_candidates.proofs.candidates.Candidates.stand_apart.Goals as goal

pub returns-clause-apart : goal.returns-clause-apart
returns-clause-apart c = subst (λ (v : Listed). AreApart v.items) c.self.view_is (values_apart c.self.inside.candidates.items c.stand_apart.ensures.keys)

pub returns-clause-needs : goal.returns-clause-needs
returns-clause-needs c =
    subst (λ (v : Listed). AllByRecursion (λ (x : Candidate). 1 ≤ x.need) v.items) c.self.view_is
    (each_of (λ (x : Candidate). 1 ≤ x.need) c.self.inside.candidates.items c.stand_apart.ensures.apart (λ m q h. (c.self.invariant.ordered.fit m q h).some))
