use Rattle.std.proofs.Common.{◌≡◌, List}
use Rattle.q_keyed.specs.Numbered.{Numbered}
use Rattle.q_rounds.proofs.TicketWalk.{tickets_left}
use Rattle.q_candidates.specs.declared.candidate.Candidate.{Candidate}
use Rattle.q_candidates.specs.Filing.{AreFrom}
use Rattle.q_candidates.specs.Sound.{IsFiled, IsLaid}
use Rattle.q_candidates.proofs.SiteWalk.{WalksAt}
use Rattle.q_candidates.proofs.index.Index.set_suspended.Given as goal

-- the lanes that it came by are set
abbrev pub invariant-loop-at : goal.invariant-loop-at
invariant-loop-at l = record {
  laid : IsLaid l.self;
  room : l.self.lanes.room ≡ l.fn.self.lanes.room;
  sites : l.self.sites ≡ l.fn.self.sites;
  filed : (ks : List (Numbered Candidate)) → IsFiled ks l.fn.self → IsFiled ks l.self;
  from : AreFrom l.site l.suspended l.fn.self.lanes.items l.self.lanes.items;
  walk : WalksAt l.site l.suspended l.self.lanes.items l.bucket l.fn.self.sites.items l.at;
}

abbrev pub decreases-loop-at : goal.decreases-loop-at
decreases-loop-at l = tickets_left l.fn.self.sites.items l.at
