use Rattle.std.proofs.Common.{◌≡◌, length}
use Rattle.std.specs.Prelude.{filter}
use Rattle.q_turns.specs.Suspending.{AreTied}
use Rattle.q_turns.proofs.SuspensionLaws.{is_later}
use Rattle.q_turns.proofs.turns.Turns.resume_due.Given as goal

-- what is left to resume comes to the same
abbrev pub invariant-loop-suspension : goal.invariant-loop-suspension
invariant-loop-suspension l = record {
  rest : l.self ≡ record l.fn.self { suspended = l.self.suspended };
  later : filter (is_later l.moment) l.self.suspended ≡ filter (is_later l.moment) l.fn.self.suspended;
  kept : l.candidates ≡ record l.fn.candidates { suspended = l.candidates.suspended };
  tied : AreTied l.self.suspended l.candidates.suspended;
}

abbrev pub decreases-loop-suspension : goal.decreases-loop-suspension
decreases-loop-suspension l = length l.self.suspended
