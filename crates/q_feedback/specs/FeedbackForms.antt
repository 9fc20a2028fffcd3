-- Which fractions a feedback may be (SCHEDULER_README, "Concurrency scheduling").
use Rattle.std.specs.Prelude.{◌≡◌, ◌≤◌, true}
use Rattle.q_model.specs.Settings.{Feedback}

-- from 0 to 1 with a denominator of at most 100, or 0 or 1 over the window
pub record IsFeedback (f : Feedback) : Type 0 where
  pub positive : 1 ≤ f.denominator
  pub small : f.denominator ≤ 100
  pub proper : f.numerator ≤ f.denominator
  pub whole : f.by_window ≡ true → f.denominator ≡ 1
