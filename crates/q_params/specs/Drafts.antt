-- The parts of a reading, as the program keeps them: two pairs of numbers stand apart.
use Rattle.std.specs.Prelude.{◌≤◌}
use Rattle.q_params.specs.Readings.{SettingsSoFar}
use Rattle.q_params.specs.declared.draft.Draft.TheInside.{Inside}

-- the parts together
abbrev pub reading_of : Inside → SettingsSoFar
reading_of d = record {
  settings = record d.params {
    recipient_limit = d.recipient_limit;
    recipient_minimum = d.recipient_minimum;
    minimal_backoff = d.minimal_backoff;
    maximal_backoff = d.maximal_backoff;
  };
  lines = d.lines;
}

-- each number of the pairs is in its range
pub record HasPairsInRange (d : Inside) : Type 0 where
  pub recipient_limit : (1 ≤ d.recipient_limit) × (d.recipient_limit ≤ 100000)
  pub recipient_minimum : (1 ≤ d.recipient_minimum) × (d.recipient_minimum ≤ 100000)
  pub minimal_backoff : (1 ≤ d.minimal_backoff) × (d.minimal_backoff ≤ 9999999)
  pub maximal_backoff : (1 ≤ d.maximal_backoff) × (d.maximal_backoff ≤ 9999999)
