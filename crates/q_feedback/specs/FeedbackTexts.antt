-- The texts of feedbacks (postconf(5): default_destination_concurrency_positive_feedback).
use Rattle.std.specs.Option.{option_map_or}
use Rattle.std.specs.Prelude.{bytes_eq, codes, false, if◌then◌else◌, List, Option, option_and_then, option_map, true, ℕ}
use Rattle.q_numbers.specs.Numbers.{number_within}
use Rattle.q_numbers.specs.Pieces.{cut}
use Rattle.q_model.specs.Settings.{Feedback}

-- p over q
abbrev pub over : ℕ → ℕ → Feedback
over q p = record { numerator = p; denominator = q; by_window = false }

-- `p`, which is 0 or 1
abbrev pub whole : List ℕ → Option Feedback
whole text = option_map (over 1) (number_within 0 1 text)

-- `p/concurrency`, where p is 0 or 1
abbrev pub per_window : List ℕ → Option Feedback
per_window front =
    option_map (λ p. record { numerator = p; denominator = 1; by_window = true }) (number_within 0 1 front)

-- `p/q`, where q is from 1 to 100 and p from 0 to q
abbrev pub fraction : List ℕ → List ℕ → Option Feedback
fraction front back =
    option_and_then (λ q. option_map (over q) (number_within 0 q front)) (number_within 1 100 back)

-- what a slash divides
abbrev pub divided : List ℕ → List ℕ → Option Feedback
divided front back =
    if bytes_eq back (codes "concurrency") then per_window front else fraction front back

-- the feedback that a text writes
abbrev pub feedback_of : List ℕ → Option Feedback
feedback_of text =
    option_map_or (λ (c : List ℕ × List ℕ). divided c.0 c.1) (cut 47 text) (whole text)
