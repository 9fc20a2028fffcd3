-- How sites come to have lanes, and lose them.
use Rattle.std.specs.Option.{is_some}
use Rattle.std.specs.Prelude.{◌≡◌, ◌<◌, ◌⊎◌, false, find, if◌then◌else◌, List, None, Option, option_and_then, Some, true, ℕ}
use Rattle.q_heads.specs.Lanes.{class_of, Lanes}
use Rattle.q_keyed.specs.Numbered.{item_at, Numbered, without_number}
use Rattle.q_model.specs.Sites.{site_eq}
use Rattle.q_model.specs.Values.{Site}
use Rattle.q_sorted.specs.declared.ticket.Ticket.{Ticket}
use Rattle.q_sorted.specs.Tickets.{is_of}
use Rattle.q_turns.specs.declared.lane.Lane.{Lane}
use Rattle.q_turns.specs.Heading.{lane_of}

-- a lane that was there, or that of the site, of its class
abbrev pub IsOldOrMade : (Site → ℕ) → Site → List (Numbered Lane) → Lanes → Lanes → ℕ → Lane → Type 0
IsOldOrMade class site old before after number l =
    ((item_at number old ≡ Some l)
    × (class_of number after.classes ≡ class_of number before.classes))
    ⊎ ((l.site ≡ site) × (number < before.lanes)
    × (class_of number after.classes ≡ class site))

-- the site has a lane, and all that there were stay
pub record HasMade (class : Site → ℕ) (site : Site) (old new : List (Numbered Lane)) (before after : Lanes) : Type 0 where
  pub there : is_some (lane_of site new) ≡ true
  pub kept : is_some (lane_of site old) ≡ true → lane_of site new ≡ lane_of site old
  pub others : (other : Site) → site_eq site other ≡ false → lane_of other new ≡ lane_of other old
  pub lanes : (number : ℕ) (l : Lane) → item_at number new ≡ Some l
      → IsOldOrMade class site old before after number l
  pub heads : after ≡ record before { classes = after.classes }

-- the number of the site's lane, where no ticket stands in it
abbrev pub empty_lane : Site → List (Numbered Lane) → List Ticket → Option ℕ
empty_lane site lanes items = option_and_then
    (λ n. if is_some (find (is_of n) items) then None else Some n) (lane_of site lanes)

abbrev pub lanes_without : Option ℕ → List (Numbered Lane) → List (Numbered Lane)
lanes_without None lanes = lanes
lanes_without (Some n) lanes = without_number n lanes
