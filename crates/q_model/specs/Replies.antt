-- Entry `reply`: a delivery ends.
use Rattle.std.specs.List.{list_all}
use Rattle.std.specs.Option.{option_map_or}
use Rattle.std.specs.Prelude.{◌&&◌, ◌==◌, Bool, false, filter, length, List, not, true, ℕ}
use Rattle.q_model.specs.declared.outcome.Outcome.{Outcome}
use Rattle.q_model.specs.declared.outcome.SiteState.{SiteState}
use Rattle.q_model.specs.declared.outcome.SiteState.TheVariants.{Down, Up}
use Rattle.q_model.specs.declared.rows.Delivery.{Delivery}
use Rattle.q_model.specs.Deliveries.{flight_of}
use Rattle.q_model.specs.Ledger.{Ledger}
use Rattle.q_model.specs.Settings.{World}
use Rattle.q_model.specs.Settling.{with_outcomes}
use Rattle.q_model.specs.Windows.{after_state}
use Rattle.q_model.specs.declared.outcome.Outcome.TheVariants as outcomes

-- the recipient is put off
abbrev pub is_later : Outcome → Bool
is_later outcomes.Ok = false
is_later (outcomes.Later code) = true
is_later (outcomes.Never code) = false

-- a site that was not reached gives no other outcome than a delay
abbrev pub fits_state : SiteState → List Outcome → Bool
fits_state Up outcomes = true
fits_state Down outcomes = list_all is_later outcomes

-- the delivery is in flight, with one outcome for each of its recipients
abbrev pub may_reply : Ledger → ℕ → SiteState → List Outcome → Bool
may_reply l number state outcomes =
    option_map_or (λ f. (length outcomes == length f.row.positions) && fits_state state outcomes)
    (flight_of l number) false

-- the delivery is over, and its site has heard of it
abbrev pub landed : World → Ledger → SiteState → Delivery → Ledger
landed w l state f =
    record l { flights = filter (λ g. not (g.number == f.number)) l.flights; sites = after_state w l f.row.site state }

-- the delivery is over, and its outcomes are settled
abbrev pub replied : World → Ledger → SiteState → List Outcome → Delivery → Ledger
replied w l state outcomes f = with_outcomes w f.row.id f.row.positions outcomes (landed w l state f)

-- the same by the number of the delivery
abbrev pub after_reply : World → Ledger → ℕ → SiteState → List Outcome → Ledger
after_reply w l number state outcomes = option_map_or (λ f. replied w l state outcomes f) (flight_of l number) l
