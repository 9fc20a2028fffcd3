-- Deliveries in flight, counted by transport and by site.
use Rattle.std.specs.List.{list_any}
use Rattle.std.specs.Prelude.{◌==◌, Bool, count_by, find, Option, ℕ}
use Rattle.q_model.specs.declared.rows.Delivery.{Delivery}
use Rattle.q_model.specs.Sites.{site_eq}
use Rattle.q_model.specs.Ledger.{Ledger}
use Rattle.q_model.specs.Values.{Site}

-- the deliveries in flight at a transport
abbrev pub flights_of : Ledger → ℕ → ℕ
flights_of l transport = count_by (λ f. f.row.site.transport == transport) l.flights

-- the deliveries in flight at a site
abbrev pub busy : Ledger → Site → ℕ
busy l site = count_by (λ f. site_eq f.row.site site) l.flights

-- recipients wait at the site
abbrev pub waits_at : Ledger → Site → Bool
waits_at l site = list_any (λ r. site_eq r.site site) l.waiting

-- the delivery of this number
abbrev pub flight_of : Ledger → ℕ → Option Delivery
flight_of l number = find (λ f. f.number == number) l.flights
