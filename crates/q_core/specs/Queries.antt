-- What the core tells of deliveries and of lifetimes.
use Rattle.std.specs.Option.{option_map_or}
use Rattle.std.specs.Prelude.{[], ◌∷◌, slice_get, List, Some, None, ◌-◌, ◌==◌, Bool, false, find, if◌then◌else◌, nat_le, Option, ℕ}
use Rattle.q_model.specs.declared.id.Id.{Id}
use Rattle.q_model.specs.declared.rows.Delivery.{Delivery}
use Rattle.q_model.specs.Sites.{site_eq}
use Rattle.q_model.specs.Values.{Site, SiteRecord}
use Rattle.q_core.specs.Held.{slot_in}
use Rattle.q_pool.specs.declared.slot.Slot.{Slot}
use Rattle.q_core.specs.declared.state.Core.{Core}

-- a message and a site
pub record Flight : Type 0 where
  pub id : Id
  pub site : Site

-- the delivery of this number
abbrev pub flight_in : Core → ℕ → Option Delivery
flight_in c number = find (λ f. f.number == number) c.flights

-- what is told of a delivery
abbrev pub flight_shown : Delivery → Flight
flight_shown f = record { id = f.row.id; site = f.row.site }

-- the message has reached its lifetime
abbrev pub slot_expired_in : Core → Slot → Bool
slot_expired_in c s = nat_le (if s.null_sender then c.params.bounce_lifetime else c.params.lifetime)
    (c.clock.seconds - s.arrival)

-- the same by id
abbrev pub expired_in : Core → Id → Bool
expired_in c id = option_map_or (λ s. slot_expired_in c s) (slot_in c id) false

-- the positions of the row that was put off last, by its number
abbrev pub skipped_in : Core → ℕ → Option (List ℕ)
skipped_in c entry = if c.skips == entry then Some c.skipped else None

-- the records behind that of a site
abbrev pub records_behind : Site → List SiteRecord → List SiteRecord
records_behind site [] = []
records_behind site (r ∷ rs) = if site_eq r.site site then rs else records_behind site rs

-- the first of them
abbrev pub record_behind : Site → List SiteRecord → Option SiteRecord
record_behind site rs = slice_get (records_behind site rs) 0
