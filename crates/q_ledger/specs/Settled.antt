-- How a delivery ends: what its outcomes need is unsettled, its site has heard of it, and it is in flight
-- no more.
use Rattle.std.specs.Option.{option_map_or}
use Rattle.std.specs.Prelude.{◌++◌, ◌==◌, Bool, false, filter, length, List, map, not, Some, ℕ}
use Rattle.q_ledger.specs.Counting.{count_changed}
use Rattle.q_ledger.specs.Needs.{needs_in}
use Rattle.q_ledger.specs.State.{State}
use Rattle.q_ledger.specs.Windows.{heard_at}
use Rattle.q_model.specs.Book.{message_of}
use Rattle.q_model.specs.Deliveries.{busy, flight_of}
use Rattle.q_model.specs.Ledger.{Ledger}
use Rattle.q_model.specs.Settings.{World}
use Rattle.q_model.specs.Times.{is_expired}
use Rattle.q_model.specs.Values.{Site, SiteRecord}
use Rattle.q_model.specs.declared.id.Id.{Id}
use Rattle.q_model.specs.declared.outcome.Outcome.{Outcome}
use Rattle.q_model.specs.declared.outcome.SiteState.{SiteState}
use Rattle.q_model.specs.declared.rows.Delivery.{Delivery}
use Rattle.q_model.specs.declared.rows.Unsettled.{Unsettled}

-- the message has reached its lifetime
abbrev pub is_old_in : World → Ledger → Id → Bool
is_old_in w l id = option_map_or (is_expired w l.now) (message_of l.book id) false

-- what the outcomes of a delivery need
abbrev pub outcomes_need : World → Ledger → Delivery → List Outcome → List Unsettled
outcomes_need w l f outcomes = needs_in (is_old_in w l f.row.id) f.row.id f.row.positions outcomes

-- these needs are unsettled
abbrev pub with_unsettled : List Unsettled → State → State
with_unsettled us c = record c { ledger = record c.ledger { unsettled = c.ledger.unsettled ++ us } }

-- the records of sites are these
abbrev pub with_sites : List SiteRecord → State → State
with_sites rs c = record c { ledger = record c.ledger { sites = rs } }

-- the records, where a delivery to the site replied, which is still counted in flight
abbrev pub sites_heard : World → Ledger → Site → SiteState → List SiteRecord
sites_heard w l site state = map (heard_at w.settings site (busy l site) l.now state) l.sites

-- the delivery of this number is in flight no more
abbrev pub without_flight : ℕ → State → State
without_flight number c = record c { ledger = record c.ledger { flights = filter (λ f. not (f.number == number)) c.ledger.flights } }

-- a row has left the site
abbrev pub with_left : Site → State → State
with_left site c = record c { left = Some site }

-- the delivery is over: its outcomes are unsettled, and its site has heard of it
abbrev pub landed_in : World → State → SiteState → List Outcome → Delivery → State
landed_in w c state outcomes f = record c {
  ledger = record c.ledger {
    flights = filter (λ g. not (g.number == f.number)) c.ledger.flights;
    sites = sites_heard w c.ledger f.row.site state;
    unsettled = c.ledger.unsettled ++ outcomes_need w c.ledger f outcomes;
  };
  slots = map (count_changed f.row.id (length (outcomes_need w c.ledger f outcomes)) 1) c.slots;
  left = Some f.row.site;
}

-- the same by its number; where it isn't in flight, nothing changes
abbrev pub replied_in : World → State → ℕ → SiteState → List Outcome → State
replied_in w c number state outcomes =
    option_map_or (landed_in w c state outcomes) (flight_of c.ledger number) c
