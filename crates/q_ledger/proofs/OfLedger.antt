-- What holds of the ledger of a recount, since it is that of a ledger in which all fits.
use Rattle.std.proofs.Common.{◌≡◌, true, map, Some, option_map, sym, ap, ◌∙◌, subst}
use Rattle.q_bare.specs.Bare.{bare_book, bare_message}
use Rattle.q_bare.specs.Counts.{Counts}
use Rattle.q_laws.proofs.Distinct.{distinct_parts}
use Rattle.q_laws.proofs.Members.{IsIn, all_at, find_in}
use Rattle.q_laws.proofs.Synced.{admitted_active}
use Rattle.q_laws.specs.Consistency.{are_once}
use Rattle.q_laws.specs.SitesConsistency.{IsSitesConsistent}
use Rattle.q_ledger.proofs.BareLaws.{message_bare}
use Rattle.q_ledger.proofs.HeldLaws.{held_distinct}
use Rattle.q_ledger.specs.Beside.{IsOfLedger}
use Rattle.q_model.proofs.IdLaws.{id_eq-true}
use Rattle.q_model.specs.Book.{Damaged, message_of}
use Rattle.q_model.specs.Ids.{are_distinct, id_eq}
use Rattle.q_model.specs.Ledger.{Ledger}
use Rattle.q_model.specs.Memory.{is_admitted}
use Rattle.q_model.specs.Message.{Message}
use Rattle.q_model.specs.Settings.{World}
use Rattle.q_model.specs.declared.id.Id.{Id}
use Rattle.q_model.specs.declared.rows.Delivery.{Delivery}
use Rattle.q_model.specs.declared.rows.Row.{Row}

-- the message stands in the book, under its own id
pub record IsFound (l : Ledger) (id : Id) : Type 0 where
  pub message : Message
  pub there : message_of l.book id ≡ Some message
  pub name : message.id ≡ id

-- all that fits of sites fits of the bare ledger
pub sites_fit : (w : World) (c : Counts) (b : Ledger) → IsOfLedger w c b → IsSitesConsistent w b
sites_fit w c b h = subst (IsSitesConsistent w) h.bare_ledger (record {
  settings = h.fits.sites.settings;
  apart = h.fits.sites.apart;
  windows = h.fits.sites.windows;
  busy = h.fits.sites.busy;
  kept = h.fits.sites.kept;
  few = h.fits.sites.few;
})

-- no two deliveries have one number
pub numbers_once : (w : World) (c : Counts) (b : Ledger) → IsOfLedger w c b → are_once (map (λ (f : Delivery). f.number) b.flights) ≡ true
numbers_once w c b h = subst (λ (l : Ledger). are_once (map (λ (f : Delivery). f.number) l.flights) ≡ true) h.bare_ledger h.fits.consistent.memory.numbers

-- no two messages have one id
pub messages_once : (w : World) (c : Counts) (b : Ledger) → IsOfLedger w c b → are_distinct (map (λ (m : Message). m.id) b.book.messages) ≡ true
messages_once w c b h = (distinct_parts (map (λ (m : Message). m.id) b.book.messages) (map (λ (d : Damaged). d.id) b.book.damaged) (held_distinct w c b h)).0

-- a message in memory stands in the book
found_admitted : (w : World) (c : Counts) (b : Ledger) (h : IsOfLedger w c b) (id : Id) → is_admitted h.ledger id ≡ true → IsFound b id
found_admitted w c b h id admitted =
    let active = admitted_active w h.ledger id h.fits.consistent admitted in
    let bare_there : message_of (bare_book h.ledger.book) id ≡ Some (bare_message active.0) = message_bare h.ledger.book id ∙ ap (option_map bare_message) active.1.there in
    let there : message_of b.book id ≡ Some (bare_message active.0) = ap (λ (l : Ledger). message_of l.book id) (sym h.bare_ledger) ∙ bare_there in
    record { message = bare_message active.0; there = there; name = id_eq-true (bare_message active.0).id id (find_in (λ (m : Message). id_eq m.id id) (bare_message active.0) b.book.messages there).1 }

-- the message of a delivery does
pub flight_found : (w : World) (c : Counts) (b : Ledger) → IsOfLedger w c b → (f : Delivery) → IsIn f b.flights → IsFound b f.row.id
flight_found w c b h f inside =
    let there : IsIn f h.ledger.flights = subst (λ (l : Ledger). IsIn f l.flights) (sym h.bare_ledger) inside in
    found_admitted w c b h f.row.id (all_at (λ (g : Delivery). is_admitted h.ledger g.row.id) f h.ledger.flights h.fits.consistent.memory.flights there)

-- so does the message of a row that waits
pub row_found : (w : World) (c : Counts) (b : Ledger) → IsOfLedger w c b → (r : Row) → IsIn r b.waiting → IsFound b r.id
row_found w c b h r inside =
    let there : IsIn r h.ledger.waiting = subst (λ (l : Ledger). IsIn r l.waiting) (sym h.bare_ledger) inside in
    found_admitted w c b h r.id (all_at (λ (x : Row). is_admitted h.ledger x.id) r h.ledger.waiting h.fits.consistent.memory.waiting there)
