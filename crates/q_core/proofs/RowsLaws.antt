-- Rows leave, and what their recipients need is added.
use Rattle.std.proofs.Common.{◌≡◌, ℕ, ◌+◌, true, false, List, ◌++◌, length, refl, sym, ap, ◌∙◌, subst, Option, Some, None, sum_by}
use Rattle.std.specs.List.{list_all}
use Rattle.std.specs.Option.{option_map_or}
use Rattle.std.specs.Prelude.{find}
use Rattle.q_core.proofs.AgreesLaws.{same_admitted}
use Rattle.q_core.proofs.ExpiryLaws.{expiry_law}
use Rattle.q_core.proofs.ListLaws.{find-all, find-none, find-passes}
use Rattle.q_core.proofs.NameLaws.{id_eq-true}
use Rattle.q_core.proofs.NeedsLaws.{needs_same}
use Rattle.q_core.proofs.StepLaws.{HoldsRaw, IsStillSeen}
use Rattle.q_core.specs.Agrees.{AgreesButScan}
use Rattle.q_core.specs.Needs.{needs_in}
use Rattle.q_core.specs.Queries.{expired_in}
use Rattle.q_core.specs.declared.state.Core.{Core}
use Rattle.q_core.specs.declared.state.Seen.{Seen}
use Rattle.q_core.specs.declared.state.Seen.TheVariants.{Known, Unknown}
use Rattle.q_laws.specs.Consistency.{is_present}
use Rattle.q_model.specs.Book.{message_of}
use Rattle.q_model.specs.Ids.{id_eq}
use Rattle.q_model.specs.Ledger.{Ledger}
use Rattle.q_model.specs.Memory.{is_admitted}
use Rattle.q_model.specs.Message.{Message}
use Rattle.q_model.specs.Places.{is_active}
use Rattle.q_model.specs.Settings.{World}
use Rattle.q_model.specs.Settling.{needs_of, with_outcomes}
use Rattle.q_model.specs.Times.{is_expired}
use Rattle.q_model.specs.declared.id.Id.{Id}
use Rattle.q_model.specs.declared.outcome.Outcome.{Outcome}
use Rattle.q_model.specs.declared.rows.Admitted.{Admitted}
use Rattle.q_model.specs.declared.rows.Delivery.{Delivery}
use Rattle.q_model.specs.declared.rows.Row.{Row}
use Rattle.q_model.specs.declared.rows.Unsettled.{Unsettled}

still_rows : (seen : Seen) (l : Ledger) (ws : List Row) (fs : List Delivery) (us : List Unsettled) → IsStillSeen seen l → IsStillSeen seen (record l { waiting = ws; flights = fs; unsettled = us })
still_rows Unknown l ws fs us h = tt
still_rows (Known found) l ws fs us h = h

-- the lists of recipients in memory
pub record HasRows (d : Core) (ws : List Row) (fs : List Delivery) (us : List Unsettled) : Type 0 where
  pub waiting : d.waiting ≡ ws
  pub flights : d.flights ≡ fs
  pub unsettled : d.unsettled ≡ us
  pub memory : d.in_memory ≡ sum_by (λ r. length r.positions) ws + sum_by (λ f. length f.row.positions) fs + length us

-- they are set in both
pub rows_law : {w : World} {c d : Core} {l : Ledger} (ws : List Row) (fs : List Delivery) (us : List Unsettled) → HoldsRaw w c l →
    d ≡ record c { waiting = d.waiting; flights = d.flights; unsettled = d.unsettled; in_memory = d.in_memory } → HasRows d ws fs us → HoldsRaw w d (record l { waiting = ws; flights = fs; unsettled = us })
rows_law {w = w} {c = c} {d = d} {l = l} ws fs us r rest rows =
    let h = r.parts in
    let later : Ledger = record l { waiting = ws; flights = fs; unsettled = us } in
    let kept : AgreesButScan w (record c { waiting = d.waiting; flights = d.flights; unsettled = d.unsettled; in_memory = d.in_memory }) later = record {
      settings = h.settings;
      count = h.count;
      transports = h.transports;
      mode = h.mode;
      clock = h.clock;
      timed = h.timed;
      next_run = h.next_run;
      ignores = h.ignores;
      deferred_follows = h.deferred_follows;
      admitted = h.admitted;
      waiting = rows.waiting;
      flights = rows.flights;
      memory = rows.memory;
      served = h.served;
      unsettled = rows.unsettled;
      lines = h.lines;
      sites = h.sites;
      synced = h.synced;
      starts = h.starts;
      active = h.active;
      incoming = h.incoming;
    } in
    let raw : HoldsRaw w (record c { waiting = d.waiting; flights = d.flights; unsettled = d.unsettled; in_memory = d.in_memory }) later =
    record { parts = kept; scan = r.scan; asked = r.asked; seen = still_rows c.deferred l ws fs us r.seen } in
    subst (λ k. HoldsRaw w k later) (sym rest) raw

stands_on : (o : Option Message) → option_map_or (λ m. is_active m.place) o false ≡ true → (m : Message) × (o ≡ Some m)
stands_on None h = cc
stands_on (Some m) h = (m, refl)

stands_at : (l : Ledger) (id : Id) → is_admitted l id ≡ true → list_all (is_present l) l.admitted ≡ true → (o : Option Admitted) → find (λ a. id_eq a.id id) l.admitted ≡ o → (m : Message) × (message_of l.book id ≡ Some m)
stands_at l id there present None f = let bad : false ≡ true = sym (find-none (λ (a : Admitted). id_eq a.id id) l.admitted f) ∙ there in cc
stands_at l id there present (Some a) f =
    let same = id_eq-true a.id id (find-passes (λ (x : Admitted). id_eq x.id id) l.admitted a f) in
    stands_on (message_of l.book id) (ap (λ k. option_map_or (λ m. is_active m.place) (message_of l.book k) false) (sym same) ∙ find-all (λ (x : Admitted). id_eq x.id id) (is_present l) l.admitted a present f)

-- a message in memory is in the book
pub stands : (l : Ledger) (id : Id) → is_admitted l id ≡ true → list_all (is_present l) l.admitted ≡ true → (m : Message) × (message_of l.book id ≡ Some m)
stands l id there present = stands_at l id there present (find (λ a. id_eq a.id id) l.admitted) refl

-- the needs of outcomes are the ledger's
pub needs_law : {w : World} {c : Core} {l : Ledger} → AgreesButScan w c l → (id : Id) (m : Message) → is_admitted l id ≡ true → message_of l.book id ≡ Some m → (ps : List ℕ) (os : List Outcome) →
    needs_in (expired_in c id) id ps os ≡ needs_of w l.now m ps os
needs_law {w = w} {c = c} {l = l} h id m there e ps os =
    let name : m.id ≡ id = id_eq-true m.id id (find-passes (λ (x : Message). id_eq x.id id) l.book.messages m e) in
    ap (λ b. needs_in b id ps os) (expiry_law h id m (same_admitted h id ∙ there) e)
    ∙ ap (λ i. needs_in (is_expired w l.now m) i ps os) (sym name)
    ∙ needs_same w l.now m ps os

-- outcomes are settled where the message is in the book
pub with_outcomes_is : (w : World) (id : Id) (ps : List ℕ) (os : List Outcome) (l : Ledger) (m : Message) → message_of l.book id ≡ Some m → with_outcomes w id ps os l ≡ record l { unsettled = l.unsettled ++ needs_of w l.now m ps os }
with_outcomes_is w id ps os l m e = ap (λ o. option_map_or (λ x. record l { unsettled = l.unsettled ++ needs_of w l.now x ps os }) o l) e
