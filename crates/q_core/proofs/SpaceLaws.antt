-- The outcomes of recipients in memory have space.
use Rattle.std.proofs.Common.{◌≡◌, ℕ, ◌+◌, ◌-◌, ◌≤◌, Bool, true, List, length, sym, ap, ◌∙◌, arith, Some}
use Rattle.std.proofs.lemmas.Bool.{le-leb, leb-true}
use Rattle.std.proofs.lemmas.Bool.Decides.{nat_tests}
use Rattle.std.specs.Prelude.{◌==◌, find, nat_le}
use Rattle.q_core.proofs.DroppedLaws.{sum_by-drop_first}
use Rattle.q_core.specs.Agrees.{Agrees}
use Rattle.q_core.specs.Held.{have_space}
use Rattle.q_core.specs.Queries.{flight_in}
use Rattle.q_core.specs.declared.state.Core.{Core}
use Rattle.q_model.specs.Ledger.{Ledger}
use Rattle.q_model.specs.Settings.{Settings, World}
use Rattle.q_model.specs.declared.rows.Delivery.{Delivery}
use Rattle.q_model.specs.declared.rows.Row.{Row}
use Rattle.q_model.specs.declared.rows.Unsettled.{Unsettled}
use Rattle.q_queue.specs.Queued.{Queued}

spare_fits : (n room used : ℕ) → used ≤ room → nat_le n (room - used) ≡ nat_le (used + n) room
spare_fits n room used within = grind (arith, nat_tests)

-- so many outcomes and recipients are within the limit, which those of all rows and deliveries are
has_space : {w : World} {c : Core} {l : Ledger} → Agrees w c l → (ps : List ℕ) → length l.unsettled + length ps ≤ w.settings.recipient_limit → have_space c ps ≡ true
has_space {w = w} {c = c} {l = l} a ps few =
    let us = ap (λ (xs : List Unsettled). length xs) a.matches.parts.unsettled in
    let limit = ap (λ (p : Settings). p.recipient_limit) a.matches.parts.settings in
    le-leb (length c.unsettled + length ps) c.params.recipient_limit (omega (arith, few, us, limit))

-- those of a row that waits
pub row_has_space : {w : World} {c : Core} {l : Ledger} → Agrees w c l → (p : Row → Bool) (r : Row) → find p l.waiting ≡ Some r → have_space c r.positions ≡ true
row_has_space {w = w} {l = l} a p r found =
    let whole = sum_by-drop_first (λ (x : Row). length x.positions) p r l.waiting found in
    has_space a r.positions (omega (arith, whole, a.consistent.memory.recipients))

-- those of a delivery in flight
pub flight_has_space : {w : World} {c : Core} {l : Ledger} → Agrees w c l → (number : ℕ) (f : Delivery) → flight_in c number ≡ Some f → have_space c f.row.positions ≡ true
flight_has_space {w = w} {l = l} a number f found =
    let there = ap (find (λ (x : Delivery). x.number == number)) (sym a.matches.parts.flights) ∙ found in
    let whole = sum_by-drop_first (λ (x : Delivery). length x.row.positions) (λ (x : Delivery). x.number == number) f l.flights there in
    has_space a f.row.positions (omega (arith, whole, a.consistent.memory.recipients))

-- The queue of a core has room for as many outcomes as recipients may be in memory.
module _ (c : Core) (q : Queued Unsettled) (ps : List ℕ) (is : c.unsettled ≡ q.items) (room : q.room ≡ c.params.recipient_limit) where
  -- where there is space, it has room
  pub made_space : have_space c ps ≡ true → length q.items + length ps ≤ q.room
  made_space space =
      let fits = leb-true (length c.unsettled + length ps) c.params.recipient_limit space in
      let many = ap (λ (us : List Unsettled). length us) is in
      omega (arith, fits, many, room)

  -- there is space for no more than are spare
  pub spare_space : length q.items ≤ q.room → nat_le (length ps) (q.room - length q.items) ≡ have_space c ps
  spare_space within = spare_fits (length ps) q.room (length q.items) within ∙ ap (nat_le (length q.items + length ps)) room ∙ ap (λ (us : List Unsettled). nat_le (length us + length ps) c.params.recipient_limit) (sym is)
