-- A reply that is allowed makes of the ledger what it is to be.
use Rattle.std.proofs.Common.{◌≡◌, ℕ, ◌+◌, ◌-◌, ◌^◌, ◌≤◌, true, false, cond, not, List, ◌++◌, length, map, min, filter, Option, Some, None, option_map, refl, sym, ap, ◌∙◌, arith, eqb-true}
use Rattle.std.proofs.lemmas.List.Sums.{count_by-le-length}
use Rattle.std.specs.Option.{option_map_or}
use Rattle.std.specs.Prelude.{◌&&◌, ◌==◌}
use Rattle.q_bare.specs.Bare.{bare}
use Rattle.q_bare.specs.CountedRows.{may_by}
use Rattle.q_bare.specs.Counts.{Counts}
use Rattle.q_laws.proofs.Distinct.{id_eq-sym}
use Rattle.q_laws.proofs.Members.{IsIn, find_in}
use Rattle.q_laws.proofs.Sites.{limit_is}
use Rattle.q_ledger.proofs.BareChanges.{still_bare}
use Rattle.q_ledger.proofs.CountedLaws.{counted_rows}
use Rattle.q_ledger.proofs.HeldLaws.{held_bare}
use Rattle.q_ledger.proofs.NeedsLaws.{needs_same}
use Rattle.q_ledger.proofs.OfLedger.{IsFound, flight_found, numbers_once, sites_fit}
use Rattle.q_ledger.proofs.QuietLaws.{quiet}
use Rattle.q_ledger.proofs.RowCounts.{count_append, needs_counted, one_ends}
use Rattle.q_ledger.proofs.WindowLaws.{heard_law}
use Rattle.q_ledger.specs.Beside.{IsBeside, IsOfLedger, rows_in}
use Rattle.q_ledger.specs.Needs.{needs_in}
use Rattle.q_ledger.specs.Settled.{is_old_in, landed_in, outcomes_need, replied_in, sites_heard, with_left, with_sites, with_unsettled, without_flight}
use Rattle.q_ledger.specs.Counting.{count_changed, rows_counted}
use Rattle.q_ledger.specs.State.{State}
use Rattle.q_ledger.specs.Taking.{IsChanged, rows_tidied}
use Rattle.q_model.proofs.IdLaws.{id_eq-refl}
use Rattle.q_model.specs.Deliveries.{flight_of}
use Rattle.q_model.specs.Ids.{id_eq}
use Rattle.q_model.specs.Ledger.{Ledger}
use Rattle.q_model.specs.Replies.{after_reply, fits_state, landed, replied}
use Rattle.q_model.specs.Settings.{World}
use Rattle.q_model.specs.Settling.{needs_of}
use Rattle.q_model.specs.Times.{is_expired}
use Rattle.q_model.specs.Values.{SiteRecord}
use Rattle.q_model.specs.Windows.{after_state}
use Rattle.q_model.specs.declared.entry.Entry.TheVariants as entries
use Rattle.q_model.specs.declared.id.Id.{Id}
use Rattle.q_model.specs.declared.outcome.Outcome.{Outcome}
use Rattle.q_model.specs.declared.outcome.SiteState.{SiteState}
use Rattle.q_model.specs.declared.rows.Delivery.{Delivery}
use Rattle.q_model.specs.declared.rows.Row.{Row}
use Rattle.q_model.specs.declared.rows.Unsettled.{Unsettled}

-- the ledger with these deliveries, records and outcomes
abbrev settled : Ledger → List Delivery → List SiteRecord → List Unsettled → Ledger
settled l fs rs us = record l { flights = fs; sites = rs; unsettled = us }

abbrev others : Delivery → List Delivery → List Delivery
others f fs = filter (λ (g : Delivery). not (g.number == f.number)) fs

-- what the outcomes need by the message is what they need by its age
need_law : (w : World) (l : Ledger) (f : Delivery) (os : List Outcome) (m : IsFound l f.row.id) → outcomes_need w l f os ≡ needs_of w l.now m.message f.row.positions os
need_law w l f os m =
    ap (λ o. needs_in (option_map_or (is_expired w l.now) o false) f.row.id f.row.positions os) m.there
    ∙ ap (λ (i : Id). needs_in (is_expired w l.now m.message) i f.row.positions os) (sym m.name)
    ∙ needs_same w l.now m.message f.row.positions os

-- the ledger after the reply of a delivery that is in flight
reply_at : (w : World) (l : Ledger) (number : ℕ) (state : SiteState) (os : List Outcome) (f : Delivery) (m : IsFound l f.row.id) → flight_of l number ≡ Some f →
    after_reply w l number state os ≡ settled l (others f l.flights) (after_state w l f.row.site state) (l.unsettled ++ needs_of w l.now m.message f.row.positions os)
reply_at w l number state os f m e =
    ap (λ o. option_map_or (λ (g : Delivery). replied w l state os g) o l) e
    ∙ ap (λ o. option_map_or (λ x. record (landed w l state f) { unsettled = l.unsettled ++ needs_of w l.now x f.row.positions os }) o (landed w l state f)) m.there

ledger_law : (w : World) (c : Counts) (s : State) (number : ℕ) (state : SiteState) (os : List Outcome) (f : Delivery) → IsOfLedger w c s.ledger → IsFound s.ledger f.row.id → flight_of s.ledger number ≡ Some f →
    (landed_in w s state os f).ledger ≡ rows_tidied (bare (after_reply w s.ledger number state os))
ledger_law w c s number state os f h m e =
    let l = s.ledger in
    let fit = sites_fit w c l h in
    let us = l.unsettled ++ needs_of w l.now m.message f.row.positions os in
    let k = settled l (others f l.flights) (after_state w l f.row.site state) us in
    let here : (landed_in w s state os f).ledger ≡ k =
    ap (λ ns. settled l (others f l.flights) (sites_heard w l f.row.site state) (l.unsettled ++ ns)) (need_law w l f os m)
    ∙ ap (λ rs. settled l (others f l.flights) rs us) (heard_law w l f.row.site (limit_is w fit.settings).1 fit.windows state) in
    let bare_is : bare k ≡ k = still_bare l k (held_bare w c l h) (ap (λ (x : Ledger). x.book) (held_bare w c l h)) refl in
    here ∙ sym (quiet w c l k h refl refl refl (λ id. refl))
    ∙ sym (ap rows_tidied (ap bare (reply_at w l number state os f m e) ∙ bare_is))

-- ---- the counts

abbrev rows_by : Ledger → List Delivery → List Unsettled → Id → ℕ
rows_by l fs us i = rows_in (settled l fs l.sites us) i

other_rows : (w : World) (c : Counts) (l : Ledger) (f : Delivery) (os : List Outcome) → IsOfLedger w c l → IsIn f l.flights → (i : Id) → id_eq f.row.id i ≡ false →
    rows_by l (others f l.flights) (l.unsettled ++ outcomes_need w l f os) i ≡ rows_in l i
other_rows w c l f os h inside i apart =
    let a = one_ends (λ (g : Delivery). id_eq g.row.id i) f l.flights (numbers_once w c l h) inside in
    let none : ◌≡◌ {A = ℕ} (cond (id_eq f.row.id i) 1 0) 0 = ap (λ b. cond b 1 0) apart in
    let b = count_append (λ (u : Unsettled). id_eq u.id i) l.unsettled (outcomes_need w l f os) in
    let n = needs_counted (is_old_in w l f.row.id) f.row.id i f.row.positions os false apart in
    omega (arith, a, none, b, n)

same_rows : (w : World) (c : Counts) (l : Ledger) (f : Delivery) (os : List Outcome) → IsOfLedger w c l → IsIn f l.flights →
    length l.waiting + length l.flights + length l.unsettled + length (outcomes_need w l f os) ≤ 2 ^ 128 - 1 →
    rows_by l (others f l.flights) (l.unsettled ++ outcomes_need w l f os) f.row.id ≡ min (rows_in l f.row.id + length (outcomes_need w l f os)) (2 ^ 128 - 1) - 1
same_rows w c l f os h inside few =
    let i = f.row.id in
    let us = outcomes_need w l f os in
    let mine : id_eq i i ≡ true = id_eq-refl i in
    let a = one_ends (λ (g : Delivery). id_eq g.row.id i) f l.flights (numbers_once w c l h) inside in
    let one : ◌≡◌ {A = ℕ} (cond (id_eq i i) 1 0) 1 = ap (λ b. cond b 1 0) mine in
    let b = count_append (λ (u : Unsettled). id_eq u.id i) l.unsettled us in
    let n = needs_counted (is_old_in w l i) i i f.row.positions os true mine in
    let x = count_by-le-length (λ (r : Row). id_eq r.id i) l.waiting in
    let y = count_by-le-length (λ (g : Delivery). id_eq g.row.id i) l.flights in
    let z = count_by-le-length (λ (u : Unsettled). id_eq u.id i) l.unsettled in
    let fits : rows_in l i + length us ≤ 2 ^ 128 - 1 = omega (arith, x, y, z, few) in
    let free : min (rows_in l i + length us) (2 ^ 128 - 1) ≡ rows_in l i + length us = omega (arith, fits) in
    omega (arith, a, one, b, n, free)

turned : (a b : Id) → id_eq b a ≡ false → id_eq a b ≡ false
turned a b h = id_eq-sym b a h

landed_law : (w : World) (c : Counts) (s : State) (number : ℕ) (state : SiteState) (os : List Outcome) (f : Delivery) → IsOfLedger w c s.ledger → IsBeside s → flight_of s.ledger number ≡ Some f →
    length s.ledger.waiting + length s.ledger.flights + length s.ledger.unsettled + length (outcomes_need w s.ledger f os) ≤ 2 ^ 128 - 1 →
    IsChanged w s.ledger (entries.Reply number state os) (landed_in w s state os f)
landed_law w c s number state os f h beside e few =
    let inside = (find_in (λ (g : Delivery). g.number == number) f s.ledger.flights e).0 in
    let m = flight_found w c s.ledger h f inside in
    record {
      ledger = ledger_law w c s number state os f h m e;
      counted = counted_rows s (landed_in w s state os f) f.row.id (length (outcomes_need w s.ledger f os)) 1 beside.counted refl refl (λ i. refl)
          (λ i apart. other_rows w c s.ledger f os h inside i (turned f.row.id i apart)) (same_rows w c s.ledger f os h inside few);
      leftovers = beside.leftovers;
      left = sym (ap (option_map (λ (g : Delivery). g.row.site)) e);
    }

reply_on : (w : World) (c : Counts) (s : State) (number : ℕ) (state : SiteState) (os : List Outcome) (o : Option Delivery) → IsOfLedger w c s.ledger → IsBeside s → flight_of s.ledger number ≡ o →
    option_map_or (λ (f : Delivery). (length os == length f.row.positions) && fits_state state os) o false ≡ true →
    ((f : Delivery) → o ≡ Some f → length s.ledger.waiting + length s.ledger.flights + length s.ledger.unsettled + length (outcomes_need w s.ledger f os) ≤ 2 ^ 128 - 1) →
    IsChanged w s.ledger (entries.Reply number state os) (option_map_or (landed_in w s state os) o s)
reply_on w c s number state os None h beside e may few = absurd cc
reply_on w c s number state os (Some f) h beside e may few = landed_law w c s number state os f h beside e (few f refl)

-- a reply that is allowed, where what is unsettled then can be counted
pub reply_changes : (w : World) (c : Counts) (s : State) (number : ℕ) (state : SiteState) (os : List Outcome) → IsOfLedger w c s.ledger → IsBeside s →
    may_by c w s.ledger (entries.Reply number state os) ≡ true →
    ((f : Delivery) → flight_of s.ledger number ≡ Some f → length s.ledger.waiting + length s.ledger.flights + length s.ledger.unsettled + length (outcomes_need w s.ledger f os) ≤ 2 ^ 128 - 1) →
    IsChanged w s.ledger (entries.Reply number state os) (replied_in w s number state os)
reply_changes w c s number state os h beside may few = reply_on w c s number state os (flight_of s.ledger number) h beside refl may few

-- ---- the steps of a reply

abbrev stepped : World → State → SiteState → Delivery → List Unsettled → ℕ → ℕ → State
stepped w s state f us n number = record s {
  ledger = record s.ledger {
    flights = filter (λ (g : Delivery). not (g.number == number)) s.ledger.flights;
    sites = sites_heard w s.ledger f.row.site state;
    unsettled = s.ledger.unsettled ++ us;
  };
  slots = map (count_changed f.row.id n 1) s.slots;
  left = Some f.row.site;
}

pub reply_steps : (w : World) (s : State) (number : ℕ) (state : SiteState) (os : List Outcome) (f : Delivery) (us : List Unsettled) (n : ℕ) → flight_of s.ledger number ≡ Some f → us ≡ outcomes_need w s.ledger f os → n ≡ length us →
    with_left f.row.site (rows_counted f.row.id n 1 (without_flight number (with_sites (sites_heard w (with_unsettled us s).ledger f.row.site state) (with_unsettled us s)))) ≡ replied_in w s number state os
reply_steps w s number state os f us n e needs count =
    let same : number ≡ f.number = sym (eqb-true f.number number (find_in (λ (g : Delivery). g.number == number) f s.ledger.flights e).1) in
    ap (λ k. stepped w s state f us k number) count
    ∙ ap (λ vs. stepped w s state f vs (length vs) number) needs
    ∙ ap (stepped w s state f (outcomes_need w s.ledger f os) (length (outcomes_need w s.ledger f os))) same
    ∙ sym (ap (λ o. option_map_or (landed_in w s state os) o s) e)
