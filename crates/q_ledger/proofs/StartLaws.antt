-- A start that is allowed makes of the ledger what it is to be.
use Rattle.std.proofs.Common.{◌≡◌, ℕ, ◌+◌, Bool, true, false, cond, not, List, [], ◌∷◌, filter, find, Option, Some, None, refl, sym, ap, ◌∙◌, arith}
use Rattle.std.proofs.lemmas.Bool.{and_from, and_parts, or_left, or_right}
use Rattle.std.specs.List.{list_all, list_any}
use Rattle.std.specs.Option.{option_map_or}
use Rattle.std.specs.Prelude.{◌&&◌, ◌||◌, ◌==◌}
use Rattle.q_bare.specs.Bare.{bare}
use Rattle.q_bare.specs.CountedRows.{may_by}
use Rattle.q_bare.specs.Counts.{Counts}
use Rattle.q_fronts.specs.Fitting.{is_awaited}
use Rattle.q_laws.proofs.Delivered.{this_row}
use Rattle.q_laws.proofs.Members.{all_filtered, all_weaker, any_from, any_in, find_in}
use Rattle.q_ledger.proofs.BareChanges.{still_bare}
use Rattle.q_ledger.proofs.CountedLaws.{counted_still}
use Rattle.q_ledger.proofs.HeldLaws.{held_bare}
use Rattle.q_ledger.proofs.ListLaws.{find-none}
use Rattle.q_ledger.proofs.PartLaws.{none_dropped, sum_dropped}
use Rattle.q_ledger.proofs.QuietLaws.{bare_tidy}
use Rattle.q_ledger.proofs.RowCounts.{count_append, count_cons}
use Rattle.q_ledger.proofs.TidiedRows.{IsRowGone, state_tidied}
use Rattle.q_ledger.specs.Beside.{IsBeside, IsCounted, IsOfLedger, rows_in}
use Rattle.q_ledger.specs.Changed.{with_ledger}
use Rattle.q_ledger.specs.LinesLeft.{is_served_at, with_lines_left, with_served_left}
use Rattle.q_ledger.specs.Sent.{sent, sent_in, served_now, started_in}
use Rattle.q_ledger.specs.State.{State}
use Rattle.q_ledger.specs.Taking.{IsChanged, rows_tidied}
use Rattle.q_model.proofs.IdLaws.{id_eq-refl, site_eq-refl}
use Rattle.q_model.specs.Ids.{id_eq}
use Rattle.q_model.specs.Ledger.{Ledger}
use Rattle.q_model.specs.Lists.{drop_first}
use Rattle.q_model.specs.Settings.{World}
use Rattle.q_model.specs.Sites.{site_eq}
use Rattle.q_model.specs.Startable.{is_startable}
use Rattle.q_model.specs.Starts.{after_start, is_row}
use Rattle.q_model.specs.Values.{Served, Site}
use Rattle.q_model.specs.declared.entry.Entry.TheVariants as entries
use Rattle.q_model.specs.declared.id.Id.{Id}
use Rattle.q_model.specs.declared.rows.Delivery.{Delivery}
use Rattle.q_model.specs.declared.rows.Row.{Row}

-- a delivery of this number
abbrev flight : ℕ → Row → Delivery
flight number r = record { number = number; row = r }

-- ---- the row that is sent

row_is : (id : Id) (site : Site) (positions : List ℕ) (r : Row) → is_row id site positions r ≡ true → r ≡ record { id = id; site = site; positions = positions }
row_is id site positions r h =
    let this = this_row id site positions r h in
    ap (λ (i : Id). record r { id = i }) this.name
    ∙ ap (λ (t : Site). record r { id = id; site = t }) this.at
    ∙ ap (λ (ps : List ℕ). record { id = id; site = site; positions = ps }) this.positions

-- what is sent is what the entry says
sent_ledger : (s : State) (number : ℕ) (id : Id) (site : Site) (positions : List ℕ) (r : Row) → is_row id site positions r ≡ true →
    (sent number id site positions s r).ledger ≡ after_start s.ledger number id site positions
sent_ledger s number id site positions r h = ap (λ (x : Row). (sent number id site positions s x).ledger) (row_is id site positions r h)

-- ---- what is left to tidy

served_all : (w : World) (c : Counts) (l : Ledger) (id : Id) (site : Site) (number : ℕ) → IsOfLedger w c l →
    list_all (λ (x : Served). is_served_at id site x || is_awaited l.waiting x) (served_now id site number l.served) ≡ true
served_all w c l id site number of =
    let fits : Served → Bool = λ x. is_served_at id site x || is_awaited l.waiting x in
    let new : Served = record { id = id; site = site; last = number } in
    let others : List Served = filter (λ (x : Served). not (is_served_at id site x)) l.served in
    and_from (fits new) (list_all fits others)
    (or_left (is_served_at id site new) (is_awaited l.waiting new) (and_from (id_eq id id) (site_eq site site) (id_eq-refl id) (site_eq-refl site)))
    (all_weaker (is_awaited l.waiting) fits others (λ x inside e. or_right (is_served_at id site x) (is_awaited l.waiting x) e)
    (all_filtered (is_awaited l.waiting) (λ (x : Served). not (is_served_at id site x)) l.served (bare_tidy w c l of).served))

row_gone : (w : World) (c : Counts) (s : State) (number : ℕ) (id : Id) (site : Site) (positions : List ℕ) (r : Row) → IsOfLedger w c s.ledger →
    IsRowGone id site positions s.ledger (sent number id site positions s r).ledger
row_gone w c s number id site positions r of = record {
  waiting = refl;
  lines = refl;
  unread = λ i. refl;
  served = served_all w c s.ledger id site number of;
}

-- ---- the counts

-- the row counts in flight where it counted among those that wait
sent_rows : (s : State) (number : ℕ) (id : Id) (site : Site) (positions : List ℕ) (r : Row) → find (is_row id site positions) s.ledger.waiting ≡ Some r → (i : Id) →
    rows_in (sent number id site positions s r).ledger i ≡ rows_in s.ledger i
sent_rows s number id site positions r e i =
    let l = s.ledger in
    let flying : Delivery → Bool = λ f. id_eq f.row.id i in
    let gone = sum_dropped (λ (x : Row). cond (id_eq x.id i) 1 0) (is_row id site positions) l.waiting r e in
    let more = count_append flying l.flights (flight number r ∷ []) in
    let one = count_cons flying (flight number r) [] in
    omega (arith, gone, more, one)

sent_counted : (s : State) (number : ℕ) (id : Id) (site : Site) (positions : List ℕ) (r : Row) → find (is_row id site positions) s.ledger.waiting ≡ Some r → IsCounted s →
    IsCounted (sent number id site positions s r)
sent_counted s number id site positions r e h =
    counted_still s (sent number id site positions s r) h refl refl (λ i. refl) (sent_rows s number id site positions r e)

-- ---- the entry

sent_law : (w : World) (c : Counts) (s : State) (number : ℕ) (id : Id) (site : Site) (positions : List ℕ) (r : Row) → IsOfLedger w c s.ledger → IsBeside s →
    find (is_row id site positions) s.ledger.waiting ≡ Some r →
    IsChanged w s.ledger (entries.Start number id site positions) (with_served_left id site (with_lines_left id (sent number id site positions s r)))
sent_law w c s number id site positions r of beside e =
    let l = s.ledger in
    let k = after_start l number id site positions in
    let counted = sent_counted s number id site positions r e beside.counted in
    let passes = (find_in (is_row id site positions) r l.waiting e).1 in
    let bare_is : bare k ≡ k = still_bare l k (held_bare w c l of) (ap (λ (x : Ledger). x.book) (held_bare w c l of)) refl in
    record {
      ledger = state_tidied w c l (sent number id site positions s r) id site positions of counted (row_gone w c s number id site positions r of)
          ∙ ap rows_tidied (sent_ledger s number id site positions r passes ∙ sym bare_is);
      counted = record { admitted = counted.admitted; slots = counted.slots };
      leftovers = beside.leftovers;
      left = beside.left;
    }

start_on : (w : World) (c : Counts) (s : State) (number : ℕ) (id : Id) (site : Site) (positions : List ℕ) (o : Option Row) → IsOfLedger w c s.ledger → IsBeside s →
    find (is_row id site positions) s.ledger.waiting ≡ o → list_any (is_row id site positions) s.ledger.waiting ≡ true →
    IsChanged w s.ledger (entries.Start number id site positions) (with_served_left id site (with_lines_left id (option_map_or (sent number id site positions s) o s)))
start_on w c s number id site positions None of beside e there =
    let bad : true ≡ false = sym there ∙ find-none (is_row id site positions) s.ledger.waiting e in absurd cc
start_on w c s number id site positions (Some r) of beside e there = sent_law w c s number id site positions r of beside e

-- such a row waits
row_there : (w : World) (l : Ledger) (id : Id) (site : Site) (positions : List ℕ) → list_any (λ r. is_row id site positions r && is_startable w l r) l.waiting ≡ true → list_any (is_row id site positions) l.waiting ≡ true
row_there w l id site positions h =
    let one = any_in (λ r. is_row id site positions r && is_startable w l r) l.waiting h in
    any_from (is_row id site positions) one.0 l.waiting one.1 (and_parts (is_row id site positions one.0) (is_startable w l one.0) one.2).0

-- a start that is allowed
pub start_law : (w : World) (c : Counts) (s : State) (number : ℕ) (id : Id) (site : Site) (positions : List ℕ) → IsOfLedger w c s.ledger → IsBeside s →
    may_by c w s.ledger (entries.Start number id site positions) ≡ true → IsChanged w s.ledger (entries.Start number id site positions) (started_in number id site positions s)
start_law w c s number id site positions of beside may =
    let startable : Bool = list_any (λ r. is_row id site positions r && is_startable w s.ledger r) s.ledger.waiting in
    start_on w c s number id site positions (find (is_row id site positions) s.ledger.waiting) of beside refl
    (row_there w s.ledger id site positions (and_parts (number == c.deliveries + 1) startable may).1)

-- ---- no such row

-- where none waits, nothing is sent
pub not_sent : (s : State) (number : ℕ) (id : Id) (site : Site) (positions : List ℕ) (rows : List Row) (flights : List Delivery) (served : List Served) →
    find (is_row id site positions) s.ledger.waiting ≡ None → rows ≡ drop_first (is_row id site positions) s.ledger.waiting → flights ≡ s.ledger.flights → served ≡ s.ledger.served →
    with_ledger s (record s.ledger { waiting = rows; flights = flights; served = served }) ≡ sent_in number id site positions s
not_sent s number id site positions rows flights served none left same_flights same_served =
    ap (λ (rs : List Row). with_ledger s (record s.ledger { waiting = rs; flights = flights; served = served })) (left ∙ none_dropped (is_row id site positions) s.ledger.waiting none)
    ∙ ap (λ (fs : List Delivery). with_ledger s (record s.ledger { flights = fs; served = served })) same_flights
    ∙ ap (λ (ss : List Served). with_ledger s (record s.ledger { served = ss })) same_served
    ∙ sym (ap (λ o. option_map_or (sent number id site positions s) o s) none)
