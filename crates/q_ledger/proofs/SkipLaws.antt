-- A row that is put off where that is allowed makes of the ledger what it is to be.
use Rattle.std.proofs.Common.{◌≡◌, ℕ, ◌+◌, ◌-◌, ◌^◌, ◌≤◌, true, false, cond, List, ◌++◌, length, map, min, find, replicate, Option, Some, None, refl, sym, ap, ◌∙◌, subst, arith}
use Rattle.std.proofs.lemmas.Bool.{and_parts, or_right}
use Rattle.std.proofs.lemmas.List.Sums.{count_by-le-length}
use Rattle.std.specs.List.{list_any}
use Rattle.std.specs.Option.{option_map_or}
use Rattle.std.specs.Prelude.{◌||◌}
use Rattle.q_bare.specs.Bare.{bare}
use Rattle.q_bare.specs.CountedRows.{may_by}
use Rattle.q_bare.specs.Counts.{Counts}
use Rattle.q_fronts.specs.Fitting.{is_awaited}
use Rattle.q_laws.proofs.Distinct.{id_eq-sym}
use Rattle.q_laws.proofs.Members.{all_weaker, find_in}
use Rattle.q_ledger.proofs.ListLaws.{find-none}
use Rattle.q_ledger.proofs.BareChanges.{still_bare}
use Rattle.q_ledger.proofs.CountedLaws.{counted_rows}
use Rattle.q_ledger.proofs.HeldLaws.{held_bare}
use Rattle.q_ledger.proofs.NeedsLaws.{needs_same}
use Rattle.q_ledger.proofs.OfLedger.{IsFound, row_found}
use Rattle.q_ledger.proofs.PartLaws.{sum_dropped}
use Rattle.q_ledger.proofs.QuietLaws.{bare_tidy}
use Rattle.q_ledger.proofs.RowCounts.{count_append, needs_counted}
use Rattle.q_ledger.proofs.RowLaws.{row_is_own}
use Rattle.q_ledger.proofs.TidiedRows.{IsRowGone, state_tidied}
use Rattle.q_ledger.specs.Beside.{IsBeside, IsCounted, IsOfLedger, rows_in}
use Rattle.q_ledger.specs.Counting.{count_changed, rows_counted}
use Rattle.q_ledger.specs.LinesLeft.{is_served_at, with_lines_left, with_served_left}
use Rattle.q_ledger.specs.Needs.{needs_in}
use Rattle.q_ledger.specs.PutOff.{delays_need, skipped_in, without_row}
use Rattle.q_ledger.specs.Settled.{is_old_in, with_left, with_unsettled}
use Rattle.q_ledger.specs.State.{State}
use Rattle.q_ledger.specs.Taking.{IsChanged, rows_tidied}
use Rattle.q_model.proofs.IdLaws.{id_eq-refl, id_eq-true}
use Rattle.q_model.specs.Ids.{id_eq}
use Rattle.q_model.specs.Ledger.{Ledger}
use Rattle.q_model.specs.Lists.{drop_first}
use Rattle.q_model.specs.Settings.{World}
use Rattle.q_model.specs.Settling.{needs_of}
use Rattle.q_model.specs.SiteRecords.{is_dead_site}
use Rattle.q_model.specs.Skips.{after_skip, unqueued}
use Rattle.q_model.specs.Starts.{is_row}
use Rattle.q_model.specs.Times.{is_expired}
use Rattle.q_model.specs.Values.{Served, Site}
use Rattle.q_model.specs.declared.entry.Entry.TheVariants as entries
use Rattle.q_model.specs.declared.id.Id.{Id}
use Rattle.q_model.specs.declared.outcome.Outcome.{Outcome}
use Rattle.q_model.specs.declared.outcome.Outcome.TheVariants as outcomes
use Rattle.q_model.specs.declared.rows.Delivery.{Delivery}
use Rattle.q_model.specs.declared.rows.Row.{Row}
use Rattle.q_model.specs.declared.rows.Unsettled.{Unsettled}

-- the ledger with these rows that wait, and these outcomes
abbrev put : Ledger → List Row → List Unsettled → Ledger
put l rs us = record l { waiting = rs; unsettled = us }

abbrev left_rows : Ledger → Id → Site → List ℕ → List Row
left_rows l id site ps = drop_first (is_row id site ps) l.waiting

abbrev delays : List ℕ → List Outcome
delays ps = replicate (length ps) (outcomes.Later 0)

-- what the outcomes need by the message is what they need by its age
need_law : (w : World) (l : Ledger) (id : Id) (ps : List ℕ) (m : IsFound l id) → delays_need w l id ps ≡ needs_of w l.now m.message ps (delays ps)
need_law w l id ps m =
    ap (λ o. needs_in (option_map_or (is_expired w l.now) o false) id ps (delays ps)) m.there
    ∙ ap (λ (i : Id). needs_in (is_expired w l.now m.message) i ps (delays ps)) (sym m.name)
    ∙ needs_same w l.now m.message ps (delays ps)

-- the ledger after the row of a message that stands is put off
skip_at : (w : World) (l : Ledger) (id : Id) (site : Site) (ps : List ℕ) (m : IsFound l id) →
    after_skip w l id site ps ≡ put l (left_rows l id site ps) (l.unsettled ++ needs_of w l.now m.message ps (delays ps))
skip_at w l id site ps m =
    ap (λ o. option_map_or (λ x. put l (left_rows l id site ps) (l.unsettled ++ needs_of w l.now x ps (delays ps))) o (unqueued l id site ps)) m.there

ledger_law : (w : World) (c : Counts) (s : State) (id : Id) (site : Site) (ps : List ℕ) → IsOfLedger w c s.ledger → IsFound s.ledger id →
    (skipped_in w s id site ps).ledger ≡ bare (after_skip w s.ledger id site ps)
ledger_law w c s id site ps h m =
    let l = s.ledger in
    let rows = left_rows l id site ps in
    let k = put l rows (l.unsettled ++ needs_of w l.now m.message ps (delays ps)) in
    let here : (skipped_in w s id site ps).ledger ≡ k = ap (λ ns. put l rows (l.unsettled ++ ns)) (need_law w l id ps m) in
    let bare_is : bare k ≡ k = still_bare l k (held_bare w c l h) (ap (λ (x : Ledger). x.book) (held_bare w c l h)) refl in
    here ∙ sym (ap bare (skip_at w l id site ps m) ∙ bare_is)

-- ---- the row

-- the row that waits, under its own id
record IsWaiting (l : Ledger) (id : Id) (site : Site) (ps : List ℕ) : Type 0 where
  row : Row
  there : find (is_row id site ps) l.waiting ≡ Some row
  name : row.id ≡ id

waits_at : (l : Ledger) (id : Id) (site : Site) (ps : List ℕ) → list_any (is_row id site ps) l.waiting ≡ true → IsWaiting l id site ps
waits_at l id site ps h = on (find (is_row id site ps) l.waiting) refl
  where
    on : (o : Option Row) → find (is_row id site ps) l.waiting ≡ o → IsWaiting l id site ps
    on None e = let bad : true ≡ false = sym h ∙ find-none (is_row id site ps) l.waiting e in absurd cc
    on (Some r) e = record {
      row = r;
      there = e;
      name = id_eq-true r.id id (row_is_own id site ps r (find_in (is_row id site ps) r l.waiting e).1);
    }

-- ---- the counts

abbrev rows_by : Ledger → List Row → List Unsettled → Id → ℕ
rows_by l rs us i = rows_in (put l rs us) i

other_rows : (w : World) (l : Ledger) (id : Id) (site : Site) (ps : List ℕ) → IsWaiting l id site ps → (i : Id) → id_eq id i ≡ false →
    rows_by l (left_rows l id site ps) (l.unsettled ++ delays_need w l id ps) i ≡ rows_in l i
other_rows w l id site ps r i apart =
    let a = sum_dropped (λ (x : Row). cond (id_eq x.id i) 1 0) (is_row id site ps) l.waiting r.row r.there in
    let none : ◌≡◌ {A = ℕ} (cond (id_eq r.row.id i) 1 0) 0 = ap (λ (x : Id). cond (id_eq x i) 1 0) r.name ∙ ap (λ b. cond b 1 0) apart in
    let b = count_append (λ (u : Unsettled). id_eq u.id i) l.unsettled (delays_need w l id ps) in
    let n = needs_counted (is_old_in w l id) id i ps (delays ps) false apart in
    omega (arith, a, none, b, n)

same_rows : (w : World) (l : Ledger) (id : Id) (site : Site) (ps : List ℕ) → IsWaiting l id site ps →
    length l.waiting + length l.flights + length l.unsettled + length (delays_need w l id ps) ≤ 2 ^ 128 - 1 →
    rows_by l (left_rows l id site ps) (l.unsettled ++ delays_need w l id ps) id ≡ min (rows_in l id + length (delays_need w l id ps)) (2 ^ 128 - 1) - 1
same_rows w l id site ps r few =
    let us = delays_need w l id ps in
    let mine : id_eq id id ≡ true = id_eq-refl id in
    let a = sum_dropped (λ (x : Row). cond (id_eq x.id id) 1 0) (is_row id site ps) l.waiting r.row r.there in
    let one : ◌≡◌ {A = ℕ} (cond (id_eq r.row.id id) 1 0) 1 = ap (λ (x : Id). cond (id_eq x id) 1 0) r.name ∙ ap (λ b. cond b 1 0) mine in
    let b = count_append (λ (u : Unsettled). id_eq u.id id) l.unsettled us in
    let n = needs_counted (is_old_in w l id) id id ps (delays ps) true mine in
    let x = count_by-le-length (λ (y : Row). id_eq y.id id) l.waiting in
    let y = count_by-le-length (λ (g : Delivery). id_eq g.row.id id) l.flights in
    let z = count_by-le-length (λ (u : Unsettled). id_eq u.id id) l.unsettled in
    let fits : rows_in l id + length us ≤ 2 ^ 128 - 1 = omega (arith, x, y, z, few) in
    let free : min (rows_in l id + length us) (2 ^ 128 - 1) ≡ rows_in l id + length us = omega (arith, fits) in
    omega (arith, a, one, b, n, free)

counted_law : (w : World) (s : State) (id : Id) (site : Site) (ps : List ℕ) → IsWaiting s.ledger id site ps → IsCounted s →
    length s.ledger.waiting + length s.ledger.flights + length s.ledger.unsettled + length (delays_need w s.ledger id ps) ≤ 2 ^ 128 - 1 → IsCounted (skipped_in w s id site ps)
counted_law w s id site ps r counted few =
    counted_rows s (skipped_in w s id site ps) id (length (delays_need w s.ledger id ps)) 1 counted refl refl (λ i. refl)
    (λ i apart. other_rows w s.ledger id site ps r i (id_eq-sym i id apart)) (same_rows w s.ledger id site ps r few)

-- ---- lines and served rows

row_gone : (w : World) (c : Counts) (s : State) (id : Id) (site : Site) (ps : List ℕ) → IsOfLedger w c s.ledger → IsRowGone id site ps s.ledger (skipped_in w s id site ps).ledger
row_gone w c s id site ps h =
    let l = s.ledger in
    record {
      waiting = refl;
      lines = refl;
      unread = λ i. refl;
      served = all_weaker (is_awaited l.waiting) (λ (x : Served). is_served_at id site x || is_awaited l.waiting x) l.served
          (λ x inside e. or_right (is_served_at id site x) (is_awaited l.waiting x) e) (bare_tidy w c l h).served;
    }

-- a row that may be put off, where what is unsettled then can be counted
pub skip_changes : (w : World) (c : Counts) (s : State) (id : Id) (site : Site) (ps : List ℕ) → IsOfLedger w c s.ledger → IsBeside s →
    may_by c w s.ledger (entries.Skip id site ps) ≡ true →
    length s.ledger.waiting + length s.ledger.flights + length s.ledger.unsettled + length (delays_need w s.ledger id ps) ≤ 2 ^ 128 - 1 →
    IsChanged w s.ledger (entries.Skip id site ps) (with_served_left id site (with_lines_left id (skipped_in w s id site ps)))
skip_changes w c s id site ps h beside may few =
    let l = s.ledger in
    let r = waits_at l id site ps (and_parts (list_any (is_row id site ps) l.waiting) (is_dead_site l site) may).0 in
    let inside = (find_in (is_row id site ps) r.row l.waiting r.there).0 in
    let m : IsFound l id = subst (IsFound l) r.name (row_found w c l h r.row inside) in
    let counted = counted_law w s id site ps r beside.counted few in
    record {
      ledger = state_tidied w c l (skipped_in w s id site ps) id site ps h counted (row_gone w c s id site ps h) ∙ ap rows_tidied (ledger_law w c s id site ps h m);
      counted = record { admitted = counted.admitted; slots = counted.slots };
      leftovers = beside.leftovers;
      left = refl;
    }

-- ---- the steps

abbrev stepped : State → Id → Site → List ℕ → List Unsettled → ℕ → State
stepped s id site ps us n = record s {
  ledger = record s.ledger { waiting = left_rows s.ledger id site ps; unsettled = s.ledger.unsettled ++ us };
  slots = map (count_changed id n 1) s.slots;
  left = Some site;
}

pub skip_steps : (w : World) (s : State) (id : Id) (site : Site) (ps : List ℕ) (us : List Unsettled) (n : ℕ) → us ≡ delays_need w s.ledger id ps → n ≡ length us →
    with_left site (rows_counted id n 1 (without_row id site ps (with_unsettled us s))) ≡ skipped_in w s id site ps
skip_steps w s id site ps us n needs count =
    ap (stepped s id site ps us) count ∙ ap (λ vs. stepped s id site ps vs (length vs)) needs
