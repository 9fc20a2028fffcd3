-- A row whose site is dead is put off.
use Rattle.std.proofs.Common.{◌≡◌, ℕ, ◌+◌, ◌-◌, ◌≤◌, Bool, true, List, ◌++◌, length, length-append, refl, sym, ap, ◌∙◌, subst, arith, Some, sum_by, replicate, IsTrue}
use Rattle.std.proofs.Math.Bool.{and-true}
use Rattle.std.specs.List.{remove}
use Rattle.std.specs.Prelude.{◌&&◌, ◌==◌, find, not, slice_get}
use Rattle.q_core.specs.Rules.{next_skip_number}
use Rattle.q_core.proofs.DroppedLaws.{drop_first-narrow, found_first, is_row-same, is_row-true, list_any-drop_first, other_site, sum_by-drop_first}
use Rattle.q_core.proofs.ListLaws.{drop_first-Some, find-all, find-any, find-passes}
use Rattle.q_core.proofs.NeedsLaws.{needs_few}
use Rattle.q_core.proofs.NoteLaws.{IsQuiet, note_law}
use Rattle.q_core.proofs.RowsLaws.{needs_law, rows_law, with_outcomes_is, stands}
use Rattle.q_core.proofs.SiteLaws.{LeavesFrom, tidy_left_law}
use Rattle.q_core.proofs.SpaceLaws.{row_has_space}
use Rattle.q_core.proofs.StepLaws.{HoldsRaw, raw_law}
use Rattle.q_core.specs.Agrees.{Agrees, AgreesButScan, Matches}
use Rattle.q_core.specs.Changes.{HasLeftSite, IsTidied, is_looked_at}
use Rattle.q_core.specs.UsedSites.{busy_in}
use Rattle.q_core.specs.Held.{have_space, is_dead_in}
use Rattle.q_core.specs.Leaving.{fails_in, IsFirstDead, IsUnqueued, put_off_in}
use Rattle.q_core.specs.Needs.{needs_put_off}
use Rattle.q_core.specs.Queries.{expired_in}
use Rattle.q_core.specs.declared.state.Core.{Core}
use Rattle.q_model.proofs.IdLaws.{site_eq-refl}
use Rattle.q_model.specs.Book.{message_of}
use Rattle.q_model.specs.Sites.{site_eq}
use Rattle.q_model.specs.Ledger.{Ledger}
use Rattle.q_model.specs.Lists.{drop_first}
use Rattle.q_model.specs.Memory.{is_admitted}
use Rattle.q_model.specs.Message.{Message}
use Rattle.q_model.specs.Settings.{World}
use Rattle.q_model.specs.Settling.{needs_of}
use Rattle.q_model.specs.Skips.{after_skip, unqueued}
use Rattle.q_model.specs.Starts.{is_row}
use Rattle.q_model.specs.Step.{noted, tidied}
use Rattle.q_model.specs.Values.{Site}
use Rattle.q_model.specs.declared.entry.Entry.{Entry}
use Rattle.q_model.specs.declared.entry.Entry.TheVariants as entries
use Rattle.q_model.specs.declared.outcome.Outcome.{Outcome}
use Rattle.q_model.specs.declared.outcome.Outcome.TheVariants as outcomes
use Rattle.q_model.specs.declared.rows.Delivery.{Delivery}
use Rattle.q_model.specs.declared.rows.Row.{Row}
use Rattle.q_model.specs.declared.rows.Unsettled.{Unsettled}

-- the row is the first at a dead site
first_dead : {w : World} {c : Core} {l : Ledger} {entry : ℕ} → HoldsRaw w c l → (r : Row) → IsFirstDead c entry → slice_get c.waiting entry ≡ Some r → find (λ x. is_dead_in c x.site) l.waiting ≡ Some r
first_dead {c = c} {entry = entry} h r first there =
    ap (find (λ x. is_dead_in c x.site)) (sym h.parts.waiting) ∙ found_first (λ (x : Row). is_dead_in c x.site) c.waiting entry r first there

-- so the first row equal to it is at its place
dropped_same : {w : World} {c : Core} {l : Ledger} {entry : ℕ} → HoldsRaw w c l → (r : Row) → IsFirstDead c entry → slice_get c.waiting entry ≡ Some r →
    (is_dead_in c r.site ≡ true) → remove c.waiting entry ≡ drop_first (is_row r.id r.site r.positions) l.waiting
dropped_same {c = c} {l = l} {entry = entry} h r first there dead =
    drop_first-Some (λ (x : Row). is_dead_in c x.site) c.waiting entry first
    ∙ ap (drop_first (λ (x : Row). is_dead_in c x.site)) h.parts.waiting
    ∙ sym (drop_first-narrow (λ (x : Row). is_dead_in c x.site) (is_row r.id r.site r.positions) r (is_row-same r)
    (λ y e. ap (λ (x : Row). is_dead_in c x.site) (is_row-true r.id r.site r.positions y e) ∙ dead) l.waiting (first_dead h r first there))

-- the recipients in memory, where those of one row left and their needs came
counted : (whole part rest others kept few memory : ℕ) → memory ≡ whole + others + kept → whole ≡ part + rest → few ≤ part → memory - (part - few) ≡ rest + others + (kept + few)
counted whole part rest others kept few memory total parts less = omega (arith, total, parts, less)

-- which row was put off last is no part of a ledger
parts_noted : {w : World} {c : Core} {l : Ledger} (number : ℕ) (positions : List ℕ) → AgreesButScan w c l → AgreesButScan w (record c { skips = number; skipped = positions }) l
parts_noted number positions h = record {
  settings = h.settings;
  count = h.count;
  transports = h.transports;
  mode = h.mode;
  clock = h.clock;
  timed = h.timed;
  next_run = h.next_run;
  ignores = h.ignores;
  deferred_follows = h.deferred_follows;
  admitted = h.admitted;
  waiting = h.waiting;
  flights = h.flights;
  memory = h.memory;
  served = h.served;
  unsettled = h.unsettled;
  lines = h.lines;
  sites = h.sites;
  synced = h.synced;
  starts = h.starts;
  active = h.active;
  incoming = h.incoming;
}

raw_noted : {w : World} {c d : Core} {l : Ledger} → d ≡ record c { skips = d.skips; skipped = d.skipped } → HoldsRaw w c l → HoldsRaw w d l
raw_noted {w = w} {d = d} {l = l} same h = subst (λ (x : Core). HoldsRaw w x l) (sym same) (record { parts = parts_noted d.skips d.skipped h.parts; scan = h.scan; asked = h.asked; seen = h.seen })

pub skip_noted : {w : World} {c d : Core} {l : Ledger} → d ≡ record c { skips = d.skips } → Matches w c l → Matches w d l
skip_noted {w = w} {c = c} {d = d} {l = l} same m =
    subst (λ (x : Core). Matches w x l) (sym same) (record { parts = parts_noted d.skips c.skipped m.parts; scan = record { goes_on = m.scan.goes_on; seen = m.scan.seen } })

-- the ledger without the row, where its message is m
abbrev skipped : World → Ledger → Row → Message → Ledger
skipped w l r m = record l {
  waiting = drop_first (is_row r.id r.site r.positions) l.waiting;
  unsettled = l.unsettled ++ needs_of w l.now m r.positions (replicate (length r.positions) (outcomes.Later 0));
}

-- the row waits no more, and its recipients are put off
skip_raw : {w : World} {c d : Core} {l : Ledger} {entry : ℕ} → HoldsRaw w c l → (r : Row) (m : Message) → is_admitted l r.id ≡ true → message_of l.book r.id ≡ Some m → IsFirstDead c entry → is_dead_in c r.site ≡ true → have_space c r.positions ≡ true →
    IsUnqueued c d entry r → HoldsRaw w d (skipped w l r m)
skip_raw {w = w} {c = c} {d = d} {l = l} {entry = entry} h r m there e first dead space u =
    let os : List Outcome = replicate (length r.positions) (outcomes.Later 0) in
    let fails : fails_in c r ≡ expired_in c r.id = ap (λ b. expired_in c r.id && b) space ∙ and-true (expired_in c r.id) in
    let needs : put_off_in c r ≡ needs_of w l.now m r.positions os = ap (λ b. needs_put_off b r.id r.positions) fails ∙ needs_law h.parts r.id m there e r.positions os in
    let dropped = dropped_same h r first u.row dead in
    let ws : List Row = drop_first (is_row r.id r.site r.positions) l.waiting in
    let us : List Unsettled = l.unsettled ++ needs_of w l.now m r.positions os in
    let waiting : d.waiting ≡ ws = u.waiting ∙ dropped in
    let unsettled : d.unsettled ≡ us = u.unsettled ∙ ap (λ (xs : List Unsettled). xs ++ put_off_in c r) h.parts.unsettled ∙ ap (λ xs. l.unsettled ++ xs) needs in
    let parts = sum_by-drop_first (λ (x : Row). length x.positions) (λ (x : Row). is_dead_in c x.site) r l.waiting (first_dead h r first u.row) in
    let narrow : drop_first (λ (x : Row). is_dead_in c x.site) l.waiting ≡ ws =
    ap (drop_first (λ (x : Row). is_dead_in c x.site)) (sym h.parts.waiting) ∙ sym (drop_first-Some (λ (x : Row). is_dead_in c x.site) c.waiting entry first) ∙ dropped in
    let memory : d.in_memory ≡ sum_by (λ x. length x.positions) ws + sum_by (λ f. length f.row.positions) l.flights + length us =
    u.memory
    ∙ counted (sum_by (λ (x : Row). length x.positions) l.waiting) (length r.positions) (sum_by (λ (x : Row). length x.positions) ws) (sum_by (λ (f : Delivery). length f.row.positions) l.flights)
    (length l.unsettled) (length (put_off_in c r)) c.in_memory h.parts.memory (parts ∙ ap (λ (xs : List Row). length r.positions + sum_by (λ x. length x.positions) xs) narrow) (needs_few _ r.id r.positions os)
    ∙ ap (λ n. sum_by (λ (x : Row). length x.positions) ws + sum_by (λ (f : Delivery). length f.row.positions) l.flights + n)
    (ap (λ (xs : List Unsettled). length l.unsettled + length xs) needs ∙ sym (length-append l.unsettled (needs_of w l.now m r.positions os))) in
    let kept : Core = record c { waiting = d.waiting; flights = d.flights; unsettled = d.unsettled; in_memory = d.in_memory } in
    let rest : d ≡ record kept { skips = d.skips; skipped = d.skipped } =
    u.rest
    ∙ ap (λ fs. record c { waiting = d.waiting; flights = fs; unsettled = d.unsettled; in_memory = d.in_memory; skipped = d.skipped }) (sym (ap (λ (x : Core). x.flights) u.rest))
    ∙ ap (λ n. record c { waiting = d.waiting; flights = d.flights; unsettled = d.unsettled; in_memory = d.in_memory; skips = n; skipped = d.skipped }) (sym (ap (λ (x : Core). x.skips) u.rest)) in
    raw_noted rest (rows_law ws l.flights us h refl (record { waiting = waiting; flights = ap (λ (x : Core). x.flights) u.rest ∙ h.parts.flights; unsettled = unsettled; memory = memory }))

-- a row left its site, and no other
skip_leaves : (w : World) {l : Ledger} (r : Row) (m : Message) (p : Row → Bool) → find p l.waiting ≡ Some r → LeavesFrom r.site l (noted (entries.Skip r.id r.site r.positions) (skipped w l r m))
skip_leaves w {l = l} r m p found = record {
  here = ap (λ b. not b && (busy_in l.flights r.site == 0)) (find-any p (λ (x : Row). site_eq x.site r.site) l.waiting r found (site_eq-refl r.site));
  elsewhere = λ s e. ap (λ b. not b && (busy_in l.flights s == 0))
      (list_any-drop_first (λ (x : Row). site_eq x.site s) (is_row r.id r.site r.positions)
      (λ y f. ap (λ (x : Row). site_eq x.site s) (is_row-true r.id r.site r.positions y f) ∙ other_site r.site s e (site_eq r.site s) refl) l.waiting);
}

-- the whole entry
pub skip_law : {w : World} {c u mid d : Core} {l : Ledger} {entry : ℕ} → Agrees w c l → IsTrue (is_looked_at c) → IsFirstDead c entry → (r : Row) → IsUnqueued c u entry r → HasLeftSite u mid r.site → IsTidied mid d →
    Matches w d (tidied w l (noted (entries.Skip r.id r.site r.positions) (after_skip w l r.id r.site r.positions)))
skip_law {w = w} {c = c} {u = u} {mid = mid} {d = d} {l = l} {entry = entry} a looked first r un left s =
    let raw = raw_law a.matches looked in
    let k = a.consistent in
    let p : Row → Bool = λ x. is_dead_in c x.site in
    let found = first_dead raw r first un.row in
    let there : is_admitted l r.id ≡ true = find-all p (λ (x : Row). is_admitted l x.id) l.waiting r k.memory.waiting found in
    let m = stands l r.id there k.memory.present in
    let e : Entry = entries.Skip r.id r.site r.positions in
    let quiet : IsQuiet e = record { no_admit = λ id. refl; no_start_of = λ id t. refl; no_charge = λ id t. refl; no_start = refl } in
    let over = skip_raw raw r m.0 there m.1 first (find-passes p l.waiting r found) (row_has_space a p r found) un in
    let done : Matches w d (tidied w l (noted e (skipped w l r m.0))) = tidy_left_law r.site l (skip_leaves w r m.0 p found) a.sites.apart (note_law e quiet over) left s in
    subst (λ z. Matches w d (tidied w l (noted e z))) (sym (with_outcomes_is w r.id r.positions (replicate (length r.positions) (outcomes.Later 0)) (unqueued l r.id r.site r.positions) m.0 m.1)) done

-- the number is the next, as it was before the row left
pub left_skips : (c u mid d : Core) (site : Site) → u ≡ record c { waiting = u.waiting; unsettled = u.unsettled; in_memory = u.in_memory; skipped = u.skipped } → HasLeftSite u mid site → IsTidied mid d → next_skip_number d ≡ next_skip_number c
left_skips c u mid d site un left tidied = ap next_skip_number tidied.rest ∙ ap next_skip_number left.rest ∙ ap next_skip_number un

-- its positions stay kept
pub left_kept : (u mid d : Core) (site : Site) → HasLeftSite u mid site → IsTidied mid d → d.skipped ≡ u.skipped
left_kept u mid d site left tidied = ap (λ (x : Core). x.skipped) tidied.rest ∙ ap (λ (x : Core). x.skipped) left.rest
