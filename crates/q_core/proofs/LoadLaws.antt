-- Recipients of a message come into memory.
use Rattle.std.proofs.Common.{◌≡◌, ℕ, ◌+◌, ◌-◌, ◌≤◌, Bool, true, false, List, [], ◌++◌, length, map, min, refl, sym, ap, ◌∙◌, subst, Option, Some, sum_by, arith, append-nil}
use Rattle.std.proofs.lemmas.List.{length-map}
use Rattle.std.proofs.lemmas.List.Folds.{list_any-append}
use Rattle.std.proofs.lemmas.List.Sums.{sum_by-append}
use Rattle.std.specs.List.{enumerate_from}
use Rattle.std.specs.Option.{option_map_or}
use Rattle.std.specs.Prelude.{◌&&◌, ◌||◌, ◌==◌, IsTrue, not}
use Rattle.q_core.proofs.ChangeLaws.{seen_same}
use Rattle.q_core.proofs.JoinLaws.{lines_joined, rows_same, sites_after, sites_same, slots_read, some_unread, with_records_is}
use Rattle.q_core.proofs.ListLaws.{filter-same, find-passes, length-numbered}
use Rattle.q_core.proofs.NameLaws.{id_eq-true}
use Rattle.q_core.proofs.NoteLaws.{IsQuiet, note_law}
use Rattle.q_core.proofs.SiteLaws.{tidy_used_law}
use Rattle.q_core.proofs.StepLaws.{HoldsRaw, IsStillSeen, raw_law}
use Rattle.q_core.proofs.SyncedLaws.{all_left, synced_fewer}
use Rattle.q_core.specs.Agrees.{Agrees, AgreesButScan, Matches, found_active, found_at, jobs_of, slot_of}
use Rattle.q_core.specs.Changes.{IsTidied, is_looked_at}
use Rattle.q_core.specs.UsedSites.{busy_in, is_unused_in, waits_at_in}
use Rattle.q_core.specs.Loading.{IsLoaded, joined_line, new_sites, rows_in}
use Rattle.q_pool.specs.Slots.{changed_at, read_up}
use Rattle.q_jobs.specs.declared.job.Job.{Job}
use Rattle.q_pool.specs.declared.slot.Slot.{Slot}
use Rattle.q_core.specs.declared.state.Core.{Core}
use Rattle.q_core.specs.declared.state.Seen.{Seen}
use Rattle.q_core.specs.declared.decision.Found.TheVariants as founds
use Rattle.q_core.specs.declared.state.Seen.TheVariants.{Known, Unknown}
use Rattle.q_laws.proofs.Batched.{rows_length}
use Rattle.q_laws.proofs.Loaded.{any_read, load_on, read_to}
use Rattle.q_laws.specs.Consistency.{IsConsistent}
use Rattle.q_model.specs.Batches.{load_positions, load_rows, rows_from}
use Rattle.q_model.specs.Book.{ids_at, message_of}
use Rattle.q_model.specs.Sites.{site_eq}
use Rattle.q_model.specs.Ids.{id_before, id_eq}
use Rattle.q_model.specs.Leftovers.{leftovers}
use Rattle.q_model.specs.Ledger.{Ledger}
use Rattle.q_model.specs.Lists.{least}
use Rattle.q_model.specs.Loads.{after_load, join_lines, joins, loaded, may_load}
use Rattle.q_model.specs.Memory.{admitted_of, in_memory, is_admitted}
use Rattle.q_model.specs.Message.{Message, address_at}
use Rattle.q_model.specs.Places.{is_active}
use Rattle.q_model.specs.Settings.{Settings, World}
use Rattle.q_model.specs.Step.{noted, tidied}
use Rattle.q_model.specs.Values.{Site, SiteRecord, Taken}
use Rattle.q_model.specs.declared.entry.Entry.{Entry}
use Rattle.q_model.specs.declared.entry.Entry.TheVariants as entries
use Rattle.q_model.specs.declared.id.Id.{Id}
use Rattle.q_model.specs.declared.rows.Delivery.{Delivery}
use Rattle.q_model.specs.declared.rows.Row.{Row}

-- the ledger with these rows read
abbrev over : World → Ledger → Id → ℕ → List Row → Ledger
over w l id to rows = record l {
  admitted = map (read_to id to) l.admitted;
  waiting = l.waiting ++ rows;
  lines = join_lines id rows l.lines;
  sites = sites_after w l.sites rows;
}

load_is : (w : World) (l : Ledger) (id : Id) (from to : ℕ) (m : Message) → message_of l.book id ≡ Some m → after_load w l id from to ≡ over w l id to (load_rows w m from to)
load_is w l id from to m e =
    ap (λ (o : Option Message). option_map_or (λ x. loaded w l id to (load_rows w x from to)) o l) e
    ∙ ap (λ (k : Ledger). record k { admitted = map (read_to id to) l.admitted; waiting = l.waiting ++ load_rows w m from to; lines = join_lines id (load_rows w m from to) l.lines }) (with_records_is w (load_rows w m from to) l)

-- the same leftovers
leftovers_read : (w : World) (l : Ledger) (id : Id) (to : ℕ) (rows : List Row) → leftovers (over w l id to rows) ≡ leftovers l
leftovers_read w l id to rows =
    filter-same (λ x. not (is_admitted (over w l id to rows) x)) (λ x. not (is_admitted l x)) (λ x. ap not (any_read id x to l.admitted)) (ids_at is_active l.book)

active_same : (w : World) (l : Ledger) (id : Id) (to : ℕ) (rows : List Row) → found_active (over w l id to rows) ≡ found_active l
active_same w l id to rows =
    ap (λ ids. option_map_or (λ i. found_at l 0 i) (least id_before ids) founds.Nothing) (leftovers_read w l id to rows)

still_loaded : (seen : Seen) (w : World) (l : Ledger) (id : Id) (to : ℕ) (rows : List Row) → IsStillSeen seen l → IsStillSeen seen (over w l id to rows)
still_loaded Unknown w l id to rows h = tt
still_loaded (Known found) w l id to rows h = h

-- the recipients in memory
counted : (waiting more flights unsettled few limit n memory : ℕ) → memory ≡ waiting + flights + unsettled → memory ≤ limit → few ≤ limit - memory → more ≡ 0 + few → n ≡ few → min (memory + n) limit ≡ waiting + more + flights + unsettled
counted waiting more flights unsettled few limit n memory whole within fits rows read = grind (arith, whole, within, fits, rows, read)

-- what a load takes up fits in memory
pub record Fits (w : World) (l : Ledger) (m : Message) (from to : ℕ) : Type 0 where
  pub few : length (load_positions m from to) ≤ w.settings.recipient_limit - in_memory l

pub fits : (w : World) (l : Ledger) (id : Id) (from to : ℕ) (m : Message) → IsConsistent w l → message_of l.book id ≡ Some m → may_load w l id from to ≡ true → Fits w l m from to
fits w l id from to m k e may =
    let load = load_on w l id from to (admitted_of l id) (message_of l.book id) k refl refl may in
    let both : Some load.message ≡ Some m = sym load.there ∙ e in
    let same : load.message ≡ m = cc in
    record { few = subst (λ x. length (load_positions x from to) ≤ w.settings.recipient_limit - in_memory l) same load.end.few }

load_raw : {w : World} {c d : Core} {l : Ledger} → HoldsRaw w c l → IsConsistent w l → (id : Id) (from to : ℕ) (m : Message) (ts : List Taken) → message_of l.book id ≡ Some m → may_load w l id from to ≡ true →
    map (λ (t : Taken). t.position) ts ≡ load_positions m from to → IsLoaded c d id to ts (load_rows w m from to) → HoldsRaw w d (over w l id to (load_rows w m from to))
load_raw {w = w} {c = c} {d = d} {l = l} r k id from to m ts e may read change =
    let h = r.parts in
    let rows : List Row = load_rows w m from to in
    let next : Ledger = over w l id to rows in
    let kept : Core = record c { admitted = d.admitted; waiting = d.waiting; lines = d.lines; sites = d.sites; in_memory = d.in_memory; question = d.question; named = d.named } in
    let rest : d ≡ kept = change.rest ∙ ap (λ q. record c { admitted = d.admitted; waiting = d.waiting; lines = d.lines; sites = d.sites; in_memory = d.in_memory; question = q; named = d.named }) (sym (ap (λ (x : Core). x.question) change.rest)) in
    let sites : d.sites ≡ sites_after w l.sites rows =
    change.sites
    ∙ ap (λ (ss : List SiteRecord). ss ++ new_sites c.params ss [] rows) h.sites
    ∙ ap (λ (p : Settings). l.sites ++ new_sites p l.sites [] rows) h.settings
    ∙ sites_same w l.sites [] rows
    ∙ ap (λ ss. sites_after w ss rows) (append-nil l.sites) in
    let lines : d.lines ≡ map (jobs_of next) (enumerate_from 0 next.lines) =
    change.lines
    ∙ ap (λ (js : List (List Job)). map (joined_line id rows) (enumerate_from 0 js)) h.lines
    ∙ lines_joined w l id rows k (some_unread w l id from to may) in
    let admitted : d.admitted ≡ map (slot_of next) next.admitted = change.admitted ∙ ap (λ (ss : List Slot). map (changed_at id (read_up to)) ss) h.admitted ∙ slots_read l id to l.admitted in
    let row_sum : sum_by (λ (x : Row). length x.positions) (l.waiting ++ rows) ≡ sum_by (λ (x : Row). length x.positions) l.waiting + sum_by (λ (x : Row). length x.positions) rows = sum_by-append (λ (x : Row). length x.positions) l.waiting rows in
    let memory : d.in_memory ≡ in_memory next =
    change.memory
    ∙ ap (λ n. min (n + length ts) c.params.recipient_limit) h.memory
    ∙ ap (λ (p : Settings). min (in_memory l + length ts) p.recipient_limit) h.settings
    ∙ counted (sum_by (λ (x : Row). length x.positions) l.waiting) (sum_by (λ (x : Row). length x.positions) rows) (sum_by (λ (f : Delivery). length f.row.positions) l.flights) (length l.unsettled)
    (length (load_positions m from to)) w.settings.recipient_limit (length ts) (in_memory l) refl k.memory.recipients (fits w l id from to m k e may).few (rows_length w m [] (load_positions m from to))
    (sym (length-map ts (λ (t : Taken). t.position)) ∙ ap length read)
    ∙ ap (λ n. n + sum_by (λ (f : Delivery). length f.row.positions) l.flights + length l.unsettled) (sym row_sum) in
    let parts : AgreesButScan w kept next = record {
      settings = h.settings;
      count = (h.count ∙ sym (length-numbered (joins id rows) 0 l.lines));
      transports = (length-numbered (joins id rows) 0 l.lines ∙ h.transports);
      mode = h.mode;
      clock = h.clock;
      timed = h.timed;
      next_run = h.next_run;
      ignores = h.ignores;
      deferred_follows = h.deferred_follows;
      admitted = admitted;
      waiting = (change.waiting ∙ ap (λ (rs : List Row). rs ++ rows) h.waiting);
      flights = h.flights;
      memory = memory;
      served = h.served;
      unsettled = h.unsettled;
      lines = lines;
      sites = sites;
      synced = synced_fewer c.synced l next (all_left l next (leftovers_read w l id to rows)) refl h.synced;
      starts = h.starts;
      active = seen_same c.active (found_active next) (found_active l) (active_same w l id to rows) h.active;
      incoming = h.incoming;
    } in
    let raw : HoldsRaw w kept next = record { parts = parts; scan = r.scan; asked = r.asked; seen = still_loaded c.deferred w l id to rows r.seen } in
    subst (λ x. HoldsRaw w x next) (sym rest) raw

-- ---- no site comes to be unused

still_unused : (a b u : Bool) → ((not (a || b) && u) && not (not a && u)) ≡ false
still_unused true b u = refl
still_unused false true u = refl
still_unused false false true = refl
still_unused false false false = refl

load_used : (l : Ledger) (rows : List Row) (s : Site) → (is_unused_in (l.waiting ++ rows) l.flights s && not (is_unused_in l.waiting l.flights s)) ≡ false
load_used l rows s =
    ap (λ b. (not b && (busy_in l.flights s == 0)) && not (is_unused_in l.waiting l.flights s)) (list_any-append (λ (r : Row). site_eq r.site s) l.waiting rows)
    ∙ still_unused (waits_at_in l.waiting s) (waits_at_in rows s) (busy_in l.flights s == 0)

-- ---- the whole entry

-- the rows that the core makes are those of the load
pub rows_are : {w : World} {c : Core} {l : Ledger} → AgreesButScan w c l → (id : Id) (from to : ℕ) (m : Message) (ts : List Taken) → message_of l.book id ≡ Some m → map (λ (t : Taken). t.position) ts ≡ load_positions m from to →
    c.named ≡ map (λ p. w.table.route (address_at m p)) (load_positions m from to) → load_rows w m from to ≡ rows_in c.params.entry_limit id [] ts c.named
rows_are {w = w} {c = c} {l = l} h id from to m ts e read named =
    let name : m.id ≡ id = id_eq-true m.id id (find-passes (λ (x : Message). id_eq x.id id) l.book.messages m e) in
    sym (
    ap (λ (p : Settings). rows_in p.entry_limit id [] ts c.named) h.settings
    ∙ ap (λ i. rows_in w.settings.entry_limit i [] ts c.named) (sym name)
    ∙ ap (rows_in w.settings.entry_limit m.id [] ts) (named ∙ ap (map (λ p. w.table.route (address_at m p))) (sym read))
    ∙ rows_same w m ts []
    ∙ ap (rows_from w m []) read
    )

pub load_law : {w : World} {c u d : Core} {l : Ledger} → Agrees w c l → IsTrue (is_looked_at c) → (id : Id) (from to : ℕ) (m : Message) (ts : List Taken) → message_of l.book id ≡ Some m → may_load w l id from to ≡ true →
    map (λ (t : Taken). t.position) ts ≡ load_positions m from to → c.named ≡ map (λ p. w.table.route (address_at m p)) (load_positions m from to) →
    ((rows : List Row) → rows ≡ rows_in c.params.entry_limit id [] ts c.named → IsLoaded c u id to ts rows) → IsTidied u d → Matches w d (tidied w l (noted (entries.Load id from to) (after_load w l id from to)))
load_law {w = w} {c = c} {u = u} {d = d} {l = l} a looked id from to m ts e may read named change s =
    let raw = raw_law a.matches looked in
    let rows : List Row = load_rows w m from to in
    let entry : Entry = entries.Load id from to in
    let quiet : IsQuiet entry = record { no_admit = λ id. refl; no_start_of = λ id t. refl; no_charge = λ id t. refl; no_start = refl } in
    let done = load_raw raw a.consistent id from to m ts e may read (change rows (rows_are raw.parts id from to m ts e read named)) in
    let end : Matches w d (tidied w l (noted entry (over w l id to rows))) = tidy_used_law l (λ r. load_used l rows r.site) (note_law entry quiet done) s in
    subst (λ k. Matches w d (tidied w l (noted entry k))) (sym (load_is w l id from to m e)) end
