-- A message joins lines, its sites get records, and it was read further: the core's lists are the ledger's.
use Rattle.std.proofs.Common.{◌≡◌, ℕ, ◌+◌, ◌<◌, Bool, true, false, List, [], ◌∷◌, ◌++◌, map, refl, sym, ap, ◌∙◌, Option, Some, None, arith, append_assoc, min, if◌then◌else◌, eqb-true, ltb-true}
use Rattle.std.proofs.lemmas.List.{map-append}
use Rattle.std.proofs.lemmas.List.Folds.{list_any-append}
use Rattle.std.specs.List.{enumerate_from, list_any}
use Rattle.std.specs.Option.{option_map_or}
use Rattle.std.specs.Prelude.{◌&&◌, ◌||◌, ◌==◌, nat_le, nat_lt, not, slice_get}
use Rattle.q_core.proofs.AccountLaws.{lines_changed}
use Rattle.q_core.proofs.ListLaws.{list_any-map}
use Rattle.q_core.proofs.MovedLaws.{not_true}
use Rattle.q_core.proofs.NameLaws.{and_true_parts}
use Rattle.q_core.specs.Agrees.{job_of, jobs_of, slot_of}
use Rattle.q_core.specs.Loading.{has_record, joined_line, new_sites, rows_in, with_site}
use Rattle.q_pool.specs.Slots.{changed_at, read_up}
use Rattle.q_jobs.specs.declared.job.Job.{Job}
use Rattle.q_laws.proofs.Loaded.{read_to}
use Rattle.q_laws.specs.Consistency.{IsConsistent, IsFresh}
use Rattle.q_model.specs.Accounts.{charged, starts_of}
use Rattle.q_model.specs.Batches.{join_rows, load_end, rows_from}
use Rattle.q_model.specs.Book.{message_of}
use Rattle.q_model.specs.Sites.{site_eq}
use Rattle.q_model.specs.Ids.{id_eq}
use Rattle.q_model.specs.Ledger.{Ledger}
use Rattle.q_model.specs.Loads.{join_lines, joins, may_load, may_read, with_records}
use Rattle.q_model.specs.Memory.{admitted_of, free, has_waiting, unread_count, unread_of}
use Rattle.q_model.specs.Message.{Message, address_at}
use Rattle.q_model.specs.Settings.{World}
use Rattle.q_model.specs.SiteRecords.{new_record, with_record}
use Rattle.q_model.specs.Startable.{line_of}
use Rattle.q_model.specs.Values.{Site, SiteRecord, Taken}
use Rattle.q_model.specs.declared.id.Id.{Id}
use Rattle.q_model.specs.declared.rows.Admitted.{Admitted}
use Rattle.q_model.specs.declared.rows.Row.{Row}

-- ---- rows

pub rows_same : (w : World) (m : Message) (ts : List Taken) (rows : List Row) →
    rows_in w.settings.entry_limit m.id rows ts (map (λ p. w.table.route (address_at m p)) (map (λ (t : Taken). t.position) ts)) ≡ rows_from w m rows (map (λ (t : Taken). t.position) ts)
rows_same w m [] rows = refl
rows_same w m (t ∷ ts) rows = rows_same w m ts (join_rows w.settings.entry_limit m.id (w.table.route (address_at m t.position)) t.position rows)

-- ---- sites

-- the records, with one for each site of these rows
abbrev pub sites_after : World → List SiteRecord → List Row → List SiteRecord
sites_after w sites [] = sites
sites_after w sites (r ∷ rs) = sites_after w (with_record w sites r.site) rs

pub with_records_is : (w : World) (rows : List Row) (l : Ledger) → with_records w rows l ≡ record l { sites = sites_after w l.sites rows }
with_records_is w [] l = refl
with_records_is w (r ∷ rs) l = with_records_is w rs (record l { sites = with_record w l.sites r.site })

either_known : (w : World) (records fresh : List SiteRecord) (site : Site) (b : Bool) →
    (records ++ (if b then fresh else fresh ++ new_record w site ∷ [])) ≡ (if b then records ++ fresh else (records ++ fresh) ++ new_record w site ∷ [])
either_known w records fresh site true = refl
either_known w records fresh site false = sym (append_assoc records fresh (new_record w site ∷ []))

site_known : (w : World) (records fresh : List SiteRecord) (site : Site) → (records ++ with_site w.settings records site fresh) ≡ with_record w (records ++ fresh) site
site_known w records fresh site =
    either_known w records fresh site (has_record records site || has_record fresh site)
    ∙ ap (λ b. if b then records ++ fresh else (records ++ fresh) ++ new_record w site ∷ []) (sym (list_any-append (λ (r : SiteRecord). site_eq r.site site) records fresh))

pub sites_same : (w : World) (records fresh : List SiteRecord) (rows : List Row) → (records ++ new_sites w.settings records fresh rows) ≡ sites_after w (records ++ fresh) rows
sites_same w records fresh [] = refl
sites_same w records fresh (r ∷ rs) = sites_same w records (with_site w.settings records r.site fresh) rs ∙ ap (λ ss. sites_after w ss rs) (site_known w records fresh r.site)

-- ---- messages in memory

slot_step : (l : Ledger) (to : ℕ) (a : Admitted) (b : Bool) → (if b then read_up to (slot_of l a) else slot_of l a) ≡ slot_of l (if b then record a { unread = to } else a)
slot_step l to a true = refl
slot_step l to a false = refl

pub slots_read : (l : Ledger) (id : Id) (to : ℕ) (xs : List Admitted) → map (changed_at id (read_up to)) (map (slot_of l) xs) ≡ map (slot_of l) (map (read_to id to) xs)
slots_read l id to [] = refl
slots_read l id to (a ∷ xs) =
    ap (λ s. s ∷ map (changed_at id (read_up to)) (map (slot_of l) xs)) (slot_step l to a (id_eq a.id id))
    ∙ ap (λ ss. slot_of l (read_to id to a) ∷ ss) (slots_read l id to xs)

-- ---- lines

not_none : (n : ℕ) → nat_lt 0 n ≡ true → (n == 0) ≡ false
not_none n h = which (n == 0) refl
  where
    which : (b : Bool) → (n == 0) ≡ b → b ≡ false
    which false e = refl
    which true e = let none : n ≡ 0 = eqb-true n 0 e in let some : 0 < n = ltb-true 0 n h in absurd (omega (arith, none, some))

some_on : (w : World) (l : Ledger) (id : Id) (from to : ℕ) (o : Option Admitted) (q : Option Message) →
    option_map_or (λ (a : Admitted). option_map_or (λ m. may_read w l a && (from == a.unread) && (to == load_end m from (free w l))) q false) o false ≡ true → nat_lt 0 (option_map_or (λ (a : Admitted). unread_count l a) o 0) ≡ true
some_on w l id from to None q h = cc
some_on w l id from to (Some a) None h = cc
some_on w l id from to (Some a) (Some m) h =
    let two = and_true_parts (may_read w l a && (from == a.unread)) (to == load_end m from (free w l)) h in
    let one = and_true_parts (may_read w l a) (from == a.unread) two.0 in
    let reads = and_true_parts (nat_lt 0 (unread_count l a) && not (has_waiting l a.id)) (nat_le (min w.settings.recipient_minimum (unread_count l a)) (free w l)) one.0 in
    (and_true_parts (nat_lt 0 (unread_count l a)) (not (has_waiting l a.id)) reads.0).0

-- something of the message wasn't read
pub some_unread : (w : World) (l : Ledger) (id : Id) (from to : ℕ) → may_load w l id from to ≡ true → (unread_of l id == 0) ≡ false
some_unread w l id from to may = not_none (unread_of l id) (some_on w l id from to (admitted_of l id) (option_map_or (λ (a : Admitted). message_of l.book id) (admitted_of l id) None) (same (admitted_of l id) may))
  where
    same : (o : Option Admitted) → option_map_or (λ (a : Admitted). option_map_or (λ m. may_read w l a && (from == a.unread) && (to == load_end m from (free w l))) (message_of l.book id) false) o false ≡ true →
        option_map_or (λ (a : Admitted). option_map_or (λ m. may_read w l a && (from == a.unread) && (to == load_end m from (free w l))) (option_map_or (λ (x : Admitted). message_of l.book id) o None) false) o false ≡ true
    same None h = h
    same (Some a) h = h

join_case : (l : Ledger) (j : ℕ) (id : Id) (ids : List Id) (b : Bool) → (b ≡ true → record { id = id; starts = 0; charged = 0 } ≡ job_of l j id) →
    (if b then map (job_of l j) ids ++ record { id = id; starts = 0; charged = 0 } ∷ [] else map (job_of l j) ids) ≡ map (job_of l j) (if b then ids ++ id ∷ [] else ids)
join_case l j id ids false fresh = refl
join_case l j id ids true fresh = ap (λ x. map (job_of l j) ids ++ x ∷ []) (fresh refl) ∙ sym (map-append (job_of l j) ids (id ∷ []))

fresh_job : (l : Ledger) (j : ℕ) (id : Id) → (starts_of l id j ≡ 0) × (charged l id j ≡ 0) → record { id = id; starts = 0; charged = 0 } ≡ job_of l j id
fresh_job l j id h = ap (λ n. record { id = id; starts = n; charged = 0 }) (sym h.0) ∙ ap (λ n. record { id = id; starts = starts_of l id j; charged = n }) (sym h.1)

line_is : (l : Ledger) (i j : ℕ) (ids : List Id) → j ≡ 0 + i → slice_get l.lines i ≡ Some ids → line_of l j ≡ ids
line_is l i j ids e there =
    let same : j ≡ i = omega (arith, e) in
    ap (λ n. option_map_or (λ (xs : List Id). xs) (slice_get l.lines n) []) same ∙ ap (λ o. option_map_or (λ (xs : List Id). xs) o []) there

line_joined : (l : Ledger) (id : Id) (rows : List Row) (i j : ℕ) (ids : List Id) → IsFresh l id j → (unread_of l id == 0) ≡ false → j ≡ 0 + i → slice_get l.lines i ≡ Some ids →
    joined_line id rows (j, map (job_of l j) ids) ≡ map (job_of l j) (joins id rows (j, ids))
line_joined l id rows i j ids fresh some e there =
    let any : Bool = list_any (λ (r : Row). r.site.transport == j) rows in
    ap (λ b. if any && not b then map (job_of l j) ids ++ record { id = id; starts = 0; charged = 0 } ∷ [] else map (job_of l j) ids) (list_any-map (λ (x : Job). id_eq id x.id) (job_of l j) ids)
    ∙ join_case l j id ids (any && not (list_any (id_eq id) ids)) (λ h.
    fresh_job l j id (fresh some (ap (list_any (id_eq id)) (line_is l i j ids e there) ∙ not_true (list_any (id_eq id) ids) (and_true_parts any (not (list_any (id_eq id) ids)) h).1)))

pub lines_joined : (w : World) (l : Ledger) (id : Id) (rows : List Row) → IsConsistent w l → (unread_of l id == 0) ≡ false →
    map (joined_line id rows) (enumerate_from 0 (map (jobs_of l) (enumerate_from 0 l.lines))) ≡ map (jobs_of l) (enumerate_from 0 (join_lines id rows l.lines))
lines_joined w l id rows k some = lines_changed l l (joined_line id rows) (joins id rows) 0 l.lines (λ i j ids e there. line_joined l id rows i j ids (k.memory.fresh id j) some e there)
