-- A load that is allowed makes of what is held what it is to be.
use Rattle.std.proofs.Common.{◌≡◌, ℕ, ◌+◌, ◌-◌, ◌^◌, ◌≤◌, Bool, true, false, cond, not, List, [], ◌∷◌, ◌++◌, length, map, min, filter, count_by, Option, Some, None, option_map, inl, inr, refl, sym, ap, ◌∙◌, subst, arith, if◌then◌else◌}
use Rattle.std.proofs.lemmas.Bool.{and_from, and_parts, not-true}
use Rattle.std.proofs.lemmas.List.Folds.{list_any-append}
use Rattle.std.proofs.lemmas.List.Sums.{count_by-le-length}
use Rattle.std.specs.List.{enumerate_from, list_all, list_any}
use Rattle.std.specs.Option.{option_map_or}
use Rattle.std.specs.Prelude.{◌&&◌, ◌||◌, ◌==◌, nat_le, nat_lt}
use Rattle.q_bare.specs.Bare.{bare}
use Rattle.q_bare.specs.CountedRows.{may_by}
use Rattle.q_bare.specs.Counts.{Counts}
use Rattle.q_fronts.specs.Fitting.{is_awaited}
use Rattle.q_laws.proofs.Batched.{AreOf, rows_of}
use Rattle.q_laws.proofs.Distinct.{id_eq-sym}
use Rattle.q_laws.proofs.Loaded.{any_read, find_read, read_to}
use Rattle.q_laws.proofs.Members.{all_append, all_from, all_weaker, find_in}
use Rattle.q_ledger.proofs.BareLaws.{bare_same}
use Rattle.q_ledger.proofs.CountedLaws.{counted_rows, each_counted}
use Rattle.q_ledger.proofs.HeldLaws.{held_bare}
use Rattle.q_ledger.proofs.JoinLaws.{sites_after, sites_joined, with_records_is}
use Rattle.q_ledger.proofs.ListLaws.{filter-same}
use Rattle.q_ledger.proofs.OwnLines.{lines_own, others_stay}
use Rattle.q_ledger.proofs.QuietLaws.{all_kept, all_stay, bare_tidy}
use Rattle.q_ledger.proofs.RowCounts.{count_append, count_cons}
use Rattle.q_ledger.proofs.SlotLaws.{unread_same}
use Rattle.q_ledger.specs.Beside.{IsBeside, IsCounted, IsOfLedger, recounted, rows_in}
use Rattle.q_ledger.specs.Counting.{count_changed}
use Rattle.q_ledger.specs.LinesLeft.{lines_by, rows_of as rows_that_wait, with_lines_left}
use Rattle.q_ledger.specs.Loading.{new_sites, rows_of_load, rows_read, slot_read}
use Rattle.q_ledger.specs.Slots.{row_of_slot}
use Rattle.q_ledger.specs.State.{State}
use Rattle.q_ledger.specs.Taking.{IsChanged, rows_tidied}
use Rattle.q_ledger.specs.declared.admitted.Slot.{Slot}
use Rattle.q_model.proofs.IdLaws.{id_eq-refl, id_eq-true}
use Rattle.q_model.specs.Batches.{load_end, load_positions, load_rows}
use Rattle.q_model.specs.Book.{ids_at, message_of}
use Rattle.q_model.specs.Ids.{id_eq}
use Rattle.q_model.specs.Ledger.{Ledger}
use Rattle.q_model.specs.Loads.{after_load, join_lines, joins, loaded, may_load, may_read}
use Rattle.q_model.specs.Memory.{admitted_of, free, has_waiting, is_admitted, unread_count, unread_of}
use Rattle.q_model.specs.Message.{Message}
use Rattle.q_model.specs.Places.{is_active}
use Rattle.q_model.specs.Settings.{World}
use Rattle.q_model.specs.Sites.{site_eq}
use Rattle.q_model.specs.Step.{stays}
use Rattle.q_model.specs.Values.{Served, SiteRecord}
use Rattle.q_model.specs.declared.entry.Entry.TheVariants as entries
use Rattle.q_model.specs.declared.id.Id.{Id}
use Rattle.q_model.specs.declared.rows.Admitted.{Admitted}
use Rattle.q_model.specs.declared.rows.Delivery.{Delivery}
use Rattle.q_model.specs.declared.rows.Row.{Row}
use Rattle.q_model.specs.declared.rows.Unsettled.{Unsettled}

-- ---- what the load is of

-- the message stands in the book, and none of its rows waits
pub record IsLoad (b : Ledger) (id : Id) : Type 0 where
  pub message : Message
  pub there : message_of b.book id ≡ Some message
  pub quiet : has_waiting b id ≡ false

load_on : (w : World) (b : Ledger) (id : Id) (from to : ℕ) (o : Option Admitted) (q : Option Message) → admitted_of b id ≡ o → message_of b.book id ≡ q →
    option_map_or (λ (a : Admitted). option_map_or (λ m. may_read w b a && (from == a.unread) && (to == load_end m from (free w b))) q false) o false ≡ true → IsLoad b id
load_on w b id from to None q found there may = absurd cc
load_on w b id from to (Some a) None found there may = absurd cc
load_on w b id from to (Some a) (Some m) found there may =
    let one = (and_parts (may_read w b a) (from == a.unread) (and_parts (may_read w b a && (from == a.unread)) (to == load_end m from (free w b)) may).0).0 in
    let two = (and_parts (nat_lt 0 (unread_count b a)) (not (has_waiting b a.id)) (and_parts (nat_lt 0 (unread_count b a) && not (has_waiting b a.id)) (nat_le (min w.settings.recipient_minimum (unread_count b a)) (free w b)) one).0).1 in
    let name : a.id ≡ id = id_eq-true a.id id (find_in (λ (x : Admitted). id_eq x.id id) a b.admitted found).1 in
    record { message = m; there = there; quiet = ap (has_waiting b) (sym name) ∙ not-true (has_waiting b a.id) two }

pub load_is_of : (w : World) (b : Ledger) (id : Id) (from to : ℕ) → may_load w b id from to ≡ true → IsLoad b id
load_is_of w b id from to may = load_on w b id from to (admitted_of b id) (message_of b.book id) refl refl may

-- ---- the rows of a load

none_of : (id : Id) → AreOf id []
none_of id r inside = absurd inside

rows_on : (w : World) (id : Id) (from to : ℕ) (o : Option Message) → ((m : Message) → o ≡ Some m → m.id ≡ id) → AreOf id (option_map_or (λ m. load_rows w m from to) o [])
rows_on w id from to None name = none_of id
rows_on w id from to (Some m) name = subst (λ (i : Id). AreOf i (load_rows w m from to)) (name m refl) (rows_of w m [] (load_positions m from to) (none_of m.id))

-- each is of the message
pub loaded_own : (w : World) (s : State) (id : Id) (from to : ℕ) → AreOf id (rows_of_load w s id from to)
loaded_own w s id from to = rows_on w id from to (message_of s.ledger.book id)
    (λ m there. id_eq-true m.id id (find_in (λ (x : Message). id_eq x.id id) m s.ledger.book.messages there).1)

own_same : (id : Id) (r : Row) → r.id ≡ id → id_eq r.id id ≡ true
own_same id r name = ap (λ (i : Id). id_eq i id) name ∙ id_eq-refl id

pub all_own : (id : Id) (rows : List Row) → AreOf id rows → list_all (λ (r : Row). id_eq r.id id) rows ≡ true
all_own id rows h = all_from (λ (r : Row). id_eq r.id id) rows (λ r inside. own_same id r (h r inside))

count_own : (id : Id) (rows : List Row) → AreOf id rows → count_by (λ (r : Row). id_eq r.id id) rows ≡ length rows
count_own id [] h = refl
count_own id (r ∷ rows) h =
    let first : ◌≡◌ {A = ℕ} (cond (id_eq r.id id) 1 0) 1 = ap (λ b. cond b 1 0) (own_same id r (h r (inl refl))) in
    let rest = count_own id rows (λ x inside. h x (inr inside)) in
    let step = count_cons (λ (x : Row). id_eq x.id id) r rows in
    omega (arith, first, rest, step)

count_other : (id i : Id) (rows : List Row) → AreOf id rows → id_eq id i ≡ false → count_by (λ (r : Row). id_eq r.id i) rows ≡ 0
count_other id i [] h other = refl
count_other id i (r ∷ rows) h other =
    let first : ◌≡◌ {A = ℕ} (cond (id_eq r.id i) 1 0) 0 = ap (λ (j : Id). cond (id_eq j i) 1 0) (h r (inl refl)) ∙ ap (λ b. cond b 1 0) other in
    let rest = count_other id i rows (λ x inside. h x (inr inside)) other in
    let step = count_cons (λ (x : Row). id_eq x.id i) r rows in
    omega (arith, first, rest, step)

-- ---- the ledger

-- the ledger with these rows read
abbrev over : World → Ledger → Id → ℕ → List Row → Ledger
over w b id to rows = record b {
  admitted = map (read_to id to) b.admitted;
  waiting = b.waiting ++ rows;
  lines = join_lines id rows b.lines;
  sites = sites_after w b.sites rows;
}

load_is : (w : World) (s : State) (id : Id) (from to : ℕ) (m : Message) → message_of s.ledger.book id ≡ Some m → after_load w s.ledger id from to ≡ over w s.ledger id to (rows_of_load w s id from to)
load_is w s id from to m e =
    let b = s.ledger in
    ap (λ (o : Option Message). option_map_or (λ x. loaded w b id to (load_rows w x from to)) o b) e
    ∙ ap (λ (k : Ledger). record k { admitted = map (read_to id to) b.admitted; waiting = b.waiting ++ load_rows w m from to; lines = join_lines id (load_rows w m from to) b.lines }) (with_records_is w (load_rows w m from to) b)
    ∙ ap (λ (o : Option Message). over w b id to (option_map_or (λ x. load_rows w x from to) o [])) (sym e)

slot_step : (id : Id) (to n : ℕ) (x : Slot) (c b : Bool) →
    row_of_slot (if b then record (if c then record x { rows = min (x.rows + n) (2 ^ 128 - 1) - 0 } else x) { unread = to } else (if c then record x { rows = min (x.rows + n) (2 ^ 128 - 1) - 0 } else x))
    ≡ (if b then record (row_of_slot x) { unread = to } else row_of_slot x)
slot_step id to n x true true = refl
slot_step id to n x true false = refl
slot_step id to n x false true = refl
slot_step id to n x false false = refl

same_name : (id : Id) (n : ℕ) (x : Slot) (c : Bool) → (if c then record x { rows = min (x.rows + n) (2 ^ 128 - 1) - 0 } else x).id ≡ x.id
same_name id n x true = refl
same_name id n x false = refl

slot_row : (id : Id) (to n : ℕ) (x : Slot) → row_of_slot (slot_read id to (count_changed id n 0 x)) ≡ read_to id to (row_of_slot x)
slot_row id to n x =
    ap (λ (i : Id). row_of_slot (if id_eq i id then record (count_changed id n 0 x) { unread = to } else count_changed id n 0 x)) (same_name id n x (id_eq x.id id))
    ∙ slot_step id to n x (id_eq x.id id) (id_eq x.id id)

rows_same : (id : Id) (to n : ℕ) (xs : List Slot) → map row_of_slot (map (slot_read id to) (map (count_changed id n 0) xs)) ≡ map (read_to id to) (map row_of_slot xs)
rows_same id to n [] = refl
rows_same id to n (x ∷ xs) =
    ap (λ (r : Admitted). r ∷ map row_of_slot (map (slot_read id to) (map (count_changed id n 0) xs))) (slot_row id to n x)
    ∙ ap (λ (rs : List Admitted). read_to id to (row_of_slot x) ∷ rs) (rows_same id to n xs)

ledger_read : (w : World) (s : State) (id : Id) (to : ℕ) (rows : List Row) → IsBeside s → (rows_read w.settings id to rows s).ledger ≡ over w s.ledger id to rows
ledger_read w s id to rows beside =
    let b = s.ledger in
    ap (λ (rs : List Admitted). record b { admitted = rs; waiting = b.waiting ++ rows; lines = join_lines id rows b.lines; sites = b.sites ++ new_sites w.settings b.sites [] rows })
    (rows_same id to (length rows) s.slots ∙ ap (map (read_to id to)) (sym beside.counted.admitted))
    ∙ ap (λ (rs : List SiteRecord). record b { admitted = map (read_to id to) b.admitted; waiting = b.waiting ++ rows; lines = join_lines id rows b.lines; sites = rs }) (sites_joined w b.sites rows)

-- ---- the counts

-- the rows wait, and are counted
abbrev more_waiting : State → Id → List Row → State
more_waiting s id rows = record s {
  ledger = record s.ledger { waiting = s.ledger.waiting ++ rows };
  slots = map (count_changed id (length rows) 0) s.slots;
}

more_counted : (s : State) (id : Id) (rows : List Row) → IsCounted s → AreOf id rows →
    length s.ledger.waiting + length s.ledger.flights + length s.ledger.unsettled + length rows ≤ 2 ^ 128 - 1 → IsCounted (more_waiting s id rows)
more_counted s id rows counted own few =
    let l = s.ledger in
    let a = count_append (λ (r : Row). id_eq r.id id) l.waiting rows in
    let mine = count_own id rows own in
    let x = count_by-le-length (λ (r : Row). id_eq r.id id) l.waiting in
    let y = count_by-le-length (λ (f : Delivery). id_eq f.row.id id) l.flights in
    let z = count_by-le-length (λ (u : Unsettled). id_eq u.id id) l.unsettled in
    let fits : rows_in l id + length rows ≤ 2 ^ 128 - 1 = omega (arith, x, y, z, few) in
    let free : min (rows_in l id + length rows) (2 ^ 128 - 1) ≡ rows_in l id + length rows = omega (arith, fits) in
    counted_rows s (more_waiting s id rows) id (length rows) 0 counted refl refl (λ i. refl)
    (λ i other. let c = count_append (λ (r : Row). id_eq r.id i) l.waiting rows in let none = count_other id i rows own (id_eq-sym i id other) in omega (arith, c, none))
    (omega (arith, a, mine, free))

read_step : (l : Ledger) (id : Id) (to : ℕ) (x : Slot) (b : Bool) → x ≡ recounted l x → (if b then record x { unread = to } else x) ≡ recounted l (if b then record x { unread = to } else x)
read_step l id to x true e = ap (λ (y : Slot). record y { unread = to }) e
read_step l id to x false e = e

read_counted : (w : World) (s : State) (id : Id) (to : ℕ) (rows : List Row) → IsCounted (more_waiting s id rows) → IsCounted (rows_read w.settings id to rows s)
read_counted w s id to rows h = record {
  admitted = refl;
  slots = each_counted (more_waiting s id rows).ledger (rows_read w.settings id to rows s).ledger (slot_read id to)
      (λ x e. read_step (more_waiting s id rows).ledger id to x (id_eq x.id id) e) (more_waiting s id rows).slots h.slots;
}

-- ---- what stays in lines, and what was served

-- of the others as much is unread
unread_others : (w : World) (b : Ledger) (id i : Id) (to : ℕ) (rows : List Row) → id_eq i id ≡ false → unread_of (over w b id to rows) i ≡ unread_of b i
unread_others w b id i to rows other = ap (λ (o : Option Admitted). option_map_or (λ (a : Admitted). unread_count b a) o 0) (find_read id i to b.admitted) ∙ on (admitted_of b i) refl
  where
    same : (a : Admitted) (t : Bool) → id_eq a.id id ≡ t → t ≡ false → (if t then record a { unread = to } else a) ≡ a
    same a true e h = absurd cc
    same a false e h = refl

    on : (o : Option Admitted) → admitted_of b i ≡ o → option_map_or (λ (a : Admitted). unread_count b a) (option_map (read_to id to) o) 0 ≡ option_map_or (λ (a : Admitted). unread_count b a) o 0
    on None e = refl
    on (Some a) e =
        let name : a.id ≡ i = id_eq-true a.id i (find_in (λ (x : Admitted). id_eq x.id i) a b.admitted e).1 in
        ap (unread_count b) (same a (id_eq a.id id) refl (ap (λ (j : Id). id_eq j id) name ∙ other))

or_more : (u a c : Bool) → (u || a) ≡ true → (u || (a || c)) ≡ true
or_more true a c h = refl
or_more false true c h = refl
or_more false false c h = absurd cc

others_still : (w : World) (b : Ledger) (id : Id) (to : ℕ) (rows : List Row) (n : ℕ) (i : Id) → id_eq i id ≡ false → stays b n i ≡ true → stays (over w b id to rows) n i ≡ true
others_still w b id to rows n i other h =
    let test : Row → Bool = λ (r : Row). id_eq r.id i && (r.site.transport == n) in
    ap (λ k. not (k == 0) || list_any test (b.waiting ++ rows)) (unread_others w b id i to rows other)
    ∙ ap (λ t. not (unread_of b i == 0) || t) (list_any-append test b.waiting rows)
    ∙ or_more (not (unread_of b i == 0)) (list_any test b.waiting) (list_any test rows) h

still_served : (rows more : List Row) (served : List Served) → list_all (is_awaited rows) served ≡ true → list_all (is_awaited (rows ++ more)) served ≡ true
still_served rows more served h = all_weaker (is_awaited rows) (is_awaited (rows ++ more)) served
    (λ x inside e. list_any-append (λ (r : Row). id_eq r.id x.id && site_eq r.site x.site) rows more ∙ or_more false (list_any (λ (r : Row). id_eq r.id x.id && site_eq r.site x.site) rows) (list_any (λ (r : Row). id_eq r.id x.id && site_eq r.site x.site) more) e) h

-- the joined line: each other job stays
line_others : (w : World) (b : Ledger) (id : Id) (to : ℕ) (rows : List Row) (n : ℕ) (ids : List Id) → list_all (stays b n) ids ≡ true →
    list_all (λ i. id_eq i id || stays (over w b id to rows) n i) (joins id rows (n, ids)) ≡ true
line_others w b id to rows n ids h = on (list_any (λ (r : Row). r.site.transport == n) rows && not (list_any (id_eq id) ids))
  where
    each : (i : Id) (t : Bool) → id_eq i id ≡ t → stays b n i ≡ true → (t || stays (over w b id to rows) n i) ≡ true
    each i true e st = refl
    each i false e st = others_still w b id to rows n i e st

    old : list_all (λ i. id_eq i id || stays (over w b id to rows) n i) ids ≡ true
    old = all_weaker (stays b n) (λ i. id_eq i id || stays (over w b id to rows) n i) ids (λ i inside st. each i (id_eq i id) refl st) h

    own : list_all (λ i. id_eq i id || stays (over w b id to rows) n i) (id ∷ []) ≡ true
    own = ap (λ t. (t || stays (over w b id to rows) n id) && true) (id_eq-refl id)

    on : (t : Bool) → list_all (λ i. id_eq i id || stays (over w b id to rows) n i) (if t then ids ++ id ∷ [] else ids) ≡ true
    on false = old
    on true = all_append (λ i. id_eq i id || stays (over w b id to rows) n i) ids (id ∷ []) old own

joined_others : (w : World) (b : Ledger) (id : Id) (to : ℕ) (rows : List Row) (n : ℕ) (lines : List (List Id)) → all_stay b n lines ≡ true →
    others_stay (over w b id to rows) id n (map (joins id rows) (enumerate_from n lines)) ≡ true
joined_others w b id to rows n [] h = refl
joined_others w b id to rows n (ids ∷ lines) h =
    let two = and_parts (list_all (stays b n) ids) (all_stay b (n + 1) lines) h in
    and_from (list_all (λ i. id_eq i id || stays (over w b id to rows) n i) (joins id rows (n, ids)))
    (others_stay (over w b id to rows) id (n + 1) (map (joins id rows) (enumerate_from (n + 1) lines)))
    (line_others w b id to rows n ids two.0) (joined_others w b id to rows (n + 1) lines two.1)

-- ---- the entry

-- the rows are read, and the message has left the lines in which it has nothing left
abbrev pub loaded_in : World → State → Id → ℕ → ℕ → State
loaded_in w s id from to = with_lines_left id (rows_read w.settings id to (rows_of_load w s id from to) s)

tidied_read : (w : World) (c : Counts) (s : State) (id : Id) (to : ℕ) (rows : List Row) → IsOfLedger w c s.ledger →
    rows_tidied (over w s.ledger id to rows) ≡ record (over w s.ledger id to rows) {
      lines = lines_by (rows_that_wait (over w s.ledger id to rows) id) (not (unread_of (over w s.ledger id to rows) id == 0)) id (join_lines id rows s.ledger.lines);
    }
tidied_read w c s id to rows held =
    let b = s.ledger in
    let k = over w b id to rows in
    let tidy = bare_tidy w c b held in
    ap (λ (ls : List (List Id)). record k { lines = ls; served = filter (is_awaited k.waiting) k.served }) (lines_own k id 0 k.lines (joined_others w b id to rows 0 b.lines tidy.lines))
    ∙ ap (λ (ss : List Served). record k { lines = lines_by (rows_that_wait k id) (not (unread_of k id == 0)) id k.lines; served = ss })
    (all_kept (is_awaited k.waiting) k.served (still_served b.waiting rows b.served tidy.served))

ledger_law : (w : World) (c : Counts) (s : State) (id : Id) (from to : ℕ) → IsOfLedger w c s.ledger → IsBeside s → (m : IsLoad s.ledger id) → IsCounted (rows_read w.settings id to (rows_of_load w s id from to) s) →
    (loaded_in w s id from to).ledger ≡ rows_tidied (bare (after_load w s.ledger id from to))
ledger_law w c s id from to held beside m counted =
    let b = s.ledger in
    let rows = rows_of_load w s id from to in
    let u = rows_read w.settings id to rows s in
    let k = over w b id to rows in
    let same : u.ledger ≡ k = ledger_read w s id to rows beside in
    ap (λ n. record u.ledger { lines = lines_by (rows_that_wait u.ledger id) (not (n == 0)) id u.ledger.lines }) (unread_same u counted id)
    ∙ ap (λ (x : Ledger). record x { lines = lines_by (rows_that_wait x id) (not (unread_of x id == 0)) id x.lines }) same
    ∙ sym (tidied_read w c s id to rows held)
    ∙ sym (ap rows_tidied (ap bare (load_is w s id from to m.message m.there) ∙ bare_same b k (held_bare w c b held) refl refl))

leftovers_law : (w : World) (b : Ledger) (id : Id) (to : ℕ) → filter (λ x. not (is_admitted b x)) (ids_at is_active b.book) ≡ filter (λ x. not (list_any (λ (a : Admitted). id_eq a.id x) (map (read_to id to) b.admitted))) (ids_at is_active b.book)
leftovers_law w b id to = filter-same (λ x. not (is_admitted b x)) (λ x. not (list_any (λ (a : Admitted). id_eq a.id x) (map (read_to id to) b.admitted))) (λ x. ap not (sym (any_read id x to b.admitted))) (ids_at is_active b.book)

pub load_changes : (w : World) (c : Counts) (s : State) (id : Id) (from to : ℕ) → IsOfLedger w c s.ledger → IsBeside s → may_by c w s.ledger (entries.Load id from to) ≡ true →
    length s.ledger.waiting + length s.ledger.flights + length s.ledger.unsettled + length (rows_of_load w s id from to) ≤ 2 ^ 128 - 1 →
    IsChanged w s.ledger (entries.Load id from to) (loaded_in w s id from to)
load_changes w c s id from to held beside may few =
    let b = s.ledger in
    let rows = rows_of_load w s id from to in
    let u = rows_read w.settings id to rows s in
    let m = load_is_of w b id from to may in
    let counted = read_counted w s id to rows (more_counted s id rows beside.counted (loaded_own w s id from to) few) in
    record {
      ledger = ledger_law w c s id from to held beside m counted;
      counted = record { admitted = counted.admitted; slots = counted.slots };
      leftovers = beside.leftovers ∙ leftovers_law w b id to
          ∙ ap (λ (l : Ledger). filter (λ x. not (is_admitted l x)) (ids_at is_active l.book)) (sym (ledger_read w s id to rows beside));
      left = beside.left;
    }
