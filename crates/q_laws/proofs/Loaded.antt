-- What fits together still does xs recipients of a message are read.
use Rattle.std.proofs.Common.{◌≡◌, ℕ, zero, suc, ◌+◌, ◌≤◌, ◌<◌, min, Bool, true, false, cond, not, List, [], ◌∷◌, ◌++◌, map, find, length, Option, Some, None, option_map, ◌⊎◌, inl, inr, refl, sym, ap, ◌∙◌, subst, arith, if◌then◌else◌, eqb-true, leb-true, ltb-true, lt-ltb}
use Rattle.std.proofs.lemmas.Bool.{and_parts}
use Rattle.std.proofs.lemmas.Grind.{flat_map-append}
use Rattle.std.proofs.lemmas.Option.{same_Some}
use Rattle.std.specs.List.{list_any}
use Rattle.std.specs.Option.{option_map_or}
use Rattle.std.specs.Prelude.{◌==◌, ◌&&◌, ◌||◌, nat_le, nat_lt}
use Rattle.q_laws.proofs.Batched.{IsEnd, end_is, rows_count, loaded_once, loaded_at}
use Rattle.q_laws.proofs.Counts.{all_fewer, in_times, once_fewer, once_times, times, times_append, times_in, times_none, times_once}
use Rattle.q_laws.proofs.Distinct.{id_same}
use Rattle.q_laws.proofs.Mapped.{found_step}
use Rattle.q_laws.proofs.Members.{IsIn, all_at, all_from, find_in}
use Rattle.q_laws.specs.Consistency.{IsConsistent, IsRemembered, flight_positions, is_within, memory_positions, unsettled_positions, waiting_positions}
use Rattle.q_model.proofs.IdLaws.{id_eq-true}
use Rattle.q_model.specs.Batches.{load_end, load_positions, load_rows}
use Rattle.q_model.specs.Book.{message_of}
use Rattle.q_model.specs.Ids.{id_eq}
use Rattle.q_model.specs.Ledger.{Ledger}
use Rattle.q_model.specs.Loads.{join_lines, may_read, with_records}
use Rattle.q_model.specs.Marking.{is_unmarked_at}
use Rattle.q_model.specs.Memory.{admitted_of, free, has_waiting, unread_count}
use Rattle.q_model.specs.Message.{Message}
use Rattle.q_model.specs.Settings.{World}
use Rattle.q_model.specs.SiteRecords.{with_record}
use Rattle.q_model.specs.Values.{SiteRecord}
use Rattle.q_model.specs.declared.entry.Entry.{Entry}
use Rattle.q_model.specs.declared.id.Id.{Id}
use Rattle.q_model.specs.declared.rows.Admitted.{Admitted}
use Rattle.q_model.specs.declared.rows.Row.{Row}

-- of a ledger only the sites gain records
pub records_is : (w : World) (rows : List Row) (l : Ledger) → (s : List SiteRecord) × (with_records w rows l ≡ record l { sites = s })
records_is w [] l = (l.sites, refl)
records_is w (r ∷ rs) l = let rest = records_is w rs (record l { sites = with_record w l.sites r.site }) in (rest.0, rest.1)

-- a message in memory, read xs far xs this where it is the one of this id
abbrev pub read_to : Id → ℕ → Admitted → Admitted
read_to id to a = if id_eq a.id id then record a { unread = to } else a

pub read_name : (id : Id) (to : ℕ) (a : Admitted) → (read_to id to a).id ≡ a.id
read_name id to a = which (id_eq a.id id)
  where
    which : (b : Bool) → (if b then record a { unread = to } else a).id ≡ a.id
    which true = refl
    which false = refl

-- the ledger after the load
abbrev pub loaded_ledger : Ledger → Id → ℕ → List Row → List SiteRecord → Entry → Ledger
loaded_ledger l id to rows sites e = record l { admitted = map (read_to id to) l.admitted; waiting = l.waiting ++ rows; lines = join_lines id rows l.lines; sites = sites; past = e ∷ l.past }

-- ---- who is in memory

pub names_read : (id : Id) (to : ℕ) (xs : List Admitted) → map (λ (a : Admitted). a.id) (map (read_to id to) xs) ≡ map (λ (a : Admitted). a.id) xs
names_read id to [] = refl
names_read id to (a ∷ xs) = ap (λ (i : Id). i ∷ map (λ (x : Admitted). x.id) (map (read_to id to) xs)) (read_name id to a) ∙ ap (λ (is : List Id). a.id ∷ is) (names_read id to xs)

pub any_read : (id i : Id) (to : ℕ) (xs : List Admitted) → list_any (λ (a : Admitted). id_eq a.id i) (map (read_to id to) xs) ≡ list_any (λ (a : Admitted). id_eq a.id i) xs
any_read id i to [] = refl
any_read id i to (a ∷ xs) = ap (λ (j : Id). id_eq j i || list_any (λ (x : Admitted). id_eq x.id i) (map (read_to id to) xs)) (read_name id to a) ∙ ap (λ b. id_eq a.id i || b) (any_read id i to xs)

pub find_read : (id i : Id) (to : ℕ) (xs : List Admitted) → find (λ (a : Admitted). id_eq a.id i) (map (read_to id to) xs) ≡ option_map (read_to id to) (find (λ (a : Admitted). id_eq a.id i) xs)
find_read id i to [] = refl
find_read id i to (a ∷ xs) =
    ap (λ (j : Id). cond (id_eq j i) (Some (read_to id to a)) (find (λ (x : Admitted). id_eq x.id i) (map (read_to id to) xs))) (read_name id to a)
    ∙ ap (cond (id_eq a.id i) (Some (read_to id to a))) (find_read id i to xs) ∙ found_step (read_to id to) (id_eq a.id i) a (find (λ (x : Admitted). id_eq x.id i) xs)

pub read_on : (id : Id) (to : ℕ) (o : Option Admitted) (b : Admitted) → option_map (read_to id to) o ≡ Some b → (a : Admitted) × (o ≡ Some a) × (read_to id to a ≡ b)
read_on id to None b h = absurd cc
read_on id to (Some a) b h = (a, refl, same_Some (read_to id to a) b h)

-- ---- what the load is of

-- the message, its row, and where the load ends
pub record IsLoad (w : World) (l : Ledger) (id : Id) (from to : ℕ) : Type 0 where
  pub row : Admitted
  pub message : Message
  pub found : admitted_of l id ≡ Some row
  pub there : message_of l.book id ≡ Some message
  pub start : row.unread ≡ from
  pub end : IsEnd message from (free w l) to

some_room : (minimum unread room : ℕ) → 1 ≤ minimum → nat_lt 0 unread ≡ true → nat_le (min minimum unread) room ≡ true → 1 ≤ room
some_room minimum unread room h k e =
    let some : 0 < unread = ltb-true 0 unread k in
    let fits : min minimum unread ≤ room = leb-true (min minimum unread) room e in
    omega (arith, h, some, fits)

pub load_on : (w : World) (l : Ledger) (id : Id) (from to : ℕ) (o : Option Admitted) (q : Option Message) → IsConsistent w l → admitted_of l id ≡ o → message_of l.book id ≡ q →
    option_map_or (λ (a : Admitted). option_map_or (λ m. may_read w l a && (from == a.unread) && (to == load_end m from (free w l))) q false) o false ≡ true → IsLoad w l id from to
load_on w l id from to None q c found there may = absurd cc
load_on w l id from to (Some a) None c found there may = absurd cc
load_on w l id from to (Some a) (Some m) c found there may =
    let two = and_parts (may_read w l a && (from == a.unread)) (to == load_end m from (free w l)) may in
    let one = and_parts (may_read w l a) (from == a.unread) two.0 in
    let reads = and_parts (nat_lt 0 (unread_count l a) && not (has_waiting l a.id)) (nat_le (min w.settings.recipient_minimum (unread_count l a)) (free w l)) one.0 in
    let some = and_parts (nat_lt 0 (unread_count l a)) (not (has_waiting l a.id)) reads.0 in
    let mine = find_in (λ (x : Admitted). id_eq x.id id) a l.admitted found in
    let same : a.id ≡ id = id_eq-true a.id id mine.1 in
    let start : from ≡ a.unread = eqb-true from a.unread one.1 in
    let within : nat_le a.unread (length m.recipients) ≡ true =
    sym (ap (λ (x : Option Message). option_map_or (λ (y : Message). nat_le a.unread (length y.recipients)) x false) (ap (message_of l.book) same ∙ there)) ∙ all_at (is_within l) a l.admitted c.memory.within mine.0 in
    record {
      row = a;
      message = m;
      found = found;
      there = there;
      start = sym start;
      end = subst (λ n. IsEnd m from (free w l) n) (sym (eqb-true to (load_end m from (free w l)) two.1))
          (end_is m from (free w l) (some_room w.settings.recipient_minimum (unread_count l a) (free w l) c.usable.recipient_minimum some.0 reads.1) (subst (λ n. n ≤ length m.recipients) (sym start) (leb-true a.unread (length m.recipients) within)));
    }

-- ---- what is in memory

remembered_count : (w : World) (l : Ledger) (id : Id) (from to : ℕ) (m : Message) (sites : List SiteRecord) (e : Entry) (i : Id) (q : ℕ) →
    times q (memory_positions (loaded_ledger l id to (load_rows w m from to) sites e) i) ≡ times q (memory_positions l i) + times q (if id_eq m.id i then load_positions m from to else [])
remembered_count w l id from to m sites e i q =
    let rows = load_rows w m from to in
    let fs = flight_positions i l.flights in
    let us = unsettled_positions i l.unsettled in
    let a = times_append q (waiting_positions i (l.waiting ++ rows) ++ fs) us in
    let b = times_append q (waiting_positions i (l.waiting ++ rows)) fs in
    let d : times q (waiting_positions i (l.waiting ++ rows)) ≡ times q (waiting_positions i l.waiting) + times q (waiting_positions i rows) =
    ap (times q) (flat_map-append (λ (r : Row). if id_eq r.id i then r.positions else []) l.waiting rows) ∙ times_append q (waiting_positions i l.waiting) (waiting_positions i rows) in
    let f : times q (waiting_positions i rows) ≡ 0 + times q (if id_eq m.id i then load_positions m from to else []) = rows_count w m i q [] (load_positions m from to) (λ r k. absurd k) in
    let g = times_append q (waiting_positions i l.waiting ++ fs) us in
    let j = times_append q (waiting_positions i l.waiting) fs in
    omega (arith, a, b, d, f, g, j)

-- a position that is in memory was in memory, or is taken up now
remembered_cases : (q n : ℕ) (old new all : List ℕ) → times q all ≡ times q old + times q new → IsIn q all → IsIn q old ⊎ IsIn q new
remembered_cases q n old new all e h = which (times q old) refl
  where
    which : (k : ℕ) → times q old ≡ k → IsIn q old ⊎ IsIn q new
    which (suc k) s = inl (times_in q old (omega (arith, s)))
    which zero s = let some : 1 ≤ times q all = in_times q all h in inr (times_in q new (omega (arith, s, some, e)))

pub mine_remembered : (w : World) (l : Ledger) (id : Id) (from to : ℕ) (sites : List SiteRecord) (e : Entry) (m : Message) (a : Admitted) → a.unread ≡ from → m.id ≡ a.id → from ≤ to → IsRemembered l a m →
    IsRemembered (loaded_ledger l id to (load_rows w m from to) sites e) (record a { unread = to }) m
mine_remembered w l id from to sites e m a start name up h =
    let k = loaded_ledger l id to (load_rows w m from to) sites e in
    let new = load_positions m from to in
    let old = memory_positions l a.id in
    let all = memory_positions k a.id in
    let count : (q : ℕ) → times q all ≡ times q old + times q new = λ q. remembered_count w l id from to m sites e a.id q ∙ ap (λ b. times q old + times q (if b then new else [])) (id_same m.id a.id name) in
    let before : (q : ℕ) → IsIn q old → q < from = λ q there. let less : q < a.unread = ltb-true q a.unread (all_at (λ p. nat_lt p a.unread) q old h.read there) in omega (arith, less, start) in
    record {
      read = all_from (λ q. nat_lt q to) all (λ q there. elim (remembered_cases q 0 old new all (count q) there) [
        | inl was ↦ let less = before q was in lt-ltb q to (omega (arith, less, up))
        | inr is ↦ lt-ltb q to (loaded_at m from to q is).early
      ]);
      once = times_once all (λ q. one q (times q new) refl before (count q));
      unmarked = all_from (is_unmarked_at m) all (λ q there. elim (remembered_cases q 0 old new all (count q) there) [
        | inl was ↦ all_at (is_unmarked_at m) q old h.unmarked was
        | inr is ↦ (loaded_at m from to q is).bare
      ]);
      logged = h.logged;
    }
  where
    one : (q n : ℕ) → times q (load_positions m from to) ≡ n → ((p : ℕ) → IsIn p (memory_positions l a.id) → p < from) → times q (memory_positions (loaded_ledger l id to (load_rows w m from to) sites e) a.id) ≡ times q (memory_positions l a.id) + times q (load_positions m from to) →
        times q (memory_positions (loaded_ledger l id to (load_rows w m from to) sites e) a.id) ≤ 1
    one q zero none before s = let o = once_times (memory_positions l a.id) h.once q in omega (arith, o, s, none)
    one q (suc n) some before s =
        let late : from ≤ q = (loaded_at m from to q (times_in q (load_positions m from to) (omega (arith, some)))).late in
        let none : times q (memory_positions l a.id) ≡ 0 = times_none q (memory_positions l a.id) (λ k. let less : q < from = before q k in omega (arith, less, late)) in
        let o = loaded_once m from to q in
        omega (arith, o, s, none)

pub other_remembered : (w : World) (l : Ledger) (id : Id) (from to : ℕ) (sites : List SiteRecord) (e : Entry) (m : Message) (a : Admitted) (x : Message) → id_eq m.id a.id ≡ false → IsRemembered l a x → IsRemembered (loaded_ledger l id to (load_rows w m from to) sites e) a x
other_remembered w l id from to sites e m a x other h =
    let k = loaded_ledger l id to (load_rows w m from to) sites e in
    let fewer : (q : ℕ) → times q (memory_positions k a.id) ≤ times q (memory_positions l a.id) = λ q.
    let s : times q (memory_positions k a.id) ≡ times q (memory_positions l a.id) + 0 = remembered_count w l id from to m sites e a.id q ∙ ap (λ b. times q (memory_positions l a.id) + times q (if b then load_positions m from to else [])) other in
    omega (arith, s) in
    record {
      read = all_fewer (λ q. nat_lt q a.unread) (memory_positions l a.id) (memory_positions k a.id) fewer h.read;
      once = once_fewer (memory_positions l a.id) (memory_positions k a.id) fewer h.once;
      unmarked = all_fewer (is_unmarked_at x) (memory_positions l a.id) (memory_positions k a.id) fewer h.unmarked;
      logged = h.logged;
    }
