-- What a job has left doesn't grow as recipients are read.
use Rattle.std.proofs.Common.{◌≡◌, ℕ, suc, ◌+◌, ◌-◌, ◌≤◌, ◌<◌, Bool, true, false, List, [], ◌∷◌, ◌++◌, map, find, length, Option, Some, None, option_map, inl, inr, refl, sym, ap, ◌∙◌, subst, arith, if◌then◌else◌}
use Rattle.std.proofs.lemmas.List.Sums.{count_by-le-length}
use Rattle.std.specs.Option.{option_map_or}
use Rattle.std.specs.Prelude.{◌==◌, ◌&&◌, nat_lt}
use Rattle.q_inflation.proofs.JobsLeft.{count_append, count_none, is_of, unread_in, waiting_of}
use Rattle.q_laws.proofs.Batched.{IsRising, pending_rising, rising_filter, rows_of, loaded_at}
use Rattle.q_laws.proofs.Books.{message_in}
use Rattle.q_laws.proofs.Distinct.{id_cases, id_same}
use Rattle.q_laws.proofs.Loaded.{IsLoad, find_read, read_to}
use Rattle.q_laws.proofs.Members.{IsIn, find_in}
use Rattle.q_model.proofs.IdLaws.{id_eq-true}
use Rattle.q_model.specs.Batches.{join_rows, load_positions, load_rows, pending_from, rows_from}
use Rattle.q_model.specs.Book.{Book, message_of}
use Rattle.q_model.specs.Sites.{site_eq}
use Rattle.q_model.specs.Ids.{id_eq}
use Rattle.q_model.specs.Ledger.{Ledger}
use Rattle.q_model.specs.Message.{Message, address_at}
use Rattle.q_model.specs.Settings.{World}
use Rattle.q_model.specs.Values.{Site}
use Rattle.q_model.specs.declared.id.Id.{Id}
use Rattle.q_model.specs.declared.rows.Admitted.{Admitted}
use Rattle.q_model.specs.declared.rows.Row.{Row}

-- rising numbers between two bounds are no more than lie between them
rising_fits : (ns : List ℕ) (lo hi : ℕ) → IsRising ns → ((m : ℕ) → IsIn m ns → (lo ≤ m) × (m < hi)) → length ns ≤ hi - lo
rising_fits [] lo hi h k = omega arith
rising_fits (n ∷ ns) lo hi h k =
    let rest : length ns ≤ hi - (n + 1) = rising_fits ns (n + 1) hi h.1 (λ m there. (let up : n < m = h.0 m there in omega (arith, up), (k m (inr there)).1)) in
    let low : lo ≤ n = (k n (inl refl)).0 in
    let high : n < hi = (k n (inl refl)).1 in
    omega (arith, rest, low, high)

-- a load takes no more positions than it reads
positions_few : (m : Message) (from to : ℕ) → length (load_positions m from to) ≤ to - from
positions_few m from to = rising_fits (load_positions m from to) from to (rising_filter (λ q. nat_lt q to) (pending_from m from) (pending_rising m from))
    (λ p there. let t = loaded_at m from to p there in (t.late, t.early))

-- a position adds a row at most
join_few : (limit : ℕ) (id : Id) (site : Site) (p : ℕ) (rs : List Row) → length (join_rows limit id site p rs) ≤ suc (length rs)
join_few limit id site p [] = omega arith
join_few limit id site p (r ∷ rs) = which (site_eq r.site site && nat_lt (length r.positions) limit) (join_few limit id site p rs)
  where
    which : (b : Bool) → length (join_rows limit id site p rs) ≤ suc (length rs) → length (if b then record r { positions = r.positions ++ p ∷ [] } ∷ rs else r ∷ join_rows limit id site p rs) ≤ suc (suc (length rs))
    which true h = omega (arith, h)
    which false h = omega (arith, h)

rows_few : (w : World) (m : Message) (rs : List Row) (ps : List ℕ) → length (rows_from w m rs ps) ≤ length rs + length ps
rows_few w m rs [] = omega arith
rows_few w m rs (p ∷ ps) =
    let more = join_rows w.settings.entry_limit m.id (w.table.route (address_at m p)) p rs in
    let one : length more ≤ suc (length rs) = join_few w.settings.entry_limit m.id (w.table.route (address_at m p)) p rs in
    let rest : length (rows_from w m more ps) ≤ length more + length ps = rows_few w m more ps in
    omega (arith, one, rest)

-- a load makes no more rows than it reads positions
loaded_few : (w : World) (m : Message) (from to : ℕ) → length (load_rows w m from to) ≤ to - from
loaded_few w m from to =
    let rows : length (load_rows w m from to) ≤ 0 + length (load_positions m from to) = rows_few w m [] (load_positions m from to) in
    let few : length (load_positions m from to) ≤ to - from = positions_few m from to in
    omega (arith, rows, few)

-- the rows of a load are of its message alone
others_none : (w : World) (m : Message) (from to : ℕ) (id : Id) (t : ℕ) → id_eq m.id id ≡ false → waiting_of id t (load_rows w m from to) ≡ 0
others_none w m from to id t other = count_none (is_of id t) (load_rows w m from to) (λ r there.
    let name : r.id ≡ m.id = rows_of w m [] (load_positions m from to) (λ y k. absurd k) r there in
    ap (λ b. b && (r.site.transport == t)) (ap (λ (j : Id). id_eq j id) name ∙ other))

-- ---- what is unread

other_read : (rows : List Admitted) (b : Book) (to : ℕ) (id j : Id) → id_eq id j ≡ false → unread_in (map (read_to j to) rows) b id ≡ unread_in rows b id
other_read rows b to id j other =
    ap (λ (o : Option Admitted). option_map_or (λ (a : Admitted). option_map_or (λ (m : Message). length m.recipients - a.unread) (message_of b a.id) 0) o 0) (find_read j id to rows)
    ∙ on (find (λ (a : Admitted). id_eq a.id id) rows) refl
  where
    on : (o : Option Admitted) → find (λ (a : Admitted). id_eq a.id id) rows ≡ o →
        option_map_or (λ (a : Admitted). option_map_or (λ (m : Message). length m.recipients - a.unread) (message_of b a.id) 0) (option_map (read_to j to) o) 0
        ≡ option_map_or (λ (a : Admitted). option_map_or (λ (m : Message). length m.recipients - a.unread) (message_of b a.id) 0) o 0
    on None f = refl
    on (Some a) f =
        let name : a.id ≡ id = id_eq-true a.id id (find_in (λ (x : Admitted). id_eq x.id id) a rows f).1 in
        let out : id_eq a.id j ≡ false = ap (λ (k : Id). id_eq k j) name ∙ other in
        ap (λ (x : Admitted). option_map_or (λ (m : Message). length m.recipients - x.unread) (message_of b x.id) 0) (ap (λ t. if t then record a { unread = to } else a) out)

mine_read : (rows : List Admitted) (b : Book) (to : ℕ) (id : Id) (a : Admitted) (m : Message) → find (λ (x : Admitted). id_eq x.id id) rows ≡ Some a → message_of b id ≡ Some m →
    (unread_in (map (read_to id to) rows) b id ≡ length m.recipients - to) × (unread_in rows b id ≡ length m.recipients - a.unread)
mine_read rows b to id a m found there =
    let name : a.id ≡ id = id_eq-true a.id id (find_in (λ (x : Admitted). id_eq x.id id) a rows found).1 in
    let here : message_of b a.id ≡ Some m = ap (message_of b) name ∙ there in (
      ap (λ (o : Option Admitted). option_map_or (λ (x : Admitted). option_map_or (λ (y : Message). length y.recipients - x.unread) (message_of b x.id) 0) o 0) (find_read id id to rows ∙ ap (option_map (read_to id to)) found)
          ∙ ap (λ (x : Admitted). option_map_or (λ (y : Message). length y.recipients - x.unread) (message_of b x.id) 0) (ap (λ t. if t then record a { unread = to } else a) (id_same a.id id name))
          ∙ ap (λ (o : Option Message). option_map_or (λ (y : Message). length y.recipients - to) o 0) here,
      ap (λ (o : Option Admitted). option_map_or (λ (x : Admitted). option_map_or (λ (y : Message). length y.recipients - x.unread) (message_of b x.id) 0) o 0) found
          ∙ ap (λ (o : Option Message). option_map_or (λ (y : Message). length y.recipients - a.unread) o 0) here,
    )

-- ---- both

-- what waits and is unread after a load is no more than before
pub load_falls : (w : World) (l : Ledger) (i : Id) (from to : ℕ) (load : IsLoad w l i from to) (id : Id) (t : ℕ) →
    waiting_of id t (l.waiting ++ load_rows w load.message from to) + unread_in (map (read_to i to) l.admitted) l.book id ≤ waiting_of id t l.waiting + unread_in l.admitted l.book id
load_falls w l i from to load id t =
    let m = load.message in
    let rows = load_rows w m from to in
    let name : m.id ≡ i = (message_in l.book i m load.there).1 in
    let sum : waiting_of id t (l.waiting ++ rows) ≡ waiting_of id t l.waiting + waiting_of id t rows = count_append (is_of id t) l.waiting rows in
    elim (id_cases i id) [
      | inl same ↦
          let found : find (λ (x : Admitted). id_eq x.id id) l.admitted ≡ Some load.row = subst (λ (j : Id). find (λ (x : Admitted). id_eq x.id j) l.admitted ≡ Some load.row) same.0 load.found in
          let there : message_of l.book id ≡ Some m = subst (λ (j : Id). message_of l.book j ≡ Some m) same.0 load.there in
          let two = mine_read l.admitted l.book to id load.row m found there in
          let after : unread_in (map (read_to i to) l.admitted) l.book id ≡ length m.recipients - to = ap (λ (j : Id). unread_in (map (read_to j to) l.admitted) l.book id) same.0 ∙ two.0 in
          let before : unread_in l.admitted l.book id ≡ length m.recipients - load.row.unread = two.1 in
          let start : load.row.unread ≡ from = load.start in
          let few : waiting_of id t rows ≤ length rows = count_by-le-length (is_of id t) rows in
          let short : length rows ≤ to - from = loaded_few w m from to in
          let late : from ≤ to = load.end.late in
          let within : to ≤ length m.recipients = load.end.within in
          omega (arith, sum, after, before, start, few, short, late, within)
      | inr other ↦
          let none : waiting_of id t rows ≡ 0 = others_none w m from to id t (ap (λ (j : Id). id_eq j id) name ∙ other) in
          let same : unread_in (map (read_to i to) l.admitted) l.book id ≡ unread_in l.admitted l.book id = other_read l.admitted l.book to id i (flip other) in
          omega (arith, sum, none, same)
    ]
  where
    flip : id_eq i id ≡ false → id_eq id i ≡ false
    flip h = elim (id_cases id i) [
      | inl s ↦ (let bad : false ≡ true = sym h ∙ id_same i id (sym s.0) in absurd cc)
      | inr o ↦ o
    ]
