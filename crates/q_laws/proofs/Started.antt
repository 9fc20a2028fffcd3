-- What fits together still does as a delivery begins.
use Rattle.std.proofs.Common.{◌≡◌, ℕ, ◌+◌, ◌≤◌, Bool, true, false, cond, not, List, [], ◌∷◌, ◌++◌, map, filter, length, refl, sym, ap, ◌∙◌, subst, arith, if◌then◌else◌, eqb-true, leb-true, le-leb}
use Rattle.std.proofs.lemmas.Bool.{and_from, and_parts}
use Rattle.std.proofs.lemmas.Grind.{flat_map-append}
use Rattle.std.proofs.lemmas.List.Sums.{sum_by-append, sum_by-cons}
use Rattle.std.specs.List.{list_all, list_any}
use Rattle.std.specs.Prelude.{◌==◌, ◌&&◌, nat_le, nat_lt}
use Rattle.q_laws.proofs.Counts.{all_fewer, once_fewer, once_times, times, times_append, times_none, times_once}
use Rattle.q_laws.proofs.Decided.{Says}
use Rattle.q_laws.proofs.Delivered.{this_row}
use Rattle.q_laws.proofs.Distinct.{gone_listed}
use Rattle.q_laws.proofs.Members.{IsIn, all_append, all_at, all_from, any_from, any_in, in_dropped, in_unmap}
use Rattle.q_laws.proofs.Quiet.{LeavesAccount, begun_noted}
use Rattle.q_laws.proofs.RowCounts.{IsRemoved, flight_lengths, removed, row_positions}
use Rattle.q_laws.proofs.Rows.{rows_ready, with_rows}
use Rattle.q_laws.proofs.Tidied.{IsReady, after_consistent}
use Rattle.q_laws.specs.Consistency.{IsConsistent, IsRemembered, are_once, flight_positions, memory_positions, unsettled_positions, waiting_positions, is_filled}
use Rattle.q_model.proofs.IdLaws.{id_eq-true}
use Rattle.q_model.specs.Sites.{site_eq}
use Rattle.q_model.specs.Ids.{id_eq}
use Rattle.q_model.specs.Ledger.{Ledger}
use Rattle.q_model.specs.Lists.{drop_first}
use Rattle.q_model.specs.Marking.{is_unmarked_at}
use Rattle.q_model.specs.Memory.{is_admitted}
use Rattle.q_model.specs.Message.{Message}
use Rattle.q_model.specs.Past.{is_start, starts}
use Rattle.q_model.specs.Settings.{World}
use Rattle.q_model.specs.Startable.{is_startable, line_of}
use Rattle.q_model.specs.Starts.{is_row, may_start}
use Rattle.q_model.specs.Step.{after, noted}
use Rattle.q_model.specs.Values.{Served, Site}
use Rattle.q_model.specs.declared.entry.Entry.{Entry}
use Rattle.q_model.specs.declared.id.Id.{Id}
use Rattle.q_model.specs.declared.rows.Admitted.{Admitted}
use Rattle.q_model.specs.declared.rows.Delivery.{Delivery}
use Rattle.q_model.specs.declared.rows.Row.{Row}
use Rattle.q_model.specs.declared.entry.Entry.TheVariants as entries

-- the delivery that begins
abbrev new_flight : ℕ → Id → Site → List ℕ → Delivery
new_flight number id site ps = record { number = number; row = record { id = id; site = site; positions = ps } }

abbrev numbers_of : List Delivery → List ℕ
numbers_of fs = map (λ (f : Delivery). f.number) fs

numbers_more : (q : ℕ) (fs : List Delivery) (f : Delivery) → times q (numbers_of (fs ++ f ∷ [])) ≡ times q (numbers_of fs) + times q (f.number ∷ [])
numbers_more q [] f = omega arith
numbers_more q (g ∷ fs) f = let h = numbers_more q fs f in omega (arith, h)

one_number : (q n : ℕ) (b : Bool) → (n == q) ≡ b → b ≡ false → times q (n ∷ []) ≡ 0
one_number q n b e f = ap (λ c. (if c then 1 else 0) + 0) (e ∙ f)

-- the number of a new delivery is no other's
numbers_once : (l : Ledger) (f : Delivery) → f.number ≡ starts l + 1 → are_once (numbers_of l.flights) ≡ true → list_all (λ (g : Delivery). nat_le g.number (starts l)) l.flights ≡ true → are_once (numbers_of (l.flights ++ f ∷ [])) ≡ true
numbers_once l f next once begun = times_once (numbers_of (l.flights ++ f ∷ [])) (λ q. one q (f.number == q) refl)
  where
    one : (q : ℕ) (b : Bool) → (f.number == q) ≡ b → times q (numbers_of (l.flights ++ f ∷ [])) ≤ 1
    one q false e = let a = numbers_more q l.flights f in let n = one_number q f.number false e refl in let o = once_times (numbers_of l.flights) once q in omega (arith, a, n, o)
    one q true e =
        let same : f.number ≡ q = eqb-true f.number q e in
        let none : times q (numbers_of l.flights) ≡ 0 = times_none q (numbers_of l.flights) (λ k. earlier q same k) in
        let a = numbers_more q l.flights f in
        let n : ◌≡◌ {A = ℕ} (times q (f.number ∷ [])) 1 = ap (λ c. (if c then 1 else 0) + 0) e in
        omega (arith, a, n, none)
      where
        earlier : (q : ℕ) → f.number ≡ q → IsIn q (numbers_of l.flights) → ⊥
        earlier q same k =
            let g = in_unmap (λ (x : Delivery). x.number) q l.flights k in
            let below : (g.0).number ≤ starts l = leb-true (g.0).number (starts l) (all_at (λ (x : Delivery). nat_le x.number (starts l)) g.0 l.flights begun g.1) in
            let at : (g.0).number ≡ q = g.2 in
            omega (arith, below, at, same, next)

starts_more : (l : Ledger) (number : ℕ) (id : Id) (site : Site) (ps : List ℕ) → starts (noted (entries.Start number id site ps) l) ≡ 1 + starts l
starts_more l number id site ps = sum_by-cons (λ (e : Entry). cond (is_start e) 1 0) (entries.Start number id site ps) l.past

-- where the job isn't in the line, the start is not its
other_account : (l : Ledger) (number : ℕ) (id : Id) (site : Site) (ps : List ℕ) → IsIn id (line_of l site.transport) → (i : Id) (t : ℕ) → list_any (id_eq i) (line_of l t) ≡ false → LeavesAccount i t (entries.Start number id site ps)
other_account l number id site ps inside i t gone = record { admit = refl; start = which (id_eq id i && (site.transport == t)) refl; charge = refl }
  where
    which : (b : Bool) → (id_eq id i && (site.transport == t)) ≡ b → b ≡ false
    which false e = refl
    which true e =
        let two = and_parts (id_eq id i) (site.transport == t) e in
        absurd (gone_listed i (line_of l t) gone (subst (λ j. IsIn j (line_of l t)) (id_eq-true id i two.0) (subst (λ k. IsIn id (line_of l k)) (eqb-true site.transport t two.1) inside)))

started_remembered : (l : Ledger) (number : ℕ) (id : Id) (site : Site) (ps : List ℕ) (sv : List Served) (t : IsRemoved (is_row id site ps) l.waiting) (a : Admitted) (m : Message) → IsRemembered l a m →
    IsRemembered (with_rows l (drop_first (is_row id site ps) l.waiting) (l.flights ++ new_flight number id site ps ∷ []) l.unsettled sv l.sites (entries.Start number id site ps)) a m
started_remembered l number id site ps sv t a m h =
    let k = with_rows l (drop_first (is_row id site ps) l.waiting) (l.flights ++ new_flight number id site ps ∷ []) l.unsettled sv l.sites (entries.Start number id site ps) in
    let this = this_row id site ps t.row t.passes in
    let fewer : (q : ℕ) → times q (memory_positions k a.id) ≤ times q (memory_positions l a.id) = λ q.
    let ws = drop_first (is_row id site ps) l.waiting in
    let fs = l.flights ++ new_flight number id site ps ∷ [] in
    let mine : List ℕ = if id_eq id a.id then ps else [] in
    let u = unsettled_positions a.id l.unsettled in
    let x = times_append q (waiting_positions a.id ws ++ flight_positions a.id fs) u in
    let y = times_append q (waiting_positions a.id ws) (flight_positions a.id fs) in
    let z : times q (flight_positions a.id fs) ≡ times q (flight_positions a.id l.flights) + times q (mine ++ []) =
    ap (times q) (flat_map-append (λ (f : Delivery). row_positions a.id f.row) l.flights (new_flight number id site ps ∷ [])) ∙ times_append q (flight_positions a.id l.flights) (mine ++ []) in
    let v : times q (mine ++ []) ≡ times q mine + 0 = times_append q mine [] in
    let x2 = times_append q (waiting_positions a.id l.waiting ++ flight_positions a.id l.flights) u in
    let y2 = times_append q (waiting_positions a.id l.waiting) (flight_positions a.id l.flights) in
    let n = t.count a.id q in
    let same : times q (row_positions a.id t.row) ≡ times q mine =
    ap (λ (j : Id). times q (if id_eq j a.id then t.row.positions else [])) this.name ∙ ap (λ (qs : List ℕ). times q (if id_eq id a.id then qs else [])) this.positions in
    omega (arith, x, y, z, v, x2, y2, n, same) in
    record {
      read = all_fewer (λ q. nat_lt q a.unread) (memory_positions l a.id) (memory_positions k a.id) fewer h.read;
      once = once_fewer (memory_positions l a.id) (memory_positions k a.id) fewer h.once;
      unmarked = all_fewer (is_unmarked_at m) (memory_positions l a.id) (memory_positions k a.id) fewer h.unmarked;
      logged = h.logged;
    }

row_there : (w : World) (l : Ledger) (id : Id) (site : Site) (ps : List ℕ) → list_any (λ r. is_row id site ps r && is_startable w l r) l.waiting ≡ true → list_any (is_row id site ps) l.waiting ≡ true
row_there w l id site ps h =
    let one = any_in (λ r. is_row id site ps r && is_startable w l r) l.waiting h in
    any_from (is_row id site ps) one.0 l.waiting one.1 (and_parts (is_row id site ps one.0) (is_startable w l one.0) one.2).0

start_ready : (w : World) (l : Ledger) (number : ℕ) (id : Id) (site : Site) (ps : List ℕ) (sv : List Served) → IsConsistent w l → may_start w l number id site ps ≡ true → IsIn id (line_of l site.transport) →
    IsReady w (with_rows l (drop_first (is_row id site ps) l.waiting) (l.flights ++ new_flight number id site ps ∷ []) l.unsettled sv l.sites (entries.Start number id site ps))
start_ready w l number id site ps sv c may inside =
    let e = entries.Start number id site ps in
    let f = new_flight number id site ps in
    let two = and_parts (number == starts l + 1) (list_any (λ r. is_row id site ps r && is_startable w l r) l.waiting) may in
    let next : number ≡ starts l + 1 = eqb-true number (starts l + 1) two.0 in
    let t = removed (is_row id site ps) l.waiting (row_there w l id site ps two.1) in
    let this = this_row id site ps t.row t.passes in
    let adm : is_admitted l id ≡ true = ap (is_admitted l) (sym this.name) ∙ all_at (λ (r : Row). is_admitted l r.id) t.row l.waiting c.memory.waiting t.inside in
    let s = starts_more l number id site ps in
    rows_ready w l (drop_first (is_row id site ps) l.waiting) (l.flights ++ f ∷ []) l.unsettled sv l.sites e c
    (all_from (λ (r : Row). is_admitted l r.id) (drop_first (is_row id site ps) l.waiting) (λ r there. all_at (λ (y : Row). is_admitted l y.id) r l.waiting c.memory.waiting (in_dropped (is_row id site ps) r l.waiting there)))
    (all_from is_filled (drop_first (is_row id site ps) l.waiting) (λ r there. all_at is_filled r l.waiting c.memory.filled (in_dropped (is_row id site ps) r l.waiting there)))
    (all_append (λ (g : Delivery). is_admitted l g.row.id) l.flights (f ∷ []) c.memory.flights (and_from (is_admitted l id) true adm refl))
    c.memory.unsettled
    (λ a m here there. started_remembered l number id site ps sv t a m (c.memory.remembered a m here there))
    (numbers_once l f next c.memory.numbers c.memory.begun)
    (all_append (λ (g : Delivery). nat_le g.number (starts (noted e l))) l.flights (f ∷ []) (begun_noted l e c.memory.begun)
    (and_from (nat_le number (starts (noted e l))) true (le-leb number (starts (noted e l)) (omega (arith, next, s))) refl))
    (λ i k some gone. other_account l number id site ps inside i k gone)
    (let n = t.lengths in
    let m : length t.row.positions ≡ length ps = ap length this.positions in
    let a : flight_lengths (l.flights ++ f ∷ []) ≡ flight_lengths l.flights + flight_lengths (f ∷ []) = sum_by-append (λ (g : Delivery). length g.row.positions) l.flights (f ∷ []) in
    let b : flight_lengths (f ∷ []) ≡ length ps + 0 = sum_by-cons (λ (g : Delivery). length g.row.positions) f [] in
    omega (arith, n, m, a, b))

-- a delivery begins
pub start_consistent : (w : World) (l : Ledger) (number : ℕ) (id : Id) (site : Site) (ps : List ℕ) → IsConsistent w l → may_start w l number id site ps ≡ true → Says l (entries.Start number id site ps) → IsConsistent w (after w l (entries.Start number id site ps))
start_consistent w l number id site ps c may says =
    after_consistent w l (entries.Start number id site ps)
    (start_ready w l number id site ps (record { id = id; site = site; last = number } ∷ filter (λ s. not (id_eq s.id id && site_eq s.site site)) l.served) c may says)
