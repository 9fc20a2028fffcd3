-- Loads fit in, where a ledger has them.
use Rattle.std.proofs.Common.{◌≡◌, ℕ, ◌+◌, ◌≤◌, ◌<◌, Bool, true, false, cond, not, List, [], ◌∷◌, filter, length, map, Option, None, Some, inl, inr, refl, sym, ap, ◌∙◌, subst, arith}
use Rattle.std.proofs.lemmas.Bool.{and_from, and_parts, le-leb, leb-true, lt-leb, lt-ltb, ltb-true, or_cases}
use Rattle.std.proofs.lemmas.List.{length-map}
use Rattle.std.proofs.lemmas.List.Sums.{length-filter}
use Rattle.std.specs.List.{enumerate_from, list_all, list_any}
use Rattle.std.specs.Option.{is_some, option_map_or}
use Rattle.std.specs.Prelude.{◌&&◌, ◌||◌, ◌==◌, count_by, find, nat_le, nat_lt}
use Rattle.q_core.proofs.AgreesLaws.{same_admitted}
use Rattle.q_core.proofs.CountLaws.{count_within, counted_step}
use Rattle.q_core.proofs.GoneLaws.{loaded_there}
use Rattle.q_core.proofs.KeptSums.{kept_sum, sum_counted}
use Rattle.q_core.proofs.ListLaws.{list_any-map}
use Rattle.q_core.proofs.LoadLaws.{fits}
use Rattle.q_core.proofs.PeerTies.{name_of}
use Rattle.q_core.specs.Agrees.{Agrees, job_of, jobs_of}
use Rattle.q_core.specs.Known.{known_records}
use Rattle.q_core.specs.Loading.{can_join, fit_beside, fit_in}
use Rattle.q_core.specs.Rooms.{HasRoomForLoads, most_flights, most_sites}
use Rattle.q_core.specs.Ties.{ArePeersTied}
use Rattle.q_core.specs.declared.state.Core.{Core}
use Rattle.q_dest.specs.declared.dest.Dest.{Dest}
use Rattle.q_dest.specs.Dests.{Dests}
use Rattle.q_held.specs.Held.{Held, HeldRow, rows_of}
use Rattle.q_jobs.specs.declared.job.Job.{Job}
use Rattle.q_laws.proofs.Batched.{rows_filled, rows_length}
use Rattle.q_laws.proofs.Distinct.{distinct_cons, distinct_tail, gone_listed, id_cases}
use Rattle.q_laws.proofs.Members.{IsIn, all_at, any_in, in_filter, in_map}
use Rattle.q_laws.proofs.RowCounts.{lengths_more, row_lengths}
use Rattle.q_laws.proofs.UsedSites.{sites_few}
use Rattle.q_laws.specs.Consistency.{IsConsistent, is_filled}
use Rattle.q_model.proofs.IdLaws.{id_eq-refl, id_eq-true}
use Rattle.q_model.specs.Batches.{load_positions, load_rows}
use Rattle.q_model.specs.Book.{message_of}
use Rattle.q_model.specs.Ids.{are_distinct, id_eq}
use Rattle.q_model.specs.Ledger.{Ledger}
use Rattle.q_model.specs.Loads.{may_load}
use Rattle.q_model.specs.Memory.{admitted_of, is_admitted, unread_count}
use Rattle.q_model.specs.Message.{Message}
use Rattle.q_model.specs.Settings.{Settings, World}
use Rattle.q_model.specs.Step.{stays}
use Rattle.q_model.specs.Values.{SiteRecord}
use Rattle.q_model.specs.declared.id.Id.{Id}
use Rattle.q_model.specs.declared.rows.Admitted.{Admitted}
use Rattle.q_model.specs.declared.rows.Delivery.{Delivery}
use Rattle.q_model.specs.declared.rows.Row.{Row}
use Rattle.q_rounds.specs.KeyLaws.{key_eq-refl, key_eq-true}
use Rattle.q_rounds.specs.declared.peer.Peer.{Peer}
use Rattle.q_rounds.specs.declared.peer.PeerKey.{PeerKey}
use Rattle.q_rounds.specs.Rounds.{key_eq, key_of}
use Rattle.q_schedule.specs.Schedule.{Scheduling}
use Rattle.q_turns.specs.Turns.{AreApart, HaveJobs}

-- ---- what it is to fit in

pub record FitsIn (c : Core) (id : Id) (rows : List Row) : Type 0 where
  pub beside : length c.waiting + length rows ≤ c.params.recipient_limit
  pub known : length c.sites + length rows ≤ most_sites c.params c.transports
  pub lines : list_all (can_join id rows c.params.active_limit) (enumerate_from 0 c.lines) ≡ true

module _ (c : Core) (id : Id) (rows : List Row) where
  abbrev beside : Bool
  beside = nat_le (length c.waiting + length rows) c.params.recipient_limit

  abbrev known : Bool
  known = nat_le (length c.sites + length rows) (most_sites c.params c.transports)

  abbrev lined : Bool
  lined = list_all (can_join id rows c.params.active_limit) (enumerate_from 0 c.lines)

  pub fit_from : FitsIn c id rows → fit_in c id rows ≡ true
  fit_from h =
      and_from beside (known && lined) (le-leb (length c.waiting + length rows) c.params.recipient_limit h.beside)
      (and_from known lined (le-leb (length c.sites + length rows) (most_sites c.params c.transports) h.known) h.lines)

-- ---- the same by the room of the parts

pub record FitsBeside (waiting : Held) (sites : Dests) (schedule : Scheduling) (id : Id) (rows : List Row) : Type 0 where
  pub beside : length waiting.items + length rows ≤ waiting.room
  pub known : length sites.items + length rows ≤ sites.room
  pub lines : list_all (can_join id rows schedule.line_room) (enumerate_from 0 schedule.lines) ≡ true

module _ (w : Held) (s : Dests) (t : Scheduling) (id : Id) (rows : List Row) where
  abbrev waits : Bool
  waits = nat_le (length w.items + length rows) w.room

  abbrev knows : Bool
  knows = nat_le (length s.items + length rows) s.room

  abbrev joins : Bool
  joins = list_all (can_join id rows t.line_room) (enumerate_from 0 t.lines)

  pub beside_parts : fit_beside w s t id rows ≡ true → FitsBeside w s t id rows
  beside_parts h =
      let two = and_parts waits (knows && joins) h in
      let both = and_parts knows joins two.1 in
      record {
        beside = leb-true (length w.items + length rows) w.room two.0;
        known = leb-true (length s.items + length rows) s.room both.0;
        lines = both.1;
      }

  -- rows are too many
  pub too_many : w.room < length w.items + length rows → false ≡ fit_beside w s t id rows
  too_many h = sym (ap (λ b. b && (knows && joins)) (lt-leb (length w.items + length rows) w.room h))

  -- so are sites
  pub too_known : length w.items + length rows ≤ w.room → s.room < length s.items + length rows → false ≡ fit_beside w s t id rows
  too_known few h = sym (ap (λ b. b && (knows && joins)) (le-leb (length w.items + length rows) w.room few) ∙ ap (λ b. b && joins) (lt-leb (length s.items + length rows) s.room h))

  -- lines decide
  pub by_lines : length w.items + length rows ≤ w.room → length s.items + length rows ≤ s.room → joins ≡ fit_beside w s t id rows
  by_lines few h = sym (ap (λ b. b && (knows && joins)) (le-leb (length w.items + length rows) w.room few) ∙ ap (λ b. b && joins) (le-leb (length s.items + length rows) s.room h))

  pub beside_is : (p : Settings) (transports : ℕ) → HasRoomForLoads p transports w.room s.room t.room t.line_room → (c : Core) → c.params ≡ p → c.transports ≡ transports → c.waiting ≡ rows_of w.items → c.sites ≡ known_records s.items → c.lines ≡ t.lines →
      fit_beside w s t id rows ≡ fit_in c id rows
  beside_is p transports h c params same waiting sites lines =
      let a = length-map w.items (λ (k : HeldRow). k.row) in
      let b = length-map s.items (λ (d : Dest). d.known) in
      rw (params, same, waiting, sites, lines, a, b, h.rows, h.sites, h.jobs) refl

-- ---- a peer has a row that waits, so there are no more of them than rows

abbrev waiting_sum : List Peer → ℕ
waiting_sum ps = kept_sum key_eq key_of key_eq-true key_eq-refl (λ (p : Peer). p.waiting) name_of (λ (k : PeerKey). true) ps

each_waits : (lines : List (List Job)) (ps : List Peer) → HaveJobs lines ps → length ps ≤ waiting_sum ps
each_waits lines [] h = omega arith
each_waits lines (p ∷ ps) h =
    let some = ltb-true 0 p.waiting h.0 in
    let rest = each_waits lines ps h.2 in
    let step : waiting_sum (p ∷ ps) ≡ p.waiting + waiting_sum ps = refl in
    omega (arith, some, rest, step)

pub peers_few : (lines : List (List Job)) (ps : List Peer) (rows : List Row) → AreApart ps → HaveJobs lines ps → ArePeersTied ps rows → length ps ≤ length rows
peers_few lines ps rows apart jobs tie =
    let few = each_waits lines ps jobs in
    let all = sum_counted key_eq key_of key_eq-true key_eq-refl (λ (p : Peer). p.waiting) name_of (λ (k : PeerKey). true) ps rows apart tie in
    let within = count_within (λ (r : Row). true) rows in
    omega (arith, few, all, within)

-- ---- a line has jobs of messages in memory, each once

at_most_one : (b : Bool) → cond b 1 0 ≤ 1
at_most_one true = omega arith
at_most_one false = omega arith

fewer_pass : {A : Type 0} (p : A → Bool) (x : A) (xs : List A) → IsIn x xs → p x ≡ false → count_by p xs + 1 ≤ length xs
fewer_pass p x [] h e = absurd h
fewer_pass p x (y ∷ ys) (inl same) e =
    let step = counted_step p y ys ∙ ap (λ t. cond t 1 0 + count_by p ys) (ap p same ∙ e) in
    let few = count_within p ys in
    omega (arith, step, few)
fewer_pass p x (y ∷ ys) (inr h) e =
    let step = counted_step p y ys in
    let one = at_most_one (p y) in
    let rest = fewer_pass p x ys h e in
    omega (arith, step, one, rest)

apart_from : (id : Id) (ids : List Id) → (IsIn id ids → ⊥) → (x : Id) → IsIn x ids → not (id_eq id x) ≡ true
apart_from id ids gone x here = elim (id_cases id x) [
  | inl same ↦ absurd (gone (subst (λ y. IsIn y ids) (sym same.0) here))
  | inr other ↦ ap not other
]

-- ids of which none comes twice are no more than the names that they are among
distinct_few : (ids names : List Id) → are_distinct ids ≡ true → ((x : Id) → IsIn x ids → IsIn x names) → length ids ≤ length names
distinct_few [] names h among = omega arith
distinct_few (id ∷ ids) names h among =
    let two = distinct_tail id ids h in
    let p : Id → Bool = λ x. not (id_eq id x) in
    let rest = distinct_few ids (filter p names) two.1 (λ x here. in_filter p x names (among x (inr here)) (apart_from id ids two.0 x here)) in
    let same = length-filter p names in
    let fewer = fewer_pass p id names (among id (inl refl)) (ap not (id_eq-refl id)) in
    omega (arith, rest, same, fewer)

some_found : {X : Type 0} (f : X → ℕ) (o : Option X) → not (option_map_or f o 0 == 0) ≡ true → is_some o ≡ true
some_found f None h = cc
some_found f (Some x) h = refl

found_any : {X : Type 0} (p : X → Bool) (xs : List X) → is_some (find p xs) ≡ true → list_any p xs ≡ true
found_any p [] h = cc
found_any p (x ∷ xs) h = step (found_any p xs) (p x) h
  where
    step : (is_some (find p xs) ≡ true → list_any p xs ≡ true) → (b : Bool) → is_some (cond b (Some x) (find p xs)) ≡ true → (b || list_any p xs) ≡ true
    step rest true k = refl
    step rest false k = rest k

-- what stays in a line is in memory
stays_admitted : (w : World) (l : Ledger) (t : ℕ) (id : Id) → IsConsistent w l → stays l t id ≡ true → is_admitted l id ≡ true
stays_admitted w l t id k h = elim (or_cases _ _ h) [
  | inl unread ↦ found_any (λ (a : Admitted). id_eq a.id id) l.admitted (some_found (λ a. unread_count l a) (admitted_of l id) unread)
  | inr waits ↦ waiting_admitted (any_in (λ (r : Row). id_eq r.id id && (r.site.transport == t)) l.waiting waits)
]
  where
    waiting_admitted : ((r : Row) × IsIn r l.waiting × ((id_eq r.id id && (r.site.transport == t)) ≡ true)) → is_admitted l id ≡ true
    waiting_admitted f =
        let same : f.0.id ≡ id = id_eq-true f.0.id id (and_parts (id_eq f.0.id id) (f.0.site.transport == t) f.2).0 in
        subst (λ i. is_admitted l i ≡ true) same (all_at (λ (r : Row). is_admitted l r.id) f.0 l.waiting k.memory.waiting f.1)

named_in : (l : Ledger) (id : Id) → is_admitted l id ≡ true → IsIn id (map (λ (a : Admitted). a.id) l.admitted)
named_in l id h =
    let f = any_in (λ (a : Admitted). id_eq a.id id) l.admitted h in
    subst (λ i. IsIn i (map (λ (a : Admitted). a.id) l.admitted)) (id_eq-true f.0.id id f.2) (in_map (λ (a : Admitted). a.id) f.0 l.admitted f.1)

-- a line to which a message comes has room
line_few : (w : World) (l : Ledger) (t : ℕ) (id : Id) (ids : List Id) → IsConsistent w l → are_distinct ids ≡ true → list_all (stays l t) ids ≡ true → is_admitted l id ≡ true → list_any (id_eq id) ids ≡ false → length ids < w.settings.active_limit
line_few w l t id ids k once all here new =
    let names : List Id = map (λ (a : Admitted). a.id) l.admitted in
    let few = distinct_few (id ∷ ids) names (distinct_cons id ids (gone_listed id ids new) once) (among names (named_in l id here) (λ x inside. named_in l x (stays_admitted w l t x k (all_at (stays l t) x ids all inside)))) in
    let same = length-map l.admitted (λ (a : Admitted). a.id) in
    omega (arith, few, same, k.memory.messages)
  where
    among : (names : List Id) → IsIn id names → ((x : Id) → IsIn x ids → IsIn x names) → (x : Id) → IsIn x (id ∷ ids) → IsIn x names
    among names own rest x (inl e) = subst (λ y. IsIn y names) e own
    among names own rest x (inr inside) = rest x inside

joins_within : (any old room : Bool) → (old ≡ false → room ≡ true) → (not (any && not old) || room) ≡ true
joins_within true true room h = refl
joins_within true false room h = h refl
joins_within false old room h = refl

lines_fit : (w : World) (l : Ledger) (id : Id) (rows : List Row) (n : ℕ) (ls : List (List Id)) → IsConsistent w l → is_admitted l id ≡ true → list_all are_distinct ls ≡ true →
    list_all (λ (line : ℕ × List Id). list_all (stays l line.0) line.1) (enumerate_from n ls) ≡ true → list_all (can_join id rows w.settings.active_limit) (enumerate_from n (map (jobs_of l) (enumerate_from n ls))) ≡ true
lines_fit w l id rows n [] k here once all = refl
lines_fit w l id rows n (ids ∷ ls) k here once all =
    let two = and_parts (are_distinct ids) (list_all are_distinct ls) once in
    let both = and_parts (list_all (stays l n) ids) (list_all (λ (line : ℕ × List Id). list_all (stays l line.0) line.1) (enumerate_from (n + 1) ls)) all in
    let jobs : List Job = map (job_of l n) ids in
    let room : list_any (λ (j : Job). id_eq id j.id) jobs ≡ false → nat_lt (length jobs) w.settings.active_limit ≡ true =
    λ new. lt-ltb (length jobs) w.settings.active_limit
    (subst (λ m. m < w.settings.active_limit) (sym (length-map ids (job_of l n))) (line_few w l n id ids k two.0 both.0 here (sym (list_any-map (λ (j : Job). id_eq id j.id) (job_of l n) ids) ∙ new))) in
    and_from (can_join id rows w.settings.active_limit (n, jobs)) (list_all (can_join id rows w.settings.active_limit) (enumerate_from (n + 1) (map (jobs_of l) (enumerate_from (n + 1) ls))))
    (joins_within (list_any (λ (r : Row). r.site.transport == n) rows) (list_any (λ (j : Job). id_eq id j.id) jobs) (nat_lt (length jobs) w.settings.active_limit) room)
    (lines_fit w l id rows (n + 1) ls k here two.1 both.1)

-- ---- each row has a recipient

rows_few : (rs : List Row) → list_all is_filled rs ≡ true → length rs ≤ row_lengths rs
rows_few [] h = omega arith
rows_few (r ∷ rs) h =
    let two = and_parts (is_filled r) (list_all is_filled rs) h in
    let some = ltb-true 0 (length r.positions) two.0 in
    let rest = rows_few rs two.1 in
    let step = lengths_more r rs in
    omega (arith, some, rest, step)

rows_fit : (w : World) (l : Ledger) (id : Id) (from to : ℕ) (m : Message) → IsConsistent w l → message_of l.book id ≡ Some m → may_load w l id from to ≡ true → length l.waiting + length (load_rows w m from to) ≤ w.settings.recipient_limit
rows_fit w l id from to m k e may =
    let rows : List Row = load_rows w m from to in
    let old = rows_few l.waiting k.memory.filled in
    let new = rows_few rows (rows_filled w m [] (load_positions m from to) refl) in
    let read = rows_length w m [] (load_positions m from to) in
    let few = (fits w l id from to m k e may).few in
    omega (arith, old, new, read, few, k.memory.recipients)

-- the rows of a load fit in
pub load_fits : {w : World} {c : Core} {l : Ledger} → Agrees w c l → length c.flights ≤ most_flights c.params c.transports → (id : Id) (from to : ℕ) (m : Message) → message_of l.book id ≡ Some m → may_load w l id from to ≡ true → fit_in c id (load_rows w m from to) ≡ true
load_fits {w = w} {c = c} {l = l} a few id from to m e may =
    let h = a.matches.parts in
    let rows : List Row = load_rows w m from to in
    let beside = rows_fit w l id from to m a.consistent e may in
    let known = sites_few w l a.sites in
    let waiting = ap (λ (rs : List Row). length rs) h.waiting in
    let flights = ap (λ (fs : List Delivery). length fs) h.flights in
    let sites = ap (λ (ss : List SiteRecord). length ss) h.sites in
    let limit = ap (λ (p : Settings). p.recipient_limit) h.settings in
    let here : is_admitted l id ≡ true = sym (same_admitted h id) ∙ loaded_there h id from to may in
    fit_from c id rows (record {
      beside = omega (arith, beside, waiting, limit);
      known = omega (arith, beside, known, few, waiting, flights, sites, limit);
      lines =
          ap (λ (ls : List (List Job)). list_all (can_join id rows c.params.active_limit) (enumerate_from 0 ls)) h.lines
          ∙ ap (λ (p : Settings). list_all (can_join id rows p.active_limit) (enumerate_from 0 (map (jobs_of l) (enumerate_from 0 l.lines)))) h.settings
          ∙ lines_fit w l id rows 0 l.lines a.consistent here a.consistent.memory.single a.consistent.memory.lines;
    })
