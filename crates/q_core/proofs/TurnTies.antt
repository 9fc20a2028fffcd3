-- Peers count rows, stand in their order and know their last starts, as rows come and go.
use Rattle.std.proofs.Common.{◌≡◌, ◌∙◌, ◌+◌, ◌≤◌, ◌<◌, ◌∷◌, ◌++◌, [], ap, arith, Bool, cond, false, filter, find, List, map, None, not, Option, refl, Some, subst, sym, true, ℕ}
use Rattle.std.proofs.lemmas.Grind.{common_steps}
use Rattle.std.specs.List.{AllByRecursion, list_any, remove}
use Rattle.std.specs.Option.{option_map_or}
use Rattle.std.specs.Prelude.{◌&&◌, ◌||◌, ◌==◌, count_by, nat_lt, position, slice_get}
use Rattle.q_core.proofs.Firsts.{find-dropped, find-either, find-more}
use Rattle.q_core.proofs.KeptSums.{kept_sum, sum_counted}
use Rattle.q_core.proofs.ListLaws.{drop_first-Some, find-any, find-passes}
use Rattle.q_core.proofs.PeerTies.{any_found, any_peer, name_of, none_found, peers_fewer, peers_gained, peers_lost}
use Rattle.q_core.proofs.ServedLaws.{all_filtered, all_last, all_mapped, all_weaker, rows_changed_at, rows_lost, rows_more, rows_stay}
use Rattle.q_core.proofs.SiteTies.{any_counted}
use Rattle.q_core.proofs.Tallies.{keyed_mapped, tally_here}
use Rattle.q_core.specs.RowWalks.{is_row_for}
use Rattle.q_core.specs.Sending.{is_for}
use Rattle.q_core.specs.ServedRows.{served_rows}
use Rattle.q_core.specs.Ties.{AreInOrder, ArePeersTied, AreTurnsTied, ComesBefore, is_fresh, is_row_of}
use Rattle.q_core.specs.Tidied.{tidied_served, waits_at_site}
use Rattle.q_jobs.specs.declared.job.Job.{Job}
use Rattle.q_model.specs.declared.id.Id.{Id}
use Rattle.q_model.specs.declared.rows.Row.{Row}
use Rattle.q_model.specs.Ids.{id_eq}
use Rattle.q_model.specs.Lists.{drop_first}
use Rattle.q_model.specs.Values.{Served, Site}
use Rattle.q_rounds.specs.declared.peer.Peer.{Peer}
use Rattle.q_rounds.specs.declared.peer.PeerKey.{PeerKey}
use Rattle.q_rounds.specs.KeyLaws.{key_eq-refl, key_eq-true}
use Rattle.q_rounds.specs.Rounds.{gained, has_last, is_peer, is_started, key_eq, key_of, lost, new_peer, rows_left, started, waits}
use Rattle.q_turns.specs.Turns.{AreApart, changed_at, gained_at, HaveJobs, lost_at, started_at}

-- ---- each peer is found by its key, and waits

found_step : (p d : Peer) (ps : List Peer) (b : Bool) → key_eq (key_of p) (key_of d) ≡ b → find (is_peer p.id p.site) ps ≡ None → find (is_peer d.id d.site) ps ≡ Some d → cond b (Some p) (find (is_peer d.id d.site) ps) ≡ Some d
found_step p d ps true e absent there =
    let same : key_of p ≡ key_of d = key_eq-true (key_of p) (key_of d) e in
    let none : find (is_peer d.id d.site) ps ≡ None = ap (λ (k : PeerKey). find (is_peer k.id k.site) ps) (sym same) ∙ absent in cc
found_step p d ps false e absent there = there

pub all_found : (ps : List Peer) → AreApart ps → AllByRecursion (λ d. find (is_peer d.id d.site) ps ≡ Some d) ps
all_found [] apart = tt
all_found (p ∷ ps) apart = (
  ap (λ b. cond b (Some p) (find (is_peer p.id p.site) ps)) (key_eq-refl (key_of p)),
  all_weaker (λ d. find (is_peer d.id d.site) ps ≡ Some d) (λ d. find (is_peer d.id d.site) (p ∷ ps) ≡ Some d) (λ d there. found_step p d ps (key_eq (key_of p) (key_of d)) refl apart.0 there) ps (all_found ps apart.1),
)

pub all_jobs_wait : (lines : List (List Job)) (ps : List Peer) → HaveJobs lines ps → AllByRecursion (λ p. waits p ≡ true) ps
all_jobs_wait lines [] h = tt
all_jobs_wait lines (p ∷ ps) h = (h.0, all_jobs_wait lines ps h.2)

all_both : {X : Type 0} (P Q R : X → Type 0) → ((x : X) → P x → Q x → R x) → (xs : List X) → AllByRecursion P xs → AllByRecursion Q xs → AllByRecursion R xs
all_both P Q R h [] a b = tt
all_both P Q R h (x ∷ xs) a b = (h x a.0 b.0, all_both P Q R h xs a.1 b.1)

-- ---- rows by their peers

counted_here : (ps : List Peer) (rows : List Row) → ArePeersTied ps rows → (p : Peer) → find (is_peer p.id p.site) ps ≡ Some p → p.waiting ≡ count_by (is_row_of p) rows
counted_here ps rows tie p there = tally_here key_eq key_of key_eq-true key_eq-refl (λ p. p.waiting) name_of ps rows (key_of p) p tie there

more_than_none : (n : ℕ) → nat_lt 0 n ≡ not (n == 0)
more_than_none n = on (n == 0) refl
  where
    on : (b : Bool) → (n == 0) ≡ b → nat_lt 0 n ≡ not b
    on true h = grind (arith, common_steps, h)
    on false h = grind (arith, common_steps, h)

waits_here : (ps : List Peer) (rows : List Row) → ArePeersTied ps rows → (p : Peer) → find (is_peer p.id p.site) ps ≡ Some p → waits p ≡ waits_at_site rows p.id p.site
waits_here ps rows tie p there = more_than_none p.waiting ∙ ap (λ n. not (n == 0)) (counted_here ps rows tie p there) ∙ sym (any_counted (is_row_of p) rows)

-- the first row of a peer
abbrev pub HasRow : List Row → Peer → Type 0
HasRow rows p = (r : Row) × (find (is_row_of p) rows ≡ Some r)

pub row_there : (ps : List Peer) (rows : List Row) → ArePeersTied ps rows → (p : Peer) → find (is_peer p.id p.site) ps ≡ Some p → waits p ≡ true → HasRow rows p
row_there ps rows tie p there w = any_found (is_row_of p) rows (sym (waits_here ps rows tie p there) ∙ w)

all_have_rows : (lines : List (List Job)) (ps : List Peer) (rows : List Row) → AreApart ps → HaveJobs lines ps → ArePeersTied ps rows → AllByRecursion (HasRow rows) ps
all_have_rows lines ps rows apart jobs tie =
    all_both (λ p. find (is_peer p.id p.site) ps ≡ Some p) (λ p. waits p ≡ true) (HasRow rows) (λ p there w. row_there ps rows tie p there w) ps (all_found ps apart) (all_jobs_wait lines ps jobs)

-- each served row has a row that waits
pub served_wait : (lines : List (List Job)) (ps : List Peer) (rows : List Row) → AreApart ps → HaveJobs lines ps → ArePeersTied ps rows → tidied_served rows (served_rows ps) ≡ served_rows ps
served_wait lines ps rows apart jobs tie =
    rows_stay (λ (s : Served). waits_at_site rows s.id s.site) ps
    (all_both (λ p. find (is_peer p.id p.site) ps ≡ Some p) (λ p. waits p ≡ true) (λ p. waits_at_site rows p.id p.site ≡ true) (λ p there w. sym (waits_here ps rows tie p there) ∙ w) ps (all_found ps apart) (all_jobs_wait lines ps jobs))

-- ---- the order, as rows and peers change

abbrev either : Peer → Peer → Row → Bool
either p d r = is_row_of p r || is_row_of d r

more_before : (rows more : List Row) (p d : Peer) → HasRow rows p → ComesBefore rows p d → ComesBefore (rows ++ more) p d
more_before rows more p d row before = λ fp fd.
    find-more (either p d) rows more row.0 (before fp fd ∙ row.1) ∙ sym (find-more (is_row_of p) rows more row.0 row.1)

order_more : (rows more : List Row) (ps : List Peer) → AllByRecursion (HasRow rows) ps → AreInOrder rows ps → AreInOrder (rows ++ more) ps
order_more rows more [] have order = tt
order_more rows more (p ∷ ps) have order =
    (all_weaker (ComesBefore rows p) (ComesBefore (rows ++ more) p) (λ d before. more_before rows more p d have.0 before) ps order.0, order_more rows more ps have.1 order.1)

order_last : (rows : List Row) (ps : List Peer) (d : Peer) → AllByRecursion (λ p. ComesBefore rows p d) ps → AreInOrder rows ps → AreInOrder rows (ps ++ d ∷ [])
order_last rows [] d before order = (tt, tt)
order_last rows (p ∷ ps) d before order = (all_last (ComesBefore rows p) ps d order.0 before.0, order_last rows ps d before.1 order.1)

-- each peer keeps its rows, and none comes to be fresh
module _ (rows : List Row) (f : Peer → Peer) (same : (p : Peer) → key_of (f p) ≡ key_of p) (fresh : (p : Peer) → is_fresh (f p) ≡ true → is_fresh p ≡ true) where
  mapped_before : (p d : Peer) → ComesBefore rows p d → ComesBefore rows (f p) (f d)
  mapped_before p d before = λ fp fd.
      ap (λ (k : PeerKey). find (λ (r : Row). key_eq (name_of r) k || is_row_of (f d) r) rows) (same p)
      ∙ ap (λ (k : PeerKey). find (λ (r : Row). is_row_of p r || key_eq (name_of r) k) rows) (same d)
      ∙ before (fresh p fp) (fresh d fd)
      ∙ ap (λ (k : PeerKey). find (λ (r : Row). key_eq (name_of r) k) rows) (sym (same p))

  order_mapped : (ps : List Peer) → AreInOrder rows ps → AreInOrder rows (map f ps)
  order_mapped [] order = tt
  order_mapped (p ∷ ps) order = (all_mapped (ComesBefore rows p) (ComesBefore rows (f p)) f (λ d before. mapped_before p d before) ps order.0, order_mapped ps order.1)

kept_step : (rows : List Row) (p : Peer) (ps : List Peer) (b : Bool) → AllByRecursion (ComesBefore rows p) ps → AreInOrder rows ps → AreInOrder rows (cond b (p ∷ ps) ps)
kept_step rows p ps true own rest = (own, rest)
kept_step rows p ps false own rest = rest

order_filtered : (rows : List Row) (keep : Peer → Bool) (ps : List Peer) → AreInOrder rows ps → AreInOrder rows (filter keep ps)
order_filtered rows keep [] order = tt
order_filtered rows keep (p ∷ ps) order = kept_step rows p (filter keep ps) (keep p) (all_filtered (ComesBefore rows p) keep ps order.0) (order_filtered rows keep ps order.1)

-- ---- a row more

key_changed : (id : Id) (site : Site) (f : Peer → Peer) → ((p : Peer) → key_of (f p) ≡ key_of p) → (p : Peer) → key_of (changed_at id site f p) ≡ key_of p
key_changed id site f same p = on (is_peer id site p)
  where
    on : (b : Bool) → key_of (cond b (f p) p) ≡ key_of p
    on true = same p
    on false = refl

fresh_changed : (id : Id) (site : Site) (f : Peer → Peer) → ((p : Peer) → is_fresh (f p) ≡ true → is_fresh p ≡ true) → (p : Peer) → is_fresh (changed_at id site f p) ≡ true → is_fresh p ≡ true
fresh_changed id site f fresh p = on (is_peer id site p)
  where
    on : (b : Bool) → is_fresh (cond b (f p) p) ≡ true → is_fresh p ≡ true
    on true h = fresh p h
    on false h = h

abbrev counted : Option Peer → ℕ
counted o = option_map_or (λ p. p.waiting) o 0

-- no row is of a peer that isn't there
no_row : (ps : List Peer) (rows : List Row) (id : Id) (site : Site) → ArePeersTied ps rows → find (is_peer id site) ps ≡ None → find (is_row_of (new_peer id site 0)) rows ≡ None
no_row ps rows id site tie none =
    let k : PeerKey = record { id = id; site = site } in
    let count : 0 ≡ count_by (λ (r : Row). key_eq (name_of r) k) rows = ap counted (sym none) ∙ tie k in
    none_found (λ (r : Row). key_eq (name_of r) k) rows (any_counted (λ (r : Row). key_eq (name_of r) k) rows ∙ ap (λ n. not (n == 0)) (sym count))

last_before : (rows : List Row) (r : Row) (p d : Peer) → HasRow rows p → find (is_row_of d) rows ≡ None → ComesBefore (rows ++ r ∷ []) p d
last_before rows r p d row none = λ fp fd.
    find-more (either p d) rows (r ∷ []) row.0 (find-either (is_row_of p) (is_row_of d) rows none ∙ row.1) ∙ sym (find-more (is_row_of p) rows (r ∷ []) row.0 row.1)

module _ (lines : List (List Job)) (ps : List Peer) (rows : List Row) (starts : ℕ) (apart : AreApart ps) (jobs : HaveJobs lines ps) (tie : AreTurnsTied ps rows starts) where
  have : AllByRecursion (HasRow rows) ps
  have = all_have_rows lines ps rows apart jobs tie.counts

  gained_step : (r : Row) (b : Bool) → list_any (is_peer r.id r.site) ps ≡ b →
      AreInOrder (rows ++ r ∷ []) (cond b (map (changed_at r.id r.site gained) ps) (ps ++ new_peer r.id r.site 0 ∷ [])) × AllByRecursion (λ p. p.last ≤ starts) (cond b (map (changed_at r.id r.site gained) ps) (ps ++ new_peer r.id r.site 0 ∷ []))
  gained_step r true t = (
    order_mapped (rows ++ r ∷ []) (changed_at r.id r.site gained) (key_changed r.id r.site gained (λ p. refl)) (fresh_changed r.id r.site gained (λ p h. h)) ps (order_more rows (r ∷ []) ps have tie.order),
    all_mapped (λ p. p.last ≤ starts) (λ p. p.last ≤ starts) (changed_at r.id r.site gained) (λ p low. low_changed p low (is_peer r.id r.site p)) ps tie.known,
  )
    where
      low_changed : (p : Peer) → p.last ≤ starts → (b : Bool) → (cond b (gained p) p).last ≤ starts
      low_changed p low true = low
      low_changed p low false = low
  gained_step r false t =
      let none = none_found (is_peer r.id r.site) ps t in
      let no = no_row ps rows r.id r.site tie.counts none in (
        order_last (rows ++ r ∷ []) ps (new_peer r.id r.site 0) (all_weaker (HasRow rows) (λ p. ComesBefore (rows ++ r ∷ []) p (new_peer r.id r.site 0)) (λ p row. last_before rows r p (new_peer r.id r.site 0) row no) ps have)
            (order_more rows (r ∷ []) ps have tie.order),
        all_last (λ p. p.last ≤ starts) ps (new_peer r.id r.site 0) tie.known (omega arith),
      )

  pub turns_gained : (r : Row) → AreTurnsTied (gained_at r.id r.site ps) (rows ++ r ∷ []) starts
  turns_gained r =
      let both = gained_step r (list_any (is_peer r.id r.site) ps) refl in
      record { counts = peers_gained r ps rows tie.counts (list_any (is_peer r.id r.site) ps) refl; order = both.0; known = both.1 }

pub served_gained : (id : Id) (site : Site) (ps : List Peer) (b : Bool) → served_rows (cond b (map (changed_at id site gained) ps) (ps ++ new_peer id site 0 ∷ [])) ≡ served_rows ps
served_gained id site ps true = rows_changed_at id site gained (λ p. refl) ps
served_gained id site ps false = rows_more id site ps

-- ---- a row less

lost_stale : (s q : Bool) → (not s && not (q || not s)) ≡ true → ⊥
lost_stale true q h = cc
lost_stale false true h = cc
lost_stale false false h = cc

module _ (rows : List Row) (id : Id) (site : Site) where
  abbrev its : Row → Bool
  its r = key_eq (name_of r) (record { id = id; site = site })

  not_its : (p : Peer) → is_peer id site p ≡ false → (r : Row) → its r ≡ true → is_row_of p r ≡ false
  not_its p other r e =
      let same : name_of r ≡ record { id = id; site = site } = key_eq-true (name_of r) (record { id = id; site = site }) e in
      ap (λ (k : PeerKey). key_eq k (key_of p)) same ∙ flipped (key_eq (record { id = id; site = site }) (key_of p)) refl
    where
      flipped : (b : Bool) → key_eq (record { id = id; site = site }) (key_of p) ≡ b → b ≡ false
      flipped false h = refl
      flipped true h =
          let is : record { id = id; site = site } ≡ key_of p = key_eq-true (record { id = id; site = site }) (key_of p) h in
          let bad : true ≡ false = sym (key_eq-refl (key_of p)) ∙ ap (key_eq (key_of p)) (sym is) ∙ other in cc

  neither_its : (p d : Peer) → is_peer id site p ≡ false → is_peer id site d ≡ false → (r : Row) → its r ≡ true → either p d r ≡ false
  neither_its p d op od r e = ap (λ b. b || is_row_of d r) (not_its p op r e) ∙ not_its d od r e

  dropped_before : (p d : Peer) → ComesBefore rows p d → (a b : Bool) → is_peer id site p ≡ a → is_peer id site d ≡ b → ComesBefore (drop_first its rows) (cond a (lost p) p) (cond b (lost d) d)
  dropped_before p d before true b s t = λ fp fd. absurd (lost_stale (is_started p) p.passed fp)
  dropped_before p d before false true s t = λ fp fd. absurd (lost_stale (is_started d) d.passed fd)
  dropped_before p d before false false s t = λ fp fd.
      find-dropped (either p d) its (neither_its p d s t) rows ∙ before fp fd ∙ sym (find-dropped (is_row_of p) its (not_its p s) rows)

  order_dropped : (ps : List Peer) → AreInOrder rows ps → AreInOrder (drop_first its rows) (map (changed_at id site lost) ps)
  order_dropped [] order = tt
  order_dropped (p ∷ ps) order = (
    all_mapped (ComesBefore rows p) (ComesBefore (drop_first its rows) (changed_at id site lost p)) (changed_at id site lost) (λ d before. dropped_before p d before (is_peer id site p) (is_peer id site d) refl refl) ps order.0,
    order_dropped ps order.1,
  )

low_lost : (starts : ℕ) (p : Peer) → p.last ≤ starts → (b : Bool) → (cond b (lost p) p).last ≤ starts
low_lost starts p low true = low
low_lost starts p low false = low

-- the row at this place is the first of its message at its site
pub turns_lost : (ps : List Peer) (rows : List Row) (starts i : ℕ) (row : Row) → AreApart ps → AreTurnsTied ps rows starts → slice_get rows i ≡ Some row → remove rows i ≡ drop_first (λ (r : Row). key_eq (name_of r) (name_of row)) rows →
    AreTurnsTied (lost_at row.id row.site ps) (remove rows i) starts
turns_lost ps rows starts i row apart tie at first = record {
  counts = peers_lost rows i row ps apart at tie.counts;
  order = subst (λ rs. AreInOrder rs (lost_at row.id row.site ps)) (sym first) (order_filtered (drop_first (its rows row.id row.site) rows) waits (map (changed_at row.id row.site lost) ps) (order_dropped rows row.id row.site ps tie.order));
  known = all_filtered (λ p. p.last ≤ starts) waits (map (changed_at row.id row.site lost) ps)
      (all_mapped (λ p. p.last ≤ starts) (λ p. p.last ≤ starts) (changed_at row.id row.site lost) (λ p low. low_lost starts p low (is_peer row.id row.site p)) ps tie.known);
}

-- the served rows that still wait are left
pub served_lost : (ps : List Peer) (rows : List Row) (i : ℕ) (row : Row) → AreApart ps → ArePeersTied ps rows → slice_get rows i ≡ Some row → served_rows (lost_at row.id row.site ps) ≡ tidied_served (remove rows i) (served_rows ps)
served_lost ps rows i row apart tie at =
    let less = map (changed_at row.id row.site lost) ps in
    let fewer : ArePeersTied less (remove rows i) = peers_fewer rows i row ps at tie in
    let keyed = keyed_mapped key_eq key_of key_eq-true key_eq-refl (changed_at row.id row.site lost) (key_changed row.id row.site lost (λ p. refl)) ps apart in
    rows_lost (λ (s : Served). waits_at_site (remove rows i) s.id s.site) row.id row.site ps
    (all_weaker (λ p. find (is_peer p.id p.site) less ≡ Some p) (λ p. waits p ≡ waits_at_site (remove rows i) p.id p.site) (λ p there. waits_here less (remove rows i) fewer p there) less (all_found less keyed))

-- ---- a peer is sent to

stale_started : (n : ℕ) (p : Peer) → 0 < n → is_fresh (started n p) ≡ true → is_fresh p ≡ true
stale_started n p some h =
    let on : nat_lt 0 n ≡ true = grind (arith, common_steps, some) in
    let bad : true ≡ false = sym h ∙ ap (λ b. not b && true) on in cc

kept_waiting : (n : ℕ) (k : PeerKey) (p : Peer) (o q : Option Peer) (b c : Bool) → key_eq (key_of p) k ≡ b → counted o ≡ counted q →
    counted (cond (key_eq (key_of (cond c (started n p) p)) k) (Some (cond c (started n p) p)) o) ≡ counted (cond b (Some p) q)
kept_waiting n k p o q true true e rest = ap (λ b. counted (cond b (Some (started n p)) o)) e
kept_waiting n k p o q true false e rest = ap (λ b. counted (cond b (Some p) o)) e
kept_waiting n k p o q false true e rest = ap (λ b. counted (cond b (Some (started n p)) o)) e ∙ rest
kept_waiting n k p o q false false e rest = ap (λ b. counted (cond b (Some p) o)) e ∙ rest

started_waiting : (id : Id) (site : Site) (n : ℕ) (k : PeerKey) (ps : List Peer) → counted (find (λ p. key_eq (key_of p) k) (started_at id site n ps)) ≡ counted (find (λ p. key_eq (key_of p) k) ps)
started_waiting id site n k [] = refl
started_waiting id site n k (p ∷ ps) =
    kept_waiting n k p (find (λ p. key_eq (key_of p) k) (started_at id site n ps)) (find (λ p. key_eq (key_of p) k) ps) (key_eq (key_of p) k) (is_peer id site p) refl (started_waiting id site n k ps)

started_kept : (ps : List Peer) (rows : List Row) (id : Id) (site : Site) (n : ℕ) → ArePeersTied ps rows → ArePeersTied (started_at id site n ps) rows
started_kept ps rows id site n tie = λ k. started_waiting id site n k ps ∙ tie k

pub turns_started : (ps : List Peer) (rows : List Row) (starts n : ℕ) (id : Id) (site : Site) → starts < n → AreTurnsTied ps rows starts → AreTurnsTied (started_at id site n ps) rows n
turns_started ps rows starts n id site more tie =
    let some : 0 < n = omega (arith, more) in record {
      counts = started_kept ps rows id site n tie.counts;
      order = order_mapped rows (changed_at id site (started n)) (key_changed id site (started n) (λ p. refl)) (fresh_changed id site (started n) (λ p h. stale_started n p some h)) ps tie.order;
      known = all_mapped (λ p. p.last ≤ starts) (λ p. p.last ≤ n) (changed_at id site (started n)) (λ p low. low_started p low (is_peer id site p)) ps tie.known;
    }
  where
    low_started : (p : Peer) → p.last ≤ starts → (b : Bool) → (cond b (started n p) p).last ≤ n
    low_started p low true = omega arith
    low_started p low false = omega (arith, low, more)

-- no peer has the number of a start that comes
pub none_has : (ps : List Peer) (starts n : ℕ) → starts < n → AllByRecursion (λ p. p.last ≤ starts) ps → find (has_last n) ps ≡ None
none_has [] starts n more known = refl
none_has (p ∷ ps) starts n more known =
    let other : has_last n p ≡ false = on (nat_lt 0 n) in
    ap (λ b. cond b (Some p) (find (has_last n) ps)) other ∙ none_has ps starts n more known.1
  where
    differs : (p.last == n) ≡ false
    differs = let low = known.0 in grind (arith, common_steps, low, more)

    on : (b : Bool) → (b && (p.last == n)) ≡ false
    on true = differs
    on false = refl

pub all_before : (ps : List Peer) (starts n : ℕ) → starts < n → AllByRecursion (λ p. p.last ≤ starts) ps → AllByRecursion (λ p. p.last < n) ps
all_before ps starts n more known = all_weaker (λ p. p.last ≤ starts) (λ p. p.last < n) (λ p low. omega (arith, low, more)) ps known

-- ---- what is known of a row that was found

pub name_found : (rows : List Row) (id : Id) (site : Site) (row : Row) → find (is_for id site) rows ≡ Some row → name_of row ≡ record { id = id; site = site }
name_found rows id site row found = key_eq-true (name_of row) (record { id = id; site = site }) (find-passes (is_for id site) rows row found)

pub first_of : (rows : List Row) (id : Id) (site : Site) (i : ℕ) (row : Row) → position (is_for id site) rows ≡ Some i → find (is_for id site) rows ≡ Some row → remove rows i ≡ drop_first (λ (r : Row). key_eq (name_of r) (name_of row)) rows
first_of rows id site i row place found =
    drop_first-Some (is_for id site) rows i place ∙ ap (λ (k : PeerKey). drop_first (λ (r : Row). key_eq (name_of r) k) rows) (sym (name_found rows id site row found))

pub peer_of : (lines : List (List Job)) (ps : List Peer) (rows : List Row) → AreApart ps → HaveJobs lines ps → ArePeersTied ps rows → (p : Row → Bool) (row : Row) → find p rows ≡ Some row → list_any (is_peer row.id row.site) ps ≡ true
peer_of lines ps rows apart jobs tie p row found =
    any_peer lines ps rows apart jobs tie (λ (k : PeerKey). key_eq k (name_of row))
    ∙ find-any p (λ (r : Row). key_eq (name_of r) (name_of row)) rows row found (key_eq-refl (name_of row))

-- how many rows of a message wait at a transport
left_sum : (id : Id) (t : ℕ) (ps : List Peer) → rows_left id t ps ≡ kept_sum key_eq key_of key_eq-true key_eq-refl (λ p. p.waiting) name_of (λ (k : PeerKey). id_eq k.id id && (k.site.transport == t)) ps
left_sum id t [] = refl
left_sum id t (p ∷ ps) = ap (λ n. cond (id_eq p.id id && (p.site.transport == t)) p.waiting 0 + n) (left_sum id t ps)

pub rows_left_counted : (id : Id) (t : ℕ) (ps : List Peer) (rows : List Row) → AreApart ps → ArePeersTied ps rows → rows_left id t ps ≡ count_by (is_row_for id t) rows
rows_left_counted id t ps rows apart tie =
    left_sum id t ps ∙ sum_counted key_eq key_of key_eq-true key_eq-refl (λ p. p.waiting) name_of (λ (k : PeerKey). id_eq k.id id && (k.site.transport == t)) ps rows apart tie

-- at the beginning there is nothing
pub turns_new : (ps : List Peer) (rows : List Row) → ps ≡ [] → rows ≡ [] → AreTurnsTied ps rows 0
turns_new ps rows p r = subst (λ x. AreTurnsTied x rows 0) (sym p) (subst (λ x. AreTurnsTied [] x 0) (sym r) (record { counts = λ k. refl; order = tt; known = tt }))
