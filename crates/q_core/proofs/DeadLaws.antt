-- Which rows go to dead sites, as sites change.
use Rattle.std.proofs.Common.{◌≡◌, ◌≤◌, ◌+◌, ◌∙◌, ◌∷◌, ◌++◌, [], ap, arith, Bool, cond, false, length, List, map, None, Option, refl, Some, sym, true, ℕ}
use Rattle.std.proofs.lemmas.Grind.{common_steps}
use Rattle.std.specs.List.{AllByRecursion}
use Rattle.std.specs.Option.{option_map_or}
use Rattle.std.specs.Prelude.{◌&&◌, count_by, filter, find, nat_lt, not}
use Rattle.q_core.proofs.CountLaws.{counted_step}
use Rattle.q_core.proofs.SiteChanges.{known_step, remembered_none, with_row}
use Rattle.q_core.proofs.Tallies.{flipped, keyed_mapped, keyed_moved, moved_by, tally_drop, tally_filter, tally_last, tally_others, tally_same}
use Rattle.q_core.specs.Known.{forgotten, site_of}
use Rattle.q_core.specs.Lists.{moved_back}
use Rattle.q_core.specs.Ties.{AreWaitingTied, goes_to_dead, tally_of}
use Rattle.q_dest.specs.declared.dest.Dest.{Dest}
use Rattle.q_dest.specs.Dests.{AreApart, changed_at, gained, is_at, is_dead, is_dead_waiting, is_kept, is_remembered, is_unused, settled}
use Rattle.q_held.specs.Held.{AreHeldBy, HeldRow, released, rows_of}
use Rattle.q_model.proofs.EachLaws.{each-both, each-map, each-same}
use Rattle.q_model.proofs.IdLaws.{site_eq-refl, site_eq-true}
use Rattle.q_model.specs.Lists.{drop_first}
use Rattle.q_model.specs.SiteRecords.{is_alive, is_resting}
use Rattle.q_model.specs.Sites.{site_eq}
use Rattle.q_model.specs.Values.{Site}
use Rattle.q_model.specs.declared.rows.Row.{Row}

abbrev nat_of : Bool → ℕ
nat_of t = cond t 1 0

abbrev one_dead : Dest → ℕ
one_dead d = nat_of (is_dead d)

abbrev dead_at : List Dest → Site → ℕ
dead_at ds s = tally_of site_eq site_of one_dead ds s

abbrev waits_at : List Dest → Site → ℕ
waits_at ds s = tally_of site_eq site_of (λ d. d.waiting) ds s

-- a row goes to a dead site after a change where it did before
abbrev pub AreAlike : List Dest → List Dest → Type 0
AreAlike ds es = (r : Row) → goes_to_dead es r ≡ goes_to_dead ds r

by_one : (t : Bool) → t ≡ nat_lt 0 (nat_of t)
by_one true = refl
by_one false = refl

by_count : (o : Option Dest) → option_map_or is_dead o false ≡ nat_lt 0 (option_map_or one_dead o 0)
by_count None = refl
by_count (Some d) = by_one (is_dead d)

counted : (ds : List Dest) (r : Row) → goes_to_dead ds r ≡ nat_lt 0 (dead_at ds r.site)
counted ds r = by_count (find (is_at r.site) ds)

alike_at : (ds es : List Dest) (r : Row) → dead_at es r.site ≡ dead_at ds r.site → goes_to_dead es r ≡ goes_to_dead ds r
alike_at ds es r same = counted es r ∙ ap (nat_lt 0) same ∙ sym (counted ds r)

-- sites change, and what is known of them stays
dead_mapped : (f : Dest → Dest) → ((d : Dest) → (f d).known ≡ d.known) → (ds : List Dest) (s : Site) → dead_at (map f ds) s ≡ dead_at ds s
dead_mapped f same ds s =
    tally_same site_eq site_of site_eq-true site_eq-refl one_dead f (λ d. ap (λ k. k.site) (same d)) (λ d. ap (λ k. nat_of (not (is_alive k.health))) (same d)) s ds

pub alike_changed : (site : Site) (g : Dest → Dest) → ((d : Dest) → (g d).known ≡ d.known) → (ds : List Dest) → AreAlike ds (map (changed_at site g) ds)
alike_changed site g same ds = λ r. alike_at ds (map (changed_at site g) ds) r (dead_mapped (changed_at site g) (λ d. known_step g same d (is_at site d)) ds r.site)

alive_step : (alive resting unused : Bool) → not ((alive && not resting) && unused) ≡ false → nat_of (not alive) ≡ 0
alive_step true resting unused h = refl
alive_step false resting unused h = cc

-- the site that was changed goes behind all others, or out, where it is unused
pub alike_settled : (site : Site) (g : Dest → Dest) → ((d : Dest) → (g d).known ≡ d.known) → (ds : List Dest) → AreApart ds → AreAlike ds (filter is_kept (settled site g ds))
alike_settled site g same ds apart = λ r.
    let f = changed_at site g in
    let stays : (d : Dest) → (f d).known ≡ d.known = λ d. known_step g same d (is_at site d) in
    let test = λ (d : Dest). is_at site d && is_unused d in
    let changed = map f ds in
    let keyed = keyed_mapped site_eq site_of site_eq-true site_eq-refl f (λ d. ap (λ k. k.site) (stays d)) ds apart in
    alike_at ds (filter is_kept (settled site g ds)) r
    (tally_filter site_eq site_of site_eq-true site_eq-refl one_dead is_kept (λ d h. alive_step (is_alive d.known.health) (is_resting d.known) (is_unused d) h) r.site (moved_back test changed) (keyed_moved site_eq site_of site_eq-true site_eq-refl test changed keyed)
    ∙ moved_by site_eq site_of site_eq-true site_eq-refl one_dead test r.site changed (find test changed) keyed refl
    ∙ dead_mapped f stays ds r.site)

-- a row more waits for a site, which is new and alive where it wasn't known
pub alike_gained : (r : Row) (ds : List Dest) (new : Dest) (own : new.known.site ≡ r.site) → is_dead new ≡ false → (b : Bool) → AreAlike ds (with_row r ds new own b)
alike_gained r ds new own alive true = alike_changed r.site (gained 1) (λ d. refl) ds
alike_gained r ds new own alive false = λ x.
    alike_at ds (ds ++ new ∷ []) x (tally_last site_eq site_of site_eq-true site_eq-refl one_dead x.site ds new (ap nat_of alive))

heard_step : (site : Site) (g : Dest → Dest) → ((d : Dest) → (g d).known.site ≡ d.known.site) → (ds : List Dest) (r : Row) (t : Bool) → site_eq r.site site ≡ t →
    goes_to_dead (map (changed_at site g) ds) r ≡ cond t (option_map_or is_dead (find (is_at site) (map (changed_at site g) ds)) false) (goes_to_dead ds r)
heard_step site g same ds r true e = ap (λ s. option_map_or is_dead (find (is_at s) (map (changed_at site g) ds)) false) (site_eq-true r.site site e)
heard_step site g same ds r false e =
    alike_at ds (map (changed_at site g) ds) r
    (tally_others site_eq site_of site_eq-true site_eq-refl one_dead site g same r.site ds (flipped site_eq site_of site_eq-true site_eq-refl r.site site (site_eq site r.site) refl e))

-- what is known of a site changes, and the others stay
pub turned_at : (site : Site) (g : Dest → Dest) → ((d : Dest) → (g d).known.site ≡ d.known.site) → (ds : List Dest) (held : Bool) → held ≡ option_map_or is_dead (find (is_at site) (map (changed_at site g) ds)) false →
    (r : Row) → goes_to_dead (map (changed_at site g) ds) r ≡ cond (site_eq r.site site) held (goes_to_dead ds r)
turned_at site g same ds held is r =
    heard_step site g same ds r (site_eq r.site site) refl ∙ ap (λ h. cond (site_eq r.site site) h (goes_to_dead ds r)) (sym is)

-- sites at which rows wait

abbrev Waits : List Dest → HeldRow → Type 0
Waits ds h = 1 ≤ waits_at ds h.row.site

waits_step : (ds : List Dest) (h : HeldRow) (hs : List HeldRow) → ((s : Site) → count_by (λ (r : Row). site_eq r.site s) (rows_of (h ∷ hs)) ≤ waits_at ds s) → Waits ds h × ((s : Site) → count_by (λ (r : Row). site_eq r.site s) (rows_of hs) ≤ waits_at ds s)
waits_step ds h hs bound =
    let own = counted_step (λ (r : Row). site_eq r.site h.row.site) h.row (rows_of hs) ∙ ap (λ t. cond t 1 0 + count_by (λ (r : Row). site_eq r.site h.row.site) (rows_of hs)) (site_eq-refl h.row.site) in
    let all = bound h.row.site in (
      omega (arith, own, all),
      λ s. let sum = counted_step (λ (r : Row). site_eq r.site s) h.row (rows_of hs) in let all = bound s in omega (arith, sum, all),
    )

each_waits : (ds : List Dest) (hs : List HeldRow) → ((s : Site) → count_by (λ (r : Row). site_eq r.site s) (rows_of hs) ≤ waits_at ds s) → AllByRecursion (Waits ds) hs
each_waits ds [] bound = tt
each_waits ds (h ∷ hs) bound = let parts = waits_step ds h hs bound in (parts.0, each_waits ds hs parts.1)

tied_waits : (ds : List Dest) (hs : List HeldRow) → AreWaitingTied ds (rows_of hs) → AllByRecursion (Waits ds) hs
tied_waits ds hs tie = each_waits ds hs (λ s. let same = tie s in omega (arith, same))

abbrev one_waiting : Dest → ℕ
one_waiting d = nat_of (is_dead_waiting d)

some_wait : (w : ℕ) (t : Bool) → 1 ≤ w → nat_of t ≡ nat_of (t && nat_lt 0 w)
some_wait w t h = grind (arith, common_steps, h)

wait_alike : (o : Option Dest) → 1 ≤ option_map_or (λ d. d.waiting) o 0 → option_map_or one_dead o 0 ≡ option_map_or one_waiting o 0
wait_alike None h = absurd (omega (arith, h))
wait_alike (Some d) h = some_wait d.waiting (is_dead d) h

none_waits : (w : ℕ) (t : Bool) → w ≡ 0 → nat_of (t && nat_lt 0 w) ≡ 0
none_waits w true h = ap (λ n. nat_of (nat_lt 0 n)) h
none_waits w false h = refl

dead_dropped : (ds : List Dest) → AreApart ds → (s : Site) → 1 ≤ waits_at ds s → dead_at (drop_first is_remembered ds) s ≡ dead_at ds s
dead_dropped ds apart s some =
    let left = drop_first is_remembered ds in
    let same : waits_at left s ≡ waits_at ds s = tally_drop site_eq site_of site_eq-true site_eq-refl (λ d. d.waiting) is_remembered (λ d h. (remembered_none d h).0) s ds apart in
    wait_alike (find (is_at s) left) (omega (arith, same, some))
    ∙ tally_drop site_eq site_of site_eq-true site_eq-refl one_waiting is_remembered (λ d h. none_waits d.waiting (is_dead d) (remembered_none d h).0) s ds apart
    ∙ sym (wait_alike (find (is_at s) ds) some)

-- a dead site to which nothing goes is forgotten
pub held_forgotten : (limit : ℕ) (ds : List Dest) (hs : List HeldRow) → AreApart ds → AreWaitingTied ds (rows_of hs) → AreHeldBy (goes_to_dead ds) hs → AreHeldBy (goes_to_dead (forgotten limit ds)) hs
held_forgotten limit ds hs apart tie held = either (nat_lt limit (length (filter is_remembered ds)))
  where
    either : (b : Bool) → AreHeldBy (goes_to_dead (cond b (drop_first is_remembered ds) ds)) hs
    either true =
        let left = drop_first is_remembered ds in
        each-same (λ (h : HeldRow). (h.held ≡ goes_to_dead ds h.row) × Waits ds h) (λ (h : HeldRow). h.held ≡ goes_to_dead left h.row) hs
        (λ h both. both.0 ∙ sym (alike_at ds left h.row (dead_dropped ds apart h.row.site both.1)))
        (each-both (λ (h : HeldRow). h.held ≡ goes_to_dead ds h.row) (Waits ds) hs held (tied_waits ds hs tie))
    either false = held

none_step : (q : Dest → Bool) (d : Dest) (ds : List Dest) (t : Bool) → length (cond t (d ∷ filter is_dead_waiting ds) (filter is_dead_waiting ds)) ≡ 0 → is_dead_waiting d ≡ t →
    (length (filter is_dead_waiting ds) ≡ 0 → option_map_or one_waiting (find q ds) 0 ≡ 0) → (u : Bool) → option_map_or one_waiting (cond u (Some d) (find q ds)) 0 ≡ 0
none_step q d ds true h e rest u = absurd (omega (arith, h))
none_step q d ds false h e rest true = ap nat_of e
none_step q d ds false h e rest false = rest h

none_waiting : (q : Dest → Bool) (ds : List Dest) → length (filter is_dead_waiting ds) ≡ 0 → option_map_or one_waiting (find q ds) 0 ≡ 0
none_waiting q [] h = refl
none_waiting q (d ∷ ds) h = none_step q d ds (is_dead_waiting d) h refl (none_waiting q ds) (q d)

-- no row waits at a dead site, and all are let go
pub held_none : (ds : List Dest) (hs : List HeldRow) → AreWaitingTied ds (rows_of hs) → length (filter is_dead_waiting ds) ≡ 0 → AreHeldBy (goes_to_dead ds) (map released hs)
held_none ds hs tie none =
    each-map (Waits ds) (λ (h : HeldRow). h.held ≡ goes_to_dead ds h.row) released hs
    (λ h some. sym (counted ds h.row ∙ ap (nat_lt 0) (wait_alike (find (is_at h.row.site) ds) some ∙ none_waiting (is_at h.row.site) ds none))) (tied_waits ds hs tie)
