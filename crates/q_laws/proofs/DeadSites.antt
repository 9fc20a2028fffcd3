-- An entry makes at most one more dead site unused, so that no more than one must be forgotten after it.
use Rattle.std.proofs.Common.{◌≡◌, None, ℕ, ◌+◌, ◌≤◌, Bool, true, false, not, List, [], ◌∷◌, ◌++◌, map, filter, ◌⊎◌, inl, inr, refl, sym, ap, ◌∙◌, subst, arith, if◌then◌else◌, eq-eqb, eqb-true}
use Rattle.std.proofs.lemmas.Bool.{and_from, and_parts, not-true, not_from_false}
use Rattle.std.specs.List.{list_any}
use Rattle.std.specs.Prelude.{◌&&◌, ◌==◌}
use Rattle.q_laws.proofs.Delivered.{this_row}
use Rattle.q_laws.proofs.Loaded.{records_is}
use Rattle.q_laws.proofs.Members.{IsIn, in_left, in_map, none_at, none_from}
use Rattle.q_laws.proofs.SiteCounts.{busy_begun, busy_left, fewer_pass, kept_dead_in, one_more_passes, tally, tally_append, tally_cons, tally_map, turned, unused_in, waits_dropped, waits_in}
use Rattle.q_laws.proofs.SiteLists.{busy_in}
use Rattle.q_laws.specs.Consistency.{are_once}
use Rattle.q_laws.specs.SitesConsistency.{IsSitesConsistent}
use Rattle.q_model.specs.Deliveries.{busy}
use Rattle.q_model.specs.Ledger.{Ledger}
use Rattle.q_model.specs.Lists.{drop_first}
use Rattle.q_model.specs.Loads.{with_records}
use Rattle.q_model.specs.Revival.{is_due, is_rest_over, rest_ended, revive_all, wake_due}
use Rattle.q_model.specs.Settings.{World}
use Rattle.q_model.specs.SiteRecords.{is_alive, is_awake, is_resting, new_record, with_record}
use Rattle.q_model.specs.Sites.{site_eq}
use Rattle.q_model.specs.Starts.{is_row}
use Rattle.q_model.specs.UnusedSites.{is_remembered}
use Rattle.q_model.specs.Values.{Site, SiteRecord}
use Rattle.q_model.specs.Windows.{after_down, after_state, after_up, rested, revived}
use Rattle.q_model.specs.declared.id.Id.{Id}
use Rattle.q_model.specs.declared.outcome.SiteState.{SiteState}
use Rattle.q_model.specs.declared.outcome.SiteState.TheVariants.{Down, Up}
use Rattle.q_model.specs.declared.rows.Delivery.{Delivery}
use Rattle.q_model.specs.declared.rows.Row.{Row}

same_dead : (rows ws : List Row) (fs gs : List Delivery) (r : SiteRecord) → waits_in rows r.site ≡ waits_in ws r.site → busy_in fs r.site ≡ busy_in gs r.site → kept_dead_in rows fs r ≡ kept_dead_in ws gs r
same_dead rows ws fs gs r waits busy =
    ap (λ b. (not b && (busy_in fs r.site == 0)) && not (is_awake r)) waits
    ∙ ap (λ n. (not (waits_in ws r.site) && (n == 0)) && not (is_awake r)) busy

-- ---- revival

not_awake : (alive resting : Bool) → not (true && not resting) ≡ true → not (alive && not resting) ≡ true
not_awake true resting h = h
not_awake false resting h = refl

-- a site that is alive again is remembered only for a rest, which it had before
once_revived : (rows : List Row) (fs : List Delivery) (w : World) (n : ℕ) (r : SiteRecord) → kept_dead_in rows fs (revived w n r) ≡ true → kept_dead_in rows fs r ≡ true
once_revived rows fs w n r h =
    let two = and_parts (unused_in rows fs r) (not (true && not (is_resting r))) h in
    and_from (unused_in rows fs r) (not (is_awake r)) two.0 (not_awake (is_alive r.health) (is_resting r) two.1)

still_kept : (rows : List Row) (fs : List Delivery) (now : ℕ) (r : SiteRecord) → kept_dead_in rows fs (rest_ended now r) ≡ true → kept_dead_in rows fs r ≡ true
still_kept rows fs now r h = which (is_rest_over now r) h
  where
    awake : (alive resting : Bool) → not (alive && true) ≡ true → not (alive && not resting) ≡ true
    awake true resting k = absurd cc
    awake false resting k = refl

    which : (b : Bool) → kept_dead_in rows fs (if b then record r { rest = None } else r) ≡ true → kept_dead_in rows fs r ≡ true
    which false k = k
    which true k =
        let two = and_parts (unused_in rows fs r) (not (is_alive r.health && true)) k in
        and_from (unused_in rows fs r) (not (is_awake r)) two.0 (awake (is_alive r.health) (is_resting r) two.1)

where_due : (rows : List Row) (fs : List Delivery) (w : World) (n : ℕ) (r : SiteRecord) (b : Bool) → kept_dead_in rows fs (if b then revived w n r else r) ≡ true → kept_dead_in rows fs r ≡ true
where_due rows fs w n r true h = once_revived rows fs w n r h
where_due rows fs w n r false h = h

where_dead : (rows : List Row) (fs : List Delivery) (w : World) (n : ℕ) (r : SiteRecord) (b : Bool) → kept_dead_in rows fs (if b then r else revived w n r) ≡ true → kept_dead_in rows fs r ≡ true
where_dead rows fs w n r false h = once_revived rows fs w n r h
where_dead rows fs w n r true h = h

changed_few : (w : World) (l : Ledger) (change : SiteRecord → SiteRecord) → IsSitesConsistent w l → ((r : SiteRecord) → is_remembered l (change r) ≡ true → is_remembered l r ≡ true) → tally (is_remembered l) (map change l.sites) ≤ w.settings.recipient_limit + 1
changed_few w l change h keeps =
    let a : tally (is_remembered l) (map change l.sites) ≡ tally (λ r. is_remembered l (change r)) l.sites = tally_map (is_remembered l) change l.sites in
    let b : tally (λ r. is_remembered l (change r)) l.sites ≤ tally (is_remembered l) l.sites = fewer_pass (is_remembered l) (λ r. is_remembered l (change r)) l.sites (λ r inside k. keeps r k) in
    let c : tally (is_remembered l) l.sites ≤ w.settings.recipient_limit = h.few in
    omega (arith, a, b, c)

pub due_few : (w : World) (l : Ledger) (t : ℕ) → IsSitesConsistent w l → tally (is_remembered l) (wake_due w (record l { now = t })) ≤ w.settings.recipient_limit + 1
due_few w l t h = changed_few w l (λ r. rest_ended t (if is_due t r.health then revived w (busy l r.site) r else r)) h (λ r k.
    where_due l.waiting l.flights w (busy l r.site) r (is_due t r.health) (still_kept l.waiting l.flights t (if is_due t r.health then revived w (busy l r.site) r else r) k))

pub all_few : (w : World) (l : Ledger) → IsSitesConsistent w l → tally (is_remembered l) (revive_all w l) ≤ w.settings.recipient_limit + 1
all_few w l h = changed_few w l (λ r. if is_alive r.health then r else revived w (busy l r.site) r) h (λ r. where_dead l.waiting l.flights w (busy l r.site) r (is_alive r.health))

-- ---- reply

-- of two deliveries of a number there is only one
same_number : (f g : Delivery) (fs : List Delivery) → are_once (map (λ (x : Delivery). x.number) fs) ≡ true → IsIn f fs → IsIn g fs → g.number ≡ f.number → g ≡ f
same_number f g [] h a b e = absurd a
same_number f g (x ∷ xs) h a b e = which a b (λ c d. same_number f g xs (and_parts (not (list_any (λ m. m == x.number) (map (λ (y : Delivery). y.number) xs))) (are_once (map (λ (y : Delivery). y.number) xs)) h).1 c d e)
  where
    alone : (y : Delivery) → IsIn y xs → y.number ≡ x.number → ⊥
    alone y inside same =
        let numbers = map (λ (z : Delivery). z.number) xs in
        let none = not-true (list_any (λ m. m == x.number) numbers) (and_parts (not (list_any (λ m. m == x.number) numbers)) (are_once numbers) h).0 in
        let bad : true ≡ false = sym (eq-eqb y.number x.number same) ∙ none_at (λ m. m == x.number) y.number numbers none (in_map (λ (z : Delivery). z.number) y xs inside) in
        absurd cc

    which : (x ≡ f) ⊎ IsIn f xs → (x ≡ g) ⊎ IsIn g xs → (IsIn f xs → IsIn g xs → g ≡ f) → g ≡ f
    which (inl c) (inl d) rest = sym d ∙ c
    which (inl c) (inr d) rest = absurd (alone g d (e ∙ ap (λ (y : Delivery). y.number) (sym c)))
    which (inr c) (inl d) rest = absurd (alone f c (sym e ∙ ap (λ (y : Delivery). y.number) (sym d)))
    which (inr c) (inr d) rest = rest c d

abbrev others : Delivery → Delivery → Bool
others f g = not (g.number == f.number)

not_false : (b : Bool) → not b ≡ false → b ≡ true
not_false true h = refl
not_false false h = absurd cc

other_busy : (f : Delivery) (fs : List Delivery) (site : Site) → are_once (map (λ (x : Delivery). x.number) fs) ≡ true → IsIn f fs → site_eq site f.row.site ≡ false → busy_in (filter (others f) fs) site ≡ busy_in fs site
other_busy f fs site once inside apart = busy_left (others f) fs site (λ g there gone.
    let same : g ≡ f = same_number f g fs once inside there (eqb-true g.number f.number (not_false (g.number == f.number) gone)) in
    ap (λ (x : Delivery). site_eq x.row.site site) same ∙ turned site f.row.site apart)

heard_few : (w : World) (l : Ledger) (f : Delivery) (change : SiteRecord → SiteRecord) → IsSitesConsistent w l → are_once (map (λ (x : Delivery). x.number) l.flights) ≡ true → IsIn f l.flights →
    tally (kept_dead_in l.waiting (filter (others f) l.flights)) (map (λ r. if site_eq r.site f.row.site then change r else r) l.sites) ≤ w.settings.recipient_limit + 1
heard_few w l f change h once inside =
    let fs = filter (others f) l.flights in
    let changed : SiteRecord → SiteRecord = λ r. if site_eq r.site f.row.site then change r else r in
    let a : tally (kept_dead_in l.waiting fs) (map changed l.sites) ≡ tally (λ r. kept_dead_in l.waiting fs (changed r)) l.sites = tally_map (kept_dead_in l.waiting fs) changed l.sites in
    let b : tally (λ r. kept_dead_in l.waiting fs (changed r)) l.sites ≤ tally (is_remembered l) l.sites + 1 = one_more_passes (is_remembered l) (λ r. kept_dead_in l.waiting fs (changed r)) f.row.site l.sites h.apart (λ r apart k.
    same_dead l.waiting l.waiting l.flights fs r refl (sym (other_busy f l.flights r.site once inside apart))
    ∙ ap (λ b. kept_dead_in l.waiting fs (if b then change r else r)) (sym apart) ∙ k) in
    let c : tally (is_remembered l) l.sites ≤ w.settings.recipient_limit = h.few in
    omega (arith, a, b, c)

pub reply_few : (w : World) (l : Ledger) (f : Delivery) (state : SiteState) → IsSitesConsistent w l → are_once (map (λ (x : Delivery). x.number) l.flights) ≡ true → IsIn f l.flights →
    tally (kept_dead_in l.waiting (filter (λ (g : Delivery). not (g.number == f.number)) l.flights)) (after_state w l f.row.site state) ≤ w.settings.recipient_limit + 1
reply_few w l f Up h once inside = heard_few w l f (λ r. rested w l.now (after_up w (busy l f.row.site) r)) h once inside
reply_few w l f Down h once inside = heard_few w l f (λ r. rested w l.now (after_down w l.now r)) h once inside

-- ---- skip and start

-- the row that goes is of the site
gone_waits : (id : Id) (site : Site) (ps : List ℕ) (rows : List Row) (other : Site) → site_eq other site ≡ false → waits_in (drop_first (is_row id site ps) rows) other ≡ waits_in rows other
gone_waits id site ps rows other apart = waits_dropped (is_row id site ps) rows other (λ r this. ap (λ s. site_eq s other) (this_row id site ps r this).at ∙ turned other site apart)

pub skip_few : (w : World) (l : Ledger) (id : Id) (site : Site) (ps : List ℕ) → IsSitesConsistent w l → tally (kept_dead_in (drop_first (is_row id site ps) l.waiting) l.flights) l.sites ≤ w.settings.recipient_limit + 1
skip_few w l id site ps h =
    let rows = drop_first (is_row id site ps) l.waiting in
    let a : tally (kept_dead_in rows l.flights) l.sites ≤ tally (is_remembered l) l.sites + 1 = one_more_passes (is_remembered l) (kept_dead_in rows l.flights) site l.sites h.apart (λ r apart k.
    same_dead l.waiting rows l.flights l.flights r (sym (gone_waits id site ps l.waiting r.site apart)) refl ∙ k) in
    let b : tally (is_remembered l) l.sites ≤ w.settings.recipient_limit = h.few in
    omega (arith, a, b)

pub start_few : (w : World) (l : Ledger) (number : ℕ) (id : Id) (site : Site) (ps : List ℕ) → IsSitesConsistent w l →
    tally (kept_dead_in (drop_first (is_row id site ps) l.waiting) (l.flights ++ record { number = number; row = record { id = id; site = site; positions = ps } } ∷ [])) l.sites ≤ w.settings.recipient_limit + 1
start_few w l number id site ps h =
    let rows = drop_first (is_row id site ps) l.waiting in
    let f : Delivery = record { number = number; row = record { id = id; site = site; positions = ps } } in
    let a : tally (kept_dead_in rows (l.flights ++ f ∷ [])) l.sites ≤ tally (is_remembered l) l.sites + 1 = one_more_passes (is_remembered l) (kept_dead_in rows (l.flights ++ f ∷ [])) site l.sites h.apart (λ r apart k.
    same_dead l.waiting rows l.flights (l.flights ++ f ∷ []) r (sym (gone_waits id site ps l.waiting r.site apart)) (sym (busy_begun l.flights f r.site (turned r.site site apart))) ∙ k) in
    let b : tally (is_remembered l) l.sites ≤ w.settings.recipient_limit = h.few in
    omega (arith, a, b)

-- ---- load

with_new : (p : SiteRecord → Bool) (w : World) (rs : List SiteRecord) (site : Site) (b : Bool) → p (new_record w site) ≡ false → tally p (if b then rs else rs ++ new_record w site ∷ []) ≡ tally p rs
with_new p w rs site true h = refl
with_new p w rs site false h =
    let a = tally_append p rs (new_record w site ∷ []) in
    let b = tally_cons p (new_record w site) [] in
    let c : ◌≡◌ {A = ℕ} (if p (new_record w site) then 1 else 0) 0 = ap (λ b. if b then 1 else 0) h in
    let d : tally p [] ≡ 0 = refl in
    omega (arith, a, b, c, d)

-- new records pass no test that they don't pass
with_all : (p : SiteRecord → Bool) (w : World) (rows : List Row) (l : Ledger) → ((site : Site) → p (new_record w site) ≡ false) → tally p (with_records w rows l).sites ≡ tally p l.sites
with_all p w [] l h = refl
with_all p w (r ∷ rows) l h =
    with_all p w rows (record l { sites = with_record w l.sites r.site }) h
    ∙ with_new p w l.sites r.site (list_any (λ (s : SiteRecord). site_eq s.site r.site) l.sites) (h r.site)

new_alive : (rows : List Row) (fs : List Delivery) (w : World) (site : Site) → kept_dead_in rows fs (new_record w site) ≡ false
new_alive rows fs w site = which (unused_in rows fs (new_record w site))
  where
    which : (b : Bool) → (b && false) ≡ false
    which true = refl
    which false = refl

more_waits : (rows more : List Row) (fs : List Delivery) (r : SiteRecord) → kept_dead_in (rows ++ more) fs r ≡ true → kept_dead_in rows fs r ≡ true
more_waits rows more fs r h =
    let two = and_parts (unused_in (rows ++ more) fs r) (not (is_awake r)) h in
    let one = and_parts (not (waits_in (rows ++ more) r.site)) (busy_in fs r.site == 0) two.0 in
    let none = not-true (waits_in (rows ++ more) r.site) one.0 in
    let still : waits_in rows r.site ≡ false = none_from (λ (x : Row). site_eq x.site r.site) rows (λ x inside. none_at (λ (y : Row). site_eq y.site r.site) x (rows ++ more) none (in_left x rows more inside)) in
    and_from (unused_in rows fs r) (not (is_awake r)) (and_from (not (waits_in rows r.site)) (busy_in fs r.site == 0) (not_from_false (waits_in rows r.site) still) one.1) two.1

pub load_few : (w : World) (l : Ledger) (rows : List Row) → IsSitesConsistent w l → tally (kept_dead_in (l.waiting ++ rows) (with_records w rows l).flights) (with_records w rows l).sites ≤ w.settings.recipient_limit + 1
load_few w l rows h =
    let fs = (with_records w rows l).flights in
    let same : fs ≡ l.flights = ap (λ (k : Ledger). k.flights) (records_is w rows l).1 in
    let a : tally (kept_dead_in (l.waiting ++ rows) fs) (with_records w rows l).sites ≡ tally (kept_dead_in (l.waiting ++ rows) fs) l.sites = with_all (kept_dead_in (l.waiting ++ rows) fs) w rows l (new_alive (l.waiting ++ rows) fs w) in
    let b : tally (kept_dead_in (l.waiting ++ rows) fs) l.sites ≤ tally (is_remembered l) l.sites = fewer_pass (is_remembered l) (kept_dead_in (l.waiting ++ rows) fs) l.sites (λ r inside k. more_waits l.waiting rows l.flights r (subst (λ gs. kept_dead_in (l.waiting ++ rows) gs r ≡ true) same k)) in
    let c : tally (is_remembered l) l.sites ≤ w.settings.recipient_limit = h.few in
    omega (arith, a, b, c)
