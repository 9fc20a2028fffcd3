-- Just after a start its site is within its window.
use Rattle.std.proofs.Common.{◌≡◌, ℕ, ◌+◌, ◌≤◌, ◌<◌, Bool, true, false, cond, not, List, [], ◌∷◌, ◌++◌, filter, find, length, Option, Some, None, refl, sym, ap, ◌∙◌, subst, arith, if◌then◌else◌, eqb-true, ltb-true}
use Rattle.std.proofs.lemmas.Bool.{and_parts}
use Rattle.std.specs.List.{list_any}
use Rattle.std.specs.Option.{option_map_or}
use Rattle.std.specs.Prelude.{◌==◌, ◌&&◌, nat_lt}
use Rattle.q_laws.proofs.Delivered.{this_row}
use Rattle.q_laws.proofs.Members.{any_in, find_none_from, in_filtered}
use Rattle.q_laws.proofs.Tidied.{tidy_scan_is}
use Rattle.q_laws.proofs.SiteLists.{busy_more}
use Rattle.q_lives.specs.Throughout.{window_of}
use Rattle.q_model.proofs.IdLaws.{site_eq-refl, site_eq-true}
use Rattle.q_model.specs.Deliveries.{busy, flights_of, waits_at}
use Rattle.q_model.specs.Sites.{site_eq}
use Rattle.q_model.specs.Ledger.{Ledger}
use Rattle.q_model.specs.Lists.{drop_first}
use Rattle.q_model.specs.Past.{starts}
use Rattle.q_model.specs.Settings.{World}
use Rattle.q_model.specs.SiteRecords.{is_awake, record_of}
use Rattle.q_model.specs.Startable.{is_startable}
use Rattle.q_model.specs.Starts.{is_row, may_start}
use Rattle.q_model.specs.Step.{after, change, noted, tidied}
use Rattle.q_model.specs.UnusedSites.{forget_oldest, is_remembered, is_unused, tidied_sites}
use Rattle.q_model.specs.Values.{Site, SiteRecord}
use Rattle.q_model.specs.declared.entry.Entry.{Entry}
use Rattle.q_model.specs.declared.id.Id.{Id}
use Rattle.q_model.specs.declared.rows.Delivery.{Delivery}
use Rattle.q_model.specs.declared.rows.Row.{Row}
use Rattle.q_model.specs.declared.entry.Entry.TheVariants as entries

-- ---- finding in lists from which others were taken

filtered_one : {A : Type 0} (p : A → Bool) (x : A) (o few : Option A) (t u : Bool) → p x ≡ t → (t ≡ true → u ≡ true) → few ≡ o → (xs : List A) → find p xs ≡ few → find p (cond u (x ∷ xs) xs) ≡ cond t (Some x) o
filtered_one p x o few true true e keep same xs h = ap (λ b. cond b (Some x) (find p xs)) e
filtered_one p x o few true false e keep same xs h = let bad = keep refl in absurd cc
filtered_one p x o few false true e keep same xs h = ap (λ b. cond b (Some x) (find p xs)) e ∙ h ∙ same
filtered_one p x o few false false e keep same xs h = h ∙ same

find_filtered : {A : Type 0} (p q : A → Bool) (xs : List A) → ((x : A) → p x ≡ true → q x ≡ true) → find p (filter q xs) ≡ find p xs
find_filtered p q [] keep = refl
find_filtered p q (x ∷ xs) keep = filtered_one p x (find p xs) (find p (filter q xs)) (p x) (q x) refl (keep x) (find_filtered p q xs keep) (filter q xs) refl

find_before : {A : Type 0} (p : A → Bool) (xs ys : List A) → find p ys ≡ None → find p (xs ++ ys) ≡ find p xs
find_before p [] ys none = none
find_before p (x ∷ xs) ys none = ap (cond (p x) (Some x)) (find_before p xs ys none)

dropped_one : {A : Type 0} (p : A → Bool) (x : A) (xs few : List A) (t : Bool) → (t ≡ true → p x ≡ false) → find p few ≡ find p xs → find p (if t then xs else x ∷ few) ≡ cond (p x) (Some x) (find p xs)
dropped_one p x xs few true other h = sym (ap (λ b. cond b (Some x) (find p xs)) (other refl))
dropped_one p x xs few false other h = ap (cond (p x) (Some x)) h

find_dropped : {A : Type 0} (p q : A → Bool) (xs : List A) → ((x : A) → q x ≡ true → p x ≡ false) → find p (drop_first q xs) ≡ find p xs
find_dropped p q [] other = refl
find_dropped p q (x ∷ xs) other = dropped_one p x xs (drop_first q xs) (q x) (other x) (find_dropped p q xs other)

-- ---- a site with deliveries in flight keeps its record

used : (l : Ledger) (site : Site) (r : SiteRecord) → 1 ≤ busy l site → site_eq r.site site ≡ true → is_unused l r ≡ false
used l site r some e = on (is_unused l r) refl
  where
    on : (b : Bool) → is_unused l r ≡ b → b ≡ false
    on false h = refl
    on true h =
        let idle : (busy l r.site == 0) ≡ true = (and_parts (not (waits_at l r.site)) (busy l r.site == 0) h).1 in
        let none : busy l r.site ≡ 0 = eqb-true (busy l r.site) 0 idle in
        let same : busy l r.site ≡ busy l site = ap (busy l) (site_eq-true r.site site e) in
        absurd (omega (arith, none, same, some))

forgotten : (w : World) (l : Ledger) (p : SiteRecord → Bool) (rs : List SiteRecord) → ((r : SiteRecord) → is_remembered l r ≡ true → p r ≡ false) → find p (forget_oldest w l rs) ≡ find p rs
forgotten w l p rs other = on (nat_lt w.settings.recipient_limit (length (filter (is_remembered l) rs)))
  where
    on : (b : Bool) → find p (if b then drop_first (is_remembered l) rs else rs) ≡ find p rs
    on true = find_dropped p (is_remembered l) rs other
    on false = refl

flip : (a b : Bool) → (a ≡ true → b ≡ false) → b ≡ true → a ≡ false
flip true b h e = let bad : true ≡ false = sym e ∙ h refl in bad
flip false b h e = refl

record_kept : (w : World) (before l : Ledger) (site : Site) → 1 ≤ busy l site → find (λ (r : SiteRecord). site_eq r.site site) (tidied_sites w before l) ≡ find (λ (r : SiteRecord). site_eq r.site site) l.sites
record_kept w before l site some =
    let p : SiteRecord → Bool = λ r. site_eq r.site site in
    let newly : SiteRecord → Bool = λ r. is_unused l r && not (is_unused before r) in
    let stays : SiteRecord → Bool = λ r. not (is_unused l r && is_awake r) in
    let ordered = filter (λ r. not (newly r)) l.sites ++ filter newly l.sites in
    let old : (r : SiteRecord) → p r ≡ true → newly r ≡ false = λ r e. ap (λ b. b && not (is_unused before r)) (used l site r some e) in
    let none : find p (filter newly l.sites) ≡ None = find_none_from p (filter newly l.sites) (λ r inside. flip (p r) (newly r) (old r) (in_filtered newly r l.sites inside).1) in
    forgotten w l p (filter stays ordered) (λ r dead. flip (p r) (is_unused l r) (used l site r some) (and_parts (is_unused l r) (not (is_awake r)) dead).0)
    ∙ find_filtered p stays ordered (λ r e. ap (λ b. not (b && is_awake r)) (used l site r some e))
    ∙ find_before p (filter (λ r. not (newly r)) l.sites) (filter newly l.sites) none
    ∙ find_filtered p (λ r. not (newly r)) l.sites (λ r e. ap not (old r e))

-- ---- the start

tidied_busy : (w : World) (before k : Ledger) (site : Site) → busy (tidied w before k) site ≡ busy k site
tidied_busy w before k site = ap (λ (x : Ledger). busy x site) (tidy_scan_is k).2

after_busy : (w : World) (l : Ledger) (e : Entry) (site : Site) → busy (after w l e) site ≡ busy (change w l e) site
unfolding after
after_busy w l e site = tidied_busy w l (noted e (change w l e)) site

after_record : (w : World) (l : Ledger) (e : Entry) (site : Site) → 1 ≤ busy (change w l e) site → record_of (after w l e) site ≡ record_of (change w l e) site
unfolding after
after_record w l e site some = record_kept w l (noted e (change w l e)) site some

room_on : (l : Ledger) (site : Site) (o : Option SiteRecord) → record_of l site ≡ o → option_map_or (λ (s : SiteRecord). is_awake s && nat_lt (busy l site) s.window) o false ≡ true → busy l site < option_map_or (λ (s : SiteRecord). s.window) o 0
room_on l site None e h = absurd cc
room_on l site (Some s) e h = ltb-true (busy l site) s.window (and_parts (is_awake s) (nat_lt (busy l site) s.window) h).1

room : (w : World) (l : Ledger) (number : ℕ) (id : Id) (site : Site) (ps : List ℕ) → may_start w l number id site ps ≡ true → busy l site < window_of l site
room w l number id site ps may =
    let two = and_parts (number == starts l + 1) (list_any (λ (r : Row). is_row id site ps r && is_startable w l r) l.waiting) may in
    let one = any_in (λ (r : Row). is_row id site ps r && is_startable w l r) l.waiting two.1 in
    let r = one.0 in
    let parts = and_parts (is_row id site ps r) (is_startable w l r) one.2 in
    let fits : Bool = option_map_or (λ (s : SiteRecord). is_awake s && nat_lt (busy l r.site) s.window) (record_of l r.site) false in
    subst (λ s. busy l s < window_of l s) (this_row id site ps r parts.0).at
    (room_on l r.site (record_of l r.site) refl (and_parts (nat_lt (flights_of l r.site.transport) w.settings.process_limit) fits parts.1).1)

pub start_window : (w : World) (l : Ledger) (number : ℕ) (id : Id) (site : Site) (ps : List ℕ) → may_start w l number id site ps ≡ true →
    busy (after w l (entries.Start number id site ps)) site ≤ window_of (after w l (entries.Start number id site ps)) site
start_window w l number id site ps may =
    let e = entries.Start number id site ps in
    let f : Delivery = record { number = number; row = record { id = id; site = site; positions = ps } } in
    let below : busy l site < window_of l site = room w l number id site ps may in
    let more : busy (change w l e) site ≡ busy l site + cond (site_eq site site) 1 0 = busy_more site l.flights f in
    let mine : ◌≡◌ {A = ℕ} (cond (site_eq site site) 1 0) 1 = ap (λ b. cond b 1 0) (site_eq-refl site) in
    let some : 1 ≤ busy (change w l e) site = omega (arith, more, mine) in
    let now : busy (after w l e) site ≡ busy (change w l e) site = after_busy w l e site in
    let same : window_of (after w l e) site ≡ window_of l site = ap (λ (o : Option SiteRecord). option_map_or (λ (s : SiteRecord). s.window) o 0) (after_record w l e site some) in
    omega (arith, below, more, mine, now, same)
