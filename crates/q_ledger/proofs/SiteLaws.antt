-- What is left of the records of sites, where it is known which row left, or that none did.
use Rattle.std.proofs.Common.{◌≡◌, ℕ, ◌≤◌, Bool, true, false, cond, not, List, [], ◌∷◌, ◌++◌, length, filter, inl, inr, refl, sym, ap, ◌∙◌, subst, arith, append-nil, if◌then◌else◌}
use Rattle.std.proofs.Math.Path.{fun_ext}
use Rattle.std.proofs.lemmas.Bool.{and_parts, cases_Bool, le-ltb}
use Rattle.std.specs.List.{list_all}
use Rattle.std.specs.Prelude.{◌&&◌, ◌==◌, nat_lt}
use Rattle.q_laws.proofs.Members.{IsIn, all_at, all_weaker, in_either, in_filtered}
use Rattle.q_laws.proofs.SiteCounts.{fewer_pass, tally}
use Rattle.q_laws.specs.SitesConsistency.{IsSitesConsistent, are_apart, is_kept}
use Rattle.q_ledger.proofs.MovedLaws.{moved_is}
use Rattle.q_ledger.specs.Tidying.{forgotten_by, forgotten_in, is_asleep, is_at, is_kept_in, is_remembered_in, is_unused_at, is_unused_in, moved_back, put_last, sites_left}
use Rattle.q_model.proofs.IdLaws.{site_eq-true}
use Rattle.q_model.specs.Ledger.{Ledger}
use Rattle.q_model.specs.Lists.{drop_first}
use Rattle.q_model.specs.Settings.{World}
use Rattle.q_model.specs.SiteRecords.{is_awake}
use Rattle.q_model.specs.Sites.{site_eq}
use Rattle.q_model.specs.UnusedSites.{forget_oldest, is_remembered, is_unused, tidied_sites}
use Rattle.q_model.specs.Values.{Site, SiteRecord}
use Rattle.q_model.specs.declared.rows.Delivery.{Delivery}
use Rattle.q_model.specs.declared.rows.Row.{Row}

-- ---- filters, by the members of a list

pub filter_members : {X : Type 0} (p q : X → Bool) (xs : List X) → ((x : X) → IsIn x xs → p x ≡ q x) → filter p xs ≡ filter q xs
filter_members p q [] h = refl
filter_members p q (x ∷ xs) h = ap (λ b. cond b (x ∷ filter p xs) (filter p xs)) (h x (inl refl)) ∙ ap (λ ys. cond (q x) (x ∷ ys) ys) (filter_members p q xs (λ y k. h y (inr k)))

pub filter_all : {X : Type 0} (q : X → Bool) (xs : List X) → ((x : X) → IsIn x xs → q x ≡ true) → filter q xs ≡ xs
filter_all q [] h = refl
filter_all q (x ∷ xs) h = ap (λ b. cond b (x ∷ filter q xs) (filter q xs)) (h x (inl refl)) ∙ ap (λ ys. x ∷ ys) (filter_all q xs (λ y k. h y (inr k)))

pub filter_nothing : {X : Type 0} (q : X → Bool) (xs : List X) → ((x : X) → IsIn x xs → q x ≡ false) → filter q xs ≡ []
filter_nothing q [] h = refl
filter_nothing q (x ∷ xs) h = ap (λ b. cond b (x ∷ filter q xs) (filter q xs)) (h x (inl refl)) ∙ filter_nothing q xs (λ y k. h y (inr k))

-- ---- the tests in the order in which they are made

both_turned : (a b : Bool) → (a && b) ≡ (b && a)
both_turned true true = refl
both_turned true false = refl
both_turned false true = refl
both_turned false false = refl

kept_turned : (l : Ledger) (r : SiteRecord) → not (is_unused l r && is_awake r) ≡ is_kept_in l.waiting l.flights r
kept_turned l r = ap not (both_turned (is_unused l r) (is_awake r))

pub oldest_turned : (w : World) (l : Ledger) (rs : List SiteRecord) → forget_oldest w l rs ≡ forgotten_by w l rs
oldest_turned w l rs =
    ap (λ (p : SiteRecord → Bool). if nat_lt w.settings.recipient_limit (length (filter p rs)) then drop_first p rs else rs)
    (fun_ext (λ r. both_turned (is_unused l r) (not (is_awake r))))

-- where no more are dead or rest than may be remembered, none is forgotten
pub few_asleep : (waiting : List Row) (flights : List Delivery) (limit : ℕ) (rs : List SiteRecord) → length (filter is_asleep rs) ≤ limit → rs ≡ forgotten_in waiting flights limit rs
few_asleep waiting flights limit rs h =
    let less : tally (is_remembered_in waiting flights) rs ≤ tally is_asleep rs =
    fewer_pass is_asleep (is_remembered_in waiting flights) rs (λ r inside k. (and_parts (not (is_awake r)) (is_unused_in waiting flights r.site) k).0) in
    sym (ap (λ b. if b then drop_first (is_remembered_in waiting flights) rs else rs) (le-ltb limit (tally (is_remembered_in waiting flights) rs) (omega (arith, less, h))))

-- ---- no record came to be unused

abbrev pub comes_unused : Ledger → Ledger → SiteRecord → Bool
comes_unused before l r = is_unused l r && not (is_unused before r)

-- the records that stay, in this order
abbrev kept_of : Ledger → List SiteRecord → List SiteRecord
kept_of l rs = filter (λ r. not (is_unused l r && is_awake r)) rs

pub none_new : (w : World) (before l : Ledger) → ((r : SiteRecord) → IsIn r l.sites → comes_unused before l r ≡ false) → tidied_sites w before l ≡ forgotten_by w l (filter (is_kept_in l.waiting l.flights) l.sites)
none_new w before l h =
    ap (λ xs. forget_oldest w l (kept_of l (xs ++ filter (comes_unused before l) l.sites))) (filter_all (λ r. not (comes_unused before l r)) l.sites (λ r inside. ap not (h r inside)))
    ∙ ap (λ xs. forget_oldest w l (kept_of l (l.sites ++ xs))) (filter_nothing (comes_unused before l) l.sites h)
    ∙ ap (λ xs. forget_oldest w l (kept_of l xs)) (append-nil l.sites)
    ∙ oldest_turned w l (kept_of l l.sites)
    ∙ ap (forgotten_by w l) (filter_members (λ r. not (is_unused l r && is_awake r)) (is_kept_in l.waiting l.flights) l.sites (λ r inside. kept_turned l r))

-- no more are remembered than may be
pub none_forgotten : (w : World) (l : Ledger) (rs : List SiteRecord) → tally (is_remembered l) rs ≤ w.settings.recipient_limit → forgotten_by w l rs ≡ rs
none_forgotten w l rs few =
    sym (oldest_turned w l rs)
    ∙ ap (λ b. if b then drop_first (is_remembered l) rs else rs) (le-ltb w.settings.recipient_limit (tally (is_remembered l) rs) few)

not_new : (a b : Bool) → (a ≡ true → b ≡ true) → (a && not b) ≡ false
not_new false b h = refl
not_new true true h = refl
not_new true false h = sym (h refl)

-- what is unused now was so before
pub none_new_by : (before l : Ledger) → ((r : SiteRecord) → is_unused l r ≡ true → is_unused before r ≡ true) → (r : SiteRecord) → comes_unused before l r ≡ false
none_new_by before l h r = not_new (is_unused l r) (is_unused before r) (h r)

kept_from : (l : Ledger) (r : SiteRecord) → is_kept l r ≡ true → is_kept_in l.waiting l.flights r ≡ true
kept_from l r h = sym (kept_turned l r) ∙ h

-- all stay, and none is forgotten
pub all_stay : (w : World) (before l : Ledger) → ((r : SiteRecord) → is_unused l r ≡ true → is_unused before r ≡ true) → list_all (is_kept l) l.sites ≡ true →
    tally (is_remembered l) l.sites ≤ w.settings.recipient_limit → tidied_sites w before l ≡ l.sites
all_stay w before l fewer kept few =
    let all : filter (is_kept_in l.waiting l.flights) l.sites ≡ l.sites = filter_all (is_kept_in l.waiting l.flights) l.sites (λ r inside. kept_from l r (all_at (is_kept l) r l.sites kept inside)) in
    none_new w before l (λ r inside. none_new_by before l fewer r) ∙ ap (forgotten_by w l) all ∙ none_forgotten w l l.sites few

less_kept : (u v a : Bool) → (v ≡ true → u ≡ true) → not (u && a) ≡ true → not (v && a) ≡ true
less_kept u false a h k = refl
less_kept u true a h k = subst (λ b. not (b && a) ≡ true) (h refl) k

less_remembered : (u v a : Bool) → (v ≡ true → u ≡ true) → (v && not a) ≡ true → (u && not a) ≡ true
less_remembered u false a h k = absurd cc
less_remembered u true a h k = subst (λ b. (b && not a) ≡ true) (sym (h refl)) k

-- each record that stayed stays, and no more are remembered
pub kept_still : (w : World) (before l : Ledger) → IsSitesConsistent w before → ((r : SiteRecord) → is_unused l r ≡ true → is_unused before r ≡ true) → list_all (is_kept l) before.sites ≡ true
kept_still w before l h fewer = all_weaker (is_kept before) (is_kept l) before.sites (λ r inside k. less_kept (is_unused before r) (is_unused l r) (is_awake r) (fewer r) k) h.kept

pub few_still : (w : World) (before l : Ledger) → IsSitesConsistent w before → ((r : SiteRecord) → is_unused l r ≡ true → is_unused before r ≡ true) → tally (is_remembered l) before.sites ≤ w.settings.recipient_limit
few_still w before l h fewer =
    let less : tally (is_remembered l) before.sites ≤ tally (is_remembered before) before.sites =
    fewer_pass (is_remembered before) (is_remembered l) before.sites (λ r inside k. less_remembered (is_unused before r) (is_unused l r) (is_awake r) (fewer r) k) in
    let limit : tally (is_remembered before) before.sites ≤ w.settings.recipient_limit = h.few in
    omega (arith, less, limit)

-- the records are those of before
pub sites_same : (w : World) (before l : Ledger) → IsSitesConsistent w before → l.sites ≡ before.sites → ((r : SiteRecord) → is_unused l r ≡ true → is_unused before r ≡ true) → tidied_sites w before l ≡ l.sites
sites_same w before l h same fewer =
    all_stay w before l fewer (ap (list_all (is_kept l)) same ∙ kept_still w before l h fewer)
    (subst (λ rs. tally (is_remembered l) rs ≤ w.settings.recipient_limit) (sym same) (few_still w before l h fewer))

-- ---- a row has left a site

-- a row left this site, and no other row left or came
pub record LeavesFrom (site : Site) (before l : Ledger) : Type 0 where
  pub here : is_unused_at before site ≡ false
  pub elsewhere : (s : Site) → site_eq s site ≡ false → is_unused_at l s ≡ is_unused_at before s

new_elsewhere : (b c : Bool) → b ≡ c → (b && not c) ≡ false
new_elsewhere true true h = refl
new_elsewhere true false h = absurd cc
new_elsewhere false c h = refl

-- the site is unused now: its record alone came to be so
new_at : (site : Site) (before l : Ledger) → LeavesFrom site before l → is_unused_at l site ≡ true → (r : SiteRecord) → comes_unused before l r ≡ is_at site r
new_at site before l h none r = elim (cases_Bool (site_eq r.site site)) [
  | inl e ↦ ap (λ s. is_unused_at l s && not (is_unused_at before s)) (site_eq-true r.site site e)
      ∙ ap (λ b. b && not (is_unused_at before site)) none ∙ ap not h.here ∙ sym e
  | inr e ↦ new_elsewhere (is_unused_at l r.site) (is_unused_at before r.site) (h.elsewhere r.site e) ∙ sym e
]

-- the site is used still: none did
new_nowhere : (site : Site) (before l : Ledger) → LeavesFrom site before l → is_unused_at l site ≡ false → (r : SiteRecord) → comes_unused before l r ≡ false
new_nowhere site before l h used r = elim (cases_Bool (site_eq r.site site)) [
  | inl e ↦ ap (λ b. b && not (is_unused_at before r.site)) (ap (is_unused_at l) (site_eq-true r.site site e) ∙ used)
  | inr e ↦ new_elsewhere (is_unused_at l r.site) (is_unused_at before r.site) (h.elsewhere r.site e)
]

-- each record of another site stays
abbrev pub OthersStay : Site → Ledger → Type 0
OthersStay site l = (r : SiteRecord) → IsIn r l.sites → site_eq r.site site ≡ false → is_kept l r ≡ true

stays_as : (site : Site) (l : Ledger) → is_unused_at l site ≡ true → OthersStay site l → (r : SiteRecord) → IsIn r l.sites → not (is_unused l r && is_awake r) ≡ not (is_at site r && is_awake r)
stays_as site l none others r inside = elim (cases_Bool (site_eq r.site site)) [
  | inl e ↦ ap (λ b. not (b && is_awake r)) (ap (is_unused_at l) (site_eq-true r.site site e) ∙ none ∙ sym e)
  | inr e ↦ others r inside e ∙ sym (ap (λ b. not (b && is_awake r)) e)
]

in_order : (site : Site) (before l : Ledger) → LeavesFrom site before l → are_apart l.sites ≡ true → OthersStay site l → is_unused_at l site ≡ true →
    kept_of l (filter (λ r. not (comes_unused before l r)) l.sites ++ filter (comes_unused before l) l.sites) ≡ put_last site l.sites
in_order site before l h apart others none =
    let parts = filter (λ r. not (comes_unused before l r)) l.sites ++ filter (comes_unused before l) l.sites in
    let moved : parts ≡ moved_back (is_at site) l.sites =
    ap (λ xs. xs ++ filter (comes_unused before l) l.sites) (filter_members (λ r. not (comes_unused before l r)) (λ r. not (is_at site r)) l.sites (λ r inside. ap not (new_at site before l h none r)))
    ∙ ap (λ xs. filter (λ r. not (is_at site r)) l.sites ++ xs) (filter_members (comes_unused before l) (is_at site) l.sites (λ r inside. new_at site before l h none r))
    ∙ moved_is site (is_at site) (λ r e. site_eq-true r.site site e) l.sites apart in
    let there : (r : SiteRecord) → IsIn r parts → IsIn r l.sites = λ r inside. elim (in_either r (filter (λ x. not (comes_unused before l x)) l.sites) (filter (comes_unused before l) l.sites) inside) [
      | inl a ↦ (in_filtered (λ x. not (comes_unused before l x)) r l.sites a).0
      | inr b ↦ (in_filtered (comes_unused before l) r l.sites b).0
    ] in
    filter_members (λ r. not (is_unused l r && is_awake r)) (λ r. not (is_at site r && is_awake r)) parts (λ r inside. stays_as site l none others r (there r inside))
    ∙ ap (filter (λ r. not (is_at site r && is_awake r))) moved

-- a record of a site that is used stays
all_used : (site : Site) (l : Ledger) → OthersStay site l → is_unused_at l site ≡ false → (r : SiteRecord) → IsIn r l.sites → is_kept_in l.waiting l.flights r ≡ true
all_used site l others used r inside = elim (cases_Bool (site_eq r.site site)) [
  | inl e ↦ kept_from l r (ap (λ b. not (b && is_awake r)) (ap (is_unused_at l) (site_eq-true r.site site e) ∙ used))
  | inr e ↦ kept_from l r (others r inside e)
]

left_by : (w : World) (site : Site) (before l : Ledger) → LeavesFrom site before l → are_apart l.sites ≡ true → OthersStay site l → (b : Bool) → is_unused_at l site ≡ b →
    tidied_sites w before l ≡ forgotten_by w l (if b then put_last site l.sites else l.sites)
left_by w site before l h apart others true e = ap (forget_oldest w l) (in_order site before l h apart others e) ∙ oldest_turned w l (put_last site l.sites)
left_by w site before l h apart others false e =
    none_new w before l (λ r inside. new_nowhere site before l h e r)
    ∙ ap (forgotten_by w l) (filter_all (is_kept_in l.waiting l.flights) l.sites (all_used site l others e))

-- only the record of the site is looked at
pub left_law : (w : World) (site : Site) (before l : Ledger) → LeavesFrom site before l → are_apart l.sites ≡ true → OthersStay site l → tidied_sites w before l ≡ sites_left w l site
left_law w site before l h apart others = left_by w site before l h apart others (is_unused_at l site) refl
