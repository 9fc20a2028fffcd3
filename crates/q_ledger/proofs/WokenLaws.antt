-- What is left of the records of sites where some wake.
use Rattle.std.proofs.Common.{◌≡◌, ℕ, ◌≤◌, Bool, true, false, not, List, [], ◌∷◌, length, map, filter, Option, Some, None, inl, inr, refl, sym, ap, ◌∙◌, subst, arith, if◌then◌else◌}
use Rattle.std.proofs.lemmas.Bool.{and_from, and_parts, cases_Bool, or_from, or_parts}
use Rattle.std.specs.Option.{option_map_or}
use Rattle.std.specs.Prelude.{◌&&◌, ◌==◌, is_some, nat_le}
use Rattle.q_laws.proofs.Members.{IsIn, all_at, any_from, in_filter, in_map, in_unmap}
use Rattle.q_laws.proofs.SiteCounts.{fewer_pass, tally, tally_filtered, tally_map}
use Rattle.q_laws.specs.SitesConsistency.{IsSitesConsistent, is_kept}
use Rattle.q_ledger.proofs.PartLaws.{some_length}
use Rattle.q_ledger.proofs.SiteLaws.{filter_all, filter_members, filter_nothing, none_forgotten, none_new, none_new_by}
use Rattle.q_ledger.specs.Tidying.{is_among, is_kept_in, is_unused_at, may_wake, sites_woken, stays_where, wakes, woken_by}
use Rattle.q_model.proofs.IdLaws.{site_eq-refl}
use Rattle.q_model.specs.Deliveries.{busy}
use Rattle.q_model.specs.Ledger.{Ledger}
use Rattle.q_model.specs.Revival.{is_due, is_rest_over, rest_ended}
use Rattle.q_model.specs.Settings.{World}
use Rattle.q_model.specs.SiteRecords.{is_alive, is_awake, is_resting}
use Rattle.q_model.specs.Sites.{site_eq}
use Rattle.q_model.specs.UnusedSites.{is_remembered, is_unused, tidied_sites}
use Rattle.q_model.specs.Values.{Site, SiteRecord}
use Rattle.q_model.specs.Windows.{revived}
use Rattle.q_model.specs.declared.entry.Entry.{Entry}
use Rattle.q_model.specs.declared.entry.Entry.TheVariants as entries
use Rattle.q_model.specs.declared.event.Trigger.TheVariants as triggers
use Rattle.q_model.specs.declared.rows.Health.{Health}
use Rattle.q_model.specs.declared.rows.Health.TheVariants as healths

-- a record changes by the entry where its site wakes, and it isn't awake then
pub record IsWaking (e : Entry) (f : SiteRecord → SiteRecord) : Type 0 where
  pub site : (r : SiteRecord) → (f r).site ≡ r.site
  pub asleep : (r : SiteRecord) → wakes e r ≡ false → f r ≡ r
  pub awake : (r : SiteRecord) → is_awake r ≡ true → f r ≡ r

same_rows : (l : Ledger) (e : Entry) (f : SiteRecord → SiteRecord) → IsWaking e f → (r : SiteRecord) → is_unused l (f r) ≡ is_unused l r
same_rows l e f h r = ap (is_unused_at l) (h.site r)

still_asleep : (e : Entry) (f : SiteRecord → SiteRecord) → IsWaking e f → (r : SiteRecord) → not (is_awake (f r)) ≡ true → not (is_awake r) ≡ true
still_asleep e f h r k = elim (cases_Bool (is_awake r)) [
  | inl a ↦ ap (λ (x : SiteRecord). not (is_awake x)) (sym (h.awake r a)) ∙ k
  | inr a ↦ ap not a
]

same_kept : (a m u : Bool) → (a ≡ true → u ≡ true → m ≡ true) → not (a && u) ≡ not (a && m && u)
same_kept false m u h = refl
same_kept true true u h = refl
same_kept true false false h = refl
same_kept true false true h = let bad : false ≡ true = h refl refl in absurd cc

asleep_before : (u a : Bool) → not (u && a) ≡ true → u ≡ true → a ≡ false
asleep_before true false h k = refl
asleep_before true true h k = absurd cc
asleep_before false a h k = absurd cc

-- what is awake now and wasn't has woken
among : (b : Ledger) (e : Entry) (f : SiteRecord → SiteRecord) → IsWaking e f → (r : SiteRecord) → IsIn r b.sites → is_kept b r ≡ true → is_unused b r ≡ true → is_awake (f r) ≡ true → is_among (woken_by b e) (f r).site ≡ true
among b e f h r inside kept unused awake = elim (cases_Bool (wakes e r)) [
  | inl wake ↦ any_from (λ (s : Site). site_eq s (f r).site) r.site (woken_by b e)
      (in_map (λ (x : SiteRecord). x.site) r (filter (wakes e) b.sites) (in_filter (wakes e) r b.sites inside wake))
      (ap (site_eq r.site) (h.site r) ∙ site_eq-refl r.site)
  | inr none ↦
      let before : is_awake r ≡ false = asleep_before (is_unused b r) (is_awake r) kept unused in
      let bad : true ≡ false = sym awake ∙ ap (λ (x : SiteRecord). is_awake x) (h.asleep r none) ∙ before in
      absurd cc
]

-- where records changed so, and rows did not, only those of sites that woke may go
pub woken_law : (w : World) (b l : Ledger) (e : Entry) (f : SiteRecord → SiteRecord) → IsSitesConsistent w b → IsWaking e f → l.sites ≡ map f b.sites → ((r : SiteRecord) → is_unused l r ≡ is_unused b r) →
    tidied_sites w b l ≡ sites_woken (woken_by b e) l
woken_law w b l e f h wake same rows =
    let kept = filter (is_kept_in l.waiting l.flights) l.sites in
    let a : tally (is_remembered l) kept ≤ tally (is_remembered l) l.sites = tally_filtered (is_remembered l) (is_kept_in l.waiting l.flights) l.sites in
    let c : tally (is_remembered l) l.sites ≡ tally (λ r. is_remembered l (f r)) b.sites = ap (tally (is_remembered l)) same ∙ tally_map (is_remembered l) f b.sites in
    let d : tally (λ r. is_remembered l (f r)) b.sites ≤ tally (is_remembered b) b.sites =
    fewer_pass (is_remembered b) (λ r. is_remembered l (f r)) b.sites (λ r inside k.
    let two = and_parts (is_unused l (f r)) (not (is_awake (f r))) k in
    and_from (is_unused b r) (not (is_awake r)) (sym (same_rows l e f wake r ∙ rows r) ∙ two.0) (still_asleep e f wake r two.1)) in
    let few : tally (is_remembered b) b.sites ≤ w.settings.recipient_limit = h.few in
    none_new w b l (λ r inside. none_new_by b l (λ x k. sym (rows x) ∙ k) r)
    ∙ none_forgotten w l kept (omega (arith, a, c, d, few))
    ∙ filter_members (is_kept_in l.waiting l.flights) (stays_where (woken_by b e) l.waiting l.flights) l.sites (λ x inside.
    let old = in_unmap f x b.sites (subst (IsIn x) same inside) in
    let r = old.0 in
    same_kept (is_awake x) (is_among (woken_by b e) x.site) (is_unused l x) (λ awake unused.
    subst (λ (y : SiteRecord). is_among (woken_by b e) y.site ≡ true) old.2
    (among b e f wake r old.1 (all_at (is_kept b) r b.sites h.kept old.1)
    (sym (rows r) ∙ sym (same_rows l e f wake r) ∙ ap (is_unused l) old.2 ∙ unused) (ap (λ (y : SiteRecord). is_awake y) old.2 ∙ awake))))

not_among : (a u : Bool) → not (a && false && u) ≡ true
not_among true u = refl
not_among false u = refl

of_none : (l : Ledger) → sites_woken [] l ≡ l.sites
of_none l = filter_all (stays_where [] l.waiting l.flights) l.sites (λ r inside. not_among (is_awake r) (is_unused l r))

-- where there are none that woke, all stay
pub none_there : (woken : List Site) (l : Ledger) → (length woken == 0) ≡ true → sites_woken woken l ≡ l.sites
none_there [] l h = of_none l
none_there (x ∷ xs) l h = let bad : true ≡ false = sym h ∙ some_length x xs in absurd cc

-- where none may wake, none does
pub none_may : (l : Ledger) (e : Entry) → may_wake e ≡ false → [] ≡ woken_by l e
none_may l e h = ap (λ (rs : List SiteRecord). map (λ (r : SiteRecord). r.site) rs) (sym (filter_nothing (wakes e) l.sites (λ r inside. never e r h)))
  where
    never : (x : Entry) (r : SiteRecord) → may_wake x ≡ false → wakes x r ≡ false
    never (entries.At t) r k = absurd cc
    never (entries.Trigger kind) r k = absurd cc
    never x r k = refl

-- where none wakes, all stay
pub none_woken : (b l : Ledger) (e : Entry) → ((r : SiteRecord) → wakes e r ≡ false) → sites_woken (woken_by b e) l ≡ l.sites
none_woken b l e h =
    ap (λ (rs : List SiteRecord). sites_woken (map (λ (r : SiteRecord). r.site) rs) l) (filter_nothing (wakes e) b.sites (λ r inside. h r))
    ∙ of_none l

-- ---- the clock, and the trigger that revives

due_alive : (t : ℕ) (x : Health) → is_alive x ≡ true → is_due t x ≡ false
due_alive t healths.Alive h = refl
due_alive t (healths.DeadUntil u) h = absurd cc

rest_none : (t : ℕ) (o : Option ℕ) → not (is_some o) ≡ true → option_map_or (λ u. nat_le u t) o false ≡ false
rest_none t None h = refl
rest_none t (Some u) h = absurd cc

awake_stays : (t : ℕ) (r : SiteRecord) → is_awake r ≡ true → wakes (entries.At t) r ≡ false
awake_stays t r h =
    let two = and_parts (is_alive r.health) (not (is_resting r)) h in
    or_from (is_due t r.health) (is_rest_over t r) (due_alive t r.health two.0) (rest_none t r.rest two.1)

-- a record by the clock
abbrev pub woken_at : World → Ledger → ℕ → SiteRecord → SiteRecord
woken_at w b t r = rest_ended t (if is_due t r.health then revived w (busy b r.site) r else r)

ended_site : (t : ℕ) (r : SiteRecord) → (rest_ended t r).site ≡ r.site
ended_site t r = which (is_rest_over t r)
  where
    which : (c : Bool) → (if c then record r { rest = None } else r).site ≡ r.site
    which true = refl
    which false = refl

either_same : (c : Bool) (x y : SiteRecord) → x.site ≡ y.site → (if c then x else y).site ≡ y.site
either_same true x y h = h
either_same false x y h = refl

at_asleep : (w : World) (b : Ledger) (t : ℕ) (r : SiteRecord) → wakes (entries.At t) r ≡ false → woken_at w b t r ≡ r
at_asleep w b t r h =
    let two = or_parts (is_due t r.health) (is_rest_over t r) h in
    ap (λ c. rest_ended t (if c then revived w (busy b r.site) r else r)) two.0 ∙ ap (λ c. if c then record r { rest = None } else r) two.1

pub at_wakes : (w : World) (b : Ledger) (t : ℕ) → IsWaking (entries.At t) (woken_at w b t)
at_wakes w b t = record {
  site = λ r. ended_site t (if is_due t r.health then revived w (busy b r.site) r else r) ∙ either_same (is_due t r.health) (revived w (busy b r.site) r) r refl;
  asleep = at_asleep w b t;
  awake = λ r h. at_asleep w b t r (awake_stays t r h);
}

-- a record by the trigger
abbrev pub woken_all : World → Ledger → SiteRecord → SiteRecord
woken_all w b r = if is_alive r.health then r else revived w (busy b r.site) r

alive_stays : (w : World) (b : Ledger) (r : SiteRecord) → is_alive r.health ≡ true → woken_all w b r ≡ r
alive_stays w b r h = ap (λ c. if c then r else revived w (busy b r.site) r) h

all_site : (w : World) (b : Ledger) (r : SiteRecord) → (woken_all w b r).site ≡ r.site
all_site w b r = which (is_alive r.health)
  where
    which : (c : Bool) → (if c then r else revived w (busy b r.site) r).site ≡ r.site
    which true = refl
    which false = refl

is_true : (c : Bool) → not c ≡ false → c ≡ true
is_true true h = refl
is_true false h = absurd cc

pub all_wake : (w : World) (b : Ledger) → IsWaking (entries.Trigger triggers.F) (woken_all w b)
all_wake w b = record {
  site = all_site w b;
  asleep = λ r h. alive_stays w b r (is_true (is_alive r.health) h);
  awake = λ r h. alive_stays w b r (and_parts (is_alive r.health) (not (is_resting r)) h).0;
}
