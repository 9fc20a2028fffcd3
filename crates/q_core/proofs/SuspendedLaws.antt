-- The sites that are suspended rest, as sites change.
use Rattle.std.proofs.Common.{◌≡◌, ◌∙◌, ◌+◌, ◌<◌, ◌∷◌, ◌++◌, [], ap, arith, Bool, cond, false, List, map, None, Option, option_map, refl, Some, subst, sym, true, ℕ}
use Rattle.std.proofs.lemmas.Bool.Decides.{nat_tests}
use Rattle.std.specs.List.{AllByRecursion, list_any}
use Rattle.std.specs.Option.{is_some, option_map_or}
use Rattle.std.specs.Prelude.{◌&&◌, ◌||◌, filter, find, length, nat_le, nat_lt, not}
use Rattle.q_core.proofs.SiteChanges.{known_step, with_row}
use Rattle.q_core.proofs.Tallies.{flipped, keyed_mapped, keyed_moved, moved_by, tally_filter, tally_last, tally_others, tally_same}
use Rattle.q_core.specs.Known.{site_of}
use Rattle.q_core.specs.Lists.{moved_back}
use Rattle.q_core.specs.Ties.{AreSuspended, rest_at, rest_of, tally_of}
use Rattle.q_dest.specs.declared.dest.Dest.{Dest}
use Rattle.q_dest.specs.Dests.{AreApart, changed_at, gained, has_space, is_at, is_dead, is_due_at, is_kept, is_remembered, is_unused, revived_when_dead, settled, woken, woken_when_due}
use Rattle.q_model.proofs.EachLaws.{each-append, each-same}
use Rattle.q_model.proofs.IdLaws.{site_eq-refl, site_eq-true}
use Rattle.q_model.specs.Lists.{drop_first}
use Rattle.q_model.specs.Revival.{is_due, is_rest_over}
use Rattle.q_model.specs.Routes.{world_without_table}
use Rattle.q_model.specs.Settings.{Settings}
use Rattle.q_model.specs.SiteRecords.{is_alive}
use Rattle.q_model.specs.Sites.{site_eq}
use Rattle.q_model.specs.Values.{Site, SiteRecord}
use Rattle.q_model.specs.Windows.{revived}
use Rattle.q_model.specs.declared.rows.Row.{Row}
use Rattle.q_rounds.specs.Rounds.{has_space_at}
use Rattle.q_suspended.specs.Suspensions.{is_at as is_site}
use Rattle.q_suspended.specs.declared.suspension.Suspension.{Suspension}
use Rattle.q_turns.specs.Suspending.{HaveNoSpace, suspended_with}

abbrev pub is_else : Site → Suspension → Bool
is_else site s = not (is_site site s)

-- what holds of all is so of those that pass, in the words of the test
filter_step : {A : Type 0} (Q : A → Type 0) (x : A) (xs : List A) (t : Bool) → (t ≡ true → Q x) → AllByRecursion Q xs → AllByRecursion Q (cond t (x ∷ xs) xs)
filter_step Q x xs true own rest = (own refl, rest)
filter_step Q x xs false own rest = rest

each-filter : {A : Type 0} (P Q : A → Type 0) (test : A → Bool) (xs : List A) → ((x : A) → test x ≡ true → P x → Q x) → AllByRecursion P xs → AllByRecursion Q (filter test xs)
each-filter P Q test [] h all = tt
each-filter P Q test (x ∷ xs) h all = filter_step Q x (filter test xs) (test x) (λ t. h x t all.0) (each-filter P Q test xs h all.1)

-- the rests stay
pub suspended_same : (ds es : List Dest) (ss : List Suspension) → ((s : Site) → rest_at es s ≡ rest_at ds s) → AreSuspended ds ss → AreSuspended es ss
suspended_same ds es ss same h = each-same (λ s. s.until < rest_at ds s.site) (λ s. s.until < rest_at es s.site) ss (λ s below. subst (λ n. s.until < n) (sym (same s.site)) below) h

-- what rests has no space
space_step : (alive : Bool) (rest : Option ℕ) (room : Bool) (n : ℕ) → n < option_map_or (λ t. t + 1) rest 0 → ((alive && not (is_some rest)) && room) ≡ false
space_step alive None room n h = absurd (omega (arith, h))
space_step true (Some t) room n h = refl
space_step false (Some t) room n h = refl

no_space : (o : Option Dest) (n : ℕ) → n < option_map_or rest_of o 0 → option_map_or has_space o false ≡ false
no_space None n h = refl
no_space (Some d) n h = space_step (is_alive d.known.health) d.known.rest (nat_lt d.busy d.known.window) n h

pub suspended_full : (ds : List Dest) (ss : List Suspension) → AreSuspended ds ss → HaveNoSpace ds ss
suspended_full ds ss h = each-same (λ s. s.until < rest_at ds s.site) (λ s. has_space_at ds s.site ≡ false) ss (λ s below. no_space (find (is_at s.site) ds) s.until below) h

-- Sites change, and their rests stay.
rest_mapped : (f : Dest → Dest) → ((d : Dest) → (f d).known.site ≡ d.known.site) → ((d : Dest) → (f d).known.rest ≡ d.known.rest) → (ds : List Dest) (s : Site) → rest_at (map f ds) s ≡ rest_at ds s
rest_mapped f stays rests ds s = tally_same site_eq site_of site_eq-true site_eq-refl rest_of f stays (λ d. ap (λ o. option_map_or (λ t. t + 1) o 0) (rests d)) s ds

pub rest_changed : (site : Site) (g : Dest → Dest) → ((d : Dest) → (g d).known ≡ d.known) → (ds : List Dest) (s : Site) → rest_at (map (changed_at site g) ds) s ≡ rest_at ds s
rest_changed site g same ds s =
    rest_mapped (changed_at site g) (λ d. ap (λ k. k.site) (known_step g same d (is_at site d))) (λ d. ap (λ k. k.rest) (known_step g same d (is_at site d))) ds s

awake_step : (alive : Bool) (rest : Option ℕ) (unused : Bool) → not ((alive && not (is_some rest)) && unused) ≡ false → option_map_or (λ t. t + 1) rest 0 ≡ 0
awake_step alive None unused h = refl
awake_step true (Some t) unused h = cc
awake_step false (Some t) unused h = cc

-- those that go don't rest
rest_kept : (ds : List Dest) → AreApart ds → (s : Site) → rest_at (filter is_kept ds) s ≡ rest_at ds s
rest_kept ds apart s = tally_filter site_eq site_of site_eq-true site_eq-refl rest_of is_kept (λ d h. awake_step (is_alive d.known.health) d.known.rest (is_unused d) h) s ds apart

pub rest_settled : (site : Site) (g : Dest → Dest) → ((d : Dest) → (g d).known ≡ d.known) → (ds : List Dest) → AreApart ds → (s : Site) → rest_at (filter is_kept (settled site g ds)) s ≡ rest_at ds s
rest_settled site g same ds apart s =
    let f = changed_at site g in
    let test = λ (d : Dest). is_at site d && is_unused d in
    let changed = map f ds in
    let keyed = keyed_mapped site_eq site_of site_eq-true site_eq-refl f (λ d. ap (λ k. k.site) (known_step g same d (is_at site d))) ds apart in
    rest_kept (moved_back test changed) (keyed_moved site_eq site_of site_eq-true site_eq-refl test changed keyed) s
    ∙ moved_by site_eq site_of site_eq-true site_eq-refl rest_of test s changed (find test changed) keyed refl
    ∙ rest_changed site g same ds s

-- a row more waits for a site, which is new and doesn't rest where it wasn't known
pub rest_gained : (r : Row) (ds : List Dest) (new : Dest) (own : new.known.site ≡ r.site) → rest_of new ≡ 0 → (b : Bool) (s : Site) → rest_at (with_row r ds new own b) s ≡ rest_at ds s
rest_gained r ds new own none true s = rest_changed r.site (gained 1) (λ d. refl) ds s
rest_gained r ds new own none false s = tally_last site_eq site_of site_eq-true site_eq-refl rest_of s ds new none

-- what is known of one site changes
pub rest_others : (site : Site) (g : Dest → Dest) → ((d : Dest) → (g d).known.site ≡ d.known.site) → (ds : List Dest) (s : Site) → site_eq site s ≡ false → rest_at (map (changed_at site g) ds) s ≡ rest_at ds s
rest_others site g same ds s other = tally_others site_eq site_of site_eq-true site_eq-refl rest_of site g same s ds other

-- dead sites are alive again
dead_step : (p : Settings) (d : Dest) (b : Bool) → let x = cond b (record d { known = revived (world_without_table p) d.busy d.known }) d in (x.known.site ≡ d.known.site) × (x.known.rest ≡ d.known.rest)
dead_step p d true = (refl, refl)
dead_step p d false = (refl, refl)

dead_apart : (p : Settings) (ds : List Dest) → AreApart ds → AreApart (map (revived_when_dead p) ds)
dead_apart p ds apart = keyed_mapped site_eq site_of site_eq-true site_eq-refl (revived_when_dead p) (λ d. (dead_step p d (is_dead d)).0) ds apart

pub rest_revived : (p : Settings) (ds : List Dest) → AreApart ds → (s : Site) → rest_at (filter is_kept (map (revived_when_dead p) ds)) s ≡ rest_at ds s
rest_revived p ds apart s =
    rest_kept (map (revived_when_dead p) ds) (dead_apart p ds apart) s
    ∙ rest_mapped (revived_when_dead p) (λ d. (dead_step p d (is_dead d)).0) (λ d. (dead_step p d (is_dead d)).1) ds s

-- Rests that are over end, and the later ones stay.
abbrev later : ℕ → ℕ → ℕ
later moment n = cond (nat_lt (moment + 1) n) n 0

abbrev later_of : ℕ → Dest → ℕ
later_of moment d = later moment (rest_of d)

later_none : (moment : ℕ) → later moment 0 ≡ 0
later_none moment = grind (arith, nat_tests)

later_over : (moment t : ℕ) → nat_le t moment ≡ true → later moment (t + 1) ≡ 0
later_over moment t h = grind (arith, nat_tests)

ended_step : (moment : ℕ) (r : SiteRecord) (o : Option ℕ) (b : Bool) → option_map_or (λ t. nat_le t moment) o false ≡ b → later moment (option_map_or (λ t. t + 1) (cond b None o) 0) ≡ later moment (option_map_or (λ t. t + 1) o 0)
ended_step moment r o false h = refl
ended_step moment r None true h = cc
ended_step moment r (Some t) true h = later_none moment ∙ sym (later_over moment t h)

ended_rest : (moment : ℕ) (r : SiteRecord) (b : Bool) → (cond b (record r { rest = None }) r).rest ≡ cond b None r.rest
ended_rest moment r true = refl
ended_rest moment r false = refl

revived_rest : (p : Settings) (busy : ℕ) (r : SiteRecord) (b : Bool) → (cond b (revived (world_without_table p) busy r) r).rest ≡ r.rest
revived_rest p busy r true = refl
revived_rest p busy r false = refl

woken_rest : (p : Settings) (moment : ℕ) (d : Dest) → later_of moment (woken p moment d) ≡ later_of moment d
woken_rest p moment d =
    let r = cond (is_due moment d.known.health) (revived (world_without_table p) d.busy d.known) d.known in
    ap (λ o. later moment (option_map_or (λ t. t + 1) o 0)) (ended_rest moment r (is_rest_over moment r))
    ∙ ended_step moment r r.rest (is_rest_over moment r) refl
    ∙ ap (λ o. later moment (option_map_or (λ t. t + 1) o 0)) (revived_rest p d.busy d.known (is_due moment d.known.health))

due_step : (p : Settings) (moment : ℕ) (d : Dest) (b : Bool) → later_of moment (cond b (woken p moment d) d) ≡ later_of moment d
due_step p moment d true = woken_rest p moment d
due_step p moment d false = refl

later_option : (moment : ℕ) (o : Option Dest) → option_map_or (later_of moment) o 0 ≡ later moment (option_map_or rest_of o 0)
later_option moment None = sym (later_none moment)
later_option moment (Some d) = refl

later_at : (moment : ℕ) (ds : List Dest) (s : Site) → tally_of site_eq site_of (later_of moment) ds s ≡ later moment (rest_at ds s)
later_at moment ds s = later_option moment (find (is_at s) ds)

still_later : (moment until n m : ℕ) → nat_lt moment until ≡ true → until < n → later moment m ≡ later moment n → until < m
still_later moment until n m after below same = grind (arith, nat_tests, same)

module _ (p : Settings) (moment : ℕ) (stays : (d : Dest) → (woken_when_due p moment d).known.site ≡ d.known.site) (ds : List Dest) where
  woken_later : (s : Site) → later moment (rest_at (map (woken_when_due p moment) ds) s) ≡ later moment (rest_at ds s)
  woken_later s =
      sym (later_at moment (map (woken_when_due p moment) ds) s)
      ∙ tally_same site_eq site_of site_eq-true site_eq-refl (later_of moment) (woken_when_due p moment) stays (λ d. due_step p moment d (is_due_at moment d)) s ds
      ∙ later_at moment ds s

  pub suspended_woken : AreApart ds → (ss : List Suspension) → AreSuspended ds ss → AreSuspended (filter is_kept (map (woken_when_due p moment) ds)) (filter (λ s. nat_lt moment s.until) ss)
  suspended_woken apart ss h =
      let es = map (woken_when_due p moment) ds in
      suspended_same es (filter is_kept es) (filter (λ s. nat_lt moment s.until) ss) (rest_kept es (keyed_mapped site_eq site_of site_eq-true site_eq-refl (woken_when_due p moment) stays ds apart))
      (each-filter (λ s. s.until < rest_at ds s.site) (λ s. s.until < rest_at es s.site) (λ s. nat_lt moment s.until) ss
      (λ s after below. still_later moment s.until (rest_at ds s.site) (rest_at es s.site) after below (woken_later s.site)) h)

-- A site is forgotten, and resumed.
drop_step : (s : Site) (d x : Dest) (ds left : List Dest) (t u : Bool) → site_eq d.known.site s ≡ u → cond t (Some d) (find is_remembered ds) ≡ Some x → site_eq x.known.site s ≡ false → (find is_remembered ds ≡ Some x → rest_at left s ≡ rest_at ds s) → rest_at (cond t ds (d ∷ left)) s ≡ rest_at (d ∷ ds) s
drop_step s d x ds left true u e found other rest =
    let some : Some d ≡ Some x = found in
    let same : d ≡ x = cc in
    sym (ap (λ b. option_map_or rest_of (cond b (Some d) (find (is_at s) ds)) 0) (ap (λ (y : Dest). site_eq y.known.site s) same ∙ other))
drop_step s d x ds left false true e found other rest =
    ap (λ b. option_map_or rest_of (cond b (Some d) (find (is_at s) left)) 0) e ∙ sym (ap (λ b. option_map_or rest_of (cond b (Some d) (find (is_at s) ds)) 0) e)
drop_step s d x ds left false false e found other rest =
    ap (λ b. option_map_or rest_of (cond b (Some d) (find (is_at s) left)) 0) e ∙ rest found ∙ sym (ap (λ b. option_map_or rest_of (cond b (Some d) (find (is_at s) ds)) 0) e)

rest_dropped : (s : Site) (x : Dest) (ds : List Dest) → find is_remembered ds ≡ Some x → site_eq x.known.site s ≡ false → rest_at (drop_first is_remembered ds) s ≡ rest_at ds s
rest_dropped s x [] found other = refl
rest_dropped s x (d ∷ ds) found other = drop_step s d x ds (drop_first is_remembered ds) (is_remembered d) (site_eq d.known.site s) refl found other (λ h. rest_dropped s x ds h other)

-- those that stay suspended are other sites
else_other : (site : Site) (s : Suspension) → is_else site s ≡ true → site_eq site s.site ≡ false
else_other site s h = flipped site_eq site_of site_eq-true site_eq-refl s.site site (site_eq site s.site) refl (turned (site_eq s.site site) h)
  where
    turned : (t : Bool) → not t ≡ true → t ≡ false
    turned true h = cc
    turned false h = refl

-- all other sites rest as before
pub suspended_less : (site : Site) (ds es : List Dest) (ss : List Suspension) → ((s : Site) → site_eq site s ≡ false → rest_at es s ≡ rest_at ds s) → AreSuspended ds ss → AreSuspended es (filter (is_else site) ss)
suspended_less site ds es ss same h =
    each-filter (λ s. s.until < rest_at ds s.site) (λ s. s.until < rest_at es s.site) (is_else site) ss
    (λ s passes below. subst (λ n. s.until < n) (sym (same s.site (else_other site s passes))) below) h

suspended_forgotten : (x : Dest) (ds : List Dest) (ss : List Suspension) → find is_remembered ds ≡ Some x → AreSuspended ds ss → AreSuspended (drop_first is_remembered ds) (filter (is_else x.known.site) ss)
suspended_forgotten x ds ss found h = suspended_less x.known.site ds (drop_first is_remembered ds) ss (λ s other. rest_dropped s x ds found other) h

none_step : (p : Dest → Bool) (d : Dest) (ds left : List Dest) (t : Bool) → cond t (Some d) (find p ds) ≡ None → (find p ds ≡ None → left ≡ ds) → cond t ds (d ∷ left) ≡ d ∷ ds
none_step p d ds left true h rest = cc
none_step p d ds left false h rest = ap (λ es. d ∷ es) (rest h)

none_dropped : (p : Dest → Bool) (ds : List Dest) → find p ds ≡ None → drop_first p ds ≡ ds
none_dropped p [] h = refl
none_dropped p (d ∷ ds) h = none_step p d ds (drop_first p ds) (p d) h (none_dropped p ds)

-- One site more is suspended.
more_step : (ds : List Dest) (ss : List Suspension) (s : Suspension) (t : Bool) → AreSuspended ds ss → s.until < rest_at ds s.site → AreSuspended ds (cond t (ss ++ s ∷ []) ss)
more_step ds ss s true h below = each-append (λ s. s.until < rest_at ds s.site) ss (s ∷ []) h (below, tt)
more_step ds ss s false h below = h

pub suspended_more : (room : ℕ) (ds : List Dest) (ss : List Suspension) (s : Suspension) → AreSuspended ds ss → s.until < rest_at ds s.site → AreSuspended ds (suspended_with room s ss)
suspended_more room ds ss s h below = more_step ds ss s (nat_lt (length ss) room) h below

gone_step : (site : Site) (s : Suspension) (ss : List Suspension) (t : Bool) → is_site site s ≡ t → list_any (is_site site) ss ≡ false → list_any (is_site site) (cond (not t) (s ∷ ss) ss) ≡ false
gone_step site s ss true e rest = rest
gone_step site s ss false e rest = ap (λ b. b || list_any (is_site site) ss) e ∙ rest

-- where it was resumed before, it isn't there
pub gone : (site : Site) (ss : List Suspension) → list_any (is_site site) (filter (is_else site) ss) ≡ false
gone site [] = refl
gone site (s ∷ ss) = gone_step site s (filter (is_else site) ss) (is_site site s) refl (gone site ss)

-- Which site is forgotten.
forgotten_step : (ds : List Dest) (ss : List Suspension) (site : Site) (o : Option Dest) → find is_remembered ds ≡ o → option_map (λ (d : Dest). d.known.site) o ≡ Some site → AreSuspended ds ss → AreSuspended (drop_first is_remembered ds) (filter (is_else site) ss)
forgotten_step ds ss site None found h all = cc
forgotten_step ds ss site (Some d) found h all =
    let same : d.known.site ≡ site = cc in
    subst (λ s. AreSuspended (drop_first is_remembered ds) (filter (is_else s) ss)) same (suspended_forgotten d ds ss found all)

pub suspended_without : (ds : List Dest) (ss : List Suspension) (site : Site) → option_map (λ (d : Dest). d.known.site) (find is_remembered ds) ≡ Some site → AreSuspended ds ss → AreSuspended (drop_first is_remembered ds) (filter (is_else site) ss)
suspended_without ds ss site h all = forgotten_step ds ss site (find is_remembered ds) refl h all

lost_step : (ds : List Dest) (o : Option Dest) → find is_remembered ds ≡ o → option_map (λ (d : Dest). d.known.site) o ≡ None → drop_first is_remembered ds ≡ ds
lost_step ds None none h = none_dropped is_remembered ds none
lost_step ds (Some d) found h = cc

pub none_lost : (ds : List Dest) → option_map (λ (d : Dest). d.known.site) (find is_remembered ds) ≡ None → drop_first is_remembered ds ≡ ds
none_lost ds h = lost_step ds (find is_remembered ds) refl h
