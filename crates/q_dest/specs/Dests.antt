-- What a contract sees of the sites, and what becomes of them.
use Rattle.std.specs.List.{list_any}
use Rattle.std.specs.Option.{option_map_or}
use Rattle.std.specs.Prelude.{◌≡◌, ◌&&◌, ◌+◌, ◌++◌, ◌-◌, ◌==◌, [], ◌∷◌, Bool, find, if◌then◌else◌, List, map, nat_lt, None, not, Option, slice_get, true, ◌||◌, ℕ}
use Rattle.q_dest.specs.declared.dest.Dest.{Dest}
use Rattle.q_dest.specs.Records.{IsBounded}
use Rattle.q_dest.specs.Windows.{heard_in}
use Rattle.q_model.specs.declared.outcome.SiteState.{SiteState}
use Rattle.q_model.specs.Lists.{drop_first}
use Rattle.q_model.specs.Revival.{is_due, is_rest_over, rest_ended}
use Rattle.q_model.specs.Routes.{world_without_table}
use Rattle.q_model.specs.Settings.{Settings}
use Rattle.q_model.specs.SiteRecords.{is_alive, is_awake, new_record}
use Rattle.q_model.specs.Sites.{site_eq}
use Rattle.q_model.specs.Values.{Site, SiteRecord}
use Rattle.q_model.specs.Windows.{revived}

-- The sites, of which those that are unused stand in the order in which they came to be so, and how
-- many have room.
pub record Dests : Type 0 where
  pub items : List Dest
  pub room : ℕ

-- it is this site
abbrev pub is_at : Site → Dest → Bool
is_at site d = site_eq d.known.site site

-- no row waits for it, and no delivery to it is in flight
abbrev pub is_unused : Dest → Bool
is_unused d = (d.waiting == 0) && (d.busy == 0)

abbrev pub is_dead : Dest → Bool
is_dead d = not (is_alive d.known.health)

-- no delivery to it may begin: it is dead, or rests
abbrev pub is_asleep : Dest → Bool
is_asleep d = not (is_awake d.known)

-- it is dead or rests, and is only remembered
abbrev pub is_remembered : Dest → Bool
is_remembered d = is_asleep d && is_unused d

-- it is dead, and rows wait for it
abbrev pub is_dead_waiting : Dest → Bool
is_dead_waiting d = is_dead d && nat_lt 0 d.waiting

-- it is dead and its time has come, or its rest is over
abbrev pub is_due_at : ℕ → Dest → Bool
is_due_at moment d = is_due moment d.known.health || is_rest_over moment d.known

-- a site that is unused, is alive and doesn't rest is none that has to be known
abbrev pub is_kept : Dest → Bool
is_kept d = not (is_awake d.known && is_unused d)

-- it is alive and doesn't rest, and more deliveries to it may be in flight
abbrev pub has_space : Dest → Bool
has_space d = is_awake d.known && nat_lt d.busy d.known.window

-- no two are one site
abbrev pub AreApart : List Dest → Type 0
AreApart [] = Unit {0}
AreApart (d ∷ ds) = (find (is_at d.known.site) ds ≡ None) × AreApart ds

-- the numbers of each record are bounded
abbrev pub AreBounded : List Dest → Type 0
AreBounded [] = Unit {0}
AreBounded (d ∷ ds) = IsBounded d.known × AreBounded ds

-- each is one that has to be known
abbrev pub AreKept : List Dest → Type 0
AreKept [] = Unit {0}
AreKept (d ∷ ds) = (is_kept d ≡ true) × AreKept ds

abbrev pub first_dest : List Dest → Option Dest
first_dest ds = slice_get ds 0

-- those behind the site
abbrev pub behind_dests : Site → List Dest → List Dest
behind_dests site [] = []
behind_dests site (d ∷ ds) = if is_at site d then ds else behind_dests site ds

-- how many rows wait for the site
abbrev pub waiting_at : Site → List Dest → ℕ
waiting_at site ds = option_map_or (λ d. d.waiting) (find (is_at site) ds) 0

-- how many deliveries to it are in flight
abbrev pub busy_at : Site → List Dest → ℕ
busy_at site ds = option_map_or (λ d. d.busy) (find (is_at site) ds) 0

-- changed where it is this site
abbrev pub changed_at : Site → (Dest → Dest) → Dest → Dest
changed_at site change d = if is_at site d then change d else d

-- with another record
abbrev pub with_known : SiteRecord → Dest → Dest
with_known r d = record d { known = r }

-- so many rows more wait for it
abbrev pub gained : ℕ → Dest → Dest
gained count d = record d { waiting = d.waiting + count }

-- a site that is used anew, for which one row waits
abbrev pub new_dest : Settings → Site → Dest
new_dest p site =
    record { known = new_record (world_without_table p) site; waiting = 1; busy = 0 }

-- one row more waits for the site, which comes behind all others where it wasn't known
abbrev pub gained_at : Settings → Site → List Dest → List Dest
gained_at p site ds = if list_any (is_at site) ds then map (changed_at site (gained 1)) ds
    else ds ++ new_dest p site ∷ []

-- the delivery of a row to it begins
abbrev pub begun : Dest → Dest
begun d = record d { waiting = d.waiting - 1; busy = d.busy + 1 }

-- a row leaves without a delivery
abbrev pub left : Dest → Dest
left d = record d { waiting = d.waiting - 1 }

-- a delivery to it ends
abbrev pub landed : Dest → Dest
landed d = record d { busy = d.busy - 1 }

-- it hears of a delivery that is still counted in flight
abbrev pub heard : Settings → ℕ → SiteState → Dest → Dest
heard p now state d = with_known (heard_in p d.busy now state d.known) d

-- it is alive again
abbrev pub revived_now : Settings → Dest → Dest
revived_now p d = with_known (revived (world_without_table p) d.busy d.known) d

-- its record, alive again where its time has come, with its rest ended where that is over
abbrev pub woken_in : Settings → ℕ → ℕ → SiteRecord → SiteRecord
woken_in p busy now r =
    rest_ended now (if is_due now r.health then revived (world_without_table p) busy r else r)

abbrev pub woken : Settings → ℕ → Dest → Dest
woken p now d = with_known (woken_in p d.busy now d.known) d

-- it wakes where it is time
abbrev pub woken_when_due : Settings → ℕ → Dest → Dest
woken_when_due p now d = if is_due_at now d then woken p now d else d

-- it is alive again where it was dead
abbrev pub revived_when_dead : Settings → Dest → Dest
revived_when_dead p d = if is_dead d then revived_now p d else d

-- the first that passes goes behind all others
abbrev pub moved_back : {A : Type 0} → (A → Bool) → List A → List A
moved_back test xs = option_map_or (λ x. drop_first test xs ++ x ∷ []) (find test xs) xs

-- the site is changed, and goes behind all others where it is unused now
abbrev pub settled : Site → (Dest → Dest) → List Dest → List Dest
settled site change ds =
    moved_back (λ d. is_at site d && is_unused d) (map (changed_at site change) ds)
