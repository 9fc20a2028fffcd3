-- How sites and the scan are tidied after an entry. Only the site that a row has left, and those that woke,
-- are looked at.
use Rattle.std.specs.List.{list_any}
use Rattle.std.specs.Option.{option_map_or}
use Rattle.std.specs.Prelude.{◌++◌, ◌&&◌, ◌==◌, [], Bool, count_by, false, filter, find, if◌then◌else◌, length, List, map, nat_lt, None, not, slice_get, Some, true, ◌∷◌, ◌≡◌, ◌||◌, ℕ}
use Rattle.q_ledger.specs.State.{State}
use Rattle.q_model.specs.Ledger.{Ledger}
use Rattle.q_model.specs.Lists.{drop_first}
use Rattle.q_model.specs.Revival.{is_due, is_rest_over}
use Rattle.q_model.specs.Scans.{tidy_scan}
use Rattle.q_model.specs.Settings.{World}
use Rattle.q_model.specs.SiteRecords.{is_alive, is_awake}
use Rattle.q_model.specs.Sites.{site_eq}
use Rattle.q_model.specs.Values.{Site, SiteRecord}
use Rattle.q_model.specs.declared.entry.Entry.{Entry}
use Rattle.q_model.specs.declared.rows.Delivery.{Delivery}
use Rattle.q_model.specs.declared.rows.Row.{Row}
use Rattle.q_model.specs.declared.entry.Entry.TheVariants as entries
use Rattle.q_model.specs.declared.event.Trigger.{Trigger}
use Rattle.q_model.specs.declared.event.Trigger.TheVariants as triggers

-- the record is of this site
abbrev pub is_at : Site → SiteRecord → Bool
is_at site r = site_eq r.site site

-- nothing waits there, and nothing is in flight
abbrev pub is_unused_in : List Row → List Delivery → Site → Bool
is_unused_in waiting flights site =
    not (list_any (λ r. site_eq r.site site) waiting) && (count_by (λ f. site_eq f.row.site site) flights == 0)

-- the same of a ledger's rows
abbrev pub is_unused_at : Ledger → Site → Bool
is_unused_at l site = is_unused_in l.waiting l.flights site

-- a record of a site that is used, is dead or rests
abbrev pub is_kept_in : List Row → List Delivery → SiteRecord → Bool
is_kept_in waiting flights r = not (is_awake r && is_unused_in waiting flights r.site)

-- one of a site that is dead or rests, and is only remembered
abbrev pub is_remembered_in : List Row → List Delivery → SiteRecord → Bool
is_remembered_in waiting flights r = not (is_awake r) && is_unused_in waiting flights r.site

-- a site that is dead or rests
abbrev pub is_asleep : SiteRecord → Bool
is_asleep r = not (is_awake r)

-- the one of them that was unused longest is forgotten, where there are more than the limit
abbrev pub forgotten_in : List Row → List Delivery → ℕ → List SiteRecord → List SiteRecord
forgotten_in waiting flights limit rs =
    if nat_lt limit (length (filter (is_remembered_in waiting flights) rs))
    then drop_first (is_remembered_in waiting flights) rs else rs

-- the first that passes goes to the end
abbrev pub moved_back : {A : Type 0} → (A → Bool) → List A → List A
moved_back test xs = option_map_or (λ x. drop_first test xs ++ x ∷ []) (find test xs) xs

-- this holds of the element at a place, where there is one
abbrev pub AtPlace : {A : Type 0} → List A → ℕ → (A → Type 0) → Type 0
AtPlace {A = A} xs place P = (x : A) → slice_get xs place ≡ Some x → P x

-- the record of this site goes to the end, and is dropped where it is awake
abbrev pub put_last : Site → List SiteRecord → List SiteRecord
put_last site rs = filter (λ r. not (is_at site r && is_awake r)) (moved_back (is_at site) rs)

-- no more are remembered than may be
abbrev pub forgotten_by : World → Ledger → List SiteRecord → List SiteRecord
forgotten_by w l rs = forgotten_in l.waiting l.flights w.settings.recipient_limit rs

-- the records in their order, where a row has left this site
abbrev pub ordered_left : Ledger → Site → List SiteRecord
ordered_left l site = if is_unused_at l site then put_last site l.sites else l.sites

-- and no more remembered than may be
abbrev pub sites_left : World → Ledger → Site → List SiteRecord
sites_left w l site = forgotten_by w l (ordered_left l site)

-- the trigger revives dead sites
abbrev pub revives : Trigger → Bool
revives triggers.D = false
revives triggers.A = false
revives triggers.F = true

-- by the entry the site is alive again, or its rest is over
abbrev pub wakes : Entry → SiteRecord → Bool
wakes (entries.At t) r = is_due t r.health || is_rest_over t r
wakes (entries.Trigger kind) r = revives kind && not (is_alive r.health)
wakes e r = false

-- there may be a site that wakes by the entry
abbrev pub may_wake : Entry → Bool
may_wake (entries.At t) = true
may_wake (entries.Trigger kind) = true
may_wake e = false

-- the sites that wake by the entry
abbrev pub woken_by : Ledger → Entry → List Site
woken_by l e = map (λ r. r.site) (filter (wakes e) l.sites)

-- the site is one of these
abbrev pub is_among : List Site → Site → Bool
is_among sites site = list_any (λ s. site_eq s site) sites

-- a record that stays where these sites woke: another one, or of a site that is used, is dead or rests
abbrev pub stays_where : List Site → List Row → List Delivery → SiteRecord → Bool
stays_where woken waiting flights r =
    not (is_awake r && is_among woken r.site && is_unused_in waiting flights r.site)

-- the records, where no row has left a site
abbrev pub sites_woken : List Site → Ledger → List SiteRecord
sites_woken woken l = filter (stays_where woken l.waiting l.flights) l.sites

-- the records after an entry by which these sites woke
abbrev pub sites_tidied : World → List Site → State → List SiteRecord
sites_tidied w woken c = option_map_or (sites_left w c.ledger) c.left (sites_woken woken c.ledger)

-- the records of sites are tidied
abbrev pub with_sites_tidied : World → List Site → State → State
with_sites_tidied w woken c = record c { ledger = record c.ledger { sites = sites_tidied w woken c }; left = None }

-- sites and the scan are tidied
abbrev pub tidied_in : World → List Site → State → State
tidied_in w woken c =
    record c { ledger = tidy_scan (record c.ledger { sites = sites_tidied w woken c }); left = None }
