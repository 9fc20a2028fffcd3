-- How the core changes.
use Rattle.std.specs.List.{enumerate_from}
use Rattle.std.specs.Option.{option_map_or}
use Rattle.std.specs.Prelude.{◌+◌, ◌≡◌, ◌∷◌, [], Bool, filter, List, false, if◌then◌else◌, is_none, map, nat_le, None, not, Option, Some, true, ◌||◌, ℕ}
use Rattle.q_model.specs.declared.id.Id.{Id}
use Rattle.q_model.specs.declared.rows.Request.{Request}
use Rattle.q_model.specs.declared.rows.Unsettled.{Unsettled}
use Rattle.q_model.specs.Ids.{id_eq}
use Rattle.q_model.specs.Scans.{joined_request, new_scan}
use Rattle.q_model.specs.Values.{Served, Site, SiteRecord}
use Rattle.q_model.specs.declared.rows.Request.TheVariants as requests
use Rattle.q_core.specs.UsedSites.{forget_in, is_left_in, revive_dead_in, wake_due_in, used_in}
use Rattle.q_core.specs.Facts.{is_nothing}
use Rattle.q_core.specs.Lists.{moved_back}
use Rattle.q_core.specs.Tidied.{tidied_line, tidied_served}
use Rattle.q_pool.specs.Slots.{changed_at, with_bounce, with_damage}
use Rattle.q_core.specs.declared.state.Question.TheVariants.{Nothing}
use Rattle.q_pool.specs.declared.slot.Slot.{Slot}
use Rattle.q_core.specs.declared.decision.Found.{Found}
use Rattle.q_core.specs.declared.decision.Found.TheVariants as founds
use Rattle.q_core.specs.declared.state.Core.{Core}
use Rattle.q_core.specs.declared.state.Seen.{Seen}
use Rattle.q_core.specs.declared.state.Seen.TheVariants.{Known, Unknown}

-- a request for all where due times are ignored
abbrev pub request_by : Bool → Request
request_by ignores = if ignores then requests.All else requests.Due

-- a scan begins, or the request for it is remembered
abbrev pub asked_scan : Core → Core
asked_scan c = option_map_or (λ s. record c {
  asked = Some (joined_request c.asked (request_by c.ignores));
  ignores = false;
}) c.scan
    (record c {
      scan = Some (new_scan c.clock.seconds (request_by c.ignores));
      deferred =
          Unknown;
      ignores = false;
    })

-- the same where the time for it has come
abbrev pub asked_when_due : Core → Core
asked_when_due c = if nat_le c.next_run c.clock.seconds then asked_scan
    (record c { next_run = c.clock.seconds + c.params.run_delay }) else c

-- a look's answer is known
abbrev pub is_known : Seen → Bool
is_known Unknown = false
is_known (Known found) = true

-- the scan's next name was looked at, or there is no scan
abbrev pub is_looked_at : Core → Bool
is_looked_at c = is_none c.scan || is_known c.deferred

-- a scan without a next name is over, and a request that is remembered begins
abbrev pub scan_ended : Core → Option Request → Core
scan_ended c None = record c { scan = None; deferred = Unknown }
scan_ended c (Some request) = record c {
  scan = Some (new_scan c.clock.seconds request);
  asked = None;
  deferred = Unknown;
}

-- a damaged file of this id stands first in active
abbrev pub with_damaged : Id → Core → Core
with_damaged id c = record c { active = Known (founds.Damaged id 0 true) }

-- what a look at deferred has shown
abbrev pub looked_at : Core → Found → Core
looked_at c found = if is_nothing found then scan_ended c c.asked
    else record c { deferred = Known found }

-- Lines, served rows and site records are those of what is left; nothing else changed.
pub record IsTidied (old new : Core) : Type 0 where
  pub rest : new ≡ record old { lines = new.lines; served = new.served; sites = new.sites }
  pub lines : new.lines ≡ map (tidied_line old.admitted old.waiting) (enumerate_from 0 old.lines)
  pub served : new.served ≡ tidied_served old.waiting old.served
  pub sites : new.sites ≡ forget_in old.waiting old.flights old.params.recipient_limit
      (used_in old.waiting old.flights old.sites)

-- The record of a site that a row left goes to the end, where the site is unused now.
pub record HasLeftSite (old new : Core) (site : Site) : Type 0 where
  pub rest : new ≡ record old { sites = new.sites }
  pub sites : new.sites ≡ moved_back (is_left_in old.waiting old.flights site) old.sites

-- the same but for the served rows
abbrev pub with_served : List Served → Core → Core
with_served served c = record c { served = served }

-- the same but for the records of sites
abbrev pub with_sites : List SiteRecord → Core → Core
with_sites sites c = record c { sites = sites }

-- those of these records that are of a site that is dead or used
abbrev pub used_sites : Core → List SiteRecord → List SiteRecord
used_sites c sites = used_in c.waiting c.flights sites

-- what becomes of these records where a row or a delivery left the site
abbrev pub left_sites : Core → List SiteRecord → Site → List SiteRecord
left_sites c sites site = used_sites c (moved_back (is_left_in c.waiting c.flights site) sites)

-- the dead sites whose time has come are alive, and the rests that are over end
abbrev pub woken_by : ℕ → Core → List SiteRecord
woken_by moment c = map (wake_due_in c.params c.flights moment) c.sites

-- all dead sites are alive
abbrev pub all_revived : Core → List SiteRecord
all_revived c = map (revive_dead_in c.params c.flights) c.sites

-- the time is set, and the sites whose time has come are alive
pub record IsWoken (old new : Core) (moment : ℕ) : Type 0 where
  pub rest : new ≡ record old { clock = new.clock; timed = true; sites = new.sites }
  pub seconds : new.clock.seconds ≡ moment
  pub sites : new.sites ≡ woken_by moment old

-- all dead sites are alive
pub record IsRevived (old new : Core) : Type 0 where
  pub rest : new ≡ record old { sites = new.sites }
  pub sites : new.sites ≡ all_revived old

-- the slot of this id is changed
pub record IsSlotChange (old new : Core) (id : Id) (change : Slot → Slot) : Type 0 where
  pub rest : new ≡ record old { admitted = new.admitted }
  pub admitted : new.admitted ≡ map (changed_at id change) old.admitted

-- the message of this id reads no more, and a record of it can't be read; nothing is asked
pub record IsDamageNoted (old new : Core) (id : Id) : Type 0 where
  pub rest : new ≡ record old { admitted = new.admitted; question = Nothing }
  pub admitted : new.admitted ≡ map (changed_at id with_damage) old.admitted

-- these outcomes are to be settled
pub record IsUnsettledChange (old new : Core) (us : List Unsettled) : Type 0 where
  pub rest : new ≡ record old { unsettled = new.unsettled; in_memory = new.in_memory }
  pub unsettled : new.unsettled ≡ us

-- the core is as it was, but for the room of its lists
pub record IsUnchanged (old new : Core) : Type 0 where
  pub rest : new ≡ record old {
    admitted = new.admitted;
    waiting = new.waiting;
    flights = new.flights;
    unsettled = new.unsettled;
    served = new.served;
    lines = new.lines;
    sites = new.sites;
    synced = new.synced;
    named = new.named;
  }
  pub admitted : new.admitted ≡ old.admitted
  pub waiting : new.waiting ≡ old.waiting
  pub flights : new.flights ≡ old.flights
  pub unsettled : new.unsettled ≡ old.unsettled
  pub served : new.served ≡ old.served
  pub lines : new.lines ≡ old.lines
  pub sites : new.sites ≡ old.sites
  pub synced : new.synced ≡ old.synced
  pub named : new.named ≡ old.named

-- the message was synced in this life, and active is to be looked at anew
pub record IsNoted (old new : Core) (id : Id) : Type 0 where
  pub rest : new ≡ record old { synced = new.synced; active = Unknown }
  pub synced : new.synced ≡ id ∷ []

-- the slots of all others
abbrev pub slots_without : Id → List Slot → List Slot
slots_without id slots = filter (λ s. not (id_eq s.id id)) slots

-- the slot of this id is gone, and deferred is to be looked at anew
pub record IsPutOff (old new : Core) (id : Id) : Type 0 where
  pub rest : new ≡ record old { admitted = new.admitted; deferred = Unknown }
  pub admitted : new.admitted ≡ slots_without id old.admitted

-- the slot of this id is gone, and incoming is to be looked at anew
pub record IsSlotRemoved (old new : Core) (id : Id) : Type 0 where
  pub rest : new ≡ record old { admitted = new.admitted; incoming = Unknown }
  pub admitted : new.admitted ≡ slots_without id old.admitted

-- the bounce of this message is stored, and incoming is to be looked at anew
pub record IsBounced (old new : Core) (id : Id) : Type 0 where
  pub rest : new ≡ record old { admitted = new.admitted; incoming = Unknown }
  pub admitted : new.admitted ≡ map (changed_at id with_bounce) old.admitted
