-- The core agrees with the ledger after an entry; where nothing but the room of its lists changed it is the same.
use Rattle.std.proofs.Common.{◌≡◌, ◌≤◌, false, true, refl, sym, ap, ◌∙◌, subst, inl}
use Rattle.std.specs.Prelude.{◌&&◌}
use Rattle.q_core.specs.Agrees.{Agrees, Matches}
use Rattle.q_core.specs.Changes.{IsUnchanged}
use Rattle.q_core.specs.Hearing.{IsHeard, IsInTime}
use Rattle.q_core.specs.declared.event.Heard.{Heard}
use Rattle.q_core.specs.declared.event.Heard.TheVariants.{At, Mail, Reply, Trigger}
use Rattle.q_core.specs.declared.state.Core.{Core}
use Rattle.q_laws.proofs.Kept.{entry_consistent}
use Rattle.q_laws.proofs.Living.{at_now, entry_living, inner_now}
use Rattle.q_laws.proofs.SiteEntries.{sites_at_entry}
use Rattle.q_laws.specs.Traces.{IsEntryOf, is_inner, is_outside}
use Rattle.q_model.specs.Ledger.{Ledger}
use Rattle.q_model.specs.Past.{is_end}
use Rattle.q_model.specs.declared.entry.Entry.TheVariants as entries
use Rattle.q_model.specs.Settings.{World}
use Rattle.q_model.specs.Step.{after, allowed}
use Rattle.q_model.specs.declared.entry.Entry.{Entry}

-- after an entry of the ledger all of it fits together again
pub inner_goes_on : (e : Entry) → is_inner e ≡ true → is_end e ≡ false
inner_goes_on (entries.Life generation mode) h = cc
inner_goes_on (entries.At t) h = cc
inner_goes_on entries.End h = cc
inner_goes_on (entries.Arrive id sender to content) h = refl
inner_goes_on (entries.Back id) h = refl
inner_goes_on (entries.Admit id) h = refl
inner_goes_on (entries.Load id from to) h = refl
inner_goes_on (entries.Start number id site positions) h = refl
inner_goes_on (entries.Preempt child parent transport need) h = refl
inner_goes_on (entries.Reply number state outcomes) h = refl
inner_goes_on (entries.Skip id site positions) h = refl
inner_goes_on (entries.Log id failure) h = refl
inner_goes_on (entries.Mark id position) h = refl
inner_goes_on (entries.Sync id) h = refl
inner_goes_on (entries.Defer id due) h = refl
inner_goes_on (entries.Bounce id) h = refl
inner_goes_on (entries.Remove id) h = refl
inner_goes_on (entries.Corrupt id) h = refl
inner_goes_on (entries.Trigger kind) h = refl

pub inner_moment : (w : World) (l : Ledger) (e : Entry) → is_inner e ≡ true → l.now ≤ 999990000000 → (after w l e).now ≤ 999990000000
inner_moment w l e h old = subst (λ n. n ≤ 999990000000) (sym (inner_now w l e h)) old

pub still_agrees : {w : World} {c d : Core} {l : Ledger} → Agrees w c l → Matches w d l → Agrees w d l
still_agrees a m = record { matches = m; consistent = a.consistent; sites = a.sites; living = a.living; moment = a.moment }

pub whole_law : {w : World} {c d : Core} {l : Ledger} (e : Entry) → Agrees w c l → IsEntryOf w l e → is_end e ≡ false → (after w l e).now ≤ 999990000000 → Matches w d (after w l e) → Agrees w d (after w l e)
whole_law {w = w} {l = l} e a is_entry goes_on moment m = record {
  matches = m;
  consistent = entry_consistent w l e a.consistent is_entry;
  sites = sites_at_entry w l e a.consistent a.sites is_entry;
  living = entry_living w l e goes_on;
  moment = moment;
}

-- an event's entry comes from outside
outside : (h : Heard) (e : Entry) → IsHeard h e → is_outside e ≡ true
outside (At moment) e k = ap is_outside k
outside (Mail id) e k = ap is_outside k.3
outside (Reply number site outcomes) e k = ap is_outside k
outside (Trigger kind) e k = ap is_outside k

heard_goes_on : (h : Heard) (e : Entry) → IsHeard h e → is_end e ≡ false
heard_goes_on (At moment) e k = ap is_end k
heard_goes_on (Mail id) e k = ap is_end k.3
heard_goes_on (Reply number site outcomes) e k = ap is_end k
heard_goes_on (Trigger kind) e k = ap is_end k

heard_moment : (w : World) (l : Ledger) (h : Heard) (e : Entry) → IsHeard h e → IsInTime h → l.now ≤ 999990000000 → (after w l e).now ≤ 999990000000
heard_moment w l (At moment) e k time old = subst (λ (x : Entry). (after w l x).now ≤ 999990000000) (sym k) (subst (λ n. n ≤ 999990000000) (sym (at_now w l moment)) time)
heard_moment w l (Mail id) e k time old = inner_moment w l e (ap is_inner k.3) old
heard_moment w l (Reply number site outcomes) e k time old = inner_moment w l e (ap is_inner k) old
heard_moment w l (Trigger kind) e k time old = inner_moment w l e (ap is_inner k) old

pub heard_law : {w : World} {c d : Core} {l : Ledger} (h : Heard) (e : Entry) → IsInTime h → Agrees w c l → IsHeard h e → allowed w l e ≡ true → Matches w d (after w l e) → Agrees w d (after w l e)
heard_law {w = w} {l = l} h e time a k may m =
    whole_law e a (inl (ap (λ b. b && allowed w l e) (outside h e k) ∙ may)) (heard_goes_on h e k) (heard_moment w l h e k time a.moment) m

-- a core with other room in its lists is the same
pub same_core : {c d : Core} → IsUnchanged c d → d ≡ c
same_core {c = c} {d = d} b =
    b.rest
    ∙ ap (λ x. record c { admitted = x; waiting = d.waiting; flights = d.flights; unsettled = d.unsettled; served = d.served; lines = d.lines; sites = d.sites; synced = d.synced; named = d.named }) b.admitted
    ∙ ap (λ x. record c { waiting = x; flights = d.flights; unsettled = d.unsettled; served = d.served; lines = d.lines; sites = d.sites; synced = d.synced; named = d.named }) b.waiting
    ∙ ap (λ x. record c { flights = x; unsettled = d.unsettled; served = d.served; lines = d.lines; sites = d.sites; synced = d.synced; named = d.named }) b.flights
    ∙ ap (λ x. record c { unsettled = x; served = d.served; lines = d.lines; sites = d.sites; synced = d.synced; named = d.named }) b.unsettled
    ∙ ap (λ x. record c { served = x; lines = d.lines; sites = d.sites; synced = d.synced; named = d.named }) b.served
    ∙ ap (λ x. record c { lines = x; sites = d.sites; synced = d.synced; named = d.named }) b.lines
    ∙ ap (λ x. record c { sites = x; synced = d.synced; named = d.named }) b.sites
    ∙ ap (λ x. record c { synced = x; named = d.named }) b.synced
    ∙ ap (λ x. record c { named = x }) b.named
