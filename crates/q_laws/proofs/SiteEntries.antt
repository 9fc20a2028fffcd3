-- What fits together of sites still does at each entry.
use Rattle.std.proofs.Common.{◌≡◌, ℕ, ◌+◌, ◌≤◌, Bool, true, false, not, List, ◌++◌, replicate, length, Option, Some, None, inl, inr, refl, sym, ap, ◌∙◌, subst, arith, if◌then◌else◌, le_trans}
use Rattle.std.proofs.lemmas.Bool.{and_parts}
use Rattle.std.specs.List.{list_all}
use Rattle.std.specs.Option.{option_map_or}
use Rattle.std.specs.Prelude.{◌==◌, nat_le}
use Rattle.q_laws.proofs.Loaded.{records_is}
use Rattle.q_laws.proofs.DeadSites.{all_few, due_few, load_few, reply_few, skip_few, start_few}
use Rattle.q_laws.proofs.Members.{find_in}
use Rattle.q_laws.proofs.SiteCounts.{kept_dead_in, tally}
use Rattle.q_laws.proofs.SiteLists.{busy_fewer, busy_in}
use Rattle.q_laws.proofs.TidiedSites.{IsSitesReady, sites_after, sites_ready}
use Rattle.q_laws.specs.SitesConsistency.{IsOpen, IsSitesConsistent, are_apart, is_window}
use Rattle.q_model.specs.Batches.{load_rows}
use Rattle.q_model.specs.Book.{message_of}
use Rattle.q_model.specs.BookChanges.{add_message}
use Rattle.q_model.specs.Clock.{scheduled, woken}
use Rattle.q_model.specs.Deliveries.{flight_of}
use Rattle.q_model.specs.Ledger.{Ledger}
use Rattle.q_model.specs.Loads.{loaded}
use Rattle.q_model.specs.Message.{Message}
use Rattle.q_model.specs.Scans.{ask_scan, joined_request, new_scan}
use Rattle.q_model.specs.Settings.{window_limit, World}
use Rattle.q_model.specs.Starts.{after_start, may_start}
use Rattle.q_model.specs.declared.id.Id.{Id}
use Rattle.q_model.specs.Step.{after, allowed, change, may}
use Rattle.q_model.specs.Values.{Site}
use Rattle.q_model.specs.declared.outcome.SiteState.{SiteState}
use Rattle.q_model.specs.declared.rows.Delivery.{Delivery}
use Rattle.q_laws.proofs.Decisions.{next_decided}
use Rattle.q_laws.proofs.Kept.{may_be}
use Rattle.q_laws.specs.Consistency.{IsConsistent}
use Rattle.q_laws.specs.Traces.{IsEntryOf, is_outside}
use Rattle.q_model.specs.Leftovers.{is_next_leftover}
use Rattle.q_model.specs.Lives.{after_life}
use Rattle.q_model.specs.Notices.{bounce_message}
use Rattle.q_model.specs.Replies.{landed, replied}
use Rattle.q_model.specs.Settling.{needs_of}
use Rattle.q_model.specs.Skips.{after_skip, unqueued}
use Rattle.q_model.specs.Triggers.{after_trigger}
use Rattle.q_model.specs.UnusedSites.{is_remembered}
use Rattle.q_model.specs.Alternation.{Pick, from_deferred, from_incoming, passed, pick, after_pick}
use Rattle.q_model.specs.declared.entry.Entry.{Entry}
use Rattle.q_model.specs.declared.event.Mode.{Mode}
use Rattle.q_model.specs.declared.event.Trigger.{Trigger}
use Rattle.q_model.specs.declared.outcome.Outcome.{Outcome}
use Rattle.q_model.specs.declared.rows.Request.{Request}
use Rattle.q_model.specs.declared.rows.Scan.{Scan}
use Rattle.q_model.specs.declared.entry.Entry.TheVariants as entries
use Rattle.q_model.specs.declared.event.Trigger.TheVariants as triggers
use Rattle.q_model.specs.declared.outcome.Outcome.TheVariants as outcomes
use Rattle.q_model.specs.declared.rows.Request.TheVariants as requests
use Rattle.q_laws.proofs.Sites.{all_good, due_good, good_of, good_sites, records_good, start_busy, start_room, state_good}

-- an entry that changes no record, no row that waits and no delivery
unchanged : (w : World) (l k : Ledger) → k.sites ≡ l.sites → k.waiting ≡ l.waiting → k.flights ≡ l.flights → IsSitesReady w l → IsSitesReady w k
unchanged w l k sites waiting flights h = record {
  settings = h.settings;
  apart = ap are_apart sites ∙ h.apart;
  windows = ap (list_all (is_window w)) sites ∙ h.windows;
  busy = λ site. subst (λ fs. busy_in fs site ≤ window_limit w.settings) (sym flights) (h.busy site);
  few = subst (λ rs. tally (is_remembered k) rs ≤ w.settings.recipient_limit + 1) (sym sites)
      (subst (λ rows. tally (kept_dead_in rows k.flights) l.sites ≤ w.settings.recipient_limit + 1) (sym waiting)
      (subst (λ fs. tally (kept_dead_in l.waiting fs) l.sites ≤ w.settings.recipient_limit + 1) (sym flights) h.few));
}

-- ---- scans, alternation and outcomes

-- the ledger with other requests, scans, alternation or outcomes
record IsAside (l k : Ledger) : Type 0 where
  sites : k.sites ≡ l.sites
  waiting : k.waiting ≡ l.waiting
  flights : k.flights ≡ l.flights

aside : (w : World) (l k : Ledger) → IsAside l k → IsSitesReady w l → IsSitesReady w k
aside w l k a h = unchanged w l k a.sites a.waiting a.flights h

asked_aside : (l : Ledger) (r : Request) (o : Option Scan) → IsAside l (option_map_or (λ s. record l { asked = Some (joined_request l.asked r); ignores = false }) o (record l { scan = Some (new_scan l.now r); ignores = false }))
asked_aside l r None = record { sites = refl; waiting = refl; flights = refl }
asked_aside l r (Some s) = record { sites = refl; waiting = refl; flights = refl }

ask_aside : (l : Ledger) → IsAside l (ask_scan l)
ask_aside l = asked_aside l (if l.ignores then requests.All else requests.Due) l.scan

passed_aside : (l : Ledger) (p : Pick) → IsAside l (passed p l)
passed_aside l (from_incoming id) = record { sites = refl; waiting = refl; flights = refl }
passed_aside l (from_deferred name) = record { sites = refl; waiting = refl; flights = refl }

picked_aside : (l : Ledger) (o : Option Pick) → IsAside l (option_map_or (λ p. passed p l) o l)
picked_aside l None = record { sites = refl; waiting = refl; flights = refl }
picked_aside l (Some p) = passed_aside l p

turned_aside : (l : Ledger) (b : Bool) → IsAside l (if b then l else after_pick l)
turned_aside l true = record { sites = refl; waiting = refl; flights = refl }
turned_aside l false = picked_aside l (pick l)

tidy_aside : (w : World) (l : Ledger) (ps : List ℕ) (os : List Outcome) (o : Option Message) → IsAside l (option_map_or (λ m. record l { unsettled = l.unsettled ++ needs_of w l.now m ps os }) o l)
tidy_aside w l ps os None = record { sites = refl; waiting = refl; flights = refl }
tidy_aside w l ps os (Some m) = record { sites = refl; waiting = refl; flights = refl }

bounce_aside : (l : Ledger) (o : Option Message) → IsAside l (option_map_or (λ m. record l { book = add_message l.book (bounce_message l.now m) }) o l)
bounce_aside l None = record { sites = refl; waiting = refl; flights = refl }
bounce_aside l (Some m) = record { sites = refl; waiting = refl; flights = refl }

-- ---- each kind that changes records or deliveries

life_sites : (w : World) (l : Ledger) (generation : ℕ) (mode : Mode) → IsOpen w → IsSitesReady w (after_life w l generation mode)
life_sites w l generation mode h = record { settings = h; apart = refl; windows = refl; busy = λ site. omega arith; few = omega arith }

at_sites : (w : World) (l : Ledger) (t : ℕ) (b : Bool) → IsSitesConsistent w l → IsSitesReady w (if b then ask_scan (scheduled w l t) else woken w l t)
at_sites w l t true h = aside w (scheduled w l t) (ask_scan (scheduled w l t)) (ask_aside (scheduled w l t)) (good_sites w l (scheduled w l t) h (due_good w l t h) h.busy (due_few w l t h))
at_sites w l t false h = good_sites w l (woken w l t) h (due_good w l t h) h.busy (due_few w l t h)

trigger_sites : (w : World) (l : Ledger) (kind : Trigger) → IsSitesConsistent w l → IsSitesReady w (after_trigger w l kind)
trigger_sites w l triggers.D h = aside w l (ask_scan l) (ask_aside l) (sites_ready w l h)
trigger_sites w l triggers.A h = unchanged w l (after_trigger w l triggers.A) refl refl refl (sites_ready w l h)
trigger_sites w l triggers.F h = good_sites w l (after_trigger w l triggers.F) h (all_good w l h) h.busy (all_few w l h)

reply_sites : (w : World) (l : Ledger) (number : ℕ) (state : SiteState) (os : List Outcome) (o : Option Delivery) → IsConsistent w l → IsSitesConsistent w l → flight_of l number ≡ o → IsSitesReady w (option_map_or (λ (f : Delivery). replied w l state os f) o l)
reply_sites w l number state os None c h e = sites_ready w l h
reply_sites w l number state os (Some f) c h e =
    let k = landed w l state f in
    aside w k (replied w l state os f) (tidy_aside w k f.row.positions os (message_of l.book f.row.id))
    (good_sites w l k h (state_good w l f.row.site state h) (λ site. le_trans (busy_fewer site (λ (g : Delivery). not (g.number == f.number)) l.flights) (h.busy site))
    (reply_few w l f state h c.memory.numbers (find_in (λ (g : Delivery). g.number == number) f l.flights e).0))

load_sites : (w : World) (l : Ledger) (id : Id) (from to : ℕ) (o : Option Message) → IsSitesConsistent w l → IsSitesReady w (option_map_or (λ m. loaded w l id to (load_rows w m from to)) o l)
load_sites w l id from to None h = sites_ready w l h
load_sites w l id from to (Some m) h =
    let rows = load_rows w m from to in
    let known = records_is w rows l in
    good_sites w l (loaded w l id to rows) h (records_good w rows l h.settings (good_of h))
    (λ site. subst (λ (k : Ledger). busy_in k.flights site ≤ window_limit w.settings) (sym known.1) (h.busy site)) (load_few w l rows h)

start_sites : (w : World) (l : Ledger) (number : ℕ) (id : Id) (site : Site) (ps : List ℕ) → IsSitesConsistent w l → may_start w l number id site ps ≡ true → IsSitesReady w (after_start l number id site ps)
start_sites w l number id site ps h may = good_sites w l (after_start l number id site ps) h (good_of h) (start_busy w l (record { number = number; row = record { id = id; site = site; positions = ps } }) h (start_room w l number id site ps h may)) (start_few w l number id site ps h)

skip_sites : (w : World) (l : Ledger) (id : Id) (site : Site) (ps : List ℕ) → IsSitesConsistent w l → IsSitesReady w (after_skip w l id site ps)
skip_sites w l id site ps h =
    let k = unqueued l id site ps in
    aside w k (after_skip w l id site ps) (tidy_aside w k ps (replicate (length ps) (outcomes.Later 0)) (message_of l.book id))
    (good_sites w l k h (good_of h) h.busy (skip_few w l id site ps h))

change_sites : (w : World) (l : Ledger) (e : Entry) → IsConsistent w l → IsSitesConsistent w l → may w l e ≡ true → IsSitesReady w (change w l e)
change_sites w l (entries.Life generation mode) c h m = life_sites w l generation mode h.settings
change_sites w l (entries.At t) c h m = at_sites w l t (nat_le l.next_run t) h
change_sites w l (entries.Arrive id sender to content) c h m = unchanged w l (change w l (entries.Arrive id sender to content)) refl refl refl (sites_ready w l h)
change_sites w l (entries.Back id) c h m = unchanged w l (change w l (entries.Back id)) refl refl refl (sites_ready w l h)
change_sites w l (entries.Admit id) c h m = let a = picked_aside l (pick l) in unchanged w l (change w l (entries.Admit id)) a.sites a.waiting a.flights (sites_ready w l h)
change_sites w l (entries.Load id from to) c h m = load_sites w l id from to (message_of l.book id) h
change_sites w l (entries.Start number id site positions) c h m = start_sites w l number id site positions h m
change_sites w l (entries.Preempt child parent transport need) c h m = unchanged w l (change w l (entries.Preempt child parent transport need)) refl refl refl (sites_ready w l h)
change_sites w l (entries.Reply number state outcomes) c h m = reply_sites w l number state outcomes (flight_of l number) c h refl
change_sites w l (entries.Skip id site positions) c h m = skip_sites w l id site positions h
change_sites w l (entries.Log id failure) c h m = unchanged w l (change w l (entries.Log id failure)) refl refl refl (sites_ready w l h)
change_sites w l (entries.Mark id position) c h m = unchanged w l (change w l (entries.Mark id position)) refl refl refl (sites_ready w l h)
change_sites w l (entries.Sync id) c h m = unchanged w l (change w l (entries.Sync id)) refl refl refl (sites_ready w l h)
change_sites w l (entries.Defer id due) c h m = unchanged w l (change w l (entries.Defer id due)) refl refl refl (sites_ready w l h)
change_sites w l (entries.Bounce id) c h m = aside w l (change w l (entries.Bounce id)) (bounce_aside l (message_of l.book id)) (sites_ready w l h)
change_sites w l (entries.Remove id) c h m = unchanged w l (change w l (entries.Remove id)) refl refl refl (sites_ready w l h)
change_sites w l (entries.Corrupt id) c h m = let a = turned_aside l (is_next_leftover l id) in unchanged w l (change w l (entries.Corrupt id)) a.sites a.waiting a.flights (sites_ready w l h)
change_sites w l (entries.Trigger kind) c h m = trigger_sites w l kind h
change_sites w l entries.End c h m = sites_ready w l h

-- nothing is known of sites as a life begins
pub sites_at_life : (w : World) (l : Ledger) (generation : ℕ) (mode : Mode) → IsOpen w → IsSitesConsistent w (after w l (entries.Life generation mode))
sites_at_life w l generation mode h = sites_after w l (entries.Life generation mode) (life_sites w l generation mode h)

-- an entry that is allowed keeps what fits together of sites
pub sites_at_allowed : (w : World) (l : Ledger) (e : Entry) → IsConsistent w l → IsSitesConsistent w l → may w l e ≡ true → IsSitesConsistent w (after w l e)
sites_at_allowed w l e c h m = sites_after w l e (change_sites w l e c h m)

-- each entry of a ledger does
pub sites_at_entry : (w : World) (l : Ledger) (e : Entry) → IsConsistent w l → IsSitesConsistent w l → IsEntryOf w l e → IsSitesConsistent w (after w l e)
sites_at_entry w l e c h (inl k) = let two = and_parts (is_outside e) (allowed w l e) k in sites_at_allowed w l e c h (may_be w l e two.1)
sites_at_entry w l e c h (inr k) = sites_at_allowed w l e c h (next_decided w l e c k).0
