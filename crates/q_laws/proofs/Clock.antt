-- The clock and triggers change nothing that fits together.
use Rattle.std.proofs.Common.{ℕ, Bool, true, false, Option, Some, None, refl, if◌then◌else◌}
use Rattle.std.specs.Option.{option_map_or}
use Rattle.std.specs.Prelude.{nat_le}
use Rattle.q_laws.proofs.Quiet.{otherwise_ready, quiet_ready}
use Rattle.q_laws.proofs.Tidied.{IsReady, after_consistent}
use Rattle.q_laws.specs.Consistency.{IsConsistent}
use Rattle.q_model.specs.Clock.{scheduled, woken}
use Rattle.q_model.specs.Ledger.{Ledger}
use Rattle.q_model.specs.Revival.{revive_all, wake_due}
use Rattle.q_model.specs.Scans.{ask_scan, joined_request, new_scan}
use Rattle.q_model.specs.Settings.{World}
use Rattle.q_model.specs.Step.{after, noted}
use Rattle.q_model.specs.Triggers.{after_trigger}
use Rattle.q_model.specs.declared.entry.Entry.{Entry}
use Rattle.q_model.specs.declared.event.Trigger.{Trigger}
use Rattle.q_model.specs.declared.rows.Request.{Request}
use Rattle.q_model.specs.declared.rows.Scan.{Scan}
use Rattle.q_model.specs.declared.entry.Entry.TheVariants as entries
use Rattle.q_model.specs.declared.event.Trigger.TheVariants as triggers
use Rattle.q_model.specs.declared.rows.Request.TheVariants as requests

-- asking for a scan keeps what another ledger has that differs in such things alone
asked_ready : (w : World) (l : Ledger) (e : Entry) (request : Request) (o : Option Scan) → IsReady w (noted e l) →
    IsReady w (noted e (option_map_or (λ s. record l { asked = Some (joined_request l.asked request); ignores = false }) o (record l { scan = Some (new_scan l.now request); ignores = false })))
asked_ready w l e request None h = otherwise_ready w (noted e l) l.now l.timed l.next_run (Some (new_scan l.now request)) l.asked false l.deferred_follows l.served l.sites h
asked_ready w l e request (Some s) h = otherwise_ready w (noted e l) l.now l.timed l.next_run l.scan (Some (joined_request l.asked request)) false l.deferred_follows l.served l.sites h

ask_ready : (w : World) (l : Ledger) (e : Entry) → IsReady w (noted e l) → IsReady w (noted e (ask_scan l))
ask_ready w l e h = asked_ready w l e (if l.ignores then requests.All else requests.Due) l.scan h

woken_ready : (w : World) (l : Ledger) (e : Entry) (t : ℕ) → IsReady w (noted e l) → IsReady w (noted e (woken w l t))
woken_ready w l e t h = otherwise_ready w (noted e l) t true l.next_run l.scan l.asked l.ignores l.deferred_follows l.served (wake_due w (record l { now = t })) h

scheduled_ready : (w : World) (l : Ledger) (e : Entry) (t : ℕ) → IsReady w (noted e l) → IsReady w (noted e (scheduled w l t))
scheduled_ready w l e t h = otherwise_ready w (noted e l) t true (scheduled w l t).next_run l.scan l.asked l.ignores l.deferred_follows l.served (wake_due w (record l { now = t })) h

at_ready : (w : World) (l : Ledger) (e : Entry) (t : ℕ) (b : Bool) → IsReady w (noted e l) → IsReady w (noted e (if b then ask_scan (scheduled w l t) else woken w l t))
at_ready w l e t true h = ask_ready w (scheduled w l t) e (scheduled_ready w l e t h)
at_ready w l e t false h = woken_ready w l e t h

pub at_consistent : (w : World) (l : Ledger) (t : ℕ) → IsConsistent w l → IsConsistent w (after w l (entries.At t))
at_consistent w l t c =
    after_consistent w l (entries.At t) (at_ready w l (entries.At t) t (nat_le l.next_run t)
    (quiet_ready w l (entries.At t) (λ id k. record { admit = refl; start = refl; charge = refl }) c))

triggered_ready : (w : World) (l : Ledger) (e : Entry) (kind : Trigger) → IsReady w (noted e l) → IsReady w (noted e (after_trigger w l kind))
triggered_ready w l e triggers.D h = ask_ready w l e h
triggered_ready w l e triggers.A h = otherwise_ready w (noted e l) l.now l.timed l.next_run l.scan l.asked true l.deferred_follows l.served l.sites h
triggered_ready w l e triggers.F h = otherwise_ready w (noted e l) l.now l.timed l.next_run l.scan l.asked l.ignores l.deferred_follows l.served (revive_all w l) h

pub trigger_consistent : (w : World) (l : Ledger) (kind : Trigger) → IsConsistent w l → IsConsistent w (after w l (entries.Trigger kind))
trigger_consistent w l kind c =
    after_consistent w l (entries.Trigger kind) (triggered_ready w l (entries.Trigger kind) kind
    (quiet_ready w l (entries.Trigger kind) (λ id k. record { admit = refl; start = refl; charge = refl }) c))
