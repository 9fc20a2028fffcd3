-- How an audit ends.
use Rattle.std.proofs.Common.{◌≡◌, ◌∙◌, [], false, inl, inr, List, refl, subst, sym, ℕ}
use Rattle.std.specs.Prelude.{Bool, Err, IsTrue, Ok, OnErr, OnOk, Option, Result}
use Rattle.q_audit.specs.TraceEnds.{IsRefused, ReportsTrace}
use Rattle.q_audit.specs.declared.trace.TraceError.{TraceError}
use Rattle.q_audit.specs.declared.trace.TraceError.TheVariants as trace_errors
use Rattle.q_conf.specs.Confs.{conf_of, goes_by, IsConfFault}
use Rattle.q_conf.specs.declared.error.ConfError.{ConfError}
use Rattle.q_conf.specs.declared.error.ConfError.TheVariants as conf_errors
use Rattle.q_host.proofs.Moments.{goes_nowhere}
use Rattle.q_host.proofs.Stays.{stays_on}
use Rattle.q_host.specs.Calls.{Stays}
use Rattle.q_host.specs.Faults.{Faults}
use Rattle.q_host.specs.Steps.{Stay}
use Rattle.q_host.specs.View.{View}
use Rattle.q_host.specs.declared.error.HostError.{HostError}
use Rattle.q_host.specs.declared.error.HostError.TheVariants as faults
use Rattle.q_model.specs.FaultCounts.{Rose}
use Rattle.q_model.specs.Settings.{World}
use Rattle.q_replay.specs.Spools.{Serves}
use Rattle.q_telling.proofs.TellingLaws.{front_on, only_none, only_on, OnlyNow, tells_none, tells_on}
use Rattle.q_telling.specs.Telling.{OnlyTells, TellingCause, TellsFront, TellsMore}
use Rattle.q_top.proofs.FirstRefusals.{same_fault, same_world, says_both}
use Rattle.q_top.proofs.Serving.{told_looks}
use Rattle.q_top.proofs.Told.{ends_telling, on_err_of, on_ok_of}
use Rattle.q_top.specs.Audits.{Audits, EndsAudit}
use Rattle.q_top.specs.Causes.{HasHostCause, HasSourceCause}
use Rattle.q_top.specs.Courses.{Texts}
use Rattle.q_top.specs.Named.{IsNamed}
use Rattle.q_top.specs.Statuses.{conf_status, is_unreadable, telling_status, trace_status}
use Rattle.q_top.specs.Tellings.{EndsTelling}
use Rattle.q_top.specs.declared.status.Status.{Status}
use Rattle.q_top.specs.declared.status.Status.TheVariants as status
use Rattle.q_words.specs.declared.request.Request.TheVariants.{Audit}

-- ---- by the files of conf

stays_here : (u : View) → Stays u u
stays_here u = record { files = refl; told = refl; goes = goes_nowhere Stay Stay u (λ x. refl) }

-- the report is told
pub told_report : (w : World) (texts : Texts) (text : List ℕ) (tells : Bool) (t : IsTrue tells) (u v : View) (r : Result (Unit {0}) HostError) → ReportsTrace w texts.before texts.after text
    → OnOk r (IsTrue tells → TellsMore text u v) → OnErr r (IsTrue tells → TellsFront text u v) → EndsAudit w texts u v (telling_status r)
told_report w texts text tells t u v r reports told front =
    inl (record { text = text; reports = reports; told = ends_telling r (on_ok_of r (λ f. f t) told) (on_err_of r (λ f. f t) front) })

-- there is none
pub refused_trace : (w : World) (texts : Texts) (u : View) (error : TraceError) → IsRefused w texts.before error → EndsAudit w texts u u (trace_status error)
refused_trace w texts u error refused = inr (inl (record { error = error; is = refl; refused = refused; stays = stays_here u }))

pub only_here : (u : View) → OnlyNow u → OnlyTells u u
only_here u only = only_none u u only (stays_here u)

-- ---- from the spool

module _ (u m : View) (only : OnlyNow u) (stays : Stays u m) where
  module _ (v : View) where
    more_behind : (text : List ℕ) → TellsMore text m v → TellsMore text u v
    more_behind text told = tells_on [] text u m v (tells_none u m only stays) told

    front_behind : (text : List ℕ) → TellsFront text m v → TellsFront text u v
    front_behind text told = front_on [] text u m v (tells_none u m only stays) told

    telling_behind : (text : List ℕ) (s : Status) → EndsTelling (TellsMore text m v) (TellsFront text m v) s → EndsTelling (TellsMore text u v) (TellsFront text u v) s
    telling_behind text s (inl (done, all)) = inl (done, more_behind text all)
    telling_behind text s (inr (up, part)) = inr (up, front_behind text part)

    audit_behind : (w : World) (texts : Texts) (s : Status) → EndsAudit w texts m v s → EndsAudit w texts u v s
    audit_behind w texts s (inl r) = inl (record { text = r.text; reports = r.reports; told = telling_behind r.text s r.told })
    audit_behind w texts s (inr (inl r)) = inr (inl (record { error = r.error; is = r.is; refused = r.refused; stays = stays_on u m v stays r.stays }))
    audit_behind w texts s (inr (inr g)) = inr (inr (record { up = g.up; stays = stays_on u m v stays g.stays }))

    pub audited : (w : World) (texts : Texts) (s : Status) → conf_of u.files ≡ goes_by w → EndsAudit w texts m v s → OnlyTells m v → Audits texts u v s
    audited w texts s goes ends tells = record {
      only = only_on u m v (only_none u m only stays) tells;
      conf = λ file line at. absurd (says_both (conf_of u.files) w file line goes at);
      unread = λ file line at. absurd (says_both (conf_of u.files) w file line goes at);
      run = λ k is. subst (λ (x : World). EndsAudit x texts u v s) (same_world w k (sym goes ∙ is)) (audit_behind w texts s ends);
    }

  module _ (tells : Bool) (t : IsTrue tells) (texts : Texts) where
    pub unread_trace : (error : ConfError) → texts.after ≡ texts.before → IsConfFault tells (conf_of u.files) error → Audits texts u m (conf_status error)
    unread_trace conf_errors.Disk same fault = record {
      only = only_none u m only stays;
      conf = λ file line at. record { names = inr (inl refl); stays = stays };
      unread = λ file line at. same;
      run = λ w is. inr (inr (record { up = inl refl; stays = stays }));
    }
    unread_trace conf_errors.NoMemory same fault = record {
      only = only_none u m only stays;
      conf = λ file line at. record { names = inr (inr (inr refl)); stays = stays };
      unread = λ file line at. same;
      run = λ w is. inr (inr (record { up = inr (inr refl); stays = stays }));
    }
    unread_trace (conf_errors.BadLine f n) same fault = record {
      only = only_none u m only stays;
      conf = λ file line at. record { names = inl (same_fault f file n line (sym (fault t) ∙ at)); stays = stays };
      unread = λ file line at. same;
      run = λ w is. absurd (says_both (conf_of u.files) w f n is (fault t));
    }

pub only_serves : (u v : View) → OnlyTells u v → Serves false u v
only_serves u v only b h orderly = told_looks only.text b u v h only.told

-- ---- what the status names, and why

pub trace_readable : (error : TraceError) → is_unreadable (trace_status error) ≡ false
trace_readable trace_errors.NoMemory = refl
trace_readable trace_errors.Source = refl
trace_readable (trace_errors.BadLine line) = refl
trace_readable trace_errors.TooLong = refl

pub trace_named : (w : World) (text : Option (List ℕ)) (error : TraceError) → IsRefused w text error → IsNamed (λ r. r ≡ Audit) text (trace_status error)
trace_named w text trace_errors.NoMemory h = tt
trace_named w text trace_errors.Source h = tt
trace_named w text (trace_errors.BadLine line) h = (refl, (w.table, h))
trace_named w text trace_errors.TooLong h = inr (refl, (w.table, h))

pub telling_cause : (before after : Faults) (r : Result (Unit {0}) HostError) → TellingCause before after r → HasHostCause before after (telling_status r)
telling_cause before after (Ok done) h = record { disk = λ is. absurd cc; tell = λ is. absurd cc }
telling_cause before after (Err faults.Disk) h = record { disk = λ is. h.disk refl; tell = λ is. absurd cc }
telling_cause before after (Err faults.Tell) h = record { disk = λ is. absurd cc; tell = λ is. h.tell refl }
telling_cause before after (Err faults.NoMemory) h = record { disk = λ is. absurd cc; tell = λ is. absurd cc }

pub trace_cause : (before after : Faults) (error : TraceError) → HasHostCause before after (trace_status error)
trace_cause before after trace_errors.NoMemory = record { disk = λ is. absurd cc; tell = λ is. absurd cc }
trace_cause before after trace_errors.Source = record { disk = λ is. absurd cc; tell = λ is. absurd cc }
trace_cause before after (trace_errors.BadLine line) = record { disk = λ is. absurd cc; tell = λ is. absurd cc }
trace_cause before after trace_errors.TooLong = record { disk = λ is. absurd cc; tell = λ is. absurd cc }

pub told_source : (before after : ℕ) (r : Result (Unit {0}) HostError) → after ≡ before → HasSourceCause before after (telling_status r)
told_source before after (Ok done) same = record { failed = λ is. absurd cc; whole = λ is. same }
told_source before after (Err faults.Disk) same = record { failed = λ is. absurd cc; whole = λ is. same }
told_source before after (Err faults.Tell) same = record { failed = λ is. absurd cc; whole = λ is. same }
told_source before after (Err faults.NoMemory) same = record { failed = λ is. absurd cc; whole = λ is. same }

pub trace_source : (before after : ℕ) (error : TraceError) → (error ≡ trace_errors.Source → Rose before after) → HasSourceCause before after (trace_status error)
trace_source before after trace_errors.NoMemory cause = record { failed = λ is. absurd cc; whole = λ is. absurd cc }
trace_source before after trace_errors.Source cause = record { failed = λ is. cause refl; whole = λ is. absurd cc }
trace_source before after (trace_errors.BadLine line) cause = record { failed = λ is. absurd cc; whole = λ is. absurd cc }
trace_source before after trace_errors.TooLong cause = record { failed = λ is. absurd cc; whole = λ is. absurd cc }
