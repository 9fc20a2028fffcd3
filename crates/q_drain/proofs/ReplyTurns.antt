-- The turn of a report's reply: which replies may come, and what a refusal leaves.
use Rattle.std.proofs.Common.{◌≡◌, ℕ, zero, suc, Bool, true, false, if◌then◌else◌, List, [], ◌∷◌, arith, length, Option, Some, None, refl, sym, ap, ◌∙◌, subst}
use Rattle.std.proofs.lemmas.Bool.{and_from, and_parts}
use Rattle.std.proofs.lemmas.Bool.Decides.{nat_tests}
use Rattle.std.specs.List.{list_all}
use Rattle.std.specs.Option.{option_map_or}
use Rattle.std.specs.Prelude.{◌&&◌, ◌==◌, ◌||◌, replicate}
use Rattle.q_agent.specs.NextPoll.{Counts}
use Rattle.q_agent.specs.declared.report.Report.{Report}
use Rattle.q_session.specs.Codes.{HaveReplyCodes, has_reply_code}
use Rattle.q_smtp.specs.Codes.{is_refusal}
use Rattle.q_core.specs.Hearing.{has_log_code}
use Rattle.q_model.specs.FailureLog.{is_log_code}
use Rattle.q_books.specs.HostStands.{HostStands, TellsCrashes}
use Rattle.q_drain.proofs.ClockTurns.{host_fault}
use Rattle.q_drain.specs.Faults.{stop_of}
use Rattle.q_drain.specs.Replied.{entries_replied, reply_event}
use Rattle.q_engine.specs.Refusals.{is_early, is_of_event, is_of_host, refusal_of, refused_event, refused_reply, told_count}
use Rattle.q_engine.specs.declared.error.EngineError.{EngineError}
use Rattle.q_engine.specs.declared.error.EngineError.TheVariants as errors
use Rattle.q_engine.specs.declared.stop.Stop.TheVariants as stops
use Rattle.q_entries.proofs.Playing.{plays_given_up, plays_none}
use Rattle.q_entries.specs.Runs.{HaltsRun}
use Rattle.q_host.specs.View.{View as HostView}
use Rattle.q_host.specs.declared.error.HostError.{HostError}
use Rattle.q_model.specs.declared.entry.Entry.{Entry}
use Rattle.q_model.specs.declared.event.Event.TheVariants as events
use Rattle.q_model.specs.declared.event.LifeEvent.TheVariants.{Heard}
use Rattle.q_model.specs.declared.outcome.Outcome.{Outcome}
use Rattle.q_model.specs.declared.outcome.Outcome.TheVariants as outcomes
use Rattle.q_model.specs.declared.outcome.SiteState.{SiteState}
use Rattle.q_model.specs.declared.outcome.SiteState.TheVariants.{Down, Up}
use Rattle.q_model.specs.declared.rows.Delivery.{Delivery}
use Rattle.q_model.specs.Deliveries.{flight_of}
use Rattle.q_model.specs.Ledger.{Ledger}
use Rattle.q_model.specs.Replies.{fits_state, is_later, may_reply}
use Rattle.q_model.specs.Run.{turn}
use Rattle.q_model.specs.Settings.{World}

-- ---- what a report says

later_all : (n : ℕ) → list_all is_later (replicate n (outcomes.Later 0)) ≡ true
later_all zero = refl
later_all (suc n) = later_all n

-- where a site is down, all are put off
pub counts_fit : (site : SiteState) (n : ℕ) (os : List Outcome) → Counts site n os → fits_state site os ≡ true
counts_fit Up n os h = refl
counts_fit Down n os h = ap (list_all is_later) h ∙ later_all n

-- a failure log can hold the code of a reply that refuses
refusal_logged : (code : ℕ) → ((code == 0) || is_refusal code) ≡ true → is_log_code code ≡ true
refusal_logged code h = grind (arith, nat_tests, h)

code_logged : (o : Outcome) → has_reply_code o ≡ true → has_log_code o ≡ true
code_logged outcomes.Ok h = refl
code_logged (outcomes.Later code) h = refusal_logged code h
code_logged (outcomes.Never code) h = refusal_logged code h

pub codes_logged : (os : List Outcome) → HaveReplyCodes os → list_all has_log_code os ≡ true
codes_logged [] h = refl
codes_logged (o ∷ os) h =
    let both = and_parts (has_reply_code o) (list_all has_reply_code os) h in
    and_from (has_log_code o) (list_all has_log_code os) (code_logged o both.0) (codes_logged os both.1)

-- ---- a reply that isn't refused

pub none_refused : (o : Option EngineError) → ((error : EngineError) → o ≡ Some error → ⊥) → o ≡ None
none_refused None h = refl
none_refused (Some error) h = absurd (h error refl)

chosen : (b : Bool) (error : EngineError) → (if b then None else Some error) ≡ None → b ≡ true
chosen true error h = refl
chosen false error h = cc

-- one that isn't refused may come
pub accepted_may : (l : Ledger) (number : ℕ) (site : SiteState) (os : List Outcome) → fits_state site os ≡ true → refused_event l (events.Reply number site os) ≡ None → may_reply l number site os ≡ true
accepted_may l number site os fits none = early (is_early l.timed (events.Reply number site os)) none
  where
    found : (o : Option Delivery) → flight_of l number ≡ o → refused_reply number os o ≡ None → may_reply l number site os ≡ true
    found None is h = cc
    found (Some f) is h = ap (λ (o : Option Delivery). option_map_or (λ (g : Delivery). (length os == length g.row.positions) && fits_state site os) o false) is ∙ ap (λ (b : Bool). b && fits_state site os) (chosen (length os == length f.row.positions) (errors.WrongCount number (told_count (length f.row.positions)) (told_count (length os))) h) ∙ fits

    early : (b : Bool) → (if b then Some errors.Untimed else refused_reply number os (flight_of l number)) ≡ None → may_reply l number site os ≡ true
    early true h = cc
    early false h = found (flight_of l number) refl h

-- one that may not come is refused
pub refused_unless : (l : Ledger) (number : ℕ) (site : SiteState) (os : List Outcome) → fits_state site os ≡ true → may_reply l number site os ≡ false → (why : EngineError) × (refused_event l (events.Reply number site os) ≡ Some why)
refused_unless l number site os fits never = on (refused_event l (events.Reply number site os)) refl
  where
    on : (o : Option EngineError) → refused_event l (events.Reply number site os) ≡ o → (why : EngineError) × (refused_event l (events.Reply number site os) ≡ Some why)
    on (Some why) is = (why, is)
    on None is = let bad : true ≡ false = sym (accepted_may l number site os fits is) ∙ never in absurd cc

-- ---- a refusal

-- nothing was done
pub halts_nothing : (w : World) (l : Ledger) (es : List Entry) (error : HostError) (u : HostView) → TellsCrashes u → HostStands u l.book → HaltsRun w l es error u u
halts_nothing w l es error u lawful host = plays_given_up w l [] es error u u (plays_none w l u lawful host)

-- by a fault of the host some first part was done, and by another refusal nothing
pub fault_halts : (w : World) (l : Ledger) (es : List Entry) (u x : HostView) (why : EngineError) (error : HostError) → TellsCrashes u → HostStands u l.book → (is_of_host why || is_of_event why) ≡ true
    → ((fault : HostError) → why ≡ refusal_of fault → HaltsRun w l es fault u x) → (is_of_event why ≡ true → x ≡ u) → stop_of why ≡ stops.Host error → HaltsRun w l es error u x
fault_halts w l es u x why error lawful host kinds halts untouched same = on (is_of_host why) (is_of_event why) refl refl kinds
  where
    on : (b c : Bool) → is_of_host why ≡ b → is_of_event why ≡ c → (b || c) ≡ true → HaltsRun w l es error u x
    on true c of_host of_event h = halts error (host_fault why error of_host same)
    on false true of_host of_event h = subst (λ (v : HostView). HaltsRun w l es error u v) (sym (untouched of_event)) (halts_nothing w l es error u lawful host)
    on false false of_host of_event h = cc

-- some first part of the turn of one that may come was told, and nothing of another one
pub halts_reply : (w : World) (l : Ledger) (r : Report) (error : HostError) (u x : HostView) → (may_reply l r.number r.site r.outcomes ≡ true → HaltsRun w l (turn w l (Heard (reply_event r))) error u x)
    → (may_reply l r.number r.site r.outcomes ≡ false → HaltsRun w l [] error u x) → HaltsRun w l (entries_replied w l r) error u x
halts_reply w l r error u x some none = on (may_reply l r.number r.site r.outcomes) some none
  where
    es : List Entry
    es = turn w l (Heard (reply_event r))

    on : (b : Bool) → (b ≡ true → HaltsRun w l es error u x) → (b ≡ false → HaltsRun w l [] error u x) → HaltsRun w l (if b then es else []) error u x
    on true some none = some refl
    on false some none = none refl
