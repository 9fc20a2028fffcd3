-- What an entry makes of the numbers that the engine counts.
use Rattle.std.proofs.Common.{◌≡◌, ◌+◌, ◌-◌, ◌^◌, ℕ, ◌++◌, Bool, true, false, List, ◌∷◌, Option, Some, None, refl, ap, sym, ◌∙◌, min, arith, zero-add}
use Rattle.std.specs.Option.{option_map_or}
use Rattle.std.specs.Prelude.{count_by, if◌then◌else◌, nat_le, length, replicate}
use Rattle.std.proofs.lemmas.List.Sums.{sum_by-cons}
use Rattle.q_laws.proofs.Loaded.{records_is}
use Rattle.q_lives.proofs.Books.{after_is}
use Rattle.q_model.specs.Batches.{load_rows}
use Rattle.q_model.specs.Book.{Book, message_of}
use Rattle.q_model.specs.BookChanges.{add_message}
use Rattle.q_model.specs.Clock.{scheduled, woken}
use Rattle.q_model.specs.Deliveries.{flight_of}
use Rattle.q_model.specs.Ledger.{Ledger}
use Rattle.q_model.specs.Leftovers.{is_next_leftover}
use Rattle.q_model.specs.Loads.{loaded}
use Rattle.q_model.specs.Notices.{bounce_message}
use Rattle.q_model.specs.Past.{is_arrive, is_life}
use Rattle.q_model.specs.Replies.{landed, replied}
use Rattle.q_model.specs.Scans.{ask_scan, joined_request, new_scan}
use Rattle.q_model.specs.Settings.{World}
use Rattle.q_model.specs.Settling.{needs_of, with_outcomes}
use Rattle.q_model.specs.Skips.{unqueued}
use Rattle.q_model.specs.Step.{after, change}
use Rattle.q_model.specs.Alternation.{Pick, after_pick, passed, pick}
use Rattle.q_model.specs.Alternation.Pick.{from_deferred, from_incoming}
use Rattle.q_model.specs.declared.entry.Entry.{Entry}
use Rattle.q_model.specs.declared.entry.Entry.TheVariants as entries
use Rattle.q_model.specs.declared.event.Trigger.{Trigger}
use Rattle.q_model.specs.declared.event.Trigger.TheVariants as triggers
use Rattle.q_model.specs.declared.id.Id.{Id}
use Rattle.q_model.specs.declared.outcome.Outcome.{Outcome}
use Rattle.q_model.specs.declared.outcome.Outcome.TheVariants as outcomes
use Rattle.q_model.specs.declared.rows.Request.{Request}
use Rattle.q_model.specs.declared.rows.Request.TheVariants as requests
use Rattle.q_model.specs.declared.rows.Scan.{Scan}
use Rattle.q_core.specs.declared.state.Core.{Core}
use Rattle.q_engine.specs.Stands.{HasCounts, is_preempt, preempts, with_core}
use Rattle.q_engine.specs.declared.engine.Engine.{Engine}

-- the entries so far, and the generation
abbrev kept : Ledger → List Entry × ℕ
kept l = (l.past, l.book.generation)

option_kept : {A : Type 0} (l : Ledger) (f : A → Ledger) → ((x : A) → kept (f x) ≡ kept l) → (o : Option A) → kept (option_map_or f o l) ≡ kept l
option_kept l f h None = refl
option_kept l f h (Some x) = h x

passed_kept : (l : Ledger) (p : Pick) → kept (passed p l) ≡ kept l
passed_kept l (from_incoming id) = refl
passed_kept l (from_deferred name) = refl

pick_kept : (l : Ledger) → kept (after_pick l) ≡ kept l
pick_kept l = option_kept l (λ p. passed p l) (passed_kept l) (pick l)

if_kept : (b : Bool) (x y l : Ledger) → kept x ≡ kept l → kept y ≡ kept l → kept (if b then x else y) ≡ kept l
if_kept true x y l h k = h
if_kept false x y l h k = k

asked_kept : (l : Ledger) (request : Request) (o : Option Scan) →
    kept (option_map_or (λ s. record l { asked = Some (joined_request l.asked request); ignores = false }) o (record l { scan = Some (new_scan l.now request); ignores = false })) ≡ kept l
asked_kept l request None = refl
asked_kept l request (Some s) = refl

ask_kept : (l : Ledger) → kept (ask_scan l) ≡ kept l
ask_kept l = asked_kept l (if l.ignores then requests.All else requests.Due) l.scan

outcomes_kept : (w : World) (id : Id) (positions : List ℕ) (os : List Outcome) (l : Ledger) → kept (with_outcomes w id positions os l) ≡ kept l
outcomes_kept w id positions os l = option_kept l (λ m. record l { unsettled = l.unsettled ++ needs_of w l.now m positions os }) (λ m. refl) (message_of l.book id)

trigger_kept : (w : World) (l : Ledger) (kind : Trigger) → kept (change w l (entries.Trigger kind)) ≡ kept l
trigger_kept w l triggers.D = ask_kept l
trigger_kept w l triggers.A = refl
trigger_kept w l triggers.F = refl

change_kept : (w : World) (l : Ledger) (e : Entry) → is_life e ≡ false → kept (change w l e) ≡ kept l
change_kept w l (entries.Life generation mode) h = absurd cc
change_kept w l (entries.At t) h = if_kept (nat_le l.next_run t) (ask_scan (scheduled w l t)) (woken w l t) l (ask_kept (scheduled w l t)) refl
change_kept w l entries.End h = refl
change_kept w l (entries.Arrive id sender to content) h = refl
change_kept w l (entries.Back id) h = refl
change_kept w l (entries.Admit id) h = ap (λ (past : List Entry). (past, l.book.generation)) (ap (λ (k : List Entry × ℕ). k.0) (pick_kept l))
change_kept w l (entries.Load id from to) h = option_kept l (λ m. loaded w l id to (load_rows w m from to)) (λ m. let r = records_is w (load_rows w m from to) l in ap kept r.1) (message_of l.book id)
change_kept w l (entries.Start number id site positions) h = refl
change_kept w l (entries.Preempt child parent transport need) h = refl
change_kept w l (entries.Reply number state os) h = option_kept l (λ f. replied w l state os f) (λ f. outcomes_kept w f.row.id f.row.positions os (landed w l state f)) (flight_of l number)
change_kept w l (entries.Skip id site positions) h = outcomes_kept w id positions (replicate (length positions) (outcomes.Later 0)) (unqueued l id site positions)
change_kept w l (entries.Log id failure) h = refl
change_kept w l (entries.Mark id position) h = refl
change_kept w l (entries.Sync id) h = refl
change_kept w l (entries.Defer id due) h = refl
change_kept w l (entries.Bounce id) h = option_kept l (λ m. record l { book = add_message l.book (bounce_message l.now m) }) (λ m. refl) (message_of l.book id)
change_kept w l (entries.Remove id) h = refl
change_kept w l (entries.Corrupt id) h = ap (λ (past : List Entry). (past, l.book.generation)) (ap (λ (k : List Entry × ℕ). k.0) (if_kept (is_next_leftover l id) l (after_pick l) l refl (pick_kept l)))
change_kept w l (entries.Trigger kind) h = trigger_kept w l kind

pub after_past : (w : World) (l : Ledger) (e : Entry) → is_life e ≡ false → (after w l e).past ≡ e ∷ l.past
after_past w l e h = (after_is w l e).past ∙ ap (λ (k : List Entry × ℕ). e ∷ k.0) (change_kept w l e h)

pub after_generation : (w : World) (l : Ledger) (e : Entry) → is_life e ≡ false → (after w l e).book.generation ≡ l.book.generation
after_generation w l e h = ap (λ (b : Book). b.generation) (after_is w l e).book ∙ ap (λ (k : List Entry × ℕ). k.1) (change_kept w l e h)

one_more : (test : Entry → Bool) (e : Entry) (es : List Entry) (b : Bool) → test e ≡ b → count_by test (e ∷ es) ≡ (if b then count_by test es + 1 else count_by test es)
one_more test e es true h = sum_by-cons (λ x. if test x then 1 else 0) e es ∙ ap (λ (t : Bool). (if t then 1 else 0) + count_by test es) h ∙ omega arith
one_more test e es false h = sum_by-cons (λ x. if test x then 1 else 0) e es ∙ ap (λ (t : Bool). (if t then 1 else 0) + count_by test es) h ∙ zero-add (count_by test es)

-- an entry that is no arrival and no preemption counts nothing
pub counts_stay : (w : World) (l : Ledger) (e : Entry) (engine : Engine) → is_life e ≡ false → is_arrive e ≡ false → is_preempt e ≡ false → HasCounts engine l → HasCounts engine (after w l e)
counts_stay w l e engine life arrive preempt h = record {
  begun = h.begun;
  generation = h.generation ∙ sym (after_generation w l e life);
  arrivals = h.arrivals ∙ sym (ap (count_by is_arrive) (after_past w l e life) ∙ one_more is_arrive e l.past false arrive);
  preempts = h.preempts ∙ sym (ap (λ (es : List Entry). min (count_by is_preempt es) (2 ^ 64 - 1)) (after_past w l e life) ∙ ap (λ n. min n (2 ^ 64 - 1)) (one_more is_preempt e l.past false preempt));
}

abbrev most : ℕ
most = 2 ^ 64 - 1

next_least : (n m : ℕ) → n ≡ min m most → min (n + 1) most ≡ min (m + 1) most
next_least n m h = omega (arith, h)

-- a preemption is counted
pub counts_preempt : (w : World) (l : Ledger) (e : Entry) (engine : Engine) (more : ℕ) → is_life e ≡ false → is_arrive e ≡ false → is_preempt e ≡ true → more ≡ min (engine.preempts + 1) most → HasCounts engine l → HasCounts (record engine { preempts = more }) (after w l e)
counts_preempt w l e engine more life arrive preempt is h = record {
  begun = h.begun;
  generation = h.generation ∙ sym (after_generation w l e life);
  arrivals = h.arrivals ∙ sym (ap (count_by is_arrive) (after_past w l e life) ∙ one_more is_arrive e l.past false arrive);
  preempts = is ∙ next_least engine.preempts (preempts l) h.preempts ∙ sym (ap (λ (es : List Entry). min (count_by is_preempt es) most) (after_past w l e life) ∙ ap (λ n. min n most) (one_more is_preempt e l.past true preempt));
}

-- the core isn't counted
pub counts_core : (engine : Engine) (c : Core) (l : Ledger) → HasCounts engine l → HasCounts (with_core c engine) l
counts_core engine c l h = record { begun = h.begun; generation = h.generation; arrivals = h.arrivals; preempts = h.preempts }

-- an arrival is counted
pub counts_arrival : (w : World) (l : Ledger) (e : Entry) (engine : Engine) (c : Core) (more : ℕ) → is_life e ≡ false → is_arrive e ≡ true → is_preempt e ≡ false → more ≡ engine.arrivals + 1 → HasCounts engine l → HasCounts (record (with_core c engine) { arrivals = more }) (after w l e)
counts_arrival w l e engine c more life arrive preempt is h = record {
  begun = h.begun;
  generation = h.generation ∙ sym (after_generation w l e life);
  arrivals = is ∙ ap (λ (n : ℕ). n + 1) h.arrivals ∙ sym (ap (count_by is_arrive) (after_past w l e life) ∙ one_more is_arrive e l.past true arrive);
  preempts = h.preempts ∙ sym (ap (λ (es : List Entry). min (count_by is_preempt es) most) (after_past w l e life) ∙ ap (λ n. min n most) (one_more is_preempt e l.past false preempt));
}
