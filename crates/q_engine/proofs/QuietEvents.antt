-- Moments, triggers and replies change no book.
use Rattle.std.proofs.Common.{◌≡◌, ◌++◌, ℕ, Bool, false, true, List, Option, Some, None, refl}
use Rattle.std.specs.Option.{option_map_or}
use Rattle.std.specs.Prelude.{if◌then◌else◌, length, nat_le, replicate}
use Rattle.q_model.specs.Book.{message_of}
use Rattle.q_model.specs.Clock.{scheduled, woken}
use Rattle.q_model.specs.Deliveries.{flight_of}
use Rattle.q_model.specs.Ledger.{Ledger}
use Rattle.q_model.specs.Replies.{landed, replied}
use Rattle.q_model.specs.Scans.{ask_scan, joined_request, new_scan}
use Rattle.q_model.specs.Settings.{World}
use Rattle.q_model.specs.Settling.{needs_of, with_outcomes}
use Rattle.q_model.specs.Skips.{unqueued}
use Rattle.q_model.specs.Step.{change}
use Rattle.q_model.specs.Values.{Site}
use Rattle.q_model.specs.declared.outcome.Outcome.TheVariants as outcomes
use Rattle.q_model.specs.declared.entry.Entry.TheVariants as entries
use Rattle.q_model.specs.declared.event.Trigger.{Trigger}
use Rattle.q_model.specs.declared.event.Trigger.TheVariants as triggers
use Rattle.q_model.specs.declared.id.Id.{Id}
use Rattle.q_model.specs.declared.outcome.Outcome.{Outcome}
use Rattle.q_model.specs.declared.outcome.SiteState.{SiteState}
use Rattle.q_model.specs.declared.rows.Request.{Request}
use Rattle.q_model.specs.declared.rows.Request.TheVariants as requests
use Rattle.q_model.specs.declared.rows.Scan.{Scan}

option_book : {A : Type 0} (l : Ledger) (f : A → Ledger) → ((x : A) → l.book ≡ (f x).book) → (o : Option A) → l.book ≡ (option_map_or f o l).book
option_book l f h None = refl
option_book l f h (Some x) = h x

asked_book : (l : Ledger) (request : Request) (o : Option Scan) →
    l.book ≡ (option_map_or (λ s. record l { asked = Some (joined_request l.asked request); ignores = false }) o (record l { scan = Some (new_scan l.now request); ignores = false })).book
asked_book l request None = refl
asked_book l request (Some s) = refl

ask_book : (l : Ledger) → l.book ≡ (ask_scan l).book
ask_book l = asked_book l (if l.ignores then requests.All else requests.Due) l.scan

if_book : (b : Bool) (x y l : Ledger) → l.book ≡ x.book → l.book ≡ y.book → l.book ≡ (if b then x else y).book
if_book true x y l h k = h
if_book false x y l h k = k

pub moment_book : (w : World) (l : Ledger) (t : ℕ) → l.book ≡ (change w l (entries.At t)).book
moment_book w l t = if_book (nat_le l.next_run t) (ask_scan (scheduled w l t)) (woken w l t) l (ask_book (scheduled w l t)) refl

pub trigger_book : (w : World) (l : Ledger) (kind : Trigger) → l.book ≡ (change w l (entries.Trigger kind)).book
trigger_book w l triggers.D = ask_book l
trigger_book w l triggers.A = refl
trigger_book w l triggers.F = refl

pub outcomes_book : (w : World) (id : Id) (positions : List ℕ) (os : List Outcome) (l : Ledger) → l.book ≡ (with_outcomes w id positions os l).book
outcomes_book w id positions os l = option_book l (λ m. record l { unsettled = l.unsettled ++ needs_of w l.now m positions os }) (λ m. refl) (message_of l.book id)

pub reply_book : (w : World) (l : Ledger) (number : ℕ) (state : SiteState) (os : List Outcome) → l.book ≡ (change w l (entries.Reply number state os)).book
reply_book w l number state os = option_book l (λ f. replied w l state os f) (λ f. outcomes_book w f.row.id f.row.positions os (landed w l state f)) (flight_of l number)

pub skip_book : (w : World) (l : Ledger) (id : Id) (site : Site) (positions : List ℕ) → l.book ≡ (change w l (entries.Skip id site positions)).book
skip_book w l id site positions = outcomes_book w id positions (replicate (length positions) (outcomes.Later 0)) (unqueued l id site positions)
