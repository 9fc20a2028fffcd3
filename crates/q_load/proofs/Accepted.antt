-- No event that is due is refused.
use Rattle.std.proofs.Common.{◌<◌, ◌-◌, ◌^◌, ◌≡◌, ◌≤◌, ◌∙◌, arith, false, length, List, None, Option, refl, Some, subst, sym, true, ℕ}
use Rattle.std.proofs.lemmas.Bool.Decides.{nat_tests}
use Rattle.std.specs.Prelude.{◌==◌, count_by, nat_lt}
use Rattle.q_engine.specs.Refusals.{refused_event, refused_kind, refused_mail, refused_reply}
use Rattle.q_engine.specs.declared.error.EngineError.TheVariants as errors
use Rattle.q_load.proofs.Bounds.{due_is, IsDue}
use Rattle.q_load.specs.Due.{due, is_mail}
use Rattle.q_load.specs.Taken.{HasTaken}
use Rattle.q_model.specs.Ledger.{Ledger}
use Rattle.q_model.specs.Past.{arrivals}
use Rattle.q_model.specs.declared.event.Event.{Event}
use Rattle.q_model.specs.declared.event.Event.TheVariants as events
use Rattle.q_model.specs.declared.outcome.Outcome.{Outcome}
use Rattle.q_model.specs.declared.rows.Delivery.{Delivery}
use Rattle.q_model.specs.Values.{Receiver}

-- a mail within the limits has a serial
mail_passes : (n : ℕ) (to : List Receiver) (content : List ℕ) → length content ≤ 10240000 → length to ≤ 50000 → n < 2 ^ 32 - 1 → refused_mail n to content ≡ None
mail_passes n to content short few serial =
    let a : nat_lt 10240000 (length content) ≡ false = grind (arith, nat_tests) in
    let b : nat_lt 50000 (length to) ≡ false = grind (arith, nat_tests) in
    let c : nat_lt n (2 ^ 32 - 1) ≡ true = grind (arith, nat_tests) in
    rw (a, b, c) refl

-- as many outcomes came as the delivery has recipients
reply_passes : (number : ℕ) (os : List Outcome) (f : Delivery) → length os ≡ length f.row.positions → refused_reply number os (Some f) ≡ None
reply_passes number os f same =
    let e : (length os == length f.row.positions) ≡ true = grind (arith, nat_tests) in
    rw e refl

kind_passes : (mails : ℕ) (heard : List Event) (l : Ledger) (e : Event) → mails < 2 ^ 32 → arrivals l ≡ count_by is_mail heard → IsDue mails heard l e → refused_kind l e ≡ None
kind_passes mails heard l (events.At t) fits came is = refl
kind_passes mails heard l (events.Mail sender to content) fits came is =
    let less = is.0 in
    let serial : arrivals l < 2 ^ 32 - 1 = omega (arith, fits, came, less) in
    mail_passes (arrivals l) to content is.1 is.2 serial
kind_passes mails heard l (events.Reply number site os) fits came is =
    subst (λ (o : Option Delivery). refused_reply number os o ≡ None) (sym is.1) (reply_passes number os is.0 is.2)
kind_passes mails heard l (events.Trigger kind) fits came is = absurd is

-- behind a moment no event comes too early
on_time : (l : Ledger) (e : Event) → l.timed ≡ true → refused_event l e ≡ refused_kind l e
on_time l (events.At t) timed = refl
on_time l (events.Mail sender to content) timed = rw timed refl
on_time l (events.Reply number site os) timed = rw timed refl
on_time l (events.Trigger kind) timed = rw timed refl

pub due_accepted : (mails : ℕ) (heard : List Event) (l : Ledger) (e : Event) → mails < 2 ^ 32 → due mails heard l ≡ Some e → HasTaken (count_by is_mail heard) l → refused_event l e ≡ None
due_accepted mails heard l e fits is taken = on_time l e taken.timed ∙ kind_passes mails heard l e fits taken.arrived (due_is mails heard l e is)
