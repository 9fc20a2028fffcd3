-- The turn of a moment names that moment alone, and that of a mail its message alone.
use Rattle.std.proofs.Common.{◌≡◌, ◌≤◌, ℕ, List, [], ◌∷◌, ◌++◌, Option, refl, ap, ◌∙◌, arith}
use Rattle.std.specs.Prelude.{flat_map}
use Rattle.q_drain.proofs.Naming.{at_turn}
use Rattle.q_drain.proofs.Silent.{AreInside, IsInside, decisions_inside, no_moments}
use Rattle.q_drain.specs.Told.{moments_of}
use Rattle.q_listen.specs.Told.{event_of, events_of, mail_of, mails_told}
use Rattle.q_model.specs.Arrivals.{next_id}
use Rattle.q_model.specs.Ledger.{Ledger}
use Rattle.q_model.specs.Run.{decisions, turn}
use Rattle.q_model.specs.Settings.{World}
use Rattle.q_model.specs.Step.{after}
use Rattle.q_model.specs.Values.{Receiver}
use Rattle.q_model.specs.declared.entry.Entry.{Entry}
use Rattle.q_model.specs.declared.entry.Entry.TheVariants as entries
use Rattle.q_model.specs.declared.event.Event.{Event}
use Rattle.q_model.specs.declared.event.Event.TheVariants as events
use Rattle.q_model.specs.declared.event.LifeEvent.TheVariants.{Heard}
use Rattle.q_smtpd.specs.Places.{Mail}

-- an entry that comes from inside names neither
pub record IsSilent (e : Entry) : Type 0 where
  pub event : event_of e ≡ []
  pub mail : mail_of e ≡ []

silent : (e : Entry) → IsInside e → IsSilent e
silent (entries.Life generation mode) h = record { event = refl; mail = refl }
silent (entries.At t) h = let o = h.outside in cc
silent (entries.Arrive id sender to content) h = let o = h.outside in cc
silent (entries.Reply number site outcomes) h = record { event = refl; mail = refl }
silent (entries.Trigger kind) h = record { event = refl; mail = refl }
silent entries.End h = record { event = refl; mail = refl }
silent (entries.Back id) h = record { event = refl; mail = refl }
silent (entries.Admit id) h = record { event = refl; mail = refl }
silent (entries.Load id from to) h = record { event = refl; mail = refl }
silent (entries.Start number id site positions) h = record { event = refl; mail = refl }
silent (entries.Preempt child parent transport need) h = record { event = refl; mail = refl }
silent (entries.Skip id site positions) h = record { event = refl; mail = refl }
silent (entries.Log id failure) h = record { event = refl; mail = refl }
silent (entries.Mark id position) h = record { event = refl; mail = refl }
silent (entries.Sync id) h = record { event = refl; mail = refl }
silent (entries.Defer id due) h = record { event = refl; mail = refl }
silent (entries.Bounce id) h = record { event = refl; mail = refl }
silent (entries.Remove id) h = record { event = refl; mail = refl }
silent (entries.Corrupt id) h = record { event = refl; mail = refl }

none_of : {A : Type 0} (f : Entry → List A) → ((e : Entry) → IsInside e → f e ≡ []) → (es : List Entry) → AreInside es → flat_map f es ≡ []
none_of f h [] k = refl
none_of f h (e ∷ es) k = ap (λ xs. xs ++ flat_map f es) (h e k.0) ∙ none_of f h es k.1

pub no_events : (w : World) (l : Ledger) → events_of (decisions w l) ≡ []
no_events w l = none_of event_of (λ e k. (silent e k).event) (decisions w l) (decisions_inside w l)

pub no_mails : (w : World) (l : Ledger) → mails_told (decisions w l) ≡ []
no_mails w l = none_of mail_of (λ e k. (silent e k).mail) (decisions w l) (decisions_inside w l)

-- what a turn names
pub record Names (event : Event) (moments : List ℕ) (mails : List Mail) (es : List Entry) : Type 0 where
  pub events_are : events_of es ≡ event ∷ []
  pub moments_are : moments_of es ≡ moments
  pub mails_are : mails_told es ≡ mails

at_behind : (w : World) (l : Ledger) (t : ℕ) → Names (events.At t) (t ∷ []) [] (entries.At t ∷ decisions w l)
at_behind w l t = record {
  events_are = ap (λ (es : List Event). events.At t ∷ es) (no_events w l);
  moments_are = ap (λ (ts : List ℕ). t ∷ ts) (no_moments (decisions w l) (decisions_inside w l));
  mails_are = no_mails w l;
}

-- a moment no earlier than the ledger's
pub at_names : (w : World) (l : Ledger) (t : ℕ) → l.now ≤ t → Names (events.At t) (t ∷ []) [] (turn w l (Heard (events.At t)))
at_names w l t h = rw (at_turn w l t (omega (arith, h))) (at_behind w (after w l (entries.At t)) t)

pub mail_turn : (w : World) (l : Ledger) (sender : Option (List ℕ)) (to : List Receiver) (content : List ℕ)
    → turn w l (Heard (events.Mail sender to content)) ≡ entries.Arrive (next_id l) sender to content ∷ decisions w (after w l (entries.Arrive (next_id l) sender to content))
unfolding turn
mail_turn w l sender to content = refl

-- a message
pub mail_names : (w : World) (l : Ledger) (m : Mail) → Names (events.Mail m.sender m.to m.content) [] (m ∷ []) (turn w l (Heard (events.Mail m.sender m.to m.content)))
mail_names w l m =
    let behind = after w l (entries.Arrive (next_id l) m.sender m.to m.content) in
    rw (mail_turn w l m.sender m.to m.content) (record {
      events_are = ap (λ (es : List Event). events.Mail m.sender m.to m.content ∷ es) (no_events w behind);
      moments_are = no_moments (decisions w behind) (decisions_inside w behind);
      mails_are = ap (λ (ms : List Mail). m ∷ ms) (no_mails w behind);
    })
