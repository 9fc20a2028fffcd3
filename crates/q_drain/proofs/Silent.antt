-- What decisions name: no event, no moment and no reply.
use Rattle.std.proofs.Common.{◌≡◌, ℕ, true, false, List, [], ◌∷◌, ◌++◌, refl, ◌∙◌, ap}
use Rattle.std.specs.List.{AllByRecursion}
use Rattle.std.specs.Prelude.{flat_map}
use Rattle.q_laws.proofs.Deciding.{AreDecisions, IsDecision, decisions_are}
use Rattle.q_drain.specs.Told.{ended, ended_of, event_of, events_of, moment_after, moment_behind, moment_of, moments_of}
use Rattle.q_laws.specs.Traces.{is_inner, is_outside}
use Rattle.q_model.specs.declared.entry.Entry.{Entry}
use Rattle.q_model.specs.declared.entry.Entry.TheVariants as entries
use Rattle.q_model.specs.Ledger.{Ledger}
use Rattle.q_model.specs.Past.{is_life}
use Rattle.q_model.specs.Run.{decisions}
use Rattle.q_model.specs.Settings.{World}
use Rattle.q_model.specs.Step.{after}

-- an entry that comes from inside
pub record IsInside (e : Entry) : Type 0 where
  pub outside : is_outside e ≡ false
  pub inner : is_inner e ≡ true
  pub life : is_life e ≡ false
  pub event : event_of e ≡ []
  pub moment : moment_of e ≡ []
  pub behind : (t : ℕ) → moment_behind t e ≡ t
  pub reply : ended_of e ≡ []

pub is_inside : (l : Ledger) (e : Entry) → IsDecision l e → IsInside e
is_inside l (entries.Life generation mode) h = cc
is_inside l (entries.At t) h = cc
is_inside l (entries.Arrive id sender to content) h = cc
is_inside l (entries.Reply number site outcomes) h = cc
is_inside l (entries.Trigger kind) h = cc
is_inside l entries.End h = cc
is_inside l (entries.Back id) h = record { outside = refl; inner = refl; life = refl; event = refl; moment = refl; behind = λ t. refl; reply = refl }
is_inside l (entries.Admit id) h = record { outside = refl; inner = refl; life = refl; event = refl; moment = refl; behind = λ t. refl; reply = refl }
is_inside l (entries.Load id from to) h = record { outside = refl; inner = refl; life = refl; event = refl; moment = refl; behind = λ t. refl; reply = refl }
is_inside l (entries.Start number id site positions) h = record { outside = refl; inner = refl; life = refl; event = refl; moment = refl; behind = λ t. refl; reply = refl }
is_inside l (entries.Preempt child parent transport need) h = record { outside = refl; inner = refl; life = refl; event = refl; moment = refl; behind = λ t. refl; reply = refl }
is_inside l (entries.Skip id site positions) h = record { outside = refl; inner = refl; life = refl; event = refl; moment = refl; behind = λ t. refl; reply = refl }
is_inside l (entries.Log id failure) h = record { outside = refl; inner = refl; life = refl; event = refl; moment = refl; behind = λ t. refl; reply = refl }
is_inside l (entries.Mark id position) h = record { outside = refl; inner = refl; life = refl; event = refl; moment = refl; behind = λ t. refl; reply = refl }
is_inside l (entries.Sync id) h = record { outside = refl; inner = refl; life = refl; event = refl; moment = refl; behind = λ t. refl; reply = refl }
is_inside l (entries.Defer id due) h = record { outside = refl; inner = refl; life = refl; event = refl; moment = refl; behind = λ t. refl; reply = refl }
is_inside l (entries.Bounce id) h = record { outside = refl; inner = refl; life = refl; event = refl; moment = refl; behind = λ t. refl; reply = refl }
is_inside l (entries.Remove id) h = record { outside = refl; inner = refl; life = refl; event = refl; moment = refl; behind = λ t. refl; reply = refl }
is_inside l (entries.Corrupt id) h = record { outside = refl; inner = refl; life = refl; event = refl; moment = refl; behind = λ t. refl; reply = refl }

abbrev pub AreInside : List Entry → Type 0
AreInside es = AllByRecursion IsInside es

pub are_inside : (w : World) (l : Ledger) (es : List Entry) → AreDecisions w l es → AreInside es
are_inside w l [] h = tt
are_inside w l (e ∷ es) h = (is_inside l e h.1, are_inside w (after w l e) es h.2)

pub decisions_inside : (w : World) (l : Ledger) → AreInside (decisions w l)
decisions_inside w l = are_inside w l (decisions w l) (decisions_are w l)

-- nothing comes of entries of which each gives nothing
none_of : {A : Type 0} (f : Entry → List A) → ((e : Entry) → IsInside e → f e ≡ []) → (es : List Entry) → AreInside es → flat_map f es ≡ []
none_of f h [] k = refl
none_of f h (e ∷ es) k = ap (λ xs. xs ++ flat_map f es) (h e k.0) ∙ none_of f h es k.1

pub no_events : (es : List Entry) → AreInside es → events_of es ≡ []
no_events es h = none_of event_of (λ e k. k.event) es h

pub no_moments : (es : List Entry) → AreInside es → moments_of es ≡ []
no_moments es h = none_of moment_of (λ e k. k.moment) es h

pub no_replies : (es : List Entry) → AreInside es → ended es ≡ []
no_replies es h = none_of ended_of (λ e k. k.reply) es h

pub same_moment : (t : ℕ) (es : List Entry) → AreInside es → moment_after t es ≡ t
same_moment t [] h = refl
same_moment t (e ∷ es) h = ap (λ (s : ℕ). moment_after s es) (h.0.behind t) ∙ same_moment t es h.1
