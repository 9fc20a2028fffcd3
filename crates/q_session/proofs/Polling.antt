-- A poll goes on from step to step.
use Rattle.std.proofs.Common.{◌≡◌, ℕ, ◌+◌, ◌≤◌, Bool, List, ◌++◌, length, map, take, IsTrue, Some, Ok, Result, refl, sym, ap, ◌∙◌, arith, subst, inl, inr, ◌⊎◌}
use Rattle.q_link.specs.Views.{Told, View}
use Rattle.q_model.specs.declared.outcome.SiteState.{SiteState}
use Rattle.q_model.specs.declared.outcome.SiteState.TheVariants.{Down, Up}
use Rattle.q_smtp.proofs.SettledLists.{settled_says}
use Rattle.q_smtp.specs.Codes.{outcome_by}
use Rattle.q_smtp.specs.Dialogue.{Settled, quit_line}
use Rattle.q_smtp.specs.Replies.{reply_codes}
use Rattle.q_smtp.specs.WholeDialogues.{Says}
use Rattle.q_session.proofs.Hearings.{becomes_before, ends_before, sent_front}
use Rattle.q_session.proofs.Sendings.{tells_more}
use Rattle.q_session.proofs.Traffic.{no_answer, tells_nothing}
use Rattle.q_session.specs.Deliveries.{IsSound, Serves}
use Rattle.q_session.specs.Mails.{Mail, exchange_of, transaction_of}
use Rattle.q_session.specs.Polls.{IsOver, Keeps, SendsOnce, TakesLeave}
use Rattle.q_session.specs.Steps.{Awaits, BeginsWith, IsLost, IsSame, Steps, waits_of}
use Rattle.q_session.specs.Traffic.{Answers, GoesOn, Tells}
use Rattle.q_session.specs.declared.delivery.Delivery.{Delivery}
use Rattle.q_session.specs.declared.polled.Polled.{Polled}
use Rattle.q_session.specs.declared.polled.Polled.TheVariants.{Over}
use Rattle.q_session.specs.declared.steps.Step.{Step}
use Rattle.q_session.specs.declared.steps.Step.TheVariants.{Lost, Onward, Settles, Waits}

-- What a poll has come to: the delivery is the old one, further on, and follows its link as it did.
pub record Along (tells : Bool) (given : Mail → Type 0) (old : Delivery) (before : View) (d : Delivery) (v : View) : Type 0 where
  pub sound : IsSound d
  pub same : IsSame old d
  pub link : GoesOn before v
  pub answers : Tells (Answers 0) before v
  pub serves : (mail : Mail) → given mail → Serves tells mail old before → Serves tells mail d v

pub along_none : (tells : Bool) (given : Mail → Type 0) (d : Delivery) (v : View) → IsSound d → Along tells given d v d v
along_none tells given d v sound = record {
  sound = sound;
  same = record { others = refl; spot = refl };
  link = record { faults = omega arith; ended = refl };
  answers = tells_nothing (Answers 0) v no_answer;
  serves = λ mail is serves. serves;
}

-- the same delivery as the same one before
pub same_on : (old d new : Delivery) → IsSame old d → IsSame d new → IsSame old new
same_on old d new a b = record {
  others = b.others ∙ ap (λ (x : Delivery). record x { dialogue = new.dialogue; inbox = new.inbox; outbox = new.outbox; content = new.content }) a.others;
  spot = b.spot ∙ a.spot;
}

-- all that was so far, and a step more
pub steps_along : {tells : Bool} {given here : Mail → Type 0} {old d : Delivery} {before v : View} (new : Delivery) (w : View) (s : Step) → Along tells given old before d v
    → ((mail : Mail) → given mail → here mail) → Steps tells here d new v w s → Steps tells given old new before w s
steps_along {tells = tells} {before = before} {v = v} new w s a still step = record {
  faults = omega (arith, a.link.faults, step.faults);
  ended = ends_before before v w s a.link.ended step.ended;
  answers = tells_more (waits_of s) before v w a.answers step.answers;
  becomes = λ mail is serves t told. becomes_before tells mail new before v w t s a.link.faults (step.becomes mail (still mail is) (a.serves mail is serves) t told);
}

-- another step may follow
pub along_step : {tells : Bool} {given here : Mail → Type 0} {old d : Delivery} {before v : View} (new : Delivery) (w : View) → Along tells given old before d v
    → ((mail : Mail) → given mail → here mail) → IsSound new → IsSame d new → Steps tells here d new v w Onward → Along tells given old before new w
along_step {old = old} {d = d} new w a still sound same step =
    let s = steps_along new w Onward a still step in
    record {
      sound = sound;
      same = same_on old d new a.same same;
      link = record { faults = s.faults; ended = s.ended };
      answers = s.answers;
      serves = λ mail is serves t told. s.becomes mail is serves t told;
    }

-- ---- the poll ends

-- it is over with the site down
pub over_down : {tells : Bool} {given : Mail → Type 0} {old d : Delivery} {before v : View} (new : Delivery) (moment : ℕ) → Steps tells given old d before v Lost → Keeps d new → (mail : Mail) → given mail → Serves tells mail old before
    → (t : Told) → v.told ≡ Some t → IsOver tells Down moment mail new t before v
over_down {tells = tells} {d = d} {before = before} {v = v} new moment s keeps mail is serves t told =
    let b = s.becomes mail is serves t told in
    subst (λ (to : List (List ℕ)). ((new.opened + 600 ≤ moment) ⊎ IsLost tells (exchange_of mail to t.received) t.sent before v) × (IsTrue tells → BeginsWith (exchange_of mail to t.received).due t.sent))
    (sym keeps.to) (inr b.0, b.1)

-- the time is over
pub over_late : {tells : Bool} (d new : Delivery) (moment : ℕ) (v : View) → Keeps d new → d.opened + 600 ≤ moment → (mail : Mail) → Serves tells mail d v
    → (t : Told) → v.told ≡ Some t → IsOver tells Down moment mail new t v v
over_late {tells = tells} d new moment v keeps late mail serves t told = (
  inl (subst (λ (o : ℕ). o + 600 ≤ moment) (sym keeps.opened) late),
  subst (λ (to : List (List ℕ)). IsTrue tells → BeginsWith (exchange_of mail to t.received).due t.sent) (sym keeps.to) (sent_front (serves t told)),
)

-- it is over with the site up
pub over_up : {tells : Bool} {given : Mail → Type 0} {old d : Delivery} {before v : View} (new : Delivery) (w : View) (last moment : ℕ) → Steps tells given old d before v (Settles last) → Keeps d new
    → new.outcomes ≡ map (outcome_by last) d.dialogue.answers.items → Tells (SendsOnce quit_line) v w → (mail : Mail) → given mail → Serves tells mail old before
    → (t : Told) → w.told ≡ Some t → IsOver tells Up moment mail new t before w
over_up {tells = tells} {d = d} new w last moment s keeps outcomes quits mail is serves t told =
    let q = quits t told in
    let b = s.becomes mail is serves q.0 q.1 in
    let settled : (exchange_of mail d.to t.received).ending ≡ Settled new.outcomes =
    ap (λ (xs : List ℕ). (exchange_of mail d.to xs).ending) q.2.received ∙ b.0 ∙ ap Settled (sym outcomes) in
    let leave : IsTrue tells → TakesLeave (exchange_of mail d.to t.received) t = λ tells. (
      q.2.sent.0,
      q.2.sent.1 ∙ ap (λ (xs : List ℕ). xs ++ take q.2.sent.0 quit_line) (b.1 tells ∙ ap (λ (xs : List ℕ). (exchange_of mail d.to xs).due) (sym q.2.received)),
    ) in
    subst (λ (to : List (List ℕ)). Says (length to) (reply_codes t.received) new.outcomes × (IsTrue tells → TakesLeave (exchange_of mail to t.received) t))
    (sym keeps.to) (settled_says (transaction_of mail d.to) (reply_codes t.received) new.outcomes settled, leave)

-- the site of an answer
pub same_site : {E : Type 0} (r : Polled) (s site : SiteState) → r ≡ Over s → ◌≡◌ {A = Result Polled E} (Ok r) (Ok (Over site)) → s ≡ site
same_site r s site a b = cc

-- a link isn't ready
pub awaits_along : {tells : Bool} {given : Mail → Type 0} {old d : Delivery} {before v : View} → IsSame old d → Steps tells given old d before v Waits → (mail : Mail) → given mail → Serves tells mail old before
    → (t : Told) → v.told ≡ Some t → Awaits tells (exchange_of mail old.to t.received) t v
awaits_along {tells = tells} {v = v} same s mail is serves t told =
    subst (λ (to : List (List ℕ)). Awaits tells (exchange_of mail to t.received) t v) (ap (λ (x : Delivery). x.to) same.others) (s.becomes mail is serves t told).1
