-- A delivery that sends what is due follows its link.
use Rattle.std.proofs.Common.{◌≡◌, ◌≢◌, ℕ, Bool, true, false, if◌then◌else◌, List, [], ◌++◌, drop, IsTrue, Result, Ok, refl, sym, ap, ◌∙◌, arith, subst, append_assoc, inl, inr}
use Rattle.q_link.specs.Reads.{Rose}
use Rattle.q_link.specs.Views.{Told, View}
use Rattle.q_smtp.specs.ContentLines.{sent_content}
use Rattle.q_session.proofs.Traffic.{goes_nowhere, goes_then, no_answer, tells_nothing, tells_then}
use Rattle.q_session.specs.Course.{IsReady}
use Rattle.q_session.specs.Deliveries.{Follows, IsSound, Serves}
use Rattle.q_session.specs.Mails.{Mail}
use Rattle.q_session.specs.Outgoing.{Outgoing, pending}
use Rattle.q_session.specs.Sending.{Fills, IsPlaced, to_send, unsent}
use Rattle.q_session.specs.Steps.{Comes, IsSendingSame, SendsDue}
use Rattle.q_session.specs.Traffic.{Answers, Gave, GoesOn, Sends, Tells, waits_of_sent}
use Rattle.q_session.specs.declared.content.Content.{Content}
use Rattle.q_session.specs.declared.delivery.Delivery.{Delivery}
use Rattle.q_session.specs.declared.dialogue.Awaited.{Awaited}
use Rattle.q_session.specs.declared.dialogue.Awaited.TheVariants.{Verdict}
use Rattle.q_session.specs.declared.outbox.Sent.{Sent}
use Rattle.q_session.specs.declared.outbox.Sent.TheVariants as sent

-- what sending has come to: all that was sent so far is of what is due
pub record Sending (tells : Bool) (given : Mail → Type 0) (old : Delivery) (before : View) (d : Delivery) (v : View) : Type 0 where
  pub sound : IsSound d
  pub same : IsSendingSame old d
  pub link : GoesOn before v
  pub answers : Tells (Answers 0) before v
  pub serves : (mail : Mail) → given mail → Serves tells mail old before → Serves tells mail d v

answers_more : (k : ℕ) (a b c : Told) → Answers 0 a b → Answers k b c → Answers k a c
answers_more k a b c first second = record {
  hop = second.hop ∙ first.hop;
  rests_before = second.rests_before ∙ first.rests_before;
  not_yets = omega (arith, first.not_yets, second.not_yets);
}

pub tells_more : (k : ℕ) (u v w : View) → Tells (Answers 0) u v → Tells (Answers k) v w → Tells (Answers k) u w
tells_more k u v w a b = tells_then (Answers 0) (Answers k) (Answers k) u v w (answers_more k) a b

pub sending_none : (tells : Bool) (given : Mail → Type 0) (d : Delivery) (v : View) → IsSound d → Sending tells given d v d v
sending_none tells given d v sound = record {
  sound = sound;
  same = record { others = refl; spot = refl };
  link = goes_nowhere v;
  answers = tells_nothing (Answers 0) v no_answer;
  serves = λ mail is serves. serves;
}

-- ---- the outbox is flushed

regroup : (a b c u : List ℕ) → (a ++ b) ++ (c ++ u) ≡ a ++ ((b ++ c) ++ u)
regroup a b c u = append_assoc a b (c ++ u) ∙ ap (λ (xs : List ℕ). a ++ xs) (sym (append_assoc b c u))

follows_flushed : {tells : Bool} {mail : Mail} {d : Delivery} {k : ℕ} (o : Outgoing) (before after : Told) → Follows tells mail d before
    → Gave (pending d.outbox) (pending o) k before after → Follows tells mail (record d { outbox = o }) after
follows_flushed {mail = mail} {d = d} o before after f g = record {
  seen = f.seen;
  part = f.part;
  due = f.due;
  received = g.received ∙ f.received;
  holds = f.holds;
  exchange = f.exchange;
  sent = λ tells.
      let rest : List ℕ = unsent mail.content d.content in
      ap (λ (xs : List ℕ). xs ++ (pending o ++ rest)) g.sent ∙ regroup before.sent g.front (pending o) rest
      ∙ ap (λ (xs : List ℕ). before.sent ++ (xs ++ rest)) (sym g.whole_is) ∙ f.sent tells;
  is_for = λ tells. let i = f.is_for tells in record { sender = i.sender; placed = i.placed; ready = i.ready };
}

serves_flushed : {tells : Bool} {mail : Mail} {d : Delivery} {k : ℕ} (v w : View) (o : Outgoing) → Tells (Gave (pending d.outbox) (pending o) k) v w
    → Serves tells mail d v → Serves tells mail (record d { outbox = o }) w
serves_flushed v w o gave serves = λ t told. let g = gave t told in follows_flushed o g.0 t (serves g.0 g.1) g.2

gave_answers : {whole left : List ℕ} {k : ℕ} (v w : View) → Tells (Gave whole left k) v w → Tells (Answers k) v w
gave_answers v w gave = λ t told. let g = gave t told in (g.0, g.1, g.2.answers)

sound_flushed : (d : Delivery) (o : Outgoing) → IsSound d → IsSound (record d { outbox = o })
sound_flushed d o s = record {
  course = s.course;
  recipients = s.recipients;
  codes = s.codes;
  capacity = s.capacity;
  few = s.few;
  room = s.room;
  empty = s.empty;
  busy = s.busy;
}

same_flushed : (old d : Delivery) (o : Outgoing) → IsSendingSame old d → IsSendingSame old (record d { outbox = o })
same_flushed old d o s = record { others = ap (λ (x : Delivery). record x { outbox = o; content = d.content }) s.others; spot = s.spot }

sends_link : (s : Sent) (left : List ℕ) (v w : View) → Sends s left v w → GoesOn v w
sends_link sent.All left v w h = h.0
sends_link sent.NotYet left v w h = h.0
sends_link sent.Lost left v w h = h.0

-- nothing is left in the outbox
pub sending_flushed : {tells : Bool} {given : Mail → Type 0} {old d : Delivery} {before v : View} (o : Outgoing) (w : View) → Sending tells given old before d v
    → Sends sent.All (pending o) v w → Tells (Gave (pending d.outbox) (pending o) 0) v w → Sending tells given old before (record d { outbox = o }) w
sending_flushed {old = old} {d = d} {before = before} {v = v} o w s sends gave = record {
  sound = sound_flushed d o s.sound;
  same = same_flushed old d o s.same;
  link = goes_then before v w s.link sends.0;
  answers = tells_more 0 before v w s.answers (gave_answers v w gave);
  serves = λ mail is serves. serves_flushed v w o gave (s.serves mail is serves);
}

-- the outbox was flushed as far as the link takes it, and nothing more is done
pub sends_due : {tells : Bool} {given : Mail → Type 0} {old d : Delivery} {before v : View} (o : Outgoing) (w : View) (is : Sent) → Sending tells given old before d v
    → Sends is (pending o) v w → Tells (Gave (pending d.outbox) (pending o) (waits_of_sent is)) v w → (is ≡ sent.All → d.content.idle ≡ true)
    → SendsDue tells given old (record d { outbox = o }) before w is
sends_due {tells = tells} {given = given} {old = old} {d = d} {before = before} {v = v} o w is s sends gave idle = record {
  comes = by is sends idle;
  answers = tells_more (waits_of_sent is) before v w s.answers (gave_answers v w gave);
  serves = λ mail given_it serves. serves_flushed v w o gave (s.serves mail given_it serves);
  lost = λ lost mail given_it serves t told. inl (rose is sends lost, some is sends lost);
}
  where
    by : (is : Sent) → Sends is (pending o) v w → (is ≡ sent.All → d.content.idle ≡ true) → Comes tells (record d { outbox = o }) before w is
    by sent.All h idle = record { outbox = h.1; content = idle refl }
    by sent.NotYet h idle = (h.1, h.2)
    by sent.Lost h idle = tt

    rose : (is : Sent) → Sends is (pending o) v w → is ≡ sent.Lost → Rose before.faults w.faults
    rose sent.All h e = cc
    rose sent.NotYet h e = cc
    rose sent.Lost h e = further h.1
      where
        further : Rose v.faults w.faults → Rose before.faults w.faults
        further (inl more) = inl (omega (arith, s.link.faults, more))
        further (inr last) = inr last

    some : (is : Sent) → Sends is (pending o) v w → is ≡ sent.Lost → pending o ≢ []
    some sent.All h e = cc
    some sent.NotYet h e = h.2
    some sent.Lost h e = h.2

-- ---- the next piece of the content is put into the outbox

nothing_pending : (sent out rest due : List ℕ) → out ≡ [] → sent ++ (out ++ rest) ≡ due → sent ++ rest ≡ due
nothing_pending sent out rest due none e = ap (λ (xs : List ℕ). sent ++ (xs ++ rest)) (sym none) ∙ e

follows_filled : {tells : Bool} {mail : Mail} {d : Delivery} {t : Told} (o : Outgoing) (c : Content) → pending d.outbox ≡ [] → d.content.idle ≡ false → d.dialogue.awaited ≡ Verdict
    → (IsTrue tells → IsPlaced mail d.content → Fills mail d.content c o) → Follows tells mail d t → Follows tells mail (record d { outbox = o; content = c }) t
follows_filled {tells = tells} {mail = mail} {d = d} {t = t} o c none busy awaited fills f = record {
  seen = f.seen;
  part = f.part;
  due = f.due;
  received = f.received;
  holds = f.holds;
  exchange = f.exchange;
  sent = λ is.
      let filled = fills is (f.is_for is).placed in
      let left : unsent mail.content d.content ≡ to_send mail.content d.content = ap (λ (b : Bool). if b then [] else to_send mail.content d.content) busy in
      let out : pending o ≡ o.bytes = ap (λ (n : ℕ). drop n o.bytes) filled.gone in
      ap (λ (xs : List ℕ). t.sent ++ (xs ++ unsent mail.content c)) out ∙ ap (λ (xs : List ℕ). t.sent ++ xs) (filled.bytes ∙ sym left)
      ∙ nothing_pending t.sent (pending d.outbox) (unsent mail.content d.content) f.due none (f.sent is);
  is_for = λ is. record { sender = (f.is_for is).sender; placed = (fills is (f.is_for is).placed).placed; ready = ready (sent_content mail.content) (to_send mail.content c) };
}
  where
    ready : (whole left : List ℕ) → IsReady d.dialogue.awaited whole left
    ready whole left = subst (λ (a : Awaited). IsReady a whole left) (sym awaited) tt

-- the next piece is in the outbox
pub sending_filled : {tells : Bool} {given : Mail → Type 0} {old d : Delivery} {before v : View} (o : Outgoing) (c : Content) → Sending tells given old before d v
    → pending d.outbox ≡ [] → d.content.idle ≡ false → c.spot ≡ d.content.spot
    → (IsTrue tells → (mail : Mail) → given mail → IsPlaced mail d.content → Fills mail d.content c o)
    → Sending tells given old before (record d { outbox = o; content = c }) v
sending_filled {old = old} {d = d} o c s none busy spot fills = record {
  sound = record {
    course = s.sound.course;
    recipients = s.sound.recipients;
    codes = s.sound.codes;
    capacity = s.sound.capacity;
    few = s.sound.few;
    room = s.sound.room;
    empty = s.sound.empty;
    busy = λ _. s.sound.busy busy;
  };
  same = record { others = ap (λ (x : Delivery). record x { outbox = o; content = c }) s.same.others; spot = spot ∙ s.same.spot };
  link = s.link;
  answers = s.answers;
  serves = λ mail is serves t told. follows_filled o c none busy (s.sound.busy busy) (λ tells placed. fills tells mail is placed) (s.serves mail is serves t told);
}

-- nothing was put into the outbox
pub sending_kept : {tells : Bool} {given : Mail → Type 0} {old d : Delivery} {before v : View} (o : Outgoing) (c : Content) → Sending tells given old before d v
    → o ≡ d.outbox → c ≡ d.content → Sending tells given old before (record d { outbox = o; content = c }) v
sending_kept {tells = tells} {given = given} {old = old} {d = d} {before = before} {v = v} o c s same_o same_c =
    subst (λ (x : Delivery). Sending tells given old before x v)
    (ap (λ (x : Outgoing). record d { outbox = x; content = d.content }) (sym same_o) ∙ ap (λ (x : Content). record d { outbox = o; content = x }) (sym same_c)) s

-- what was sent, and what the link does, where the outbox was flushed as far as the link takes it
pub flushed_sound : {tells : Bool} {given : Mail → Type 0} {old d : Delivery} {before v : View} (o : Outgoing) → Sending tells given old before d v → IsSound (record d { outbox = o })
flushed_sound {d = d} o s = sound_flushed d o s.sound

pub flushed_same : {tells : Bool} {given : Mail → Type 0} {old d : Delivery} {before v : View} (o : Outgoing) → Sending tells given old before d v → IsSendingSame old (record d { outbox = o })
flushed_same {old = old} {d = d} o s = same_flushed old d o s.same

pub flushed_link : {tells : Bool} {given : Mail → Type 0} {old d : Delivery} {before v : View} (is : Sent) (left : List ℕ) (w : View) → Sending tells given old before d v
    → Sends is left v w → GoesOn before w
flushed_link {before = before} {v = v} is left w s sends = goes_then before v w s.link (sends_link is left v w sends)

pub not_filled : {E : Type 0} (filled : Bool) → filled ≡ false → ◌≡◌ {A = Result Bool E} (Ok filled) (Ok true) → ⊥
not_filled filled is h = cc

-- the file is short, which comes on a host alone that doesn't tell its files
pub sends_short : {tells : Bool} {given : Mail → Type 0} {old d : Delivery} {before v : View} (o : Outgoing) (c : Content) → Sending tells given old before d v
    → o ≡ d.outbox → c ≡ d.content → (IsTrue tells → (mail : Mail) → given mail → IsPlaced mail d.content → ⊥)
    → SendsDue tells given old (record d { outbox = o; content = c }) before v sent.Lost
sends_short o c s same_o same_c short =
    let k = sending_kept o c s same_o same_c in
    record {
      comes = tt;
      answers = k.answers;
      serves = k.serves;
      lost = λ _ mail is serves t told. inr (λ tells. short tells mail is ((s.serves mail is serves t told).is_for tells).placed);
    }
