-- A delivery that waits for a reply follows its link.
use Rattle.std.proofs.Common.{◌≡◌, ◌≢◌, ℕ, ◌≤◌, Bool, true, false, if◌then◌else◌, List, [], ◌∷◌, ◌++◌, IsTrue, refl, sym, ap, ◌∙◌, arith, append_assoc, inl, inr, ◌⊎◌}
use Rattle.std.proofs.lemmas.List.{append-nil}
use Rattle.q_link.specs.Reads.{Rose}
use Rattle.q_link.specs.Views.{ForRead, ForWrite, NoWait, Told, View}
use Rattle.q_smtp.specs.Dialogue.{Broken, Exchange, Open, Transaction, after_content, after_data, after_ehlo, after_helo, after_mail, after_rcpt, dialogue, ends, says}
use Rattle.q_smtp.specs.Replies.{Part, codes_from, reply_codes}
use Rattle.q_session.proofs.Inboxes.{no_codes}
use Rattle.q_session.proofs.Sendings.{tells_more}
use Rattle.q_session.specs.Course.{rest_by, rest_of}
use Rattle.q_session.specs.Deliveries.{Follows, Hearing, IsAllSent}
use Rattle.q_session.specs.Mails.{Mail, exchange_of, transaction_of}
use Rattle.q_session.specs.Outgoing.{pending}
use Rattle.q_session.specs.Sending.{to_send, unsent}
use Rattle.q_session.specs.Steps.{Acts, Awaits, Becomes, BeginsWith, EndsBy, IsBeforeQuit, IsLost, IsSendingLost, IsShort, SendsDue, Steps, waits_of}
use Rattle.q_session.specs.Traffic.{Answers, GoesOn, Hears, Received, Receives, Tells}
use Rattle.q_session.specs.declared.delivery.Delivery.{Delivery}
use Rattle.q_session.specs.declared.dialogue.Awaited.{Awaited}
use Rattle.q_session.specs.declared.dialogue.Awaited.TheVariants.{Answer, Greeting, Verdict}
use Rattle.q_session.specs.declared.dialogue.Command.TheVariants.{Data, Ehlo, Helo, Mail as MailCommand, Rcpt}
use Rattle.q_session.specs.declared.inbox.Heard.{Heard}
use Rattle.q_session.specs.declared.inbox.Heard.TheVariants as heard
use Rattle.q_session.specs.declared.inbox.Inbox.{Inbox}
use Rattle.q_session.specs.declared.outbox.Sent.TheVariants as sent
use Rattle.q_session.specs.declared.steps.Step.{Step}
use Rattle.q_session.specs.declared.steps.Step.TheVariants.{Lost, Onward, Settles, Waits}

-- ---- what every state answers to no code, and to what is no reply

rest_none : (e : Transaction) (awaited : Awaited) (to : List ℕ) → rest_by e awaited to [] ≡ ends Open
unfolding dialogue after_ehlo after_helo after_mail after_rcpt after_data after_content
rest_none e Greeting to = refl
rest_none e (Answer Ehlo) to = refl
rest_none e (Answer Helo) to = refl
rest_none e (Answer MailCommand) to = refl
rest_none e (Answer (Rcpt place)) to = refl
rest_none e (Answer Data) to = refl
rest_none e Verdict to = refl

rest_broken : (e : Transaction) (awaited : Awaited) (to : List ℕ) → rest_by e awaited to (0 ∷ []) ≡ ends Broken
unfolding dialogue after_ehlo after_helo after_mail after_rcpt after_data after_content
rest_broken e Greeting to = refl
rest_broken e (Answer Ehlo) to = refl
rest_broken e (Answer Helo) to = refl
rest_broken e (Answer MailCommand) to = refl
rest_broken e (Answer (Rcpt place)) to = refl
rest_broken e (Answer Data) to = refl
rest_broken e Verdict to = refl

-- ---- all that is due was sent

-- what was sent is all that is due
sent_all : {tells : Bool} {mail : Mail} {d : Delivery} {t : Told} (f : Follows tells mail d t) → IsAllSent d → IsTrue tells → t.sent ≡ f.due
sent_all {mail = mail} {d = d} {t = t} f all is =
    sym (append-nil t.sent)
    ∙ ap (λ (xs : List ℕ). t.sent ++ xs) (sym (ap (λ (b : Bool). if b then [] else to_send mail.content d.content) all.content))
    ∙ ap (λ (xs : List ℕ). t.sent ++ (xs ++ unsent mail.content d.content)) (sym all.outbox) ∙ f.sent is

-- the bytes that came stand behind those that weren't used
came_behind : {tells : Bool} {mail : Mail} {d : Delivery} {before after : Told} {came : Heard} {inbox : Inbox} (f : Follows tells mail d before) (r : Received d.inbox came inbox before after)
    → after.received ≡ f.seen ++ (d.inbox.unused.items ++ r.bytes)
came_behind {d = d} f r = r.received ∙ ap (λ (xs : List ℕ). xs ++ r.bytes) f.received ∙ append_assoc f.seen d.inbox.unused.items r.bytes

-- the dialogue by all that came
exchange_after : {tells : Bool} {mail : Mail} {d : Delivery} {before after : Told} {came : Heard} {inbox : Inbox} (f : Follows tells mail d before) (r : Received d.inbox came inbox before after)
    → exchange_of mail d.to after.received ≡ says f.due (rest_of (transaction_of mail d.to) d.dialogue (codes_from f.part (d.inbox.unused.items ++ r.bytes)))
exchange_after {mail = mail} {d = d} f r = ap (λ (xs : List ℕ). exchange_of mail d.to xs) (came_behind f r) ∙ f.exchange (d.inbox.unused.items ++ r.bytes)

-- what was sent stays the front of what is due
front_after : {tells : Bool} {mail : Mail} {d : Delivery} {before after : Told} {came : Heard} {inbox : Inbox} (f : Follows tells mail d before) → IsAllSent d → Received d.inbox came inbox before after
    → IsTrue tells → BeginsWith (exchange_of mail d.to after.received).due after.sent
front_after {mail = mail} {d = d} {after = after} f all r is =
    let rest : Exchange = rest_of (transaction_of mail d.to) d.dialogue (codes_from f.part (d.inbox.unused.items ++ r.bytes)) in
    (rest.due, ap (λ (x : Exchange). x.due) (exchange_after f r) ∙ ap (λ (xs : List ℕ). xs ++ rest.due) (sym (r.sent ∙ sent_all f all is)))

-- a whole reply came
hearing_code : {tells : Bool} {mail : Mail} {d : Delivery} {before after : Told} (code : ℕ) (inbox : Inbox) (f : Follows tells mail d before) → IsAllSent d → Received d.inbox (heard.Code code) inbox before after
    → Hearing tells mail (record d { inbox = inbox }) code after
hearing_code {mail = mail} {d = d} code inbox f all r =
    let e : Transaction = transaction_of mail d.to in
    let h : Hears f.part (d.inbox.unused.items ++ r.bytes) (heard.Code code) inbox = r.hears f.part f.holds in
    record {
      seen = f.seen ++ h.0;
      due = f.due;
      received = came_behind f r ∙ ap (λ (xs : List ℕ). f.seen ++ xs) h.1 ∙ sym (append_assoc f.seen h.0 inbox.unused.items);
      holds = h.3;
      exchange = λ more. ap (λ (xs : List ℕ). dialogue e (reply_codes xs)) (append_assoc f.seen h.0 more) ∙ f.exchange (h.0 ++ more)
          ∙ ap (λ (cs : List ℕ). says f.due (rest_of e d.dialogue cs)) (h.2 more);
      sent = λ is. r.sent ∙ sent_all f all is;
      is_for = λ is. let i = f.is_for is in record { sender = i.sender; placed = i.placed; ready = i.ready };
    }

-- a part of one came, or nothing
follows_part : {tells : Bool} {mail : Mail} {d : Delivery} {before after : Told} (inbox : Inbox) (f : Follows tells mail d before) → Received d.inbox heard.NotYet inbox before after
    → Follows tells mail (record d { inbox = inbox }) after
follows_part {mail = mail} {d = d} inbox f r =
    let e : Transaction = transaction_of mail d.to in
    let came : List ℕ = d.inbox.unused.items ++ r.bytes in
    let h : Hears f.part came heard.NotYet inbox = r.hears f.part f.holds in
    record {
      seen = f.seen ++ came;
      part = h.0;
      due = f.due;
      received = came_behind f r ∙ sym (append-nil (f.seen ++ came)) ∙ ap (λ (xs : List ℕ). (f.seen ++ came) ++ xs) (sym h.1);
      holds = h.3;
      exchange = λ more. ap (λ (xs : List ℕ). dialogue e (reply_codes xs)) (append_assoc f.seen came more) ∙ f.exchange (came ++ more)
          ∙ ap (λ (cs : List ℕ). says f.due (rest_of e d.dialogue cs)) (h.2 more);
      sent = λ is. ap (λ (xs : List ℕ). xs ++ (pending d.outbox ++ unsent mail.content d.content)) r.sent ∙ f.sent is;
      is_for = λ is. let i = f.is_for is in record { sender = i.sender; placed = i.placed; ready = i.ready };
    }

-- another reply is awaited
awaits_reply : {tells : Bool} {mail : Mail} {d : Delivery} {before after : Told} (inbox : Inbox) (v : View) (f : Follows tells mail d before) → IsAllSent d → Received d.inbox heard.NotYet inbox before after
    → v.wait ≡ ForRead → Awaits tells (exchange_of mail d.to after.received) after v
awaits_reply {mail = mail} {d = d} {after = after} inbox v f all r waits =
    let e : Transaction = transaction_of mail d.to in
    let came : List ℕ = d.inbox.unused.items ++ r.bytes in
    let h : Hears f.part came heard.NotYet inbox = r.hears f.part f.holds in
    let none : codes_from f.part came ≡ [] = ap (λ (xs : List ℕ). codes_from f.part xs) (sym (append-nil came)) ∙ h.2 [] ∙ no_codes h.0 in
    let x : exchange_of mail d.to after.received ≡ says f.due (ends Open) =
    exchange_after f r ∙ ap (λ (cs : List ℕ). says f.due (rest_of e d.dialogue cs)) none ∙ ap (λ (x : Exchange). says f.due x) (rest_none e d.dialogue.awaited d.dialogue.answers.items) in
    inr (waits, ap (λ (x : Exchange). x.ending) x, λ is. ap (λ (x : Exchange). x.due) x ∙ append-nil f.due ∙ sym (r.sent ∙ sent_all f all is))

-- what came is no reply
broken_reply : {tells : Bool} {mail : Mail} {d : Delivery} {before after : Told} (inbox : Inbox) (f : Follows tells mail d before) (r : Received d.inbox heard.NoReply inbox before after)
    → (exchange_of mail d.to after.received).ending ≡ Broken
broken_reply {mail = mail} {d = d} {after = after} inbox f r =
    let e : Transaction = transaction_of mail d.to in
    let came : List ℕ = d.inbox.unused.items ++ r.bytes in
    let zero : codes_from f.part came ≡ 0 ∷ [] = ap (λ (xs : List ℕ). codes_from f.part xs) (sym (append-nil came)) ∙ r.hears f.part f.holds [] in
    ap (λ (x : Exchange). x.ending) (exchange_after f r ∙ ap (λ (cs : List ℕ). says f.due (rest_of e d.dialogue cs)) zero
    ∙ ap (λ (x : Exchange). says f.due x) (rest_broken e d.dialogue.awaited d.dialogue.answers.items))

-- the link was lost before the reply
open_reply : {tells : Bool} {mail : Mail} {d : Delivery} {before after : Told} (inbox : Inbox) (f : Follows tells mail d before) (r : Received d.inbox heard.Lost inbox before after)
    → (exchange_of mail d.to after.received).ending ≡ Open
open_reply {mail = mail} {d = d} {after = after} inbox f r =
    let e : Transaction = transaction_of mail d.to in
    ap (λ (x : Exchange). x.ending) (exchange_after f r ∙ ap (λ (cs : List ℕ). says f.due (rest_of e d.dialogue cs)) (r.hears f.part f.holds)
    ∙ ap (λ (x : Exchange). says f.due x) (rest_none e d.dialogue.awaited d.dialogue.answers.items))

-- ---- what waiting for a reply comes to

abbrev Anything : Mail → Type 0
Anything mail = Unit {0}

received_answers : {k : ℕ} {came : Heard} (old new : Inbox) (v w : View) → Tells (Received old came new) v w → ((b t : Told) → Received old came new b t → Answers k b t) → Tells (Answers k) v w
received_answers old new v w got answers = λ t told. let g = got t told in (g.0, g.1, answers g.0 t g.2)

not_nowait : (w : View) → w.wait ≡ ForRead → w.wait ≢ NoWait
not_nowait w is none = cc

pub steps_not_yet : (tells : Bool) (d : Delivery) (inbox : Inbox) (v w : View) → IsAllSent d → Receives heard.NotYet v w → Tells (Received d.inbox heard.NotYet inbox) v w
    → Steps tells Anything d (record d { inbox = inbox }) v w Waits
steps_not_yet tells d inbox v w all link got = record {
  faults = link.0.faults;
  ended = (link.0.ended, not_nowait w link.1);
  answers = received_answers d.inbox inbox v w got (λ b t r. r.answers);
  becomes = λ mail is serves t told.
      let g = got t told in
      let f = serves g.0 g.1 in
      (follows_part inbox f g.2, awaits_reply inbox w f all g.2 link.1);
}

pub steps_no_reply : (tells : Bool) (d : Delivery) (inbox : Inbox) (v w : View) → IsAllSent d → Receives heard.NoReply v w → Tells (Received d.inbox heard.NoReply inbox) v w
    → Steps tells Anything d (record d { inbox = inbox }) v w Lost
steps_no_reply tells d inbox v w all link got = record {
  faults = link.faults;
  ended = tt;
  answers = received_answers d.inbox inbox v w got (λ b t r. r.answers);
  becomes = λ mail is serves t told.
      let g = got t told in
      let f = serves g.0 g.1 in
      (inl (broken_reply inbox f g.2), front_after f all g.2);
}

pub steps_lost : (tells : Bool) (d : Delivery) (inbox : Inbox) (v w : View) → IsAllSent d → Receives heard.Lost v w → Tells (Received d.inbox heard.Lost inbox) v w
    → Steps tells Anything d (record d { inbox = inbox }) v w Lost
steps_lost tells d inbox v w all link got = record {
  faults = link.0;
  ended = tt;
  answers = received_answers d.inbox inbox v w got (λ b t r. r.answers);
  becomes = λ mail is serves t told.
      let g = got t told in
      let f = serves g.0 g.1 in
      (inr (inl (inl (open_reply inbox f g.2), why link.1)), front_after f all g.2);
}
  where
    why : ((w.ended ≡ true) ⊎ (Rose v.faults w.faults × (w.ended ≡ v.ended))) → (w.ended ≡ true) ⊎ Rose v.faults w.faults
    why (inl ended) = inl ended
    why (inr rose) = inr rose.0

-- a reply was heard, and acted on
pub steps_code : (tells : Bool) (d new : Delivery) (inbox : Inbox) (code : ℕ) (v w : View) (s : Step) → IsAllSent d → Receives (heard.Code code) v w → Tells (Received d.inbox (heard.Code code) inbox) v w
    → (s ≡ Waits → ⊥) → ((mail : Mail) (t : Told) → Hearing tells mail (record d { inbox = inbox }) code t → Acts tells mail new t s)
    → Steps tells Anything d new v w s
steps_code tells d new inbox code v w s all link got never acts = record {
  faults = link.faults;
  ended = ended s never;
  answers = answers s never;
  becomes = λ mail is serves t told.
      let g = got t told in
      becomes mail t s (acts mail t (hearing_code code inbox (serves g.0 g.1) all g.2));
}
  where
    ended : (s : Step) → (s ≡ Waits → ⊥) → EndsBy s v w
    ended Onward never = link.ended
    ended Waits never = absurd (never refl)
    ended Lost never = tt
    ended (Settles last) never = link.ended

    none : Tells (Answers 0) v w
    none = received_answers d.inbox inbox v w got (λ b t r. r.answers)

    answers : (s : Step) → (s ≡ Waits → ⊥) → Tells (Answers (waits_of s)) v w
    answers Onward never = none
    answers Waits never = absurd (never refl)
    answers Lost never = none
    answers (Settles last) never = none

    becomes : (mail : Mail) (t : Told) (s : Step) → Acts tells mail new t s → Becomes tells mail new v w t s
    becomes mail t Onward h = h
    becomes mail t Waits h = absurd h
    becomes mail t Lost h = (inl h.0, h.1)
    becomes mail t (Settles last) h = h

-- ---- a whole step

rose_before : {u v w : ℕ} → u ≤ v → Rose v w → Rose u w
rose_before h (inl more) = inl (omega (arith, h, more))
rose_before h (inr last) = inr last

pub becomes_before : (tells : Bool) (mail : Mail) (d : Delivery) (u v w : View) (t : Told) (s : Step) → u.faults ≤ v.faults → Becomes tells mail d v w t s → Becomes tells mail d u w t s
becomes_before tells mail d u v w t Onward h b = b
becomes_before tells mail d u v w t Waits h b = b
becomes_before tells mail d u v w t Lost h b = (lost (exchange_of mail d.to t.received) t.sent b.0, b.1)
  where
    lost : (x : Exchange) (sent : List ℕ) → IsLost tells x sent v w → IsLost tells x sent u w
    lost x sent (inl broken) = inl broken
    lost x sent (inr (inl (early, inl ended))) = inr (inl (early, inl ended))
    lost x sent (inr (inl (early, inr rose))) = inr (inl (early, inr (rose_before h rose)))
    lost x sent (inr (inr none)) = inr (inr none)
becomes_before tells mail d u v w t (Settles last) h b = b

pub ends_before : (u v w : View) (s : Step) → v.ended ≡ u.ended → EndsBy s v w → EndsBy s u w
ends_before u v w Onward same h = h ∙ same
ends_before u v w Waits same h = (h.0 ∙ same, h.1)
ends_before u v w Lost same h = tt
ends_before u v w (Settles last) same h = h ∙ same

-- all was sent, and then the reply was heard
pub steps_behind : (tells : Bool) (given : Mail → Type 0) (old d new : Delivery) (u v w : View) (s : Step) → GoesOn u v → SendsDue tells given old d u v sent.All → Steps tells Anything d new v w s
    → Steps tells given old new u w s
steps_behind tells given old d new u v w s link sends step = record {
  faults = omega (arith, link.faults, step.faults);
  ended = ends_before u v w s link.ended step.ended;
  answers = tells_more (waits_of s) u v w sends.answers step.answers;
  becomes = λ mail is serves t told. becomes_before tells mail new u v w t s link.faults (step.becomes mail tt (sends.serves mail is serves) t told);
}

-- the dialogue by what came so far
exchange_now : {tells : Bool} {mail : Mail} {d : Delivery} {t : Told} (f : Follows tells mail d t) → exchange_of mail d.to t.received ≡ says f.due (rest_of (transaction_of mail d.to) d.dialogue (codes_from f.part d.inbox.unused.items))
exchange_now {mail = mail} {d = d} f = ap (λ (xs : List ℕ). exchange_of mail d.to xs) f.received ∙ f.exchange d.inbox.unused.items

front_none : (a b c : List ℕ) → (a ++ b) ++ c ≡ [] → a ≡ []
front_none [] b c h = refl
front_none (x ∷ a) b c h = cc

-- what is due is what was sent, what is still to be sent, and more
due_is : {tells : Bool} {mail : Mail} {d : Delivery} {t : Told} (f : Follows tells mail d t) → IsTrue tells
    → (exchange_of mail d.to t.received).due ≡ t.sent ++ ((pending d.outbox ++ unsent mail.content d.content) ++ (rest_of (transaction_of mail d.to) d.dialogue (codes_from f.part d.inbox.unused.items)).due)
due_is {mail = mail} {d = d} {t = t} f is =
    let left : List ℕ = pending d.outbox ++ unsent mail.content d.content in
    let rest : Exchange = rest_of (transaction_of mail d.to) d.dialogue (codes_from f.part d.inbox.unused.items) in
    ap (λ (x : Exchange). x.due) (exchange_now f) ∙ ap (λ (xs : List ℕ). xs ++ rest.due) (sym (f.sent is)) ∙ append_assoc t.sent left rest.due

-- what was sent is the front of what is due
pub sent_front : {tells : Bool} {mail : Mail} {d : Delivery} {t : Told} (f : Follows tells mail d t) → IsTrue tells → BeginsWith (exchange_of mail d.to t.received).due t.sent
sent_front {mail = mail} {d = d} f is =
    ((pending d.outbox ++ unsent mail.content d.content) ++ (rest_of (transaction_of mail d.to) d.dialogue (codes_from f.part d.inbox.unused.items)).due, due_is f is)

short_of : {tells : Bool} {mail : Mail} {d : Delivery} {t : Told} → Follows tells mail d t → pending d.outbox ≢ [] → IsTrue tells → IsShort (exchange_of mail d.to t.received).due t.sent
short_of {mail = mail} {d = d} {t = t} f some is =
    let rest : Exchange = rest_of (transaction_of mail d.to) d.dialogue (codes_from f.part d.inbox.unused.items) in
    ((pending d.outbox ++ unsent mail.content d.content) ++ rest.due, due_is f is, λ none. some (front_none (pending d.outbox) (unsent mail.content d.content) rest.due none))

awaits_write : {tells : Bool} {mail : Mail} {d : Delivery} {t : Told} (v : View) → Follows tells mail d t → pending d.outbox ≢ [] → v.wait ≡ ForWrite → Awaits tells (exchange_of mail d.to t.received) t v
awaits_write v f some waits = inl (waits, short_of f some)

not_nowrite : (w : View) → w.wait ≡ ForWrite → w.wait ≢ NoWait
not_nowrite w is none = cc

-- not all was sent
pub steps_unsent : (tells : Bool) (given : Mail → Type 0) (old d : Delivery) (u v : View) → GoesOn u v → SendsDue tells given old d u v sent.NotYet → Steps tells given old d u v Waits
steps_unsent tells given old d u v link sends = record {
  faults = link.faults;
  ended = (link.ended, not_nowrite v sends.comes.0);
  answers = sends.answers;
  becomes = λ mail is serves t told. let f = sends.serves mail is serves t told in (f, awaits_write v f sends.comes.1 sends.comes.0);
}

-- sending was lost
pub steps_unsendable : (tells : Bool) (given : Mail → Type 0) (old d : Delivery) (u v : View) → GoesOn u v → SendsDue tells given old d u v sent.Lost → Steps tells given old d u v Lost
steps_unsendable tells given old d u v link sends = record {
  faults = link.faults;
  ended = tt;
  answers = sends.answers;
  becomes = λ mail is serves t told. let f = sends.serves mail is serves t told in (inr (why tells mail t f (sends.lost refl mail is serves t told)), sent_front f);
}
  where
    why : (tells : Bool) (mail : Mail) (t : Told) → Follows tells mail d t → IsSendingLost tells d u v
        → (IsBeforeQuit (exchange_of mail d.to t.received) t.sent × ((v.ended ≡ true) ⊎ Rose u.faults v.faults)) ⊎ (IsTrue tells → ⊥)
    why false mail t f lost = inr (λ is. cc)
    why true mail t f (inl (rose, some)) = inl (inr (short_of f some refl), inr rose)
    why true mail t f (inr none) = inr none
