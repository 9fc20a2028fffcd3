-- A delivery that acts on a reply follows its link.
use Rattle.std.proofs.Common.{◌≡◌, ℕ, ◌<◌, Bool, true, false, if◌then◌else◌, List, [], ◌∷◌, ◌++◌, length, map, IsTrue, Option, None, sym, ap, ◌∙◌, arith, subst, append_assoc, true≢false, vec_len}
use Rattle.std.proofs.lemmas.List.{append-nil}
use Rattle.q_link.specs.Views.{Told}
use Rattle.q_smtp.specs.Codes.{outcome_by}
use Rattle.q_smtp.specs.ContentLines.{sent_content}
use Rattle.q_smtp.specs.Dialogue.{Broken, Exchange, Settled, Transaction, ends, says}
use Rattle.q_smtp.specs.Replies.{codes_from, nothing_yet}
use Rattle.q_session.specs.Codes.{AreAnswers}
use Rattle.q_session.specs.Course.{Goes, IsPlace, IsReady, Stands, command_line, rest_of}
use Rattle.q_session.specs.Deliveries.{Follows, Hearing, IsAllSent, IsSound}
use Rattle.q_session.specs.Mails.{Mail, exchange_of, transaction_of}
use Rattle.q_session.specs.Outgoing.{Outgoing}
use Rattle.q_session.specs.Sending.{to_send, unsent}
use Rattle.q_session.specs.Steps.{BeginsWith, IsSettled}
use Rattle.q_session.specs.declared.delivery.Delivery.{Delivery}
use Rattle.q_session.specs.declared.dialogue.Awaited.{Awaited}
use Rattle.q_session.specs.declared.dialogue.Awaited.TheVariants.{Answer, Verdict}
use Rattle.q_session.specs.declared.dialogue.Command.{Command}
use Rattle.q_session.specs.declared.dialogue.Command.TheVariants.{Rcpt}
use Rattle.q_session.specs.declared.dialogue.Dialogue.{Dialogue}
use Rattle.q_session.specs.declared.dialogue.Next.TheVariants as next

says_both : (first second : List ℕ) (x : Exchange) → says first (says second x) ≡ says (first ++ second) x
says_both first second x = ap (λ (xs : List ℕ). record { due = xs; ending = x.ending }) (sym (append_assoc first second x.due))

none_unsent : (content : List ℕ) (d : Delivery) → d.content.idle ≡ true → unsent content d.content ≡ []
none_unsent content d idle = ap (λ (b : Bool). if b then [] else to_send content d.content) idle

-- a command is said
pub follows_said : {tells : Bool} {mail : Mail} {d : Delivery} {code : ℕ} {t : Told} (command : Command) (new : Dialogue) → Hearing tells mail d code t → IsAllSent d
    → Goes (transaction_of mail d.to) d.dialogue code (next.Say command) new
    → Follows tells mail (record d { dialogue = new; outbox = record { bytes = command_line d.sender d.to command; gone = 0 } }) t
follows_said {mail = mail} {d = d} {code = code} {t = t} command new h all goes =
    let e : Transaction = transaction_of mail d.to in
    let line : List ℕ = command_line mail.sender d.to command in
    record {
      seen = h.seen;
      part = nothing_yet;
      due = h.due ++ line;
      received = h.received;
      holds = h.holds;
      exchange = λ more. h.exchange more ∙ ap (λ (x : Exchange). says h.due x) (goes.leads (codes_from nothing_yet more))
          ∙ says_both h.due line (rest_of e new (codes_from nothing_yet more));
      sent = λ is.
          ap (λ (xs : List ℕ). t.sent ++ (command_line d.sender d.to command ++ xs)) (none_unsent mail.content d all.content)
          ∙ ap (λ (xs : List ℕ). t.sent ++ xs) (append-nil (command_line d.sender d.to command))
          ∙ ap (λ (o : Option (List ℕ)). t.sent ++ command_line o d.to command) (h.is_for is).sender
          ∙ ap (λ (xs : List ℕ). xs ++ line) (h.sent is);
      is_for = λ is. let i = h.is_for is in record {
        sender = i.sender;
        placed = i.placed;
        ready = goes.ready (sent_content mail.content) (to_send mail.content d.content) i.ready;
      };
    }

-- the content is to be sent
pub follows_content : {tells : Bool} {mail : Mail} {d : Delivery} {code : ℕ} {t : Told} (new : Dialogue) → Hearing tells mail d code t → IsAllSent d
    → Goes (transaction_of mail d.to) d.dialogue code next.SendContent new
    → Follows tells mail (record d { dialogue = new; content = record d.content { idle = false } }) t
follows_content {mail = mail} {d = d} {code = code} {t = t} new h all goes =
    let e : Transaction = transaction_of mail d.to in
    let bytes : List ℕ = sent_content mail.content in
    record {
      seen = h.seen;
      part = nothing_yet;
      due = h.due ++ bytes;
      received = h.received;
      holds = h.holds;
      exchange = λ more. h.exchange more ∙ ap (λ (x : Exchange). says h.due x) (goes.leads (codes_from nothing_yet more))
          ∙ says_both h.due bytes (rest_of e new (codes_from nothing_yet more));
      sent = λ is.
          ap (λ (xs : List ℕ). t.sent ++ (xs ++ to_send mail.content d.content)) all.outbox
          ∙ ap (λ (xs : List ℕ). t.sent ++ xs) (goes.ready bytes (to_send mail.content d.content) (h.is_for is).ready).0
          ∙ ap (λ (xs : List ℕ). xs ++ bytes) (h.sent is);
      is_for = λ is. let i = h.is_for is in record { sender = i.sender; placed = record { left = i.placed.left; place = i.placed.place }; ready = ready (goes.stands.1) };
    }
  where
    ready : new.awaited ≡ Verdict → IsReady new.awaited (sent_content mail.content) (to_send mail.content d.content)
    ready is = subst (λ (a : Awaited). IsReady a (sent_content mail.content) (to_send mail.content d.content)) (sym is) tt

-- the dialogue as it ends by all that came
exchange_heard : {tells : Bool} {mail : Mail} {d : Delivery} {code : ℕ} {t : Told} (h : Hearing tells mail d code t)
    → exchange_of mail d.to t.received ≡ says h.due (rest_of (transaction_of mail d.to) d.dialogue (code ∷ codes_from nothing_yet d.inbox.unused.items))
exchange_heard {mail = mail} {d = d} h = ap (λ (xs : List ℕ). exchange_of mail d.to xs) h.received ∙ h.exchange d.inbox.unused.items

-- each recipient has its answer
pub is_settled : {tells : Bool} {mail : Mail} {d : Delivery} {code : ℕ} {t : Told} (last : ℕ) (new : Dialogue) → Hearing tells mail d code t
    → Goes (transaction_of mail d.to) d.dialogue code (next.Settled last) new
    → IsSettled tells (exchange_of mail d.to t.received) (map (outcome_by last) new.answers.items) t
is_settled {mail = mail} {d = d} {t = t} last new h goes =
    let x : exchange_of mail d.to t.received ≡ says h.due (ends (Settled (map (outcome_by last) new.answers.items))) =
    exchange_heard h ∙ ap (λ (x : Exchange). says h.due x) (goes.leads (codes_from nothing_yet d.inbox.unused.items)) in
    (ap (λ (x : Exchange). x.ending) x, λ is. h.sent is ∙ sym (append-nil h.due) ∙ sym (ap (λ (x : Exchange). x.due) x))

-- the reply can't come there
pub is_broken : {tells : Bool} {mail : Mail} {d : Delivery} {code : ℕ} {t : Told} (new : Dialogue) → Hearing tells mail d code t
    → Goes (transaction_of mail d.to) d.dialogue code next.Broken new
    → ((exchange_of mail d.to t.received).ending ≡ Broken) × (IsTrue tells → BeginsWith (exchange_of mail d.to t.received).due t.sent)
is_broken {mail = mail} {d = d} {t = t} new h goes =
    let x : exchange_of mail d.to t.received ≡ says h.due (ends Broken) =
    exchange_heard h ∙ ap (λ (x : Exchange). says h.due x) (goes.leads (codes_from nothing_yet d.inbox.unused.items)) in
    (ap (λ (x : Exchange). x.ending) x, λ is. ([], ap (λ (x : Exchange). x.due) x ∙ ap (λ (xs : List ℕ). xs ++ []) (sym (h.sent is))))

-- ---- it stays sound

-- some message to these
abbrev pub some_to : List (List ℕ) → Transaction
some_to to = record { sender = None; to = to; content = [] }

pub sound_said : (d : Delivery) (o : Outgoing) (command : Command) (new : Dialogue) → IsSound d → IsAllSent d → Stands (next.Say command) new → new.recipients ≡ d.dialogue.recipients
    → AreAnswers new.answers.items → IsSound (record d { dialogue = new; outbox = o })
sound_said d o command new s all stands same codes = record {
  course = stands.0;
  recipients = same ∙ s.recipients;
  codes = codes;
  capacity = s.capacity;
  few = s.few;
  room = s.room;
  empty = s.empty;
  busy = λ busy. not_busy busy all.content;
}
  where
    not_busy : {X : Type 0} → d.content.idle ≡ false → d.content.idle ≡ true → X
    not_busy f t = absurd (true≢false (sym t ∙ f))

pub sound_content : (d : Delivery) (new : Dialogue) → IsSound d → Stands next.SendContent new → new.recipients ≡ d.dialogue.recipients
    → AreAnswers new.answers.items → IsSound (record d { dialogue = new; content = record d.content { idle = false } })
sound_content d new s stands same codes = record {
  course = stands.0;
  recipients = same ∙ s.recipients;
  codes = codes;
  capacity = s.capacity;
  few = s.few;
  room = s.room;
  empty = s.empty;
  busy = λ _. stands.1;
}

-- as many answers as recipients
pub all_answered : (d : Delivery) (new : Dialogue) → vec_len new.answers ≡ new.recipients → new.recipients ≡ d.dialogue.recipients → d.dialogue.recipients ≡ length d.to
    → length new.answers.items ≡ length d.to
all_answered d new all same recipients = omega (arith, new.answers.ok.0, all, same, recipients)

-- the recipient that is named is one
pub is_named : (place : ℕ) (new : Dialogue) → Stands (next.Say (Rcpt place)) new → place < new.recipients
is_named place new stands = by_awaited new.awaited stands.1 stands.0.place
  where
    by_awaited : (a : Awaited) → a ≡ Answer (Rcpt place) → IsPlace a (vec_len new.answers) new.recipients → place < new.recipients
    by_awaited a is h = named (subst (λ (x : Awaited). IsPlace x (vec_len new.answers) new.recipients) is h)
      where
        named : (place ≡ vec_len new.answers) × (vec_len new.answers < new.recipients) → place < new.recipients
        named h = omega (arith, h.0, h.1)
