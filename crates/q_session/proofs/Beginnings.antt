-- A delivery that begins follows a link over which nothing came or went.
use Rattle.std.proofs.Common.{◌≡◌, ◌+◌, ◌-◌, Bool, true, IsTrue, List, [], ◌++◌, length, drop, ℕ, sym, ap, ◌∙◌, arith, subst}
use Rattle.q_content.specs.Encoding.{line_start, sent_rest}
use Rattle.q_content.proofs.LineLaws.{lines_sent}
use Rattle.q_link.specs.Views.{Told, View}
use Rattle.q_model.specs.Values.{FileHead, Spot}
use Rattle.q_reply.specs.Progress.{Holds}
use Rattle.q_smtp.specs.ContentLines.{sent_content}
use Rattle.q_smtp.specs.Replies.{codes_from, nothing_yet}
use Rattle.q_session.specs.Course.{IsReady, rest_by}
use Rattle.q_session.specs.Deliveries.{Follows, IsFor, Serves}
use Rattle.q_session.specs.Mails.{IsHeadOf, Mail, transaction_of}
use Rattle.q_session.specs.Outgoing.{Outgoing, pending}
use Rattle.q_session.specs.Polls.{IsUnused}
use Rattle.q_session.specs.Sending.{to_send, unsent}
use Rattle.q_session.specs.declared.content.Content.{Content}
use Rattle.q_session.specs.declared.delivery.Delivery.{Delivery}
use Rattle.q_session.specs.declared.dialogue.Awaited.{Awaited}
use Rattle.q_session.specs.declared.dialogue.Awaited.TheVariants.{Greeting}

-- what a delivery has before anything came or went
pub record IsFirst (spot : Spot) (file : FileHead) (d : Delivery) : Type 0 where
  pub sender : d.sender ≡ file.head.sender
  pub awaited : d.dialogue.awaited ≡ Greeting
  pub unused : d.inbox.unused.items ≡ []
  pub replies : Holds nothing_yet d.inbox.replies
  pub outbox : d.outbox ≡ record { bytes = []; gone = 0 }
  pub content : d.content ≡ record { spot = spot; at = file.content_at; left = file.content_len; line = line_start; idle = true }

whole_left : (content : List ℕ) (left : ℕ) → left ≡ length content → drop (length content - left) content ≡ content
whole_left content left e =
    let none : length content - left ≡ 0 = omega arith in
    ap (λ (n : ℕ). drop n content) none

-- the whole content is to be sent
first_for : (mail : Mail) (spot : Spot) (file : FileHead) (d : Delivery) → IsHeadOf mail file → IsFirst spot file d → IsFor mail d
first_for mail spot file d head first =
    let left : d.content.left ≡ length mail.content = ap (λ (c : Content). c.left) first.content ∙ head.content_len in
    let at : d.content.at ≡ mail.content_at = ap (λ (c : Content). c.at) first.content ∙ head.content_at in
    record {
      sender = first.sender ∙ head.sender;
      placed = record { left = omega arith; place = ap (λ (n : ℕ). n + d.content.left) at ∙ ap (λ (n : ℕ). mail.content_at + n) left };
      ready = subst (λ (a : Awaited). IsReady a (sent_content mail.content) (to_send mail.content d.content)) (sym first.awaited)
          (ap (λ (c : Content). sent_rest c.line (drop (length mail.content - d.content.left) mail.content)) first.content
          ∙ ap (λ (xs : List ℕ). sent_rest line_start xs) (whole_left mail.content d.content.left left) ∙ lines_sent mail.content);
    }

first_follows : (tells : Bool) (mail : Mail) (spot : Spot) (file : FileHead) (d : Delivery) (t : Told) → (IsTrue tells → IsHeadOf mail file) → IsFirst spot file d → (t.received ≡ []) × (t.sent ≡ []) → Follows tells mail d t
first_follows tells mail spot file d t head first nothing = record {
  seen = [];
  part = nothing_yet;
  due = [];
  received = nothing.0 ∙ sym first.unused;
  holds = first.replies;
  exchange = λ more. ap (λ (a : Awaited). rest_by (transaction_of mail d.to) a d.dialogue.answers.items (codes_from nothing_yet more)) (sym first.awaited);
  sent = λ told. ap (λ (xs : List ℕ). xs ++ (pending d.outbox ++ unsent mail.content d.content)) nothing.1 ∙ ap (λ (o : Outgoing). pending o ++ unsent mail.content d.content) first.outbox
      ∙ ap (λ (c : Content). unsent mail.content c) first.content;
  is_for = λ told. first_for mail spot file d (head told) first;
}

pub first_serves : (spot : Spot) (file : FileHead) (d : Delivery) → IsFirst spot file d → (tells : Bool) (mail : Mail) (v : View) → (IsTrue tells → IsHeadOf mail file) → IsUnused v → Serves tells mail d v
first_serves spot file d first tells mail v head unused = λ t told. first_follows tells mail spot file d t head first (unused t told)
