-- What a delivery stands for, by what its link tells. Of what was sent it is said where the host tells its files.
use Rattle.std.specs.Prelude.{◌++◌, ◌≡◌, ◌≤◌, [], Bool, false, true, IsTrue, length, List, Some, vec_capacity, ℕ, ◌∷◌}
use Rattle.q_link.specs.Views.{Told, View}
use Rattle.q_reply.specs.Progress.{Holds}
use Rattle.q_smtp.specs.ContentLines.{sent_content}
use Rattle.q_smtp.specs.Dialogue.{dialogue, says}
use Rattle.q_smtp.specs.Replies.{Part, codes_from, nothing_yet, reply_codes}
use Rattle.q_session.specs.Codes.{AreAnswers}
use Rattle.q_session.specs.Course.{IsCourse, IsReady, rest_of}
use Rattle.q_session.specs.Mails.{Mail, transaction_of}
use Rattle.q_session.specs.Outgoing.{pending}
use Rattle.q_session.specs.Sending.{IsPlaced, to_send, unsent}
use Rattle.q_session.specs.declared.delivery.Delivery.{Delivery}
use Rattle.q_session.specs.declared.dialogue.Awaited.TheVariants.{Verdict}

-- what is sent is this mail's
pub record IsFor (mail : Mail) (d : Delivery) : Type 0 where
  pub sender : d.sender ≡ mail.sender
  pub placed : IsPlaced mail d.content
  pub ready : IsReady d.dialogue.awaited (sent_content mail.content) (to_send mail.content d.content)

-- What was received and sent is what the delivery has used and sent: whatever comes next, the dialogue goes on from where it stands.
pub record Follows (tells : Bool) (mail : Mail) (d : Delivery) (t : Told) : Type 0 where
  pub seen : List ℕ
  pub part : Part
  pub due : List ℕ
  pub received : t.received ≡ seen ++ d.inbox.unused.items
  pub holds : Holds part d.inbox.replies
  pub exchange : (more : List ℕ) → dialogue (transaction_of mail d.to) (reply_codes (seen ++ more))
      ≡ says due (rest_of (transaction_of mail d.to) d.dialogue (codes_from part more))
  pub sent : IsTrue tells → t.sent ++ (pending d.outbox ++ unsent mail.content d.content) ≡ due
  pub is_for : IsTrue tells → IsFor mail d

-- The same where a reply of this code was heard and isn't acted on yet; all that was due before it was sent.
pub record Hearing (tells : Bool) (mail : Mail) (d : Delivery) (code : ℕ) (t : Told) : Type 0 where
  pub seen : List ℕ
  pub due : List ℕ
  pub received : t.received ≡ seen ++ d.inbox.unused.items
  pub holds : Holds nothing_yet d.inbox.replies
  pub exchange : (more : List ℕ) → dialogue (transaction_of mail d.to) (reply_codes (seen ++ more))
      ≡ says due (rest_of (transaction_of mail d.to) d.dialogue (code ∷ codes_from nothing_yet more))
  pub sent : IsTrue tells → t.sent ≡ due
  pub is_for : IsTrue tells → IsFor mail d

-- a delivery of this mail follows what its link tells
abbrev pub Serves : Bool → Mail → Delivery → View → Type 0
Serves tells mail d v = (t : Told) → v.told ≡ Some t → Follows tells mail d t

-- what a delivery keeps, whatever its link and its host tell
pub record IsSound (d : Delivery) : Type 0 where
  pub course : IsCourse d.dialogue
  pub recipients : d.dialogue.recipients ≡ length d.to
  pub codes : AreAnswers d.dialogue.answers.items
  pub capacity : d.inbox.unused.capacity ≡ 512
  pub few : length d.inbox.unused.items ≤ 512
  pub room : length d.to ≤ vec_capacity d.room
  pub empty : d.room.items ≡ []
  -- the content is sent only while the answer to it is awaited
  pub busy : d.content.idle ≡ false → d.dialogue.awaited ≡ Verdict

-- all that is due was sent
pub record IsAllSent (d : Delivery) : Type 0 where
  pub outbox : pending d.outbox ≡ []
  pub content : d.content.idle ≡ true
