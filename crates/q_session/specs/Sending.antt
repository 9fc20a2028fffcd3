-- What is still to be sent of a content.
use Rattle.std.specs.Prelude.{◌+◌, ◌++◌, ◌-◌, ◌≡◌, ◌<◌, ◌≤◌, [], Bool, drop, false, if◌then◌else◌, length, List, take, true, ℕ}
use Rattle.q_content.specs.Encoding.{sent_rest}
use Rattle.q_session.specs.Mails.{Mail}
use Rattle.q_session.specs.Outgoing.{Outgoing}
use Rattle.q_session.specs.declared.content.Content.{Content}

-- the last bytes of the content, and its end
abbrev pub to_send : List ℕ → Content → List ℕ
to_send content c = sent_rest c.line (drop (length content - c.left) content)

-- what is to be sent now
abbrev pub unsent : List ℕ → Content → List ℕ
unsent content c = if c.idle then [] else to_send content c

-- how many pieces are left at most
abbrev pub pieces_left : Content → ℕ
pieces_left c = if c.idle then 0 else c.left + 1

-- It is at the last bytes of the content in a file that says this.
pub record IsPlaced (mail : Mail) (c : Content) : Type 0 where
  pub left : c.left ≤ length mail.content
  pub place : c.at + c.left ≡ mail.content_at + length mail.content

-- The piece is what stands in the file from an offset on, or the file ends within it.
abbrev pub IsPieceAt : ℕ → List ℕ → Bool → List ℕ → Type 0
IsPieceAt at piece true file = piece ≡ take (length piece) (drop at file)
IsPieceAt at piece false file = length file < at + length piece

-- the next piece is in the outbox, and the rest is left
pub record Fills (mail : Mail) (old new : Content) (o : Outgoing) : Type 0 where
  pub bytes : o.bytes ++ unsent mail.content new ≡ to_send mail.content old
  pub gone : o.gone ≡ 0
  pub placed : IsPlaced mail new
