-- The open session of a delivery in flight.
use Rattle.std.specs.Prelude.{◌++◌, ◌∷◌, ◌≡◌, ◌≤◌, [], IfSome, length, List, map, nat_le, Some, true, ℕ}
use Rattle.q_model.specs.declared.entry.Entry.{Entry}
use Rattle.q_model.specs.declared.rows.Delivery.{Delivery}
use Rattle.q_model.specs.Book.{Book, message_of}
use Rattle.q_model.specs.FilesStand.{file_message}
use Rattle.q_model.specs.Message.{Message, address_at}
use Rattle.q_model.specs.QueueFileBytes.{content_at}
use Rattle.q_link.specs.Routes.{has_route}
use Rattle.q_link.specs.Views.{Told}
use Rattle.q_session.specs.Deliveries.{Serves}
use Rattle.q_session.specs.Mails.{Mail}
use Rattle.q_agent.specs.Requests.{active_spot}
use Rattle.q_agent.specs.Sessions.{OpenSession, Work}
use Rattle.q_drain.specs.Flights.{flight}
use Rattle.q_drain.specs.Told.{Begun, begun}
use Rattle.q_drain.specs.Waits.{Waits, WaitsBetween}

-- what a message says to a session
abbrev pub mail_of : Message → Mail
mail_of m = record {
  sender = m.sender;
  addresses = map (λ r. r.address) m.recipients;
  content_at = content_at (file_message m);
  content = m.content;
}

-- the rests and moments so far, and up to which number the sessions were polled in this sweep
pub record Counts : Type 0 where
  pub rests : ℕ
  pub moments : ℕ
  pub polled : ℕ

-- what a link tells within a sweep: its next hop, and how often it answered `NotYet`
pub record IsLinkOf (n : Counts) (start : Begun) (t : Told) : Type 0 where
  pub hop : t.hop ≡ start.site.hop
  pub waits : Waits n.rests n.moments t.rests_before t.not_yets (nat_le start.number n.polled)

-- the same between two sweeps, behind the rest that was given
pub record IsLinkBetween (rests moments : ℕ) (start : Begun) (t : Told) : Type 0 where
  pub hop : t.hop ≡ start.site.hop
  pub waits : WaitsBetween rests moments t.rests_before t.not_yets

-- The session delivers this message to the recipients of its start, and its link tells this.
pub record IsWorkOf (Tells : Begun → Told → Type 0) (start : Begun) (m : Message) (w : Work) : Type 0 where
  pub spot : w.session.content.spot ≡ active_spot start.id
  pub to : w.session.to ≡ map (address_at m) start.positions
  pub opened : w.session.opened ≡ start.moment
  pub route : has_route start.site.hop ≡ true
  pub serves : Serves true (mail_of m) w.session w.link
  pub link : (t : Told) → w.link.told ≡ Some t → Tells start t

-- The session is that of the delivery, which began by a line that was told.
pub record IsSessionOf (book : Book) (told : List Entry) (Tells : Begun → Told → Type 0) (f : Delivery) (o : OpenSession) : Type 0 where
  pub number : o.number ≡ f.number
  pub positive : 1 ≤ f.number
  pub recipients : o.recipients ≡ length f.row.positions
  pub start : Begun
  pub is : f ≡ flight start
  pub begins : (more others : List Begun) × (begun told ≡ more ++ start ∷ others)
  pub message : Message
  pub stands : message_of book f.row.id ≡ Some message
  pub work : IfSome o.work (IsWorkOf Tells start message)

-- each of these stands for the other in its place
abbrev pub Pairs : {A B : Type 0} → (A → B → Type 0) → List A → List B → Type 0
Pairs P [] [] = Unit {0}
Pairs P (x ∷ xs) (y ∷ ys) = P x y × Pairs P xs ys
Pairs P _ _ = ⊥
