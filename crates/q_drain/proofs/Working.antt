-- A session goes on delivering while marks and places of its message change.
use Rattle.std.proofs.Common.{◌≡◌, ℕ, true, List, [], ◌∷◌, map, Option, Some, None, option_map, refl, sym, ap, ◌∙◌, subst}
use Rattle.std.specs.Prelude.{slice_get, unwrap_or}
use Rattle.std.specs.Option.{option_map_or}
use Rattle.q_agent.specs.Requests.{addresses_at}
use Rattle.q_agent.specs.Sessions.{Work}
use Rattle.q_drain.specs.Told.{Begun}
use Rattle.q_drain.specs.Works.{IsWorkOf, mail_of}
use Rattle.q_lives.proofs.AsArrived.{IsLike}
use Rattle.q_lives.proofs.Done.{got_mapped}
use Rattle.q_link.specs.Views.{Told}
use Rattle.q_model.specs.Message.{Message, receiver_of, Recipient, address_at}
use Rattle.q_model.specs.FilesStand.{file_message}
use Rattle.q_model.specs.QueueFileBytes.{content_at}
use Rattle.q_model.specs.Values.{Receiver}
use Rattle.q_engine.proofs.Layouts.{same_content_at}
use Rattle.q_session.specs.Mails.{Mail}
use Rattle.q_session.specs.Deliveries.{Serves}

abbrev mail_with : Option (List ℕ) → List (List ℕ) → ℕ → List ℕ → Mail
mail_with sender addresses at content = record { sender = sender; addresses = addresses; content_at = at; content = content }

-- the addresses of recipients
abbrev addresses : List Recipient → List (List ℕ)
addresses rs = map (λ r. r.address) rs

addresses_of : (rs : List Recipient) → map (λ (r : Receiver). r.address) (map receiver_of rs) ≡ addresses rs
addresses_of [] = refl
addresses_of (r ∷ rs) = ap (λ (xs : List (List ℕ)). r.address ∷ xs) (addresses_of rs)

same_mail : (m n : Message) → IsLike m n → mail_of n ≡ mail_of m
same_mail m n h =
    let same : addresses n.recipients ≡ addresses m.recipients = sym (addresses_of n.recipients) ∙ ap (map (λ (r : Receiver). r.address)) h.recipients ∙ addresses_of m.recipients in
    ap (λ (x : Option (List ℕ)). mail_with x (addresses n.recipients) (content_at (file_message n)) n.content) h.sender
    ∙ ap (λ (x : List (List ℕ)). mail_with m.sender x (content_at (file_message n)) n.content) same
    ∙ ap (λ (k : ℕ). mail_with m.sender (addresses m.recipients) k n.content) (same_content_at m n h)
    ∙ ap (λ (x : List ℕ). mail_with m.sender (addresses m.recipients) (content_at (file_message m)) x) h.content

-- the address of a position, where the mail is known
address_is : (m : Message) (position : ℕ) → unwrap_or (slice_get (mail_of m).addresses position) [] ≡ address_at m position
address_is m position = ap (λ (o : Option (List ℕ)). unwrap_or o []) (got_mapped (λ (r : Recipient). r.address) m.recipients position) ∙ on (slice_get m.recipients position)
  where
    on : (o : Option Recipient) → unwrap_or (option_map (λ (r : Recipient). r.address) o) [] ≡ option_map_or (λ (r : Recipient). r.address) o []
    on None = refl
    on (Some r) = refl

pub addresses_are : (m : Message) (positions : List ℕ) → addresses_at (mail_of m) positions ≡ map (address_at m) positions
addresses_are m [] = refl
addresses_are m (p ∷ ps) = ap (λ (a : List ℕ). a ∷ addresses_at (mail_of m) ps) (address_is m p) ∙ ap (λ (xs : List (List ℕ)). address_at m p ∷ xs) (addresses_are m ps)

-- the session delivers a message like it as well
pub work_like : (Tells : Begun → Told → Type 0) (start : Begun) (m x : Message) (w : Work) → IsLike m x → IsWorkOf Tells start m w → IsWorkOf Tells start x w
work_like Tells start m x w h k = record {
  spot = k.spot;
  to = k.to ∙ sym (addresses_are m start.positions) ∙ ap (λ (mail : Mail). addresses_at mail start.positions) (sym (same_mail m x h)) ∙ addresses_are x start.positions;
  opened = k.opened;
  route = k.route;
  serves = subst (λ (mail : Mail). Serves true mail w.session w.link) (sym (same_mail m x h)) k.serves;
  link = k.link;
}
