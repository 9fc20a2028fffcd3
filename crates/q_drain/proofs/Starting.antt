-- A call that has done nothing yet, and the files of the deliveries in flight.
use native.Mathlib.Omega.{arith}
use Rattle.std.proofs.Common.{◌≡◌, inl, ℕ, true, List, [], ◌∷◌, Option, Some, map, option_map, option_and_then, refl, sym, ap, ◌∙◌}
use Rattle.std.proofs.lemmas.Option.{same_Some}
use Rattle.q_books.specs.HostStands.{HostStands}
use Rattle.q_drain.proofs.Polling.{HasItsFile}
use Rattle.q_drain.specs.Driving.{Driving, HasCases}
use Rattle.q_drain.specs.Stories.{Story}
use Rattle.q_drain.specs.Told.{Begun}
use Rattle.q_host.specs.View.{View as HostView}
use Rattle.q_laws.proofs.Members.{IsIn, all_at}
use Rattle.q_laws.proofs.Synced.{admitted_active}
use Rattle.q_laws.specs.Consistency.{IsConsistent}
use Rattle.q_link.specs.Views.{Told}
use Rattle.q_model.proofs.StandChanges.{Stands-message}
use Rattle.q_model.specs.declared.id.Id.{Id}
use Rattle.q_model.specs.declared.rows.Delivery.{Delivery}
use Rattle.q_model.specs.declared.rows.Place.{Place}
use Rattle.q_model.specs.declared.rows.Place.TheVariants as places
use Rattle.q_model.specs.declared.spot.Area.TheVariants as areas
use Rattle.q_model.specs.FilesStand.{MessageStands, file_message, file_recipient}
use Rattle.q_model.specs.QueueFileBytes.{content_at}
use Rattle.q_model.specs.IdTexts.{id_text}
use Rattle.q_model.specs.Ledger.{Ledger}
use Rattle.q_model.specs.Memory.{is_admitted}
use Rattle.q_model.specs.Message.{Message, Recipient}
use Rattle.q_model.specs.Past.{starts}
use Rattle.q_model.specs.Places.{is_active}
use Rattle.q_model.proofs.QueueFileLaws.{queue_file_again}
use Rattle.q_model.specs.QueueFile.{FileMessage, FileRecipient, queue_file}
use Rattle.q_model.specs.Run.{run}
use Rattle.q_model.specs.Settings.{World}
use Rattle.q_model.specs.SpoolFiles.{Files, file_at}
use Rattle.q_model.specs.Step.{after_all}
use Rattle.q_session.specs.Mails.{Mail, mail_of as file_mail}

-- nothing was done
abbrev pub nothing : Story
nothing = record { told = []; moments = []; connects = 0; hops = []; rests = 0; records = [] }

-- so a drain begins in a life that has begun no delivery, and whose clock stands at 0
pub drives_nothing : (w : World) (l : Ledger) (Tells : Begun → Told → Type 0) → l.now ≡ 0 → l.flights ≡ [] → starts l ≡ 0 → Driving w l Tells [] [] [] [] nothing
unfolding run after_all
drives_nothing w l Tells now flights none = record {
  course = record { run = refl; room = tt; clocked = refl; now = now; starts = none };
  connected = record { begins = refl; numbers = tt; current = tt; connects = refl; hops = refl };
  opened = record { flights = flights; sessions = tt; rises = tt; below = tt; counted = refl };
}

pub cases_nothing : (w : World) (l : Ledger) (connects old : ℕ) → HasCases w l connects old old [] [] nothing
cases_nothing w l connects old = record {
  cases = [];
  all = record { replies = refl; records = refl; places = tt };
  each = tt;
  failed = inl (omega arith);
}

-- ---- files

addresses_said : (rs : List Recipient) → map (λ (r : FileRecipient). r.address) (map file_recipient rs) ≡ map (λ (r : Recipient). r.address) rs
addresses_said [] = refl
addresses_said (r ∷ rs) = ap (λ (xs : List (List ℕ)). r.address ∷ xs) (addresses_said rs)

-- a mail to these addresses
abbrev mail_to : Message → List (List ℕ) → Mail
mail_to m to = record { sender = m.sender; addresses = to; content_at = content_at (file_message m); content = m.content }

-- a message in active stands at its file there
in_active : (v : Files) (m : Message) (id : Id) (place : Place) → is_active place ≡ true → m.place ≡ place → m.id ≡ id → (bytes : List ℕ) → file_at v m.place m.id ≡ Some bytes → v areas.Active (id_text id) ≡ Some bytes
in_active v m id places.Active h place same bytes there = ap (λ (i : Id). v areas.Active (id_text i)) (sym same) ∙ ap (λ (p : Place). file_at v p m.id) (sym place) ∙ there
in_active v m id places.Incoming h place same bytes there = cc
in_active v m id (places.Deferred due) h place same bytes there = cc
in_active v m id places.Hold h place same bytes there = cc
in_active v m id places.Corrupt h place same bytes there = cc

-- the message of a delivery in flight stands at its file
pub has_file : (w : World) (l : Ledger) (v : HostView) (f : Delivery) → IsConsistent w l → HostStands v l.book → IsIn f l.flights → HasItsFile v l.book f
has_file w l v f c h flies m there told =
    let active = admitted_active w l f.row.id c (all_at (λ (g : Delivery). is_admitted l g.row.id) f l.flights c.memory.flights flies) in
    let same : active.0 ≡ m = same_Some active.0 m (sym (active.1).there ∙ there) in
    let stands = Stands-message v.files l.book f.row.id m h.reads there in
    let is : MessageStands v.files m = stands.0 in
    let at : v.files areas.Active (id_text f.row.id) ≡ Some is.bytes = in_active v.files m f.row.id m.place (ap (λ (x : Message). is_active x.place) (sym same) ∙ (active.1).active) refl stands.1 is.bytes is.there in
    ap (λ (o : Option (List ℕ)). option_map file_mail (option_and_then queue_file o)) at
    ∙ ap (λ (o : Option FileMessage). option_map file_mail o) (ap queue_file is.reads.written ∙ queue_file_again (file_message m) is.reads.marks is.reads.lawful is.reads.agree)
    ∙ ap (λ (xs : List (List ℕ)). Some (mail_to m xs)) (addresses_said m.recipients)
