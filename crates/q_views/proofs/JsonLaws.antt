-- The objects of recipients, made one behind another, and the line of a message.
use Rattle.std.proofs.Common.{◌≡◌, ◌∙◌, ◌++◌, ◌∷◌, [], false, List, None, Option, Some, ℕ, ap, length, map, refl, sym}
use Rattle.std.proofs.Math.Path.{fun_ext}
use Rattle.std.proofs.lemmas.List.{map-append}
use Rattle.q_listing.specs.Listings.{last_code, notes_in, queue_text}
use Rattle.q_model.specs.declared.id.Id.{Id}
use Rattle.q_model.specs.declared.outcome.Note.{Note}
use Rattle.q_model.specs.declared.rows.Place.{Place}
use Rattle.q_model.specs.Message.{address_at, Message, pending}
use Rattle.q_model.specs.SpoolFiles.{Files}
use Rattle.q_model.specs.TextParts.{text_line}
use Rattle.q_model.specs.Values.{FileHead, Taken}
use Rattle.q_pending.specs.Readings.{IsRecipientAt}
use Rattle.q_views.specs.JsonLines.{json_line_in, object_by, object_with, recipient_data}
use Rattle.q_walk.specs.declared.walk.Found.{Found}
use Rattle.q_walk.specs.Walks.{IsFound}
use Rattle.serde_json.specs.Data.{Data}
use Rattle.serde_json.specs.View.{items_of}
use Rattle.serde_json.specs.Written.{compact_text, has_float, items_have_float}

-- these are the objects of these positions
abbrev pub AreMade : (ℕ → Option ℕ) → Message → List Data → List ℕ → Type 0
AreMade code m objects done = objects ≡ map (object_by code m) done

-- one more is made
pub made_more : (code : ℕ → Option ℕ) (m : Message) (now new : List Data) (done : List ℕ) (position : ℕ) (taken : Taken) → IsRecipientAt m position taken
    → new ≡ now ++ recipient_data (code taken.position) taken.address ∷ [] → AreMade code m now done → AreMade code m new (done ++ position ∷ [])
made_more code m now new done position taken is more was =
    let object : recipient_data (code taken.position) taken.address ≡ object_by code m position =
    ap (λ (p : ℕ). recipient_data (code p) taken.address) is.position ∙ ap (λ (a : List ℕ). recipient_data (code position) a) is.address in
    more ∙ ap (λ (d : Data). now ++ d ∷ []) object ∙ ap (λ (ds : List Data). ds ++ object_by code m position ∷ []) was
    ∙ sym (map-append (object_by code m) done (position ∷ []))

-- by the codes of the notes
pub same_objects : (code : ℕ → Option ℕ) (notes : List Note) (m : Message) → ((q : ℕ) → code q ≡ last_code notes q)
    → map (object_by code m) (pending m) ≡ map (object_by (last_code notes) m) (pending m)
same_objects code notes m same = ap (λ (k : ℕ → Option ℕ). map (object_by k m) (pending m)) (fun_ext same)

-- ---- the line of a message

same_object : (m : Message) (found : Found) (f : Files) (ds : List Data) → IsFound f m found
    → object_with (queue_text found.place) found.id found.head.head.arrival found.head.content_len found.head.head.sender ds
    ≡ object_with (queue_text m.place) m.id m.arrival (length m.content) m.sender ds
same_object m found f ds is =
    ap (λ (p : Place). object_with (queue_text p) found.id found.head.head.arrival found.head.content_len found.head.head.sender ds) is.place
    ∙ ap (λ (i : Id). object_with (queue_text m.place) i found.head.head.arrival found.head.content_len found.head.head.sender ds) is.id
    ∙ ap (λ (h : FileHead). object_with (queue_text m.place) m.id h.head.arrival h.content_len h.head.sender ds) is.head

pub same_line : (f : Files) (m : Message) (found : Found) (ds : List Data) → IsFound f m found → ds ≡ map (object_by (last_code (notes_in f m.id)) m) (pending m)
    → text_line (compact_text (object_with (queue_text found.place) found.id found.head.head.arrival found.head.content_len found.head.head.sender ds)) ≡ json_line_in f m
same_line f m found ds is made = ap (λ (d : Data). text_line (compact_text d)) (same_object m found f ds is
    ∙ ap (λ (xs : List Data). object_with (queue_text m.place) m.id m.arrival (length m.content) m.sender xs) made)

-- ---- no number of a line is a float

plain_object : (code : Option ℕ) (address : List ℕ) → has_float (recipient_data code address) ≡ false
plain_object None address = refl
plain_object (Some code) address = refl

pub plain_objects : (code : ℕ → Option ℕ) (m : Message) (positions : List ℕ) → items_have_float (items_of (map (object_by code m) positions)) ≡ false
plain_objects code m [] = refl
plain_objects code m (p ∷ ps) = rw (plain_object (code p) (address_at m p), plain_objects code m ps) refl

pub plain_message : (queue : List ℕ) (id : Id) (arrival size : ℕ) (sender : Option (List ℕ)) (ds : List Data) → items_have_float (items_of ds) ≡ false
    → has_float (object_with queue id arrival size sender ds) ≡ false
plain_message queue id arrival size sender ds plain = rw plain refl
