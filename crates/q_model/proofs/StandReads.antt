-- Files can't tell a mark or a failure that is sure from one that isn't yet.
use Rattle.std.proofs.Common.{◌≡◌, ℕ, Bool, ◌&&◌, ◌||◌, List, [], ◌∷◌, ◌++◌, length, map, refl, sym, ap, subst, ◌∙◌}
use Rattle.std.specs.List.{AllByRecursion, list_any}
use Rattle.std.proofs.lemmas.List.{length-map}
use Rattle.q_model.specs.declared.id.Id.{Id}
use Rattle.q_model.specs.declared.rows.Place.{Place}
use Rattle.q_model.specs.Book.{Book, Damaged}
use Rattle.q_model.specs.Crashes.{EachTo}
use Rattle.q_model.specs.FailureLog.{failures_of}
use Rattle.q_model.specs.FilesStand.{BootStands, DamagedStands, file_message, file_recipient, MessageStands, Stands}
use Rattle.q_model.specs.Ids.{are_distinct, id_eq}
use Rattle.q_model.specs.IdTexts.{IsId}
use Rattle.q_model.specs.Message.{Message}
use Rattle.q_model.specs.QueueFile.{FileMessage}
use Rattle.q_model.specs.QueueFileBytes.{IsFileOf}
use Rattle.q_model.specs.SpoolFiles.{file_at, Files, IsPlace, logged_in}
use Rattle.q_model.specs.Places.{is_corrupt, place_eq}

-- the same to a reader of the files
pub record ReadsSame (old new : Message) : Type 0 where
  pub id : new.id ≡ old.id
  pub place : new.place ≡ old.place
  pub says : file_message new ≡ file_message old
  pub failures : map (λ l. l.failure) new.failures ≡ map (λ l. l.failure) old.failures

pub MessageStands-same : (f : Files) (old new : Message) → ReadsSame old new → MessageStands f old → MessageStands f new
MessageStands-same f old new same h =
    let count : length new.recipients ≡ length old.recipients =
    sym (length-map new.recipients file_recipient) ∙ ap (λ (m : FileMessage). length m.recipients) same.says ∙ length-map old.recipients file_recipient in
    record {
      id = subst IsId (sym same.id) h.id;
      place = subst IsPlace (sym same.place) h.place;
      not_corrupt = ap is_corrupt same.place ∙ h.not_corrupt;
      bytes = h.bytes;
      there = ap (λ (p : Place). file_at f p new.id) same.place ∙ ap (file_at f old.place) same.id ∙ h.there;
      reads = subst (IsFileOf h.bytes) (sym same.says) h.reads;
      failures = same.failures ∙ h.failures ∙ ap (λ (n : ℕ). failures_of n (logged_in f old.id)) (sym count) ∙ ap (λ (i : Id). failures_of (length new.recipients) (logged_in f i)) (sym same.id);
    }

messages-same : (f : Files) (olds news : List Message) → EachTo ReadsSame olds news → AllByRecursion (MessageStands f) olds → AllByRecursion (MessageStands f) news
messages-same f [] [] same h = tt
messages-same f [] (n ∷ ns) same h = absurd same
messages-same f (o ∷ os) [] same h = absurd same
messages-same f (o ∷ os) (n ∷ ns) same h = (MessageStands-same f o n same.0 h.0, messages-same f os ns same.1 h.1)

ids-same : (olds news : List Message) → EachTo ReadsSame olds news → map (λ m. m.id) news ≡ map (λ m. m.id) olds
ids-same [] [] same = refl
ids-same [] (n ∷ ns) same = absurd same
ids-same (o ∷ os) [] same = absurd same
ids-same (o ∷ os) (n ∷ ns) same = ap (λ (i : Id). i ∷ map (λ m. m.id) ns) same.0.id ∙ ap (λ (is : List Id). o.id ∷ is) (ids-same os ns same.1)

places-same : (place : Place) (id : Id) (olds news : List Message) → EachTo ReadsSame olds news → list_any (λ m. id_eq m.id id && place_eq place m.place) news ≡ list_any (λ m. id_eq m.id id && place_eq place m.place) olds
places-same place id [] [] same = refl
places-same place id [] (n ∷ ns) same = absurd same
places-same place id (o ∷ os) [] same = absurd same
places-same place id (o ∷ os) (n ∷ ns) same =
    let tail : Bool = list_any (λ (m : Message). id_eq m.id id && place_eq place m.place) ns in
    ap (λ (i : Id). (id_eq i id && place_eq place n.place) || tail) same.0.id ∙ ap (λ (p : Place). (id_eq o.id id && place_eq place p) || tail) same.0.place
    ∙ ap (λ (t : Bool). (id_eq o.id id && place_eq place o.place) || t) (places-same place id os ns same.1)

-- Files that stand for a book stand for each book that reads the same.
pub Stands-reads : (f : Files) (old new : Book) → new.generation ≡ old.generation → new.damaged ≡ old.damaged → EachTo ReadsSame old.messages new.messages → Stands f old → Stands f new
Stands-reads f old new generation damaged same h = record {
  boot = subst (BootStands f) (sym generation) h.boot;
  distinct = ap (λ (is : List Id). are_distinct (is ++ map (λ d. d.id) new.damaged)) (ids-same old.messages new.messages same)
      ∙ ap (λ (ds : List Damaged). are_distinct (map (λ m. m.id) old.messages ++ map (λ d. d.id) ds)) damaged ∙ h.distinct;
  messages = messages-same f old.messages new.messages same h.messages;
  damaged = subst (AllByRecursion (DamagedStands f)) (sym damaged) h.damaged;
  nothing_else = λ place id bytes hid hp there.
      ap (λ (t : Bool). t || list_any (λ (d : Damaged). id_eq d.id id && place_eq place d.place) new.damaged) (places-same place id old.messages new.messages same)
      ∙ ap (λ (ds : List Damaged). list_any (λ (m : Message). id_eq m.id id && place_eq place m.place) old.messages || list_any (λ (d : Damaged). id_eq d.id id && place_eq place d.place) ds) damaged
      ∙ h.nothing_else place id bytes hid hp there;
}
