-- A message and a damaged file, told in parts.
use Rattle.std.proofs.Common.{◌≡◌, ◌∙◌, ◌+◌, ◌<◌, ◌≤◌, ◌^◌, ◌++◌, ◌∷◌, [], List, None, Option, Some, length, map, option_map, ℕ, ap, arith, drop, refl, subst, suc, sym, take}
use Rattle.std.proofs.lemmas.List.{take_all}
use Rattle.std.specs.Option.{option_map_or}
use Rattle.std.specs.Prelude.{flat_map, IfSome, unwrap_or}
use Rattle.std.specs.BTreeMap.{BTreeMap}
use Rattle.std.specs.List.{All, range_with_len}
use Rattle.std.proofs.lemmas.List.FromFn.{get_or-range_with_len, length-map-range_with_len, length-range_with_len}
use Rattle.q_host.specs.View.{View}
use Rattle.q_listing.specs.Listings.{found_line, message_line, notes_in, queue_text}
use Rattle.q_message.specs.FileHeads.{head_of, IsHead}
use Rattle.q_message.specs.Names.{AreNames, HasHead, receiver_in}
use Rattle.q_message.specs.Told.{bytes_at}
use Rattle.q_model.specs.declared.id.Id.{Id}
use Rattle.q_model.specs.declared.outcome.Note.{Note}
use Rattle.q_model.specs.declared.rows.Place.{Place}
use Rattle.q_model.specs.FilesStand.{file_message, file_recipient}
use Rattle.q_model.specs.Message.{Message, Recipient}
use Rattle.q_model.specs.QueueFile.{FileMessage, queue_file}
use Rattle.q_model.specs.SpoolFiles.{Files}
use Rattle.q_model.specs.TextParts.{text_line}
use Rattle.q_model.specs.Values.{FileHead, Receiver, Spot}
use Rattle.q_show.specs.declared.states.State.{State}
use Rattle.q_show.specs.Finding.{fault_of}
use Rattle.q_show.specs.Lines.{line_at}
use Rattle.q_show.specs.Shown.{bytes_text, damage_lines, lines_text, message_text, recipient_text, sound_bytes}
use Rattle.q_show.specs.States.{AreStates}
use Rattle.q_show.proofs.ContentPlaces.{content_is, content_near}
use Rattle.q_show.proofs.LineLaws.{lines_are}
use Rattle.q_telling.specs.Telling.{TellsFront, TellsMore}
use Rattle.q_telling.proofs.TellingLaws.{front_more, front_none, front_on, tells_on}
use Rattle.q_walk.specs.declared.walk.Found.{Found}
use Rattle.q_walk.specs.Walks.{IsFound}
use Rattle.q_walk.proofs.Held.{read_file}

-- ---- the lines of a message

abbrev pub begin_of : Found → List ℕ
begin_of found = found_line found

abbrev begin_line : Message → List ℕ
begin_line m = message_line (queue_text m.place) m.id (length m.content) m.arrival m.sender

same_begin : (f : Files) (m : Message) (found : Found) → IsFound f m found → begin_of found ≡ begin_line m
same_begin f m found is =
    ap (λ (p : Place). message_line (queue_text p) found.id found.head.content_len found.head.head.arrival found.head.head.sender) is.place
    ∙ ap (λ (i : Id). message_line (queue_text m.place) i found.head.content_len found.head.head.arrival found.head.head.sender) is.id
    ∙ ap (λ (h : FileHead). message_line (queue_text m.place) m.id h.content_len h.head.arrival h.head.sender) is.head

-- as many as the head says
same_count : (rs : List Recipient) → length (map file_recipient rs) ≡ length rs
same_count [] = refl
same_count (r ∷ rs) = ap suc (same_count rs)

pub count_is : (f : Files) (m : Message) (found : Found) → IsFound f m found → found.head.recipients ≡ length m.recipients
count_is f m found is = ap (λ (h : FileHead). h.recipients) is.head ∙ same_count m.recipients

pub lines_whole : (f : Files) (m : Message) (found : Found) (notes : List Note) (names : List Receiver) (kept : BTreeMap ℕ State) (a b c : List ℕ) → IsFound f m found → names ≡ map (receiver_in (file_message m)) (range_with_len 0 (length m.recipients)) → AreStates notes m kept
    → a ≡ begin_of found → b ≡ a ++ flat_map (line_at names kept) (range_with_len 0 found.head.recipients) → c ≡ b ++ text_line [] → c ≡ lines_text notes m
lines_whole f m found notes names kept a b c is are stand first second third =
    third ∙ ap (λ (t : List ℕ). t ++ text_line []) (second
    ∙ ap (λ (n : ℕ). a ++ flat_map (line_at names kept) (range_with_len 0 n)) (count_is f m found is)
    ∙ ap (λ (t : List ℕ). a ++ t) (lines_are notes m names kept are stand)
    ∙ ap (λ (t : List ℕ). t ++ flat_map (recipient_text notes m) (range_with_len 0 (length m.recipients))) (first ∙ same_begin f m found is))

-- ---- the content

-- the file of a message that was found, and its content there
pub record HasContent (f : Files) (m : Message) (found : Found) : Type 0 where
  pub bytes : List ℕ
  pub there : f found.spot.area found.spot.name ≡ Some bytes
  pub content : take found.head.content_len (drop found.head.content_at bytes) ≡ m.content
  pub near : found.head.content_at + found.head.content_len < 2 ^ 64

pub has_content : (f : Files) (m : Message) (found : Found) → IsFound f m found → HasContent f m found
has_content f m found is =
    let file = file_message m in
    let head : found.head ≡ head_of file = is.head in
    record {
      bytes = is.stands.bytes;
      there = ap (λ (s : Spot). f s.area s.name) is.spot ∙ is.stands.there;
      content = ap (λ (h : FileHead). take h.content_len (drop h.content_at is.stands.bytes)) head ∙ content_is is.stands.bytes file is.stands.reads;
      near = subst (λ (h : FileHead). h.content_at + h.content_len < 2 ^ 64) (sym head) (content_near file is.stands.reads.lawful);
    }

-- ---- a damaged file

-- so many bytes are those before the fault, or all
pub sound_part : (bytes : List ℕ) (fault : Option ℕ) (size : ℕ) → fault ≡ fault_of bytes → size ≡ unwrap_or fault (length bytes) → take size (drop 0 bytes) ≡ sound_bytes bytes
sound_part bytes fault size is count =
    ap (λ (n : ℕ). take n bytes) (count ∙ ap (λ (o : Option ℕ). unwrap_or o (length bytes)) is) ∙ by (fault_of bytes)
  where
    by : (o : Option ℕ) → take (unwrap_or o (length bytes)) bytes ≡ option_map_or (λ n. take n bytes) o bytes
    by None = take_all (length bytes) bytes (omega arith)
    by (Some n) = refl

-- ---- the addresses

some_head : (o : Option FileMessage) (head : FileHead) → option_map head_of o ≡ Some head → (m : FileMessage) × (o ≡ Some m) × (head ≡ head_of m)
some_head None head h = absurd cc
some_head (Some m) head h = (m, refl, cc)

pub has_head : (bytes : List ℕ) (head : FileHead) → IsHead head bytes → HasHead bytes head
has_head bytes head is =
    let one = some_head (queue_file bytes) head is in
    record { message = one.0; reads = one.1; head = ap (λ (h : FileHead). record h { marked = 0 }) one.2 }

pub heads_told : (o : Option (List ℕ)) (head : FileHead) → IfSome o (IsHead head) → IfSome o (λ bytes. HasHead bytes head)
heads_told None head h = tt
heads_told (Some bytes) head h = has_head bytes head h

pub all_within : (n : ℕ) (positions : List ℕ) → positions ≡ range_with_len 0 n → All (λ p. p < n) positions
all_within n positions is = subst (All (λ p. p < n)) (sym is) (λ i d h.
    let inside : i < n = omega (arith, h, length-range_with_len 0 n) in
    omega (arith, inside, get_or-range_with_len 0 n i d inside))

pub names_are : (f : Files) (m : Message) (found : Found) (names : List Receiver) → IsFound f m found
    → IfSome (f found.spot.area found.spot.name) (AreNames (range_with_len 0 found.head.recipients) names) → names ≡ map (receiver_in (file_message m)) (range_with_len 0 (length m.recipients))
names_are f m found names is told =
    let file = file_message m in
    let bytes = is.stands.bytes in
    let positions = range_with_len 0 found.head.recipients in
    let there : f found.spot.area found.spot.name ≡ Some bytes = ap (λ (s : Spot). f s.area s.name) is.spot ∙ is.stands.there in
    let here : AreNames positions names bytes = subst (λ (o : Option (List ℕ)). IfSome o (AreNames positions names)) there told in
    let these : names ≡ map (receiver_in file) positions = subst (λ (o : Option FileMessage). IfSome o (λ x. names ≡ map (receiver_in x) positions)) (read_file bytes file is.stands.reads) here in
    these ∙ ap (λ (n : ℕ). map (receiver_in file) (range_with_len 0 n)) (count_is f m found is)

-- as many as the head says
pub enough_names : (f : Files) (m : Message) (found : Found) (names : List Receiver) → IsFound f m found → names ≡ map (receiver_in (file_message m)) (range_with_len 0 (length m.recipients)) → found.head.recipients ≤ length names
enough_names f m found names is are =
    omega (arith, count_is f m found is, ap length are, length-map-range_with_len (receiver_in (file_message m)) 0 (length m.recipients))

-- ---- told in parts

module _ (m : Message) (found : Found) (u v : View) (is : IsFound u.files m found) (quiet : TellsMore [] u v) where
  abbrev lines : List ℕ
  lines = lines_text (notes_in u.files m.id) m

  -- nothing is told yet
  pub message_waits : TellsFront (message_text u.files m) u v
  message_waits = front_none (message_text u.files m) u v quiet

  module _ (w : View) (text : List ℕ) (same : text ≡ lines) where
    -- the lines are told in part
    pub message_begins : TellsFront text v w → TellsFront (message_text u.files m) u w
    message_begins part = front_more lines m.content u w (subst (λ (t : List ℕ). TellsFront t u w) same (front_on [] text u v w quiet part))

    module _ (told : TellsMore text v w) where
      lines_told : TellsMore lines u w
      lines_told = subst (λ (t : List ℕ). TellsMore t u w) same (tells_on [] text u v w quiet told)

      abbrev content : HasContent u.files m found
      content = has_content u.files m found is

      there : w.files found.spot.area found.spot.name ≡ Some content.bytes
      there = ap (λ (f : Files). f found.spot.area found.spot.name) lines_told.files ∙ content.there

      module _ (z : View) (size : ℕ) (count : size ≡ found.head.content_len) where
        near : found.head.content_at + size < 2 ^ 64
        near = subst (λ (n : ℕ). found.head.content_at + n < 2 ^ 64) (sym count) content.near

        bytes_are : take size (drop found.head.content_at content.bytes) ≡ m.content
        bytes_are = ap (λ (n : ℕ). take n (drop found.head.content_at content.bytes)) count ∙ content.content

        pub message_told : (found.head.content_at + size < 2 ^ 64 → (file : List ℕ) → bytes_at w found.spot ≡ Some file → TellsMore (take size (drop found.head.content_at file)) w z) → TellsMore (message_text u.files m) u z
        message_told tell = tells_on lines m.content u w z lines_told (subst (λ (t : List ℕ). TellsMore t w z) bytes_are (tell near content.bytes there))

        pub message_stops : (found.head.content_at + size < 2 ^ 64 → (file : List ℕ) → bytes_at w found.spot ≡ Some file → TellsFront (take size (drop found.head.content_at file)) w z) → TellsFront (message_text u.files m) u z
        message_stops tell = front_on lines m.content u w z lines_told (subst (λ (t : List ℕ). TellsFront t w z) bytes_are (tell near content.bytes there))

module _ (place : Place) (id : Id) (fault : Option ℕ) (file : List ℕ) (spot : Spot) (u v : View) (is : fault ≡ fault_of file) (here : bytes_at u spot ≡ Some file) (quiet : TellsMore [] u v) where
  same_lines : damage_lines place id fault ≡ damage_lines place id (fault_of file)
  same_lines = ap (damage_lines place id) is

  pub damage_waits : TellsFront (bytes_text place id file) u v
  damage_waits = front_none (bytes_text place id file) u v quiet

  module _ (w : View) where
    pub damage_begins : TellsFront (damage_lines place id fault) v w → TellsFront (bytes_text place id file) u w
    damage_begins part = front_more (damage_lines place id (fault_of file)) (sound_bytes file) u w
        (front_on [] (damage_lines place id (fault_of file)) u v w quiet (subst (λ (t : List ℕ). TellsFront t v w) same_lines part))

    module _ (told : TellsMore (damage_lines place id fault) v w) where
      begin_told : TellsMore (damage_lines place id (fault_of file)) u w
      begin_told = subst (λ (t : List ℕ). TellsMore t u w) same_lines (tells_on [] (damage_lines place id fault) u v w quiet told)

      still : bytes_at w spot ≡ Some file
      still = ap (λ (f : Files). f spot.area spot.name) begin_told.files ∙ here

      module _ (z : View) (size : ℕ) (count : size ≡ unwrap_or fault (length file)) where
        pub damage_told : ((more : List ℕ) → bytes_at w spot ≡ Some more → TellsMore (take size (drop 0 more)) w z) → TellsMore (bytes_text place id file) u z
        damage_told tell = tells_on (damage_lines place id (fault_of file)) (sound_bytes file) u w z begin_told (subst (λ (t : List ℕ). TellsMore t w z) (sound_part file fault size is count) (tell file still))

        pub damage_stops : ((more : List ℕ) → bytes_at w spot ≡ Some more → TellsFront (take size (drop 0 more)) w z) → TellsFront (bytes_text place id file) u z
        damage_stops tell = front_on (damage_lines place id (fault_of file)) (sound_bytes file) u w z begin_told (subst (λ (t : List ℕ). TellsFront t w z) (sound_part file fault size is count) (tell file still))
