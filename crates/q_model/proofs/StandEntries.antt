-- Files that stand for a book, when a recipient is marked or a failure is logged.
use Rattle.std.proofs.Common.{◌≡◌, ℕ, zero, suc, ◌+◌, ◌<◌, Bool, true, false, ◌&&◌, eqb, List, [], ◌∷◌, ◌++◌, length, map, set, take, drop, is_some, Some, if◌then◌else◌, refl, sym, ap, subst, ◌∙◌, arith}
use Rattle.std.specs.List.{enumerate_from}
use Rattle.std.specs.Option.{option_map_or}
use Rattle.std.proofs.lemmas.Bool.{and_parts, eq-eqb, ne_eqb}
use Rattle.std.proofs.lemmas.List.{map-append, length-map}
use Rattle.q_model.specs.declared.id.Id.{Id}
use Rattle.q_model.specs.declared.outcome.Failure.{Failure}
use Rattle.q_model.specs.declared.rows.Mark.{Mark}
use Rattle.q_model.specs.declared.rows.Place.{Place}
use Rattle.q_model.specs.Book.{Book, message_of}
use Rattle.q_model.specs.BookChanges.{change_message}
use Rattle.q_model.specs.FailureLog.{failures_of, log_records}
use Rattle.q_model.specs.FilesStand.{file_message, file_recipient, Stands}
use Rattle.q_model.specs.Ids.{id_eq}
use Rattle.q_model.specs.IdTexts.{id_text, IsId}
use Rattle.q_model.specs.Logs.{with_failure}
use Rattle.q_model.specs.Marking.{with_mark}
use Rattle.q_model.specs.Marks.{is_marked}
use Rattle.q_model.specs.Message.{is_logged, Logged, Message, Recipient}
use Rattle.q_model.specs.QueueFile.{FileMessage, FileRecipient}
use Rattle.q_model.specs.QueueFileBytes.{IsFileOf, mark_at, mark_recipient}
use Rattle.q_model.specs.SpoolFiles.{area_of, file_at, Files, IsPlace, logged_in, name_at}
use Rattle.q_model.specs.Places.{place_eq}
use Rattle.q_model.specs.QueueFileBytes.{with_mark_byte}
use Rattle.q_model.specs.declared.rows.Mark.TheVariants as marks
use Rattle.q_model.specs.declared.spot.Area.TheVariants as areas
use Rattle.q_model.proofs.EachLaws.{any-map}
use Rattle.q_model.proofs.FailuresLaws.{failures_of-push, has_position}
use Rattle.q_model.proofs.IdLaws.{id_eq-true, id_text-injective}
use Rattle.q_model.proofs.MarkLaws.{AreMarks-length, AreMarks-set, file_bytes-mark, IsFileMessage-mark, mark_written}
use Rattle.q_model.proofs.SpotLaws.{area_of-IsQueue, place_eq-true, same_spot}
use Rattle.q_model.proofs.StandChanges.{KeepsOthers, Stands-change, Stands-message}
use Rattle.q_model.proofs.StandLaws.{DamagedStands-kept, DamagedStands-other, IsSameBut, MessageStands-kept, MessageStands-other, same_test, true_false}

-- a file that changed but is still there
pub KeepsOthers-file : (f g : Files) (p : Place) (id : Id) → IsPlace p → IsId id → IsSameBut (area_of p) (name_at p id) f g → is_some (file_at g p id) ≡ is_some (file_at f p id) → KeepsOthers id f g
KeepsOthers-file f g p id hp hid same there = record {
  boot = λ n. same areas.Boot n (λ e. cc) (λ e. (area_of-IsQueue p).not_boot (sym e.0));
  messages = MessageStands-other f g p id hp hid same;
  damaged = DamagedStands-other f g p id hp hid same;
  names = λ q i hi hq. by q i hi hq (id_eq id i && place_eq q p) refl;
}
  where
    by : (q : Place) (i : Id) → IsId i → IsPlace q → (t : Bool) → (id_eq id i && place_eq q p) ≡ t → is_some (file_at g q i) ≡ is_some (file_at f q i)
    by q i hi hq true e =
        let two = and_parts (id_eq id i) (place_eq q p) e in
        let here : id ≡ i = id_eq-true id i two.0 in
        let place : q ≡ p = place_eq-true q p two.1 in
        subst (λ (k : Id). is_some (file_at g q k) ≡ is_some (file_at f q k)) here (subst (λ (r : Place). is_some (file_at g r id) ≡ is_some (file_at f r id)) (sym place) there)
    by q i hi hq false e =
        ap is_some (same (area_of q) (name_at q i) (area_of-IsQueue q).not_tmp (λ k. true_false (id_eq id i && place_eq q p) (same_test q p i id (same_spot q p i id hq hp hi hid k.0 k.1).0 (same_spot q p i id hq hp hi hid k.0 k.1).1) e))

-- a log that changed
pub KeepsOthers-log : (f g : Files) (id : Id) → IsId id → IsSameBut areas.Bounce (id_text id) f g → KeepsOthers id f g
KeepsOthers-log f g id hid same = record {
  boot = λ n. same areas.Boot n (λ e. cc) (λ e. boot_bounce e.0);
  messages = λ m apart h. MessageStands-kept f g m
      (same (area_of m.place) (name_at m.place m.id) (area_of-IsQueue m.place).not_tmp (λ e. (area_of-IsQueue m.place).not_bounce e.0))
      (same areas.Bounce (id_text m.id) (λ e. cc) (λ e. apart (id_text-injective m.id id h.id hid e.1)))
      h;
  damaged = λ d apart h. DamagedStands-kept f g d (same (area_of d.place) (name_at d.place d.id) (area_of-IsQueue d.place).not_tmp (λ e. (area_of-IsQueue d.place).not_bounce e.0)) h;
  names = λ q i hi hq. ap is_some (same (area_of q) (name_at q i) (area_of-IsQueue q).not_tmp (λ e. (area_of-IsQueue q).not_bounce e.0));
}
  where
    boot_bounce : areas.Boot ≡ areas.Bounce → ⊥
    boot_bounce e = cc

-- ---- a mark

-- the message with this mark at a position
abbrev pub set_mark : ℕ → Mark → (ℕ × Recipient) → Recipient
set_mark position mark r = if eqb r.0 position then record r.1 { mark = mark } else r.1

abbrev pub with_mark_of : ℕ → Mark → Message → Message
with_mark_of position mark m = record m { recipients = map (set_mark position mark) (enumerate_from 0 m.recipients) }

-- a mark that is written, as the entry `mark` says it
pub with_mark-is : (position : ℕ) (m : Message) → with_mark position m ≡ with_mark_of position marks.Written m
with_mark-is position m = refl

abbrev to_file : Recipient → FileRecipient
to_file r = file_recipient r

at_place : (n place : ℕ) (mark : Mark) (r : Recipient) → n ≡ place → to_file (set_mark place mark (n, r)) ≡ record { address = r.address; original = r.original; marked = is_marked mark }
at_place n place mark r e = ap (λ (t : Bool). to_file (if t then record r { mark = mark } else r)) (eq-eqb n place e)

not_at_place : (n place : ℕ) (mark : Mark) (r : Recipient) → (n ≡ place → ⊥) → to_file (set_mark place mark (n, r)) ≡ to_file r
not_at_place n place mark r e = ap (λ (t : Bool). to_file (if t then record r { mark = mark } else r)) (ne_eqb n place e)

file_marks-past : (rs : List Recipient) (n place : ℕ) (mark : Mark) → place < n → map to_file (map (set_mark place mark) (enumerate_from n rs)) ≡ map to_file rs
file_marks-past [] n place mark h = refl
file_marks-past (r ∷ rs) n place mark h =
    ap (λ (x : FileRecipient). x ∷ map to_file (map (set_mark place mark) (enumerate_from (n + 1) rs))) (not_at_place n place mark r (λ e. absurd (omega arith)))
    ∙ ap (λ (xs : List FileRecipient). to_file r ∷ xs) (file_marks-past rs (n + 1) place mark (omega arith))

file_marks : (rs : List Recipient) (n position place : ℕ) (mark : Mark) → place ≡ n + position → map to_file (map (set_mark place mark) (enumerate_from n rs)) ≡ with_mark_byte (map to_file rs) position (is_marked mark)
file_marks [] n position place mark e = refl
file_marks (r ∷ rs) n zero place mark e =
    ap (λ (x : FileRecipient). x ∷ map to_file (map (set_mark place mark) (enumerate_from (n + 1) rs))) (at_place n place mark r (omega arith))
    ∙ ap (λ (xs : List FileRecipient). record { address = r.address; original = r.original; marked = is_marked mark } ∷ xs) (file_marks-past rs (n + 1) place mark (omega arith))
file_marks (r ∷ rs) n (suc position) place mark e =
    ap (λ (x : FileRecipient). x ∷ map to_file (map (set_mark place mark) (enumerate_from (n + 1) rs))) (not_at_place n place mark r (λ k. absurd (omega arith)))
    ∙ ap (λ (xs : List FileRecipient). to_file r ∷ xs) (file_marks rs (n + 1) position place mark (omega arith))

length-marks : (rs : List Recipient) (n place : ℕ) (mark : Mark) → length (map (set_mark place mark) (enumerate_from n rs)) ≡ length rs
length-marks [] n place mark = refl
length-marks (r ∷ rs) n place mark = ap suc (length-marks rs (n + 1) place mark)

file_message-mark : (m : Message) (position : ℕ) (mark : Mark) → file_message (with_mark_of position mark m) ≡ mark_recipient (file_message m) position (is_marked mark)
file_message-mark m position mark = ap (λ (rs : List FileRecipient). record (file_message m) { recipients = rs }) (file_marks m.recipients 0 position position mark (omega arith))

-- a byte over a mark byte makes a queue file of the message with this mark
pub IsFileOf-mark : (bytes : List ℕ) (m : FileMessage) (position v : ℕ) → position < length m.recipients → IsFileOf bytes m → IsFileOf (take (mark_at m position) bytes ++ (v ∷ []) ++ drop (mark_at m position + 1) bytes) (mark_recipient m position (eqb v 68))
IsFileOf-mark bytes m position v here h = record {
  marks = set h.marks position v;
  lawful = IsFileMessage-mark m position (eqb v 68) h.lawful;
  agree = AreMarks-set m h.marks position v h.agree;
  written = ap (λ (xs : List ℕ). take (mark_at m position) xs ++ (v ∷ []) ++ drop (mark_at m position + 1) xs) h.written
      ∙ mark_written m h.marks position v here (AreMarks-length m h.marks h.agree)
      ∙ sym (file_bytes-mark m (set h.marks position v) position (eqb v 68));
}

-- A byte was written over a mark byte of a message's file: the files stand for the book with this mark, set where the byte is `D`.
pub Stands-mark : (f g : Files) (b : Book) (id : Id) (m : Message) (bytes : List ℕ) (position v : ℕ) (mark : Mark) → message_of b id ≡ Some m → position < length m.recipients → is_marked mark ≡ eqb v 68 → file_at f m.place id ≡ Some bytes
    → IsSameBut (area_of m.place) (name_at m.place id) f g
    → file_at g m.place id ≡ Some (take (mark_at (file_message m) position) bytes ++ (v ∷ []) ++ drop (mark_at (file_message m) position + 1) bytes)
    → Stands f b → Stands g (change_message b id (with_mark_of position mark))
Stands-mark f g b id m bytes position v mark found here is was same now h =
    let old = Stands-message f b id m h found in
    let hid : IsId id = subst IsId old.1 old.0.id in
    let file : old.0.bytes ≡ bytes = same_some old.0.bytes bytes (sym old.0.there ∙ ap (file_at f m.place) old.1 ∙ was) in
    let within : position < length (file_message m).recipients = omega (arith, length-map m.recipients to_file) in
    let read : IsFileOf bytes (file_message m) = subst (λ (xs : List ℕ). IsFileOf xs (file_message m)) file old.0.reads in
    let marked = IsFileOf-mark bytes (file_message m) position v within read in
    let says : mark_recipient (file_message m) position (eqb v 68) ≡ file_message (with_mark_of position mark m) = ap (mark_recipient (file_message m) position) (sym is) ∙ sym (file_message-mark m position mark) in
    let log : g areas.Bounce (id_text m.id) ≡ f areas.Bounce (id_text m.id) = same areas.Bounce (id_text m.id) (λ e. cc) (λ e. (area_of-IsQueue m.place).not_bounce (sym e.0)) in
    let there : is_some (file_at g m.place id) ≡ is_some (file_at f m.place id) = ap is_some now ∙ sym (ap is_some was) in
    Stands-change f g b id (with_mark_of position mark) m (record { id = λ x. refl; place = λ x. refl }) found (KeepsOthers-file f g m.place id old.0.place hid same there) (record {
      id = old.0.id;
      place = old.0.place;
      not_corrupt = old.0.not_corrupt;
      bytes = take (mark_at (file_message m) position) bytes ++ (v ∷ []) ++ drop (mark_at (file_message m) position + 1) bytes;
      there = ap (file_at g m.place) old.1 ∙ now;
      reads = subst (IsFileOf (take (mark_at (file_message m) position) bytes ++ (v ∷ []) ++ drop (mark_at (file_message m) position + 1) bytes)) says marked;
      failures = old.0.failures ∙ sym (ap (λ (n : ℕ). failures_of n (logged_in f m.id)) (length-marks m.recipients 0 position mark)) ∙ sym (ap (λ o. failures_of (length (with_mark_of position mark m).recipients) (option_map_or log_records o [])) log);
    }) h
  where
    same_some : (x y : List ℕ) → Some x ≡ Some y → x ≡ y
    same_some x y e = cc

-- ---- a failure

positions_new : (m : Message) (position : ℕ) → is_logged m position ≡ has_position position (map (λ l. l.failure) m.failures)
positions_new m position = sym (any-map (λ f. eqb f.position position) (λ (l : Logged). l.failure) m.failures)

-- A record was added to the records of an id's failure log: the files stand for the book with this failure.
pub Stands-log : (f g : Files) (b : Book) (id : Id) (m : Message) (bytes : List ℕ) (failure : Failure) → message_of b id ≡ Some m → failure.position < length m.recipients → is_logged m failure.position ≡ false
    → IsSameBut areas.Bounce (id_text id) f g → g areas.Bounce (id_text id) ≡ Some bytes → log_records bytes ≡ logged_in f id ++ failure ∷ []
    → Stands f b → Stands g (change_message b id (with_failure failure))
Stands-log f g b id m bytes failure found here new same now reads h =
    let old = Stands-message f b id m h found in
    let hid : IsId id = subst IsId old.1 old.0.id in
    let file : file_at g m.place m.id ≡ file_at f m.place m.id = same (area_of m.place) (name_at m.place m.id) (area_of-IsQueue m.place).not_tmp (λ e. (area_of-IsQueue m.place).not_bounce e.0) in
    let logged : logged_in g m.id ≡ logged_in f m.id ++ failure ∷ [] = ap (logged_in g) old.1 ∙ ap (λ o. option_map_or log_records o []) now ∙ reads ∙ ap (λ (i : Id). logged_in f i ++ failure ∷ []) (sym old.1) in
    let fresh : has_position failure.position (failures_of (length m.recipients) (logged_in f m.id)) ≡ false = ap (has_position failure.position) (sym old.0.failures) ∙ sym (positions_new m failure.position) ∙ new in
    Stands-change f g b id (with_failure failure) m (record { id = λ x. refl; place = λ x. refl }) found (KeepsOthers-log f g id hid same) (record {
      id = old.0.id;
      place = old.0.place;
      not_corrupt = old.0.not_corrupt;
      bytes = old.0.bytes;
      there = file ∙ old.0.there;
      reads = old.0.reads;
      failures = map-append (λ (l : Logged). l.failure) m.failures (record { failure = failure; firm = true } ∷ [])
          ∙ ap (λ (fs : List Failure). fs ++ failure ∷ []) old.0.failures
          ∙ sym (failures_of-push (length m.recipients) (logged_in f m.id) failure here fresh)
          ∙ ap (failures_of (length m.recipients)) (sym logged);
    }) h
