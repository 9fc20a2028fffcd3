-- The marks of a message are written, and synced: what the files stand for, and what a crash leaves of it.
use Rattle.std.proofs.Common.{◌≡◌, ◌<◌, ◌+◌, ℕ, Bool, true, false, List, [], ◌∷◌, ◌++◌, length, map, take, drop, Some, if◌then◌else◌, eqb, refl, sym, ap, subst, ◌∙◌, inl, inr, arith}
use Rattle.std.proofs.lemmas.List.{length-map}
use Rattle.std.specs.List.{AllByRecursion}
use Rattle.q_model.specs.declared.id.Id.{Id}
use Rattle.q_model.specs.declared.rows.Mark.{Mark}
use Rattle.q_model.specs.declared.rows.Mark.TheVariants as marks
use Rattle.q_model.specs.declared.rows.Place.{Place}
use Rattle.q_model.specs.Book.{Book, Damaged, message_of}
use Rattle.q_model.specs.BookChanges.{change_message}
use Rattle.q_model.specs.Crashes.{EachTo, IsCrashOf, MarkAfter, MessageAfter, RecipientAfter}
use Rattle.q_model.specs.FilesStand.{file_message, file_recipient, Stands}
use Rattle.q_model.specs.Ids.{id_eq}
use Rattle.q_model.specs.Marking.{with_mark}
use Rattle.q_model.specs.Marks.{is_marked, sync_mark}
use Rattle.q_model.specs.Message.{Message, Recipient}
use Rattle.q_model.specs.QueueFile.{FileMessage, FileRecipient, queue_file}
use Rattle.q_model.specs.QueueFileBytes.{IsFileOf, mark_at}
use Rattle.q_model.specs.SpoolFiles.{area_of, file_at, Files, name_at}
use Rattle.q_model.specs.Syncs.{sync_all}
use Rattle.q_model.proofs.CrashChanges.{crash-mark, crash-message, IsSure, mark_at-after, recipients-length}
use Rattle.q_model.proofs.MarkLaws.{AreMarks-length, mark_within}
use Rattle.q_model.proofs.QueueFileLaws.{queue_file_again}
use Rattle.q_model.proofs.StandChanges.{distinct-front, IsOnly, only_one, Stands-message}
use Rattle.q_model.proofs.StandEntries.{Stands-mark, with_mark_of}
use Rattle.q_model.proofs.StandLaws.{IsSameBut}
use Rattle.q_model.proofs.StandReads.{ReadsSame, Stands-reads}

abbrev to_file : Recipient → FileRecipient
to_file r = file_recipient r

some_message : (x y : FileMessage) → Some x ≡ Some y → x ≡ y
some_message x y e = cc

-- bytes are the file of one message alone
same_message : (bytes : List ℕ) (x y : FileMessage) → IsFileOf bytes x → IsFileOf bytes y → x ≡ y
same_message bytes x y p q = some_message x y (sym (queue_file_again x p.marks p.lawful p.agree) ∙ ap queue_file (sym p.written ∙ q.written) ∙ queue_file_again y q.marks q.lawful q.agree)

-- ---- marks that are read are sure

sure_after : (was is : Mark) → MarkAfter was is → is_marked is ≡ is_marked was → MarkAfter (sync_mark was) is
sure_after marks.Unmarked is h same = h
sure_after marks.Written is (inl gone) same = absurd (no (sym (ap is_marked gone) ∙ same))
  where
    no : false ≡ true → ⊥
    no e = cc
sure_after marks.Written is (inr kept) same = kept
sure_after marks.Synced is h same = h

same_head : (r s : FileRecipient) (rs ss : List FileRecipient) → s ∷ ss ≡ r ∷ rs → (s.marked ≡ r.marked) × (ss ≡ rs)
same_head r s rs ss e = (cc, cc)

all_sure : (rs ss : List Recipient) → EachTo RecipientAfter rs ss → map to_file ss ≡ map to_file rs → EachTo RecipientAfter (map (λ (r : Recipient). record r { mark = sync_mark r.mark }) rs) ss
all_sure [] [] h same = tt
all_sure [] (s ∷ ss) h same = absurd h
all_sure (r ∷ rs) [] h same = absurd h
all_sure (r ∷ rs) (s ∷ ss) h same =
    let two = same_head (to_file r) (to_file s) (map to_file rs) (map to_file ss) same in
    (record { address = h.0.address; original = h.0.original; mark = sure_after r.mark s.mark h.0.mark two.0 }, all_sure rs ss h.1 two.1)

synced_after : (m n : Message) → MessageAfter m n → file_message n ≡ file_message m → MessageAfter (sync_all m) n
synced_after m n h same = record {
  id = h.id;
  version = h.version;
  sender = h.sender;
  arrival = h.arrival;
  content = h.content;
  place = h.place;
  recipients = all_sure m.recipients n.recipients h.recipients (ap (λ (x : FileMessage). x.recipients) same);
  failures = h.failures;
}

one_synced : (id : Id) (m n x y : Message) (t : Bool) → id_eq x.id id ≡ t → IsOnly id m x → IsOnly id n y → MessageAfter (sync_all m) n → MessageAfter x y → MessageAfter (if t then sync_all x else x) y
one_synced id m n x y true e first second sure h =
    let there : id_eq y.id id ≡ true = ap (λ (i : Id). id_eq i id) h.id ∙ e in
    subst (λ (z : Message). MessageAfter (sync_all z) y) (sym (first e)) (subst (MessageAfter (sync_all m)) (sym (second there)) sure)
one_synced id m n x y false e first second sure h = h

each_synced : (id : Id) (m n : Message) (xs ys : List Message) → AllByRecursion (IsOnly id m) xs → AllByRecursion (IsOnly id n) ys → MessageAfter (sync_all m) n → EachTo MessageAfter xs ys → EachTo MessageAfter (map (λ (x : Message). if id_eq x.id id then sync_all x else x) xs) ys
each_synced id m n [] [] first second sure h = tt
each_synced id m n [] (y ∷ ys) first second sure h = absurd h
each_synced id m n (x ∷ xs) [] first second sure h = absurd h
each_synced id m n (x ∷ xs) (y ∷ ys) first second sure h = (one_synced id m n x y (id_eq x.id id) refl first.0 second.0 sure h.0, each_synced id m n xs ys first.1 second.1 sure h.1)

-- ---- reads can't tell

reads_sync : (k : Mark) → is_marked (sync_mark k) ≡ is_marked k
reads_sync marks.Unmarked = refl
reads_sync marks.Written = refl
reads_sync marks.Synced = refl

file_sync : (rs : List Recipient) → map to_file (map (λ (r : Recipient). record r { mark = sync_mark r.mark }) rs) ≡ map to_file rs
file_sync [] = refl
file_sync (r ∷ rs) = ap (λ (t : Bool). record { address = r.address; original = r.original; marked = t } ∷ map to_file (map (λ (x : Recipient). record x { mark = sync_mark x.mark }) rs)) (reads_sync r.mark) ∙ ap (λ (xs : List FileRecipient). to_file r ∷ xs) (file_sync rs)

one_reads : (x : Message) (t : Bool) → ReadsSame x (if t then sync_all x else x)
one_reads x true = record { id = refl; place = refl; says = ap (λ (rs : List FileRecipient). record (file_message x) { recipients = rs }) (file_sync x.recipients); failures = refl }
one_reads x false = record { id = refl; place = refl; says = refl; failures = refl }

each_reads : (id : Id) (ms : List Message) → EachTo ReadsSame ms (map (λ (x : Message). if id_eq x.id id then sync_all x else x) ms)
each_reads id [] = tt
each_reads id (x ∷ xs) = (one_reads x (id_eq x.id id), each_reads id xs)

pub Stands-sync : (f : Files) (b : Book) (id : Id) → Stands f b → Stands f (change_message b id sync_all)
Stands-sync f b id h = Stands-reads f b (change_message b id sync_all) refl refl (each_reads id b.messages) h

-- ---- a sync

-- The file of a message was synced: what a crash leaves of a book, with this file as reads give it, it leaves of the book with these marks synced.
pub crash-sync : (f g : Files) (b k : Book) (id : Id) (m : Message) → message_of b id ≡ Some m → Stands f b → IsCrashOf b k → Stands g k → file_at g m.place id ≡ file_at f m.place id → IsCrashOf (change_message b id sync_all) k
crash-sync f g b k id m found reads after left whole =
    let next = crash-message b k id m after found in
    let n = next.0 in
    let here = Stands-message f b id m reads found in
    let there = Stands-message g k id n left next.1 in
    let file : file_at g n.place n.id ≡ file_at f m.place m.id = ap (λ (p : Place). file_at g p n.id) next.2.place ∙ ap (file_at g m.place) there.1 ∙ whole ∙ sym (ap (file_at f m.place) here.1) in
    let bytes : there.0.bytes ≡ here.0.bytes = some_bytes there.0.bytes here.0.bytes (sym there.0.there ∙ file ∙ here.0.there) in
    let says : file_message n ≡ file_message m = same_message here.0.bytes (file_message n) (file_message m) (subst (λ (xs : List ℕ). IsFileOf xs (file_message n)) bytes there.0.reads) here.0.reads in
    record {
      generation = after.generation;
      damaged = after.damaged;
      messages = each_synced id m n b.messages k.messages (only f b m reads found) (only g k n left next.1) (synced_after m n next.2 says) after.messages;
    }
  where
    some_bytes : (x y : List ℕ) → Some x ≡ Some y → x ≡ y
    some_bytes x y e = cc

    only : (e : Files) (c : Book) (x : Message) → Stands e c → message_of c id ≡ Some x → AllByRecursion (IsOnly id x) c.messages
    only e c x h there = only_one c.messages id x (distinct-front (map (λ (y : Message). y.id) c.messages) (map (λ (d : Damaged). d.id) c.damaged) h.distinct) there

-- ---- a mark

-- the mark's place is in the file
pub mark-in_file : (f : Files) (k : Book) (id : Id) (x : Message) (position at : ℕ) (file : List ℕ) → message_of k id ≡ Some x → position < length x.recipients → at ≡ mark_at (file_message x) position → file_at f x.place id ≡ Some file → Stands f k → at < length file
mark-in_file f k id x position at file found here is was h =
    let old = Stands-message f k id x h found in
    let same : old.0.bytes ≡ file = some_same old.0.bytes file (sym old.0.there ∙ ap (file_at f x.place) old.1 ∙ was) in
    let count : length old.0.reads.marks ≡ length (file_message x).recipients = AreMarks-length (file_message x) old.0.reads.marks old.0.reads.agree in
    let inside = mark_within (file_message x) old.0.reads.marks position (omega (arith, length-map x.recipients to_file, here)) count in
    subst (λ (n : ℕ). n < length file) (sym is) (subst (λ (bytes : List ℕ). mark_at (file_message x) position < length bytes) (sym old.0.reads.written ∙ same) inside)
  where
    some_same : (x y : List ℕ) → Some x ≡ Some y → x ≡ y
    some_same x y e = cc

-- the mark that a byte is
abbrev sure_mark : Bool → Mark
sure_mark true = marks.Synced
sure_mark false = marks.Unmarked

is_sure : (t : Bool) → IsSure (sure_mark t)
is_sure true = inr refl
is_sure false = inl refl

is_set : (t : Bool) → is_marked (sure_mark t) ≡ t
is_set true = refl
is_set false = refl

-- A crash cut the write of a mark short: whatever byte stands at the mark's place, the files stand for what a crash may leave of the book with the mark.
pub Stands-mark_crash : (f g : Files) (b k : Book) (id : Id) (m : Message) (position at byte : ℕ) (file : List ℕ) → message_of b id ≡ Some m → position < length m.recipients → at ≡ mark_at (file_message m) position → IsCrashOf b k
    → file_at f m.place id ≡ Some file → IsSameBut (area_of m.place) (name_at m.place id) f g → file_at g m.place id ≡ Some (take at file ++ (byte ∷ []) ++ drop (at + 1) file)
    → Stands f k → (l : Book) × IsCrashOf (change_message b id (with_mark position)) l × Stands g l
Stands-mark_crash f g b k id m position at byte file found here is after was same now h =
    let next = crash-message b k id m after found in
    let x = next.0 in
    let mark = sure_mark (eqb byte 68) in
    let place : x.place ≡ m.place = next.2.place in
    let count : position < length x.recipients = omega (arith, here, recipients-length m.recipients x.recipients next.2.recipients) in
    let spot : at ≡ mark_at (file_message x) position = is ∙ sym (mark_at-after m x position next.2) in (
      change_message k id (with_mark_of position mark),
      crash-mark b k id position mark (is_sure (eqb byte 68)) after,
      Stands-mark f g k id x file position byte mark next.1 count (is_set (eqb byte 68)) (ap (λ (p : Place). file_at f p id) place ∙ was)
          (subst (λ (p : Place). IsSameBut (area_of p) (name_at p id) f g) (sym place) same)
          (ap (λ (p : Place). file_at g p id) place ∙ now ∙ ap (λ (n : ℕ). Some (take n file ++ (byte ∷ []) ++ drop (n + 1) file)) spot) h,
    )
