-- What the files say of an id is what the book says, where the files stand for it.
use Rattle.std.proofs.Common.{◌≡◌, ℕ, ◌<◌, ◌+◌, Bool, true, false, cond, not, ◌&&◌, ◌||◌, eqb, List, [], ◌∷◌, length, map, is_some, Option, Some, None, refl, sym, ap, subst, ◌∙◌, ◌⊎◌, inl, inr, arith}
use Rattle.std.specs.List.{AllByRecursion, list_all, list_any}
use Rattle.std.specs.Option.{option_map_or}
use Rattle.std.specs.Prelude.{count_by, is_none, slice_get}
use Rattle.std.proofs.lemmas.Bool.{and_parts, or_cases}
use Rattle.std.proofs.lemmas.List.{length-map}
use Rattle.std.proofs.lemmas.List.Sums.{sum_by-cons}
use Rattle.q_core.specs.Agrees.{file_of, found_at, count_of_marked}
use Rattle.q_core.specs.declared.decision.FileFacts.{FileFacts}
use Rattle.q_core.specs.declared.decision.Found.TheVariants.{Damaged as DamagedFile, Whole}
use Rattle.q_laws.proofs.Books.{damaged_listed, message_in, message_listed, not_damaged, only_message}
use Rattle.q_laws.proofs.Distinct.{id_same}
use Rattle.q_laws.proofs.Members.{IsIn, all_at, any_from, any_in, find_one}
use Rattle.q_laws.proofs.Places.{places_mapped}
use Rattle.q_model.specs.declared.id.Id.{Id}
use Rattle.q_model.specs.declared.outcome.Failure.{Failure}
use Rattle.q_model.specs.declared.rows.Place.{Place}
use Rattle.q_model.specs.declared.rows.Place.TheVariants as places
use Rattle.q_model.specs.declared.spot.Area.TheVariants as areas
use Rattle.q_model.specs.Admissions.{cause_gone}
use Rattle.q_model.specs.Book.{Book, Damaged, all_ids, damaged_of, message_of, stands, stands_in}
use Rattle.q_model.specs.FailureLog.{failures_of}
use Rattle.q_model.specs.FilesStand.{DamagedStands, file_message, file_recipient, MessageStands, Stands}
use Rattle.q_model.specs.Finishing.{has_bounce}
use Rattle.q_model.specs.Ids.{bounce_of, cause_of, id_eq}
use Rattle.q_model.specs.IdTexts.{id_text, IsId}
use Rattle.q_model.specs.Ledger.{Ledger}
use Rattle.q_model.specs.Marks.{is_marked}
use Rattle.q_model.specs.Message.{Logged, Message, Recipient, is_logged, unmarked_logged}
use Rattle.q_model.specs.Orderly.{is_orderly, is_paired, is_sealed, is_sound}
use Rattle.q_model.specs.Places.{is_active, is_corrupt, is_incoming, place_eq}
use Rattle.q_model.specs.QueueFile.{FileMessage, FileRecipient, queue_file}
use Rattle.q_model.specs.QueueFileBytes.{IsFileOf}
use Rattle.q_model.specs.SpoolFiles.{file_at, Files, IsPlace, logged_in}
use Rattle.q_model.proofs.EachLaws.{any-map, find-any}
use Rattle.q_model.proofs.IdLaws.{id_eq-true}
use Rattle.q_model.proofs.QueueFileLaws.{queue_file_again}
use Rattle.q_model.proofs.SpotLaws.{place_eq-true}
use Rattle.q_model.proofs.StandChanges.{any-same}
use Rattle.q_model.proofs.StandRenames.{nowhere_else}
use Rattle.q_logfile.specs.Flags.{has_failed}
use Rattle.q_look.specs.Failures.{failed_in, unmarked_failed}
use Rattle.q_look.specs.FileFacts.{facts_in, found_in, has_bounce_in, stands_alone_in}
use Rattle.q_logfile.proofs.FlagLaws.{failures_have}
use Rattle.q_laws.proofs.Places.{places_within}

pub each_at : {A : Type 0} (P : A → Type 0) (x : A) (xs : List A) → AllByRecursion P xs → IsIn x xs → P x
each_at P x [] each h = absurd h
each_at P x (y ∷ ys) each (inl same) = subst P same each.0
each_at P x (y ∷ ys) each (inr h) = each_at P x ys each.1 h

-- ---- who stands at a place

-- a message or a damaged file that stands there
pub record IsMessageAt (b : Book) (p : Place) (id : Id) : Type 0 where
  pub message : Message
  pub inside : IsIn message b.messages
  pub same : message.id ≡ id
  pub place : p ≡ message.place

pub record IsDamagedAt (b : Book) (p : Place) (id : Id) : Type 0 where
  pub damaged : Damaged
  pub inside : IsIn damaged b.damaged
  pub same : damaged.id ≡ id
  pub place : p ≡ damaged.place

pub who_stands : (b : Book) (p : Place) (id : Id) → stands_in (place_eq p) b id ≡ true → IsMessageAt b p id ⊎ IsDamagedAt b p id
who_stands b p id h = elim (or_cases (list_any (λ (m : Message). id_eq m.id id && place_eq p m.place) b.messages) (list_any (λ (d : Damaged). id_eq d.id id && place_eq p d.place) b.damaged) h) [
  | inl whole ↦
      let one = any_in (λ (m : Message). id_eq m.id id && place_eq p m.place) b.messages whole in
      let two = and_parts (id_eq (one.0).id id) (place_eq p (one.0).place) one.2 in
      inl (record { message = one.0; inside = one.1; same = id_eq-true (one.0).id id two.0; place = place_eq-true p (one.0).place two.1 })
  | inr broken ↦
      let one = any_in (λ (d : Damaged). id_eq d.id id && place_eq p d.place) b.damaged broken in
      let two = and_parts (id_eq (one.0).id id) (place_eq p (one.0).place) one.2 in
      inr (record { damaged = one.0; inside = one.1; same = id_eq-true (one.0).id id two.0; place = place_eq-true p (one.0).place two.1 })
]

-- the id stands in the book
pub listed : (b : Book) (p : Place) (id : Id) → stands_in (place_eq p) b id ≡ true → IsIn id (all_ids b)
listed b p id h = elim (who_stands b p id h) [
  | inl m ↦ subst (λ (i : Id). IsIn i (all_ids b)) m.same (message_listed b m.message m.inside)
  | inr d ↦ subst (λ (i : Id). IsIn i (all_ids b)) d.same (damaged_listed b d.damaged d.inside)
]

pub stands_anywhere : (b : Book) (p : Place) (id : Id) → stands_in (place_eq p) b id ≡ true → stands b id ≡ true
stands_anywhere b p id h = elim (who_stands b p id h) [
  | inl m ↦ ap (λ (t : Bool). t || is_some (damaged_of b id)) (find-any (λ (x : Message). id_eq x.id id) b.messages ∙ any_from (λ (x : Message). id_eq x.id id) m.message b.messages m.inside (id_same m.message.id id m.same))
  | inr d ↦ ap (λ (t : Bool). is_some (message_of b id) || t) (find-any (λ (x : Damaged). id_eq x.id id) b.damaged ∙ any_from (λ (x : Damaged). id_eq x.id id) d.damaged b.damaged d.inside (id_same d.damaged.id id d.same)) ∙ or_true (is_some (message_of b id))
]
  where
    or_true : (t : Bool) → (t || true) ≡ true
    or_true true = refl
    or_true false = refl

module _ (f : Files) (b : Book) (h : Stands f b) where
  there : (p : Place) (id : Id) → stands_in (place_eq p) b id ≡ true → is_some (file_at f p id) ≡ true
  there p id at = elim (who_stands b p id at) [
    | inl m ↦
        let s = each_at (MessageStands f) m.message b.messages h.messages m.inside in
        ap is_some (ap (λ (q : Place). file_at f q id) m.place ∙ ap (file_at f m.message.place) (sym m.same) ∙ s.there)
    | inr d ↦
        let s = each_at (DamagedStands f) d.damaged b.damaged h.damaged d.inside in
        ap is_some (ap (λ (q : Place). file_at f q id) d.place ∙ ap (file_at f d.damaged.place) (sym d.same) ∙ s.there)
  ]

  -- a file stands at a place where the book says so
  pub stands_there : (p : Place) (id : Id) → IsPlace p → IsId id → is_some (file_at f p id) ≡ stands_in (place_eq p) b id
  stands_there p id hp hi = by (stands_in (place_eq p) b id) refl
    where
      by : (t : Bool) → stands_in (place_eq p) b id ≡ t → is_some (file_at f p id) ≡ stands_in (place_eq p) b id
      by true e = there p id e ∙ sym e
      by false e = ap is_some (nowhere_else f b id h hi p hp e) ∙ sym e

  is_file : (o : Option (List ℕ)) → is_some o ≡ true → (bytes : List ℕ) × (o ≡ Some bytes)
  is_file None e = absurd cc
  is_file (Some bytes) e = (bytes, refl)

  pub file_stands : (p : Place) (id : Id) → IsPlace p → IsId id → is_some (file_at f p id) ≡ true → stands_in (place_eq p) b id ≡ true
  file_stands p id hp hi e = sym (stands_there p id hp hi) ∙ e

  -- ---- the bounce, and the message that a bounce is of

  incoming_test : (p : Place) → place_eq places.Incoming p ≡ is_incoming p
  incoming_test places.Incoming = refl
  incoming_test places.Active = refl
  incoming_test (places.Deferred due) = refl
  incoming_test places.Hold = refl
  incoming_test places.Corrupt = refl

  active_place : (p : Place) → is_active p ≡ true → p ≡ places.Active
  active_place places.Active e = refl
  active_place places.Incoming e = absurd cc
  active_place (places.Deferred due) e = absurd cc
  active_place places.Hold e = absurd cc
  active_place places.Corrupt e = absurd cc

  bounce_id : (id : Id) → IsId id → IsId (bounce_of id)
  bounce_id id hi = record { generation = hi.generation; generation_fits = hi.generation_fits; serial = hi.serial; serial_fits = hi.serial_fits }

  cause_id : (id : Id) → IsId id → IsId (cause_of id)
  cause_id id hi = record { generation = hi.generation; generation_fits = hi.generation_fits; serial = hi.serial; serial_fits = hi.serial_fits }

  bounced : (l : Ledger) → l.book ≡ b → (id : Id) → IsId id → has_bounce_in f id ≡ has_bounce l id
  bounced l same id hi =
      stands_there places.Incoming (bounce_of id) tt (bounce_id id hi)
      ∙ ap (λ (t : Bool). t || list_any (λ (d : Damaged). id_eq d.id (bounce_of id) && place_eq places.Incoming d.place) b.damaged) (any-same (λ (m : Message). id_eq m.id (bounce_of id) && place_eq places.Incoming m.place) (λ m. id_eq m.id (bounce_of id) && is_incoming m.place) b.messages (λ m. ap (λ (t : Bool). id_eq m.id (bounce_of id) && t) (incoming_test m.place)))
      ∙ ap (λ (t : Bool). list_any (λ (m : Message). id_eq m.id (bounce_of id) && is_incoming m.place) b.messages || t) (any-same (λ (d : Damaged). id_eq d.id (bounce_of id) && place_eq places.Incoming d.place) (λ d. id_eq d.id (bounce_of id) && is_incoming d.place) b.damaged (λ d. ap (λ (t : Bool). id_eq d.id (bounce_of id) && t) (incoming_test d.place)))
      ∙ ap (λ (k : Book). stands_in is_incoming k (bounce_of id)) (sym same)

  active_message : (o : Option Message) (id : Id) → message_of b id ≡ o → option_map_or (λ (m : Message). is_active m.place && is_sealed m) o false ≡ true → stands_in (place_eq places.Active) b id ≡ true
  active_message None id e k = absurd cc
  active_message (Some m) id e k =
      let mine = message_in b id m e in
      let place : m.place ≡ places.Active = active_place m.place (and_parts (is_active m.place) (is_sealed m) k).0 in
      ap (λ (t : Bool). t || list_any (λ (d : Damaged). id_eq d.id id && place_eq places.Active d.place) b.damaged)
      (any_from (λ (x : Message). id_eq x.id id && place_eq places.Active x.place) m b.messages mine.0 (ap (λ (t : Bool). t && place_eq places.Active m.place) (id_same m.id id mine.1) ∙ ap (place_eq places.Active) place))

  -- a bounce whose message stands somewhere: the message is in active
  paired : (bounce there here said : Bool) → bounce ≡ true → there ≡ true → (not bounce || not there || (here && said)) ≡ true → said ≡ true
  paired true true here said e k all = (and_parts here said all).1
  paired true false here said e k all = absurd cc
  paired false there here said e k all = absurd cc

  gone : (id : Id) → IsId id → IsIn id (all_ids b) → is_orderly b ≡ true → id.bounce ≡ true → is_some (f areas.Active (id_text (cause_of id))) ≡ stands b (cause_of id)
  gone id hi inside orderly bounce = by (stands b (cause_of id)) refl
    where
      pair : is_paired b id ≡ true
      pair = (and_parts _ (is_paired b id) (all_at _ id (all_ids b) (and_parts _ (list_all (λ (m : Message). is_active m.place || is_sound m) b.messages) orderly).0 inside)).1

      by : (t : Bool) → stands b (cause_of id) ≡ t → is_some (f areas.Active (id_text (cause_of id))) ≡ stands b (cause_of id)
      by true e = there places.Active (cause_of id) (active_message (message_of b (cause_of id)) (cause_of id) refl (paired id.bounce (stands b (cause_of id)) (stands_in is_incoming b id) (option_map_or (λ (m : Message). is_active m.place && is_sealed m) (message_of b (cause_of id)) false) bounce e pair)) ∙ sym e
      by false e = none (is_some (f areas.Active (id_text (cause_of id)))) refl ∙ sym e
        where
          none : (t : Bool) → is_some (f areas.Active (id_text (cause_of id))) ≡ t → t ≡ false
          none true k = sym (stands_anywhere b places.Active (cause_of id) (file_stands places.Active (cause_of id) tt (cause_id id hi) k)) ∙ e
          none false k = refl

-- ---- what is said of a file

abbrev facts_of : ℕ → Bool → ℕ → ℕ → ℕ → Option ℕ → Bool → Bool → FileFacts
facts_of arrival null recipients marked failures unmarked bounced alone = record {
  arrival = arrival;
  null_sender = null;
  recipients = recipients;
  marked = marked;
  failures = failures;
  unmarked = unmarked;
  bounced = bounced;
  alone = alone;
}

same_facts : (x : ℕ) (s : Bool) (r r' k k' n n' : ℕ) (u u' : Option ℕ) (t t' a a' : Bool) → r ≡ r' → k ≡ k' → n ≡ n' → u ≡ u' → t ≡ t' → a ≡ a' → facts_of x s r k n u t a ≡ facts_of x s r' k' n' u' t' a'
same_facts x s r r' k k' n n' u u' t t' a a' er ek en eu et ea =
    ap (λ y. facts_of x s y k n u t a) er ∙ ap (λ y. facts_of x s r' y n u t a) ek ∙ ap (λ y. facts_of x s r' k' y u t a) en
    ∙ ap (λ y. facts_of x s r' k' n' y t a) eu ∙ ap (λ y. facts_of x s r' k' n' u' y a) et ∙ ap (λ y. facts_of x s r' k' n' u' t' y) ea

marks_read : (rs : List Recipient) → count_by (λ (r : FileRecipient). r.marked) (map file_recipient rs) ≡ count_by (λ (r : Recipient). is_marked r.mark) rs
marks_read [] = refl
marks_read (r ∷ rs) =
    sum_by-cons (λ (x : FileRecipient). cond x.marked 1 0) (file_recipient r) (map file_recipient rs)
    ∙ ap (λ (n : ℕ). cond (is_marked r.mark) 1 0 + n) (marks_read rs)
    ∙ sym (sum_by-cons (λ (x : Recipient). cond (is_marked x.mark) 1 0) r rs)

module _ (f : Files) (m : Message) (s : MessageStands f m) where
  failures_counted : length (failures_of (length m.recipients) (logged_in f m.id)) ≡ length m.failures
  failures_counted = ap (λ (gs : List Failure). length gs) (sym s.failures) ∙ length-map m.failures (λ (x : Logged). x.failure)

  failed_logged : (i : ℕ) → i < length m.recipients → has_failed (logged_in f m.id) i ≡ is_logged m i
  failed_logged i here =
      sym (failures_have (length m.recipients) i (logged_in f m.id) here)
      ∙ ap (λ (gs : List Failure). list_any (λ g. eqb g.position i) gs) (sym s.failures)
      ∙ any-map (λ (g : Failure). eqb g.position i) (λ (x : Logged). x.failure) m.failures

  unmarked_read : slice_get (unmarked_failed (logged_in f m.id) (file_message m).recipients) 0 ≡ slice_get (unmarked_logged m) 0
  unmarked_read = ap (λ (ps : List ℕ). slice_get ps 0)
      (places_mapped (λ i (r : FileRecipient). not r.marked && has_failed (logged_in f m.id) i) file_recipient 0 m.recipients
      ∙ places_within (λ i (r : Recipient). not (is_marked r.mark) && has_failed (logged_in f m.id) i) (λ i (r : Recipient). not (is_marked r.mark) && is_logged m i) 0 m.recipients
      (λ i r here. ap (λ (t : Bool). not (is_marked r.mark) && t) (failed_logged i (omega (arith, here)))))

  failed_read : (failed_in (logged_in f m.id) (file_message m)).count ≡ length m.failures
  failed_read = ap (λ (n : ℕ). length (failures_of n (logged_in f m.id))) (length-map m.recipients file_recipient) ∙ failures_counted

read_file : (bytes : List ℕ) (m : FileMessage) → IsFileOf bytes m → queue_file bytes ≡ Some m
read_file bytes m h = ap queue_file h.written ∙ queue_file_again m h.marks h.lawful h.agree

none_of : (b : Book) (id : Id) → ((m : Message) → message_of b id ≡ Some m → ⊥) → message_of b id ≡ None
none_of b id never = by (message_of b id) refl
  where
    by : (o : Option Message) → message_of b id ≡ o → o ≡ None
    by None e = refl
    by (Some m) e = absurd (never m e)

some_bytes : (x y : List ℕ) → Some x ≡ Some y → x ≡ y
some_bytes x y e = cc

module _ (f : Files) (l : Ledger) (h : Stands f l.book) (orderly : is_orderly l.book ≡ true) where
  alone : (id : Id) → IsId id → IsIn id (all_ids l.book) → stands_alone_in f id ≡ cause_gone l.book id
  alone id hi inside = by id.bounce refl
    where
      by : (t : Bool) → id.bounce ≡ t → not (id.bounce && is_some (f areas.Active (id_text (cause_of id)))) ≡ not (id.bounce && stands l.book (cause_of id))
      by true e = ap (λ (t : Bool). not (id.bounce && t)) (gone f l.book h id hi inside orderly e)
      by false e = ap (λ (t : Bool). not (t && is_some (f areas.Active (id_text (cause_of id))))) e ∙ sym (ap (λ (t : Bool). not (t && stands l.book (cause_of id))) e)

  facts_same : (m : Message) → IsIn m l.book.messages → MessageStands f m → facts_in f m.id (file_message m) ≡ file_of l m.id m
  facts_same m inside s =
      same_facts m.arrival (is_none m.sender) _ (length m.recipients) _ (count_of_marked m) _ (length m.failures) _ (slice_get (unmarked_logged m) 0) _ (has_bounce l m.id) _ (cause_gone l.book m.id)
      (length-map m.recipients file_recipient) (marks_read m.recipients) (failed_read f m s) (unmarked_read f m s) (bounced f l.book h l refl m.id s.id) (alone m.id s.id (message_listed l.book m inside))

  -- a file outside corrupt is what a look tells of its id
  pub found_same : (due : ℕ) (p : Place) (id : Id) (bytes : List ℕ) → IsPlace p → is_corrupt p ≡ false → IsId id → file_at f p id ≡ Some bytes → found_in f due id bytes ≡ found_at l due id
  found_same due p id bytes hp sound hi there =
      let at = h.nothing_else p id bytes hi hp there in
      elim (who_stands l.book p id at) [
        | inl m ↦
            let s = each_at (MessageStands f) m.message l.book.messages h.messages m.inside in
            let same_bytes : s.bytes ≡ bytes = some_bytes s.bytes bytes (sym s.there ∙ ap (λ (q : Place). file_at f q m.message.id) (sym m.place) ∙ ap (file_at f p) m.same ∙ there) in
            let reads : queue_file bytes ≡ Some (file_message m.message) = ap queue_file (sym same_bytes) ∙ read_file s.bytes (file_message m.message) s.reads in
            let one : message_of l.book id ≡ Some m.message = find_one (λ (x : Message). id_eq x.id id) m.message l.book.messages m.inside (id_same m.message.id id m.same) (λ x there here. only_message l.book h.distinct x m.message there m.inside (id_eq-true x.id id here ∙ sym m.same)) in
            ap (λ (o : Option FileMessage). option_map_or (λ x. Whole id due (facts_in f id x)) o (DamagedFile id due (stands_alone_in f id))) reads
            ∙ ap (λ (i : Id). Whole id due (facts_in f i (file_message m.message))) (sym m.same)
            ∙ ap (Whole id due) (facts_same m.message m.inside s)
            ∙ ap (λ (i : Id). Whole id due (file_of l i m.message)) m.same
            ∙ ap (λ (o : Option Message). option_map_or (λ x. Whole id due (file_of l id x)) o (DamagedFile id due (cause_gone l.book id))) (sym one)
        | inr d ↦
            let s = each_at (DamagedStands f) d.damaged l.book.damaged h.damaged d.inside in
            let same_bytes : s.bytes ≡ bytes = some_bytes s.bytes bytes (sym s.there ∙ ap (λ (q : Place). file_at f q d.damaged.id) (sym d.place) ∙ ap (file_at f p) d.same ∙ there) in
            let reads : queue_file bytes ≡ None = ap queue_file (sym same_bytes) ∙ s.unread (ap is_corrupt (sym d.place) ∙ sound) in
            let none : message_of l.book id ≡ None = none_of l.book id (λ m e. let mine = message_in l.book id m e in not_damaged l.book h.distinct m d.damaged mine.0 d.inside (mine.1 ∙ sym d.same)) in
            ap (λ (o : Option FileMessage). option_map_or (λ x. Whole id due (facts_in f id x)) o (DamagedFile id due (stands_alone_in f id))) reads
            ∙ ap (DamagedFile id due) (alone id hi (listed l.book p id at))
            ∙ ap (λ (o : Option Message). option_map_or (λ x. Whole id due (file_of l id x)) o (DamagedFile id due (cause_gone l.book id))) (sym none)
      ]
