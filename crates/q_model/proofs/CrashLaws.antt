-- What a crash leaves of an orderly book is orderly.
use Rattle.std.proofs.Common.{◌≡◌, ℕ, ◌+◌, Bool, true, false, not, ◌&&◌, ◌||◌, List, [], ◌∷◌, ◌++◌, map, find, is_some, Option, Some, None, if◌then◌else◌, refl, sym, ap, ◌∙◌, inl, inr}
use Rattle.std.specs.List.{AllByRecursion, list_all, list_any}
use Rattle.std.specs.Option.{option_map_or}
use Rattle.std.specs.Prelude.{nat_le}
use Rattle.std.proofs.lemmas.Bool.{and_from, and_parts, or_cases, or_left, or_right, not-true}
use Rattle.q_model.specs.declared.id.Id.{Id}
use Rattle.q_model.specs.declared.rows.Mark.{Mark}
use Rattle.q_model.specs.declared.rows.Place.{Place}
use Rattle.q_model.specs.Book.{Book, Damaged, all_ids, message_of, stands, stands_in}
use Rattle.q_model.specs.Crashes.{EachTo, FailuresAfter, IsCrashOf, MarkAfter, MessageAfter, RecipientAfter}
use Rattle.q_model.specs.Ids.{cause_of, id_eq}
use Rattle.q_model.specs.Lists.{has_none, places_from}
use Rattle.q_model.specs.Marks.{is_marked, is_written}
use Rattle.q_model.specs.Message.{Logged, Message, Recipient, unmarked_logged, written_marks}
use Rattle.q_model.specs.Orderly.{has_firm_failures, is_lawful, is_orderly, is_paired, is_sealed, is_sound}
use Rattle.q_model.specs.Places.{is_active, is_corrupt, is_incoming}
use Rattle.q_model.specs.declared.rows.Mark.TheVariants as marks

-- ---- a message of which all is sure stays as it is

mark-kept : (old new : Mark) → MarkAfter old new → is_written old ≡ false → new ≡ old
mark-kept marks.Unmarked new h e = h
mark-kept marks.Written new h e = absurd cc
mark-kept marks.Synced new h e = h

abbrev recipient : List ℕ → Option (List ℕ) → Mark → Recipient
recipient address original mark = record { address = address; original = original; mark = mark }

recipient-kept : (old new : Recipient) → RecipientAfter old new → is_written old.mark ≡ false → new ≡ old
recipient-kept old new h e = ap (λ (a : List ℕ). recipient a new.original new.mark) h.address ∙ ap (λ (o : Option (List ℕ)). recipient old.address o new.mark) h.original ∙ ap (recipient old.address old.original) (mark-kept old.mark new.mark h.mark e)

recipients-kept : (olds news : List Recipient) → EachTo RecipientAfter olds news → AllByRecursion (λ r. is_written r.mark ≡ false) olds → news ≡ olds
recipients-kept [] [] h sure = refl
recipients-kept [] (n ∷ ns) h sure = absurd h
recipients-kept (o ∷ os) [] h sure = absurd h
recipients-kept (o ∷ os) (n ∷ ns) h sure = ap (λ (r : Recipient). r ∷ ns) (recipient-kept o n h.0 sure.0) ∙ ap (λ (rs : List Recipient). o ∷ rs) (recipients-kept os ns h.1 sure.1)

pub failures-kept : (olds news : List Logged) → FailuresAfter olds news → list_all (λ f. f.firm) olds ≡ true → news ≡ olds
failures-kept [] news h sure = h
failures-kept (f ∷ fs) news (inl kept) sure =
    let two = and_parts f.firm (list_all (λ (x : Logged). x.firm) fs) sure in
    let same : record f { firm = true } ≡ f = ap (λ (b : Bool). record f { firm = b }) (sym two.0) in
    kept.1 ∙ ap (λ (x : Logged). x ∷ kept.0) same ∙ ap (λ (xs : List Logged). f ∷ xs) (failures-kept fs kept.0 kept.2 two.1)
failures-kept (f ∷ fs) news (inr gone) sure =
    let two = and_parts f.firm (list_all (λ (x : Logged). x.firm) fs) sure in
    let firm : f.firm ≡ true = two.0 in
    let loose : f.firm ≡ false = gone.0 in
    absurd cc

abbrev message : Id → ℕ → Option (List ℕ) → ℕ → List ℕ → List Recipient → List Logged → Place → Message
message id version sender arrival content recipients failures place = record { id = id; version = version; sender = sender; arrival = arrival; content = content; recipients = recipients; failures = failures; place = place }

message-kept : (old new : Message) → MessageAfter old new → AllByRecursion (λ r. is_written r.mark ≡ false) old.recipients → has_firm_failures old ≡ true → new ≡ old
message-kept old new h sure firm =
    let rs = recipients-kept old.recipients new.recipients h.recipients sure in
    let fs = failures-kept old.failures new.failures h.failures firm in
    ap (λ x. message x new.version new.sender new.arrival new.content new.recipients new.failures new.place) h.id
    ∙ ap (λ x. message old.id x new.sender new.arrival new.content new.recipients new.failures new.place) h.version
    ∙ ap (λ x. message old.id old.version x new.arrival new.content new.recipients new.failures new.place) h.sender
    ∙ ap (λ x. message old.id old.version old.sender x new.content new.recipients new.failures new.place) h.arrival
    ∙ ap (λ x. message old.id old.version old.sender old.arrival x new.recipients new.failures new.place) h.content
    ∙ ap (λ x. message old.id old.version old.sender old.arrival old.content x new.failures new.place) rs
    ∙ ap (λ x. message old.id old.version old.sender old.arrival old.content old.recipients x new.place) fs
    ∙ ap (λ x. message old.id old.version old.sender old.arrival old.content old.recipients old.failures x) h.place

-- no written mark
one_unwritten : (n : ℕ) (r : Recipient) (rs : List Recipient) (t : Bool) → is_written r.mark ≡ t → has_none (if t then n ∷ places_from (n + 1) (λ i x. is_written x.mark) rs else places_from (n + 1) (λ i x. is_written x.mark) rs) ≡ true
    → (has_none (places_from (n + 1) (λ i x. is_written x.mark) rs) ≡ true → AllByRecursion (λ x. is_written x.mark ≡ false) rs) → AllByRecursion (λ x. is_written x.mark ≡ false) (r ∷ rs)
one_unwritten n r rs true e h rest = absurd cc
one_unwritten n r rs false e h rest = (e, rest h)

unwritten : (n : ℕ) (rs : List Recipient) → has_none (places_from n (λ i r. is_written r.mark) rs) ≡ true → AllByRecursion (λ r. is_written r.mark ≡ false) rs
unwritten n [] h = tt
unwritten n (r ∷ rs) h = one_unwritten n r rs (is_written r.mark) refl h (unwritten (n + 1) rs)

sealed_unwritten : (rs : List Recipient) → list_all (λ r. is_marked r.mark && not (is_written r.mark)) rs ≡ true → AllByRecursion (λ r. is_written r.mark ≡ false) rs
sealed_unwritten [] h = tt
sealed_unwritten (r ∷ rs) h =
    let two = and_parts (is_marked r.mark && not (is_written r.mark)) (list_all (λ (x : Recipient). is_marked x.mark && not (is_written x.mark)) rs) h in
    (not-true (is_written r.mark) (and_parts (is_marked r.mark) (not (is_written r.mark)) two.0).1, sealed_unwritten rs two.1)

sound-kept : (old new : Message) → MessageAfter old new → is_sound old ≡ true → new ≡ old
sound-kept old new h s =
    let two = and_parts (has_none (unmarked_logged old) && has_none (written_marks old)) (has_firm_failures old) s in
    let one = and_parts (has_none (unmarked_logged old)) (has_none (written_marks old)) two.0 in
    message-kept old new h (unwritten 0 old.recipients one.1) two.1

sealed-kept : (old new : Message) → MessageAfter old new → is_sealed old ≡ true → new ≡ old
sealed-kept old new h s =
    let two = and_parts (list_all (λ (r : Recipient). is_marked r.mark && not (is_written r.mark)) old.recipients) (has_firm_failures old) s in
    message-kept old new h (sealed_unwritten old.recipients two.0) two.1

-- ---- ids and places stay

ids-after : (olds news : List Message) → EachTo MessageAfter olds news → map (λ m. m.id) news ≡ map (λ m. m.id) olds
ids-after [] [] h = refl
ids-after [] (n ∷ ns) h = absurd h
ids-after (o ∷ os) [] h = absurd h
ids-after (o ∷ os) (n ∷ ns) h = ap (λ (i : Id). i ∷ map (λ m. m.id) ns) h.0.id ∙ ap (λ (is : List Id). o.id ∷ is) (ids-after os ns h.1)

places-after : (place : Place → Bool) (id : Id) (olds news : List Message) → EachTo MessageAfter olds news → list_any (λ m. id_eq m.id id && place m.place) news ≡ list_any (λ m. id_eq m.id id && place m.place) olds
places-after place id [] [] h = refl
places-after place id [] (n ∷ ns) h = absurd h
places-after place id (o ∷ os) [] h = absurd h
places-after place id (o ∷ os) (n ∷ ns) h =
    let tail : Bool = list_any (λ (m : Message). id_eq m.id id && place m.place) ns in
    ap (λ (i : Id). (id_eq i id && place n.place) || tail) h.0.id ∙ ap (λ (p : Place). (id_eq o.id id && place p) || tail) h.0.place
    ∙ ap (λ (t : Bool). (id_eq o.id id && place o.place) || t) (places-after place id os ns h.1)

-- what is found after the crash is what became of what was found before
abbrev pub FoundAfter : Option Message → Option Message → Type 0
FoundAfter None new = new ≡ None
FoundAfter (Some m) new = (n : Message) × (new ≡ Some n) × MessageAfter m n

first-after : (o n : Message) (old new : Option Message) (t u : Bool) → u ≡ t → MessageAfter o n → FoundAfter old new → FoundAfter (if t then Some o else old) (if u then Some n else new)
first-after o n old new true true e h rest = (n, refl, h)
first-after o n old new true false e h rest = absurd cc
first-after o n old new false true e h rest = absurd cc
first-after o n old new false false e h rest = rest

pub find-after : (id : Id) (olds news : List Message) → EachTo MessageAfter olds news → FoundAfter (find (λ m. id_eq m.id id) olds) (find (λ m. id_eq m.id id) news)
find-after id [] [] h = refl
find-after id [] (n ∷ ns) h = absurd h
find-after id (o ∷ os) [] h = absurd h
find-after id (o ∷ os) (n ∷ ns) h = first-after o n (find (λ m. id_eq m.id id) os) (find (λ m. id_eq m.id id) ns) (id_eq o.id id) (id_eq n.id id) (ap (λ (i : Id). id_eq i id) h.0.id) h.0 (find-after id os ns h.1)

some-after : (old new : Option Message) → FoundAfter old new → is_some new ≡ is_some old
some-after None new h = ap is_some h
some-after (Some m) new h = ap is_some h.1

good-after : (old new : Option Message) → FoundAfter old new → option_map_or (λ m. is_active m.place && is_sealed m) old false ≡ true → option_map_or (λ m. is_active m.place && is_sealed m) new false ≡ true
good-after None new h good = absurd cc
good-after (Some m) new h good =
    let same : h.0 ≡ m = sealed-kept m h.0 h.2 (and_parts (is_active m.place) (is_sealed m) good).1 in
    ap (λ (o : Option Message). option_map_or (λ (x : Message). is_active x.place && is_sealed x) o false) h.1 ∙ ap (λ (x : Message). is_active x.place && is_sealed x) same ∙ good

-- ---- orderly books

paired : (a b b2 s s2 o o2 : Bool) → b2 ≡ b → s2 ≡ s → (o ≡ true → o2 ≡ true) → (a || b || (s && o)) ≡ true → (a || b2 || (s2 && o2)) ≡ true
paired true b b2 s s2 o o2 eb es eo h = refl
paired false b b2 s s2 o o2 eb es eo h =
    elim (or_cases b (s && o) h) [
      | inl here ↦ or_left b2 (s2 && o2) (eb ∙ here)
      | inr there ↦ or_right b2 (s2 && o2) (and_from s2 o2 (es ∙ (and_parts s o there).0) (eo (and_parts s o there).1))
    ]

-- the same ids stand
pub stands-crash : (b c : Book) (id : Id) → IsCrashOf b c → stands c id ≡ stands b id
stands-crash b c id h =
    ap (λ (t : Bool). t || is_some (find (λ (d : Damaged). id_eq d.id id) c.damaged)) (some-after (message_of b id) (message_of c id) (find-after id b.messages c.messages h.messages))
    ∙ ap (λ (ds : List Damaged). is_some (message_of b id) || is_some (find (λ (d : Damaged). id_eq d.id id) ds)) h.damaged

stands_in-after : (place : Place → Bool) (b c : Book) (id : Id) → IsCrashOf b c → stands_in place c id ≡ stands_in place b id
stands_in-after place b c id h =
    ap (λ (t : Bool). t || list_any (λ (d : Damaged). id_eq d.id id && place d.place) c.damaged) (places-after place id b.messages c.messages h.messages)
    ∙ ap (λ (ds : List Damaged). list_any (λ (m : Message). id_eq m.id id && place m.place) b.messages || list_any (λ (d : Damaged). id_eq d.id id && place d.place) ds) h.damaged

paired-after : (b c : Book) (id : Id) → IsCrashOf b c → is_paired b id ≡ true → is_paired c id ≡ true
paired-after b c id h good =
    paired (not id.bounce) (not (stands b (cause_of id))) (not (stands c (cause_of id))) (stands_in is_incoming b id) (stands_in is_incoming c id)
    (option_map_or (λ m. is_active m.place && is_sealed m) (message_of b (cause_of id)) false) (option_map_or (λ m. is_active m.place && is_sealed m) (message_of c (cause_of id)) false)
    (ap not (stands-crash b c (cause_of id) h)) (stands_in-after is_incoming b c id h)
    (good-after (message_of b (cause_of id)) (message_of c (cause_of id)) (find-after (cause_of id) b.messages c.messages h.messages)) good

all_ids-after : (b c : Book) → IsCrashOf b c → all_ids c ≡ all_ids b
all_ids-after b c h = ap (λ (is : List Id). is ++ map (λ d. d.id) c.damaged) (ids-after b.messages c.messages h.messages) ∙ ap (λ (ds : List Damaged). map (λ m. m.id) b.messages ++ map (λ d. d.id) ds) h.damaged

all-weaker : {A : Type 0} (p q : A → Bool) (xs : List A) → ((x : A) → p x ≡ true → q x ≡ true) → list_all p xs ≡ true → list_all q xs ≡ true
all-weaker p q [] step h = refl
all-weaker p q (x ∷ xs) step h =
    let two = and_parts (p x) (list_all p xs) h in
    and_from (q x) (list_all q xs) (step x two.0) (all-weaker p q xs step two.1)

one-sound : (o n : Message) → MessageAfter o n → (is_active o.place || is_sound o) ≡ true → (is_active n.place || is_sound n) ≡ true
one-sound o n h good =
    elim (or_cases (is_active o.place) (is_sound o) good) [
      | inl active ↦ or_left (is_active n.place) (is_sound n) (ap is_active h.place ∙ active)
      | inr sound ↦ or_right (is_active n.place) (is_sound n) (ap is_sound (sound-kept o n h sound) ∙ sound)
    ]

sound-after : (olds news : List Message) → EachTo MessageAfter olds news → list_all (λ m. is_active m.place || is_sound m) olds ≡ true → list_all (λ m. is_active m.place || is_sound m) news ≡ true
sound-after [] [] h good = refl
sound-after [] (n ∷ ns) h good = absurd h
sound-after (o ∷ os) [] h good = absurd h
sound-after (o ∷ os) (n ∷ ns) h good =
    let two = and_parts (is_active o.place || is_sound o) (list_all (λ (m : Message). is_active m.place || is_sound m) os) good in
    and_from (is_active n.place || is_sound n) (list_all (λ (m : Message). is_active m.place || is_sound m) ns) (one-sound o n h.0 two.0) (sound-after os ns h.1 two.1)

pub is_orderly-crash : (b c : Book) → IsCrashOf b c → is_orderly b ≡ true → is_orderly c ≡ true
is_orderly-crash b c h good =
    let test = λ (k : Book) (id : Id). nat_le id.generation k.generation && is_paired k id in
    let two = and_parts (list_all (test b) (all_ids b)) (list_all (λ (m : Message). is_active m.place || is_sound m) b.messages) good in
    let each : list_all (test c) (all_ids b) ≡ true = all-weaker (test b) (test c) (all_ids b) (λ id k.
    let parts = and_parts (nat_le id.generation b.generation) (is_paired b id) k in
    and_from (nat_le id.generation c.generation) (is_paired c id) (ap (nat_le id.generation) h.generation ∙ parts.0) (paired-after b c id h parts.1)) two.0 in
    and_from (list_all (test c) (all_ids c)) (list_all (λ (m : Message). is_active m.place || is_sound m) c.messages)
    (ap (list_all (test c)) (all_ids-after b c h) ∙ each) (sound-after b.messages c.messages h.messages two.1)

pub is_lawful-crash : (b c : Book) → IsCrashOf b c → is_lawful b ≡ true → is_lawful c ≡ true
is_lawful-crash b c h good =
    let two = and_parts (is_orderly b) (list_all (λ (d : Damaged). is_corrupt d.place) b.damaged) good in
    and_from (is_orderly c) (list_all (λ (d : Damaged). is_corrupt d.place) c.damaged) (is_orderly-crash b c h two.0) (ap (λ (ds : List Damaged). list_all (λ (d : Damaged). is_corrupt d.place) ds) h.damaged ∙ two.1)
