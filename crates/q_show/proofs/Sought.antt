-- What stands under an id in a book, by what stands at the place where its file was found.
use Rattle.std.proofs.Common.{◌≡◌, ◌∙◌, ◌&&◌, Bool, true, false, List, None, Option, Some, option_map, ℕ, ap, inl, inr, ⊎_elim, refl, subst, sym, true≢false, if◌then◌else◌}
use Rattle.std.specs.List.{list_any}
use Rattle.std.specs.Prelude.{is_some, IfSome}
use Rattle.std.proofs.lemmas.Bool.{and_parts, or_cases}
use Rattle.q_books.specs.Spots.{spot_of}
use Rattle.q_host.specs.View.{View}
use Rattle.q_laws.proofs.Members.{any_in}
use Rattle.q_laws.proofs.Standing.{broken_here, IsHere, whole_here}
use Rattle.q_message.specs.FileHeads.{fault_at, head_of, IsFault, IsHead}
use Rattle.q_message.specs.Told.{bytes_at, IsThere, TellsOf}
use Rattle.q_model.specs.declared.id.Id.{Id}
use Rattle.q_model.specs.declared.rows.Place.{Place}
use Rattle.q_model.specs.Book.{Book, Damaged, damaged_of, message_of}
use Rattle.q_model.specs.FilesStand.{file_message, MessageStands, Stands}
use Rattle.q_model.specs.Ids.{id_eq}
use Rattle.q_model.specs.IdTexts.{IsId}
use Rattle.q_model.specs.Message.{Message}
use Rattle.q_model.specs.Places.{is_corrupt, place_eq}
use Rattle.q_model.specs.QueueFile.{FileMessage, queue_file}
use Rattle.q_model.specs.SpoolFiles.{file_at, Files, IsPlace}
use Rattle.q_model.specs.Values.{FileHead, Spot}
use Rattle.q_model.proofs.IdLaws.{id_eq-true}
use Rattle.q_model.proofs.SpotLaws.{place_eq-true}
use Rattle.q_model.proofs.StandChanges.{Stands-message}
use Rattle.q_model.proofs.StandDamaged.{Stands-damaged}
use Rattle.q_show.specs.declared.finding.Damage.{Damage}
use Rattle.q_show.specs.declared.finding.Sought.{Sought}
use Rattle.q_show.specs.declared.finding.Sought.TheVariants as sought
use Rattle.q_show.specs.Finding.{fault_of, is_file, IsDamage, IsFoundAt, IsSought, Says, StandsStill, whole_file}
use Rattle.q_walk.specs.declared.walk.Found.{Found}
use Rattle.q_walk.specs.Steps.{IsFileFound}
use Rattle.q_walk.proofs.Held.{read_file, same_bytes}

-- ---- bytes

none_by : (o : Option FileMessage) (head : FileHead) (n : ℕ) → option_map head_of o ≡ Some head → (if is_some o then None else Some n) ≡ None
none_by None head n h = absurd cc
none_by (Some m) head n h = refl

-- a file with a head has no fault
pub whole_bytes : (bytes : List ℕ) (head : FileHead) → IsHead head bytes → fault_of bytes ≡ None
whole_bytes bytes head is = none_by (queue_file bytes) head (fault_at bytes) is

-- a file with a fault has no head
pub faulty_bytes : (bytes : List ℕ) (n : ℕ) → IsFault n bytes → Some n ≡ fault_of bytes
faulty_bytes bytes n is = ap Some is.1 ∙ sym (ap (λ (o : Option FileMessage). if is_some o then None else Some (fault_at bytes)) is.0)

no_head : (bytes : List ℕ) (head : FileHead) → queue_file bytes ≡ None → IsHead head bytes → ⊥
no_head bytes head none is =
    let bad : option_map head_of None ≡ Some head = ap (option_map head_of) (sym none) ∙ is in
    absurd cc

-- the head is that of the message
same_head : (bytes : List ℕ) (head : FileHead) (m : FileMessage) → IsHead head bytes → queue_file bytes ≡ Some m → head ≡ head_of m
same_head bytes head m is reads =
    let both : Some head ≡ Some (head_of m) = sym is ∙ ap (option_map head_of) reads in
    some_same head (head_of m) both
  where
    some_same : (x y : FileHead) → Some x ≡ Some y → x ≡ y
    some_same x y h = cc

-- ---- what was read at a place

abbrev damage_of : Found → Damage
damage_of found = record { spot = found.spot; place = found.place; id = found.id; fault = None }

pub says_whole : (place : Place) (id : Id) (bytes : List ℕ) (found : Found) → IsFileFound place id bytes found → Says place id bytes (whole_file found)
says_whole place id bytes found is = by (is_corrupt found.place) refl
  where
    by : (t : Bool) → is_corrupt found.place ≡ t → Says place id bytes (if t then sought.Damaged (damage_of found) else sought.Message found)
    by true e = record {
      spot = is.spot;
      same_place = is.same_place;
      same_id = is.same_id;
      fault = sym (whole_bytes bytes found.head is.head);
      unread = λ sound. absurd (true≢false (sym e ∙ ap is_corrupt is.same_place ∙ sound));
    }
    by false e = (ap is_corrupt (sym is.same_place) ∙ e, is)

whole_told : (o : Option (List ℕ)) (head : FileHead) → IfSome o (IsHead head) → IfSome o (λ bytes. None ≡ fault_of bytes)
whole_told None head h = tt
whole_told (Some bytes) head h = sym (whole_bytes bytes head h)

pub still_whole : (tells : Bool) (v : View) (found : Found) → IsThere tells v found.spot → TellsOf tells v found.spot (IsHead found.head) → StandsStill tells v (whole_file found)
still_whole tells v found there told = by (is_corrupt found.place)
  where
    by : (t : Bool) → StandsStill tells v (if t then sought.Damaged (damage_of found) else sought.Message found)
    by true = (there, λ t. whole_told (bytes_at v found.spot) found.head (told t))
    by false = (there, told)

-- the bytes at a place, in files that are the same
told_here : (P : List ℕ → Type 0) (v w : View) (spot : Spot) (place : Place) (id : Id) (bytes : List ℕ) → w.files ≡ v.files → spot ≡ spot_of place id → file_at v.files place id ≡ Some bytes → IfSome (bytes_at w spot) P → P bytes
told_here P v w spot place id bytes same is there told =
    let here : bytes_at w spot ≡ Some bytes = ap (λ (f : Files). f spot.area spot.name) same ∙ ap (λ (s : Spot). v.files s.area s.name) is ∙ there in
    subst (λ (o : Option (List ℕ)). IfSome o P) here told

-- a file whose head was read
pub says_head : (v w : View) (spot : Spot) (place : Place) (id : Id) (bytes : List ℕ) (head : FileHead) → w.files ≡ v.files → spot ≡ spot_of place id → file_at v.files place id ≡ Some bytes
    → IfSome (bytes_at w spot) (IsHead head) → IsFileFound place id bytes (record { spot = spot; place = place; id = id; head = head })
says_head v w spot place id bytes head same is there told = record { spot = is; same_place = refl; same_id = refl; head = told_here (IsHead head) v w spot place id bytes same is there told }

-- one that breaks the form
pub says_fault : (v w : View) (spot : Spot) (place : Place) (id : Id) (bytes : List ℕ) (n : ℕ) → w.files ≡ v.files → spot ≡ spot_of place id → file_at v.files place id ≡ Some bytes
    → IfSome (bytes_at w spot) (IsFault n) → IsDamage place id bytes (record { spot = spot; place = place; id = id; fault = Some n })
says_fault v w spot place id bytes n same is there told =
    let fault = told_here (IsFault n) v w spot place id bytes same is there told in
    record { spot = is; same_place = refl; same_id = refl; fault = faulty_bytes bytes n fault; unread = λ sound. fault.0 }

fault_told : (o : Option (List ℕ)) (n : ℕ) → IfSome o (IsFault n) → IfSome o (λ bytes. Some n ≡ fault_of bytes)
fault_told None n h = tt
fault_told (Some bytes) n h = faulty_bytes bytes n h

-- the same, where the host tells
pub still_fault : (v w : View) (spot : Spot) (n : ℕ) → w.files ≡ v.files → IfSome (bytes_at w spot) (IsFault n) → IfSome (bytes_at v spot) (λ bytes. Some n ≡ fault_of bytes)
still_fault v w spot n same told = fault_told (bytes_at v spot) n (subst (λ (f : Files). IfSome (f spot.area spot.name) (IsFault n)) same told)

-- ---- the file at a place

is_there : (f : Files) (b : Book) (id : Id) (place : Place) (bytes : List ℕ) → Stands f b → IsId id → IsPlace place → file_at f place id ≡ Some bytes → IsHere b id place
is_there f b id place bytes h form fits there =
    ⊎_elim message damaged (or_cases (list_any (λ m. id_eq m.id id && place_eq place m.place) b.messages) (list_any (λ d. id_eq d.id id && place_eq place d.place) b.damaged) (h.nothing_else place id bytes form fits there))
  where
    message : list_any (λ m. id_eq m.id id && place_eq place m.place) b.messages ≡ true → IsHere b id place
    message any =
        let one = any_in (λ (m : Message). id_eq m.id id && place_eq place m.place) b.messages any in
        let two = and_parts (id_eq (one.0).id id) (place_eq place (one.0).place) one.2 in
        inl (one.0, one.1, id_eq-true (one.0).id id two.0, sym (place_eq-true place (one.0).place two.1))

    damaged : list_any (λ d. id_eq d.id id && place_eq place d.place) b.damaged ≡ true → IsHere b id place
    damaged any =
        let one = any_in (λ (d : Damaged). id_eq d.id id && place_eq place d.place) b.damaged any in
        let two = and_parts (id_eq (one.0).id id) (place_eq place (one.0).place) one.2 in
        inr (one.0, one.1, id_eq-true (one.0).id id two.0, sym (place_eq-true place (one.0).place two.1))

some_place : (o : Option Damaged) (place : Place) → option_map (λ (d : Damaged). d.place) o ≡ Some place → (d : Damaged) × (o ≡ Some d) × (d.place ≡ place)
some_place None place h = absurd cc
some_place (Some d) place h = (d, refl, cc)

file_there : (f : Files) (p q : Place) (i j : Id) (o : Option (List ℕ)) → p ≡ q → i ≡ j → file_at f q j ≡ o → file_at f p i ≡ o
file_there f p q i j o same_place same_id there = ap (λ (x : Place). file_at f x i) same_place ∙ ap (λ (x : Id). file_at f q x) same_id ∙ there

same_spot : (p q : Place) (i j : Id) → p ≡ q → i ≡ j → spot_of p i ≡ spot_of q j
same_spot p q i j same_place same_id = ap (λ (x : Place). spot_of x i) same_place ∙ ap (λ (x : Id). spot_of q x) same_id

module _ (f : Files) (b : Book) (id : Id) (place : Place) (bytes : List ℕ) (h : Stands f b) (there : file_at f place id ≡ Some bytes) where
  -- the message of the id has the bytes
  message_reads : (m : Message) → MessageStands f m → m.id ≡ id → m.place ≡ place → queue_file bytes ≡ Some (file_message m)
  message_reads m stands same_id same_place =
      let here : file_at f place id ≡ Some stands.bytes = file_there f place m.place id m.id (Some stands.bytes) (sym same_place) (sym same_id) stands.there in
      ap queue_file (same_bytes bytes stands.bytes (file_at f place id) there here) ∙ read_file stands.bytes (file_message m) stands.reads

  by_message : (m : Message) → message_of b id ≡ Some m → m.place ≡ place → (s : Sought) → Says place id bytes s → IsSought f b id s
  by_message m is same_place (sought.Message found) says =
      let one = Stands-message f b id m h is in
      let reads = message_reads m one.0 one.1 same_place in
      let file = says.1 in (
        m,
        is,
        record {
          stands = one.0;
          spot = file.spot ∙ same_spot place m.place id m.id (sym same_place) (sym one.1);
          id = file.same_id ∙ sym one.1;
          place = file.same_place ∙ sym same_place;
          head = same_head bytes found.head (file_message m) file.head reads;
        },
      )
  by_message m is same_place (sought.Damaged damage) says =
      let one = Stands-message f b id m h is in
      let reads = message_reads m one.0 one.1 same_place in
      let none = says.unread (ap is_corrupt (sym same_place) ∙ one.0.not_corrupt) in
      let bad : None ≡ Some (file_message m) = sym none ∙ reads in
      absurd cc
  by_message m is same_place sought.Nothing says = absurd says

  by_damaged : (d : Damaged) → message_of b id ≡ None → damaged_of b id ≡ Some d → d.place ≡ place → (s : Sought) → Says place id bytes s → IsSought f b id s
  by_damaged d none is same_place (sought.Message found) says =
      let one = Stands-damaged f b id d h is in
      let here : file_at f place id ≡ Some one.0.bytes = file_there f place d.place id d.id (Some one.0.bytes) (sym same_place) (sym one.1) one.0.there in
      let same : one.0.bytes ≡ bytes = same_bytes one.0.bytes bytes (file_at f place id) here there in
      let unread = ap queue_file (sym same) ∙ one.0.unread (ap is_corrupt same_place ∙ says.0) in
      absurd (no_head bytes found.head unread says.1.head)
  by_damaged d none is same_place (sought.Damaged damage) says =
      let one = Stands-damaged f b id d h is in (
        none,
        d,
        bytes,
        is,
        file_there f d.place place d.id id (Some bytes) same_place one.1 there,
        record {
          spot = says.spot ∙ same_spot place d.place id d.id (sym same_place) (sym one.1);
          same_place = says.same_place ∙ sym same_place;
          same_id = says.same_id ∙ sym one.1;
          fault = says.fault;
          unread = λ sound. says.unread (ap is_corrupt (sym same_place) ∙ sound);
        },
      )
  by_damaged d none is same_place sought.Nothing says = absurd says

some_bytes : (o : Option (List ℕ)) → is_some o ≡ true → (bytes : List ℕ) × (o ≡ Some bytes)
some_bytes None h = absurd cc
some_bytes (Some bytes) h = (bytes, refl)

-- a file was found there
pub sought_there : (f : Files) (b : Book) (id : Id) (place : Place) → Stands f b → IsId id → IsPlace place → is_file f id place ≡ true → (s : Sought)
    → ((bytes : List ℕ) → file_at f place id ≡ Some bytes → Says place id bytes s) → IsSought f b id s
sought_there f b id place h form fits there s says = by (message_of b id) refl
  where
    file : (bytes : List ℕ) × (file_at f place id ≡ Some bytes)
    file = some_bytes (file_at f place id) there

    here : IsHere b id place
    here = is_there f b id place file.0 h form fits file.1

    by : (o : Option Message) → message_of b id ≡ o → IsSought f b id s
    by (Some m) e = by_message f b id place file.0 h file.1 m e (whole_here b h.distinct id place m here e) s (says file.0 file.1)
    by None e =
        let d = some_place (damaged_of b id) place (broken_here b h.distinct id place here e) in
        by_damaged f b id place file.0 h file.1 d.0 e d.1 d.2 s (says file.0 file.1)

-- where neither is found, nothing is sought
nothing_by : (f : Files) (b : Book) (id : Id) → ((m : Message) → message_of b id ≡ Some m → ⊥) → ((d : Damaged) → damaged_of b id ≡ Some d → ⊥) → IsSought f b id sought.Nothing
nothing_by f b id no_message no_damaged = (by (message_of b id) refl, of (damaged_of b id) refl)
  where
    by : (o : Option Message) → message_of b id ≡ o → o ≡ None
    by None e = refl
    by (Some m) e = absurd (no_message m e)

    of : (o : Option Damaged) → damaged_of b id ≡ o → o ≡ None
    of None e = refl
    of (Some d) e = absurd (no_damaged d e)

missing : (f : Files) (id i : Id) (place : Place) (bytes : List ℕ) → i ≡ id → file_at f place i ≡ Some bytes → is_file f id place ≡ false → ⊥
missing f id i place bytes same there none =
    true≢false (sym (ap is_some (file_there f place place id i (Some bytes) refl (sym same) there)) ∙ none)

-- no file was found
pub sought_nowhere : (f : Files) (b : Book) (id : Id) → Stands f b → IsFoundAt f id None → IsSought f b id sought.Nothing
sought_nowhere f b id h none = nothing_by f b id
    (λ m is. let one = Stands-message f b id m h is in missing f id m.id m.place one.0.bytes one.1 one.0.there (none m.place one.0.place))
    (λ d is. let one = Stands-damaged f b id d h is in missing f id d.id d.place one.0.bytes one.1 one.0.there (none d.place one.0.place))

-- no file is named by such an id
pub sought_unnamed : (f : Files) (b : Book) (id : Id) → Stands f b → (IsId id → ⊥) → IsSought f b id sought.Nothing
sought_unnamed f b id h none = nothing_by f b id
    (λ m is. let one = Stands-message f b id m h is in none (subst IsId one.1 one.0.id))
    (λ d is. let one = Stands-damaged f b id d h is in none (subst IsId one.1 one.0.id))
