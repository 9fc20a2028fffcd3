-- What stays as it was where one message of the book changes, and keeps its name and place.
use Rattle.std.proofs.Common.{◌≡◌, ℕ, ◌+◌, Bool, true, false, List, [], ◌∷◌, ◌++◌, map, refl, ap, ◌∙◌, Option, Some, None, option_map}
use Rattle.std.specs.Prelude.{filter, filter_map, not, ◌&&◌, ◌||◌, is_some, if◌then◌else◌}
use Rattle.std.specs.List.{list_any, cons_option}
use Rattle.q_core.proofs.ListLaws.{filter-map, filter-same, find-map, find-same, list_any-map, list_any-same, map-same}
use Rattle.q_model.specs.Book.{Book, damaged_of, ids_at, message_of, stands, stands_in}
use Rattle.q_model.specs.BookChanges.{change_message}
use Rattle.q_model.specs.Ids.{id_eq}
use Rattle.q_model.specs.Lists.{places_from}
use Rattle.q_model.specs.Marks.{is_marked, is_written, sync_mark}
use Rattle.q_model.specs.Message.{Message, Recipient, is_logged, pending, unmarked_logged, written_marks}
use Rattle.q_model.specs.Scans.{deferred_name, deferred_names}
use Rattle.q_model.specs.Syncs.{sync_all}
use Rattle.q_model.specs.declared.id.Id.{Id}
use Rattle.q_model.specs.declared.rows.Mark.{Mark}
use Rattle.q_model.specs.declared.rows.Place.{Place}
use Rattle.q_model.specs.declared.rows.Mark.TheVariants as marks
use Rattle.q_model.specs.Book.{Damaged as DamagedFile}

-- the change keeps the name and the place
pub record KeepsPlace (f : Message → Message) : Type 0 where
  pub name : (m : Message) → (f m).id ≡ m.id
  pub place : (m : Message) → (f m).place ≡ m.place

-- the message changed, where it is the one of this id
abbrev pub changed : Id → (Message → Message) → Message → Message
changed id f m = if id_eq m.id id then f m else m

name_of : (b : Bool) (f : Message → Message) → KeepsPlace f → (m : Message) → (if b then f m else m).id ≡ m.id
name_of true f k m = k.name m
name_of false f k m = refl

place_of : (b : Bool) (f : Message → Message) → KeepsPlace f → (m : Message) → (if b then f m else m).place ≡ m.place
place_of true f k m = k.place m
place_of false f k m = refl

pub changed_name : (id : Id) (f : Message → Message) → KeepsPlace f → (m : Message) → (changed id f m).id ≡ m.id
changed_name id f k m = name_of (id_eq m.id id) f k m

pub changed_place : (id : Id) (f : Message → Message) → KeepsPlace f → (m : Message) → (changed id f m).place ≡ m.place
changed_place id f k m = place_of (id_eq m.id id) f k m

pub message_of-change : (b : Book) (id k : Id) (f : Message → Message) → KeepsPlace f → message_of (change_message b id f) k ≡ option_map (changed id f) (message_of b k)
message_of-change b id k f keeps =
    find-map (λ (m : Message). id_eq m.id k) (changed id f) b.messages
    ∙ ap (option_map (changed id f)) (find-same (λ m. id_eq (changed id f m).id k) (λ m. id_eq m.id k) (λ m. ap (λ i. id_eq i k) (changed_name id f keeps m)) b.messages)

some_mapped : {A B : Type 0} (f : A → B) (o : Option A) → is_some (option_map f o) ≡ is_some o
some_mapped f None = refl
some_mapped f (Some x) = refl

pub stands-change : (b : Book) (id k : Id) (f : Message → Message) → KeepsPlace f → stands (change_message b id f) k ≡ stands b k
stands-change b id k f keeps = ap (λ z. z || is_some (damaged_of b k)) (ap is_some (message_of-change b id k f keeps) ∙ some_mapped (changed id f) (message_of b k))

pub stands_in-change : (place : Place → Bool) (b : Book) (id k : Id) (f : Message → Message) → KeepsPlace f → stands_in place (change_message b id f) k ≡ stands_in place b k
stands_in-change place b id k f keeps =
    ap (λ z. z || list_any (λ (d : DamagedFile). id_eq d.id k && place d.place) b.damaged)
    (list_any-map (λ (m : Message). id_eq m.id k && place m.place) (changed id f) b.messages
    ∙ list_any-same (λ m. id_eq (changed id f m).id k && place (changed id f m).place) (λ m. id_eq m.id k && place m.place)
    (λ m. ap (λ i. id_eq i k && place (changed id f m).place) (changed_name id f keeps m) ∙ ap (λ p. id_eq m.id k && place p) (changed_place id f keeps m)) b.messages)

pub map-twice : {A B C : Type 0} (g : B → C) (f : A → B) (xs : List A) → map g (map f xs) ≡ map (λ x. g (f x)) xs
map-twice g f [] = refl
map-twice g f (x ∷ xs) = ap (λ ys. g (f x) ∷ ys) (map-twice g f xs)

pub ids_at-change : (place : Place → Bool) (b : Book) (id : Id) (f : Message → Message) → KeepsPlace f → ids_at place (change_message b id f) ≡ ids_at place b
ids_at-change place b id f keeps =
    ap (λ ids. ids ++ map (λ (d : DamagedFile). d.id) (filter (λ (d : DamagedFile). place d.place) b.damaged))
    (ap (map (λ (m : Message). m.id)) (filter-map (λ (m : Message). place m.place) (changed id f) b.messages)
    ∙ map-twice (λ (m : Message). m.id) (changed id f) (filter (λ m. place (changed id f m).place) b.messages)
    ∙ map-same (λ m. (changed id f m).id) (λ (m : Message). m.id) (changed_name id f keeps) (filter (λ m. place (changed id f m).place) b.messages)
    ∙ ap (map (λ (m : Message). m.id)) (filter-same (λ m. place (changed id f m).place) (λ m. place m.place) (λ m. ap place (changed_place id f keeps m)) b.messages))

names_changed : (id : Id) (f : Message → Message) → KeepsPlace f → (ms : List Message) →
    filter_map (λ (m : Message). deferred_name m.place m.id) (map (changed id f) ms) ≡ filter_map (λ (m : Message). deferred_name m.place m.id) ms
names_changed id f keeps [] = refl
names_changed id f keeps (m ∷ ms) =
    ap (λ p. cons_option (deferred_name p (changed id f m).id) (filter_map (λ (x : Message). deferred_name x.place x.id) (map (changed id f) ms))) (changed_place id f keeps m)
    ∙ ap (λ i. cons_option (deferred_name m.place i) (filter_map (λ (x : Message). deferred_name x.place x.id) (map (changed id f) ms))) (changed_name id f keeps m)
    ∙ ap (cons_option (deferred_name m.place m.id)) (names_changed id f keeps ms)

pub deferred_names-change : (b : Book) (id : Id) (f : Message → Message) → KeepsPlace f → deferred_names (change_message b id f) ≡ deferred_names b
deferred_names-change b id f keeps = ap (λ ns. ns ++ filter_map (λ (d : DamagedFile). deferred_name d.place d.id) b.damaged) (names_changed id f keeps b.messages)

-- places of a list whose elements changed, by a test that can't tell
pub place_step : (b c : Bool) (n : ℕ) (ns ms : List ℕ) → b ≡ c → ns ≡ ms → (if b then n ∷ ns else ns) ≡ (if c then n ∷ ms else ms)
place_step b c n ns ms e h = ap (λ z. if z then n ∷ ns else ns) e ∙ ap (λ zs. if c then n ∷ zs else zs) h

pub places-map : {A B : Type 0} (p : ℕ → B → Bool) (q : ℕ → A → Bool) (f : A → B) → ((i : ℕ) (x : A) → p i (f x) ≡ q i x) → (n : ℕ) (xs : List A) → places_from n p (map f xs) ≡ places_from n q xs
places-map p q f h n [] = refl
places-map p q f h n (x ∷ xs) = place_step (p n (f x)) (q n x) n (places_from (n + 1) p (map f xs)) (places_from (n + 1) q xs) (h n x) (places-map p q f h (n + 1) xs)

pub no_places : {A : Type 0} (p : ℕ → A → Bool) → ((i : ℕ) (x : A) → p i x ≡ false) → (n : ℕ) (xs : List A) → places_from n p xs ≡ []
no_places p h n [] = refl
no_places p h n (x ∷ xs) = ap (λ z. if z then n ∷ places_from (n + 1) p xs else places_from (n + 1) p xs) (h n x) ∙ no_places p h (n + 1) xs

synced_marked : (m : Mark) → is_marked (sync_mark m) ≡ is_marked m
synced_marked marks.Unmarked = refl
synced_marked marks.Written = refl
synced_marked marks.Synced = refl

synced_written : (m : Mark) → is_written (sync_mark m) ≡ false
synced_written marks.Unmarked = refl
synced_written marks.Written = refl
synced_written marks.Synced = refl

abbrev sync_one : Recipient → Recipient
sync_one r = record r { mark = sync_mark r.mark }

-- a sync leaves no mark that is written only, and changes no other count
pub written_marks-sync : (m : Message) → written_marks (sync_all m) ≡ []
written_marks-sync m =
    places-map (λ i (r : Recipient). is_written r.mark) (λ i (r : Recipient). false) sync_one (λ i r. synced_written r.mark) 0 m.recipients
    ∙ no_places (λ i (r : Recipient). false) (λ i r. refl) 0 m.recipients

pub pending-sync : (m : Message) → pending (sync_all m) ≡ pending m
pending-sync m = places-map (λ i (r : Recipient). not (is_marked r.mark || is_logged m i)) (λ i (r : Recipient). not (is_marked r.mark || is_logged m i)) sync_one
    (λ i r. ap (λ z. not (z || is_logged m i)) (synced_marked r.mark)) 0 m.recipients

pub unmarked_logged-sync : (m : Message) → unmarked_logged (sync_all m) ≡ unmarked_logged m
unmarked_logged-sync m = places-map (λ i (r : Recipient). not (is_marked r.mark) && is_logged m i) (λ i (r : Recipient). not (is_marked r.mark) && is_logged m i) sync_one
    (λ i r. ap (λ z. not z && is_logged m i) (synced_marked r.mark)) 0 m.recipients
