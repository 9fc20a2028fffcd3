-- Which ids stand in a book whose messages changed, and whose logs stand there.
use Rattle.std.proofs.Common.{◌≡◌, Bool, true, false, ◌||◌, List, [], ◌∷◌, ◌++◌, map, is_some, if◌then◌else◌, refl, sym, ap, ◌∙◌}
use Rattle.std.specs.Prelude.{find, ℕ}
use Rattle.std.specs.List.{list_any}
use Rattle.q_model.specs.declared.id.Id.{Id}
use Rattle.q_model.specs.Book.{Book, damaged_of, stands}
use Rattle.q_model.specs.BookChanges.{add_message, change_message}
use Rattle.std.proofs.lemmas.Bool.{or_from, or_parts}
use Rattle.std.proofs.lemmas.List.Folds.{list_any-append}
use Rattle.q_model.specs.Ids.{id_eq}
use Rattle.q_model.specs.IdTexts.{id_text}
use Rattle.q_model.specs.declared.spot.Area.TheVariants as areas
use Rattle.q_model.specs.Message.{Message}
use Rattle.q_model.specs.SpoolFiles.{Files}
use Rattle.q_model.proofs.EachLaws.{any-map, find-any}
use Rattle.q_books.specs.HostStands.{OwnLogs}

one_id : (change : Message → Message) → ((x : Message) → (change x).id ≡ x.id) → (x : Message) (t : Bool) → (if t then change x else x).id ≡ x.id
one_id change keeps x true = keeps x
one_id change keeps x false = refl

pub ids-changed : (id : Id) (change : Message → Message) → ((x : Message) → (change x).id ≡ x.id) → (ms : List Message) → map (λ x. x.id) (map (λ (x : Message). if id_eq x.id id then change x else x) ms) ≡ map (λ x. x.id) ms
ids-changed id change keeps [] = refl
ids-changed id change keeps (m ∷ ms) = ap (λ (i : Id). i ∷ map (λ x. x.id) (map (λ (x : Message). if id_eq x.id id then change x else x) ms)) (one_id change keeps m (id_eq m.id id)) ∙ ap (λ (is : List Id). m.id ∷ is) (ids-changed id change keeps ms)

some_id : (ms : List Message) (i : Id) → is_some (find (λ m. id_eq m.id i) ms) ≡ list_any (λ j. id_eq j i) (map (λ x. x.id) ms)
some_id ms i = find-any (λ (m : Message). id_eq m.id i) ms ∙ sym (any-map (λ j. id_eq j i) (λ (x : Message). x.id) ms)

-- the same ids stand in the book
pub stands-changed : (b : Book) (id : Id) (change : Message → Message) → ((x : Message) → (change x).id ≡ x.id) → (i : Id) → stands (change_message b id change) i ≡ stands b i
stands-changed b id change keeps i = ap (λ (t : Bool). t || is_some (damaged_of b i))
    (some_id (change_message b id change).messages i ∙ ap (λ (is : List Id). list_any (λ j. id_eq j i) is) (ids-changed id change keeps b.messages) ∙ sym (some_id b.messages i))

pub own_logs-changed : (f g : Files) (b : Book) (id : Id) (change : Message → Message) → ((x : Message) → (change x).id ≡ x.id) → ((n : List ℕ) → g areas.Bounce n ≡ f areas.Bounce n) → OwnLogs f b → OwnLogs g (change_message b id change)
own_logs-changed f g b id change keeps logs own i hi absent = logs (id_text i) ∙ own i hi (sym (stands-changed b id change keeps i) ∙ absent)

-- who doesn't stand in the book with a message more didn't stand there before
pub stands-added : (b : Book) (m : Message) (i : Id) → stands (add_message b m) i ≡ false → stands b i ≡ false
stands-added b m i h =
    let two = or_parts (is_some (find (λ (x : Message). id_eq x.id i) (b.messages ++ m ∷ []))) (is_some (damaged_of b i)) h in
    let all : (list_any (λ (x : Message). id_eq x.id i) b.messages || list_any (λ (x : Message). id_eq x.id i) (m ∷ [])) ≡ false = sym (list_any-append (λ (x : Message). id_eq x.id i) b.messages (m ∷ [])) ∙ sym (find-any (λ (x : Message). id_eq x.id i) (b.messages ++ m ∷ [])) ∙ two.0 in
    or_from (is_some (find (λ (x : Message). id_eq x.id i) b.messages)) (is_some (damaged_of b i)) (find-any (λ (x : Message). id_eq x.id i) b.messages ∙ (or_parts (list_any (λ (x : Message). id_eq x.id i) b.messages) (list_any (λ (x : Message). id_eq x.id i) (m ∷ [])) all).0) two.1
