-- Over every list of lives a message that arrived, or was stored as a bounce, stands in one queue file until it is removed.
use Rattle.std.proofs.Common.{◌≡◌, ℕ, zero, suc, ◌+◌, Bool, true, false, cond, List, [], ◌∷◌, ◌++◌, find, map, take, Option, Some, None, ◌⊎◌, inl, inr, refl, sym, ap, ◌∙◌, subst}
use Rattle.std.proofs.lemmas.Bool.{and_parts, or_left, or_right}
use Rattle.std.proofs.lemmas.List.Folds.{list_any-append}
use Rattle.std.specs.List.{list_any}
use Rattle.q_laws.proofs.Beginnings.{life_consistent}
use Rattle.q_laws.proofs.Books.{message_in}
use Rattle.q_laws.proofs.Kept.{entry_consistent}
use Rattle.q_laws.proofs.Members.{IsIn, in_left, in_map}
use Rattle.q_laws.specs.Consistency.{IsConsistent, IsUsable}
use Rattle.q_laws.specs.Traces.{AreEntriesOf}
use Rattle.q_lives.proofs.AsArrived.{HasLike, after_like, left_like, life_like, like_arrived}
use Rattle.q_lives.proofs.Books.{after_is}
use Rattle.q_lives.proofs.Bounced.{file_come, not_yet}
use Rattle.q_lives.proofs.Growing.{not_empty, same_head}
use Rattle.q_lives.proofs.Standing.{message_ids, not_damaged, once_in}
use Rattle.q_lives.proofs.Throughout.{entry_may, first_entry, lives_orderly, run_all, take_entries}
use Rattle.q_lives.specs.Lives.{AreLives, IsLife, IsOrderly, Life, life_entries, last_book, ledger_of, trace}
use Rattle.q_lives.specs.Standing.{IsAsArrived, StandsOnceOrLeft, StandsOrLeaves, is_remove_of}
use Rattle.q_model.proofs.IdLaws.{id_eq-refl, id_eq-true}
use Rattle.q_model.specs.Arrivals.{arrived, next_id}
use Rattle.q_model.specs.Book.{Book, Damaged, all_ids, message_of}
use Rattle.q_model.specs.Ids.{id_eq}
use Rattle.q_model.specs.Ledger.{Ledger, opening}
use Rattle.q_model.specs.Message.{Message, new_recipient, receiver_of}
use Rattle.q_model.specs.Past.{is_life}
use Rattle.q_model.specs.Settings.{World}
use Rattle.q_model.specs.Step.{after, after_all, may}
use Rattle.q_model.specs.declared.entry.Entry.{Entry}
use Rattle.q_model.specs.declared.event.Mode.{Mode}
use Rattle.q_model.specs.declared.id.Id.{Id}
use Rattle.q_model.specs.declared.entry.Entry.TheVariants as entries
use Rattle.std.proofs.lemmas.Bool.{not-true}
use Rattle.std.proofs.Common.{not}
use Rattle.std.specs.Option.{option_map_or}
use Rattle.std.specs.Prelude.{◌&&◌, is_none}
use Rattle.q_laws.proofs.Arrived.{bounce_addable}
use Rattle.q_lives.specs.Standing.{BounceStandsOrLeaves}
use Rattle.q_model.specs.BookChanges.{add_message}
use Rattle.q_model.specs.Finishing.{has_bounce, is_at_rest, is_done, wants_bounce}
use Rattle.q_model.specs.Ids.{bounce_of}
use Rattle.q_model.specs.Lists.{has_none}
use Rattle.q_model.specs.Notices.{bounce_message}
use Rattle.q_model.specs.Places.{is_active}
use Rattle.q_model.specs.Values.{Receiver}

-- what arrived with an id
record Letter : Type 0 where
  id : Id
  sender : Option (List ℕ)
  to : List Receiver
  content : List ℕ

abbrev arrival : Letter → Entry
arrival x = entries.Arrive x.id x.sender x.to x.content

-- a message stands with it
abbrev HasLetter : Letter → Book → Type 0
HasLetter x b = (m : Message) × (message_of b x.id ≡ Some m) × IsAsArrived m x.sender x.to x.content

-- or it was removed in these entries
abbrev IsKeptIn : Letter → List Entry → Book → Type 0
IsKeptIn x es b = HasLetter x b ⊎ (list_any (is_remove_of x.id) es ≡ true)

like_letter : (x : Letter) (b c : Book) (m : Message) → IsAsArrived m x.sender x.to x.content → HasLike m c x.id → HasLetter x c
like_letter x b c m h like = (like.0, like.1, like_arrived m like.0 x.sender x.to x.content like.2 h)

entry_letter : (w : World) (l : Ledger) (e : Entry) (x : Letter) → IsConsistent w l → HasLetter x l.book → (is_remove_of x.id e ≡ true) ⊎ HasLetter x (after w l e).book
entry_letter w l e x c h = elim (after_like w l e x.id h.0 c h.1) [ inl gone ↦ inl gone | inr like ↦ inr (like_letter x l.book (after w l e).book h.0 h.2 like) ]

-- ---- whoever arrives

find_last : (id : Id) (ms : List Message) (m : Message) → m.id ≡ id → (IsIn id (map (λ (y : Message). y.id) ms) → ⊥) → find (λ (y : Message). id_eq y.id id) (ms ++ m ∷ []) ≡ Some m
find_last id [] m same none = ap (λ b. cond b (Some m) None) (ap (λ (i : Id). id_eq i id) same ∙ id_eq-refl id)
find_last id (y ∷ ms) m same none = on (id_eq y.id id) refl (find_last id ms m same (λ k. none (inr k)))
  where
    on : (b : Bool) → id_eq y.id id ≡ b → find (λ (z : Message). id_eq z.id id) (ms ++ m ∷ []) ≡ Some m → cond b (Some y) (find (λ (z : Message). id_eq z.id id) (ms ++ m ∷ [])) ≡ Some m
    on true e rest = absurd (none (inl (id_eq-true y.id id e)))
    on false e rest = rest

new_addresses : (to : List Receiver) → map receiver_of (map new_recipient to) ≡ to
new_addresses [] = refl
new_addresses (a ∷ to) = ap (λ (xs : List Receiver). a ∷ xs) (new_addresses to)

arrives : (w : World) (l : Ledger) (x : Letter) → IsConsistent w l → may w l (arrival x) ≡ true → HasLetter x (after w l (arrival x)).book
arrives w l x c can =
    let same : x.id ≡ next_id l = id_eq-true x.id (next_id l) (and_parts l.timed (id_eq x.id (next_id l)) can).1 in
    let m = arrived l x.id x.sender x.to x.content in
    let none : IsIn x.id (message_ids l.book) → ⊥ = λ k. not_yet l x.id (ap (λ (j : Id). j.generation) same) (ap (λ (j : Id). j.serial) same) (file_come w l x.id c (in_left x.id (message_ids l.book) (map (λ (d : Damaged). d.id) l.book.damaged) k)).come in
    subst (HasLetter x) (sym (after_is w l (arrival x)).book) (m, find_last x.id l.book.messages m refl none, record { same_sender = refl; same_recipients = new_addresses x.to; same_content = refl })

-- ---- whatever is stored by an entry

-- the entry stores a message
abbrev Stores : Entry → (Letter → Type 0) → Type 0
Stores e Q = (w : World) (l : Ledger) → IsConsistent w l → may w l e ≡ true → (x : Letter) × Q x × HasLetter x (after w l e).book

-- such a message stands, or was removed in these entries
abbrev StoredIn : (Letter → Type 0) → List Entry → Book → Type 0
StoredIn Q es b = (x : Letter) × Q x × IsKeptIn x es b

arrival_stores : (x : Letter) → Stores (arrival x) (λ y. y ≡ x)
arrival_stores x w l c can = (x, refl, arrives w l x c can)

-- the bounce of a message, whatever it says
abbrev IsBounceOf : Id → Letter → Type 0
IsBounceOf id x = (x.id ≡ bounce_of id) × (x.sender ≡ None)

bounce_on : (w : World) (l : Ledger) (id : Id) (o : Option Message) → IsConsistent w l → message_of l.book id ≡ o → option_map_or (λ (m : Message). is_active m.place && is_at_rest l id && is_done m && wants_bounce m && not (has_bounce l id)) o false ≡ true →
    (x : Letter) × IsBounceOf id x × HasLetter x (option_map_or (λ (m : Message). record l { book = add_message l.book (bounce_message l.now m) }) o l).book
bounce_on w l id None c e can = absurd cc
bounce_on w l id (Some m) c e can =
    let mine = message_in l.book id m e in
    let four = and_parts (is_active m.place && is_at_rest l id && is_done m && wants_bounce m) (not (has_bounce l id)) can in
    let three = and_parts (is_active m.place && is_at_rest l id && is_done m) (wants_bounce m) four.0 in
    let two = and_parts (is_active m.place && is_at_rest l id) (is_done m) three.0 in
    let one = and_parts (is_active m.place) (is_at_rest l id) two.0 in
    let plain : m.id.bounce ≡ false = not-true m.id.bounce (and_parts (not (has_none m.failures) && not (is_none m.sender)) (not m.id.bounce) three.1).1 in
    let unsaid : has_bounce l m.id ≡ false = ap (has_bounce l) mine.1 ∙ not-true (has_bounce l id) four.1 in
    let fits = bounce_addable l m c.book (ap (message_of l.book) mine.1 ∙ e) one.0 two.1 plain unsaid in
    let x = bounce_message l.now m in
    let none : IsIn x.id (message_ids l.book) → ⊥ = λ k. fits.new (in_left x.id (message_ids l.book) (map (λ (d : Damaged). d.id) l.book.damaged) k) in (
      record { id = x.id; sender = None; to = map receiver_of x.recipients; content = x.content },
      (ap bounce_of mine.1, refl),
      (x, find_last x.id l.book.messages x refl none, record { same_sender = refl; same_recipients = refl; same_content = refl }),
    )

bounce_stores : (id : Id) → Stores (entries.Bounce id) (IsBounceOf id)
bounce_stores id w l c can =
    let one = bounce_on w l id (message_of l.book id) c refl can in
    (one.0, one.1, subst (HasLetter one.0) (sym (after_is w l (entries.Bounce id)).book) one.2)

-- ---- entries one after another

entries_keep : (w : World) (l : Ledger) (es : List Entry) (x : Letter) → IsConsistent w l → AreEntriesOf w l es → HasLetter x l.book → IsKeptIn x es (after_all w l es).book
unfolding after_all
entries_keep w l [] x c h has = inl has
entries_keep w l (e ∷ es) x c h has = on (entry_letter w l e x c has) (entries_keep w (after w l e) es x (entry_consistent w l e c h.0) h.1)
  where
    on : (is_remove_of x.id e ≡ true) ⊎ HasLetter x (after w l e).book → (HasLetter x (after w l e).book → IsKeptIn x es (after_all w (after w l e) es).book) → IsKeptIn x (e ∷ es) (after_all w (after w l e) es).book
    on (inl gone) rest = inr (or_left (is_remove_of x.id e) (list_any (is_remove_of x.id) es) gone)
    on (inr there) rest = elim (rest there) [ inl k ↦ inl k | inr k ↦ inr (or_right (is_remove_of x.id e) (list_any (is_remove_of x.id) es) k) ]

-- whatever was stored in these entries stands after them, or left
entries_store : (w : World) (l : Ledger) (es before later : List Entry) (s : Entry) (Q : Letter → Type 0) → Stores s Q → IsConsistent w l → AreEntriesOf w l es → es ≡ before ++ (s ∷ later) → StoredIn Q later (after_all w l es).book
unfolding after_all
entries_store w l [] before later s Q stores c h same = absurd (not_empty before s later same)
entries_store w l (e ∷ es) [] later s Q stores c h same =
    let two = same_head e s es later same in
    let can : may w l s ≡ true = subst (λ y. may w l y ≡ true) two.0 (entry_may w l e c h.0) in
    let new = stores w l c can in
    let there : HasLetter new.0 (after w l e).book = subst (λ y. HasLetter new.0 (after w l y).book) (sym two.0) new.2 in
    (new.0, new.1, subst (λ xs. IsKeptIn new.0 xs (after_all w (after w l e) es).book) two.1 (entries_keep w (after w l e) es new.0 (entry_consistent w l e c h.0) h.1 there))
entries_store w l (e ∷ es) (y ∷ before) later s Q stores c h same =
    entries_store w (after w l e) es before later s Q stores (entry_consistent w l e c h.0) h.1 (same_head e y es (before ++ (s ∷ later)) same).1

-- an element of two lists that were joined is of the first or of the second
split : {A : Type 0} (xs ys before rest : List A) (x : A) → xs ++ ys ≡ before ++ (x ∷ rest) →
    ((r : List A) × (xs ≡ before ++ (x ∷ r)) × (rest ≡ r ++ ys)) ⊎ ((b : List A) × (ys ≡ b ++ (x ∷ rest)))
split [] ys before rest x h = inr (before, h)
split (y ∷ xs) ys [] rest x h = let two = same_head y x (xs ++ ys) rest h in inl (xs, ap (λ z. z ∷ xs) two.0, sym two.1)
split (y ∷ xs) ys (b ∷ before) rest x h =
    let two = same_head y b (xs ++ ys) (before ++ (x ∷ rest)) h in
    elim (split xs ys before rest x two.1) [
      | inl first ↦ inl (first.0, ap (λ z. z ∷ xs) two.0 ∙ ap (λ zs. b ∷ zs) first.1, first.2)
      | inr second ↦ inr second
    ]

-- ---- one life

-- what the entries of a life keep, and what is stored in them
record Keeps (s : Entry) (Q : Letter → Type 0) (w : World) (l : Ledger) (es : List Entry) : Type 0 where
  old : (x : Letter) → HasLetter x l.book → IsKeptIn x es (after_all w l es).book
  new : (before later : List Entry) → es ≡ before ++ (s ∷ later) → StoredIn Q later (after_all w l es).book

front_keeps : (s : Entry) (Q : Letter → Type 0) → Stores s Q → is_life s ≡ false → (w : World) (mode : Mode) (book : Book) (rest : List Entry) (n : ℕ) → IsUsable w → IsOrderly book →
    AreEntriesOf w (opening mode book) (entries.Life (book.generation + 1) mode ∷ rest) → Keeps s Q w (opening mode book) (take n (entries.Life (book.generation + 1) mode ∷ rest))
unfolding after_all
front_keeps s Q stores alive w mode book rest zero usable good h = record { old = λ x has. inl has; new = λ before later same. absurd (not_empty before s later same) }
front_keeps s Q stores alive w mode book rest (suc n) usable good h =
    let e = entries.Life (book.generation + 1) mode in
    let l = opening mode book in
    let begun : IsConsistent w (after w l e) = life_consistent w l mode usable good.distinct good.orderly in
    let some = take_entries n w (after w l e) rest h.1 in
    record {
      old = λ x has. entries_keep w (after w l e) (take n rest) x begun some (like_letter x book (after w l e).book has.0 has.2 (life_like w l (book.generation + 1) mode x.id has.0 has.1));
      new = λ before later same. on before later same begun some;
    }
  where
    on : (before later : List Entry) → entries.Life (book.generation + 1) mode ∷ take n rest ≡ before ++ (s ∷ later) → IsConsistent w (after w (opening mode book) (entries.Life (book.generation + 1) mode)) →
        AreEntriesOf w (after w (opening mode book) (entries.Life (book.generation + 1) mode)) (take n rest) → StoredIn Q later (after_all w (after w (opening mode book) (entries.Life (book.generation + 1) mode)) (take n rest)).book
    on [] later same begun some = let bad : true ≡ false = ap is_life (same_head (entries.Life (book.generation + 1) mode) s (take n rest) later same).0 ∙ alive in absurd cc
    on (y ∷ before) later same begun some =
        entries_store w (after w (opening mode book) (entries.Life (book.generation + 1) mode)) (take n rest) before later s Q stores begun some
        (same_head (entries.Life (book.generation + 1) mode) y (take n rest) (before ++ (s ∷ later)) same).1

one_life : (s : Entry) (Q : Letter → Type 0) → Stores s Q → is_life s ≡ false → (book : Book) (life : Life) → IsOrderly book → IsLife book life → Keeps s Q life.world (opening life.mode book) (life_entries book life)
one_life s Q stores alive book life good h =
    let w = life.world in
    let begins = first_entry w life.mode book life.items in
    let all = subst (AreEntriesOf w (opening life.mode book)) begins.1 (run_all w life.mode book life.items h.fits) in
    subst (λ es. Keeps s Q w (opening life.mode book) (take life.count es)) (sym begins.1) (front_keeps s Q stores alive w life.mode book begins.0 life.count h.usable good all)

left_letter : (book : Book) (life : Life) (x : Letter) (es : List Entry) → IsLife book life → IsKeptIn x es (ledger_of book life).book → IsKeptIn x es life.left
left_letter book life x es h (inl has) = inl (like_letter x (ledger_of book life).book life.left has.0 has.2 (left_like (ledger_of book life) life.steps life.left x.id has.0 h.left has.1))
left_letter book life x es h (inr gone) = inr gone

-- ---- all lives

more_left : (id : Id) (es fs : List Entry) → list_any (is_remove_of id) es ≡ true → list_any (is_remove_of id) (es ++ fs) ≡ true
more_left id es fs h = list_any-append (is_remove_of id) es fs ∙ or_left (list_any (is_remove_of id) es) (list_any (is_remove_of id) fs) h

later_left : (id : Id) (es fs : List Entry) → list_any (is_remove_of id) fs ≡ true → list_any (is_remove_of id) (es ++ fs) ≡ true
later_left id es fs h = list_any-append (is_remove_of id) es fs ∙ or_right (list_any (is_remove_of id) es) (list_any (is_remove_of id) fs) h

-- an entry more of lives before it
kept_on : (x : Letter) (es fs : List Entry) (b c : Book) → IsKeptIn x es b → (HasLetter x b → IsKeptIn x fs c) → IsKeptIn x (es ++ fs) c
kept_on x es fs b c (inr gone) rest = inr (more_left x.id es fs gone)
kept_on x es fs b c (inl has) rest = elim (rest has) [ inl k ↦ inl k | inr g ↦ inr (later_left x.id es fs g) ]

life_keeps : (book : Book) (life : Life) (x : Letter) → IsOrderly book → IsLife book life → HasLetter x book → IsKeptIn x (life_entries book life) life.left
life_keeps book life x good h has = left_letter book life x (life_entries book life) h ((one_life (arrival x) (λ y. y ≡ x) (arrival_stores x) refl book life good h).old x has)

lives_keep : (book : Book) (lives : List Life) (x : Letter) → IsOrderly book → AreLives book lives → HasLetter x book → IsKeptIn x (trace book lives) (last_book book lives)
lives_keep book [] x good h has = inl has
lives_keep book (life ∷ lives) x good h has =
    kept_on x (life_entries book life) (trace life.left lives) life.left (last_book life.left lives)
    (life_keeps book life x good h.0 has)
    (lives_keep life.left lives x (lives_orderly book (life ∷ []) good (h.0, tt)) h.1)

-- whatever an entry of these lives stored stands after them, or left
lives_store : (s : Entry) (Q : Letter → Type 0) → Stores s Q → is_life s ≡ false → (book : Book) (lives : List Life) (before later : List Entry) → IsOrderly book → AreLives book lives → trace book lives ≡ before ++ (s ∷ later) → StoredIn Q later (last_book book lives)
lives_store s Q stores alive book [] before later good h same = absurd (not_empty before s later same)
lives_store s Q stores alive book (life ∷ lives) before later good h same =
    let next = lives_orderly book (life ∷ []) good (h.0, tt) in
    elim (split (life_entries book life) (trace life.left lives) before later s same) [
      | inl here ↦
          let new = (one_life s Q stores alive book life good h.0).new before here.0 here.1 in (
            new.0,
            new.1,
            subst (λ xs. IsKeptIn new.0 xs (last_book life.left lives)) (sym here.2)
                (kept_on new.0 here.0 (trace life.left lives) life.left (last_book life.left lives)
                (left_letter book life new.0 here.0 h.0 new.2)
                (lives_keep life.left lives new.0 next h.1)),
          )
      | inr there ↦ lives_store s Q stores alive life.left lives there.0 later next h.1 there.1
    ]

letter_stands : (b : Book) (x : Letter) (es : List Entry) → IsOrderly b → IsKeptIn x es b → StandsOrLeaves x.id x.sender x.to x.content es b
letter_stands b x es good (inr gone) = inr gone
letter_stands b x es good (inl has) =
    let mine = message_in b x.id has.0 has.1 in
    let there : IsIn x.id (message_ids b) = subst (λ j. IsIn j (message_ids b)) mine.1 (in_map (λ (m : Message). m.id) has.0 b.messages mine.0) in
    inl (record {
      once = once_in x.id (all_ids b) good.distinct (in_left x.id (message_ids b) (map (λ (d : Damaged). d.id) b.damaged) there);
      readable = not_damaged b x.id good.distinct there;
      message = has.0;
      there = has.1;
      as_arrived = has.2;
    })

letter_of : Message → Letter
letter_of m = record { id = m.id; sender = m.sender; to = map receiver_of m.recipients; content = m.content }

letter_as : Id → Option (List ℕ) → List Receiver → List ℕ → Letter
letter_as id sender to content = record { id = id; sender = sender; to = to; content = content }

arrived_stands : (b : Book) (x : Letter) (later : List Entry) → IsOrderly b → StoredIn (λ y. y ≡ x) later b → StandsOrLeaves x.id x.sender x.to x.content later b
arrived_stands b x later good h = letter_stands b x later good (subst (λ y. IsKeptIn y later b) h.1 h.2)

bounce_stands : (b : Book) (id : Id) (later : List Entry) → IsOrderly b → StoredIn (IsBounceOf id) later b → BounceStandsOrLeaves id later b
bounce_stands b id later good h =
    let x = h.0 in
    (x.to, x.content, subst (λ i. StandsOrLeaves i None x.to x.content later b) h.1.0 (subst (λ o. StandsOrLeaves x.id o x.to x.content later b) h.1.1 (letter_stands b x later good h.2)))

pub lives_stand : (book : Book) (lives : List Life) → IsOrderly book → AreLives book lives → StandsOnceOrLeft book (trace book lives) (last_book book lives)
unfolding letter_of letter_as
lives_stand book lives good h =
    let end = lives_orderly book lives good h in
    record {
      stood = λ m there. letter_stands (last_book book lives) (letter_of m) (trace book lives) end
          (lives_keep book lives (letter_of m) good h (m, there, record { same_sender = refl; same_recipients = refl; same_content = refl }));
      arrived = λ before later id sender to content same.
          let x = letter_as id sender to content in
          arrived_stands (last_book book lives) x later end (lives_store (arrival x) (λ y. y ≡ x) (arrival_stores x) refl book lives before later good h same);
      bounced = λ before later id same. bounce_stands (last_book book lives) id later end (lives_store (entries.Bounce id) (IsBounceOf id) (bounce_stores id) refl book lives before later good h same);
    }
