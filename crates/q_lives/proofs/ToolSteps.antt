-- Steps of queue tools leave a book orderly, and a lawful one lawful.
use Rattle.std.proofs.Common.{◌≡◌, ℕ, Bool, true, false, not, List, [], ◌∷◌, ◌++◌, map, find, is_some, Option, Some, None, ◌⊎◌, inl, inr, option_map, refl, sym, ap, ◌∙◌, subst, le_refl, if◌then◌else◌}
use Rattle.std.proofs.lemmas.Bool.{and_from, and_parts, eqb-true, or_cases, or_right}
use Rattle.std.specs.List.{list_all, list_any}
use Rattle.std.specs.Option.{option_map_or}
use Rattle.std.specs.Prelude.{◌&&◌, ◌||◌, ◌==◌, nat_le}
use Rattle.q_laws.proofs.Books.{damaged_listed, damaged_names, message_in, message_listed, message_names, not_damaged, only_message}
use Rattle.q_laws.proofs.Distinct.{id_cases, id_same}
use Rattle.q_laws.proofs.InPlace.{KeepsShape, changed, changed_name, changed_other, changed_same, keeps_active}
use Rattle.q_laws.proofs.Mapped.{all_ids_mapped, find_mapped, orderly_mapped}
use Rattle.q_laws.proofs.Members.{IsIn, all_append, all_at, all_from, any_in, find_in, find_none, in_either, in_unmap}
use Rattle.q_laws.proofs.Moved.{move_to}
use Rattle.q_laws.proofs.Unmarked.{pending_bare}
use Rattle.q_lives.proofs.Books.{crash_orderly, loose_orderly}
use Rattle.q_lives.specs.Lives.{IsLeftBy, IsOrderly, cut_book}
use Rattle.q_lives.specs.Tools.{after_cut_steps, cut_step}
use Rattle.q_model.proofs.IdLaws.{id_eq-true}
use Rattle.q_model.specs.Book.{Book, Damaged, all_ids, damaged_of, message_of, stands, stands_in}
use Rattle.q_model.specs.BookChanges.{change_message, move_damaged, move_message}
use Rattle.q_model.specs.CutOff.{loosened}
use Rattle.q_model.specs.Ids.{are_distinct, bounce_of, cause_of, id_eq}
use Rattle.q_model.specs.Ledger.{Ledger}
use Rattle.q_model.specs.Logs.{with_failure}
use Rattle.q_model.specs.Marking.{is_unmarked_at}
use Rattle.q_model.specs.Marks.{is_marked, is_written}
use Rattle.q_model.specs.Message.{Logged, Message, Recipient, pending}
use Rattle.q_model.specs.Orderly.{has_firm_failures, is_lawful, is_orderly, is_paired, is_sealed, is_sound}
use Rattle.q_model.specs.Places.{is_active, is_corrupt}
use Rattle.q_model.specs.ToolSteps.{ToolStep, after_step, after_steps, fails, given_up, is_tool_move, is_unpaired, may_give_up, may_step, may_steps, moves}
use Rattle.q_model.specs.declared.id.Id.{Id}
use Rattle.q_model.specs.declared.rows.Place.{Place}
use Rattle.q_model.specs.declared.rows.Place.TheVariants as places

true_not : true ≡ false → ⊥
true_not e = cc

-- ---- who stands is listed

some_found : {A : Type 0} (p : A → Bool) (x : A) (xs : List A) → IsIn x xs → p x ≡ true → is_some (find p xs) ≡ true
some_found p x xs inside passes = by (find p xs) refl
  where
    by : (o : Option _) → find p xs ≡ o → is_some o ≡ true
    by None e = absurd (true_not (sym passes ∙ find_none p x xs e inside))
    by (Some y) e = refl

listed_stands : (b : Book) (id : Id) → IsIn id (all_ids b) → stands b id ≡ true
listed_stands b id h = elim (in_either id (message_names b) (damaged_names b) h) [
  | inl whole ↦
      let one = in_unmap (λ (m : Message). m.id) id b.messages whole in
      ap (λ t. t || is_some (damaged_of b id)) (some_found (λ (m : Message). id_eq m.id id) one.0 b.messages one.1 (id_same one.0.id id one.2))
  | inr broken ↦
      let one = in_unmap (λ (d : Damaged). d.id) id b.damaged broken in
      or_right (is_some (message_of b id)) (is_some (damaged_of b id)) (some_found (λ (d : Damaged). id_eq d.id id) one.0 b.damaged one.1 (id_same one.0.id id one.2))
]

stands_listed : (b : Book) (id : Id) → stands b id ≡ true → IsIn id (all_ids b)
stands_listed b id h = elim (or_cases (is_some (message_of b id)) (is_some (damaged_of b id)) h) [
  | inl whole ↦ message (message_of b id) refl whole
  | inr broken ↦ damaged (damaged_of b id) refl broken
]
  where
    message : (o : Option Message) → message_of b id ≡ o → is_some o ≡ true → IsIn id (all_ids b)
    message None e k = absurd cc
    message (Some m) e k =
        let mine = message_in b id m e in
        subst (λ i. IsIn i (all_ids b)) mine.1 (message_listed b m mine.0)

    damaged : (o : Option Damaged) → damaged_of b id ≡ o → is_some o ≡ true → IsIn id (all_ids b)
    damaged None e k = absurd cc
    damaged (Some d) e k =
        let mine = find_in (λ (x : Damaged). id_eq x.id id) d b.damaged e in
        subst (λ i. IsIn i (all_ids b)) (id_eq-true d.id id mine.1) (damaged_listed b d mine.0)

-- ---- no bounce stands with its message

-- in an unpaired book the message that a bounce is of doesn't stand
cause_gone : (b : Book) (x : Id) → is_unpaired b ≡ true → IsIn x (all_ids b) → x.bounce ≡ true → stands b (cause_of x) ≡ false
cause_gone b x unpaired inside bounce = by (stands b (cause_of x)) refl
  where
    by : (t : Bool) → stands b (cause_of x) ≡ t → t ≡ false
    by false e = refl
    by true e =
        let alone : not (stands b (bounce_of (cause_of x))) ≡ true =
        all_at (λ (id : Id). id.bounce || not (stands b (bounce_of id))) (cause_of x) (all_ids b) unpaired (stands_listed b (cause_of x) e) in
        let back : stands b (bounce_of (cause_of x)) ≡ true = ap (λ t. stands b (record x { bounce = t })) (sym bounce) ∙ listed_stands b x inside in
        absurd (true_not (sym alone ∙ ap not back))

-- so each id of a book with the same ids is paired, wherever files stand
still_paired : (b c : Book) → is_unpaired b ≡ true → all_ids c ≡ all_ids b → (x : Id) → IsIn x (all_ids c) → is_paired c x ≡ true
still_paired b c unpaired same x inside = by x.bounce refl
  where
    here : IsIn x (all_ids b)
    here = subst (λ ids. IsIn x ids) same inside

    gone : x.bounce ≡ true → (t : Bool) → stands c (cause_of x) ≡ t → t ≡ false
    gone bounce false e = refl
    gone bounce true e =
        let there = subst (λ ids. IsIn (cause_of x) ids) same (stands_listed c (cause_of x) e) in
        absurd (true_not (sym (listed_stands b (cause_of x) there) ∙ cause_gone b x unpaired here bounce))

    by : (t : Bool) → x.bounce ≡ t → is_paired c x ≡ true
    by false e = first (not x.bounce) _ _ (ap not e)
      where
        first : (p q r : Bool) → p ≡ true → (p || q || r) ≡ true
        first true q r h = refl
        first false q r h = absurd cc
    by true e = second (not x.bounce) (not (stands c (cause_of x))) _ (ap not (gone e (stands c (cause_of x)) refl))
      where
        second : (p q r : Bool) → q ≡ true → (p || q || r) ≡ true
        second true q r h = refl
        second false true r h = refl
        second false false r h = absurd cc

-- ---- a move

from_elsewhere : (from to : Place) → is_tool_move from to ≡ true → is_active from ≡ false
from_elsewhere places.Incoming to h = refl
from_elsewhere (places.Deferred due) to h = refl
from_elsewhere places.Hold to h = refl
from_elsewhere places.Corrupt to h = refl
from_elsewhere places.Active places.Incoming h = absurd cc
from_elsewhere places.Active places.Active h = absurd cc
from_elsewhere places.Active (places.Deferred due) h = absurd cc
from_elsewhere places.Active places.Hold h = absurd cc
from_elsewhere places.Active places.Corrupt h = absurd cc

not_from_corrupt : (from to : Place) → is_tool_move from to ≡ true → is_corrupt from ≡ false
not_from_corrupt places.Incoming to h = refl
not_from_corrupt (places.Deferred due) to h = refl
not_from_corrupt places.Hold to h = refl
not_from_corrupt places.Active to h = refl
not_from_corrupt places.Corrupt places.Incoming h = absurd cc
not_from_corrupt places.Corrupt places.Active h = absurd cc
not_from_corrupt places.Corrupt (places.Deferred due) h = absurd cc
not_from_corrupt places.Corrupt places.Hold h = absurd cc
not_from_corrupt places.Corrupt places.Corrupt h = absurd cc

abbrev moved : Book → Id → Place → Book
moved b id place = move_damaged (move_message b id place) id place

abbrev pub moved_file : Id → Place → Damaged → Damaged
moved_file id place d = if id_eq d.id id then record d { place = place } else d

file_name : (id : Id) (place : Place) (d : Damaged) (t : Bool) → (if t then record d { place = place } else d).id ≡ d.id
file_name id place d true = refl
file_name id place d false = refl

pub files_named : (id : Id) (place : Place) (ds : List Damaged) → map (λ (d : Damaged). d.id) (map (moved_file id place) ds) ≡ map (λ (d : Damaged). d.id) ds
files_named id place [] = refl
files_named id place (d ∷ ds) =
    ap (λ (i : Id). i ∷ map (λ (x : Damaged). x.id) (map (moved_file id place) ds)) (file_name id place d (id_eq d.id id))
    ∙ ap (λ (is : List Id). d.id ∷ is) (files_named id place ds)

moved_ids : (b : Book) (id : Id) (place : Place) → all_ids (moved b id place) ≡ all_ids b
moved_ids b id place =
    ap (λ (is : List Id). map (λ (m : Message). m.id) (move_message b id place).messages ++ is) (files_named id place b.damaged)
    ∙ all_ids_mapped b b.generation (changed id (move_to place)) (changed_name id (move_to place) (λ x. refl))

-- the message of the id that moves stands at a place from which a tool takes it
moves_from : (b : Book) (id : Id) (place : Place) (x : Message) → are_distinct (all_ids b) ≡ true → stands_in (λ from. is_tool_move from place) b id ≡ true → IsIn x b.messages → x.id ≡ id → is_tool_move x.place place ≡ true
moves_from b id place x distinct may inside name =
    elim (or_cases (list_any (λ (m : Message). id_eq m.id id && is_tool_move m.place place) b.messages) (list_any (λ (d : Damaged). id_eq d.id id && is_tool_move d.place place) b.damaged) may) [
      | inl whole ↦
          let one = any_in (λ (m : Message). id_eq m.id id && is_tool_move m.place place) b.messages whole in
          let two = and_parts (id_eq one.0.id id) (is_tool_move one.0.place place) one.2 in
          subst (λ (m : Message). is_tool_move m.place place ≡ true) (only_message b distinct one.0 x one.1 inside (id_eq-true one.0.id id two.0 ∙ sym name)) two.1
      | inr broken ↦
          let one = any_in (λ (d : Damaged). id_eq d.id id && is_tool_move d.place place) b.damaged broken in
          let two = and_parts (id_eq one.0.id id) (is_tool_move one.0.place place) one.2 in
          absurd (not_damaged b distinct x one.0 inside one.1 (name ∙ sym (id_eq-true one.0.id id two.0)))
    ]

sound_there : (b : Book) (id : Id) (place : Place) (y : Message) → are_distinct (all_ids b) ≡ true → list_all (λ (m : Message). is_active m.place || is_sound m) b.messages ≡ true →
    stands_in (λ from. is_tool_move from place) b id ≡ true → IsIn y (move_message b id place).messages → (is_active y.place || is_sound y) ≡ true
sound_there b id place y distinct sound may inside =
    let one = in_unmap (changed id (move_to place)) y b.messages inside in
    which one.0 one.1 one.2 (all_at (λ (m : Message). is_active m.place || is_sound m) one.0 b.messages sound one.1)
  where
    outside : (a s t : Bool) → a ≡ false → (a || s) ≡ true → (t || s) ≡ true
    outside false s true e h = refl
    outside false s false e h = h
    outside true s t e h = absurd cc

    which : (x : Message) → IsIn x b.messages → changed id (move_to place) x ≡ y → (is_active x.place || is_sound x) ≡ true → (is_active y.place || is_sound y) ≡ true
    which x there e good = elim (id_cases x.id id) [
      | inl same ↦
          let is : move_to place x ≡ y = sym (changed_same id (move_to place) x same.1) ∙ e in
          let from = from_elsewhere x.place place (moves_from b id place x distinct may there same.0) in
          subst (λ (m : Message). (is_active m.place || is_sound m) ≡ true) is (outside (is_active x.place) (is_sound x) (is_active place) from good)
      | inr other ↦
          let is : x ≡ y = sym (changed_other id (move_to place) x other) ∙ e in
          subst (λ (m : Message). (is_active m.place || is_sound m) ≡ true) is good
    ]

move_orderly : (b : Book) (id : Id) (place : Place) → IsOrderly b → is_unpaired b ≡ true → stands_in (λ from. is_tool_move from place) b id ≡ true → IsOrderly (moved b id place)
move_orderly b id place h unpaired may =
    let same = moved_ids b id place in
    let parts = and_parts (list_all (λ (x : Id). nat_le x.generation b.generation && is_paired b x) (all_ids b)) (list_all (λ (m : Message). is_active m.place || is_sound m) b.messages) h.orderly in
    let c = moved b id place in
    record {
      distinct = ap are_distinct same ∙ h.distinct;
      orderly = and_from (list_all (λ (x : Id). nat_le x.generation b.generation && is_paired c x) (all_ids c)) (list_all (λ (m : Message). is_active m.place || is_sound m) c.messages)
          (all_from (λ (x : Id). nat_le x.generation b.generation && is_paired c x) (all_ids c) (λ x inside.
          let one = all_at (λ (x : Id). nat_le x.generation b.generation && is_paired b x) x (all_ids b) parts.0 (subst (λ ids. IsIn x ids) same inside) in
          and_from (nat_le x.generation b.generation) (is_paired c x) (and_parts (nat_le x.generation b.generation) (is_paired b x) one).0 (still_paired b c unpaired same x inside)))
          (all_from (λ (m : Message). is_active m.place || is_sound m) c.messages (λ m inside. sound_there b id place m h.distinct parts.1 may inside));
    }

-- ---- a failure

fail_shape : (position : ℕ) → KeepsShape (with_failure (given_up position))
fail_shape position = record { name = λ m. refl; place = λ m. refl; count = λ m. refl }

sealed_more : (position : ℕ) (m : Message) → is_sealed m ≡ true → is_sealed (with_failure (given_up position) m) ≡ true
sealed_more position m h =
    let two = and_parts (list_all (λ (r : Recipient). is_marked r.mark && not (is_written r.mark)) m.recipients) (has_firm_failures m) h in
    and_from (list_all (λ (r : Recipient). is_marked r.mark && not (is_written r.mark)) m.recipients) (has_firm_failures (with_failure (given_up position) m)) two.0
    (all_append (λ (l : Logged). l.firm) m.failures (record { failure = given_up position; firm = true } ∷ []) two.1 refl)

-- the message that a tool gives up
record GivesUp (b : Book) (id : Id) (position : ℕ) : Type 0 where
  message : Message
  there : message_of b id ≡ Some message
  active : is_active message.place ≡ true
  waits : list_any (λ p. p == position) (pending message) ≡ true

gives_up : (b : Book) (id : Id) (position : ℕ) → option_map_or (may_give_up position) (message_of b id) false ≡ true → GivesUp b id position
gives_up b id position h = by (message_of b id) refl h
  where
    by : (o : Option Message) → message_of b id ≡ o → option_map_or (may_give_up position) o false ≡ true → GivesUp b id position
    by None e k = absurd cc
    by (Some m) e k =
        let two = and_parts (is_active m.place) (list_any (λ p. p == position) (pending m)) k in
        record { message = m; there = e; active = two.0; waits = two.1 }

fail_orderly : (b : Book) (id : Id) (position : ℕ) → IsOrderly b → GivesUp b id position → IsOrderly (change_message b id (with_failure (given_up position)))
fail_orderly b id position h g =
    let f = with_failure (given_up position) in
    record {
      distinct = ap are_distinct (all_ids_mapped b b.generation (changed id f) (changed_name id f (λ x. refl))) ∙ h.distinct;
      orderly = orderly_mapped b b.generation (changed id f) (le_refl b.generation)
          (keeps_active b id f g.message h.distinct g.there (fail_shape position) g.active (sealed_more position g.message)) h.orderly;
    }

-- the same where the disk isn't sure of the failure yet
cut_orderly : (b : Book) (id : Id) (position : ℕ) → IsOrderly b → GivesUp b id position → IsOrderly (change_message (change_message b id (with_failure (given_up position))) id loosened)
cut_orderly b id position h g =
    let f = with_failure (given_up position) in
    let c = change_message b id f in
    let there : message_of c id ≡ Some (f g.message) =
    find_mapped (changed id f) (changed_name id f (λ x. refl)) id b.messages ∙ ap (option_map (changed id f)) g.there
    ∙ ap Some (changed_same id f g.message (id_same g.message.id id (message_in b id g.message g.there).1)) in
    let one = any_in (λ p. p == position) (pending g.message) g.waits in
    let waits : IsIn position (pending g.message) = subst (λ p. IsIn p (pending g.message)) (eqb-true one.0 position one.2) one.1 in
    let bare : is_unmarked_at (f g.message) position ≡ true = pending_bare g.message position waits in
    loose_orderly c id (f g.message) position (fail_orderly b id position h g) there g.active bare

-- ---- steps

pub step_orderly : (b : Book) (s : ToolStep) → IsOrderly b → may_step b s ≡ true → IsOrderly (after_step b s)
step_orderly b (moves id place) h may =
    let first = and_parts (is_unpaired b && stands_in (λ from. is_tool_move from place) b id) (not (is_active place) || is_some (message_of b id)) may in
    let two = and_parts (is_unpaired b) (stands_in (λ from. is_tool_move from place) b id) first.0 in
    move_orderly b id place h two.0 two.1
step_orderly b (fails id position) h may =
    fail_orderly b id position h (gives_up b id position (and_parts (is_unpaired b) (option_map_or (may_give_up position) (message_of b id) false) may).1)

pub steps_orderly : (b : Book) (ss : List ToolStep) → IsOrderly b → may_steps b ss ≡ true → IsOrderly (after_steps b ss)
steps_orderly b [] h may = h
steps_orderly b (s ∷ ss) h may =
    let two = and_parts (may_step b s) (may_steps (after_step b s) ss) may in
    steps_orderly (after_step b s) ss (step_orderly b s h two.0) two.1

step_cut : (b : Book) (s : ToolStep) → IsOrderly b → may_step b s ≡ true → IsOrderly (cut_step (after_step b s) s)
step_cut b (moves id place) h may = step_orderly b (moves id place) h may
step_cut b (fails id position) h may =
    cut_orderly b id position h (gives_up b id position (and_parts (is_unpaired b) (option_map_or (may_give_up position) (message_of b id) false) may).1)

pub cut_steps_orderly : (b : Book) (ss : List ToolStep) → IsOrderly b → may_steps b ss ≡ true → IsOrderly (after_cut_steps b ss)
cut_steps_orderly b [] h may = h
cut_steps_orderly b (s ∷ []) h may = step_cut b s h (and_parts (may_step b s) true may).0
cut_steps_orderly b (s ∷ t ∷ ss) h may =
    let two = and_parts (may_step b s) (may_steps (after_step b s) (t ∷ ss)) may in
    cut_steps_orderly (after_step b s) (t ∷ ss) (step_orderly b s h two.0) two.1

-- ---- lawful books

abbrev pub are_corrupt : List Damaged → Bool
are_corrupt ds = list_all (λ (d : Damaged). is_corrupt d.place) ds

-- a damaged file in corrupt isn't the one that moves
stays_corrupt : (b : Book) (id : Id) (place : Place) (d : Damaged) → are_distinct (all_ids b) ≡ true → are_corrupt b.damaged ≡ true → stands_in (λ from. is_tool_move from place) b id ≡ true → IsIn d b.damaged → id_eq d.id id ≡ true → ⊥
stays_corrupt b id place d distinct corrupt may inside name =
    elim (or_cases (list_any (λ (m : Message). id_eq m.id id && is_tool_move m.place place) b.messages) (list_any (λ (x : Damaged). id_eq x.id id && is_tool_move x.place place) b.damaged) may) [
      | inl whole ↦
          let one = any_in (λ (m : Message). id_eq m.id id && is_tool_move m.place place) b.messages whole in
          let two = and_parts (id_eq one.0.id id) (is_tool_move one.0.place place) one.2 in
          not_damaged b distinct one.0 d one.1 inside (id_eq-true one.0.id id two.0 ∙ sym (id_eq-true d.id id name))
      | inr broken ↦
          let one = any_in (λ (x : Damaged). id_eq x.id id && is_tool_move x.place place) b.damaged broken in
          let two = and_parts (id_eq one.0.id id) (is_tool_move one.0.place place) one.2 in
          true_not (sym (all_at (λ (x : Damaged). is_corrupt x.place) one.0 b.damaged corrupt one.1) ∙ not_from_corrupt one.0.place place two.1)
    ]

still_corrupt : (b : Book) (id : Id) (place : Place) → are_distinct (all_ids b) ≡ true → are_corrupt b.damaged ≡ true → stands_in (λ from. is_tool_move from place) b id ≡ true → are_corrupt (moved b id place).damaged ≡ true
still_corrupt b id place distinct corrupt may = all_from (λ (x : Damaged). is_corrupt x.place) (map (moved_file id place) b.damaged) (λ y inside.
    let one = in_unmap (moved_file id place) y b.damaged inside in
    subst (λ (x : Damaged). is_corrupt x.place ≡ true) one.2 (which one.0 one.1 (id_eq one.0.id id) refl))
  where
    which : (d : Damaged) → IsIn d b.damaged → (t : Bool) → id_eq d.id id ≡ t → is_corrupt (if t then record d { place = place } else d).place ≡ true
    which d here true e = absurd (stays_corrupt b id place d distinct corrupt may here e)
    which d here false e = all_at (λ (x : Damaged). is_corrupt x.place) d b.damaged corrupt here

step_corrupt : (b : Book) (s : ToolStep) → IsOrderly b → may_step b s ≡ true → are_corrupt b.damaged ≡ true → are_corrupt (after_step b s).damaged ≡ true
step_corrupt b (moves id place) h may corrupt =
    let first = and_parts (is_unpaired b && stands_in (λ from. is_tool_move from place) b id) (not (is_active place) || is_some (message_of b id)) may in
    still_corrupt b id place h.distinct corrupt (and_parts (is_unpaired b) (stands_in (λ from. is_tool_move from place) b id) first.0).1
step_corrupt b (fails id position) h may corrupt = corrupt

steps_corrupt : (b : Book) (ss : List ToolStep) → IsOrderly b → may_steps b ss ≡ true → are_corrupt b.damaged ≡ true → are_corrupt (after_steps b ss).damaged ≡ true
steps_corrupt b [] h may corrupt = corrupt
steps_corrupt b (s ∷ ss) h may corrupt =
    let two = and_parts (may_step b s) (may_steps (after_step b s) ss) may in
    steps_corrupt (after_step b s) ss (step_orderly b s h two.0) two.1 (step_corrupt b s h two.0 corrupt)

pub steps_lawful : (b : Book) (ss : List ToolStep) → IsOrderly b → may_steps b ss ≡ true → is_lawful b ≡ true → is_lawful (after_steps b ss) ≡ true
steps_lawful b ss h may lawful =
    and_from (is_orderly (after_steps b ss)) (are_corrupt (after_steps b ss).damaged) (steps_orderly b ss h may).orderly
    (steps_corrupt b ss h may (and_parts (is_orderly b) (are_corrupt b.damaged) lawful).1)

cut_corrupt : (b : Book) (s : ToolStep) → (cut_step b s).damaged ≡ b.damaged
cut_corrupt b (moves id place) = refl
cut_corrupt b (fails id position) = refl

cut_steps_corrupt : (b : Book) (ss : List ToolStep) → IsOrderly b → may_steps b ss ≡ true → are_corrupt b.damaged ≡ true → are_corrupt (after_cut_steps b ss).damaged ≡ true
cut_steps_corrupt b [] h may corrupt = corrupt
cut_steps_corrupt b (s ∷ []) h may corrupt = ap are_corrupt (cut_corrupt (after_step b s) s) ∙ step_corrupt b s h (and_parts (may_step b s) true may).0 corrupt
cut_steps_corrupt b (s ∷ t ∷ ss) h may corrupt =
    let two = and_parts (may_step b s) (may_steps (after_step b s) (t ∷ ss)) may in
    cut_steps_corrupt (after_step b s) (t ∷ ss) (step_orderly b s h two.0) two.1 (step_corrupt b s h two.0 corrupt)

pub cut_steps_lawful : (b : Book) (ss : List ToolStep) → IsOrderly b → may_steps b ss ≡ true → is_lawful b ≡ true → is_lawful (after_cut_steps b ss) ≡ true
cut_steps_lawful b ss h may lawful =
    and_from (is_orderly (after_cut_steps b ss)) (are_corrupt (after_cut_steps b ss).damaged) (cut_steps_orderly b ss h may).orderly
    (cut_steps_corrupt b ss h may (and_parts (is_orderly b) (are_corrupt b.damaged) lawful).1)

-- ---- what each step keeps, and cutting it off too

-- a relation between books that steps keep
pub record StepsKeep (R : Book → Book → Type 0) : Type 0 where
  pub same : (b : Book) → R b b
  pub join : (a b c : Book) → R a b → R b c → R a c
  pub step : (b : Book) (s : ToolStep) → R b (after_step b s)
  pub cut : (b : Book) (s : ToolStep) → R b (cut_step b s)

steps_keep : (R : Book → Book → Type 0) → StepsKeep R → (b : Book) (ss : List ToolStep) → R b (after_steps b ss)
steps_keep R k b [] = k.same b
steps_keep R k b (s ∷ ss) = k.join b (after_step b s) (after_steps (after_step b s) ss) (k.step b s) (steps_keep R k (after_step b s) ss)

cut_steps_keep : (R : Book → Book → Type 0) → StepsKeep R → (b : Book) (ss : List ToolStep) → R b (after_cut_steps b ss)
cut_steps_keep R k b [] = k.same b
cut_steps_keep R k b (s ∷ []) = k.join b (after_step b s) (cut_step (after_step b s) s) (k.step b s) (k.cut (after_step b s) s)
cut_steps_keep R k b (s ∷ t ∷ ss) = k.join b (after_step b s) (after_cut_steps (after_step b s) (t ∷ ss)) (k.step b s) (cut_steps_keep R k (after_step b s) (t ∷ ss))

-- so it is between the book at the end of a life and the one behind its tool steps
pub worked_keeps : (R : Book → Book → Type 0) → StepsKeep R → (l : Ledger) (steps : List ToolStep) (left : Book) (h : IsLeftBy l steps left) → R h.end h.worked
worked_keeps R k l steps left h = on h.works
  where
    on : (h.worked ≡ after_steps h.end steps) ⊎ (h.worked ≡ after_cut_steps h.end steps) → R h.end h.worked
    on (inl e) = subst (R h.end) (sym e) (steps_keep R k h.end steps)
    on (inr e) = subst (R h.end) (sym e) (cut_steps_keep R k h.end steps)

-- ---- what a life leaves

pub end_orderly : (l : Ledger) (steps : List ToolStep) (left : Book) → IsOrderly l.book → IsOrderly (cut_book l) → (h : IsLeftBy l steps left) → IsOrderly h.end
end_orderly l steps left whole cut h = on h.ends
  where
    on : (h.end ≡ l.book) ⊎ (h.end ≡ cut_book l) → IsOrderly h.end
    on (inl e) = subst IsOrderly (sym e) whole
    on (inr e) = subst IsOrderly (sym e) cut

pub left_orderly : (l : Ledger) (steps : List ToolStep) (left : Book) → IsOrderly l.book → IsOrderly (cut_book l) → IsLeftBy l steps left → IsOrderly left
left_orderly l steps left whole cut h = crash_orderly h.worked left (on h.works) h.leaves
  where
    good : IsOrderly h.end
    good = end_orderly l steps left whole cut h

    on : (h.worked ≡ after_steps h.end steps) ⊎ (h.worked ≡ after_cut_steps h.end steps) → IsOrderly h.worked
    on (inl e) = subst IsOrderly (sym e) (steps_orderly h.end steps good h.may)
    on (inr e) = subst IsOrderly (sym e) (cut_steps_orderly h.end steps good h.may)

-- the damaged files that are left are in corrupt, where those at its end are
pub worked_corrupt : (l : Ledger) (steps : List ToolStep) (left : Book) (h : IsLeftBy l steps left) → IsOrderly h.end → are_corrupt h.end.damaged ≡ true → are_corrupt h.worked.damaged ≡ true
worked_corrupt l steps left h good corrupt = on h.works
  where
    on : (h.worked ≡ after_steps h.end steps) ⊎ (h.worked ≡ after_cut_steps h.end steps) → are_corrupt h.worked.damaged ≡ true
    on (inl e) = ap (λ (b : Book). are_corrupt b.damaged) e ∙ steps_corrupt h.end steps good h.may corrupt
    on (inr e) = ap (λ (b : Book). are_corrupt b.damaged) e ∙ cut_steps_corrupt h.end steps good h.may corrupt
