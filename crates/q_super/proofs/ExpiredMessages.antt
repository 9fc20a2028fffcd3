-- A message that is given up: what stands at its place, and its deeds.
use Rattle.std.proofs.Common.{◌≡◌, ◌∙◌, ◌∷◌, ◌++◌, ◌||◌, ◌&&◌, [], ℕ, inl, true, false, not, List, None, Option, Some, is_some, ⊎_elim, refl, sym, ap, subst, true≢false}
use Rattle.std.specs.List.{list_all, list_any}
use Rattle.std.specs.Option.{option_map_or}
use Rattle.std.specs.Prelude.{if◌then◌else◌, IsSome, IsSomeAnd, nat_le}
use Rattle.std.proofs.lemmas.Bool.{and_parts, false_from_ne_true, or_cases}
use Rattle.q_model.specs.declared.id.Id.{Id}
use Rattle.q_model.specs.declared.rows.Place.{Place}
use Rattle.q_model.specs.declared.rows.Place.TheVariants as places
use Rattle.q_model.specs.Book.{all_ids, Book, Damaged, message_of, stands_in}
use Rattle.q_model.specs.FilesStand.{DamagedStands, MessageStands, Stands}
use Rattle.q_model.specs.Ids.{id_eq}
use Rattle.q_model.specs.IdTexts.{IsId}
use Rattle.q_model.specs.Lists.{has_none}
use Rattle.q_model.specs.Message.{Message, pending, unmarked_logged, written_marks}
use Rattle.q_model.specs.Orderly.{has_firm_failures, is_orderly, is_paired, is_sound}
use Rattle.q_model.specs.Places.{is_active, is_corrupt, place_eq}
use Rattle.q_model.specs.QueueFile.{queue_file}
use Rattle.q_model.specs.SpoolFiles.{file_at, Files, IsPlace}
use Rattle.q_model.specs.ToolSteps.{after_step, moves}
use Rattle.q_model.proofs.IdLaws.{id_eq-refl, id_eq-true}
use Rattle.q_model.proofs.SpotLaws.{place_eq-true}
use Rattle.q_model.proofs.StandChanges.{Stands-message}
use Rattle.q_model.proofs.StandDamaged.{Stands-damaged}
use Rattle.q_laws.proofs.Books.{message_in}
use Rattle.q_laws.proofs.Members.{all_at, any_in, IsIn}
use Rattle.q_host.specs.View.{View}
use Rattle.q_host.specs.Calls.{Stays}
use Rattle.q_host.specs.declared.error.HostError.{HostError}
use Rattle.q_books.specs.HostStands.{HostStands, Takes, TellsCrashes, Tries}
use Rattle.q_super.specs.declared.acts.Act.{Act}
use Rattle.q_super.specs.declared.acts.Act.TheVariants as acts
use Rattle.q_super.specs.declared.standing.Standing.{Standing}
use Rattle.q_super.specs.Acts.{goal_of, takes, word_of}
use Rattle.q_super.specs.Deeds.{Deed, deeds_of, does, expired, expiring, failing, line_of, moving, moving_from, tells}
use Rattle.q_super.specs.Finding.{IsFoundAt}
use Rattle.q_super.specs.GivingUp.{IsFileOf, IsQueueFile, MayFail}
use Rattle.q_super.specs.Moves.{stands_there}
use Rattle.q_super.specs.Plays.{after_deeds, HaltsDeeds, IsAtRest, PlaysDeeds}
use Rattle.q_super.proofs.EachFound.{idle_deeds}
use Rattle.q_super.proofs.FileMoves.{IsDamagedOne, IsOfMessage, which}
use Rattle.q_super.proofs.MaySteps.{found_moved, stands_wider, taken_fails}
use Rattle.q_super.proofs.Playing.{halts_behind, halts_more, plays_then, reads_play, takes_step, tries_step}
use Rattle.q_super.proofs.Taken.{in_each}

none_some : {A : Type 0} (x : A) → ◌≡◌ {A = Option A} None (Some x) → ⊥
none_some x e = cc

some_same : {A : Type 0} (x y : A) → ◌≡◌ {A = Option A} (Some x) (Some y) → x ≡ y
some_same x y e = cc

-- ---- what stands there

-- the message of the id is that of the file
pub message_at : (f : Files) (b : Book) (s : Standing) (m : Message) → Stands f b → stands_there b s ≡ true → message_of b s.id ≡ Some m → IsFileOf f s m
message_at f b s m h there found =
    let old = Stands-message f b s.id m h found in
    record {
      stands = old.0;
      id = old.1;
      place = ⊎_elim (λ (is : IsOfMessage b s). ap (λ (x : Message). x.place) (some_same m is.message (sym found ∙ is.found)) ∙ is.place)
          (λ (is : IsDamagedOne b s). absurd (true≢false (sym (ap (λ (i : Id). id_eq i s.id) old.1 ∙ id_eq-refl s.id) ∙ is.alone m (message_in b s.id m found).0))) (which b h.distinct s there);
    }

-- where the file is that of no message, the id has none
pub no_message : (f : Files) (b : Book) (s : Standing) → Stands f b → stands_there b s ≡ true → ((m : Message) → IsFileOf f s m → ⊥) → message_of b s.id ≡ None
no_message f b s h there none = by (message_of b s.id) refl
  where
    by : (o : Option Message) → message_of b s.id ≡ o → o ≡ None
    by None e = refl
    by (Some m) e = absurd (none m (message_at f b s m h there e))

unread_none : (bytes : List ℕ) → queue_file bytes ≡ None → IsSome (queue_file bytes) → ⊥
unread_none bytes none some = true≢false (sym some ∙ ap is_some none)

-- a queue file is that of a message
pub of_queue_file : (f : Files) (b : Book) (s : Standing) → Stands f b → stands_there b s ≡ true → is_corrupt s.place ≡ false → IsQueueFile f s → (m : Message) × (message_of b s.id ≡ Some m)
of_queue_file f b s h there sound reads = ⊎_elim (λ (is : IsOfMessage b s). (is.message, is.found))
    (λ (is : IsDamagedOne b s).
    let old = Stands-damaged f b s.id is.damaged h is.found in
    let here : file_at f s.place s.id ≡ Some old.0.bytes = ap (λ (p : Place). file_at f p s.id) (sym is.place) ∙ ap (λ (i : Id). file_at f is.damaged.place i) (sym old.1) ∙ old.0.there in
    absurd (unread_none old.0.bytes (old.0.unread (ap is_corrupt is.place ∙ sound)) (subst (λ (o : Option (List ℕ)). IsSomeAnd o (λ bytes. IsSome (queue_file bytes))) here reads)))
    (which b h.distinct s there)

-- ---- what may fail

-- outside active no failure of a message may be lost
firm_outside : (b : Book) (m : Message) → is_orderly b ≡ true → IsIn m b.messages → is_active m.place ≡ false → has_firm_failures m ≡ true
firm_outside b m orderly inside resting =
    let each = (and_parts (list_all (λ (i : Id). nat_le i.generation b.generation && is_paired b i) (all_ids b)) (list_all (λ (x : Message). is_active x.place || is_sound x) b.messages) orderly).1 in
    ⊎_elim (λ active. absurd (true≢false (sym active ∙ resting))) (λ sound. (and_parts (has_none (unmarked_logged m) && has_none (written_marks m)) (has_firm_failures m) sound).1)
    (or_cases (is_active m.place) (is_sound m) (all_at (λ (x : Message). is_active x.place || is_sound x) m b.messages each inside))

source_resting : (place : Place) → takes acts.Expire place ≡ true → is_active place ≡ false
source_resting places.Incoming h = refl
source_resting (places.Deferred due) h = refl
source_resting places.Hold h = refl
source_resting place h = absurd cc

pub source_sound : (act : Act) (place : Place) → takes act place ≡ true → is_corrupt place ≡ false
source_sound acts.Hold places.Incoming h = refl
source_sound acts.Hold (places.Deferred due) h = refl
source_sound acts.Release places.Hold h = refl
source_sound acts.Requeue (places.Deferred due) h = refl
source_sound acts.Expire places.Incoming h = refl
source_sound acts.Expire (places.Deferred due) h = refl
source_sound acts.Expire places.Hold h = refl
source_sound act place h = absurd cc

pub may_fail : (b : Book) (id : Id) (m : Message) → IsAtRest b → message_of b id ≡ Some m → takes acts.Expire m.place ≡ true → MayFail (after_step b (moves id places.Active)) id (pending m)
may_fail b id m rest found from = record {
  may = taken_fails b id m rest.unpaired found;
  firm = subst (λ (o : Option Message). IsSomeAnd o (λ x. has_firm_failures x ≡ true)) (sym (found_moved b id places.Active m found))
      (firm_outside b m rest.orderly (message_in b id m found).0 (source_resting m.place from));
}

-- ---- the deeds

pub expired_none : (b : Book) (id : Id) → message_of b id ≡ None → expired b id ≡ []
expired_none b id none = ap (λ (o : Option Message). option_map_or expiring o []) none

abbrev pub script : Id → List ℕ → List Deed
script id positions = does (moves id places.Active) ∷ failing id positions ++ tells (line_of (word_of acts.Expire) id) ∷ []

pub expired_some : (b : Book) (id : Id) (m : Message) → message_of b id ≡ Some m → expired b id ≡ script id (pending m)
expired_some b id m found = ap (λ (o : Option Message). option_map_or expiring o []) found ∙ ap (λ (i : Id). script i (pending m)) (message_in b id m found).1

module _ (b : Book) (id : Id) (ps : List ℕ) (u v : View) (lawful : TellsCrashes u) (st : Stays u v) (h : HostStands u b) where
  abbrev k : Book
  k = after_step b (moves id places.Active)

  abbrev line : List Deed
  line = tells (line_of (word_of acts.Expire) id) ∷ []

  pub gave_up : (w x y : View) → Takes b k v w → PlaysDeeds k (failing id ps) w x → PlaysDeeds (after_deeds k (failing id ps)) line x y → PlaysDeeds b (script id ps) u y
  gave_up w x y t p q = plays_then b [] (script id ps) u v y (reads_play b u v lawful st h)
      (plays_then b (does (moves id places.Active) ∷ []) (failing id ps ++ line) v w y (takes_step b (moves id places.Active) v w t)
      (plays_then k (failing id ps) line w x y p q))

  pub not_told : (error : HostError) (w x y : View) → Takes b k v w → PlaysDeeds k (failing id ps) w x → HaltsDeeds (after_deeds k (failing id ps)) line error x y → HaltsDeeds b (script id ps) error u y
  not_told error w x y t p q = halts_behind b [] (script id ps) error u v y (reads_play b u v lawful st h)
      (halts_behind b (does (moves id places.Active) ∷ []) (failing id ps ++ line) error v w y (takes_step b (moves id places.Active) v w t)
      (halts_behind k (failing id ps) line error w x y p q))

  pub not_failed : (error : HostError) (w x : View) → Takes b k v w → HaltsDeeds k (failing id ps) error w x → HaltsDeeds b (script id ps) error u x
  not_failed error w x t q = halts_behind b [] (script id ps) error u v x (reads_play b u v lawful st h)
      (halts_behind b (does (moves id places.Active) ∷ []) (failing id ps ++ line) error v w x (takes_step b (moves id places.Active) v w t)
      (halts_more k (failing id ps) line error w x q))

  pub not_taken : (error : HostError) (w : View) → Tries b k v w → HaltsDeeds b (script id ps) error u w
  not_taken error w t = halts_behind b [] (script id ps) error u v w (reads_play b u v lawful st h)
      (halts_more b (does (moves id places.Active) ∷ []) (failing id ps ++ line) error v w (tries_step b (moves id places.Active) v w error t))

-- ---- what was read of it

-- the message of a file, of which these positions were read
pub record IsRead (b : Book) (s : Standing) (ps : List ℕ) : Type 0 where
  pub message : Message
  pub found : message_of b s.id ≡ Some message
  pub may : MayFail (after_step b (moves s.id places.Active)) s.id ps
  pub deeds : expired b s.id ≡ script s.id ps

pub was_read : (f : Files) (b : Book) (s : Standing) (o : Option (List ℕ)) (positions ps : List ℕ) → Stands f b → IsAtRest b → stands_there b s ≡ true → takes acts.Expire s.place ≡ true → IsQueueFile f s
    → ((m : Message) → IsFileOf f s m → o ≡ Some (pending m)) → o ≡ Some positions → ps ≡ positions → IsRead b s ps
was_read f b s o positions ps h rest there from reads all some same =
    let m = of_queue_file f b s h there (source_sound acts.Expire s.place from) reads in
    let is = message_at f b s m.0 h there m.1 in
    let read : ps ≡ pending m.0 = same ∙ some_same positions (pending m.0) (sym some ∙ all m.0 is) in
    record {
      message = m.0;
      found = m.1;
      may = subst (MayFail (after_step b (moves s.id places.Active)) s.id) (sym read) (may_fail b s.id m.0 rest m.1 (ap (takes acts.Expire) is.place ∙ from));
      deeds = expired_some b s.id m.0 m.1 ∙ ap (script s.id) (sym read);
    }

pub none_read : (f : Files) (b : Book) (s : Standing) (o : Option (List ℕ)) → Stands f b → stands_there b s ≡ true → ((m : Message) → IsFileOf f s m → o ≡ Some (pending m)) → o ≡ None → message_of b s.id ≡ None
none_read f b s o h there all none = no_message f b s h there (λ m is. none_some (pending m) (sym none ∙ all m is))

-- ---- the acts on a file

from_source : (act : Act) (b : Book) (s : Standing) → takes act s.place ≡ true → stands_there b s ≡ true → stands_in (takes act) b s.id ≡ true
from_source act b s from there = stands_wider (place_eq s.place) (takes act) b s.id (λ x e. subst (λ (p : Place). takes act p ≡ true) (place_eq-true s.place x e) from) there

-- each of the other acts moves a file
pub moving_deeds : (act : Act) (b : Book) (s : Standing) → (act ≡ acts.Expire → ⊥) → takes act s.place ≡ true → stands_there b s ≡ true → deeds_of act s.id b ≡ moving (word_of act) (goal_of act) s.id
moving_deeds act b s other from there = by act other ∙ ap (λ t. if t then moving (word_of act) (goal_of act) s.id else []) (from_source act b s from there)
  where
    by : (a : Act) → (a ≡ acts.Expire → ⊥) → deeds_of a s.id b ≡ moving_from a s.id b
    by acts.Hold k = refl
    by acts.Release k = refl
    by acts.Requeue k = refl
    by acts.Expire k = absurd (k refl)

pub expiring_deeds : (b : Book) (s : Standing) → takes acts.Expire s.place ≡ true → stands_there b s ≡ true → deeds_of acts.Expire s.id b ≡ expired b s.id
expiring_deeds b s from there = ap (λ t. if t then expired b s.id else []) (from_source acts.Expire b s from there)

pub expire_deeds : (act : Act) (b : Book) (s : Standing) → act ≡ acts.Expire → takes act s.place ≡ true → stands_there b s ≡ true → deeds_of act s.id b ≡ expired b s.id
expire_deeds act b s is from there = ap (λ (a : Act). deeds_of a s.id b) is ∙ expiring_deeds b s (ap (λ (a : Act). takes a s.place) (sym is) ∙ from) there

pub expired_counts : (b : Book) (id : Id) → is_some (message_of b id) ≡ not (has_none (expired b id))
expired_counts b id = by (message_of b id)
  where
    by : (o : Option Message) → is_some o ≡ not (has_none (option_map_or expiring o []))
    by None = refl
    by (Some m) = refl

-- ---- an id that stands nowhere

-- no file of the id stands where the act takes from
pub nowhere : (f : Files) (act : Act) (b : Book) (id : Id) → Stands f b → IsFoundAt f act id None → stands_in (takes act) b id ≡ false
nowhere f act b id h none = false_from_ne_true (stands_in (takes act) b id) (λ there. ⊎_elim
    (λ whole. let one = any_in (λ (m : Message). id_eq m.id id && takes act m.place) b.messages whole in
    let two = and_parts (id_eq one.0.id id) (takes act one.0.place) one.2 in
    let stands = in_each (MessageStands f) b.messages one.0 h.messages one.1 in
    missing one.0.place (id_eq-true one.0.id id two.0) stands.id stands.place two.1 (ap is_some stands.there))
    (λ broken. let one = any_in (λ (d : Damaged). id_eq d.id id && takes act d.place) b.damaged broken in
    let two = and_parts (id_eq one.0.id id) (takes act one.0.place) one.2 in
    let stands = in_each (DamagedStands f) b.damaged one.0 h.damaged one.1 in
    missing one.0.place (id_eq-true one.0.id id two.0) stands.id stands.place two.1 (ap is_some stands.there))
    (or_cases (list_any (λ (m : Message). id_eq m.id id && takes act m.place) b.messages) (list_any (λ (d : Damaged). id_eq d.id id && takes act d.place) b.damaged) there))
  where
    missing : {i : Id} (place : Place) → i ≡ id → IsId i → IsPlace place → takes act place ≡ true → is_some (file_at f place i) ≡ true → ⊥
    missing {i} place same form fits from there = true≢false (sym (subst (λ (j : Id). is_some (file_at f place j) ≡ true) same there) ∙ none place (record { form = subst IsId same form; fits = fits; from = from }))

-- so there is nothing to do
pub nothing_done : (f : Files) (act : Act) (b : Book) (id : Id) → Stands f b → IsFoundAt f act id None → deeds_of act id b ≡ []
nothing_done f act b id h none = idle_deeds act b id (inl (nowhere f act b id h none))
