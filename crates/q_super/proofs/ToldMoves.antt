-- Files that move and are told, one behind another.
use Rattle.std.proofs.Common.{◌≡◌, ◌<◌, ◌≤◌, ◌+◌, ◌∙◌, ◌∷◌, ◌++◌, [], ℕ, zero, suc, true, false, List, map, length, take, take_all, drop, get_or, is_some, ⊎_elim, inl, inr, refl, sym, ap, subst, arith, true≢false}
use Rattle.std.specs.List.{AllByRecursion}
use Rattle.std.specs.Prelude.{Err, IsErrAnd, IsErrOf, Ok, Result, slice_index_or}
use Rattle.std.proofs.lemmas.Grind.{flat_map-append}
use Rattle.std.proofs.lemmas.List.{take-append-drop, take_more}
use Rattle.q_model.specs.declared.id.Id.{Id}
use Rattle.q_model.specs.declared.rows.Place.{Place}
use Rattle.q_model.specs.declared.rows.Place.TheVariants as places
use Rattle.q_model.specs.Book.{Book}
use Rattle.q_model.specs.FilesStand.{Stands}
use Rattle.q_model.specs.Ids.{id_eq}
use Rattle.q_model.specs.Places.{place_eq}
use Rattle.q_model.specs.SpoolFiles.{file_at, Files}
use Rattle.q_model.specs.ToolSteps.{after_step, moves}
use Rattle.q_model.proofs.EachLaws.{each-both, each-same}
use Rattle.q_model.proofs.StandChanges.{Stands-message}
use Rattle.q_model.proofs.StandDamaged.{Stands-damaged}
use Rattle.q_laws.proofs.Distinct.{distinct_tail, id_cases}
use Rattle.q_laws.proofs.Members.{IsIn}
use Rattle.q_host.specs.Calls.{Stays}
use Rattle.q_host.specs.View.{View}
use Rattle.q_host.specs.declared.error.HostError.{HostError}
use Rattle.q_books.specs.HostStands.{HostStands, Takes, TellsCrashes, Tries}
use Rattle.q_super.specs.declared.standing.Standing.{Standing}
use Rattle.q_super.specs.Deeds.{Deed, does, line_of, moving, moving_each, tells}
use Rattle.q_super.specs.Moves.{AreThere, is_file, stands_there}
use Rattle.q_super.specs.Plays.{after_deeds, HaltsDeeds, PlaysDeeds}
use Rattle.q_super.proofs.EachFound.{in_other}
use Rattle.q_super.proofs.FileMoves.{IsDamagedOne, IsOfMessage, which}
use Rattle.q_super.proofs.Playing.{after_deeds-append, halts_behind, halts_more, plays_none, plays_then, reads_play, takes_step, tries_step}

-- the error that was passed on
pub same_error : {T : Type 0} (r : Result T HostError) (inner error : HostError) → IsErrAnd r (λ x. x ≡ inner) → IsErrOf r error → inner ≡ error
same_error (Ok v) inner error is of = absurd is
same_error (Err x) inner error is of =
    let same : x ≡ error = cc in
    sym is ∙ same

-- ---- files of a book

-- a file of the book stands where it says
pub file_there : (f : Files) (b : Book) (s : Standing) → Stands f b → stands_there b s ≡ true → is_file f s ≡ true
file_there f b s h there = ⊎_elim
    (λ (is : IsOfMessage b s). let old = Stands-message f b s.id is.message h is.found in
    ap is_some (ap (λ (p : Place). file_at f p s.id) (sym is.place) ∙ ap (λ (i : Id). file_at f is.message.place i) (sym old.1) ∙ old.0.there))
    (λ (is : IsDamagedOne b s). let old = Stands-damaged f b s.id is.damaged h is.found in
    ap is_some (ap (λ (p : Place). file_at f p s.id) (sym is.place) ∙ ap (λ (i : Id). file_at f is.damaged.place i) (sym old.1) ∙ old.0.there))
    (which b h.distinct s there)

pub surely_there : (f : Files) (b : Book) (s : Standing) → Stands f b → stands_there b s ≡ true → is_file f s ≡ false → ⊥
surely_there f b s h there gone = true≢false (sym (file_there f b s h there) ∙ gone)

-- ---- another file stays where it is

still_there : (b : Book) (id : Id) (q : Place) (s : Standing) → id_eq s.id id ≡ false → stands_there (after_step b (moves id q)) s ≡ stands_there b s
still_there b id q s apart = in_other (place_eq s.place) b id q s.id apart

each_apart : (id : Id) (ss : List Standing) → (IsIn id (map (λ (s : Standing). s.id) ss) → ⊥) → AllByRecursion (λ (s : Standing). id_eq s.id id ≡ false) ss
each_apart id [] none = tt
each_apart id (s ∷ ss) none = (
  ⊎_elim (λ k. absurd (none (inl k.0))) (λ k. k) (id_cases s.id id),
  each_apart id ss (λ inside. none (inr inside)),
)

-- the rest of the files is there behind the first's move
pub there_behind : (b : Book) (s : Standing) (ss : List Standing) (q : Place) → AreThere b (s ∷ ss) → AreThere (after_step b (moves s.id q)) ss
there_behind b s ss q h =
    let tail = distinct_tail s.id (map (λ (x : Standing). x.id) ss) h.apart in
    record {
      there = each-same (λ (x : Standing). (stands_there b x ≡ true) × (id_eq x.id s.id ≡ false)) (λ (x : Standing). stands_there (after_step b (moves s.id q)) x ≡ true) ss (λ x k. still_there b s.id q x k.1 ∙ k.0)
          (each-both (λ (x : Standing). stands_there b x ≡ true) (λ (x : Standing). id_eq x.id s.id ≡ false) ss h.there.1 (each_apart s.id ss tail.0));
      apart = tail.1;
    }

-- ---- one file

module _ (b : Book) (word : List ℕ) (s : Standing) (to : Place) (u v : View) (lawful : TellsCrashes u) (st : Stays u v) (h : HostStands u b) where
  -- it moved and was told
  pub moved_told : (w x : View) → Takes b (after_step b (moves s.id to)) v w → PlaysDeeds (after_step b (moves s.id to)) (tells (line_of word s.id) ∷ []) w x → PlaysDeeds b (moving word to s.id) u x
  moved_told w x t p = plays_then b [] (moving word to s.id) u v x (reads_play b u v lawful st h)
      (plays_then b (does (moves s.id to) ∷ []) (tells (line_of word s.id) ∷ []) v w x (takes_step b (moves s.id to) v w t) p)

  -- it moved, and telling it was given up
  pub moved_untold : (error : HostError) (w x : View) → Takes b (after_step b (moves s.id to)) v w → HaltsDeeds (after_step b (moves s.id to)) (tells (line_of word s.id) ∷ []) error w x → HaltsDeeds b (moving word to s.id) error u x
  moved_untold error w x t p = halts_behind b [] (moving word to s.id) error u v x (reads_play b u v lawful st h)
      (halts_behind b (does (moves s.id to) ∷ []) (tells (line_of word s.id) ∷ []) error v w x (takes_step b (moves s.id to) v w t) p)

  -- the move was given up
  pub not_moved : (error : HostError) (w : View) → Tries b (after_step b (moves s.id to)) v w → HaltsDeeds b (moving word to s.id) error u w
  not_moved error w t = halts_behind b [] (moving word to s.id) error u v w (reads_play b u v lawful st h)
      (halts_more b (does (moves s.id to) ∷ []) (tells (line_of word s.id) ∷ []) error v w (tries_step b (moves s.id to) v w error t))

-- ---- files one behind another

pub each_append : (word : List ℕ) (to : Place) (ss ts : List Standing) → moving_each word to (ss ++ ts) ≡ moving_each word to ss ++ moving_each word to ts
each_append word to ss ts = flat_map-append (λ (s : Standing). moving word to s.id) ss ts

drop_suc : {A : Type 0} (xs : List A) (i : ℕ) (x : A) → i < length xs → x ≡ slice_index_or xs i x → drop i xs ≡ x ∷ drop (suc i) xs
drop_suc [] i x h e = absurd (omega (arith, h))
drop_suc (y ∷ ys) zero x h e = ap (λ z. z ∷ ys) (sym e)
drop_suc (y ∷ ys) (suc i) x h e = drop_suc ys i x (omega (arith, h)) e

pub drop_at : {A : Type 0} (xs : List A) (i : ℕ) (x : A) → i < length xs → x ≡ slice_index_or xs i x → drop i xs ≡ x ∷ drop (i + 1) xs
drop_at xs i x h e =
    let same : suc i ≡ i + 1 = omega arith in
    drop_suc xs i x h e ∙ ap (λ n. x ∷ drop n xs) same

-- the first of these files moved and were told, and the others are still there
pub record MovedFront (b : Book) (word : List ℕ) (to : Place) (files : List Standing) (i : ℕ) (u v : View) : Type 0 where
  pub plays : PlaysDeeds b (moving_each word to (take i files)) u v
  pub rest : AreThere (after_deeds b (moving_each word to (take i files))) (drop i files)

pub front_none : (b : Book) (word : List ℕ) (to : Place) (files : List Standing) (u : View) → TellsCrashes u → HostStands u b → AreThere b files → MovedFront b word to files 0 u u
front_none b word to files u lawful h there = record { plays = plays_none b u lawful h; rest = there }

module _ (b : Book) (word : List ℕ) (to : Place) (files : List Standing) (i : ℕ) (x : Standing) (within : i < length files) (is : x ≡ slice_index_or files i x) (u v : View) (front : MovedFront b word to files i u v) where
  abbrev pub before : List Deed
  before = moving_each word to (take i files)

  one_more : moving_each word to (take (i + 1) files) ≡ before ++ moving word to x.id
  one_more = ap (moving_each word to) (take_more files i x within ∙ ap (λ (s : Standing). take i files ++ s ∷ []) (sym is)) ∙ each_append word to (take i files) (x ∷ [])

  behind : drop i files ≡ x ∷ drop (i + 1) files
  behind = drop_at files i x within is

  next : AreThere (after_deeds b before) (x ∷ drop (i + 1) files)
  next = subst (AreThere (after_deeds b before)) behind front.rest

  pub next_there : stands_there (after_deeds b before) x ≡ true
  next_there = next.there.0

  pub front_more : (w : View) → PlaysDeeds (after_deeds b before) (moving word to x.id) v w → MovedFront b word to files (i + 1) u w
  front_more w p = record {
    plays = subst (λ (ds : List Deed). PlaysDeeds b ds u w) (sym one_more) (plays_then b before (moving word to x.id) u v w front.plays p);
    rest = subst (λ (k : Book). AreThere k (drop (i + 1) files)) (sym (ap (after_deeds b) one_more ∙ after_deeds-append b before (moving word to x.id))) (there_behind (after_deeds b before) x (drop (i + 1) files) to next);
  }

  all_of : moving_each word to files ≡ before ++ (moving word to x.id ++ moving_each word to (drop (i + 1) files))
  all_of = ap (moving_each word to) (sym (take-append-drop i files) ∙ ap (λ (ss : List Standing). take i files ++ ss) behind) ∙ each_append word to (take i files) (x ∷ drop (i + 1) files)

  pub front_halts : (error : HostError) (w : View) → HaltsDeeds (after_deeds b before) (moving word to x.id) error v w → HaltsDeeds b (moving_each word to files) error u w
  front_halts error w q = subst (λ (ds : List Deed). HaltsDeeds b ds error u w) (sym all_of)
      (halts_behind b before (moving word to x.id ++ moving_each word to (drop (i + 1) files)) error u v w front.plays
      (halts_more (after_deeds b before) (moving word to x.id) (moving_each word to (drop (i + 1) files)) error v w q))

pub front_all : (b : Book) (word : List ℕ) (to : Place) (files : List Standing) (i : ℕ) (u v : View) → length files ≤ i → MovedFront b word to files i u v → PlaysDeeds b (moving_each word to files) u v
front_all b word to files i u v whole front = subst (λ (ss : List Standing). PlaysDeeds b (moving_each word to ss) u v) (take_all i files whole) front.plays

-- what holds of each file holds of this one
pub at_index : {A : Type 0} (P : A → Type 0) (xs : List A) (i : ℕ) (x : A) → AllByRecursion P xs → i < length xs → x ≡ slice_index_or xs i x → P x
at_index P [] i x each h e = absurd (omega (arith, h))
at_index P (y ∷ ys) zero x each h e = subst P (sym e) each.0
at_index P (y ∷ ys) (suc i) x each h e = at_index P ys i x each.1 (omega (arith, h)) e

-- an index within a list gives the same, whatever would be given past its end
pub same_default : {A : Type 0} (xs : List A) (i : ℕ) (d e : A) → i < length xs → get_or xs i d ≡ slice_index_or xs i e
same_default [] i d e h = absurd (omega (arith, h))
same_default (x ∷ xs) zero d e h = refl
same_default (x ∷ xs) (suc i) d e h = same_default xs i d e (omega (arith, h))

-- what would be given past the end of files
abbrev pub no_file : Standing
no_file = record { id = record { generation = 0; serial = 0; bounce = false }; place = places.Incoming }
