-- The messages of a book that files stand for are those of its queues.
use Rattle.std.proofs.Common.{◌≡◌, ◌+◌, ◌++◌, ◌∙◌, ◌∷◌, [], Bool, Err, List, None, Ok, Option, Result, Some, ap, arith, false, if◌then◌else◌, length, refl, subst, suc, sym, true, ℕ}
use Rattle.std.specs.List.{AllByRecursion}
use Rattle.std.specs.Prelude.{filter, IfOk, not}
use Rattle.q_model.specs.Book.{Book}
use Rattle.q_model.specs.FilesStand.{MessageStands, Stands}
use Rattle.q_model.specs.Lists.{has_none}
use Rattle.q_model.specs.Message.{Message}
use Rattle.q_model.specs.Places.{is_active, is_corrupt, is_incoming}
use Rattle.q_model.specs.SpoolFiles.{Files}
use Rattle.q_model.specs.declared.rows.Place.{Place}
use Rattle.q_model.specs.declared.rows.Place.TheVariants as places
use Rattle.q_walk.proofs.Counts.{few_listed, listed_length}
use Rattle.q_walk.specs.Counted.{counted}
use Rattle.q_walk.specs.Listed.{all_queues, listed}
use Rattle.q_walk.specs.Walks.{GivesNext, IsAhead}
use Rattle.q_walk.specs.declared.walk.Found.{Found}
use Rattle.q_walk.specs.declared.walk.Walk.{Walk}

none_by : (xs ys : List Message) → length xs ≡ length ys → ys ≡ [] → not (has_none xs) ≡ false
none_by [] ys h is = refl
none_by (x ∷ xs) ys h is = let e : length ys ≡ 0 = ap length is in absurd (omega (arith, h, e))

some_by : (xs ys : List Message) (m : Message) (ms : List Message) → length xs ≡ length ys → ys ≡ m ∷ ms → not (has_none xs) ≡ true
some_by [] ys m ms h is = let e : length ys ≡ suc (length ms) = ap length is in absurd (omega (arith, h, e))
some_by (x ∷ xs) ys m ms h is = refl

pub none_left : (f : Files) (b : Book) → Stands f b → listed all_queues b ≡ [] → false ≡ not (has_none b.messages)
none_left f b stands is = sym (none_by b.messages (listed all_queues b) (sym (listed_length f b stands)) is)

pub some_left : (f : Files) (b : Book) (m : Message) (ms : List Message) → Stands f b → listed all_queues b ≡ m ∷ ms → true ≡ not (has_none b.messages)
some_left f b m ms stands is = sym (some_by b.messages (listed all_queues b) m ms (sym (listed_length f b stands)) is)

-- ---- a walk that counts

-- some messages were given and counted, and the rest is ahead
pub record IsCounted (f : Files) (b : Book) (walk : Walk) (count : ℕ) (ms : List Message) : Type 0 where
  pub given : ℕ
  pub counts : count ≡ counted given
  pub rest : List Message
  pub all : length ms ≡ given + length rest
  pub ahead : IsAhead f b walk rest

pub none_counted : (f : Files) (b : Book) (walk : Walk) (ms : List Message) → IsAhead f b walk ms → IsCounted f b walk 0 ms
none_counted f b walk ms ahead = record { given = 0; counts = refl; rest = ms; all = omega arith; ahead = ahead }

module _ (f : Files) (b : Book) (walk walk' : Walk) (count : ℕ) (ms : List Message) (s : IsCounted f b walk count ms) (o : Option Found) (gives : (rest : List Message) → IsAhead f b walk rest → GivesNext f b walk' rest o) where
  pub one_counted : (more : ℕ) (found : Found) → more ≡ counted (count + 1) → o ≡ Some found → IsCounted f b walk' more ms
  one_counted more found one is =
      let g = subst (λ (q : Option Found). GivesNext f b walk' s.rest q) is (gives s.rest s.ahead) in
      let e : length s.rest ≡ suc (length g.1) = ap length g.2 in
      let a = s.all in
      let c = s.counts in
      record { given = s.given + 1; counts = omega (arith, one, c); rest = g.1; all = omega (arith, a, e); ahead = g.4 }

  pub all_counted : o ≡ None → count ≡ counted (length ms)
  all_counted is =
      let g = subst (λ (q : Option Found). GivesNext f b walk' s.rest q) is (gives s.rest s.ahead) in
      let e : length s.rest ≡ 0 = ap length g in
      let a = s.all in
      let c = s.counts in
      omega (arith, a, e, c)

-- all messages of a book are counted
pub whole_count : (f : Files) (b : Book) (count : ℕ) → Stands f b → count ≡ counted (length (listed all_queues b)) → count ≡ length b.messages
whole_count f b count stands is =
    let few = few_listed f b all_queues stands in
    let same = listed_length f b stands in
    omega (arith, is, few, same)

-- what a walk gives by other files that are the same
pub gives_on : (f k : Files) (b : Book) (walk walk' : Walk) (o : Option Found) → k ≡ f → Stands f b → ((rest : List Message) → Stands k b → IsAhead k b walk rest → GivesNext k b walk' rest o) → (rest : List Message) → IsAhead f b walk rest → GivesNext f b walk' rest o
gives_on f k b walk walk' o same stands gives rest ahead =
    subst (λ (q : Files). GivesNext q b walk' rest o) same
    (gives rest (subst (λ (q : Files). Stands q b) (sym same) stands) (subst (λ (q : Files). IsAhead q b walk rest) (sym same) ahead))

pub ok_weaker : {T E : Type 0} {P Q : T → Type 0} (r : Result T E) → ((x : T) → P x → Q x) → IfOk r P → IfOk r Q
ok_weaker (Ok x) f h = f x h
ok_weaker (Err e) f h = tt
