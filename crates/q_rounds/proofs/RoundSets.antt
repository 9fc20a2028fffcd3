-- The rounds after the rows of one job were set.
use Rattle.std.proofs.Common.{◌≡◌, ◌≢◌, ◌∙◌, ◌∷◌, ◌++◌, ◌<◌, ◌≤◌, [], ap, false, inl, inr, List, map, None, Option, option_map, refl, Some, subst, sym, true, ℕ, ◌⊎◌}
use Rattle.std.proofs.lemmas.Bool.{and_from, and_parts, both_ways, cases_eq, eq-eqb, eqb-true}
use Rattle.std.specs.Option.{is_some, option_map_or}
use Rattle.std.specs.Prelude.{◌==◌, ◌&&◌, find, IfSome}
use Rattle.q_keyed.proofs.Values.{find_none, held_item, left_none, left_values, none_sought, NonePass, one_under}
use Rattle.q_keyed.specs.Numbered.{AreApart, AreKeysApart, has_number, item_at, Numbered, put_at, values_of, without_number}
use Rattle.q_model.proofs.IdLaws.{id_eq-refl, id_eq-true}
use Rattle.q_model.specs.declared.id.Id.{Id}
use Rattle.q_model.specs.Ids.{id_eq}
use Rattle.q_rounds.specs.declared.round.Round.{Round}
use Rattle.q_rounds.specs.Jobs.{AreEachRound, HasSet, is_round, IsRound, key_of_round, round_at, round_eq, rows_at, same_job}
use Rattle.q_rounds.specs.RoundLaws.{round_eq-true}
use Rattle.q_rounds.proofs.Lookups.{other_left, other_more, other_put, own_left, own_more, own_put, such_left, such_more, such_stays}
use Rattle.q_rounds.proofs.Splits.{one, such_put}

abbrev pub round_with : Id → ℕ → ℕ → Round
round_with id transport rows = record { id = id; transport = transport; waiting = rows }

abbrev waiting_of : Option Round → ℕ
waiting_of o = option_map_or (λ (r : Round). r.waiting) o 0

rows_same : (old new : List (Numbered Round)) (o : Option ℕ) → ((m : ℕ) → o ≡ Some m → item_at m new ≡ item_at m old) → rows_at new o ≡ rows_at old o
rows_same old new None h = refl
rows_same old new (Some m) h = ap waiting_of (h m refl)

unless_none : {A : Type 0} (o : Option A) (x : A) → o ≡ None → o ≡ Some x → ⊥
unless_none {A} o x none some = let both : ◌≡◌ {A = Option A} None (Some x) = sym none ∙ some in absurd cc

own_job : (id : Id) (t : ℕ) → same_job id t id t ≡ true
own_job id t = and_from (id_eq id id) (t == t) (id_eq-refl id) (eq-eqb t t refl)

pub job_parts : (id : Id) (transport : ℕ) (i : Id) (t : ℕ) → same_job id transport i t ≡ true → (id ≡ i) × (transport ≡ t)
job_parts id transport i t h =
    let parts = and_parts (id_eq id i) (transport == t) h in
    (id_eq-true id i parts.0, eqb-true transport t parts.1)

pub job_from : (id : Id) (transport : ℕ) (i : Id) (t : ℕ) → id ≡ i → transport ≡ t → same_job id transport i t ≡ true
job_from id transport i t a b =
    and_from (id_eq id i) (transport == t) (ap (id_eq id) (sym a) ∙ id_eq-refl id) (eq-eqb transport t b)

-- a round is of one job
pub one_job : (id : Id) (transport : ℕ) (i : Id) (t : ℕ) (y : Round) → is_round id transport y ≡ true → is_round i t y ≡ true → same_job id transport i t ≡ true
one_job id transport i t y own other =
    let a = job_parts y.id y.transport id transport own in
    let b = job_parts y.id y.transport i t other in
    job_from id transport i t (sym a.0 ∙ b.0) (sym a.1 ∙ b.1)

module _ (id : Id) (transport room : ℕ) (rs : List (Numbered Round)) (apart : AreApart rs) where
  -- No round is of the job yet.
  module _ (none : round_at id transport rs ≡ None) where
    pub set_none : (rows : ℕ) → rows ≡ 0 → HasSet id transport rows room rs rs
    set_none rows zero = record {
      own = ap (rows_at rs) none ∙ sym zero;
      kept = λ h k. refl;
      others = λ i t other. refl;
      rows_others = λ i t other. refl;
      each = λ old. old;
    }

    module _ (n rows : ℕ) (fresh : find (has_number n) rs ≡ None) (below : n < room) (some : 1 ≤ rows) where
      abbrev the_round : Round
      the_round = round_with id transport rows

      abbrev more : List (Numbered Round)
      more = rs ++ one n the_round ∷ []

      new_at : round_at id transport more ≡ Some n
      new_at = such_more (is_round id transport) (one n the_round) rs none (own_job id transport)

      free_at : item_at n rs ≡ None
      free_at = ap (option_map (λ (k : Numbered Round). k.item)) fresh

      new_differs : (i : Id) (t m : ℕ) → round_at i t rs ≡ Some m → m ≢ n
      new_differs i t m found same =
          let it = held_item (is_round i t) m rs apart found in
          unless_none (item_at n rs) it.0 free_at (ap (λ j. item_at j rs) (sym same) ∙ it.1)

      each_new : AreEachRound room rs → (m : ℕ) (r : Round) → item_at m more ≡ Some r → (m ≡ n) ⊎ (m ≢ n) → IsRound room m r
      each_new old m r h (inl same) =
          let is : Some the_round ≡ Some r = sym (own_more n the_round rs fresh) ∙ ap (λ j. item_at j more) (sym same) ∙ h in
          let its : the_round ≡ r = cc in
          record { below = subst (λ j. j < room) (sym same) below; some = subst (λ (y : Round). 1 ≤ y.waiting) its some }
      each_new old m r h (inr other) = old m r (sym (other_more n m the_round rs other) ∙ h)

      pub set_new : HasSet id transport rows room rs more
      set_new = record {
        own = ap (rows_at more) new_at ∙ ap waiting_of (own_more n the_round rs fresh);
        kept = λ h k. absurd (both_ways (is_some (round_at id transport rs)) (ap is_some none) h);
        others = λ i t other. such_stays (is_round i t) (one n the_round) rs other;
        rows_others = λ i t other.
            ap (rows_at more) (such_stays (is_round i t) (one n the_round) rs other)
            ∙ rows_same rs more (round_at i t rs) (λ m h. other_more n m the_round rs (new_differs i t m h));
        each = λ old m r h. each_new old m r h (cases_eq m n);
      }

  -- One is.
  module _ (n : ℕ) (found : round_at id transport rs ≡ Some n) where
    was : (y : Round) × (item_at n rs ≡ Some y) × (is_round id transport y ≡ true)
    was = held_item (is_round id transport) n rs apart found

    differs : (i : Id) (t m : ℕ) → same_job id transport i t ≡ false → round_at i t rs ≡ Some m → m ≢ n
    differs i t m other at same =
        let it = held_item (is_round i t) m rs apart at in
        let both : Some it.0 ≡ Some was.0 = sym it.1 ∙ ap (λ j. item_at j rs) same ∙ was.1 in
        let its : it.0 ≡ was.0 = cc in
        both_ways (same_job id transport i t) other (one_job id transport i t was.0 was.2 (ap (is_round i t) (sym its) ∙ it.2))

    tests_same : (rows : ℕ) (i : Id) (t : ℕ) → is_round i t (round_with id transport rows) ≡ is_round i t was.0
    tests_same rows i t =
        let parts = job_parts was.0.id was.0.transport id transport was.2 in
        ap (λ j. id_eq j i && (transport == t)) (sym parts.0) ∙ ap (λ u. id_eq was.0.id i && (u == t)) (sym parts.1)

    -- it has the key of the job
    pub has_key : (rows : ℕ) → IfSome (item_at n rs) (λ y. key_of_round y ≡ key_of_round (round_with id transport rows))
    has_key rows =
        let parts = job_parts was.0.id was.0.transport id transport was.2 in
        let key : key_of_round was.0 ≡ key_of_round (round_with id transport rows) =
        ap (λ j. key_of_round (round_with j was.0.transport rows)) parts.0 ∙ ap (λ u. key_of_round (round_with id u rows)) parts.1
        in
        subst (λ (o : Option Round). IfSome o (λ y. key_of_round y ≡ key_of_round (round_with id transport rows))) (sym was.1) key

    module _ (rows : ℕ) (some : 1 ≤ rows) where
      abbrev another : Round
      another = round_with id transport rows

      abbrev changed : List (Numbered Round)
      changed = map (put_at n another) rs

      at_same : (i : Id) (t : ℕ) → round_at i t changed ≡ round_at i t rs
      at_same i t = such_put (is_round i t) n was.0 another rs apart was.1 (tests_same rows i t)

      put_own : item_at n changed ≡ Some another
      put_own = own_put n another rs (ap is_some was.1)

      each_put : AreEachRound room rs → (m : ℕ) (r : Round) → item_at m changed ≡ Some r → (m ≡ n) ⊎ (m ≢ n) → IsRound room m r
      each_put old m r h (inl same) =
          let is : Some another ≡ Some r = sym put_own ∙ ap (λ j. item_at j changed) (sym same) ∙ h in
          let its : another ≡ r = cc in
          record { below = subst (λ j. j < room) (sym same) (old n was.0 was.1).below; some = subst (λ (y : Round). 1 ≤ y.waiting) its some }
      each_put old m r h (inr other) = old m r (sym (other_put n m another rs other) ∙ h)

      pub set_put : HasSet id transport rows room rs changed
      set_put = record {
        own = ap (rows_at changed) (at_same id transport ∙ found) ∙ ap waiting_of put_own;
        kept = λ h k. at_same id transport;
        others = λ i t other. at_same i t;
        rows_others = λ i t other.
            ap (rows_at changed) (at_same i t)
            ∙ rows_same rs changed (round_at i t rs) (λ m h. other_put n m another rs (differs i t m other h));
        each = λ old m r h. each_put old m r h (cases_eq m n);
      }

    module _ (keys : AreKeysApart round_eq key_of_round rs) where
      abbrev rest : List (Numbered Round)
      rest = without_number n rs

      none_left : round_at id transport rest ≡ None
      none_left =
          let values = left_values (is_round id transport) n rs apart (one_under round_eq key_of_round round_eq-true (record { id = id; transport = transport }) rs keys) found in
          none_sought (is_round id transport) rest
          (find_none (is_round id transport) (values_of rest)
          (subst (NonePass (is_round id transport)) (sym values) (left_none (is_round id transport) (values_of rs))))

      left_at : (i : Id) (t : ℕ) → same_job id transport i t ≡ false → round_at i t rest ≡ round_at i t rs
      left_at i t other = such_left (is_round i t) n was.0 rs apart was.1 (sym (tests_same 0 i t) ∙ other)

      each_left : AreEachRound room rs → (m : ℕ) (r : Round) → item_at m rest ≡ Some r → (m ≡ n) ⊎ (m ≢ n) → IsRound room m r
      each_left old m r h (inl same) = absurd (unless_none (item_at n rest) r (own_left n rs) (ap (λ j. item_at j rest) (sym same) ∙ h))
      each_left old m r h (inr other) = old m r (sym (other_left n m rs other) ∙ h)

      pub set_left : (rows : ℕ) → rows ≡ 0 → HasSet id transport rows room rs rest
      set_left rows zero = record {
        own = ap (rows_at rest) none_left ∙ sym zero;
        kept = λ h k. absurd (both_ways (is_some (round_at id transport rest)) (ap is_some none_left) k);
        others = left_at;
        rows_others = λ i t other.
            ap (rows_at rest) (left_at i t other)
            ∙ rows_same rs rest (round_at i t rs) (λ m h. other_left n m rs (differs i t m other h));
        each = λ old m r h. each_left old m r h (cases_eq m n);
      }
