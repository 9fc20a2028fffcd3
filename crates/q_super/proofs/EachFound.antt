-- What an act finds of an id behind deeds with other ids, or with the same.
use Rattle.std.proofs.Common.{◌≡◌, ◌∙◌, ◌||◌, ◌&&◌, ◌∷◌, ◌++◌, [], ℕ, Bool, true, false, List, None, Option, option_map, Some, if◌then◌else◌, ⊎_elim, inl, inr, refl, sym, ap, subst}
use Rattle.std.specs.List.{AllByRecursion, list_any}
use Rattle.std.specs.Option.{option_map_or}
use Rattle.q_model.specs.declared.id.Id.{Id}
use Rattle.q_model.specs.declared.rows.Place.{Place}
use Rattle.q_model.specs.declared.rows.Place.TheVariants as places
use Rattle.q_model.specs.Book.{Book, Damaged, message_of, stands_in}
use Rattle.q_model.specs.Ids.{id_eq}
use Rattle.q_model.specs.Logs.{with_failure}
use Rattle.q_model.specs.Message.{Message, pending}
use Rattle.q_model.specs.ToolSteps.{after_step, after_steps, fails, given_up, moves, ToolStep}
use Rattle.q_model.proofs.EachLaws.{any-map}
use Rattle.q_model.proofs.StandChanges.{any-same}
use Rattle.q_laws.proofs.Books.{message_in}
use Rattle.q_laws.proofs.Distinct.{id_cases}
use Rattle.q_laws.proofs.InPlace.{changed, changed_name}
use Rattle.q_laws.proofs.Mapped.{find_mapped}
use Rattle.q_laws.proofs.Moved.{move_to}
use Rattle.q_model.proofs.StandLaws.{true_false}
use Rattle.q_model.proofs.IdLaws.{id_eq-true}
use Rattle.std.proofs.lemmas.Bool.{and_left, false_from_ne_true}
use Rattle.q_super.specs.declared.acts.Act.{Act}
use Rattle.q_super.specs.declared.acts.Act.TheVariants as acts
use Rattle.q_super.specs.Acts.{goal_of, takes, word_of}
use Rattle.q_super.specs.Deeds.{deeds_of, expired, expiring, failing, line_of, moving, steps_in, tells}
use Rattle.q_super.specs.FoundPlaces.{IsIdle}
use Rattle.q_super.specs.Plays.{after_deeds}

-- ---- where files stand behind one step

any_none : {A : Type 0} (p : A → Bool) (xs : List A) → ((x : A) → p x ≡ false) → list_any p xs ≡ false
any_none p [] none = refl
any_none p (x ∷ xs) none = ap (λ (t : Bool). t || list_any p xs) (none x) ∙ any_none p xs none

no_and : (t : Bool) → (t && false) ≡ false
no_and true = refl
no_and false = refl

module _ (p : Place → Bool) (b : Book) (id : Id) where
  -- a failure moves no file
  in_failed : (n : ℕ) (x : Id) → stands_in p (after_step b (fails id n)) x ≡ stands_in p b x
  in_failed n x = ap (λ (t : Bool). t || list_any (λ (d : Damaged). id_eq d.id x && p d.place) b.damaged)
      (any-map (λ (m : Message). id_eq m.id x && p m.place) (λ (m : Message). if id_eq m.id id then with_failure (given_up n) m else m) b.messages
      ∙ any-same (λ (m : Message). id_eq (if id_eq m.id id then with_failure (given_up n) m else m).id x && p (if id_eq m.id id then with_failure (given_up n) m else m).place) (λ (m : Message). id_eq m.id x && p m.place) b.messages (λ m. kept m (id_eq m.id id)))
    where
      kept : (m : Message) (t : Bool) → (id_eq (if t then with_failure (given_up n) m else m).id x && p (if t then with_failure (given_up n) m else m).place) ≡ (id_eq m.id x && p m.place)
      kept m true = refl
      kept m false = refl

  module _ (q : Place) where
    -- a file that moved stands where it moved to
    in_moved : p q ≡ false → stands_in p (after_step b (moves id q)) id ≡ false
    in_moved goal = ap (λ (t : Bool). t || list_any (λ (d : Damaged). id_eq d.id id && p d.place) (after_step b (moves id q)).damaged)
        (any-map (λ (m : Message). id_eq m.id id && p m.place) (λ (m : Message). if id_eq m.id id then record m { place = q } else m) b.messages
        ∙ any_none (λ (m : Message). id_eq (if id_eq m.id id then record m { place = q } else m).id id && p (if id_eq m.id id then record m { place = q } else m).place) b.messages (λ m. whole m (id_eq m.id id) refl))
        ∙ any-map (λ (d : Damaged). id_eq d.id id && p d.place) (λ (d : Damaged). if id_eq d.id id then record d { place = q } else d) b.damaged
        ∙ any_none (λ (d : Damaged). id_eq (if id_eq d.id id then record d { place = q } else d).id id && p (if id_eq d.id id then record d { place = q } else d).place) b.damaged (λ d. broken d (id_eq d.id id) refl)
      where
        whole : (m : Message) (t : Bool) → id_eq m.id id ≡ t → (id_eq (if t then record m { place = q } else m).id id && p (if t then record m { place = q } else m).place) ≡ false
        whole m true e = ap (λ (t : Bool). id_eq m.id id && t) goal ∙ no_and (id_eq m.id id)
        whole m false e = and_left (id_eq m.id id) (p m.place) e

        broken : (d : Damaged) (t : Bool) → id_eq d.id id ≡ t → (id_eq (if t then record d { place = q } else d).id id && p (if t then record d { place = q } else d).place) ≡ false
        broken d true e = ap (λ (t : Bool). id_eq d.id id && t) goal ∙ no_and (id_eq d.id id)
        broken d false e = and_left (id_eq d.id id) (p d.place) e

    -- another file stays where it is
    pub in_other : (x : Id) → id_eq x id ≡ false → stands_in p (after_step b (moves id q)) x ≡ stands_in p b x
    in_other x apart = ap (λ (t : Bool). t || list_any (λ (d : Damaged). id_eq d.id x && p d.place) (after_step b (moves id q)).damaged)
        (any-map (λ (m : Message). id_eq m.id x && p m.place) (λ (m : Message). if id_eq m.id id then record m { place = q } else m) b.messages
        ∙ any-same (λ (m : Message). id_eq (if id_eq m.id id then record m { place = q } else m).id x && p (if id_eq m.id id then record m { place = q } else m).place) (λ (m : Message). id_eq m.id x && p m.place) b.messages (λ m. whole m (id_eq m.id id) refl))
        ∙ ap (λ (t : Bool). list_any (λ (m : Message). id_eq m.id x && p m.place) b.messages || t)
        (any-map (λ (d : Damaged). id_eq d.id x && p d.place) (λ (d : Damaged). if id_eq d.id id then record d { place = q } else d) b.damaged
        ∙ any-same (λ (d : Damaged). id_eq (if id_eq d.id id then record d { place = q } else d).id x && p (if id_eq d.id id then record d { place = q } else d).place) (λ (d : Damaged). id_eq d.id x && p d.place) b.damaged (λ d. broken d (id_eq d.id id) refl))
      where
        other : (y : Id) → id_eq y id ≡ true → id_eq y x ≡ false
        other y e = false_from_ne_true (id_eq y x) (λ k. true_false (id_eq x id) (ap (λ (j : Id). id_eq j id) (sym (id_eq-true y x k)) ∙ e) apart)

        whole : (m : Message) (t : Bool) → id_eq m.id id ≡ t → (id_eq (if t then record m { place = q } else m).id x && p (if t then record m { place = q } else m).place) ≡ (id_eq m.id x && p m.place)
        whole m true e = and_left (id_eq m.id x) (p q) (other m.id e) ∙ sym (and_left (id_eq m.id x) (p m.place) (other m.id e))
        whole m false e = refl

        broken : (d : Damaged) (t : Bool) → id_eq d.id id ≡ t → (id_eq (if t then record d { place = q } else d).id x && p (if t then record d { place = q } else d).place) ≡ (id_eq d.id x && p d.place)
        broken d true e = and_left (id_eq d.id x) (p q) (other d.id e) ∙ sym (and_left (id_eq d.id x) (p d.place) (other d.id e))
        broken d false e = refl

-- ---- behind several steps

-- the step is with this id
abbrev pub IsStepWith : Id → ToolStep → Type 0
IsStepWith id (moves i place) = i ≡ id
IsStepWith id (fails i n) = i ≡ id

steps_other : (p : Place → Bool) (id x : Id) → id_eq x id ≡ false → (ss : List ToolStep) (b : Book) → AllByRecursion (IsStepWith id) ss → stands_in p (after_steps b ss) x ≡ stands_in p b x
steps_other p id x apart [] b each = refl
steps_other p id x apart (moves i q ∷ ss) b each =
    steps_other p id x apart ss (after_step b (moves i q)) each.1 ∙ in_other p b i q x (subst (λ (j : Id). id_eq x j ≡ false) (sym each.0) apart)
steps_other p id x apart (fails i n ∷ ss) b each = steps_other p id x apart ss (after_step b (fails i n)) each.1 ∙ in_failed p b i n x

-- a message that isn't there doesn't come
none_comes : (x : Id) (ss : List ToolStep) (b : Book) → message_of b x ≡ None → message_of (after_steps b ss) x ≡ None
none_comes x [] b none = none
none_comes x (moves i q ∷ ss) b none = none_comes x ss (after_step b (moves i q))
    (find_mapped (changed i (move_to q)) (changed_name i (move_to q) (λ m. refl)) x b.messages ∙ ap (option_map (changed i (move_to q))) none)
none_comes x (fails i n ∷ ss) b none = none_comes x ss (after_step b (fails i n))
    (find_mapped (changed i (with_failure (given_up n))) (changed_name i (with_failure (given_up n)) (λ m. refl)) x b.messages ∙ ap (option_map (changed i (with_failure (given_up n)))) none)

-- ---- the steps of deeds

failing_with : (i id : Id) → i ≡ id → (ps : List ℕ) (line : List ℕ) → AllByRecursion (IsStepWith id) (steps_in (failing i ps ++ tells line ∷ []))
failing_with i id same [] line = tt
failing_with i id same (n ∷ ps) line = (same, failing_with i id same ps line)

deeds_with : (act : Act) (id : Id) (b : Book) → AllByRecursion (IsStepWith id) (steps_in (deeds_of act id b))
deeds_with act id b = by act
  where
    one : (a : Act) (t : Bool) → AllByRecursion (IsStepWith id) (steps_in (if t then moving (word_of a) (goal_of a) id else []))
    one a true = (refl, tt)
    one a false = tt

    found : (o : Option Message) → message_of b id ≡ o → AllByRecursion (IsStepWith id) (steps_in (option_map_or expiring o []))
    found None e = tt
    found (Some m) e = let same = (message_in b id m e).1 in (same, failing_with m.id id same (pending m) (line_of (word_of acts.Expire) m.id))

    given : (t : Bool) → AllByRecursion (IsStepWith id) (steps_in (if t then expired b id else []))
    given true = found (message_of b id) refl
    given false = tt

    by : (a : Act) → AllByRecursion (IsStepWith id) (steps_in (deeds_of a id b))
    by acts.Hold = one acts.Hold (stands_in (takes acts.Hold) b id)
    by acts.Release = one acts.Release (stands_in (takes acts.Release) b id)
    by acts.Requeue = one acts.Requeue (stands_in (takes acts.Requeue) b id)
    by acts.Expire = given (stands_in (takes acts.Expire) b id)

-- ---- an id with which there is nothing to do

pub idle_deeds : (act : Act) (b : Book) (id : Id) → IsIdle act b id → deeds_of act id b ≡ []
idle_deeds act b id (inl none) = by act none
  where
    by : (a : Act) → stands_in (takes a) b id ≡ false → deeds_of a id b ≡ []
    by acts.Hold k = ap (λ t. if t then moving (word_of acts.Hold) (goal_of acts.Hold) id else []) k
    by acts.Release k = ap (λ t. if t then moving (word_of acts.Release) (goal_of acts.Release) id else []) k
    by acts.Requeue k = ap (λ t. if t then moving (word_of acts.Requeue) (goal_of acts.Requeue) id else []) k
    by acts.Expire k = ap (λ t. if t then expired b id else []) k
idle_deeds act b id (inr (is, none)) = ap (λ (a : Act). deeds_of a id b) is ∙ by (stands_in (takes acts.Expire) b id)
  where
    by : (t : Bool) → (if t then expired b id else []) ≡ []
    by true = ap (λ (o : Option Message). option_map_or expiring o []) none
    by false = refl

-- so it is behind the deeds with it
pub idle_behind : (act : Act) (b : Book) (id : Id) → IsIdle act (after_deeds b (deeds_of act id b)) id
idle_behind act b id = by act
  where
    moved : (a : Act) → takes a (goal_of a) ≡ false → (t : Bool) → stands_in (takes a) b id ≡ t → stands_in (takes a) (after_deeds b (if t then moving (word_of a) (goal_of a) id else [])) id ≡ false
    moved a goal true e = in_moved (takes a) b id (goal_of a) goal
    moved a goal false e = e

    failed : (i : Id) (ps : List ℕ) (line : List ℕ) (k : Book) → stands_in (takes acts.Expire) k id ≡ false → stands_in (takes acts.Expire) (after_deeds k (failing i ps ++ tells line ∷ [])) id ≡ false
    failed i [] line k h = h
    failed i (n ∷ ps) line k h = failed i ps line (after_step k (fails i n)) (in_failed (takes acts.Expire) k i n id ∙ h)

    found : (o : Option Message) → message_of b id ≡ o → IsIdle acts.Expire (after_deeds b (option_map_or expiring o [])) id
    found None e = inr (refl, e)
    found (Some m) e =
        let same = (message_in b id m e).1 in
        inl (failed m.id (pending m) (line_of (word_of acts.Expire) m.id) (after_step b (moves m.id places.Active))
        (subst (λ (i : Id). stands_in (takes acts.Expire) (after_step b (moves i places.Active)) id ≡ false) (sym same) (in_moved (takes acts.Expire) b id places.Active refl)))

    given : (t : Bool) → stands_in (takes acts.Expire) b id ≡ t → IsIdle acts.Expire (after_deeds b (if t then expired b id else [])) id
    given true e = found (message_of b id) refl
    given false e = inl e

    by : (a : Act) → IsIdle a (after_deeds b (deeds_of a id b)) id
    by acts.Hold = inl (moved acts.Hold refl (stands_in (takes acts.Hold) b id) refl)
    by acts.Release = inl (moved acts.Release refl (stands_in (takes acts.Release) b id) refl)
    by acts.Requeue = inl (moved acts.Requeue refl (stands_in (takes acts.Requeue) b id) refl)
    by acts.Expire = given (stands_in (takes acts.Expire) b id) refl

-- and behind those with others
pub idle_still : (act : Act) (b : Book) (id x : Id) → IsIdle act b x → IsIdle act (after_deeds b (deeds_of act id b)) x
idle_still act b id x idle = elim (id_cases x id) [
  | inl same ↦ subst (IsIdle act (after_deeds b (deeds_of act id b))) (sym same.0) (idle_behind act b id)
  | inr apart ↦ ⊎_elim (λ none. inl (steps_other (takes act) id x apart (steps_in (deeds_of act id b)) b (deeds_with act id b) ∙ none))
      (λ none. inr (none.0, none_comes x (steps_in (deeds_of act id b)) b none.1)) idle
]

-- another file stays where it is
pub still_stands : (p : Place → Bool) (act : Act) (b : Book) (id x : Id) → id_eq x id ≡ false → stands_in p b x ≡ true → stands_in p (after_deeds b (deeds_of act id b)) x ≡ true
still_stands p act b id x apart there = steps_other p id x apart (steps_in (deeds_of act id b)) b (deeds_with act id b) ∙ there
