-- On a book at rest the steps of an act may be done, each after those before it.
use Rattle.std.proofs.Common.{◌≡◌, ◌<◌, ◌∙◌, ◌||◌, ◌&&◌, ◌∷◌, ◌++◌, [], ℕ, Bool, true, false, not, List, map, is_some, Some, None, Option, option_map, if◌then◌else◌, ⊎_elim, inl, inr, refl, sym, ap, subst, arith}
use Rattle.std.specs.List.{AllByRecursion, list_all, list_any}
use Rattle.std.specs.Option.{option_map_or}
use Rattle.std.specs.Prelude.{◌==◌}
use Rattle.std.proofs.lemmas.Bool.{and_from, and_parts, eq-eqb, eqb-true, false_from_ne_true, or_cases, or_left, or_right}
use Rattle.std.proofs.lemmas.List.Folds.{list_any-append}
use Rattle.q_model.specs.declared.id.Id.{Id}
use Rattle.q_model.specs.declared.rows.Place.{Place}
use Rattle.q_model.specs.declared.rows.Place.TheVariants as places
use Rattle.q_model.specs.Book.{all_ids, Book, Damaged, message_of, stands, stands_in}
use Rattle.q_model.specs.BookChanges.{move_message}
use Rattle.q_model.specs.Ids.{bounce_of, id_eq}
use Rattle.q_model.specs.Logs.{with_failure}
use Rattle.q_model.specs.Marks.{is_marked}
use Rattle.q_model.specs.Message.{is_logged, Logged, Message, pending, Recipient}
use Rattle.q_model.specs.Places.{is_active, place_eq}
use Rattle.q_model.specs.ToolSteps.{after_step, fails, given_up, is_tool_move, is_unpaired, may_give_up, may_step, may_steps, moves}
use Rattle.q_model.proofs.IdLaws.{id_eq-refl}
use Rattle.q_model.proofs.SpotLaws.{place_eq-true}
use Rattle.q_model.proofs.StandMoves.{found-any}
use Rattle.q_laws.proofs.Batched.{IsRising, rising_places}
use Rattle.q_laws.proofs.Books.{message_in}
use Rattle.q_laws.proofs.InPlace.{changed, changed_name, changed_same}
use Rattle.q_laws.proofs.Mapped.{all_ids_mapped, find_mapped, stands_mapped}
use Rattle.q_laws.proofs.Members.{all_weaker, any_from, IsIn}
use Rattle.q_laws.proofs.Moved.{move_to}
use Rattle.q_laws.proofs.Places.{is_place, place_is}
use Rattle.q_lives.proofs.ToolSteps.{files_named}
use Rattle.q_super.specs.declared.acts.Act.{Act}
use Rattle.q_super.specs.declared.acts.Act.TheVariants as acts
use Rattle.q_super.specs.declared.standing.Standing.{Standing}
use Rattle.q_super.specs.Acts.{goal_of, takes, word_of}
use Rattle.q_super.specs.Deeds.{deeds_of, does, expired, expiring, failing, line_of, moving, moving_each, moving_from, steps_in, tells}
use Rattle.q_super.specs.Moves.{AreThere}
use Rattle.q_super.proofs.FileMoves.{stands-moved}
use Rattle.q_super.proofs.ToldMoves.{there_behind}

-- ---- no message comes to stand with its bounce

unpaired_same : (b c : Book) → all_ids c ≡ all_ids b → ((i : Id) → stands c i ≡ stands b i) → is_unpaired b ≡ true → is_unpaired c ≡ true
unpaired_same b c same there h =
    ap (list_all (λ (i : Id). i.bounce || not (stands c (bounce_of i)))) same
    ∙ all_weaker (λ (i : Id). i.bounce || not (stands b (bounce_of i))) (λ (i : Id). i.bounce || not (stands c (bounce_of i))) (all_ids b) (λ i _ k. ap (λ t. i.bounce || not t) (there (bounce_of i)) ∙ k) h

pub unpaired_moved : (b : Book) (id : Id) (q : Place) → is_unpaired b ≡ true → is_unpaired (after_step b (moves id q)) ≡ true
unpaired_moved b id q = unpaired_same b (after_step b (moves id q))
    (ap (λ (is : List Id). map (λ (m : Message). m.id) (move_message b id q).messages ++ is) (files_named id q b.damaged)
    ∙ all_ids_mapped b b.generation (changed id (move_to q)) (changed_name id (move_to q) (λ x. refl)))
    (λ i. stands-moved (move_message b id q) id q i ∙ stands_mapped b b.generation (changed id (move_to q)) (changed_name id (move_to q) (λ x. refl)) i)

pub unpaired_failed : (b : Book) (id : Id) (p : ℕ) → is_unpaired b ≡ true → is_unpaired (after_step b (fails id p)) ≡ true
unpaired_failed b id p =
    unpaired_same b (after_step b (fails id p))
    (all_ids_mapped b b.generation (changed id (with_failure (given_up p))) (changed_name id (with_failure (given_up p)) (λ x. refl)))
    (λ i. stands_mapped b b.generation (changed id (with_failure (given_up p))) (changed_name id (with_failure (given_up p)) (λ x. refl)) i)

-- ---- moves

-- at a place of one kind, and so at one of a wider kind
pub stands_wider : (p q : Place → Bool) (b : Book) (id : Id) → ((x : Place) → p x ≡ true → q x ≡ true) → stands_in p b id ≡ true → stands_in q b id ≡ true
stands_wider p q b id wider h = ⊎_elim
    (λ k. or_left (list_any (λ (m : Message). id_eq m.id id && q m.place) b.messages) (list_any (λ (d : Damaged). id_eq d.id id && q d.place) b.damaged)
    (found-any (λ (m : Message). id_eq m.id id && p m.place) (λ (m : Message). id_eq m.id id && q m.place) b.messages (λ x both. let two = and_parts (id_eq x.id id) (p x.place) both in and_from (id_eq x.id id) (q x.place) two.0 (wider x.place two.1)) k))
    (λ k. or_right (list_any (λ (m : Message). id_eq m.id id && q m.place) b.messages) (list_any (λ (d : Damaged). id_eq d.id id && q d.place) b.damaged)
    (found-any (λ (d : Damaged). id_eq d.id id && p d.place) (λ (d : Damaged). id_eq d.id id && q d.place) b.damaged (λ x both. let two = and_parts (id_eq x.id id) (p x.place) both in and_from (id_eq x.id id) (q x.place) two.0 (wider x.place two.1)) k))
    (or_cases (list_any (λ (m : Message). id_eq m.id id && p m.place) b.messages) (list_any (λ (d : Damaged). id_eq d.id id && p d.place) b.damaged) h)

pub takes_moves : (act : Act) (place : Place) → takes act place ≡ true → is_tool_move place (goal_of act) ≡ true
takes_moves acts.Hold places.Incoming h = refl
takes_moves acts.Hold (places.Deferred due) h = refl
takes_moves acts.Release places.Hold h = refl
takes_moves acts.Requeue (places.Deferred due) h = refl
takes_moves acts.Expire places.Incoming h = refl
takes_moves acts.Expire (places.Deferred due) h = refl
takes_moves acts.Expire places.Hold h = refl
takes_moves act place h = absurd cc

may_move : (b : Book) (id : Id) (to : Place) → is_unpaired b ≡ true → stands_in (λ from. is_tool_move from to) b id ≡ true → (not (is_active to) || is_some (message_of b id)) ≡ true → may_step b (moves id to) ≡ true
may_move b id to unpaired there whole = and_from (is_unpaired b && stands_in (λ from. is_tool_move from to) b id) (not (is_active to) || is_some (message_of b id))
    (and_from (is_unpaired b) (stands_in (λ from. is_tool_move from to) b id) unpaired there) whole

-- files that move one behind another
pub moves_may : (word : List ℕ) (to : Place) (files : List Standing) (b : Book) → is_active to ≡ false → is_unpaired b ≡ true → AllByRecursion (λ s. is_tool_move s.place to ≡ true) files → AreThere b files → may_steps b (steps_in (moving_each word to files)) ≡ true
moves_may word to [] b resting unpaired each there = refl
moves_may word to (s ∷ ss) b resting unpaired each there = and_from (may_step b (moves s.id to)) (may_steps (after_step b (moves s.id to)) (steps_in (moving_each word to ss)))
    (may_move b s.id to unpaired
    (stands_wider (place_eq s.place) (λ from. is_tool_move from to) b s.id (λ x e. subst (λ (p : Place). is_tool_move p to ≡ true) (place_eq-true s.place x e) each.0) there.there.0)
    (or_left (not (is_active to)) (is_some (message_of b s.id)) (ap not resting)))
    (moves_may word to ss (after_step b (moves s.id to)) resting (unpaired_moved b s.id to unpaired) each.1 (there_behind b s ss to there))

-- ---- failures

-- each of these recipients is pending in the message, which stands in active
record CanFail (b : Book) (id : Id) (ps : List ℕ) : Type 0 where
  message : Message
  found : message_of b id ≡ Some message
  active : is_active message.place ≡ true
  waiting : (p : ℕ) → IsIn p ps → IsIn p (pending message)
  rising : IsRising ps

logged_other : (m : Message) (p q : ℕ) → (p == q) ≡ false → is_logged (with_failure (given_up p) m) q ≡ is_logged m q
logged_other m p q apart = list_any-append (λ (x : Logged). x.failure.position == q) m.failures (record { failure = given_up p; firm = true } ∷ [])
    ∙ ap (λ t. is_logged m q || (t || false)) apart ∙ or_none (is_logged m q)
  where
    or_none : (t : Bool) → (t || (false || false)) ≡ t
    or_none true = refl
    or_none false = refl

-- another one stays pending
still_pending : (m : Message) (p q : ℕ) → (p == q) ≡ false → IsIn q (pending m) → IsIn q (pending (with_failure (given_up p) m))
still_pending m p q apart h =
    let at = place_is 0 (λ i (r : Recipient). not (is_marked r.mark || is_logged m i)) m.recipients q h in
    is_place 0 (λ i (r : Recipient). not (is_marked r.mark || is_logged (with_failure (given_up p) m) i)) m.recipients at.index q at.item at.is at.there
    (ap (λ t. not (is_marked at.item.mark || t)) (logged_other m p q apart) ∙ at.passes)

below_apart : (p q : ℕ) → p < q → (p == q) ≡ false
below_apart p q less = false_from_ne_true (p == q) (λ e. absurd (omega (arith, less, eqb-true p q e)))

pub found_failed : (b : Book) (id : Id) (p : ℕ) (m : Message) → message_of b id ≡ Some m → message_of (after_step b (fails id p)) id ≡ Some (with_failure (given_up p) m)
found_failed b id p m found =
    find_mapped (changed id (with_failure (given_up p))) (changed_name id (with_failure (given_up p)) (λ x. refl)) id b.messages
    ∙ ap (option_map (changed id (with_failure (given_up p)))) found
    ∙ ap Some (changed_same id (with_failure (given_up p)) m (ap (λ (i : Id). id_eq i id) (message_in b id m found).1 ∙ id_eq-refl id))

fails_may : (ps : List ℕ) (b : Book) (id : Id) → is_unpaired b ≡ true → CanFail b id ps → may_steps b (steps_in (failing id ps)) ≡ true
fails_may [] b id unpaired h = refl
fails_may (p ∷ ps) b id unpaired h = and_from (may_step b (fails id p)) (may_steps (after_step b (fails id p)) (steps_in (failing id ps)))
    (and_from (is_unpaired b) (option_map_or (may_give_up p) (message_of b id) false) unpaired
    (ap (λ (o : Option Message). option_map_or (may_give_up p) o false) h.found
    ∙ and_from (is_active h.message.place) (list_any (λ q. q == p) (pending h.message)) h.active (any_from (λ q. q == p) p (pending h.message) (h.waiting p (inl refl)) (same p))))
    (fails_may ps (after_step b (fails id p)) id (unpaired_failed b id p unpaired) (record {
      message = with_failure (given_up p) h.message;
      found = found_failed b id p h.message h.found;
      active = h.active;
      waiting = λ q k. still_pending h.message p q (below_apart p q (h.rising.0 q k)) (h.waiting q (inr k));
      rising = h.rising.1;
    }))
  where
    same : (n : ℕ) → (n == n) ≡ true
    same n = eq-eqb n n refl

-- ---- a message that is given up

pub found_moved : (b : Book) (id : Id) (q : Place) (m : Message) → message_of b id ≡ Some m → message_of (after_step b (moves id q)) id ≡ Some (record m { place = q })
found_moved b id q m found =
    find_mapped (changed id (move_to q)) (changed_name id (move_to q) (λ x. refl)) id b.messages
    ∙ ap (option_map (changed id (move_to q))) found
    ∙ ap Some (changed_same id (move_to q) m (ap (λ (i : Id). id_eq i id) (message_in b id m found).1 ∙ id_eq-refl id))

steps_failing : (id : Id) (ps : List ℕ) (line : List ℕ) → steps_in (failing id ps ++ tells line ∷ []) ≡ steps_in (failing id ps)
steps_failing id [] line = refl
steps_failing id (p ∷ ps) line = ap (λ xs. fails id p ∷ xs) (steps_failing id ps line)

-- taken to active, its pending recipients may fail
pub taken_fails : (b : Book) (id : Id) (m : Message) → is_unpaired b ≡ true → message_of b id ≡ Some m → may_steps (after_step b (moves id places.Active)) (steps_in (failing id (pending m))) ≡ true
taken_fails b id m unpaired found = fails_may (pending m) (after_step b (moves id places.Active)) id (unpaired_moved b id places.Active unpaired) (record {
  message = record m { place = places.Active };
  found = found_moved b id places.Active m found;
  active = refl;
  waiting = λ p k. k;
  rising = rising_places 0 (λ i (r : Recipient). not (is_marked r.mark || is_logged m i)) m.recipients;
})

pub expired_may : (b : Book) (id : Id) → is_unpaired b ≡ true → stands_in (takes acts.Expire) b id ≡ true → may_steps b (steps_in (expired b id)) ≡ true
expired_may b id unpaired there = by (message_of b id) refl
  where
    by : (o : Option Message) → message_of b id ≡ o → may_steps b (steps_in (option_map_or expiring o [])) ≡ true
    by None e = refl
    by (Some m) e =
        let same : m.id ≡ id = (message_in b id m e).1 in
        subst (λ (i : Id). may_steps b (steps_in (does (moves i places.Active) ∷ failing i (pending m) ++ tells (line_of (word_of acts.Expire) i) ∷ [])) ≡ true) (sym same)
        (and_from (may_step b (moves id places.Active)) (may_steps (after_step b (moves id places.Active)) (steps_in (failing id (pending m) ++ tells (line_of (word_of acts.Expire) id) ∷ [])))
        (may_move b id places.Active unpaired (stands_wider (takes acts.Expire) (λ from. is_tool_move from places.Active) b id (takes_moves acts.Expire) there) (ap is_some e))
        (ap (may_steps (after_step b (moves id places.Active))) (steps_failing id (pending m) (line_of (word_of acts.Expire) id)) ∙ taken_fails b id m unpaired e))

moving_may : (act : Act) (b : Book) (id : Id) → is_active (goal_of act) ≡ false → is_unpaired b ≡ true → may_steps b (steps_in (moving_from act id b)) ≡ true
moving_may act b id resting unpaired = by (stands_in (takes act) b id) refl
  where
    by : (t : Bool) → stands_in (takes act) b id ≡ t → may_steps b (steps_in (if t then moving (word_of act) (goal_of act) id else [])) ≡ true
    by false e = refl
    by true e = and_from (may_step b (moves id (goal_of act))) true
        (may_move b id (goal_of act) unpaired (stands_wider (takes act) (λ from. is_tool_move from (goal_of act)) b id (takes_moves act) e) (or_left (not (is_active (goal_of act))) (is_some (message_of b id)) (ap not resting))) refl

-- the steps of an act on an id
pub deeds_may : (act : Act) (b : Book) (id : Id) → is_unpaired b ≡ true → may_steps b (steps_in (deeds_of act id b)) ≡ true
deeds_may acts.Hold b id unpaired = moving_may acts.Hold b id refl unpaired
deeds_may acts.Release b id unpaired = moving_may acts.Release b id refl unpaired
deeds_may acts.Requeue b id unpaired = moving_may acts.Requeue b id refl unpaired
deeds_may acts.Expire b id unpaired = by (stands_in (takes acts.Expire) b id) refl
  where
    by : (t : Bool) → stands_in (takes acts.Expire) b id ≡ t → may_steps b (steps_in (if t then expired b id else [])) ≡ true
    by false e = refl
    by true e = expired_may b id unpaired e
