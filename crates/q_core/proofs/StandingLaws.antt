-- A message that an earlier life left stands in active.
use Rattle.std.proofs.Common.{◌≡◌, Bool, true, false, cond, List, [], ◌∷◌, ◌++◌, map, refl, sym, ap, ◌∙◌, subst, Some}
use Rattle.std.specs.List.{list_any}
use Rattle.std.specs.Prelude.{filter, find, not, ◌||◌}
use Rattle.q_core.proofs.NameLaws.{and_true_parts, id_eq-same, id_eq-true, or_right}
use Rattle.q_model.specs.Book.{Damaged, all_ids, ids_at, message_of}
use Rattle.q_model.specs.Ids.{are_distinct, id_eq}
use Rattle.q_model.specs.Leftovers.{is_leftover}
use Rattle.q_model.specs.Ledger.{Ledger}
use Rattle.q_model.specs.Memory.{is_admitted}
use Rattle.q_model.specs.Message.{Message}
use Rattle.q_model.specs.Places.{is_active}
use Rattle.q_model.specs.declared.id.Id.{Id}

other_way_one : (a b : Id) → id_eq a b ≡ true → id_eq b a ≡ true
other_way_one a b h = subst (λ x. id_eq x a ≡ true) (id_eq-true a b h) (id_eq-same a)

any_step : (a b r s : Bool) → (a ≡ true → b ≡ true) → (r ≡ true → s ≡ true) → (a || r) ≡ true → (b || s) ≡ true
any_step true b r s h k e = ap (λ z. z || s) (h refl)
any_step false b r s h k e = or_right b s (k e)

other_way : (id : Id) (ids : List Id) → list_any (id_eq id) ids ≡ true → list_any (λ i. id_eq i id) ids ≡ true
other_way id [] h = cc
other_way id (x ∷ xs) h = any_step (id_eq id x) (id_eq x id) (list_any (id_eq id) xs) (list_any (λ i. id_eq i id) xs) (other_way_one id x) (other_way id xs) h

or_group : (a b c : Bool) → (a || (b || c)) ≡ ((a || b) || c)
or_group true b c = refl
or_group false b c = refl

any_append : (p : Id → Bool) (xs ys : List Id) → list_any p (xs ++ ys) ≡ (list_any p xs || list_any p ys)
any_append p [] ys = refl
any_append p (x ∷ xs) ys = ap (λ b. p x || b) (any_append p xs ys) ∙ or_group (p x) (list_any p xs) (list_any p ys)

kept_step : {X : Type 0} (name : X → Id) (id : Id) (x : X) (ys xs : List X) → (list_any (id_eq id) (map name ys) ≡ true → list_any (id_eq id) (map name xs) ≡ true) → (b : Bool) →
    list_any (id_eq id) (map name (cond b (x ∷ ys) ys)) ≡ true → (id_eq id (name x) || list_any (id_eq id) (map name xs)) ≡ true
kept_step name id x ys xs h true e = any_step (id_eq id (name x)) (id_eq id (name x)) (list_any (id_eq id) (map name ys)) (list_any (id_eq id) (map name xs)) (λ g. g) h e
kept_step name id x ys xs h false e = or_right (id_eq id (name x)) (list_any (id_eq id) (map name xs)) (h e)

kept_id : (id x : Id) (ys xs : List Id) → (list_any (id_eq id) ys ≡ true → list_any (id_eq id) xs ≡ true) → (b : Bool) → list_any (id_eq id) (cond b (x ∷ ys) ys) ≡ true → (id_eq id x || list_any (id_eq id) xs) ≡ true
kept_id id x ys xs h true e = any_step (id_eq id x) (id_eq id x) (list_any (id_eq id) ys) (list_any (id_eq id) xs) (λ g. g) h e
kept_id id x ys xs h false e = or_right (id_eq id x) (list_any (id_eq id) xs) (h e)

-- the names of those that pass are among all names
kept_among : {X : Type 0} (name : X → Id) (p : X → Bool) (id : Id) (xs : List X) → list_any (id_eq id) (map name (filter p xs)) ≡ true → list_any (id_eq id) (map name xs) ≡ true
kept_among name p id [] h = h
kept_among name p id (x ∷ xs) h = kept_step name id x (filter p xs) xs (kept_among name p id xs) (p x) h

among_both : (id : Id) (xs ys few all : List Id) → (list_any (id_eq id) xs ≡ true → list_any (id_eq id) ys ≡ true) → (list_any (id_eq id) few ≡ true → list_any (id_eq id) all ≡ true) →
    list_any (id_eq id) (xs ++ few) ≡ true → list_any (id_eq id) (ys ++ all) ≡ true
among_both id xs ys few all h k e =
    any_append (id_eq id) ys all
    ∙ any_step (list_any (id_eq id) xs) (list_any (id_eq id) ys) (list_any (id_eq id) few) (list_any (id_eq id) all) h k (sym (any_append (id_eq id) xs few) ∙ e)

-- what passes is in the list
kept_there : (id : Id) (p : Id → Bool) (xs : List Id) → list_any (id_eq id) (filter p xs) ≡ true → list_any (id_eq id) xs ≡ true
kept_there id p [] h = h
kept_there id p (x ∷ xs) h = kept_id id x (filter p xs) xs (kept_there id p xs) (p x) h

not_head : (c r : Bool) → (c ≡ true → false ≡ true) → (c || r) ≡ true → r ≡ true
not_head true r h e = let bad : false ≡ true = h refl in cc
not_head false r h e = e

abbrev names : List Message → List Id
names ms = map (λ (m : Message). m.id) ms

abbrev active_ones : List Message → List Message
active_ones ms = filter (λ (m : Message). is_active m.place) ms

-- one message more before those of which the law is known
active_step : (id : Id) (m : Message) (few all : List Id) → (list_any (id_eq id) few ≡ true → list_any (id_eq id) all ≡ true) → (x : Message) (xs : List Message) →
    not (list_any (λ i. id_eq i x.id) (names xs ++ all)) ≡ true →
    (list_any (id_eq id) (names (active_ones xs) ++ few) ≡ true → find (λ y. id_eq y.id id) xs ≡ Some m → is_active m.place ≡ true) →
    (b : Bool) → id_eq x.id id ≡ b → (a : Bool) → is_active x.place ≡ a →
    list_any (id_eq id) (names (cond a (x ∷ active_ones xs) (active_ones xs)) ++ few) ≡ true → cond b (Some x) (find (λ y. id_eq y.id id) xs) ≡ Some m → is_active m.place ≡ true
active_step id m few all inside x xs alone rest true eb true ea any f = let same : x ≡ m = cc in subst (λ (y : Message). is_active y.place ≡ true) same ea
active_step id m few all inside x xs alone rest true eb false ea any f =
    let there : list_any (id_eq id) (names xs ++ all) ≡ true = among_both id (names (active_ones xs)) (names xs) few all (kept_among (λ (y : Message). y.id) (λ (y : Message). is_active y.place) id xs) inside any in
    let twice : list_any (λ i. id_eq i x.id) (names xs ++ all) ≡ true = ap (λ k. list_any (λ i. id_eq i k) (names xs ++ all)) (id_eq-true x.id id eb) ∙ other_way id (names xs ++ all) there in
    let bad : false ≡ true = sym (ap not twice) ∙ alone in
    cc
active_step id m few all inside x xs alone rest false eb true ea any f =
    rest (not_head (id_eq id x.id) (list_any (id_eq id) (names (active_ones xs) ++ few)) (λ g. sym eb ∙ other_way_one id x.id g) any) f
active_step id m few all inside x xs alone rest false eb false ea any f = rest any f

-- where ids are distinct, the message of an id that has a file in active is that file
first_active : (id : Id) (m : Message) (few all : List Id) → (list_any (id_eq id) few ≡ true → list_any (id_eq id) all ≡ true) → (ms : List Message) →
    are_distinct (names ms ++ all) ≡ true → list_any (id_eq id) (names (active_ones ms) ++ few) ≡ true → find (λ y. id_eq y.id id) ms ≡ Some m → is_active m.place ≡ true
first_active id m few all inside [] distinct any f = cc
first_active id m few all inside (x ∷ xs) distinct any f =
    let parts = and_true_parts (not (list_any (λ i. id_eq i x.id) (names xs ++ all))) (are_distinct (names xs ++ all)) distinct in
    active_step id m few all inside x xs parts.0 (first_active id m few all inside xs parts.1) (id_eq x.id id) refl (is_active x.place) refl any f

-- a message of an earlier life stands in active
pub leftover_active : (l : Ledger) → are_distinct (all_ids l.book) ≡ true → (id : Id) (m : Message) → is_leftover l id ≡ true → message_of l.book id ≡ Some m → is_active m.place ≡ true
leftover_active l distinct id m left e =
    first_active id m (map (λ (d : Damaged). d.id) (filter (λ (d : Damaged). is_active d.place) l.book.damaged)) (map (λ (d : Damaged). d.id) l.book.damaged)
    (kept_among (λ (d : Damaged). d.id) (λ (d : Damaged). is_active d.place) id l.book.damaged) l.book.messages distinct
    (kept_there id (λ k. not (is_admitted l k)) (ids_at is_active l.book) left) e
