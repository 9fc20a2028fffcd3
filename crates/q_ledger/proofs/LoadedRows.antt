-- The rows that wait are those of the loads; those of one message are its load's.
use Rattle.std.proofs.Common.{◌≡◌, ℕ, Bool, true, false, cond, List, [], ◌∷◌, ◌++◌, map, filter, find, length, Some, None, ◌⊎◌, inl, inr, refl, sym, ap, ◌∙◌, subst, not, slice_get, suc, take, drop, zero}
use Rattle.std.proofs.lemmas.Bool.{and_from, and_parts, not-true, or_from, or_parts}
use Rattle.std.proofs.lemmas.List.{append-nil, append_assoc, map-append, take-append-drop}
use Rattle.std.proofs.lemmas.List.Elements.{filter-append}
use Rattle.std.proofs.lemmas.Grind.{flat_map-append}
use Rattle.std.proofs.lemmas.Map.{keys-set_value}
use Rattle.std.proofs.lemmas.List.Folds.{find-append, list_all-append, list_any-append}
use Rattle.std.specs.List.{list_all, list_any}
use Rattle.std.specs.Map.{keys_of, lookup, remove_entry, set_value, values_of}
use Rattle.std.specs.Option.{option_map_or, option_or}
use Rattle.std.specs.Prelude.{◌==◌, ◌||◌, Vec}
use Rattle.q_laws.proofs.Distinct.{id_cases, id_eq-sym, id_other}
use Rattle.q_laws.proofs.Members.{all_at, none_from}
use Rattle.q_model.proofs.IdLaws.{id_eq-true}
use Rattle.q_model.specs.Ids.{are_distinct, id_eq}
use Rattle.q_model.specs.Lists.{drop_first, has_none}
use Rattle.q_model.specs.declared.id.Id.{Id}
use Rattle.q_model.specs.declared.rows.Row.{Row}
use Rattle.q_ledger.proofs.PartLaws.{all_left, any_within, dropped_behind, dropped_there, find_within, Implies, kept_all, kept_none, none_within, nothing_dropped, some_length}
use Rattle.q_ledger.specs.Loads.{are_loads, is_load, rows_of_loads}

-- the test asks for this id
abbrev pub Asks : (Id → Bool) → Id → Type 0
Asks test id = (k : Id) → test k ≡ id_eq id k

-- ---- the rows of one message

other_row : (id owner : Id) → id_eq owner id ≡ false → (r : Row) → id_eq r.id owner ≡ true → id_eq r.id id ≡ false
other_row id owner h r e = elim (id_cases r.id id) [
  | inl same ↦ absurd (id_other owner id h (sym (id_eq-true r.id owner e) ∙ same.0))
  | inr other ↦ other
]

-- a load has no row of another message
pub other_load : {A : Type 0} (id : Id) (load : Id × Vec Row A) → is_load load ≡ true → id_eq load.0 id ≡ false → list_any (λ (r : Row). id_eq r.id id) load.1.items ≡ false
other_load id load h other =
    let own = (and_parts (not (has_none load.1.items)) (list_all (λ (r : Row). id_eq r.id load.0) load.1.items) h).1 in
    none_from (λ (r : Row). id_eq r.id id) load.1.items (λ r g. other_row id load.0 other r (all_at (λ (s : Row). id_eq s.id load.0) r load.1.items own g))

pub other_loads : {A : Type 0} (id : Id) (loads : List (Id × Vec Row A)) → list_all is_load loads ≡ true → list_any (λ i. id_eq i id) (map (λ load. load.0) loads) ≡ false → list_any (λ (r : Row). id_eq r.id id) (rows_of_loads loads) ≡ false
other_loads id [] h none = refl
other_loads id (load ∷ loads) h none =
    let each = and_parts (is_load load) (list_all is_load loads) h in
    let apart = or_parts (id_eq load.0 id) (list_any (λ i. id_eq i id) (map (λ l. l.0) loads)) none in
    list_any-append (λ (r : Row). id_eq r.id id) load.1.items (rows_of_loads loads)
    ∙ or_from (list_any (λ (r : Row). id_eq r.id id) load.1.items) (list_any (λ (r : Row). id_eq r.id id) (rows_of_loads loads))
    (other_load id load each.0 apart.0) (other_loads id loads each.1 apart.1)

-- the rows of a load, where there is one
abbrev pub load_of : {A : Type 0} → (Id → Bool) → List (Id × Vec Row A) → List Row
load_of test loads = option_map_or (λ rows. rows.items) (lookup test loads) []

own_part : {A : Type 0} (test : Id → Bool) (id : Id) (load : Id × Vec Row A) (loads : List (Id × Vec Row A)) → Asks test id → is_load load ≡ true → list_all is_load loads ≡ true
    → not (list_any (λ i. id_eq i load.0) (map (λ l. l.0) loads)) ≡ true → filter (λ (r : Row). id_eq r.id id) (rows_of_loads loads) ≡ load_of test loads
    → filter (λ (r : Row). id_eq r.id id) (load.1.items) ++ filter (λ (r : Row). id_eq r.id id) (rows_of_loads loads) ≡ load_of test (load ∷ loads)
own_part {A} test id load loads asks one each apart rest = elim (id_cases id load.0) [
  | inl same ↦
      let own = (and_parts (not (has_none load.1.items)) (list_all (λ (r : Row). id_eq r.id load.0) load.1.items) one).1 in
      let mine : list_all (λ (r : Row). id_eq r.id id) load.1.items ≡ true = subst (λ (i : Id). list_all (λ (r : Row). id_eq r.id i) load.1.items ≡ true) (sym same.0) own in
      let none : list_any (λ i. id_eq i id) (map (λ (l : Id × Vec Row A). l.0) loads) ≡ false =
      subst (λ (i : Id). list_any (λ j. id_eq j i) (map (λ (l : Id × Vec Row A). l.0) loads) ≡ false) (sym same.0) (not-true (list_any (λ i. id_eq i load.0) (map (λ (l : Id × Vec Row A). l.0) loads)) apart) in
      ap (λ (rs : List Row). rs ++ filter (λ (r : Row). id_eq r.id id) (rows_of_loads loads)) (kept_all (λ (r : Row). id_eq r.id id) load.1.items mine)
      ∙ ap (λ (rs : List Row). load.1.items ++ rs) (kept_none (λ (r : Row). id_eq r.id id) (rows_of_loads loads) (other_loads id loads each none))
      ∙ append-nil load.1.items
      ∙ ap (λ b. option_map_or (λ (rows : Vec Row A). rows.items) (cond b (Some load.1) (lookup test loads)) []) (sym (asks load.0 ∙ same.1))
  | inr other ↦
      ap (λ (rs : List Row). rs ++ filter (λ (r : Row). id_eq r.id id) (rows_of_loads loads)) (kept_none (λ (r : Row). id_eq r.id id) load.1.items (other_load id load one (id_eq-sym id load.0 other)))
      ∙ rest
      ∙ ap (λ b. option_map_or (λ (rows : Vec Row A). rows.items) (cond b (Some load.1) (lookup test loads)) []) (sym (asks load.0 ∙ other))
]

pub of_message : {A : Type 0} (test : Id → Bool) (id : Id) (loads : List (Id × Vec Row A)) → Asks test id → are_loads loads ≡ true → filter (λ (r : Row). id_eq r.id id) (rows_of_loads loads) ≡ load_of test loads
of_message test id [] asks h = refl
of_message {A} test id (load ∷ loads) asks h =
    let keys = λ (ls : List (Id × Vec Row A)). map (λ (l : Id × Vec Row A). l.0) ls in
    let both = and_parts (list_all is_load (load ∷ loads)) (are_distinct (keys (load ∷ loads))) h in
    let each = and_parts (is_load load) (list_all is_load loads) both.0 in
    let apart = and_parts (not (list_any (λ i. id_eq i load.0) (keys loads))) (are_distinct (keys loads)) both.1 in
    filter-append (λ (r : Row). id_eq r.id id) load.1.items (rows_of_loads loads)
    ∙ own_part test id load loads asks each.0 each.1 apart.0 (of_message test id loads asks (and_from (list_all is_load loads) (are_distinct (keys loads)) each.1 apart.1))

-- ---- the rows of a load change

abbrev pub of_id : Id → Row → Bool
of_id id r = id_eq r.id id

asked : (test : Id → Bool) (id key : Id) → Asks test id → ((id ≡ key) × (test key ≡ true)) ⊎ ((id_eq key id ≡ false) × (test key ≡ false))
asked test id key asks = elim (id_cases id key) [
  | inl same ↦ inl (same.0, asks key ∙ same.1)
  | inr other ↦ inr (id_eq-sym id key other, asks key ∙ other)
]

-- a load is not empty, and of its message
abbrev pub IsLoadOf : {A : Type 0} → Id → Vec Row A → Type 0
IsLoadOf id rows = (has_none rows.items ≡ false) × (list_all (of_id id) rows.items ≡ true)

load_parts : {A : Type 0} (load : Id × Vec Row A) → is_load load ≡ true → IsLoadOf load.0 load.1
load_parts load h = let two = and_parts (not (has_none load.1.items)) (list_all (of_id load.0) load.1.items) h in (not-true (has_none load.1.items) two.0, two.1)

not_false : (b : Bool) → b ≡ false → not b ≡ true
not_false b h = ap not h

pub load_whole : {A : Type 0} (load : Id × Vec Row A) → IsLoadOf load.0 load.1 → is_load load ≡ true
load_whole load h = and_from (not (has_none load.1.items)) (list_all (of_id load.0) load.1.items) (not_false (has_none load.1.items) h.0) h.1

same_Some : {X : Type 0} (x y : X) → Some x ≡ Some y → x ≡ y
same_Some x y h = cc

-- the load that is found is the message's
pub load_found : {A : Type 0} (test : Id → Bool) (id : Id) (loads : List (Id × Vec Row A)) (v : Vec Row A) → Asks test id → list_all is_load loads ≡ true → lookup test loads ≡ Some v → IsLoadOf id v
load_found test id [] v asks h e = cc
load_found {A} test id (load ∷ loads) v asks h e =
    let each = and_parts (is_load load) (list_all is_load loads) h in
    elim (asked test id load.0 asks) [
      | inl same ↦
          let here : load.1 ≡ v = same_Some load.1 v (ap (λ b. cond b (Some load.1) (lookup test loads)) (sym same.1) ∙ e) in
          subst (λ (i : Id). IsLoadOf i v) (sym same.0) (subst (λ (w : Vec Row A). IsLoadOf load.0 w) here (load_parts load each.0))
      | inr other ↦ load_found test id loads v asks each.1 (ap (λ b. cond b (Some load.1) (lookup test loads)) (sym other.1) ∙ e)
    ]

-- one row less of the load
taken_here : (p : Row → Bool) (xs ys rest : List Row) → list_any p rest ≡ false → ys ≡ drop_first p xs → (ys ++ rest) ≡ drop_first p (xs ++ rest)
taken_here p xs ys rest none left = which (list_any p xs) refl
  where
    which : (b : Bool) → list_any p xs ≡ b → (ys ++ rest) ≡ drop_first p (xs ++ rest)
    which true e = ap (λ zs. zs ++ rest) left ∙ sym (dropped_there p xs rest e)
    which false e =
        ap (λ zs. zs ++ rest) (left ∙ nothing_dropped p xs e)
        ∙ ap (λ zs. xs ++ zs) (sym (nothing_dropped p rest none))
        ∙ sym (dropped_behind p xs rest e)

pub taken_rows : {A : Type 0} (test : Id → Bool) (id : Id) (p : Row → Bool) (loads : List (Id × Vec Row A)) (v w : Vec Row A) → Asks test id → Implies p (of_id id)
    → list_all is_load loads ≡ true → are_distinct (keys_of loads) ≡ true → lookup test loads ≡ Some v → w.items ≡ drop_first p v.items
    → rows_of_loads (set_value test loads w) ≡ drop_first p (rows_of_loads loads)
taken_rows test id p [] v w asks only h d e left = cc
taken_rows {A} test id p (load ∷ loads) v w asks only h d e left =
    let each = and_parts (is_load load) (list_all is_load loads) h in
    let apart = and_parts (not (list_any (λ i. id_eq i load.0) (keys_of loads))) (are_distinct (keys_of loads)) d in
    let changed = λ (b : Bool). rows_of_loads (cond b ((load.0, w) ∷ loads) (load ∷ set_value test loads w)) in
    elim (asked test id load.0 asks) [
      | inl same ↦
          let here : load.1 ≡ v = same_Some load.1 v (ap (λ b. cond b (Some load.1) (lookup test loads)) (sym same.1) ∙ e) in
          let none = subst (λ (i : Id). list_any (λ j. id_eq j i) (keys_of loads) ≡ false) (sym same.0) (not-true (list_any (λ i. id_eq i load.0) (keys_of loads)) apart.0) in
          ap changed same.1
          ∙ taken_here p load.1.items w.items (rows_of_loads loads) (none_within p (of_id id) (rows_of_loads loads) only (other_loads id loads each.1 none))
          (left ∙ ap (λ (u : Vec Row A). drop_first p u.items) (sym here))
      | inr other ↦
          ap changed other.1
          ∙ ap (λ rs. load.1.items ++ rs) (taken_rows test id p loads v w asks only each.1 apart.1 (ap (λ b. cond b (Some load.1) (lookup test loads)) (sym other.1) ∙ e) left)
          ∙ sym (dropped_behind p load.1.items (rows_of_loads loads) (none_within p (of_id id) load.1.items only (other_load id load each.0 other.0)))
    ]

set_step : {A : Type 0} (load : Id × Vec Row A) (w : Vec Row A) (loads others : List (Id × Vec Row A)) (b : Bool) → (b ≡ true → is_load (load.0, w) ≡ true) → is_load load ≡ true → list_all is_load loads ≡ true → list_all is_load others ≡ true
    → list_all is_load (cond b ((load.0, w) ∷ loads) (load ∷ others)) ≡ true
set_step load w loads others true own one each rest = and_from (is_load (load.0, w)) (list_all is_load loads) (own refl) each
set_step load w loads others false own one each rest = and_from (is_load load) (list_all is_load others) one rest

pub set_loads : {A : Type 0} (test : Id → Bool) (id : Id) (loads : List (Id × Vec Row A)) (w : Vec Row A) → Asks test id → list_all is_load loads ≡ true → IsLoadOf id w → list_all is_load (set_value test loads w) ≡ true
set_loads test id [] w asks h own = refl
set_loads {A} test id (load ∷ loads) w asks h own =
    let each = and_parts (is_load load) (list_all is_load loads) h in
    set_step load w loads (set_value test loads w) (test load.0)
    (λ yes. load_whole (load.0, w) (subst (λ (i : Id). IsLoadOf i w) (id_eq-true id load.0 (sym (asks load.0) ∙ yes)) own))
    each.0 each.1 (set_loads test id loads w asks each.1 own)

-- a load with nothing left goes
empty_step : {A : Type 0} (load : Id × Vec Row A) (w : Vec Row A) (loads others gone : List (Id × Vec Row A)) (b : Bool) → w.items ≡ [] → rows_of_loads gone ≡ rows_of_loads others
    → rows_of_loads (cond b loads (load ∷ gone)) ≡ rows_of_loads (cond b ((load.0, w) ∷ loads) (load ∷ others))
empty_step load w loads others gone true h k = ap (λ rs. rs ++ rows_of_loads loads) (sym h)
empty_step load w loads others gone false h k = ap (λ rs. load.1.items ++ rs) k

pub emptied_rows : {A : Type 0} (test : Id → Bool) (loads : List (Id × Vec Row A)) (w : Vec Row A) → w.items ≡ [] → rows_of_loads (remove_entry test loads) ≡ rows_of_loads (set_value test loads w)
emptied_rows test [] w h = refl
emptied_rows test (load ∷ loads) w h = empty_step load w loads (set_value test loads w) (remove_entry test loads) (test load.0) h (emptied_rows test loads w h)

gone_step : {A : Type 0} (test : Id → Bool) (load : Id × Vec Row A) (w : Vec Row A) (loads others gone : List (Id × Vec Row A)) (b : Bool) → test load.0 ≡ b → remove_entry test others ≡ gone
    → remove_entry test (cond b ((load.0, w) ∷ loads) (load ∷ others)) ≡ cond b loads (load ∷ gone)
gone_step test load w loads others gone true e h = ap (λ b. cond b loads ((load.0, w) ∷ remove_entry test loads)) e
gone_step test load w loads others gone false e h = ap (λ b. cond b others (load ∷ remove_entry test others)) e ∙ ap (λ ls. load ∷ ls) h

pub set_and_gone : {A : Type 0} (test : Id → Bool) (loads : List (Id × Vec Row A)) (w : Vec Row A) → remove_entry test (set_value test loads w) ≡ remove_entry test loads
set_and_gone test [] w = refl
set_and_gone test (load ∷ loads) w = gone_step test load w loads (set_value test loads w) (remove_entry test loads) (test load.0) refl (set_and_gone test loads w)

less_step : {A : Type 0} (key : Id) (load : Id × Vec Row A) (loads gone : List (Id × Vec Row A)) (b : Bool) → id_eq load.0 key ≡ false → list_any (λ i. id_eq i key) (keys_of loads) ≡ false → list_any (λ i. id_eq i key) (keys_of gone) ≡ false
    → list_any (λ i. id_eq i key) (keys_of (cond b loads (load ∷ gone))) ≡ false
less_step key load loads gone true one all rest = all
less_step key load loads gone false one all rest = or_from (id_eq load.0 key) (list_any (λ i. id_eq i key) (keys_of gone)) one rest

less_keys : {A : Type 0} (test : Id → Bool) (key : Id) (loads : List (Id × Vec Row A)) → list_any (λ i. id_eq i key) (keys_of loads) ≡ false → list_any (λ i. id_eq i key) (keys_of (remove_entry test loads)) ≡ false
less_keys test key [] h = refl
less_keys test key (load ∷ loads) h =
    let two = or_parts (id_eq load.0 key) (list_any (λ i. id_eq i key) (keys_of loads)) h in
    less_step key load loads (remove_entry test loads) (test load.0) two.0 two.1 (less_keys test key loads two.1)

left_loads_step : {A : Type 0} (load : Id × Vec Row A) (loads gone : List (Id × Vec Row A)) (b : Bool) → are_loads loads ≡ true → is_load load ≡ true → list_any (λ i. id_eq i load.0) (keys_of gone) ≡ false → are_loads gone ≡ true
    → are_loads (cond b loads (load ∷ gone)) ≡ true
left_loads_step load loads gone true all one apart rest = all
left_loads_step load loads gone false all one apart rest =
    let two = and_parts (list_all is_load gone) (are_distinct (keys_of gone)) rest in
    and_from (list_all is_load (load ∷ gone)) (are_distinct (keys_of (load ∷ gone)))
    (and_from (is_load load) (list_all is_load gone) one two.0)
    (and_from (not (list_any (λ i. id_eq i load.0) (keys_of gone))) (are_distinct (keys_of gone)) (not_false (list_any (λ i. id_eq i load.0) (keys_of gone)) apart) two.1)

pub left_loads : {A : Type 0} (test : Id → Bool) (loads : List (Id × Vec Row A)) → are_loads loads ≡ true → are_loads (remove_entry test loads) ≡ true
left_loads test [] h = refl
left_loads test (load ∷ loads) h =
    let both = and_parts (list_all is_load (load ∷ loads)) (are_distinct (keys_of (load ∷ loads))) h in
    let each = and_parts (is_load load) (list_all is_load loads) both.0 in
    let apart = and_parts (not (list_any (λ i. id_eq i load.0) (keys_of loads))) (are_distinct (keys_of loads)) both.1 in
    let all = and_from (list_all is_load loads) (are_distinct (keys_of loads)) each.1 apart.1 in
    left_loads_step load loads (remove_entry test loads) (test load.0) all each.0
    (less_keys test load.0 loads (not-true (list_any (λ i. id_eq i load.0) (keys_of loads)) apart.0)) (left_loads test loads all)

-- ---- a load comes

any_of_all : (id : Id) (rows : List Row) → has_none rows ≡ false → list_all (of_id id) rows ≡ true → list_any (of_id id) rows ≡ true
any_of_all id [] some h = cc
any_of_all id (r ∷ rs) some h = ap (λ b. b || list_any (of_id id) rs) ((and_parts (of_id id r) (list_all (of_id id) rs) h).0)

-- a message none of whose rows waits has no load
pub absent : {A : Type 0} (test : Id → Bool) (id : Id) (loads : List (Id × Vec Row A)) → Asks test id → list_all is_load loads ≡ true → list_any (of_id id) (rows_of_loads loads) ≡ false
    → (lookup test loads ≡ None) × (list_any (λ i. id_eq i id) (keys_of loads) ≡ false)
absent test id [] asks h none = (refl, refl)
absent {A} test id (load ∷ loads) asks h none =
    let each = and_parts (is_load load) (list_all is_load loads) h in
    let two = or_parts (list_any (of_id id) load.1.items) (list_any (of_id id) (rows_of_loads loads)) (sym (list_any-append (of_id id) load.1.items (rows_of_loads loads)) ∙ none) in
    let rest = absent test id loads asks each.1 two.1 in
    elim (asked test id load.0 asks) [
      | inl same ↦
          let own = load_parts load each.0 in
          let there = any_of_all load.0 load.1.items own.0 own.1 in
          let bad : true ≡ false = sym there ∙ subst (λ (i : Id). list_any (of_id i) load.1.items ≡ false) same.0 two.0 in cc
      | inr other ↦ (
        ap (λ b. cond b (Some load.1) (lookup test loads)) other.1 ∙ rest.0,
        or_from (id_eq load.0 id) (list_any (λ i. id_eq i id) (keys_of loads)) other.0 rest.1,
      )
    ]

distinct_last : (ids : List Id) (id : Id) → are_distinct ids ≡ true → list_any (λ i. id_eq i id) ids ≡ false → are_distinct (ids ++ id ∷ []) ≡ true
distinct_last [] id h none = refl
distinct_last (i ∷ ids) id h none =
    let two = and_parts (not (list_any (λ j. id_eq j i) ids)) (are_distinct ids) h in
    let apart = or_parts (id_eq i id) (list_any (λ j. id_eq j id) ids) none in
    and_from (not (list_any (λ j. id_eq j i) (ids ++ id ∷ []))) (are_distinct (ids ++ id ∷ []))
    (not_false (list_any (λ j. id_eq j i) (ids ++ id ∷ [])) (list_any-append (λ j. id_eq j i) ids (id ∷ [])
    ∙ or_from (list_any (λ j. id_eq j i) ids) (list_any (λ j. id_eq j i) (id ∷ [])) (not-true (list_any (λ j. id_eq j i) ids) two.0)
    (or_from (id_eq id i) false (id_eq-sym i id apart.0) refl)))
    (distinct_last ids id two.1 apart.1)

pub added_loads : {A : Type 0} (id : Id) (loads : List (Id × Vec Row A)) (rows : Vec Row A) → are_loads loads ≡ true → IsLoadOf id rows → list_any (λ i. id_eq i id) (keys_of loads) ≡ false → are_loads (loads ++ (id, rows) ∷ []) ≡ true
added_loads {A} id loads rows h own fresh =
    let both = and_parts (list_all is_load loads) (are_distinct (keys_of loads)) h in
    and_from (list_all is_load (loads ++ (id, rows) ∷ [])) (are_distinct (keys_of (loads ++ (id, rows) ∷ [])))
    (list_all-append is_load loads ((id, rows) ∷ []) ∙ and_from (list_all is_load loads) (list_all is_load ((id, rows) ∷ [])) both.0 (and_from (is_load (id, rows)) true (load_whole (id, rows) own) refl))
    (ap are_distinct (map-append (λ (l : Id × Vec Row A). l.0) loads ((id, rows) ∷ [])) ∙ distinct_last (keys_of loads) id both.1 fresh)

pub added_rows : {A : Type 0} (id : Id) (loads : List (Id × Vec Row A)) (rows : Vec Row A) → rows_of_loads (loads ++ (id, rows) ∷ []) ≡ rows_of_loads loads ++ rows.items
added_rows {A} id loads rows = flat_map-append (λ (l : Id × Vec Row A). l.1.items) loads ((id, rows) ∷ []) ∙ ap (λ rs. rows_of_loads loads ++ rs) (append-nil rows.items)

-- ---- the loads one by one

pub part_more : {A : Type 0} (loads : List (Id × Vec Row A)) (i : ℕ) (v : Vec Row A) → slice_get (values_of loads) i ≡ Some v → rows_of_loads (take (suc i) loads) ≡ rows_of_loads (take i loads) ++ v.items
part_more [] zero v h = cc
part_more [] (suc i) v h = cc
part_more {A} (load ∷ loads) zero v h = append-nil load.1.items ∙ ap (λ (u : Vec Row A). u.items) (same_Some load.1 v h)
part_more (load ∷ loads) (suc i) v h = ap (λ rs. load.1.items ++ rs) (part_more loads i v h) ∙ sym (append_assoc load.1.items (rows_of_loads (take i loads)) v.items)

-- what waits among the first loads waits
pub any_part : {A : Type 0} (q : Row → Bool) (n : ℕ) (loads : List (Id × Vec Row A)) → list_any q (rows_of_loads (take n loads)) ≡ true → list_any q (rows_of_loads loads) ≡ true
any_part {A} q n loads h =
    let all = ap (λ (ls : List (Id × Vec Row A)). list_any q (rows_of_loads ls)) (sym (take-append-drop n loads))
    ∙ ap (list_any q) (flat_map-append (λ (l : Id × Vec Row A). l.1.items) (take n loads) (drop n loads))
    ∙ list_any-append q (rows_of_loads (take n loads)) (rows_of_loads (drop n loads)) in
    all ∙ ap (λ b. b || list_any q (rows_of_loads (drop n loads))) h

-- what is found among the first loads is found
pub find_part : {A : Type 0} (q : Row → Bool) (n : ℕ) (loads : List (Id × Vec Row A)) (r : Row) → find q (rows_of_loads (take n loads)) ≡ Some r → find q (rows_of_loads loads) ≡ Some r
find_part {A} q n loads r h =
    ap (λ (ls : List (Id × Vec Row A)). find q (rows_of_loads ls)) (sym (take-append-drop n loads))
    ∙ ap (find q) (flat_map-append (λ (l : Id × Vec Row A). l.1.items) (take n loads) (drop n loads))
    ∙ find-append q (rows_of_loads (take n loads)) (rows_of_loads (drop n loads))
    ∙ ap (λ o. option_or o (find q (rows_of_loads (drop n loads)))) h

-- ---- a row is taken out

-- what is asked of rows of one message is asked of its load
pub found_in_load : {A : Type 0} (test : Id → Bool) (id : Id) (p : Row → Bool) (loads : List (Id × Vec Row A)) → Asks test id → Implies p (of_id id) → are_loads loads ≡ true
    → find p (rows_of_loads loads) ≡ find p (load_of test loads)
found_in_load test id p loads asks only h = find_within p (of_id id) (rows_of_loads loads) only ∙ ap (find p) (of_message test id loads asks h)

pub any_in_load : {A : Type 0} (test : Id → Bool) (id : Id) (p : Row → Bool) (loads : List (Id × Vec Row A)) → Asks test id → Implies p (of_id id) → are_loads loads ≡ true
    → list_any p (rows_of_loads loads) ≡ list_any p (load_of test loads)
any_in_load test id p loads asks only h = any_within p (of_id id) (rows_of_loads loads) only ∙ ap (list_any p) (of_message test id loads asks h)

some_items : (rows : List Row) → (length rows == 0) ≡ false → has_none rows ≡ false
some_items [] h = cc
some_items (r ∷ rs) h = refl

pub no_items : (rows : List Row) → (length rows == 0) ≡ true → rows ≡ []
no_items [] h = refl
no_items (r ∷ rs) h = let bad : false ≡ true = sym (some_length r rs) ∙ h in cc

each_load : {A : Type 0} (loads : List (Id × Vec Row A)) → are_loads loads ≡ true → (list_all is_load loads ≡ true) × (are_distinct (keys_of loads) ≡ true)
each_load loads h = and_parts (list_all is_load loads) (are_distinct (keys_of loads)) h

pub taken_left : {A : Type 0} (test : Id → Bool) (id : Id) (p : Row → Bool) (loads : List (Id × Vec Row A)) (v w : Vec Row A) → Asks test id → Implies p (of_id id)
    → are_loads loads ≡ true → lookup test loads ≡ Some v → w.items ≡ drop_first p v.items → rows_of_loads (set_value test loads w) ≡ drop_first p (rows_of_loads loads)
taken_left test id p loads v w asks only h e left = let each = each_load loads h in taken_rows test id p loads v w asks only each.0 each.1 e left

pub taken_loads : {A : Type 0} (test : Id → Bool) (id : Id) (p : Row → Bool) (loads : List (Id × Vec Row A)) (v w : Vec Row A) → Asks test id
    → are_loads loads ≡ true → lookup test loads ≡ Some v → w.items ≡ drop_first p v.items → (length w.items == 0) ≡ false → are_loads (set_value test loads w) ≡ true
taken_loads test id p loads v w asks h e left some =
    let each = each_load loads h in
    let own : list_all (of_id id) w.items ≡ true = ap (list_all (of_id id)) left ∙ all_left (of_id id) p v.items (load_found test id loads v asks each.0 e).1 in
    and_from (list_all is_load (set_value test loads w)) (are_distinct (keys_of (set_value test loads w)))
    (set_loads test id loads w asks each.0 (some_items w.items some, own))
    (ap are_distinct (keys-set_value test loads w) ∙ each.1)
