-- How messages stand under their ids, and what a change of one makes of all.
use Rattle.std.proofs.Common.{◌≡◌, ◌∙◌, ap, arith, Bool, cond, false, List, [], ◌∷◌, ◌++◌, map, None, Option, option_map, refl, Some, subst, sym, true, ℕ}
use Rattle.std.proofs.lemmas.Grind.{common_steps}
use Rattle.std.specs.Prelude.{filter, find, not}
use Rattle.q_model.proofs.IdLaws.{id_eq-refl, id_eq-true}
use Rattle.q_model.specs.Ids.{id_eq}
use Rattle.q_model.specs.contracts.id.IdPartialEq.TheImpl.{eq-value}
use Rattle.q_model.specs.declared.id.Id.{Id}
use Rattle.q_pool.specs.Kept.{counted_at, is_of, kept_at}
use Rattle.q_pool.specs.Pooled.{AreApart}
use Rattle.q_pool.specs.Ranks.{AreRanked, IsRanked, rank_of, value_of}
use Rattle.q_pool.specs.declared.kept.Kept.{Kept}
use Rattle.q_pool.specs.declared.slot.Slot.{Slot}
use Rattle.q_register.specs.Members.{changed, has_key, lacks_key}
use Rattle.q_register.specs.Members.{AreApart as AreKeysApart}
use Rattle.q_register.specs.declared.member.Member.{Member}

-- how keys are compared
abbrev pub key_eq : Id → Id → Bool
key_eq = eq-value.it

swapped : (a b : Id) → (x y : Bool) → id_eq a b ≡ x → id_eq b a ≡ y → x ≡ y
swapped a b true true f g = refl
swapped a b false false f g = refl
swapped a b true false f g = let same : a ≡ b = id_eq-true a b f in sym (id_eq-refl b) ∙ ap (λ c. id_eq b c) (sym same) ∙ g
swapped a b false true f g = let same : b ≡ a = id_eq-true b a g in sym f ∙ ap (λ c. id_eq a c) same ∙ id_eq-refl a

by_parts : (g s : ℕ) (x : Bool) (h t : ℕ) (y : Bool) → key_eq (record { generation = g; serial = s; bounce = x }) (record { generation = h; serial = t; bounce = y })
    ≡ id_eq (record { generation = g; serial = s; bounce = x }) (record { generation = h; serial = t; bounce = y })
by_parts g s true h t true = grind (arith, common_steps)
by_parts g s true h t false = grind (arith, common_steps)
by_parts g s false h t true = grind (arith, common_steps)
by_parts g s false h t false = grind (arith, common_steps)

pub key_eq-is : (a b : Id) → key_eq a b ≡ id_eq b a
key_eq-is a b = by_parts a.generation a.serial a.bounce b.generation b.serial b.bounce ∙ swapped a b (id_eq a b) (id_eq b a) refl refl

abbrev E : Type 0
E = Member Id Kept

found_step : (b : Bool) (e : E) (o : Option E) → option_map value_of (cond b (Some e) o) ≡ cond b (Some (value_of e)) (option_map value_of o)
found_step true e o = refl
found_step false e o = refl

-- a key is that of the message
pub is_of_key : (l m : ℕ) (id : Id) (e : E) → IsRanked l m e → has_key key_eq id e ≡ is_of id (value_of e)
is_of_key l m id e h = key_eq-is id e.key ∙ ap (λ k. id_eq k id) h.key

-- what stands under a key is the message of that id
pub found_value : (l m : ℕ) (id : Id) (es : List E) → AreRanked l m es → option_map value_of (find (has_key key_eq id) es) ≡ find (is_of id) (map value_of es)
found_value l m id [] h = refl
found_value l m id (e ∷ es) h =
    ap (λ b. option_map value_of (cond b (Some e) (find (has_key key_eq id) es))) (is_of_key l m id e h.0)
    ∙ found_step (is_of id (value_of e)) e (find (has_key key_eq id) es)
    ∙ ap (cond (is_of id (value_of e)) (Some (value_of e))) (found_value l m id es h.1)

left_step : (b : Bool) (e : E) (es : List E) → map value_of (cond b (e ∷ es) es) ≡ cond b (value_of e ∷ map value_of es) (map value_of es)
left_step true e es = refl
left_step false e es = refl

-- the messages of all other ids
pub left_values : (l m : ℕ) (id : Id) (es : List E) → AreRanked l m es → map value_of (filter (lacks_key key_eq id) es) ≡ filter (λ k. not (is_of id k)) (map value_of es)
left_values l m id [] h = refl
left_values l m id (e ∷ es) h =
    ap (λ b. map value_of (cond (not b) (e ∷ filter (lacks_key key_eq id) es) (filter (lacks_key key_eq id) es))) (is_of_key l m id e h.0)
    ∙ left_step (not (is_of id (value_of e))) e (filter (lacks_key key_eq id) es)
    ∙ ap (λ ks. cond (not (is_of id (value_of e))) (value_of e ∷ ks) ks) (left_values l m id es h.1)

ranked_step : (l m : ℕ) (b : Bool) (e : E) (es : List E) → IsRanked l m e → AreRanked l m es → AreRanked l m (cond b (e ∷ es) es)
ranked_step l m true e es h hs = (h, hs)
ranked_step l m false e es h hs = hs

pub ranked_left : (l m : ℕ) (p : E → Bool) (es : List E) → AreRanked l m es → AreRanked l m (filter p es)
ranked_left l m p [] h = h
ranked_left l m p (e ∷ es) h = ranked_step l m (p e) e (filter p es) h.0 (ranked_left l m p es h.1)

pub ranked_more : (l m : ℕ) (es : List E) (e : E) → AreRanked l m es → IsRanked l m e → AreRanked l m (es ++ e ∷ [])
ranked_more l m [] e h one = (one, tt)
ranked_more l m (x ∷ xs) e h one = (h.0, ranked_more l m xs e h.1 one)

pub values_more : (es : List E) (e : E) → map value_of (es ++ e ∷ []) ≡ map value_of es ++ value_of e ∷ []
values_more [] e = refl
values_more (x ∷ xs) e = ap (λ ks. value_of x ∷ ks) (values_more xs e)

-- another message under this id
abbrev pub put_at : Id → Kept → Kept → Kept
put_at id v k = cond (is_of id k) v k

set_step : (l m : ℕ) (id : Id) (v : Kept) (r : ℕ) (e : E) → v.slot.id ≡ id → r ≡ rank_of l m v → IsRanked l m e → (b : Bool) → key_eq id e.key ≡ b →
    IsRanked l m (cond b (record { key = e.key; value = v; rank = r }) e)
set_step l m id v r e same rank h true t = record { key = id_eq-true e.key id (sym (key_eq-is id e.key) ∙ t) ∙ sym same; rank = rank }
set_step l m id v r e same rank h false t = h

pub ranked_set : (l m : ℕ) (id : Id) (v : Kept) (r : ℕ) (es : List E) → v.slot.id ≡ id → r ≡ rank_of l m v → AreRanked l m es → AreRanked l m (map (changed key_eq id v r) es)
ranked_set l m id v r [] same rank h = h
ranked_set l m id v r (e ∷ es) same rank h = (set_step l m id v r e same rank h.0 (key_eq id e.key) refl, ranked_set l m id v r es same rank h.1)

value_step : (b : Bool) (e : E) (v : Kept) (r : ℕ) → value_of (cond b (record { key = e.key; value = v; rank = r }) e) ≡ cond b v (value_of e)
value_step true e v r = refl
value_step false e v r = refl

pub values_set : (l m : ℕ) (id : Id) (v : Kept) (r : ℕ) (es : List E) → AreRanked l m es → map value_of (map (changed key_eq id v r) es) ≡ map (put_at id v) (map value_of es)
values_set l m id v r [] h = refl
values_set l m id v r (e ∷ es) h =
    ap (λ k. k ∷ map value_of (map (changed key_eq id v r) es)) (value_step (key_eq id e.key) e v r ∙ ap (λ b. cond b v (value_of e)) (is_of_key l m id e h.0))
    ∙ ap (λ ks. put_at id v (value_of e) ∷ ks) (values_set l m id v r es h.1)

none_step : (b : Bool) (e : Kept) (o : Option Kept) → cond b (Some e) o ≡ None → (b ≡ false) × (o ≡ None)
none_step true e o h = cc
none_step false e o h = (refl, h)

-- a change of what isn't there
pub none_changed : (id : Id) (g : Kept → Kept) → ((k : Kept) → is_of id k ≡ false → g k ≡ k) → (ks : List Kept) → find (is_of id) ks ≡ None → map g ks ≡ ks
none_changed id g same [] h = refl
none_changed id g same (k ∷ ks) h =
    let parts = none_step (is_of id k) k (find (is_of id) ks) h in
    ap (λ x. x ∷ map g ks) (same k parts.0) ∙ ap (λ xs. k ∷ xs) (none_changed id g same ks parts.1)

pub kept_other : (id : Id) (f : Slot → Slot) (k : Kept) → is_of id k ≡ false → kept_at id f k ≡ k
kept_other id f k h = ap (λ b. record k { slot = cond b (f k.slot) k.slot }) h

pub counted_other : (id : Id) (w f u : ℕ) (k : Kept) → is_of id k ≡ false → counted_at id w f u k ≡ k
counted_other id w f u k h = ap (λ b. cond b (record k { waiting = w; flying = f; unsettled = u }) k) h

one_step : (id : Id) (g : Kept → Kept) (found k : Kept) (ks : List Kept) → ((k : Kept) → is_of id k ≡ false → g k ≡ k) → AreApart (k ∷ ks) →
    (b : Bool) → is_of id k ≡ b → cond b (Some k) (find (is_of id) ks) ≡ Some found →
    (find (is_of id) ks ≡ Some found → map (put_at id (g found)) ks ≡ map g ks) → put_at id (g found) k ∷ map (put_at id (g found)) ks ≡ g k ∷ map g ks
one_step id g found k ks other apart true t h more =
    let same : k ≡ found = cc in
    let named : k.slot.id ≡ id = id_eq-true k.slot.id id t in
    let none : find (is_of id) ks ≡ None = ap (λ i. find (is_of i) ks) (sym named) ∙ apart.0 in
    ap (λ b. cond b (g found) k ∷ map (put_at id (g found)) ks) t
    ∙ ap (λ x. g x ∷ map (put_at id (g found)) ks) (sym same)
    ∙ ap (λ xs. g k ∷ xs) (none_changed id (put_at id (g found)) (λ x e. ap (λ b. cond b (g found) x) e) ks none ∙ sym (none_changed id g other ks none))
one_step id g found k ks other apart false t h more =
    ap (λ b. cond b (g found) k ∷ map (put_at id (g found)) ks) t ∙ ap (λ xs. k ∷ xs) (more h) ∙ ap (λ x. x ∷ map g ks) (sym (other k t))

-- the one of this id is changed
pub one_changed : (id : Id) (g : Kept → Kept) → ((k : Kept) → is_of id k ≡ false → g k ≡ k) → (found : Kept) (ks : List Kept) → AreApart ks → find (is_of id) ks ≡ Some found →
    map (put_at id (g found)) ks ≡ map g ks
one_changed id g other found [] apart h = refl
one_changed id g other found (k ∷ ks) apart h = one_step id g found k ks other apart (is_of id k) refl h (one_changed id g other found ks apart.1)

none_mapped : (o : Option E) → o ≡ None → option_map value_of o ≡ None
none_mapped o h = ap (option_map value_of) h

-- ids are apart as keys are
pub apart_values : (l m : ℕ) (es : List E) → AreRanked l m es → AreKeysApart key_eq es → AreApart (map value_of es)
apart_values l m [] h apart = tt
apart_values l m (e ∷ es) h apart = (
  ap (λ i. find (is_of i) (map value_of es)) (sym h.0.key) ∙ sym (found_value l m e.key es h.1) ∙ none_mapped (find (has_key key_eq e.key) es) apart.0,
  apart_values l m es h.1 apart.1,
)

not_there : (o : Option E) → option_map value_of o ≡ None → o ≡ None
not_there None h = refl
not_there (Some e) h = cc

-- no message of this id is there, nor a key
pub absent_key : (l m : ℕ) (id : Id) (es : List E) → AreRanked l m es → find (is_of id) (map value_of es) ≡ None → find (has_key key_eq id) es ≡ None
absent_key l m id es h none = not_there (find (has_key key_eq id) es) (found_value l m id es h ∙ none)

named_step : (id : Id) (k found : Kept) (o : Option Kept) → (o ≡ Some found → found.slot.id ≡ id) → (b : Bool) → is_of id k ≡ b → cond b (Some k) o ≡ Some found → found.slot.id ≡ id
named_step id k found o more true t h = let same : k ≡ found = cc in subst (λ (x : Kept). x.slot.id ≡ id) same (id_eq-true k.slot.id id t)
named_step id k found o more false t h = more h

-- what is found is of the id
pub found_named : (id : Id) (ks : List Kept) (found : Kept) → find (is_of id) ks ≡ Some found → found.slot.id ≡ id
found_named id [] found h = cc
found_named id (k ∷ ks) found h = named_step id k found (find (is_of id) ks) (found_named id ks found) (is_of id k) refl h

-- the same by its own id
pub found_own : (id : Id) (ks : List Kept) (found : Kept) → find (is_of id) ks ≡ Some found → find (is_of found.slot.id) ks ≡ Some found
found_own id ks found h = ap (λ i. find (is_of i) ks) (found_named id ks found h) ∙ h

pub kept_changed : (f : Slot → Slot) (found : Kept) (ks : List Kept) → AreApart ks → find (is_of found.slot.id) ks ≡ Some found →
    map (put_at found.slot.id (record found { slot = f found.slot })) ks ≡ map (kept_at found.slot.id f) ks
kept_changed f found ks apart h =
    let id = found.slot.id in
    ap (λ b. map (put_at id (record found { slot = cond b (f found.slot) found.slot })) ks) (sym (id_eq-refl id))
    ∙ one_changed id (kept_at id f) (kept_other id f) found ks apart h

pub counted_changed : (id : Id) (w f u : ℕ) (found : Kept) (ks : List Kept) → AreApart ks → find (is_of id) ks ≡ Some found →
    map (put_at id (record { slot = found.slot; waiting = w; flying = f; unsettled = u })) ks ≡ map (counted_at id w f u) ks
counted_changed id w f u found ks apart h =
    let like : is_of id found ≡ true = ap (λ i. id_eq i id) (found_named id ks found h) ∙ id_eq-refl id in
    ap (λ b. map (put_at id (cond b (record { slot = found.slot; waiting = w; flying = f; unsettled = u }) found)) ks) (sym like)
    ∙ one_changed id (counted_at id w f u) (counted_other id w f u) found ks apart h
