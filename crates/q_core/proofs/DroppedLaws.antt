-- The first that passes leaves a list.
use Rattle.std.proofs.Common.{◌≡◌, ℕ, ◌+◌, Bool, true, false, cond, List, [], ◌∷◌, refl, sym, ap, ◌∙◌, arith, Some, None, inl, inr, sum_by}
use Rattle.std.proofs.lemmas.List.Sums.{sum_by-cons}
use Rattle.std.proofs.lemmas.Slice.Eq.{bytes_eq-Decides}
use Rattle.std.specs.List.{list_any}
use Rattle.std.specs.Prelude.{◌&&◌, ◌||◌, bytes_eq, find, position, slice_get}
use Rattle.q_core.proofs.ListLaws.{position-find}
use Rattle.q_core.proofs.NameLaws.{and_true_parts, id_eq-same, id_eq-true}
use Rattle.q_model.proofs.IdLaws.{site_eq-refl, site_eq-true}
use Rattle.q_model.specs.Sites.{site_eq}
use Rattle.q_model.specs.Ids.{id_eq}
use Rattle.q_model.specs.Lists.{drop_first}
use Rattle.q_model.specs.Starts.{is_row}
use Rattle.q_model.specs.Values.{Site}
use Rattle.q_model.specs.declared.id.Id.{Id}
use Rattle.q_model.specs.declared.rows.Row.{Row}

-- what stands at the first place that passes is found
pub found_first : {X : Type 0} (p : X → Bool) (xs : List X) (i : ℕ) (x : X) → position p xs ≡ Some i → slice_get xs i ≡ Some x → find p xs ≡ Some x
found_first p xs i x h there = elim (position-find p xs) [
  | inl n ↦ let bad : None ≡ Some i = sym n.0 ∙ h in cc
  | inr f ↦ let same : Some f.0 ≡ Some i = sym f.2.place ∙ h in
      let place : f.0 ≡ i = cc in
      f.2.found ∙ sym f.2.there ∙ ap (slice_get xs) place ∙ there
]

same_step : {X : Type 0} (p q : X → Bool) (x y : X) (ys : List X) → (find p ys ≡ Some x → drop_first q ys ≡ drop_first p ys) → q x ≡ true → (q y ≡ true → p y ≡ true) →
    (a b : Bool) → p y ≡ a → q y ≡ b → cond a (Some y) (find p ys) ≡ Some x → cond b ys (y ∷ drop_first q ys) ≡ cond a ys (y ∷ drop_first p ys)
same_step p q x y ys rest passes inside true true e f h = refl
same_step p q x y ys rest passes inside true false e f h = let same : y ≡ x = cc in let bad : false ≡ true = sym f ∙ ap q same ∙ passes in cc
same_step p q x y ys rest passes inside false true e f h = let bad : false ≡ true = sym e ∙ inside f in cc
same_step p q x y ys rest passes inside false false e f h = ap (λ zs. y ∷ zs) (rest h)

-- a narrower test that the first one passes drops the same
pub drop_first-narrow : {X : Type 0} (p q : X → Bool) (x : X) → q x ≡ true → ((y : X) → q y ≡ true → p y ≡ true) → (xs : List X) → find p xs ≡ Some x → drop_first q xs ≡ drop_first p xs
drop_first-narrow p q x passes inside [] h = refl
drop_first-narrow p q x passes inside (y ∷ ys) h = same_step p q x y ys (drop_first-narrow p q x passes inside ys) passes (inside y) (p y) (q y) refl refl h

sum_step : {X : Type 0} (f : X → ℕ) (p : X → Bool) (x y : X) (ys : List X) → (find p ys ≡ Some x → sum_by f ys ≡ f x + sum_by f (drop_first p ys)) →
    (a : Bool) → cond a (Some y) (find p ys) ≡ Some x → sum_by f (y ∷ ys) ≡ f x + sum_by f (cond a ys (y ∷ drop_first p ys))
sum_step f p x y ys rest true h = let same : y ≡ x = cc in sum_by-cons f y ys ∙ ap (λ z. f z + sum_by f ys) same
sum_step f p x y ys rest false h =
    let whole = sum_by-cons f y ys in
    let part = sum_by-cons f y (drop_first p ys) in
    let less = rest h in
    omega (arith, whole, part, less)

-- a sum without the first that passes
pub sum_by-drop_first : {X : Type 0} (f : X → ℕ) (p : X → Bool) (x : X) (xs : List X) → find p xs ≡ Some x → sum_by f xs ≡ f x + sum_by f (drop_first p xs)
sum_by-drop_first f p x [] h = cc
sum_by-drop_first f p x (y ∷ ys) h = sum_step f p x y ys (sum_by-drop_first f p x ys) (p y) h

any_step : {X : Type 0} (t : X → Bool) (y : X) (ys zs : List X) → list_any t zs ≡ list_any t ys → (a : Bool) → (a ≡ true → t y ≡ false) → list_any t (cond a ys (y ∷ zs)) ≡ (t y || list_any t ys)
any_step t y ys zs rest true fails = ap (λ b. b || list_any t ys) (sym (fails refl))
any_step t y ys zs rest false fails = ap (λ b. t y || b) rest

-- what is dropped passes no other test
pub list_any-drop_first : {X : Type 0} (t p : X → Bool) → ((y : X) → p y ≡ true → t y ≡ false) → (xs : List X) → list_any t (drop_first p xs) ≡ list_any t xs
list_any-drop_first t p fails [] = refl
list_any-drop_first t p fails (y ∷ ys) = any_step t y ys (drop_first p ys) (list_any-drop_first t p fails ys) (p y) (fails y)

-- a row that passes for another is the same
pub is_row-true : (id : Id) (site : Site) (positions : List ℕ) (r : Row) → is_row id site positions r ≡ true → r ≡ record { id = id; site = site; positions = positions }
is_row-true id site positions r h =
    let first = and_true_parts (id_eq r.id id && site_eq r.site site) (bytes_eq r.positions positions) h in
    let names = and_true_parts (id_eq r.id id) (site_eq r.site site) first.0 in
    ap (λ x. record { id = x; site = r.site; positions = r.positions }) (id_eq-true r.id id names.0)
    ∙ ap (λ x. record { id = id; site = x; positions = r.positions }) (site_eq-true r.site site names.1)
    ∙ ap (λ x. record { id = id; site = site; positions = x }) ((bytes_eq-Decides r.positions positions).0 first.1)

pub is_row-same : (r : Row) → is_row r.id r.site r.positions r ≡ true
is_row-same r =
    ap (λ b. b && site_eq r.site r.site && bytes_eq r.positions r.positions) (id_eq-same r.id)
    ∙ ap (λ b. true && b && bytes_eq r.positions r.positions) (site_eq-refl r.site)
    ∙ (bytes_eq-Decides r.positions r.positions).1 refl

-- two sites that differ, the other way round
pub other_site : (site s : Site) → site_eq s site ≡ false → (b : Bool) → site_eq site s ≡ b → site_eq site s ≡ false
other_site site s e false h = h
other_site site s e true h = let bad : true ≡ false = sym (ap (λ x. site_eq x site) (sym (site_eq-true site s h)) ∙ site_eq-refl site) ∙ e in cc
