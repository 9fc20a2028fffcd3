-- The first element that passes goes to the end of a list.
use Rattle.std.proofs.Common.{◌≡◌, ℕ, Bool, true, false, cond, List, [], ◌∷◌, ◌++◌, refl, sym, ap, ◌∙◌, subst, Option, Some, None, inl, inr}
use Rattle.std.specs.List.{list_any, remove}
use Rattle.std.specs.Option.{option_map_or}
use Rattle.std.specs.Prelude.{filter, find, not, position, slice_get}
use Rattle.q_ledger.proofs.ListLaws.{drop_first-Some, position-find}
use Rattle.std.proofs.lemmas.Bool.{and_parts, not-true, or_parts}
use Rattle.q_ledger.specs.Tidying.{moved_back}
use Rattle.q_laws.specs.SitesConsistency.{are_apart}
use Rattle.q_model.proofs.IdLaws.{site_eq-refl}
use Rattle.q_model.specs.Sites.{site_eq}
use Rattle.q_model.specs.Lists.{drop_first}
use Rattle.q_model.specs.Values.{Site, SiteRecord}

-- it is removed at its place, and put behind all others
pub moved_back-Some : {X : Type 0} (p : X → Bool) (xs ys : List X) (i : ℕ) → position p xs ≡ Some i → ((x : X) → slice_get xs i ≡ Some x → ys ≡ remove xs i ++ x ∷ []) → ys ≡ moved_back p xs
moved_back-Some p xs ys i h k = elim (position-find p xs) [
  | inl n ↦ let bad : None ≡ Some i = sym n.0 ∙ h in cc
  | inr f ↦ let same : Some f.0 ≡ Some i = sym f.2.place ∙ h in
      let place : f.0 ≡ i = cc in
      let there : slice_get xs i ≡ Some f.1 = subst (λ n. slice_get xs n ≡ Some f.1) place f.2.there in
      k f.1 there ∙ ap (λ zs. zs ++ f.1 ∷ []) (drop_first-Some p xs i h) ∙ sym (ap (λ o. option_map_or (λ y. drop_first p xs ++ y ∷ []) o xs) f.2.found)
]

pub moved_back-None : {X : Type 0} (p : X → Bool) (xs : List X) → position p xs ≡ None → xs ≡ moved_back p xs
moved_back-None p xs h = elim (position-find p xs) [
  | inl n ↦ sym (ap (λ o. option_map_or (λ y. drop_first p xs ++ y ∷ []) o xs) n.1)
  | inr f ↦ let bad : None ≡ Some f.0 = sym h ∙ f.2.place in cc
]

-- a test that passes at one site alone
fails_elsewhere : (site : Site) (p : SiteRecord → Bool) → ((r : SiteRecord) → p r ≡ true → r.site ≡ site) → (r : SiteRecord) → site_eq r.site site ≡ false → (b : Bool) → p r ≡ b → p r ≡ false
fails_elsewhere site p only r e false h = h
fails_elsewhere site p only r e true h = let bad : true ≡ false = sym (ap (λ s. site_eq s site) (only r h) ∙ site_eq-refl site) ∙ e in cc

none_passes : (site : Site) (p : SiteRecord → Bool) → ((r : SiteRecord) → p r ≡ true → r.site ≡ site) → (rs : List SiteRecord) → list_any (λ s. site_eq s.site site) rs ≡ false →
    (filter p rs ≡ []) × (filter (λ r. not (p r)) rs ≡ rs)
none_passes site p only [] h = (refl, refl)
none_passes site p only (r ∷ rs) h =
    let parts = or_parts (site_eq r.site site) (list_any (λ s. site_eq s.site site) rs) h in
    let fails = fails_elsewhere site p only r parts.0 (p r) refl in
    let rest = none_passes site p only rs parts.1 in (
      ap (λ b. cond b (r ∷ filter p rs) (filter p rs)) fails ∙ rest.0,
      ap (λ b. cond (not b) (r ∷ filter (λ x. not (p x)) rs) (filter (λ x. not (p x)) rs)) fails ∙ ap (λ xs. r ∷ xs) rest.1,
    )

moved_behind : {X : Type 0} (x : X) (ds xs : List X) (o : Option X) → (x ∷ option_map_or (λ y. ds ++ y ∷ []) o xs) ≡ option_map_or (λ y. (x ∷ ds) ++ y ∷ []) o (x ∷ xs)
moved_behind x ds xs None = refl
moved_behind x ds xs (Some y) = refl

moved_step : (site : Site) (p : SiteRecord → Bool) → ((r : SiteRecord) → p r ≡ true → r.site ≡ site) → (r : SiteRecord) (rs : List SiteRecord) →
    list_any (λ s. site_eq s.site r.site) rs ≡ false → (filter (λ x. not (p x)) rs ++ filter p rs) ≡ moved_back p rs → (b : Bool) → p r ≡ b →
    (cond (not b) (r ∷ filter (λ x. not (p x)) rs) (filter (λ x. not (p x)) rs) ++ cond b (r ∷ filter p rs) (filter p rs)) ≡
    option_map_or (λ y. cond b rs (r ∷ drop_first p rs) ++ y ∷ []) (cond b (Some r) (find p rs)) (r ∷ rs)
moved_step site p only r rs alone rest true e =
    let none = none_passes site p only rs (ap (λ x. list_any (λ s. site_eq s.site x) rs) (sym (only r e)) ∙ alone) in
    ap (λ xs. xs ++ r ∷ filter p rs) none.1 ∙ ap (λ xs. rs ++ r ∷ xs) none.0
moved_step site p only r rs alone rest false e = ap (λ xs. r ∷ xs) rest ∙ moved_behind r (drop_first p rs) rs (find p rs)

-- where no two records are of one site, those of one site that pass are the first that passes
pub moved_is : (site : Site) (p : SiteRecord → Bool) → ((r : SiteRecord) → p r ≡ true → r.site ≡ site) → (rs : List SiteRecord) → are_apart rs ≡ true →
    (filter (λ r. not (p r)) rs ++ filter p rs) ≡ moved_back p rs
moved_is site p only [] apart = refl
moved_is site p only (r ∷ rs) apart =
    let parts = and_parts (not (list_any (λ s. site_eq s.site r.site) rs)) (are_apart rs) apart in
    moved_step site p only r rs (not-true (list_any (λ s. site_eq s.site r.site) rs) parts.0) (moved_is site p only rs parts.1) (p r) refl
