-- Lists of site records in which no site has two, and deliveries counted by site.
use Rattle.std.proofs.Common.{◌≡◌, ℕ, ◌+◌, ◌≤◌, Bool, true, false, cond, not, List, [], ◌∷◌, ◌++◌, map, filter, count_by, inl, inr, refl, sym, ap, ◌∙◌, subst, arith, if◌then◌else◌}
use Rattle.std.proofs.lemmas.Bool.{and_from, and_parts, not-true, not_from_false}
use Rattle.std.proofs.lemmas.List.Sums.{sum_by-append, sum_by-cons}
use Rattle.std.specs.List.{list_any}
use Rattle.q_laws.proofs.Members.{IsIn, in_dropped, in_either, in_filtered, in_unmap, none_at, none_from}
use Rattle.q_laws.specs.SitesConsistency.{are_apart}
use Rattle.q_model.proofs.IdLaws.{site_eq-refl, site_eq-true}
use Rattle.q_model.specs.Sites.{site_eq}
use Rattle.q_model.specs.Lists.{drop_first}
use Rattle.q_model.specs.Values.{Site, SiteRecord}
use Rattle.q_model.specs.declared.rows.Delivery.{Delivery}

-- ---- records apart

other_site : (a b : Site) → site_eq a b ≡ false → a ≡ b → ⊥
other_site a b h e = let bad : false ≡ true = sym h ∙ subst (λ x. site_eq a x ≡ true) e (site_eq-refl a) in absurd cc

pub apart_tail : (r : SiteRecord) (rs : List SiteRecord) → are_apart (r ∷ rs) ≡ true → ((s : SiteRecord) → IsIn s rs → s.site ≡ r.site → ⊥) × (are_apart rs ≡ true)
apart_tail r rs h =
    let two = and_parts (not (list_any (λ (s : SiteRecord). site_eq s.site r.site) rs)) (are_apart rs) h in
    (λ s inside same. other_site s.site r.site (none_at (λ (x : SiteRecord). site_eq x.site r.site) s rs (not-true (list_any (λ (x : SiteRecord). site_eq x.site r.site) rs) two.0) inside) same, two.1)

pub apart_cons : (r : SiteRecord) (rs : List SiteRecord) → ((s : SiteRecord) → IsIn s rs → s.site ≡ r.site → ⊥) → are_apart rs ≡ true → are_apart (r ∷ rs) ≡ true
apart_cons r rs h k =
    and_from (not (list_any (λ (s : SiteRecord). site_eq s.site r.site) rs)) (are_apart rs)
    (not_from_false (list_any (λ (s : SiteRecord). site_eq s.site r.site) rs) (none_from (λ (s : SiteRecord). site_eq s.site r.site) rs (λ s inside. which s inside (site_eq s.site r.site) refl))) k
  where
    which : (s : SiteRecord) → IsIn s rs → (t : Bool) → site_eq s.site r.site ≡ t → t ≡ false
    which s inside false e = refl
    which s inside true e = absurd (h s inside (site_eq-true s.site r.site e))

kept_apart : (r : SiteRecord) (few : List SiteRecord) (b : Bool) → ((s : SiteRecord) → IsIn s few → s.site ≡ r.site → ⊥) → are_apart few ≡ true → are_apart (cond b (r ∷ few) few) ≡ true
kept_apart r few true h k = apart_cons r few h k
kept_apart r few false h k = k

pub apart_filter : (p : SiteRecord → Bool) (rs : List SiteRecord) → are_apart rs ≡ true → are_apart (filter p rs) ≡ true
apart_filter p [] h = refl
apart_filter p (r ∷ rs) h = let two = apart_tail r rs h in kept_apart r (filter p rs) (p r) (λ s inside. two.0 s (in_filtered p s rs inside).0) (apart_filter p rs two.1)

dropped_apart : (r : SiteRecord) (few rs : List SiteRecord) (b : Bool) → ((s : SiteRecord) → IsIn s few → s.site ≡ r.site → ⊥) → are_apart few ≡ true → are_apart rs ≡ true → are_apart (if b then rs else r ∷ few) ≡ true
dropped_apart r few rs true h k g = g
dropped_apart r few rs false h k g = apart_cons r few h k

pub apart_dropped : (p : SiteRecord → Bool) (rs : List SiteRecord) → are_apart rs ≡ true → are_apart (drop_first p rs) ≡ true
apart_dropped p [] h = refl
apart_dropped p (r ∷ rs) h = let two = apart_tail r rs h in dropped_apart r (drop_first p rs) rs (p r) (λ s inside. two.0 s (in_dropped p s rs inside)) (apart_dropped p rs two.1) two.1

pub apart_join : (rs ss : List SiteRecord) → are_apart rs ≡ true → are_apart ss ≡ true → ((r s : SiteRecord) → IsIn r rs → IsIn s ss → s.site ≡ r.site → ⊥) → are_apart (rs ++ ss) ≡ true
apart_join [] ss h k across = k
apart_join (r ∷ rs) ss h k across =
    let two = apart_tail r rs h in
    apart_cons r (rs ++ ss) (λ s inside same. elim (in_either s rs ss inside) [
      | inl here ↦ two.0 s here same
      | inr there ↦ across r s (inl refl) there same
    ]) (apart_join rs ss two.1 k (λ x s inside. across x s (inr inside)))

-- of two records of a site there is only one
pub same_record : (r s : SiteRecord) (rs : List SiteRecord) → are_apart rs ≡ true → IsIn r rs → IsIn s rs → s.site ≡ r.site → r ≡ s
same_record r s [] h a b e = absurd a
same_record r s (x ∷ xs) h (inl a) (inl b) e = sym a ∙ b
same_record r s (x ∷ xs) h (inl a) (inr b) e = absurd ((apart_tail x xs h).0 s b (e ∙ ap (λ (y : SiteRecord). y.site) (sym a)))
same_record r s (x ∷ xs) h (inr a) (inl b) e = absurd ((apart_tail x xs h).0 r a (sym e ∙ ap (λ (y : SiteRecord). y.site) (sym b)))
same_record r s (x ∷ xs) h (inr a) (inr b) e = same_record r s xs (apart_tail x xs h).1 a b e

-- a change that keeps the site keeps records apart
pub apart_map : (f : SiteRecord → SiteRecord) → ((r : SiteRecord) → (f r).site ≡ r.site) → (rs : List SiteRecord) → are_apart rs ≡ true → are_apart (map f rs) ≡ true
apart_map f keeps [] h = refl
apart_map f keeps (r ∷ rs) h =
    let two = apart_tail r rs h in
    apart_cons (f r) (map f rs) (λ s inside same.
    let one = in_unmap f s rs inside in
    two.0 one.0 one.1 (sym (keeps one.0) ∙ ap (λ (y : SiteRecord). y.site) one.2 ∙ same ∙ keeps r)) (apart_map f keeps rs two.1)

-- ---- deliveries by site

abbrev pub busy_in : List Delivery → Site → ℕ
busy_in fs site = count_by (λ (f : Delivery). site_eq f.row.site site) fs

pub busy_cons : (site : Site) (f : Delivery) (fs : List Delivery) → busy_in (f ∷ fs) site ≡ cond (site_eq f.row.site site) 1 0 + busy_in fs site
busy_cons site f fs = sum_by-cons (λ (x : Delivery). cond (site_eq x.row.site site) 1 0) f fs

pub busy_more : (site : Site) (fs : List Delivery) (f : Delivery) → busy_in (fs ++ f ∷ []) site ≡ busy_in fs site + cond (site_eq f.row.site site) 1 0
busy_more site fs f =
    let a : busy_in (fs ++ f ∷ []) site ≡ busy_in fs site + busy_in (f ∷ []) site = sum_by-append (λ (x : Delivery). cond (site_eq x.row.site site) 1 0) fs (f ∷ []) in
    let b : busy_in (f ∷ []) site ≡ cond (site_eq f.row.site site) 1 0 + 0 = busy_cons site f [] in
    omega (arith, a, b)

pub busy_fewer : (site : Site) (p : Delivery → Bool) (fs : List Delivery) → busy_in (filter p fs) site ≤ busy_in fs site
busy_fewer site p [] = omega arith
busy_fewer site p (f ∷ fs) = one (p f) (busy_fewer site p fs)
  where
    one : (b : Bool) → busy_in (filter p fs) site ≤ busy_in fs site → busy_in (cond b (f ∷ filter p fs) (filter p fs)) site ≤ busy_in (f ∷ fs) site
    one true h = let a = busy_cons site f (filter p fs) in let b = busy_cons site f fs in omega (arith, a, b, h)
    one false h = let b = busy_cons site f fs in omega (arith, b, h)
