-- How many site records pass a test, and which sites are used, as rows and deliveries come and go.
use Rattle.std.proofs.Common.{◌≡◌, ℕ, ◌+◌, ◌≤◌, Bool, true, false, cond, not, List, [], ◌∷◌, ◌++◌, map, filter, length, inl, inr, refl, sym, ap, ◌∙◌, subst, arith, if◌then◌else◌}
use Rattle.std.specs.List.{list_any}
use Rattle.std.specs.Prelude.{◌&&◌, ◌==◌, ◌||◌}
use Rattle.q_laws.proofs.Members.{IsIn}
use Rattle.q_laws.proofs.SiteLists.{apart_tail, busy_cons, busy_in, busy_more}
use Rattle.q_laws.specs.SitesConsistency.{are_apart}
use Rattle.q_model.proofs.IdLaws.{site_eq-refl, site_eq-true}
use Rattle.q_model.specs.Lists.{drop_first}
use Rattle.q_model.specs.Sites.{site_eq}
use Rattle.q_model.specs.SiteRecords.{is_awake}
use Rattle.q_model.specs.Values.{Site, SiteRecord}
use Rattle.q_model.specs.declared.rows.Delivery.{Delivery}
use Rattle.q_model.specs.declared.rows.Row.{Row}

-- ---- how many pass

-- how many records pass
abbrev pub tally : (SiteRecord → Bool) → List SiteRecord → ℕ
tally p rs = length (filter p rs)

tally_at : (r : SiteRecord) (few : List SiteRecord) (b : Bool) → length (cond b (r ∷ few) few) ≡ (if b then 1 else 0) + length few
tally_at r few true = omega arith
tally_at r few false = omega arith

pub tally_cons : (p : SiteRecord → Bool) (r : SiteRecord) (rs : List SiteRecord) → tally p (r ∷ rs) ≡ (if p r then 1 else 0) + tally p rs
tally_cons p r rs = tally_at r (filter p rs) (p r)

no_more : (a b : Bool) → (b ≡ true → a ≡ true) → ◌≤◌ (if b then 1 else 0) (if a then 1 else 0)
no_more true true h = omega arith
no_more true false h = omega arith
no_more false false h = omega arith
no_more false true h = absurd (let bad : false ≡ true = h refl in cc)

-- where those that pass one test pass another, they are no more
pub fewer_pass : (p q : SiteRecord → Bool) (rs : List SiteRecord) → ((r : SiteRecord) → IsIn r rs → q r ≡ true → p r ≡ true) → tally q rs ≤ tally p rs
fewer_pass p q [] h = omega arith
fewer_pass p q (r ∷ rs) h =
    let a = tally_cons p r rs in
    let b = tally_cons q r rs in
    let first = no_more (p r) (q r) (h r (inl refl)) in
    let rest = fewer_pass p q rs (λ s inside. h s (inr inside)) in
    omega (arith, a, b, first, rest)

other_sites : (a b site : Site) → site_eq a site ≡ true → (b ≡ a → ⊥) → site_eq b site ≡ false
other_sites a b site h apart = which (site_eq b site) refl
  where
    which : (t : Bool) → site_eq b site ≡ t → t ≡ false
    which false e = refl
    which true e = absurd (apart (site_eq-true b site e ∙ sym (site_eq-true a site h)))

-- the same but for the record of one site
pub one_more_passes : (p q : SiteRecord → Bool) (site : Site) (rs : List SiteRecord) → are_apart rs ≡ true → ((r : SiteRecord) → site_eq r.site site ≡ false → q r ≡ true → p r ≡ true) → tally q rs ≤ tally p rs + 1
one_more_passes p q site [] apart h = omega arith
one_more_passes p q site (r ∷ rs) apart h = which (site_eq r.site site) refl (one_more_passes p q site rs (apart_tail r rs apart).1 h)
  where
    which : (b : Bool) → site_eq r.site site ≡ b → tally q rs ≤ tally p rs + 1 → tally q (r ∷ rs) ≤ tally p (r ∷ rs) + 1
    which true e more =
        let a = tally_cons p r rs in
        let b = tally_cons q r rs in
        let one = no_more true (q r) (λ k. refl) in
        let rest = fewer_pass p q rs (λ s inside. h s (other_sites r.site s.site site e ((apart_tail r rs apart).0 s inside))) in
        omega (arith, a, b, one, rest)
    which false e more =
        let a = tally_cons p r rs in
        let b = tally_cons q r rs in
        let first = no_more (p r) (q r) (h r e) in
        omega (arith, a, b, first, more)

pub tally_map : (q : SiteRecord → Bool) (f : SiteRecord → SiteRecord) (rs : List SiteRecord) → tally q (map f rs) ≡ tally (λ r. q (f r)) rs
tally_map q f [] = refl
tally_map q f (r ∷ rs) =
    let a = tally_cons q (f r) (map f rs) in
    let b = tally_cons (λ s. q (f s)) r rs in
    let rest = tally_map q f rs in
    omega (arith, a, b, rest)

pub tally_append : (p : SiteRecord → Bool) (rs ss : List SiteRecord) → tally p (rs ++ ss) ≡ tally p rs + tally p ss
tally_append p [] ss = omega arith
tally_append p (r ∷ rs) ss =
    let a = tally_cons p r (rs ++ ss) in
    let b = tally_cons p r rs in
    let rest = tally_append p rs ss in
    omega (arith, a, b, rest)

tally_kept : (p : SiteRecord → Bool) (r : SiteRecord) (few : List SiteRecord) (b : Bool) → tally p (cond b (r ∷ few) few) ≡ (if b then (if p r then 1 else 0) else 0) + tally p few
tally_kept p r few true = tally_cons p r few
tally_kept p r few false = omega arith

at_most : (a b : Bool) → ◌≤◌ (if a then (if b then 1 else 0) else 0) (if b then 1 else 0)
at_most true b = omega arith
at_most false true = omega arith
at_most false false = omega arith

pub tally_filtered : (p q : SiteRecord → Bool) (rs : List SiteRecord) → tally p (filter q rs) ≤ tally p rs
tally_filtered p q [] = omega arith
tally_filtered p q (r ∷ rs) =
    let a = tally_kept p r (filter q rs) (q r) in
    let b = tally_cons p r rs in
    let c = at_most (q r) (p r) in
    let rest = tally_filtered p q rs in
    omega (arith, a, b, c, rest)

either_way : (a b : Bool) → ◌≡◌ {A = ℕ} ((if not a then (if b then 1 else 0) else 0) + (if a then (if b then 1 else 0) else 0)) (if b then 1 else 0)
either_way true b = omega arith
either_way false b = omega arith

-- a list in two parts has as many
pub tally_parts : (p q : SiteRecord → Bool) (rs : List SiteRecord) → tally p (filter (λ r. not (q r)) rs) + tally p (filter q rs) ≡ tally p rs
tally_parts p q [] = refl
tally_parts p q (r ∷ rs) =
    let a = tally_kept p r (filter (λ s. not (q s)) rs) (not (q r)) in
    let b = tally_kept p r (filter q rs) (q r) in
    let c = tally_cons p r rs in
    let d = either_way (q r) (p r) in
    let rest = tally_parts p q rs in
    omega (arith, a, b, c, d, rest)

dropped_at : (p : SiteRecord → Bool) (r : SiteRecord) (few rs : List SiteRecord) (n : ℕ) (b : Bool) → p r ≡ b → (if b then 1 else 0) + tally p rs ≤ n + 1 → (tally p rs ≤ n + 1 → tally p few ≤ n) → tally p (if b then rs else r ∷ few) ≤ n
dropped_at p r few rs n true e h rest = omega (arith, h)
dropped_at p r few rs n false e h rest =
    let a = tally_cons p r few in
    let b : ◌≡◌ {A = ℕ} (if p r then 1 else 0) 0 = ap (λ t. if t then 1 else 0) e in
    let c = rest (omega (arith, h)) in
    omega (arith, a, b, c)

-- without the first that passes there is one less
pub tally_dropped : (p : SiteRecord → Bool) (rs : List SiteRecord) (n : ℕ) → tally p rs ≤ n + 1 → tally p (drop_first p rs) ≤ n
tally_dropped p [] n h = omega arith
tally_dropped p (r ∷ rs) n h =
    let a = tally_cons p r rs in
    dropped_at p r (drop_first p rs) rs n (p r) refl (omega (arith, a, h)) (tally_dropped p rs n)

-- ---- which sites are used

pub turned : (a b : Site) → site_eq a b ≡ false → site_eq b a ≡ false
turned a b h = which (site_eq b a) refl
  where
    which : (t : Bool) → site_eq b a ≡ t → t ≡ false
    which false e = refl
    which true e =
        let bad : false ≡ true = sym h ∙ subst (λ x. site_eq x b ≡ true) (site_eq-true b a e) (site_eq-refl b) in
        absurd cc

-- a row waits at the site
abbrev pub waits_in : List Row → Site → Bool
waits_in rows site = list_any (λ r. site_eq r.site site) rows

-- a record whose site no row waits at and no delivery is under way to
abbrev pub unused_in : List Row → List Delivery → SiteRecord → Bool
unused_in rows fs r = not (waits_in rows r.site) && (busy_in fs r.site == 0)

-- such a record that is dead
abbrev pub kept_dead_in : List Row → List Delivery → SiteRecord → Bool
kept_dead_in rows fs r = unused_in rows fs r && not (is_awake r)

dropped_waits : (r : Row) (few rows : List Row) (site : Site) (b : Bool) → (b ≡ true → site_eq r.site site ≡ false) → waits_in few site ≡ waits_in rows site → waits_in (if b then rows else r ∷ few) site ≡ waits_in (r ∷ rows) site
dropped_waits r few rows site true apart rest = ap (λ t. t || waits_in rows site) (sym (apart refl))
dropped_waits r few rows site false apart rest = ap (λ t. site_eq r.site site || t) rest

-- a row that goes was at another site
pub waits_dropped : (p : Row → Bool) (rows : List Row) (site : Site) → ((r : Row) → p r ≡ true → site_eq r.site site ≡ false) → waits_in (drop_first p rows) site ≡ waits_in rows site
waits_dropped p [] site apart = refl
waits_dropped p (r ∷ rows) site apart = dropped_waits r (drop_first p rows) rows site (p r) (apart r) (waits_dropped p rows site apart)

left_busy : (f : Delivery) (few fs : List Delivery) (site : Site) (b : Bool) → (b ≡ false → site_eq f.row.site site ≡ false) → busy_in few site ≡ busy_in fs site → busy_in (cond b (f ∷ few) few) site ≡ busy_in (f ∷ fs) site
left_busy f few fs site true apart rest = let a = busy_cons site f few in let b = busy_cons site f fs in omega (arith, a, b, rest)
left_busy f few fs site false apart rest =
    let a = busy_cons site f fs in
    let b : ◌≡◌ {A = ℕ} (cond (site_eq f.row.site site) 1 0) 0 = ap (λ t. cond t 1 0) (apart refl) in
    omega (arith, a, b, rest)

-- deliveries that end were to another site
pub busy_left : (p : Delivery → Bool) (fs : List Delivery) (site : Site) → ((f : Delivery) → IsIn f fs → p f ≡ false → site_eq f.row.site site ≡ false) → busy_in (filter p fs) site ≡ busy_in fs site
busy_left p [] site apart = refl
busy_left p (f ∷ fs) site apart = left_busy f (filter p fs) fs site (p f) (apart f (inl refl)) (busy_left p fs site (λ g inside. apart g (inr inside)))

-- a delivery that begins is to another site
pub busy_begun : (fs : List Delivery) (f : Delivery) (site : Site) → site_eq f.row.site site ≡ false → busy_in (fs ++ f ∷ []) site ≡ busy_in fs site
busy_begun fs f site apart =
    let a = busy_more site fs f in
    let b : ◌≡◌ {A = ℕ} (cond (site_eq f.row.site site) 1 0) 0 = ap (λ t. cond t 1 0) apart in
    omega (arith, a, b)
