-- The site that is changed goes behind all others where it is unused now, and the first that is
-- remembered is forgotten.
use Rattle.std.proofs.Common.{◌≡◌, ◌∙◌, ◌++◌, ap, Bool, cond, false, List, [], ◌∷◌, map, None, Option, refl, Some, sym, true}
use Rattle.std.specs.Option.{option_map_or}
use Rattle.std.specs.Prelude.{◌&&◌, filter, find, not}
use Rattle.q_dest.proofs.Changes.{at_head, behind, changed_none, else_none, found_there, is_else, none_parts}
use Rattle.q_dest.specs.Dests.{AreApart, changed_at, is_at, is_unused, settled}
use Rattle.q_dest.specs.declared.dest.Dest.{Dest}
use Rattle.q_model.proofs.IdLaws.{site_eq-refl, site_eq-true}
use Rattle.q_model.specs.Lists.{drop_first}
use Rattle.q_model.specs.Sites.{site_eq}
use Rattle.q_model.specs.Values.{Site}

abbrev is_left : Site → Dest → Bool
is_left site d = is_at site d && is_unused d

both_none : (site : Site) (ds : List Dest) → find (is_at site) ds ≡ None → find (is_left site) ds ≡ None
both_none site [] h = refl
both_none site (d ∷ ds) h =
    let parts = none_parts (is_at site) d ds h in
    ap (λ b. cond (b && is_unused d) (Some d) (find (is_left site) ds)) parts.0 ∙ both_none site ds parts.1

-- what is found of the changed sites, and what is left without it
abbrev one_unused : Bool → Dest → Option Dest
one_unused unused d = cond unused (Some d) None

found_step : (site : Site) (f : Dest → Dest) (found d : Dest) (ds : List Dest) → (f found).known.site ≡ site → AreApart (d ∷ ds) → find (is_at site) (d ∷ ds) ≡ Some found →
    (find (is_at site) ds ≡ Some found → find (is_left site) (map (changed_at site f) ds) ≡ one_unused (is_unused (f found)) (f found)) → (b : Bool) → is_at site d ≡ b →
    find (is_left site) (map (changed_at site f) (d ∷ ds)) ≡ one_unused (is_unused (f found)) (f found)
found_step site f found d ds stays apart h more true t =
    let head = at_head site found d ds apart t h in
    let like : site_eq (f found).known.site site ≡ true = ap (λ s. site_eq s site) stays ∙ site_eq-refl site in
    ap (λ b. find (is_left site) (cond b (f d) d ∷ map (changed_at site f) ds)) t
    ∙ ap (λ x. find (is_left site) (f x ∷ map (changed_at site f) ds)) head.same
    ∙ ap (λ b. cond (b && is_unused (f found)) (Some (f found)) (find (is_left site) (map (changed_at site f) ds))) like
    ∙ ap (λ xs. cond (is_unused (f found)) (Some (f found)) (find (is_left site) xs)) (changed_none site f ds head.none)
    ∙ ap (λ o. cond (is_unused (f found)) (Some (f found)) o) (both_none site ds head.none)
found_step site f found d ds stays apart h more false t =
    ap (λ b. find (is_left site) (cond b (f d) d ∷ map (changed_at site f) ds)) t
    ∙ ap (λ b. cond (b && is_unused d) (Some d) (find (is_left site) (map (changed_at site f) ds))) t
    ∙ more (behind site found d ds t h)

left_found : (site : Site) (f : Dest → Dest) (found : Dest) (ds : List Dest) → (f found).known.site ≡ site → AreApart ds → find (is_at site) ds ≡ Some found →
    find (is_left site) (map (changed_at site f) ds) ≡ one_unused (is_unused (f found)) (f found)
left_found site f found [] stays apart h = cc
left_found site f found (d ∷ ds) stays apart h = found_step site f found d ds stays apart h (left_found site f found ds stays apart.1) (is_at site d) refl

drop_step : (site : Site) (f : Dest → Dest) (found d : Dest) (ds : List Dest) → (f found).known.site ≡ site → is_unused (f found) ≡ true → AreApart (d ∷ ds) → find (is_at site) (d ∷ ds) ≡ Some found →
    (find (is_at site) ds ≡ Some found → drop_first (is_left site) (map (changed_at site f) ds) ≡ filter (is_else site) ds) → (b : Bool) → is_at site d ≡ b →
    drop_first (is_left site) (map (changed_at site f) (d ∷ ds)) ≡ filter (is_else site) (d ∷ ds)
drop_step site f found d ds stays unused apart h more true t =
    let head = at_head site found d ds apart t h in
    let like : site_eq (f found).known.site site ≡ true = ap (λ s. site_eq s site) stays ∙ site_eq-refl site in
    ap (λ b. drop_first (is_left site) (cond b (f d) d ∷ map (changed_at site f) ds)) t
    ∙ ap (λ x. drop_first (is_left site) (f x ∷ map (changed_at site f) ds)) head.same
    ∙ ap (λ b. cond (b && is_unused (f found)) (map (changed_at site f) ds) (f found ∷ drop_first (is_left site) (map (changed_at site f) ds))) like
    ∙ ap (λ b. cond b (map (changed_at site f) ds) (f found ∷ drop_first (is_left site) (map (changed_at site f) ds))) unused
    ∙ changed_none site f ds head.none ∙ sym (else_none site ds head.none)
    ∙ ap (λ b. cond (not b) (d ∷ filter (is_else site) ds) (filter (is_else site) ds)) (sym t)
drop_step site f found d ds stays unused apart h more false t =
    ap (λ b. drop_first (is_left site) (cond b (f d) d ∷ map (changed_at site f) ds)) t
    ∙ ap (λ b. cond (b && is_unused d) (map (changed_at site f) ds) (d ∷ drop_first (is_left site) (map (changed_at site f) ds))) t
    ∙ ap (λ xs. d ∷ xs) (more (behind site found d ds t h))
    ∙ ap (λ b. cond (not b) (d ∷ filter (is_else site) ds) (filter (is_else site) ds)) (sym t)

left_dropped : (site : Site) (f : Dest → Dest) (found : Dest) (ds : List Dest) → (f found).known.site ≡ site → is_unused (f found) ≡ true → AreApart ds → find (is_at site) ds ≡ Some found →
    drop_first (is_left site) (map (changed_at site f) ds) ≡ filter (is_else site) ds
left_dropped site f found [] stays unused apart h = cc
left_dropped site f found (d ∷ ds) stays unused apart h = drop_step site f found d ds stays unused apart h (left_dropped site f found ds stays unused apart.1) (is_at site d) refl

-- it is still used
pub settled_used : (site : Site) (f : Dest → Dest) (found : Dest) (ds : List Dest) → (f found).known.site ≡ site → is_unused (f found) ≡ false → AreApart ds → find (is_at site) ds ≡ Some found →
    map (changed_at site f) ds ≡ settled site f ds
settled_used site f found ds stays used apart h =
    let all = map (changed_at site f) ds in
    sym (ap (λ o. option_map_or (λ x. drop_first (is_left site) all ++ x ∷ []) o all) (left_found site f found ds stays apart h ∙ ap (λ b. one_unused b (f found)) used))

-- it is unused
pub settled_unused : (site : Site) (f : Dest → Dest) (found : Dest) (ds : List Dest) → (f found).known.site ≡ site → is_unused (f found) ≡ true → AreApart ds → find (is_at site) ds ≡ Some found →
    filter (is_else site) ds ++ f found ∷ [] ≡ settled site f ds
settled_unused site f found ds stays unused apart h =
    let all = map (changed_at site f) ds in
    ap (λ xs. xs ++ f found ∷ []) (sym (left_dropped site f found ds stays unused apart h))
    ∙ sym (ap (λ o. option_map_or (λ x. drop_first (is_left site) all ++ x ∷ []) o all) (left_found site f found ds stays apart h ∙ ap (λ b. one_unused b (f found)) unused))

-- it isn't there
pub settled_none : (site : Site) (f : Dest → Dest) (ds : List Dest) → find (is_at site) ds ≡ None → ds ≡ settled site f ds
settled_none site f ds h =
    sym (ap (λ xs. option_map_or (λ x. drop_first (is_left site) xs ++ x ∷ []) (find (is_left site) xs) xs) (changed_none site f ds h)
    ∙ ap (λ o. option_map_or (λ x. drop_first (is_left site) ds ++ x ∷ []) o ds) (both_none site ds h))

pub dropped_none : (p : Dest → Bool) (ds : List Dest) → find p ds ≡ None → ds ≡ drop_first p ds
dropped_none p [] h = refl
dropped_none p (d ∷ ds) h =
    let parts = none_parts p d ds h in
    ap (λ xs. d ∷ xs) (dropped_none p ds parts.1) ∙ ap (λ b. cond b ds (d ∷ drop_first p ds)) (sym parts.0)

-- another that passes is the first
pub other_step : (p : Dest → Bool) (found d : Dest) (ds : List Dest) → AreApart (d ∷ ds) → find p ds ≡ Some found → (b : Bool) → is_at found.known.site d ≡ b → b ≡ false
other_step p found d ds apart h true t =
    let named = site_eq-true d.known.site found.known.site t in
    found_there p found ds h (ap (λ s. find (is_at s) ds) (sym named) ∙ apart.0)
other_step p found d ds apart h false t = refl

dropped_step : (p : Dest → Bool) (found d : Dest) (ds : List Dest) → AreApart (d ∷ ds) → find p (d ∷ ds) ≡ Some found →
    (find p ds ≡ Some found → filter (is_else found.known.site) ds ≡ drop_first p ds) → (b : Bool) → p d ≡ b → filter (is_else found.known.site) (d ∷ ds) ≡ cond b ds (d ∷ drop_first p ds)
dropped_step p found d ds apart h more true t =
    let first : Some d ≡ Some found = sym (ap (λ b. cond b (Some d) (find p ds)) t) ∙ h in
    let same : d ≡ found = cc in
    ap (λ (x : Dest). filter (is_else x.known.site) (d ∷ ds)) (sym same)
    ∙ ap (λ b. cond (not b) (d ∷ filter (is_else d.known.site) ds) (filter (is_else d.known.site) ds)) (site_eq-refl d.known.site)
    ∙ else_none d.known.site ds apart.0
dropped_step p found d ds apart h more false t =
    let there : find p ds ≡ Some found = sym (ap (λ b. cond b (Some d) (find p ds)) t) ∙ h in
    ap (λ b. cond (not b) (d ∷ filter (is_else found.known.site) ds) (filter (is_else found.known.site) ds)) (other_step p found d ds apart there (is_at found.known.site d) refl)
    ∙ ap (λ xs. d ∷ xs) (more there)

-- the first that passes is taken out by its site
pub dropped_found : (p : Dest → Bool) (found : Dest) (ds : List Dest) → AreApart ds → find p ds ≡ Some found → filter (is_else found.known.site) ds ≡ drop_first p ds
dropped_found p found [] apart h = refl
dropped_found p found (d ∷ ds) apart h = dropped_step p found d ds apart h (dropped_found p found ds apart.1) (p d) refl
