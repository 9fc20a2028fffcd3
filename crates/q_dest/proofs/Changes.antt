-- What a change of one site makes of all.
use Rattle.std.proofs.Common.{◌≡◌, ◌∙◌, ap, Bool, cond, false, List, [], ◌∷◌, map, None, Option, refl, Some, subst, sym, true}
use Rattle.std.specs.List.{list_any}
use Rattle.std.specs.Prelude.{◌||◌, filter, find, not}
use Rattle.q_dest.specs.Dests.{AreApart, changed_at, is_at}
use Rattle.q_dest.specs.declared.dest.Dest.{Dest}
use Rattle.q_model.proofs.IdLaws.{site_eq-refl, site_eq-true}
use Rattle.q_model.specs.Sites.{site_eq}
use Rattle.q_model.specs.Values.{Site}

-- it is another site
abbrev pub is_else : Site → Dest → Bool
is_else site d = not (is_at site d)

none_step : (b : Bool) (d : Dest) (o : Option Dest) → cond b (Some d) o ≡ None → (b ≡ false) × (o ≡ None)
none_step true d o h = cc
none_step false d o h = (refl, h)

-- the first fails a test, and so do the others
pub none_parts : (p : Dest → Bool) (d : Dest) (ds : List Dest) → find p (d ∷ ds) ≡ None → (p d ≡ false) × (find p ds ≡ None)
none_parts p d ds h = none_step (p d) d (find p ds) h

-- a change of a site that isn't there
pub changed_none : (site : Site) (f : Dest → Dest) (ds : List Dest) → find (is_at site) ds ≡ None → map (changed_at site f) ds ≡ ds
changed_none site f [] h = refl
changed_none site f (d ∷ ds) h =
    let parts = none_parts (is_at site) d ds h in
    ap (λ b. cond b (f d) d ∷ map (changed_at site f) ds) parts.0 ∙ ap (λ xs. d ∷ xs) (changed_none site f ds parts.1)

pub else_none : (site : Site) (ds : List Dest) → find (is_at site) ds ≡ None → filter (is_else site) ds ≡ ds
else_none site [] h = refl
else_none site (d ∷ ds) h =
    let parts = none_parts (is_at site) d ds h in
    ap (λ b. cond (not b) (d ∷ filter (is_else site) ds) (filter (is_else site) ds)) parts.0 ∙ ap (λ xs. d ∷ xs) (else_none site ds parts.1)

-- where the first is the site, it is the one that is found, and no other is it
pub record IsAtHead (site : Site) (found d : Dest) (ds : List Dest) : Type 0 where
  pub same : d ≡ found
  pub none : find (is_at site) ds ≡ None

pub at_head : (site : Site) (found d : Dest) (ds : List Dest) → AreApart (d ∷ ds) → is_at site d ≡ true → find (is_at site) (d ∷ ds) ≡ Some found → IsAtHead site found d ds
at_head site found d ds apart t h =
    let first : Some d ≡ Some found = sym (ap (λ b. cond b (Some d) (find (is_at site) ds)) t) ∙ h in
    let named : d.known.site ≡ site = site_eq-true d.known.site site t in
    record { same = cc; none = ap (λ s. find (is_at s) ds) (sym named) ∙ apart.0 }

-- where it is another, the one is found behind it
pub behind : (site : Site) (found d : Dest) (ds : List Dest) → is_at site d ≡ false → find (is_at site) (d ∷ ds) ≡ Some found → find (is_at site) ds ≡ Some found
behind site found d ds t h = sym (ap (λ b. cond b (Some d) (find (is_at site) ds)) t) ∙ h

same_step : (site : Site) (f : Dest → Dest) (found d : Dest) (ds : List Dest) → AreApart (d ∷ ds) → find (is_at site) (d ∷ ds) ≡ Some found →
    (find (is_at site) ds ≡ Some found → map (changed_at site (λ x. f found)) ds ≡ map (changed_at site f) ds) → (b : Bool) → is_at site d ≡ b →
    map (changed_at site (λ x. f found)) (d ∷ ds) ≡ map (changed_at site f) (d ∷ ds)
same_step site f found d ds apart h more true t =
    let head = at_head site found d ds apart t h in
    ap (λ xs. cond (is_at site d) (f found) d ∷ xs) (changed_none site (λ x. f found) ds head.none ∙ sym (changed_none site f ds head.none))
    ∙ ap (λ x. cond (is_at site d) (f x) d ∷ map (changed_at site f) ds) (sym head.same)
same_step site f found d ds apart h more false t =
    ap (λ xs. cond (is_at site d) (f found) d ∷ xs) (more (behind site found d ds t h))
    ∙ ap (λ b. cond b (f found) d ∷ map (changed_at site f) ds) t ∙ ap (λ b. cond b (f d) d ∷ map (changed_at site f) ds) (sym t)

-- what is made of the one that is found is put in its place
pub changed_same : (site : Site) (f : Dest → Dest) (found : Dest) (ds : List Dest) → AreApart ds → find (is_at site) ds ≡ Some found → map (changed_at site (λ d. f found)) ds ≡ map (changed_at site f) ds
changed_same site f found [] apart h = refl
changed_same site f found (d ∷ ds) apart h = same_step site f found d ds apart h (changed_same site f found ds apart.1) (is_at site d) refl

named_step : (site : Site) (d found : Dest) (o : Option Dest) → (o ≡ Some found → found.known.site ≡ site) → (b : Bool) → is_at site d ≡ b → cond b (Some d) o ≡ Some found → found.known.site ≡ site
named_step site d found o more true t h = let same : d ≡ found = cc in subst (λ (x : Dest). x.known.site ≡ site) same (site_eq-true d.known.site site t)
named_step site d found o more false t h = more h

-- what is found is the site
pub found_named : (site : Site) (ds : List Dest) (found : Dest) → find (is_at site) ds ≡ Some found → found.known.site ≡ site
found_named site [] found h = cc
found_named site (d ∷ ds) found h = named_step site d found (find (is_at site) ds) (found_named site ds found) (is_at site d) refl h

absent_step : (site : Site) (d : Dest) (ds : List Dest) → find (is_at site) ds ≡ None → (b : Bool) → is_at site d ≡ b → find (is_at site) (cond (not b) (d ∷ ds) ds) ≡ None
absent_step site d ds h true t = h
absent_step site d ds h false t = ap (λ b. cond b (Some d) (find (is_at site) ds)) t ∙ h

-- it isn't there once it is taken out
pub absent_else : (site : Site) (ds : List Dest) → find (is_at site) (filter (is_else site) ds) ≡ None
absent_else site [] = refl
absent_else site (d ∷ ds) = absent_step site d (filter (is_else site) ds) (absent_else site ds) (is_at site d) refl

there_step : (p : Dest → Bool) (found d : Dest) (ds : List Dest) → find p (d ∷ ds) ≡ Some found → find (is_at found.known.site) (d ∷ ds) ≡ None →
    (find p ds ≡ Some found → find (is_at found.known.site) ds ≡ None → true ≡ false) → (b : Bool) → p d ≡ b → true ≡ false
there_step p found d ds h none more true t =
    let first : Some d ≡ Some found = sym (ap (λ b. cond b (Some d) (find p ds)) t) ∙ h in
    let same : d ≡ found = cc in
    let parts = none_parts (is_at found.known.site) d ds none in
    sym (site_eq-refl found.known.site) ∙ ap (λ (x : Dest). site_eq x.known.site found.known.site) (sym same) ∙ parts.0
there_step p found d ds h none more false t =
    let parts = none_parts (is_at found.known.site) d ds none in
    more (sym (ap (λ b. cond b (Some d) (find p ds)) t) ∙ h) parts.1

-- what passes a test is found by its site
pub found_there : (p : Dest → Bool) (found : Dest) (ds : List Dest) → find p ds ≡ Some found → find (is_at found.known.site) ds ≡ None → true ≡ false
found_there p found [] h none = cc
found_there p found (d ∷ ds) h none = there_step p found d ds h none (found_there p found ds) (p d) refl

some_step : (b any : Bool) (d found : Dest) (o : Option Dest) → (o ≡ Some found → any ≡ true) → cond b (Some d) o ≡ Some found → (b || any) ≡ true
some_step true any d found o more h = refl
some_step false any d found o more h = more h

-- one that is found passes
pub any_found : (p : Dest → Bool) (found : Dest) (ds : List Dest) → find p ds ≡ Some found → list_any p ds ≡ true
any_found p found [] h = cc
any_found p found (d ∷ ds) h = some_step (p d) (list_any p ds) d found (find p ds) (any_found p found ds) h

pub any_none : (p : Dest → Bool) (ds : List Dest) → find p ds ≡ None → list_any p ds ≡ false
any_none p [] h = refl
any_none p (d ∷ ds) h =
    let parts = none_parts p d ds h in
    ap (λ b. b || list_any p ds) parts.0 ∙ any_none p ds parts.1

passes_step : (p : Dest → Bool) (d found : Dest) (o : Option Dest) → (o ≡ Some found → p found ≡ true) → (b : Bool) → p d ≡ b → cond b (Some d) o ≡ Some found → p found ≡ true
passes_step p d found o more true t h = let same : d ≡ found = cc in sym (ap p same) ∙ t
passes_step p d found o more false t h = more h

pub found_passes : (p : Dest → Bool) (found : Dest) (ds : List Dest) → find p ds ≡ Some found → p found ≡ true
found_passes p found [] h = cc
found_passes p found (d ∷ ds) h = passes_step p d found (find p ds) (found_passes p found ds) (p d) refl h
