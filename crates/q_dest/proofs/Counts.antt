-- How the number of those that pass a test changes with one site.
use Rattle.std.proofs.Common.{◌≡◌, ◌∙◌, ◌+◌, ◌++◌, ◌≤◌, ap, arith, Bool, cond, false, length, List, [], ◌∷◌, map, refl, Some, sym, true}
use Rattle.std.specs.Prelude.{filter, find, not}
use Rattle.q_dest.proofs.Changes.{at_head, behind, changed_none, else_none, is_else}
use Rattle.q_dest.specs.Counting.{count_of, one_if}
use Rattle.q_dest.specs.Dests.{AreApart, changed_at, is_at}
use Rattle.q_dest.specs.declared.dest.Dest.{Dest}
use Rattle.q_model.specs.Values.{Site}

length_step : (b : Bool) (d : Dest) (ds : List Dest) → length (cond b (d ∷ ds) ds) ≡ length ds + one_if b
length_step true d ds = omega arith
length_step false d ds = omega arith

-- one more in front
pub counted_front : (p : Dest → Bool) (d : Dest) (ds : List Dest) → count_of p (d ∷ ds) ≡ count_of p ds + one_if (p d)
counted_front p d ds = length_step (p d) d (filter p ds)

-- one more behind
pub counted_more : (p : Dest → Bool) (ds : List Dest) (v : Dest) → count_of p (ds ++ v ∷ []) ≡ count_of p ds + one_if (p v)
counted_more p [] v = counted_front p v []
counted_more p (d ∷ ds) v = omega (arith, counted_front p d (ds ++ v ∷ []), counted_front p d ds, counted_more p ds v)

if_most : (b : Bool) → one_if b ≤ 1
if_most true = omega arith
if_most false = omega arith

pub counted_most : (p : Dest → Bool) (ds : List Dest) → count_of p ds ≤ length ds
counted_most p [] = omega arith
counted_most p (d ∷ ds) = omega (arith, counted_front p d ds, counted_most p ds, if_most (p d))

-- the count with the one that is found, and without it
abbrev Left : (Dest → Bool) → Site → Dest → List Dest → Type 0
Left p site found ds = count_of p (filter (is_else site) ds) + one_if (p found) ≡ count_of p ds

left_step : (p : Dest → Bool) (site : Site) (found d : Dest) (ds : List Dest) → AreApart (d ∷ ds) → find (is_at site) (d ∷ ds) ≡ Some found →
    (find (is_at site) ds ≡ Some found → Left p site found ds) → (b : Bool) → is_at site d ≡ b → Left p site found (d ∷ ds)
left_step p site found d ds apart h more true t =
    let head = at_head site found d ds apart t h in
    ap (λ b. count_of p (cond (not b) (d ∷ filter (is_else site) ds) (filter (is_else site) ds)) + one_if (p found)) t
    ∙ ap (λ xs. count_of p xs + one_if (p found)) (else_none site ds head.none)
    ∙ ap (λ x. count_of p ds + one_if (p x)) (sym head.same) ∙ sym (counted_front p d ds)
left_step p site found d ds apart h more false t =
    ap (λ b. count_of p (cond (not b) (d ∷ filter (is_else site) ds) (filter (is_else site) ds)) + one_if (p found)) t
    ∙ omega (arith, counted_front p d (filter (is_else site) ds), counted_front p d ds, more (behind site found d ds t h))

pub counted_left : (p : Dest → Bool) (site : Site) (found : Dest) (ds : List Dest) → AreApart ds → find (is_at site) ds ≡ Some found →
    count_of p (filter (is_else site) ds) + one_if (p found) ≡ count_of p ds
counted_left p site found [] apart h = cc
counted_left p site found (d ∷ ds) apart h = left_step p site found d ds apart h (counted_left p site found ds apart.1) (is_at site d) refl

-- the count with another in its place
abbrev Set : (Dest → Bool) → Site → Dest → Dest → List Dest → Type 0
Set p site found v ds = count_of p (map (changed_at site (λ d. v)) ds) + one_if (p found) ≡ count_of p ds + one_if (p v)

set_step : (p : Dest → Bool) (site : Site) (found v d : Dest) (ds : List Dest) → AreApart (d ∷ ds) → find (is_at site) (d ∷ ds) ≡ Some found →
    (find (is_at site) ds ≡ Some found → Set p site found v ds) → (b : Bool) → is_at site d ≡ b → Set p site found v (d ∷ ds)
set_step p site found v d ds apart h more true t =
    let head = at_head site found d ds apart t h in
    let rest : map (changed_at site (λ x. v)) ds ≡ ds = changed_none site (λ x. v) ds head.none in
    let same : one_if (p d) ≡ one_if (p found) = ap (λ x. one_if (p x)) head.same in
    ap (λ b. count_of p (cond b v d ∷ map (changed_at site (λ x. v)) ds) + one_if (p found)) t
    ∙ ap (λ xs. count_of p (v ∷ xs) + one_if (p found)) rest
    ∙ omega (arith, counted_front p v ds, counted_front p d ds, same)
set_step p site found v d ds apart h more false t =
    ap (λ b. count_of p (cond b v d ∷ map (changed_at site (λ x. v)) ds) + one_if (p found)) t
    ∙ omega (arith, counted_front p d (map (changed_at site (λ x. v)) ds), counted_front p d ds, more (behind site found d ds t h))

pub counted_set : (p : Dest → Bool) (site : Site) (found v : Dest) (ds : List Dest) → AreApart ds → find (is_at site) ds ≡ Some found →
    count_of p (map (changed_at site (λ d. v)) ds) + one_if (p found) ≡ count_of p ds + one_if (p v)
counted_set p site found v [] apart h = cc
counted_set p site found v (d ∷ ds) apart h = set_step p site found v d ds apart h (counted_set p site found v ds apart.1) (is_at site d) refl

-- the count with another behind all others
pub counted_moved : (p : Dest → Bool) (site : Site) (found v : Dest) (ds : List Dest) → AreApart ds → find (is_at site) ds ≡ Some found →
    count_of p (filter (is_else site) ds ++ v ∷ []) + one_if (p found) ≡ count_of p ds + one_if (p v)
counted_moved p site found v ds apart h = omega (arith, counted_more p (filter (is_else site) ds) v, counted_left p site found ds apart h)

-- the one that is found is counted
pub counted_found : (p : Dest → Bool) (site : Site) (found : Dest) (ds : List Dest) → AreApart ds → find (is_at site) ds ≡ Some found → one_if (p found) ≤ count_of p ds
counted_found p site found ds apart h = omega (arith, counted_left p site found ds apart h)

front_step : (site : Site) (found d : Dest) (ds : List Dest) → (find (is_at site) ds ≡ Some found → length (filter (is_else site) ds) + 1 ≤ length ds) → (find (is_at site) (d ∷ ds) ≡ Some found) →
    length (filter (is_else site) ds) ≤ length ds → (b : Bool) → is_at site d ≡ b → length (cond (not b) (d ∷ filter (is_else site) ds) (filter (is_else site) ds)) + 1 ≤ length (d ∷ ds)
front_step site found d ds more h most true t = omega (arith, most)
front_step site found d ds more h most false t = omega (arith, more (behind site found d ds t h))

-- there is room for it once it is taken out
pub fewer_else : (site : Site) (found : Dest) (ds : List Dest) → find (is_at site) ds ≡ Some found → length (filter (is_else site) ds) + 1 ≤ length ds
fewer_else site found [] h = cc
fewer_else site found (d ∷ ds) h = front_step site found d ds (fewer_else site found ds) h (counted_most (is_else site) ds) (is_at site d) refl
