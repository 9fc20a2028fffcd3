-- Sites that are alive and unused are none to keep: what is left without them.
use Rattle.std.proofs.Common.{◌≡◌, ◌∙◌, ◌++◌, ◌∷◌, [], ap, arith, Bool, cond, false, List, map, None, refl, Some, subst, sym, true, ℕ}
use Rattle.std.specs.Prelude.{◌&&◌, ◌+◌, ◌==◌, filter, find, not}
use Rattle.q_dest.proofs.Changes.{at_head, behind, changed_none, changed_same, else_none, is_else}
use Rattle.q_dest.proofs.Settling.{settled_none, settled_unused, settled_used}
use Rattle.q_dest.specs.Dests.{AreApart, AreKept, changed_at, is_at, is_kept, is_unused, settled}
use Rattle.q_dest.specs.declared.dest.Dest.{Dest}
use Rattle.q_model.specs.SiteRecords.{is_awake}
use Rattle.q_model.specs.Values.{Site}

-- all are kept
pub all_kept : (ds : List Dest) → AreKept ds → filter is_kept ds ≡ ds
all_kept [] h = refl
all_kept (d ∷ ds) h = ap (λ b. cond b (d ∷ filter is_kept ds) (filter is_kept ds)) h.0 ∙ ap (λ xs. d ∷ xs) (all_kept ds h.1)

pub kept_more : (ds : List Dest) (d : Dest) → AreKept ds → is_kept d ≡ true → AreKept (ds ++ d ∷ [])
kept_more [] d h one = (one, tt)
kept_more (x ∷ xs) d h one = (h.0, kept_more xs d h.1 one)

left_step : (b : Bool) (d : Dest) (ds : List Dest) → is_kept d ≡ true → AreKept ds → AreKept (cond b (d ∷ ds) ds)
left_step true d ds h hs = (h, hs)
left_step false d ds h hs = hs

pub kept_left : (p : Dest → Bool) (ds : List Dest) → AreKept ds → AreKept (filter p ds)
kept_left p [] h = h
kept_left p (d ∷ ds) h = left_step (p d) d (filter p ds) h.0 (kept_left p ds h.1)

set_step : (b : Bool) (v d : Dest) → is_kept v ≡ true → is_kept d ≡ true → is_kept (cond b v d) ≡ true
set_step true v d one h = one
set_step false v d one h = h

pub kept_set : (site : Site) (v : Dest) (ds : List Dest) → is_kept v ≡ true → AreKept ds → AreKept (map (changed_at site (λ d. v)) ds)
kept_set site v [] one h = h
kept_set site v (d ∷ ds) one h = (set_step (is_at site d) v d one h.0, kept_set site v ds one h.1)

-- the found one is changed and isn't kept
out_step : (site : Site) (f : Dest → Dest) (found d : Dest) (ds : List Dest) → is_kept (f found) ≡ false → AreApart (d ∷ ds) → AreKept (d ∷ ds) → find (is_at site) (d ∷ ds) ≡ Some found →
    (find (is_at site) ds ≡ Some found → filter is_kept (map (changed_at site f) ds) ≡ filter (is_else site) ds) → (b : Bool) → is_at site d ≡ b →
    filter is_kept (cond b (f d) d ∷ map (changed_at site f) ds) ≡ cond (not b) (d ∷ filter (is_else site) ds) (filter (is_else site) ds)
out_step site f found d ds out apart kept h more true t =
    let head = at_head site found d ds apart t h in
    ap (λ xs. cond (is_kept (f d)) (f d ∷ filter is_kept xs) (filter is_kept xs)) (changed_none site f ds head.none)
    ∙ ap (λ b. cond b (f d ∷ filter is_kept ds) (filter is_kept ds)) (ap (λ x. is_kept (f x)) head.same ∙ out)
    ∙ all_kept ds kept.1 ∙ sym (else_none site ds head.none)
out_step site f found d ds out apart kept h more false t =
    ap (λ b. cond b (d ∷ filter is_kept (map (changed_at site f) ds)) (filter is_kept (map (changed_at site f) ds))) kept.0
    ∙ ap (λ xs. d ∷ xs) (more (behind site found d ds t h))

pub changed_out : (site : Site) (f : Dest → Dest) (found : Dest) (ds : List Dest) → is_kept (f found) ≡ false → AreApart ds → AreKept ds → find (is_at site) ds ≡ Some found →
    filter is_kept (map (changed_at site f) ds) ≡ filter (is_else site) ds
changed_out site f found [] out apart kept h = refl
changed_out site f found (d ∷ ds) out apart kept h =
    out_step site f found d ds out apart kept h (changed_out site f found ds out apart.1 kept.1) (is_at site d) refl

-- all are kept where the found one is then
pub kept_changed : (site : Site) (f : Dest → Dest) (found : Dest) (ds : List Dest) → is_kept (f found) ≡ true → AreApart ds → AreKept ds → find (is_at site) ds ≡ Some found → AreKept (map (changed_at site f) ds)
kept_changed site f found ds keep apart kept h = subst AreKept (changed_same site f found ds apart h) (kept_set site (f found) ds keep kept)

pub changed_in : (site : Site) (f : Dest → Dest) (found : Dest) (ds : List Dest) → is_kept (f found) ≡ true → AreApart ds → AreKept ds → find (is_at site) ds ≡ Some found →
    map (changed_at site f) ds ≡ filter is_kept (map (changed_at site f) ds)
changed_in site f found ds keep apart kept h = sym (all_kept (map (changed_at site f) ds) (kept_changed site f found ds keep apart kept h))

last_step : (ds : List Dest) (d : Dest) → AreKept ds → (b : Bool) → is_kept d ≡ b → filter is_kept (ds ++ d ∷ []) ≡ ds ++ cond b (d ∷ []) []
last_step [] d h b t = ap (λ b. cond b (d ∷ []) []) t
last_step (x ∷ xs) d h b t =
    ap (λ b. cond b (x ∷ filter is_kept (xs ++ d ∷ [])) (filter is_kept (xs ++ d ∷ []))) h.0 ∙ ap (λ ys. x ∷ ys) (last_step xs d h.1 b t)

none_more : (ds : List Dest) → ds ++ [] ≡ ds
none_more [] = refl
none_more (d ∷ ds) = ap (λ xs. d ∷ xs) (none_more ds)

unused_out : (alive unused : Bool) → not (alive && unused) ≡ false → unused ≡ true
unused_out true true h = refl
unused_out true false h = cc
unused_out false true h = refl
unused_out false false h = cc

-- What becomes of the site that is found, by whether it is kept then, and unused.
module _ (site : Site) (f : Dest → Dest) (found : Dest) (ds : List Dest) (stays : (f found).known.site ≡ site) (apart : AreApart ds) (kept : AreKept ds) (there : find (is_at site) ds ≡ Some found) where
  pub settled_out : is_kept (f found) ≡ false → filter (is_else site) ds ≡ filter is_kept (settled site f ds)
  settled_out out =
      sym (none_more (filter (is_else site) ds))
      ∙ sym (last_step (filter (is_else site) ds) (f found) (kept_left (is_else site) ds kept) false out)
      ∙ ap (filter is_kept) (settled_unused site f found ds stays (unused_out (is_awake (f found).known) (is_unused (f found)) out) apart there)

  pub settled_last : is_kept (f found) ≡ true → is_unused (f found) ≡ true → filter (is_else site) ds ++ f found ∷ [] ≡ filter is_kept (settled site f ds)
  settled_last keep unused =
      sym (last_step (filter (is_else site) ds) (f found) (kept_left (is_else site) ds kept) true keep)
      ∙ ap (filter is_kept) (settled_unused site f found ds stays unused apart there)

  pub settled_there : is_kept (f found) ≡ true → is_unused (f found) ≡ false → map (changed_at site f) ds ≡ filter is_kept (settled site f ds)
  settled_there keep used =
      changed_in site f found ds keep apart kept there
      ∙ ap (filter is_kept) (settled_used site f found ds stays used apart there)

-- it isn't there
pub settled_nowhere : (site : Site) (f : Dest → Dest) (ds : List Dest) → AreKept ds → find (is_at site) ds ≡ None → ds ≡ filter is_kept (settled site f ds)
settled_nowhere site f ds kept none = sym (all_kept ds kept) ∙ ap (filter is_kept) (settled_none site f ds none)

-- why a site is kept
pub kept_waiting : (alive : Bool) (n busy : ℕ) → not (alive && (((n + 1) == 0) && (busy == 0))) ≡ true
kept_waiting true n busy = grind arith
kept_waiting false n busy = refl

pub kept_busy : (alive : Bool) (waiting n : ℕ) → not (alive && ((waiting == 0) && ((n + 1) == 0))) ≡ true
kept_busy true waiting n = grind arith
kept_busy false waiting n = refl
