-- Rows and outcomes are of the message that they are made for.
use Rattle.std.proofs.Common.{◌≡◌, Bool, cond, List, [], ◌∷◌, ◌++◌, ap, length, None, Option, refl, Some, suc, sym, true, false, zero, ◌∙◌, ℕ}
use Rattle.std.specs.Prelude.{◌&&◌, nat_lt, option_map, slice_get}
use Rattle.q_core.specs.Loading.{AreRowsOf, rows_in}
use Rattle.std.specs.List.{cons_option, list_all}
use Rattle.q_core.specs.Needs.{need_in, needs_in}
use Rattle.q_core.specs.Ties.{AreNamed}
use Rattle.q_model.specs.Batches.{join_rows}
use Rattle.q_model.specs.Settling.{unsettled_row}
use Rattle.q_model.specs.Sites.{site_eq}
use Rattle.q_model.specs.Values.{Site, Taken}
use Rattle.q_model.specs.declared.id.Id.{Id}
use Rattle.q_model.specs.declared.outcome.Outcome.{Outcome}
use Rattle.q_model.specs.declared.rows.Need.{Need}
use Rattle.q_model.specs.declared.rows.Row.{Row}
use Rattle.q_model.specs.declared.rows.Unsettled.{Unsettled}

join_step : (id : Id) (r joined : Row) (rs more : List Row) → joined.id ≡ id → r.id ≡ id → AreRowsOf id rs → AreRowsOf id more → (b : Bool) → AreRowsOf id (cond b (joined ∷ rs) (r ∷ more))
join_step id r joined rs more j h hs ms true = (j, hs)
join_step id r joined rs more j h hs ms false = (h, ms)

joined_named : (limit : ℕ) (id : Id) (site : Site) (position : ℕ) (rows : List Row) → AreRowsOf id rows → AreRowsOf id (join_rows limit id site position rows)
joined_named limit id site position [] h = (refl, tt)
joined_named limit id site position (r ∷ rs) h =
    join_step id r (record r { positions = r.positions ++ position ∷ [] }) rs (join_rows limit id site position rs) h.0 h.0 h.1 (joined_named limit id site position rs h.1) (site_eq r.site site && nat_lt (length r.positions) limit)

pub rows_named : (limit : ℕ) (id : Id) (rows : List Row) (ts : List Taken) (ss : List Site) → AreRowsOf id rows → AreRowsOf id (rows_in limit id rows ts ss)
rows_named limit id rows [] ss h = h
rows_named limit id rows (t ∷ ts) [] h = h
rows_named limit id rows (t ∷ ts) (s ∷ ss) h = rows_named limit id (join_rows limit id s t.position rows) ts ss (joined_named limit id s t.position rows h)

need_step : (id : Id) (p : ℕ) (us : List Unsettled) (o : Option Need) → AreNamed (λ (u : Unsettled). u.id) id us → AreNamed (λ (u : Unsettled). u.id) id (cons_option (option_map (unsettled_row id p) o) us)
need_step id p us None h = h
need_step id p us (Some n) h = (refl, h)

pub needs_named : (expired : Bool) (id : Id) (ps : List ℕ) (os : List Outcome) → AreNamed (λ (u : Unsettled). u.id) id (needs_in expired id ps os)
needs_named expired id [] os = tt
needs_named expired id (p ∷ ps) [] = tt
needs_named expired id (p ∷ ps) (o ∷ os) = need_step id p (needs_in expired id ps os) (need_in expired o) (needs_named expired id ps os)

pub named_at : {K X : Type 0} (name : X → K) (k : K) (xs : List X) (i : ℕ) (x : X) → AreNamed name k xs → slice_get xs i ≡ Some x → name x ≡ k
named_at name k [] i x h e = cc
named_at name k (y ∷ ys) zero x h e = let same : y ≡ x = cc in ap name (sym same) ∙ h.0
named_at name k (y ∷ ys) (suc i) x h e = named_at name k ys i x h.1 e

both_parts : (a b : Bool) → (a && b) ≡ true → (a ≡ true) × (b ≡ true)
both_parts true b h = (refl, h)
both_parts false b h = cc

-- where all pass, so does the one at a place
pub passes_at : {X : Type 0} (p : X → Bool) (xs : List X) (i : ℕ) (x : X) → list_all p xs ≡ true → slice_get xs i ≡ Some x → p x ≡ true
passes_at p [] i x h e = cc
passes_at p (y ∷ ys) zero x h e = let same : y ≡ x = cc in ap p (sym same) ∙ (both_parts (p y) (list_all p ys) h).0
passes_at p (y ∷ ys) (suc i) x h e = passes_at p ys i x (both_parts (p y) (list_all p ys) h).1 e
