-- What callers conclude where just those rows are held back that pass a test.
use Rattle.std.proofs.Common.{◌≡◌, ◌∙◌, ◌∷◌, ◌++◌, [], ap, Bool, cond, false, List, map, option_map, refl, Some, sym, true}
use Rattle.std.specs.Prelude.{filter, find}
use Rattle.q_model.proofs.EachLaws.{each-append, each-map, each-same}
use Rattle.q_model.specs.declared.rows.Row.{Row}
use Rattle.q_model.specs.Sites.{site_eq}
use Rattle.q_model.specs.Values.{Site}
use Rattle.q_peers.specs.Numbered.{first_such, Numbered}
use Rattle.q_held.specs.Held.{AreHeldBy, held_at, HeldRow, numbered, plain, released}

first_step : (p : Row → Bool) (h : HeldRow) (hs : List HeldRow) (t u : Bool) → t ≡ u → option_map (λ (h : HeldRow). h.number) (find (λ h. h.held) hs) ≡ first_such p (plain hs) →
    option_map (λ (h : HeldRow). h.number) (cond t (Some h) (find (λ h. h.held) hs)) ≡ option_map (λ (k : Numbered). k.number) (cond u (Some (numbered h)) (find (λ k. p k.row) (plain hs)))
first_step p h hs true true e rest = refl
first_step p h hs true false e rest = cc
first_step p h hs false true e rest = cc
first_step p h hs false false e rest = rest

-- the first that is held back is the first that passes
pub first_tested : (p : Row → Bool) (hs : List HeldRow) → AreHeldBy p hs → option_map (λ (h : HeldRow). h.number) (find (λ h. h.held) hs) ≡ first_such p (plain hs)
first_tested p [] held = refl
first_tested p (h ∷ hs) held = first_step p h hs h.held (p h.row) held.0 (first_tested p hs held.1)

-- a row comes
pub tested_more : (p : Row → Bool) (hs : List HeldRow) (h : HeldRow) → h.held ≡ p h.row → AreHeldBy p hs → AreHeldBy p (hs ++ h ∷ [])
tested_more p hs h own held = each-append (λ (h : HeldRow). h.held ≡ p h.row) hs (h ∷ []) held (own, tt)

left_step : (p : Row → Bool) (h : HeldRow) (hs : List HeldRow) (t : Bool) → h.held ≡ p h.row → AreHeldBy p hs → AreHeldBy p (cond t (h ∷ hs) hs)
left_step p h hs true own rest = (own, rest)
left_step p h hs false own rest = rest

-- rows go
pub tested_left : (p : Row → Bool) (stays : HeldRow → Bool) (hs : List HeldRow) → AreHeldBy p hs → AreHeldBy p (filter stays hs)
tested_left p stays [] held = tt
tested_left p stays (h ∷ hs) held = left_step p h (filter stays hs) (stays h) held.0 (tested_left p stays hs held.1)

turn_step : (p : Row → Bool) (held : Bool) (h : HeldRow) (t : Bool) → h.held ≡ p h.row → (cond t (record h { held = held }) h).held ≡ cond t held (p h.row)
turn_step p held h true own = refl
turn_step p held h false own = own

same_row : (held : Bool) (h : HeldRow) (t : Bool) → (cond t (record h { held = held }) h).row ≡ h.row
same_row held h true = refl
same_row held h false = refl

-- the rows to a site pass from now on, or don't, and the others pass as before
pub tested_at : (p q : Row → Bool) (site : Site) (held : Bool) (hs : List HeldRow) → ((r : Row) → q r ≡ cond (site_eq r.site site) held (p r)) → AreHeldBy p hs → AreHeldBy q (map (held_at site held) hs)
tested_at p q site held hs is = each-map (λ (h : HeldRow). h.held ≡ p h.row) (λ (h : HeldRow). h.held ≡ q h.row) (held_at site held) hs
    (λ h own. turn_step p held h (site_eq h.row.site site) own ∙ sym (is h.row) ∙ ap q (sym (same_row held h (site_eq h.row.site site))))

-- no row passes from now on
pub tested_none : (q : Row → Bool) (hs : List HeldRow) → ((r : Row) → q r ≡ false) → AreHeldBy q (map released hs)
tested_none q [] is = tt
tested_none q (h ∷ hs) is = (sym (is h.row), tested_none q hs is)

-- another test that they pass alike
pub tested_alike : (p q : Row → Bool) (hs : List HeldRow) → ((r : Row) → p r ≡ q r) → AreHeldBy p hs → AreHeldBy q hs
tested_alike p q hs same = each-same (λ (h : HeldRow). h.held ≡ p h.row) (λ (h : HeldRow). h.held ≡ q h.row) hs (λ h own. own ∙ same h.row)
