use Rattle.std.proofs.Common.{◌≡◌, ◌<◌, ◌∙◌, ◌∷◌, [], ap, arith, Bool, false, inl, inr, length, List, Some, sym, take, ℕ}
use Rattle.std.proofs.lemmas.Bool.{eq-eqb, ne_eqb}
use Rattle.std.proofs.lemmas.List.{take_all}
use Rattle.std.proofs.lemmas.List.Folds.{list_any-append}
use Rattle.std.proofs.lemmas.Map.Keys.{any_passes_from_place}
use Rattle.std.proofs.lemmas.Option.{slice_get_cases}
use Rattle.std.specs.List.{list_any}
use Rattle.std.specs.Prelude.{◌==◌, ◌||◌, slice_get}
use Rattle.q_core.proofs.CountedLaws.{one_more}
use Rattle.q_model.specs.declared.rows.Row.{Row}
use Rattle.q_model.specs.Values.{Site}
use Rattle.q_core.proofs.joining.has_row_at.Goals as goal

there_at : (rows : List Row) (i : ℕ) → i < length rows → (r : Row) × (slice_get rows i ≡ Some r)
there_at rows i h = elim (slice_get_cases rows i).1 [
  | inl f ↦ (f.0, f.2)
  | inr past ↦ absurd (omega (arith, h, past.0))
]

-- the row at the place is at the transport
pub returns-then-from-at : goal.returns-then-from-at
returns-then-from-at c =
    let rows = c.args.rows.now.rows in
    let at = there_at rows c.loop-i.i (omega (arith, c.len-i-end.ensures, c.loop-i-test.true)) in
    let transport = ap (λ (s : Site). s.transport) (c.site_at.ensures at.0 at.1) in
    let seen = ap (λ (s : Site). s.transport) c.behind-rows.view_is in
    let same : at.0.site.transport ≡ c.args.at = omega (arith, transport, seen, c.from.ensures, c.if-from-at.true) in
    sym (any_passes_from_place (λ (r : Row). r.site.transport == c.args.at) rows c.loop-i.i at.0 at.1 (eq-eqb at.0.site.transport c.args.at same))

pub loop-i-preserved : goal.loop-i-preserved
loop-i-preserved c =
    let rows = c.args.rows.now.rows in
    let p : Row → Bool = λ r. r.site.transport == c.args.at in
    let at = there_at rows c.loop-i.i (omega (arith, c.len-i-end.ensures, c.loop-i-test.true)) in
    let transport = ap (λ (s : Site). s.transport) (c.site_at.ensures at.0 at.1) in
    let seen = ap (λ (s : Site). s.transport) c.behind-rows.view_is in
    let other : p at.0 ≡ false = ne_eqb at.0.site.transport c.args.at (λ e. omega (arith, e, transport, seen, c.from.ensures, c.if-from-at.false)) in
    ap (list_any p) (one_more rows c.loop-i.i at.0 at.1) ∙ list_any-append p (take c.loop-i.i rows) (at.0 ∷ []) ∙ ap (λ b. b || (p at.0 || false)) c.loop-i.invariant ∙ ap (λ b. b || false) other

pub returns : goal.returns
returns c =
    let rows = c.args.rows.now.rows in
    sym (ap (list_any (λ (r : Row). r.site.transport == c.args.at)) (sym (take_all c.loop-i.i rows (omega (arith, c.len-i-end.ensures, c.loop-i-test.false)))) ∙ c.loop-i.invariant)
