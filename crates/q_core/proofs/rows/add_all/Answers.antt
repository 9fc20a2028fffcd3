use Rattle.std.proofs.Common.{◌≡◌, ◌<◌, ◌≤◌, ◌∙◌, ◌++◌, ◌∷◌, [], ap, arith, inl, inr, length, List, None, option_map, Some, subst, sym, take, ℕ}
use Rattle.std.proofs.lemmas.List.{append_assoc, length-append, length-map, take_all}
use Rattle.std.proofs.lemmas.Option.{slice_get_cases}
use Rattle.std.specs.Prelude.{slice_get}
use Rattle.q_core.proofs.CountedLaws.{one_more}
use Rattle.q_core.proofs.RowPlaces.{holds_there}
use Rattle.q_core.specs.Ties.{goes_to_dead}
use Rattle.q_held.proofs.Tested.{tested_more}
use Rattle.q_held.specs.Held.{AreHeldBy, Held, HeldRow, rows_of}
use Rattle.q_model.specs.declared.rows.Row.{Row}
use Rattle.q_positions.specs.Rows.{row_shown}
use Rattle.q_core.proofs.rows.add_all.Goals as goal

not_past : (rows : List Row) (i : ℕ) → i < length rows → slice_get rows i ≡ None → ⊥
not_past rows i less none = elim (slice_get_cases rows i).1 [
  | inl f ↦ let bad : None ≡ Some f.0 = sym none ∙ f.2 in cc
  | inr past ↦ absurd (omega (arith, less, past.0))
]

-- the row at a place is there
pub returns-in_default-clause-rows : goal.returns-in_default-clause-rows
returns-in_default-clause-rows c = absurd (not_past c.args.rows.now.rows c.loop-place.place (omega (arith, c.len-place-end.ensures, c.loop-place-test.true)) (sym c.get.ensures ∙ ap (option_map row_shown) c.in_default.is))

pub push-requires-clause-room : goal.push-requires-clause-room
push-requires-clause-room c =
    let same = length-map c.args.waiting.now.items (λ (h : HeldRow). h.row) in
    omega (arith, same, c.loop-place.invariant.1, c.loop-place.invariant.3, c.len-place-end.ensures, c.loop-place-test.true, c.requires.room)

pub push-requires-clause-positions : goal.push-requires-clause-positions
push-requires-clause-positions c =
    let there : slice_get c.args.rows.now.rows c.loop-place.place ≡ Some (row_shown c.in-Some.row) = sym c.get.ensures ∙ ap (option_map row_shown) c.in-Some.is in
    let short = holds_there (λ (r : Row). length r.positions ≤ c.args.rows.now.most) c.args.rows.now.rows c.loop-place.place (row_shown c.in-Some.row) there c.stand_short.ensures in
    omega (arith, short, c.loop-place.invariant.2, c.requires.short)

pub loop-place-preserved : goal.loop-place-preserved
loop-place-preserved c =
    let p = goes_to_dead c.args.sites.now.items in
    let l = c.loop-place in
    let rows = c.args.rows.now.rows in
    let row = row_shown c.in-Some.row in
    let there : slice_get rows l.place ≡ Some row = sym c.get.ensures ∙ ap (option_map row_shown) c.in-Some.is in
    let more = ap (λ (v : Held). length v.items) c.push.ensures.items ∙ length-append l.waiting.items _ in (
      c.push.ensures.rows
          ∙ ap (λ rs. rs ++ row ∷ []) l.invariant.0
          ∙ append_assoc (rows_of c.args.waiting.now.items) (take l.place rows) (row ∷ [])
          ∙ ap (λ rs. rows_of c.args.waiting.now.items ++ rs) (sym (one_more rows l.place row there)),
      ap (λ (v : Held). v.room) c.push.ensures.items ∙ l.invariant.1,
      ap (λ (v : Held). v.most) c.push.ensures.items ∙ l.invariant.2,
      omega (arith, more, l.invariant.3),
      λ held. subst (AreHeldBy p) (sym (ap (λ (v : Held). v.items) c.push.ensures.items)) (tested_more p l.waiting.items _ c.is_dead-is_dead.ensures (l.invariant.4 held)),
    )

pub returns-clause-rows : goal.returns-clause-rows
returns-clause-rows c =
    c.loop-place.invariant.0
    ∙ ap (λ rs. rows_of c.args.waiting.now.items ++ rs) (take_all c.loop-place.place c.args.rows.now.rows (omega (arith, c.len-place-end.ensures, c.loop-place-test.false)))
