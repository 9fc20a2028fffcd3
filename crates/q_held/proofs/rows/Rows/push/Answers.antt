use Rattle.std.proofs.Common.{◌∙◌, ◌<◌, ◌∷◌, ◌++◌, [], ap, arith, length, List, set, sym}
use Rattle.std.proofs.lemmas.List.{map-append}
use Rattle.std.specs.Option.{is_some}
use Rattle.std.specs.Prelude.{find}
use Rattle.q_chains.specs.Lists.{is_in}
use Rattle.q_held.proofs.Changes.{view_more}
use Rattle.q_held.proofs.Views.{in_numbers, plain_view}
use Rattle.q_held.specs.Held.{Held, HeldRow, plain, rows_of}
use Rattle.q_held.specs.Sound.{with_marks}
use Rattle.q_marked.specs.Marks.{Marks}
use Rattle.q_peers.specs.Numbered.{has_number, Items}
use Rattle.q_positions.specs.Rows.{row_shown}
use Rattle.q_held.proofs.rows.Rows.push.Goals as goal

pub push-requires-clause-free : goal.push-requires-clause-free
push-requires-clause-free c =
    let a = c.self.inside in
    let n = c.push-number.result in
    ap (is_in n) c.self.invariant.order ∙ in_numbers n a.waiting.items ∙ ap is_some c.push-number.ensures.fresh

pub returns-clause-items : goal.returns-clause-items
returns-clause-items c =
    let a = c.self.inside in
    let n = c.push-number.result in
    let held = c.args.held in
    let w = c.push-number.new.self in
    let here : n < length a.marks.marks = omega (arith, c.push-number.ensures.below, c.self.invariant.numbers, c.stand_marked.ensures.each) in
    ap (λ (m : Marks). record { items = with_marks m.marks w.items; room = w.room; most = w.most }) c.push.ensures
    ∙ ap (λ (v : Items). record { items = with_marks (set a.marks.marks n held) v.items; room = v.room; most = v.most }) c.push-number.ensures.items
    ∙ ap (λ (hs : List HeldRow). record { items = hs; room = a.waiting.room; most = a.waiting.most }) (view_more n held a.marks.marks a.waiting.items (row_shown c.args.row) here c.push-number.ensures.fresh)
    ∙ ap (λ (v : Held). record v { items = v.items ++ record { number = n; row = row_shown c.args.row; held = held } ∷ [] }) c.self.view_is

pub returns-clause-rows : goal.returns-clause-rows
returns-clause-rows c =
    let h : HeldRow = record { number = c.push-number.result; row = row_shown c.args.row; held = c.args.held } in
    ap (λ (v : Held). rows_of v.items) (returns-clause-items c) ∙ map-append (λ (h : HeldRow). h.row) c.args.self.now.items (h ∷ [])

pub returns-clause-fresh : goal.returns-clause-fresh
returns-clause-fresh c =
    let a = c.self.inside in
    let n = c.push-number.result in
    sym (ap (λ (v : Held). find (has_number n) (plain v.items)) c.self.view_is)
    ∙ ap (find (has_number n)) (plain_view a.marks.marks a.waiting.items)
    ∙ c.push-number.ensures.fresh
