use Rattle.std.proofs.Common.{◌≡◌, ◌∙◌, ap, arith, length, map, refl, Some, subst, sym}
use Rattle.std.specs.Prelude.{option_map}
use Rattle.q_positions.specs.Rows.{row_shown}
use Rattle.q_core.proofs.DeadRows.{begins, ends, goes_on, Passed, stands}
use Rattle.q_core.proofs.RowWalkLaws.{step_along}
use Rattle.q_core.specs.Ties.{goes_to_dead}
use Rattle.q_held.proofs.Plain.{plain_held, rows_stay}
use Rattle.q_held.specs.Held.{Held, held_at, plain}
use Rattle.q_peers.proofs.Rests.{rest}
use Rattle.q_peers.specs.Numbered.{any_row, next_such, row_at}
use Rattle.q_core.proofs.dead_rows.hold_each.Goals as goal

pub loop-at-init : goal.loop-at-init
loop-at-init c = record {
  rows = refl;
  passed = begins (goes_to_dead c.args.sites.now.items) c.args.waiting.now.items c.first-at.result c.first-at.ensures;
  room = refl;
  most = refl;
}

pub returns-in_default-get-clause-held : goal.returns-in_default-get-clause-held
returns-in_default-get-clause-held c =
    let l = c.loop-at in
    absurd (stands (goes_to_dead c.args.sites.now.items) l.waiting.items l.at c.in-Some.number c.stand_apart.ensures.apart l.invariant.passed c.in-Some.is (sym (ap (option_map row_shown) (sym c.in_default-get.is) ∙ c.get.ensures)))

pub returns-in_default-get-clause-rows : goal.returns-in_default-get-clause-rows
returns-in_default-get-clause-rows c = rows_stay c.args.waiting.now.items c.loop-at.waiting.items c.loop-at.invariant.rows

pub loop-at-smaller : goal.loop-at-smaller
loop-at-smaller c =
    let l = c.loop-at in
    let hs = l.waiting.items in
    let n = c.in-Some.number in
    let row = (row_shown c.in-Some-get.row) in
    let there : row_at n (plain hs) ≡ Some row = sym (ap (option_map row_shown) (sym c.in-Some-get.is) ∙ c.get.ensures) in
    let step = step_along (plain hs) l.at n row c.stand_apart.ensures.apart c.in-Some.is there in
    let same : plain c.hold.new.self.items ≡ plain hs = ap (λ (v : Held). plain v.items) c.hold.ensures ∙ plain_held row.site c.is_dead.result hs in
    let all = ap length step in
    let next = ap (λ o. length (rest any_row o (plain c.hold.new.self.items))) c.next-at.ensures ∙ ap (λ ks. length (rest any_row (next_such (λ r. any_row) n ks) ks)) same in
    omega (arith, all, next)

pub loop-at-preserved : goal.loop-at-preserved
loop-at-preserved c =
    let l = c.loop-at in
    let ds = c.args.sites.now.items in
    let hs = l.waiting.items in
    let n = c.in-Some.number in
    let row = (row_shown c.in-Some-get.row) in
    let held = c.is_dead.result in
    let there : row_at n (plain hs) ≡ Some row = sym (ap (option_map row_shown) (sym c.in-Some-get.is) ∙ c.get.ensures) in
    let items : c.hold.new.self.items ≡ map (held_at row.site held) hs = ap (λ (v : Held). v.items) c.hold.ensures in
    record {
      rows = ap plain items ∙ plain_held row.site held hs ∙ l.invariant.rows;
      passed = subst (λ xs. Passed (goes_to_dead ds) xs c.next-at.result) (sym items)
          (goes_on ds hs l.at n row row.site held c.stand_apart.ensures.apart l.invariant.passed c.in-Some.is there refl c.is_dead.ensures c.next-at.result
          (c.next-at.ensures ∙ ap (λ xs. next_such (λ r. any_row) n (plain xs)) items));
      room = ap (λ (v : Held). v.room) c.hold.ensures ∙ l.invariant.room;
      most = ap (λ (v : Held). v.most) c.hold.ensures ∙ l.invariant.most;
    }

pub returns-clause-rows : goal.returns-clause-rows
returns-clause-rows c = rows_stay c.args.waiting.now.items c.loop-at.waiting.items c.loop-at.invariant.rows

pub returns-clause-held : goal.returns-clause-held
returns-clause-held c = ends (goes_to_dead c.args.sites.now.items) c.loop-at.waiting.items c.loop-at.at c.loop-at.invariant.passed c.in_default.is
