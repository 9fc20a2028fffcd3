use Rattle.std.proofs.Common.{◌≡◌, ◌∙◌, ◌+◌, ◌-◌, ◌≤◌, ap, arith, length, slice_get, sym, Some, None}
use Rattle.std.specs.Option.{option_map_or}
use Rattle.q_model.specs.Batches.{pending_from}
use Rattle.q_ledger.proofs.PlaceLaws.{last_here, more_left, none_left, nothing_at, places_behind}
use Rattle.q_ledger.specs.Grouping.{left_behind}
use Rattle.q_ledger.specs.Pending.{is_open, positions_behind}
use Rattle.q_ledger.proofs.batches.load_end.Goals as goal

pub returns-then-left-eq0 : goal.returns-then-left-eq0
returns-then-left-eq0 c =
    let m = c.args.message.now in
    let i = c.loop-position.position in
    let left = c.loop-position.left in
    let none : left_behind m i left ≡ 0 = sym c.left_behind-left.ensures ∙ c.if-left-eq0.true in
    let last : slice_get (positions_behind m (is_open m) i) (left - 1) ≡ Some i = last_here (is_open m) i left m.recipients c.loop-position.invariant.some none in
    let found : slice_get (pending_from m c.args.from) (c.args.free - 1) ≡ Some i =
    ap (λ ps. slice_get ps (c.args.free - 1)) (places_behind (is_open m) c.args.from m.recipients) ∙ c.loop-position.invariant.same ∙ last in
    sym (ap (λ o. option_map_or (λ p. p + 1) o (length m.recipients)) found)

pub loop-position-preserved : goal.loop-position-preserved
loop-position-preserved c =
    let m = c.args.message.now in
    let i = c.loop-position.position in
    let left = c.loop-position.left in
    let some : 1 ≤ left_behind m i left = omega (arith, c.left_behind-left.ensures, c.if-left-eq0.false) in
    record {
      some = omega (arith, c.if-left-eq0.false);
      same = c.loop-position.invariant.same
          ∙ more_left (is_open m) i left m.recipients some
          ∙ ap (λ n. slice_get (positions_behind m (is_open m) (i + 1)) (n - 1)) (sym c.left_behind-left.ensures);
    }

pub returns : goal.returns
returns c =
    let m = c.args.message.now in
    let i = c.loop-position.position in
    let left = c.loop-position.left in
    let past : length m.recipients ≤ i = omega (arith, c.count-position-end.ensures, c.loop-position-test.false) in
    let none : slice_get (pending_from m c.args.from) (c.args.free - 1) ≡ None =
    ap (λ ps. slice_get ps (c.args.free - 1)) (places_behind (is_open m) c.args.from m.recipients) ∙ c.loop-position.invariant.same
    ∙ ap (λ ps. slice_get ps (left - 1)) (none_left (is_open m) i m.recipients past) ∙ nothing_at (left - 1) in
    c.count.ensures ∙ sym (ap (λ o. option_map_or (λ p. p + 1) o (length m.recipients)) none)
