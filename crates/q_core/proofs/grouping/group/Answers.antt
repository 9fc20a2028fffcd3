use Rattle.std.proofs.Common.{◌≡◌, ◌<◌, ◌∙◌, ◌+◌, [], add-one, ap, arith, length, subst, sym, take}
use Rattle.std.specs.Option.{option_copied}
use Rattle.q_core.proofs.GroupLaws.{rows_more}
use Rattle.q_core.specs.Grouping.{AreOpen}
use Rattle.q_core.specs.Loading.{joined_at, rows_in}
use Rattle.q_open_rows.specs.Opened.{Opened}
use Rattle.q_positions.specs.Rows.{Rows}
use Rattle.q_core.proofs.grouping.group.Goals as goal

pub loop-i-init : goal.loop-i-init
loop-i-init c =
    let none = ap (λ (x : Rows). length x.rows) c.clear.ensures in
    let nowhere = ap (λ (x : Opened). length x.items) c.clear-2.ensures in
    record {
      rows = c.clear.ensures;
      few = omega (arith, none);
      kept = rw (ap (λ (x : Rows). x.rows) c.clear.ensures) (λ site place r there space. cc);
      places = omega (arith, nowhere);
      room = ap (λ (x : Opened). x.room) c.clear-2.ensures;
    }

pub join_at-requires-clause-kept : goal.join_at-requires-clause-kept
join_at-requires-clause-kept c =
    let most = ap (λ (x : Rows). x.most) c.loop-i.invariant.rows in
    subst (λ n. AreOpen n c.loop-i.open_rows.items c.loop-i.rows.rows) (sym most) c.loop-i.invariant.kept

pub join_at-requires-clause-room : goal.join_at-requires-clause-room
join_at-requires-clause-room c =
    let room = ap (λ (x : Rows). x.room) c.loop-i.invariant.rows in
    omega (arith, room, c.loop-i.invariant.few, c.len-i-end.ensures, c.loop-i-test.true, c.requires.room)

pub join_at-requires-clause-places : goal.join_at-requires-clause-places
join_at-requires-clause-places c =
    omega (arith, c.loop-i.invariant.room, c.loop-i.invariant.places, c.len-i-end.ensures, c.loop-i-test.true, c.requires.places)

pub loop-i-preserved : goal.loop-i-preserved
loop-i-preserved c =
    let i = c.loop-i.i in
    let ts = c.args.taken.now.items in
    let ss = c.args.sites.now in
    let old = c.args.rows.now in
    let within : i < length ts = omega (arith, c.len-i-end.ensures, c.loop-i-test.true) in
    let most = ap (λ (x : Rows). x.most) c.loop-i.invariant.rows in
    let join : c.join_at.new.rows.rows ≡ rows_in old.most c.args.id [] (take (i + 1) ts) ss =
    ap (λ (x : Rows). x.rows) c.join_at.ensures.rows
    ∙ ap (λ n. joined_at n c.args.id c.loop-i.rows.rows c.position_at.result (option_copied c.site_at.result)) most
    ∙ ap (λ (x : Rows). joined_at old.most c.args.id x.rows c.position_at.result (option_copied c.site_at.result)) c.loop-i.invariant.rows
    ∙ ap (joined_at old.most c.args.id (rows_in old.most c.args.id [] (take i ts) ss) c.position_at.result) c.site_at.ensures
    ∙ sym (rows_more old.most c.args.id i [] ts ss c.position_at.result within c.position_at.ensures)
    ∙ ap (λ n. rows_in old.most c.args.id [] (take n ts) ss) (sym (add-one i)) in
    record {
      rows =
          c.join_at.ensures.rows
          ∙ ap (λ (x : Rows). record x { rows = joined_at c.loop-i.rows.most c.args.id c.loop-i.rows.rows c.position_at.result (option_copied c.site_at.result) }) c.loop-i.invariant.rows
          ∙ ap (λ rs. record old { rows = rs }) (sym (ap (λ (x : Rows). x.rows) c.join_at.ensures.rows) ∙ join);
      few = omega (arith, c.join_at.ensures.more, c.loop-i.invariant.few);
      kept = subst (λ n. AreOpen n c.join_at.new.open_rows.items c.join_at.new.rows.rows) most c.join_at.ensures.kept;
      places = omega (arith, c.join_at.ensures.few, c.loop-i.invariant.places);
      room = c.join_at.ensures.room ∙ c.loop-i.invariant.room;
    }
