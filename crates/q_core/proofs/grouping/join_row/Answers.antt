use Rattle.std.proofs.Common.{◌≡◌, ◌∙◌, ap, arith, length, List, position, set, Some, None, subst, sym, ℕ}
use Rattle.std.specs.Option.{option_map_or}
use Rattle.q_core.proofs.GroupLaws.{join_None, join_Some}
use Rattle.q_core.proofs.OpenLaws.{found_space, found_within, open_begun, open_joined, placed_few}
use Rattle.q_core.specs.Grouping.{AreOpen}
use Rattle.q_core.specs.Loading.{has_space, HasJoined, with_position}
use Rattle.q_model.specs.declared.rows.Row.{Row}
use Rattle.q_open_rows.specs.Opened.{Opened}
use Rattle.q_positions.specs.Rows.{joined_at, Rows}
use Rattle.q_core.proofs.grouping.join_row.Goals as goal

-- the row that is joined
joined : (place position : ℕ) (rows : List Row) → HasJoined place position rows (joined_at place position rows)
joined place position rows r there = ap (λ o. option_map_or (λ (x : Row). set rows place (with_position position x)) o rows) there

pub row_for-requires : goal.row_for-requires
row_for-requires c = subst (λ n. AreOpen n c.args.open_rows.now.items c.args.rows.now.rows) (sym c.most.ensures) c.requires.kept

pub add-requires-clause-known : goal.add-requires-clause-known
add-requires-clause-known c = found_within (has_space c.most.result c.args.site.now) c.args.rows.now.rows c.in-Some.place (sym c.row_for.ensures ∙ c.in-Some.is)

pub add-requires-clause-room : goal.add-requires-clause-room
add-requires-clause-room c =
    found_space c.args.rows.now.most c.args.site.now c.args.rows.now.rows c.in-Some.place
    (ap (λ n. position (has_space n c.args.site.now) c.args.rows.now.rows) (sym c.most.ensures) ∙ sym c.row_for.ensures ∙ c.in-Some.is)

pub returns-in-Some-clause-rows : goal.returns-in-Some-clause-rows
returns-in-Some-clause-rows c =
    let xs = c.args.rows.now.rows in
    let most = c.args.rows.now.most in
    let at : position (has_space most c.args.site.now) xs ≡ Some c.in-Some.place = ap (λ n. position (has_space n c.args.site.now) xs) (sym c.most.ensures) ∙ sym c.row_for.ensures ∙ c.in-Some.is in
    c.add.ensures ∙ ap (λ rs. record c.args.rows.now { rows = rs }) (join_Some most c.args.id c.args.site.now c.args.position xs (joined_at c.in-Some.place c.args.position xs) c.in-Some.place at (joined c.in-Some.place c.args.position xs))

pub returns-in-Some-clause-kept : goal.returns-in-Some-clause-kept
returns-in-Some-clause-kept c =
    let xs = c.args.rows.now.rows in
    let most = c.args.rows.now.most in
    let at : position (has_space most c.args.site.now) xs ≡ Some c.in-Some.place = ap (λ n. position (has_space n c.args.site.now) xs) (sym c.most.ensures) ∙ sym c.row_for.ensures ∙ c.in-Some.is in
    subst (AreOpen most c.args.open_rows.now.items) (sym (ap (λ (x : Rows). x.rows) c.add.ensures))
    (open_joined most c.args.position c.in-Some.place (has_space most c.args.site.now) xs (joined_at c.in-Some.place c.args.position xs) c.args.open_rows.now.items at (joined c.in-Some.place c.args.position xs) c.requires.kept)

pub returns-in-None-clause-rows : goal.returns-in-None-clause-rows
returns-in-None-clause-rows c =
    let xs = c.args.rows.now.rows in
    let most = c.args.rows.now.most in
    let none : position (has_space most c.args.site.now) xs ≡ None = ap (λ n. position (has_space n c.args.site.now) xs) (sym c.most.ensures) ∙ sym c.row_for.ensures ∙ c.in-None.is in
    c.begin_row.ensures.rows ∙ ap (λ rs. record c.args.rows.now { rows = rs }) (join_None most c.args.id c.args.site.now c.args.position xs none)

pub returns-in-None-clause-kept : goal.returns-in-None-clause-kept
returns-in-None-clause-kept c =
    let xs = c.args.rows.now.rows in
    let most = c.args.rows.now.most in
    let none : position (has_space most c.args.site.now) xs ≡ None = ap (λ n. position (has_space n c.args.site.now) xs) (sym c.most.ensures) ∙ sym c.row_for.ensures ∙ c.in-None.is in
    rw (ap (λ (x : Rows). x.rows) c.begin_row.ensures.rows, ap (λ (x : Opened). x.items) c.begin_row.ensures.places)
    (open_begun most c.args.id c.args.site.now c.args.position xs c.args.open_rows.now.items (sym none) c.requires.kept)

pub returns-in-None-clause-room : goal.returns-in-None-clause-room
returns-in-None-clause-room c = ap (λ (x : Opened). x.room) c.begin_row.ensures.places

pub returns-in-None-clause-few : goal.returns-in-None-clause-few
returns-in-None-clause-few c =
    let more = ap (λ (x : Opened). length x.items) c.begin_row.ensures.places in
    let few = placed_few c.args.site.now (length c.args.rows.now.rows) c.args.open_rows.now.items in
    omega (arith, more, few)
