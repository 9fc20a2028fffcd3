use Rattle.std.proofs.Common.{◌≡◌, ◌∙◌, List, ap, arith, length, rules, subst, sym}
use Rattle.std.specs.List.{list_all}
use Rattle.q_ledger.proofs.LoadedLaws.{all_own, load_changes, load_is_of, loaded_own}
use Rattle.q_ledger.specs.LinesLeft.{with_lines_left}
use Rattle.q_ledger.specs.Loading.{rows_of_load, rows_read}
use Rattle.q_ledger.specs.Taking.{IsChanged}
use Rattle.q_ledger.specs.Worlds.{Given, world_of}
use Rattle.q_model.specs.Ids.{id_eq}
use Rattle.q_model.specs.Settings.{Settings}
use Rattle.q_model.specs.declared.entry.Entry.TheVariants as entries
use Rattle.q_model.specs.declared.rows.Row.{Row}
use Rattle.q_ledger.proofs.ledger.Ledger.load.Goals as goal

pub read_rows-requires : goal.read_rows-requires
read_rows-requires c =
    let w = world_of c.args.world.now in
    let s = c.args.self.now in
    let id = c.args.id in
    record {
      own = ap (list_all (λ (r : Row). id_eq r.id id)) c.in_ok-rows.ensures
          ∙ all_own id (rows_of_load w s id c.args.from c.args.to) (loaded_own w s id c.args.from c.args.to);
    }

pub returns-clause-changed : goal.returns-clause-changed
returns-clause-changed c = λ k held beside may.
    let w = world_of c.args.world.now in
    let s = c.args.self.now in
    let id = c.args.id in
    let to = c.args.to in
    let quiet = (load_is_of w s.ledger id c.args.from to may).quiet in
    let whole : c.len.result ≡ length c.in_ok-rows.rows.items = search rules in
    let count : c.len.result ≡ length (rows_of_load w s id c.args.from to) = whole ∙ ap length c.in_ok-rows.ensures in
    let most = c.total_rows.ensures in
    let settings : c.world.inside.params ≡ w.settings = ap (λ (g : Given). g.settings) c.world.view_is in
    let read =
    c.in_ok-read_rows.ensures.read quiet
    ∙ ap (λ (p : Settings). rows_read p id to c.in_ok-rows.rows.items s) settings
    ∙ ap (λ (rows : List Row). rows_read w.settings id to rows s) c.in_ok-rows.ensures in
    subst (IsChanged w s.ledger (entries.Load id c.args.from to)) (sym (c.tidy_lines.ensures ∙ ap (with_lines_left id) read))
    (load_changes w k s id c.args.from to held beside may (omega (arith, count, most)))
