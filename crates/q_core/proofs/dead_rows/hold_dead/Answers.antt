use Rattle.std.proofs.Common.{◌≡◌, ◌∙◌, ap, arith, length, map, subst, sym}
use Rattle.std.specs.Prelude.{filter}
use Rattle.q_core.proofs.DeadLaws.{held_none}
use Rattle.q_core.specs.Ties.{goes_to_dead}
use Rattle.q_dest.specs.Dests.{is_dead_waiting}
use Rattle.q_held.proofs.Plain.{rows_released}
use Rattle.q_held.specs.Held.{AreHeldBy, Held, released, rows_of}
use Rattle.q_core.proofs.dead_rows.hold_dead.Goals as goal

pub returns-then-dead_waiting-eq0-clause-rows : goal.returns-then-dead_waiting-eq0-clause-rows
returns-then-dead_waiting-eq0-clause-rows c = ap (λ (v : Held). rows_of v.items) c.release_all.ensures ∙ rows_released c.args.waiting.now.items

pub returns-then-dead_waiting-eq0-clause-held : goal.returns-then-dead_waiting-eq0-clause-held
returns-then-dead_waiting-eq0-clause-held c =
    let ds = c.args.sites.now.items in
    let hs = c.args.waiting.now.items in
    let none : length (filter is_dead_waiting ds) ≡ 0 = omega (arith, c.dead_waiting.ensures, c.if-dead_waiting-eq0.true) in
    let items : c.release_all.new.self.items ≡ map released hs = ap (λ (v : Held). v.items) c.release_all.ensures in
    subst (AreHeldBy (goes_to_dead ds)) (sym items) (held_none ds hs c.requires none)

pub returns-then-dead_waiting-eq0-clause-room : goal.returns-then-dead_waiting-eq0-clause-room
returns-then-dead_waiting-eq0-clause-room c = ap (λ (v : Held). v.room) c.release_all.ensures

pub returns-then-dead_waiting-eq0-clause-most : goal.returns-then-dead_waiting-eq0-clause-most
returns-then-dead_waiting-eq0-clause-most c = ap (λ (v : Held). v.most) c.release_all.ensures
