use Rattle.std.proofs.Common.{◌≡◌, ◌∙◌, ap, arith, cond, map, subst, sym}
use Rattle.std.proofs.lemmas.Grind.{common_steps}
use Rattle.q_held.proofs.Plain.{rows_held}
use Rattle.q_held.proofs.Tested.{tested_alike, tested_at}
use Rattle.q_held.specs.Held.{AreHeldBy, Held, held_at, rows_of}
use Rattle.q_model.specs.Sites.{site_eq}
use Rattle.q_core.proofs.dead_rows.hold_at.Goals as goal

pub returns-then-is_dead-was_dead-clause-rows : goal.returns-then-is_dead-was_dead-clause-rows
returns-then-is_dead-was_dead-clause-rows c = ap (λ (v : Held). rows_of v.items) c.hold.ensures ∙ rows_held c.args.site.now c.args.is_dead c.args.waiting.now.items

pub returns-then-is_dead-was_dead-clause-held : goal.returns-then-is_dead-was_dead-clause-held
returns-then-is_dead-was_dead-clause-held c = λ p q before after held.
    let hs = c.args.waiting.now.items in
    let items : c.hold.new.self.items ≡ map (held_at c.args.site.now c.args.is_dead) hs = ap (λ (v : Held). v.items) c.hold.ensures in
    subst (AreHeldBy q) (sym items) (tested_at p q c.args.site.now c.args.is_dead hs after held)

pub returns-else-is_dead-was_dead-clause-held : goal.returns-else-is_dead-was_dead-clause-held
returns-else-is_dead-was_dead-clause-held c = λ p q before after held.
    let same : c.args.is_dead ≡ c.args.was_dead = grind (arith, common_steps, c.if-is_dead-was_dead.false) in
    tested_alike p q c.args.waiting.now.items (λ r. before r ∙ ap (λ b. cond (site_eq r.site c.args.site.now) b (p r)) (sym same) ∙ sym (after r)) held

pub returns-then-is_dead-was_dead-clause-room : goal.returns-then-is_dead-was_dead-clause-room
returns-then-is_dead-was_dead-clause-room c = ap (λ (v : Held). v.room) c.hold.ensures

pub returns-then-is_dead-was_dead-clause-most : goal.returns-then-is_dead-was_dead-clause-most
returns-then-is_dead-was_dead-clause-most c = ap (λ (v : Held). v.most) c.hold.ensures
