use Rattle.std.proofs.Common.{◌≡◌, ◌∙◌, Option, Some, ap, eq-eqb, sym}
use Rattle.std.specs.Option.{option_map}
use Rattle.std.proofs.lemmas.Bool.{ne_eqb}
use Rattle.q_model.specs.Values.{Taken}
use Rattle.q_files.proofs.PlaceReads.{found-now, none-yet}
use Rattle.q_files.proofs.places.offset_in.Goals as goal

pub returns-then-taken-position : goal.returns-then-taken-position
returns-then-taken-position c =
    let items = c.args.batch.now.items in
    let taken = c.get-taken.result in
    let at : taken.position ≡ c.args.position = ap (λ (t : Taken). t.position) (sym c.taken.view_is) ∙ c.if-taken-position.true in
    ap (λ (t : Taken). Some t.mark_at) c.taken.view_is
    ∙ sym (ap (λ (o : Option Taken). option_map (λ (t : Taken). t.mark_at) o) (found-now c.args.position items c.loop-i.i taken c.loop-i.invariant c.get-taken.ensures (eq-eqb taken.position c.args.position at)))

pub loop-i-preserved : goal.loop-i-preserved
loop-i-preserved c =
    let taken = c.get-taken.result in
    none-yet c.args.position c.args.batch.now.items c.loop-i.i taken c.loop-i.invariant c.get-taken.ensures
    (ne_eqb taken.position c.args.position (λ e. c.if-taken-position.false (ap (λ (t : Taken). t.position) c.taken.view_is ∙ e)))
