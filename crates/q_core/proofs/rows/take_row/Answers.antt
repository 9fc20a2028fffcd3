use Rattle.std.proofs.Common.{◌∙◌, ap, subst, sym}
use Rattle.std.specs.Prelude.{find, not}
use Rattle.q_core.proofs.RowWalkLaws.{dropped_none}
use Rattle.q_core.specs.Sending.{is_for}
use Rattle.q_held.proofs.Plain.{rows_plain}
use Rattle.q_held.proofs.Tested.{tested_left}
use Rattle.q_held.specs.Held.{AreHeldBy, Held, numbered, plain, rows_of}
use Rattle.q_peers.proofs.Peers.{none_found}
use Rattle.q_peers.specs.Numbered.{has_number}
use Rattle.q_core.proofs.rows.take_row.Goals as goal

pub returns-in-Some-clause-held : goal.returns-in-Some-clause-held
returns-in-Some-clause-held c = λ p held.
    subst (AreHeldBy p) (sym (ap (λ (v : Held). v.items) c.remove.ensures.items)) (tested_left p (λ h. not (has_number c.in-Some.number (numbered h))) c.args.waiting.now.items held)

pub returns-in_default-clause-rows : goal.returns-in_default-clause-rows
returns-in_default-clause-rows c =
    let hs = c.args.waiting.now.items in
    let p = is_for c.args.id c.args.site.now in
    sym (dropped_none p (rows_of hs) (ap (find p) (sym (rows_plain hs)) ∙ none_found p (plain hs) (sym c.first_for.ensures ∙ c.in_default.is)))

pub returns-in-Some-clause-room : goal.returns-in-Some-clause-room
returns-in-Some-clause-room c = ap (λ (v : Held). v.room) c.remove.ensures.items

pub returns-in-Some-clause-most : goal.returns-in-Some-clause-most
returns-in-Some-clause-most c = ap (λ (v : Held). v.most) c.remove.ensures.items
