use Rattle.std.proofs.Common.{◌∙◌, ◌<◌, ap, length, subst, sym}
use Rattle.std.specs.Prelude.{IfSome}
use Rattle.q_sorted.specs.Tickets.{Tickets}
use Rattle.q_heads.specs.Lanes.{stands}
use Rattle.q_heads.specs.Marks.{with_mark}
use Rattle.q_heads.proofs.Renewal.{kept, renewed, room_for, room_left}
use Rattle.q_heads.proofs.marks.renew.Goals as goal

pub returns-then-are_same-clause-stand : goal.returns-then-are_same-clause-stand
returns-then-are_same-clause-stand c = λ x. kept c.args.from c.args.to x c.args.marks.now.items (sym c.are_same.ensures ∙ c.if-are_same.true) c.requires.there

pub put_in-requires : goal.put_in-requires
put_in-requires c =
    let left = room_left c.args.from c.args.marks.now.items c.args.marks.now.room c.requires.there c.requires.room c.stand_sorted.ensures.within in
    subst (λ (s : Tickets). IfSome c.args.to (λ _. length s.items < s.room)) (sym c.take_out.ensures) (room_for c.args.to _ _ left)

pub returns-clause-stand : goal.returns-clause-stand
returns-clause-stand c = λ x.
    ap (λ (s : Tickets). stands x s.items) (c.put_in.ensures ∙ ap (λ (s : Tickets). record s { items = with_mark c.args.to s.items }) c.take_out.ensures) ∙ renewed c.args.from c.args.to x c.args.marks.now.items
