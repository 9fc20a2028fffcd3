use Rattle.std.proofs.Common.{◌≡◌, ◌++◌, ◌∙◌, ap, length, ltb, Option, refl, subst, sym, true}
use Rattle.std.specs.Borrow.{Bor}
use Rattle.std.specs.Option.{IfSome}
use Rattle.std.specs.Prelude.{get_or, is_some}
use Rattle.std.proofs.lemmas.Bool.{ltb-true}
use Rattle.std.proofs.lemmas.Option.{slice_get_read}
use Rattle.q_model.specs.Values.{Receiver}
use Rattle.q_show.specs.declared.states.State.{State}
use Rattle.q_show.specs.Shown.{state_line}
use Rattle.q_show.proofs.LineLaws.{line_more}
use Rattle.q_show.proofs.lines.add_recipients.Goals as goal

pub loop-position-preserved : goal.loop-position-preserved
loop-position-preserved c =
    let loop = c.loop-position in
    let names = c.args.names.now in
    let name = c.in-Some.name in
    let mid = loop.text.items in
    let within : ltb loop.position (length names) ≡ true = sym c.get.ensures.lookup.0 ∙ ap is_some c.in-Some.is in
    let here = subst (λ (o : Option (Bor Receiver)). IfSome o (λ x. x.now ≡ get_or names loop.position x.now)) c.in-Some.is c.get.ensures.lookup.1 in
    let there = slice_get_read names (length names) loop.position name.now refl (ltb-true loop.position (length names) within) here in
    record {
      text = line_more names c.args.states.now loop.position name.now c.args.text.now.items loop.text.items c.add_line.new.text.items
          there loop.invariant.text
          (c.in_ok-add_line.ensures ∙ ap (λ (r : Receiver). mid ++ state_line r.address c.state_of.result) c.name.view_is
          ∙ ap (λ (s : State). mid ++ state_line name.now.address s) c.state_of.ensures);
    }
