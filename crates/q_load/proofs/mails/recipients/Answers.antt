use Rattle.std.proofs.Common.{◌++◌, ◌∙◌, ◌∷◌, [], List, ap, arith, map, sym}
use Rattle.std.proofs.lemmas.List.FromFn.{map-range_with_len_more}
use Rattle.std.specs.List.{range_with_len}
use Rattle.q_load.specs.Mails.{receiver}
use Rattle.q_load.proofs.mails.recipients.Goals as goal
use Rattle.q_model.specs.Values.{Receiver}

pub loop-place-preserved : goal.loop-place-preserved
loop-place-preserved c =
    let one = c.in_ok-recipient.field-0 in
    let place = c.loop-place.place in
    record {
      to = c.in_ok-push.ensures.ok ∙ ap (λ (xs : List Receiver). xs ++ one ∷ []) c.loop-place.invariant.to
          ∙ ap (λ (x : Receiver). map (receiver c.args.number) (range_with_len 0 place) ++ x ∷ []) c.in_ok-recipient.ensures
          ∙ sym (map-range_with_len_more (receiver c.args.number) 0 place place (omega arith));
    }
