use Rattle.std.proofs.Common.{◌∙◌, ap, List, Option, option_map, Some, sym, ℕ}
use Rattle.std.specs.Option.{option_copied}
use Rattle.std.specs.Prelude.{find}
use Rattle.q_flights.specs.declared.delivery_head.DeliveryHead.{DeliveryHead}
use Rattle.q_flights.specs.Heads.{delivery_of, filled}
use Rattle.q_flights.specs.Flying.{delivery_shown, Flying, has_number}
use Rattle.q_flights.proofs.Filled.{delivery_at, filled_apart, filled_first, filled_item}
use Rattle.q_flights.proofs.Found.{found_at, found_nowhere}
use Rattle.q_model.specs.declared.rows.Delivery.{Delivery}
use Rattle.q_flights.proofs.flights.Flights.get.Goals as goal

pub returns-in_err-at : goal.returns-in_err-at
returns-in_err-at c =
    let a = c.self.inside in
    let n = c.args.number in
    let ks = a.heads.items in
    ap (option_map delivery_shown) c.from_residual.ensures
    ∙ sym (found_nowhere n (filled a.positions.lists ks) (filled_first a.positions.lists n ks ∙ sym c.find.ensures.is ∙ c.in_err-at.was))
    ∙ ap (λ (v : Flying). find (has_number n) v.items) c.self.view_is

pub returns-in_err-head : goal.returns-in_err-head
returns-in_err-head c =
    let a = c.self.inside in
    let n = c.args.number in
    let at = c.in_ok-at.at in
    let ks = a.heads.items in
    let lists = a.positions.lists in
    ap (option_map delivery_shown) c.from_residual-in_err-head.ensures
    ∙ ap (delivery_at lists at) (sym (ap option_copied c.in_err-head.was) ∙ c.get.ensures)
    ∙ sym (filled_item lists at ks)
    ∙ found_at n at (filled lists ks) (filled_apart lists ks c.find.ensures.apart) (filled_first lists n ks ∙ sym c.find.ensures.is ∙ c.in_ok-at.was)
    ∙ ap (λ (v : Flying). find (has_number n) v.items) c.self.view_is

pub returns : goal.returns
returns c =
    let a = c.self.inside in
    let n = c.args.number in
    let at = c.in_ok-at.at in
    let ks = a.heads.items in
    let lists = a.positions.lists in
    ap (λ (f : Delivery). Some f) (c.with.ensures ∙ ap (λ (xs : List ℕ). delivery_of c.in_ok-head.head.now xs) c.get-2.ensures)
    ∙ ap (delivery_at lists at) (sym (ap option_copied c.in_ok-head.was) ∙ c.get.ensures)
    ∙ sym (filled_item lists at ks)
    ∙ found_at n at (filled lists ks) (filled_apart lists ks c.find.ensures.apart) (filled_first lists n ks ∙ sym c.find.ensures.is ∙ c.in_ok-at.was)
    ∙ ap (λ (v : Flying). find (has_number n) v.items) c.self.view_is
