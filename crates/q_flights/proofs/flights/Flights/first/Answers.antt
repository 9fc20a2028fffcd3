use Rattle.std.proofs.Common.{◌∙◌, ap, List, Option, option_map, Some, sym, ℕ}
use Rattle.std.specs.Option.{option_copied}
use Rattle.std.specs.Prelude.{option_and_then}
use Rattle.q_flights.proofs.Filled.{delivery_at, filled_item, filled_number}
use Rattle.q_flights.proofs.Rising.{first_least}
use Rattle.q_flights.specs.Heads.{deliveries_of, delivery_of, filled}
use Rattle.q_flights.specs.Flying.{delivery_shown, Flying, started_earlier}
use Rattle.q_keyed.proofs.Values.{first_held}
use Rattle.q_keyed.specs.Numbered.{item_at}
use Rattle.q_model.specs.Lists.{least}
use Rattle.q_model.specs.declared.rows.Delivery.{Delivery}
use Rattle.q_flights.proofs.flights.Flights.first.Goals as goal

pub returns-in_err-at : goal.returns-in_err-at
returns-in_err-at c =
    let a = c.self.inside in
    let ks = a.heads.items in
    let lists = a.positions.lists in
    ap (option_map delivery_shown) c.from_residual.ensures
    ∙ ap (option_and_then (λ m. item_at m (filled lists ks))) (sym c.in_err-at.was ∙ c.first.ensures ∙ sym (filled_number lists ks))
    ∙ first_held (filled lists ks)
    ∙ first_least (deliveries_of lists ks) c.self.invariant.sound.rise
    ∙ ap (λ (v : Flying). least started_earlier v.items) c.self.view_is

pub returns-in_err-head : goal.returns-in_err-head
returns-in_err-head c =
    let a = c.self.inside in
    let at = c.in_ok-at.at in
    let ks = a.heads.items in
    let lists = a.positions.lists in
    ap (option_map delivery_shown) c.from_residual-in_err-head.ensures
    ∙ ap (delivery_at lists at) (sym (ap option_copied c.in_err-head.was) ∙ c.get.ensures)
    ∙ sym (filled_item lists at ks)
    ∙ ap (option_and_then (λ m. item_at m (filled lists ks))) (sym c.in_ok-at.was ∙ c.first.ensures ∙ sym (filled_number lists ks))
    ∙ first_held (filled lists ks)
    ∙ first_least (deliveries_of lists ks) c.self.invariant.sound.rise
    ∙ ap (λ (v : Flying). least started_earlier v.items) c.self.view_is

pub returns : goal.returns
returns c =
    let a = c.self.inside in
    let at = c.in_ok-at.at in
    let ks = a.heads.items in
    let lists = a.positions.lists in
    ap (λ (f : Delivery). Some f) (c.with.ensures ∙ ap (λ (xs : List ℕ). delivery_of c.in_ok-head.head.now xs) c.get-2.ensures)
    ∙ ap (delivery_at lists at) (sym (ap option_copied c.in_ok-head.was) ∙ c.get.ensures)
    ∙ sym (filled_item lists at ks)
    ∙ ap (option_and_then (λ m. item_at m (filled lists ks))) (sym c.in_ok-at.was ∙ c.first.ensures ∙ sym (filled_number lists ks))
    ∙ first_held (filled lists ks)
    ∙ first_least (deliveries_of lists ks) c.self.invariant.sound.rise
    ∙ ap (λ (v : Flying). least started_earlier v.items) c.self.view_is
