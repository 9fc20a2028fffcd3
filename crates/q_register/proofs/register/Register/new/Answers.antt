use Rattle.std.proofs.Common.{◌≡◌, ◌∙◌, ap, sym, arith, length, refl, replicate, ℕ}
use Rattle.std.proofs.lemmas.List.{length-replicate}
use Rattle.q_register.proofs.Placing.{placed_none}
use Rattle.q_register.proofs.register.Register.new.Goals as goal

pub invariant_of-result : goal.invariant_of-result
invariant_of-result g c =
    let items = c.in_ok-places.ensures.items in
    let count = c.places_for-count.result in
    let many = c.places_for-count.ensures in
    let ranked : length c.in_ok-ranks.ranks ≡ count = ap length c.in_ok-ranks.ensures ∙ length-replicate count 18446744073709551615 in
    record {
      placed = rw items (placed_none g.K.PartialEq.eq g.met.K.Eq.laws c.in_ok-index.index c.in_ok-ranks.ranks c.in_ok-index.ensures.empty (c.in_ok-ranks.ensures ∙ ap (λ (n : ℕ). replicate n 18446744073709551615) (sym ranked)));
      few = c.requires.few;
      ranked = ranked ∙ many;
      inside = omega (arith, ap length items);
      count = rw items refl;
      within = omega arith;
      capacity = omega (arith, many, c.in_ok-places.ensures.capacity);
      fewer = omega (arith, c.in_ok-index.ensures.len);
      spare = omega (arith, many, c.in_ok-index.ensures.spare);
      kept = c.in_ok-kept.ensures.items;
      room_kept = c.in_ok-kept.ensures.capacity;
    }
