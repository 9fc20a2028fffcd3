use Rattle.std.proofs.Common.{◌∙◌, ap, arith, length}
use Rattle.q_register.specs.Places.{members_of}
use Rattle.q_register.proofs.register.Register.remove.Goals as goal

pub invariant_of-self : goal.invariant_of-self
invariant_of-self g c =
    let inv = c.self.invariant in
    record {
      placed = c.take_out.ensures.placed;
      few = inv.few;
      ranked = c.take_out.ensures.ranks ∙ inv.ranked;
      inside = omega (arith, c.take_out.ensures.len, inv.inside);
      count = omega (arith, ap length (ap members_of c.in_err-taken.ensures.same), inv.count);
      within = inv.within;
      capacity = omega (arith, c.take_out.ensures.capacity, inv.capacity);
      fewer = omega (arith, c.take_out.ensures.len, inv.fewer);
      spare = inv.spare;
      kept = inv.kept;
      room_kept = inv.room_kept;
    }

pub invariant_of-self-2 : goal.invariant_of-self-2
invariant_of-self-2 g c =
    let inv = c.self.invariant in
    record {
      placed = c.take_out.ensures.placed;
      few = inv.few;
      ranked = c.take_out.ensures.ranks ∙ inv.ranked;
      inside = omega (arith, c.take_out.ensures.len, inv.inside);
      count = omega (arith, c.in_ok-taken.ensures.fewer, inv.count);
      within = omega (arith, inv.within);
      capacity = omega (arith, c.take_out.ensures.capacity, inv.capacity);
      fewer = omega (arith, c.take_out.ensures.len, inv.fewer);
      spare = inv.spare;
      kept = inv.kept;
      room_kept = inv.room_kept;
    }
