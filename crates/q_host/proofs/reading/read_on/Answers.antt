use Rattle.std.proofs.Common.{arith, length, refl, subst, ℕ, ◌≡◌}
use Rattle.std.specs.Option.{IfSome}
use Rattle.q_host.specs.Reads.{IsRead}
use Rattle.q_host.proofs.Stays.{stays_here, stays_on}
use Rattle.q_model.specs.SpoolFiles.{Files}
use Rattle.q_host.proofs.ReadPieces.{front_more, front_none}
use Rattle.q_host.proofs.reading.read_on.Goals as goal

pub loop-area-init : goal.loop-area-init
loop-area-init g c = record {
  read = λ t. front_none _ _ c.requires.none;
  stays = λ t. stays_here _;
  disk_later = omega arith;
  tell_later = omega arith;
}

pub loop-area-preserved : goal.loop-area-preserved
loop-area-preserved g c =
    let old = c.loop-area in
    record {
      read = λ t.
          let there = rw c.len-in-loop-area.ensures at c.in_ok-count.ensures.bytes t in
          let count : old.bytes.len ≡ length old.bytes.items = omega (arith, old.bytes.ok) in
          let here = subst (λ (n : ℕ). IfSome ((g.H.Host.view old.host).files c.args.area c.args.name) (λ file. IsRead file n old.piece c.read.new.buf c.in_ok-count.count)) count there in
          let moved = subst (λ (f : Files). IfSome (f c.args.area c.args.name) (λ file. IsRead file (length old.bytes.items) old.piece c.read.new.buf c.in_ok-count.count)) (old.invariant.stays t).files here in
          rw c.in-Ok.ensures.items (front_more _ _ _ _ _ _ moved refl (old.invariant.read t));
      stays = λ t. stays_on _ _ _ (old.invariant.stays t) (c.read.ensures.stays t);
      disk_later = omega (arith, old.invariant.disk_later, c.read.ensures.cause.disk_later);
      tell_later = omega (arith, old.invariant.tell_later, c.read.ensures.cause.tell_later);
    }
