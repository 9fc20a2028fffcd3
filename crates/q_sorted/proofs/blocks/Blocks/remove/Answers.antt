use Rattle.std.proofs.Common.{◌∙◌, ◌≤◌, ◌+◌, ◌-◌, ℕ, ap, arith, cond, length, List, subst, sym}
use Rattle.q_sorted.specs.declared.ticket.Ticket.{Ticket}
use Rattle.q_sorted.specs.Blocks.{AreSound, block_at, Blocks, joined, mended, most, removed}
use Rattle.q_sorted.proofs.Calls.{before_filled, GoesFrom, taken_counted, taken_few, taken_joined, taken_sound}
use Rattle.q_sorted.proofs.Editing.{removed_nowhere}
use Rattle.q_sorted.proofs.Finding.{block_rises}
use Rattle.q_sorted.proofs.blocks.Blocks.remove.Goals as goal

pub returns-then-place-count-clause-removed : goal.returns-then-place-count-clause-removed
returns-then-place-count-clause-removed c =
    let past : length c.args.self.now.lists ≤ c.place_of-place.result = omega (arith, c.count.ensures) in
    sym (removed_nowhere c.args.ticket.now c.place_of-place.result c.args.self.now.lists c.requires.rising c.place_of-place.ensures past)

pub take_out-was-requires-clause-rising : goal.take_out-was-requires-clause-rising
take_out-was-requires-clause-rising c = block_rises c.place_of-place.result c.args.self.now.lists c.requires.rising

pub mend-requires-clause-fits : goal.mend-requires-clause-fits
mend-requires-clause-fits c =
    let e = c.args.ticket.now in
    let n = c.place_of-place.result in
    let lists = c.args.self.now.lists in
    let gone : ℕ = cond c.take_out-was.result 1 0 in
    let from : GoesFrom e n gone lists = record {
      sound = c.requires;
      place = c.place_of-place.ensures;
      within = omega (arith, c.count.ensures);
      count = c.take_out-was.ensures.counted;
    } in
    subst (λ (b : Blocks). length (block_at (n - 1) b.lists) ≤ most) (sym c.take_out-was.ensures.taken)
    (before_filled n lists (removed e (block_at n lists)) c.requires from.within (taken_few e n gone lists from))

pub returns-clause-removed : goal.returns-clause-removed
returns-clause-removed c =
    let e = c.args.ticket.now in
    let n = c.place_of-place.result in
    let lists = c.args.self.now.lists in
    let gone : ℕ = cond c.take_out-was.result 1 0 in
    let from : GoesFrom e n gone lists = record {
      sound = c.requires;
      place = c.place_of-place.ensures;
      within = omega (arith, c.count.ensures);
      count = c.take_out-was.ensures.counted;
    } in
    let left = ap (λ (b : Blocks). b.lists) c.mend.ensures ∙ ap (λ (b : Blocks). mended n b.lists) c.take_out-was.ensures.taken in
    ap joined left ∙ taken_joined e n gone lists from

pub returns-clause-sound : goal.returns-clause-sound
returns-clause-sound c =
    let e = c.args.ticket.now in
    let n = c.place_of-place.result in
    let lists = c.args.self.now.lists in
    let gone : ℕ = cond c.take_out-was.result 1 0 in
    let from : GoesFrom e n gone lists = record {
      sound = c.requires;
      place = c.place_of-place.ensures;
      within = omega (arith, c.count.ensures);
      count = c.take_out-was.ensures.counted;
    } in
    let left = ap (λ (b : Blocks). b.lists) c.mend.ensures ∙ ap (λ (b : Blocks). mended n b.lists) c.take_out-was.ensures.taken in
    subst AreSound (sym left) (taken_sound e n gone lists from)

pub returns-clause-counted : goal.returns-clause-counted
returns-clause-counted c =
    let e = c.args.ticket.now in
    let n = c.place_of-place.result in
    let lists = c.args.self.now.lists in
    let gone : ℕ = cond c.take_out-was.result 1 0 in
    let from : GoesFrom e n gone lists = record {
      sound = c.requires;
      place = c.place_of-place.ensures;
      within = omega (arith, c.count.ensures);
      count = c.take_out-was.ensures.counted;
    } in
    let left = ap (λ (b : Blocks). b.lists) c.mend.ensures ∙ ap (λ (b : Blocks). mended n b.lists) c.take_out-was.ensures.taken in
    ap (λ (xss : List (List Ticket)). length (joined xss) + gone) left ∙ taken_counted e n gone lists from
