use Rattle.std.proofs.Common.{◌∙◌, ◌≤◌, ap, arith, cond, length, List, subst, sym}
use Rattle.q_sorted.specs.declared.ticket.Ticket.{Ticket}
use Rattle.q_sorted.specs.Blocks.{AreSound, block_at, block_room, Blocks, joined, settled}
use Rattle.q_sorted.proofs.Calls.{goes_into, put_counted, put_fits, put_joined, put_sound}
use Rattle.q_sorted.proofs.Filling.{block_filled}
use Rattle.q_sorted.proofs.Finding.{block_rises}
use Rattle.q_sorted.proofs.blocks.Blocks.insert.Goals as goal

pub put-is_new-requires-clause-rising : goal.put-is_new-requires-clause-rising
put-is_new-requires-clause-rising c = block_rises c.min-place.result c.args.self.now.lists c.requires.sound.rising

pub put-is_new-requires-clause-room : goal.put-is_new-requires-clause-room
put-is_new-requires-clause-room c = omega (arith, block_filled 0 c.min-place.result c.args.self.now.lists c.requires.sound.filled)

pub settle-requires-clause-fits : goal.settle-requires-clause-fits
settle-requires-clause-fits c =
    let e = c.args.ticket in
    let n = c.min-place.result in
    let came = c.put-is_new.result in
    let lists = c.args.self.now.lists in
    let into = goes_into e n c.place_of.result c.count.result came lists c.requires.sound c.place_of.ensures c.count.ensures c.min-place.ensures c.put-is_new.ensures.counted in
    subst (λ (b : Blocks). length (block_at n b.lists) ≤ block_room) (sym c.put-is_new.ensures.put) (put_fits e n (cond came 1 0) lists into)

pub returns-clause-inserted : goal.returns-clause-inserted
returns-clause-inserted c =
    let e = c.args.ticket in
    let n = c.min-place.result in
    let came = c.put-is_new.result in
    let lists = c.args.self.now.lists in
    let into = goes_into e n c.place_of.result c.count.result came lists c.requires.sound c.place_of.ensures c.count.ensures c.min-place.ensures c.put-is_new.ensures.counted in
    let left = ap (λ (b : Blocks). b.lists) c.settle.ensures ∙ ap (λ (b : Blocks). settled n b.lists) c.put-is_new.ensures.put in
    ap joined left ∙ put_joined e n (cond came 1 0) lists into

pub returns-clause-sound : goal.returns-clause-sound
returns-clause-sound c =
    let e = c.args.ticket in
    let n = c.min-place.result in
    let came = c.put-is_new.result in
    let lists = c.args.self.now.lists in
    let into = goes_into e n c.place_of.result c.count.result came lists c.requires.sound c.place_of.ensures c.count.ensures c.min-place.ensures c.put-is_new.ensures.counted in
    let left = ap (λ (b : Blocks). b.lists) c.settle.ensures ∙ ap (λ (b : Blocks). settled n b.lists) c.put-is_new.ensures.put in
    subst AreSound (sym left) (put_sound e n (cond came 1 0) lists into)

pub returns-clause-counted : goal.returns-clause-counted
returns-clause-counted c =
    let e = c.args.ticket in
    let n = c.min-place.result in
    let came = c.put-is_new.result in
    let lists = c.args.self.now.lists in
    let into = goes_into e n c.place_of.result c.count.result came lists c.requires.sound c.place_of.ensures c.count.ensures c.min-place.ensures c.put-is_new.ensures.counted in
    let left = ap (λ (b : Blocks). b.lists) c.settle.ensures ∙ ap (λ (b : Blocks). settled n b.lists) c.put-is_new.ensures.put in
    ap (λ (xss : List (List Ticket)). length (joined xss)) left ∙ put_counted e n (cond came 1 0) lists into
