use Rattle.std.proofs.Common.{◌≤◌, ◌∙◌, ap, arith, find, length, List, subst, sym}
use Rattle.q_sorted.specs.declared.ticket.Ticket.{Ticket}
use Rattle.q_sorted.specs.Tickets.{Rises}
use Rattle.q_sorted.specs.Blocks.{block_at, Blocks, is_past}
use Rattle.q_sorted.proofs.Finding.{block_rises, found_in, no_block}
use Rattle.q_sorted.proofs.Laying.{block_read}
use Rattle.q_sorted.proofs.blocks.Blocks.first_past.Goals as goal

pub first_past-requires : goal.first_past-requires
first_past-requires c =
    let used = c.self.inside.used.items in
    let own = block_read c.place_of-place.result used c.index.result.now (omega arith) c.index.ensures ∙ ap (block_at c.place_of-place.result) (ap (λ (b : Blocks). b.lists) c.self.view_is) in
    subst (λ (xs : List Ticket). Rises xs) (sym own) (block_rises c.place_of-place.result c.args.self.now.lists c.requires.rising)

pub returns-then-place-len : goal.returns-then-place-len
returns-then-place-len c =
    let past = is_past c.args.cut.now in
    let used = c.self.inside.used.items in
    let lists = c.args.self.now.lists in
    let own = block_read c.place_of-place.result used c.index.result.now (omega arith) c.index.ensures ∙ ap (block_at c.place_of-place.result) (ap (λ (b : Blocks). b.lists) c.self.view_is) in
    c.first_past.ensures ∙ ap (find past) own ∙ ap (λ n. find past (block_at n lists)) c.place_of-place.ensures ∙ sym (found_in c.args.cut.now lists c.requires.rising)

pub returns-else-place-len : goal.returns-else-place-len
returns-else-place-len c =
    let past = is_past c.args.cut.now in
    let lists = c.args.self.now.lists in
    let none : length lists ≤ c.place_of-place.result = omega (arith, ap length (ap (λ (b : Blocks). b.lists) c.self.view_is)) in
    sym (found_in c.args.cut.now lists c.requires.rising ∙ ap (λ n. find past (block_at n lists)) (sym c.place_of-place.ensures) ∙ ap (find past) (no_block c.place_of-place.result lists none))
