use Rattle.std.proofs.Common.{◌≡◌, ◌+◌, ◌∙◌, ◌∷◌, ◌++◌, [], ap, sym, arith, length, take, suc}
use Rattle.std.proofs.lemmas.Grind.{common_steps}
use Rattle.q_register.specs.Places.{members_of}
use Rattle.q_register.proofs.Gathered.{fewer, gathered}
use Rattle.q_register.proofs.together.keep_all.Goals as goal

pub keep-requires : goal.keep-requires
keep-requires g c =
    let i = c.loop-i.i in
    let xs = c.args.places.now in
    let more = gathered i xs c.place_at.result c.place_at.ensures in
    let len = ap length more in
    grind (arith, common_steps, len, fewer (suc i) xs, c.loop-i.invariant.kept, c.loop-i.invariant.capacity, c.requires.room)

pub loop-i-preserved : goal.loop-i-preserved
loop-i-preserved g c =
    let i = c.loop-i.i in
    let xs = c.args.places.now in
    let next : suc i ≡ i + 1 = omega arith in
    record {
      kept = c.keep.ensures.items ∙ ap (λ es. es ++ members_of (c.place_at.result ∷ [])) c.loop-i.invariant.kept ∙ sym (gathered i xs c.place_at.result c.place_at.ensures) ∙ ap (λ n. members_of (take n xs)) next;
      capacity = c.keep.ensures.capacity ∙ c.loop-i.invariant.capacity;
    }
