use Rattle.std.proofs.Common.{◌≡◌, ◌∙◌, ap, arith, length, ℕ}
use Rattle.std.proofs.lemmas.List.{length-replicate}
use Rattle.q_register.specs.Places.{members_of}
use Rattle.q_register.proofs.Gathered.{apart_members, no_more}
use Rattle.q_register.proofs.Indexing.{apart}
use Rattle.q_register.proofs.together.move_together.Goals as goal

pub put_back-requires-clause-apart : goal.put_back-requires-clause-apart
put_back-requires-clause-apart g c =
    let eq = g.K.PartialEq.eq in
    let xs = c.args.places.now.items in
    let kept : c.deref-2.result.now ≡ members_of xs = c.deref-2.ensures.value ∙ c.keep_all.ensures.items ∙ ap members_of c.deref.ensures.value in
    rw kept (apart_members eq xs (apart eq g.met.K.Eq.laws xs c.args.index.now c.requires.placed.indexed))

pub put_back-requires-clause-room : goal.put_back-requires-clause-room
put_back-requires-clause-room g c =
    let xs = c.args.places.now.items in
    let kept : c.deref-2.result.now ≡ members_of xs = c.deref-2.ensures.value ∙ c.keep_all.ensures.items ∙ ap members_of c.deref.ensures.value in
    omega (arith, ap length kept, no_more xs, c.requires.capacity, c.clear.ensures.capacity)

pub put_back-requires-clause-few : goal.put_back-requires-clause-few
put_back-requires-clause-few g c =
    let xs = c.args.places.now.items in
    let kept : c.deref-2.result.now ≡ members_of xs = c.deref-2.ensures.value ∙ c.keep_all.ensures.items ∙ ap members_of c.deref.ensures.value in
    omega (arith, ap length kept, no_more xs, c.requires.few)

pub put_back-requires-clause-ranks : goal.put_back-requires-clause-ranks
put_back-requires-clause-ranks g c =
    let xs = c.args.places.now.items in
    let kept : c.deref-2.result.now ≡ members_of xs = c.deref-2.ensures.value ∙ c.keep_all.ensures.items ∙ ap members_of c.deref.ensures.value in
    omega (arith, ap length kept, no_more xs, c.requires.placed.within, ap length c.clear-3.ensures, length-replicate {A = ℕ} (length c.args.ranks.now) 18446744073709551615)

pub put_back-requires-clause-index : goal.put_back-requires-clause-index
put_back-requires-clause-index g c =
    let xs = c.args.places.now.items in
    let kept : c.deref-2.result.now ≡ members_of xs = c.deref-2.ensures.value ∙ c.keep_all.ensures.items ∙ ap members_of c.deref.ensures.value in
    omega (arith, ap length kept, no_more xs, c.requires.index, c.clear-2.ensures.len, c.clear-2.ensures.capacity)
