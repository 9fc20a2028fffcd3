use Rattle.std.proofs.Common.{◌≡◌, ◌∙◌, ◌++◌, ◌∷◌, ◌+◌, ◌-◌, [], add-one, ap, arith, length, List, None, Option, refl, replicate, suc, sym, zero, ℕ}
use Rattle.std.proofs.lemmas.List.{append_assoc, append-nil, length-append}
use Rattle.q_keyed.proofs.slots.make_place.Goals as goal

-- one more of the same
grown : {X : Type 0} (x : X) (k : ℕ) → (replicate k x ++ x ∷ []) ≡ replicate (suc k) x
grown x zero = refl
grown x (suc k) = ap (λ xs. x ∷ xs) (grown x k)

one_more : {X : Type 0} (x : X) (k : ℕ) → (replicate k x ++ x ∷ []) ≡ replicate (k + 1) x
one_more x k = grown x k ∙ ap (λ n. replicate n x) (sym (add-one k))

pub loop-items-init : goal.loop-items-init
loop-items-init g c =
    let xs = c.args.items.now.items in
    let none : 0 ≡ length xs - length xs = omega arith in
    record {
      items = sym (append-nil xs) ∙ ap (λ k. xs ++ replicate k None) none;
      more = omega arith;
      few = omega arith;
      capacity = refl;
    }

pub loop-items-preserved : goal.loop-items-preserved
loop-items-preserved g c =
    let old = length c.args.items.now.items in
    let l = c.loop-items in
    let more = ap length c.push_reserved.ensures.items ∙ length-append l.items.items (None ∷ []) in
    let count : length l.items.items - old + 1 ≡ length c.push_reserved.new.self.items - old = omega (arith, more, l.invariant.more) in
    record {
      items =
          c.push_reserved.ensures.items
          ∙ ap (λ xs. xs ++ None ∷ []) l.invariant.items
          ∙ append_assoc c.args.items.now.items (replicate (length l.items.items - old) None) (None ∷ [])
          ∙ ap (λ xs. c.args.items.now.items ++ xs) (one_more None (length l.items.items - old) ∙ ap (λ k. replicate k None) count);
      more = omega (arith, more, l.invariant.more);
      few = omega (arith, more, l.invariant.more, l.invariant.few, c.loop-items-test.true, c.len.ensures);
      capacity = c.push_reserved.ensures.capacity ∙ l.invariant.capacity;
    }

pub loop-items-smaller : goal.loop-items-smaller
loop-items-smaller g c =
    let more = ap length c.push_reserved.ensures.items ∙ length-append c.loop-items.items.items (None ∷ []) in
    omega (arith, more, c.loop-items-test.true, c.len.ensures)

pub returns-clause-items : goal.returns-clause-items
returns-clause-items g c =
    let count : length c.loop-items.items.items - length c.args.items.now.items ≡ c.args.number + 1 - length c.args.items.now.items = omega (arith, c.loop-items.invariant.few, c.loop-items.invariant.more, c.loop-items-test.false, c.len.ensures) in
    c.loop-items.invariant.items ∙ ap (λ k. c.args.items.now.items ++ replicate k None) count
