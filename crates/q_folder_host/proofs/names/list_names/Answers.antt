use Rattle.std.proofs.Common.{◌≡◌, ◌+◌, ◌++◌, ◌∷◌, [], ℕ, List, sym, subst, ap, ◌∙◌, arith, length, length-append}
use Rattle.q_host.specs.Reads.{Rise, IsAfter}
use Rattle.q_folder_host.proofs.Rising.{rise_further}
use Rattle.q_folder_host.proofs.names.list_names.Goals as goal

pub loop-name-preserved-then-is_after : goal.loop-name-preserved-then-is_after
loop-name-preserved-then-is_after c =
    let name : List ℕ = c.in-Some.name.now in
    let grown : c.push.new.self ≡ c.loop-name.out ++ name ∷ [] = c.in_ok-push.ensures.ok in
    let later : IsAfter c.loop-name.last name = c.is_after.ensures.0 c.if-is_after.true in
    let rise : Rise c.args.after.now (c.loop-name.out ++ name ∷ []) = c.loop-name.invariant.further name later in
    record {
      rise = subst (λ (names : List (List ℕ)). Rise c.args.after.now names) (sym grown) rise;
      further = λ n next. subst (λ (names : List (List ℕ)). Rise c.args.after.now (names ++ n ∷ [])) (sym grown)
          (rise_further c.args.after.now c.loop-name.out name n rise next);
      few = (let longer : length c.push.new.self ≡ length c.loop-name.out + 1 = ap (λ (l : List (List ℕ)). length l) grown ∙ omega (arith, length-append c.loop-name.out (name ∷ [])) in omega (arith, longer, c.if-full.false, c.len-full.ensures, c.loop-name.invariant.few));
    }
