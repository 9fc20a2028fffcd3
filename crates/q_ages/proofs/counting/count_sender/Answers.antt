use Rattle.std.proofs.Common.{◌≡◌, [], ◌∷◌, Bool, if◌then◌else◌, List, subst, sym, ℕ}
use Rattle.q_ages.proofs.AddingLaws.{adds_none, none_ahead, some_ahead}
use Rattle.q_ages.specs.Adding.{Adds}
use Rattle.q_ages.specs.Counting.{sender_domain}
use Rattle.q_model.specs.Lists.{has_none}
use Rattle.q_ages.proofs.counting.count_sender.Goals as goal

pub returns-in_default-clause-counted : goal.returns-in_default-clause-counted
returns-in_default-clause-counted g c t m positions ahead =
    let none : positions ≡ [] = none_ahead (g.H.Host.view c.args.host.now).files m c.next.new.self positions c.in_ok-next.field-0 c.in_default.is (c.in_ok-next.ensures.next t m positions ahead) in
    subst (λ (ps : List ℕ). Adds (if has_none ps then [] else (sender_domain c.args.sender.now, c.args.age, 1) ∷ []) c.args.table.now c.args.table.now) (sym none) (adds_none c.args.table.now)

pub returns-clause-counted : goal.returns-clause-counted
returns-clause-counted g c t m positions ahead =
    let some = some_ahead (g.H.Host.view c.args.host.now).files m c.next.new.self positions c.in_ok-next.field-0 c.in-Some.field-0 c.in-Some.is (c.in_ok-next.ensures.next t m positions ahead) in
    let one = subst (λ (d : List ℕ). Adds ((d, c.args.age, 1) ∷ []) c.args.table.now c.add.new.self) c.sender_domain.ensures c.in_ok-add.ensures in
    subst (λ (b : Bool). Adds (if b then [] else (sender_domain c.args.sender.now, c.args.age, 1) ∷ []) c.args.table.now c.add.new.self) (sym some) one
