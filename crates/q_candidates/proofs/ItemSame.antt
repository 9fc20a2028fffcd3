-- The item of a number is one.
use Rattle.std.proofs.Common.{◌≡◌, ◌∙◌, List, Some, sym, ℕ}
use Rattle.q_keyed.specs.Numbered.{item_at, Numbered}

pub same_item : {T : Type 0} (n : ℕ) (x y : T) (ks : List (Numbered T)) → item_at n ks ≡ Some x → item_at n ks ≡ Some y → x ≡ y
same_item n x y ks a b =
    let both : Some x ≡ Some y = sym a ∙ b in
    cc
