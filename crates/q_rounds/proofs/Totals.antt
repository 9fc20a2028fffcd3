-- Sums over peers, as peers come, change and go.
use Rattle.std.proofs.Common.{◌≡◌, ◌∷◌, ◌++◌, ◌*◌, ◌+◌, ◌≤◌, [], ap, arith, length, List, map, refl, Some, ℕ}
use Rattle.q_keyed.specs.Numbered.{AreApart, item_at, Numbered, put_at, values_of, without_number}
use Rattle.q_model.specs.declared.id.Id.{Id}
use Rattle.q_rounds.specs.declared.peer.Peer.{Peer}
use Rattle.q_rounds.specs.Jobs.{rows_of, total}
use Rattle.q_rounds.specs.Rounds.{rows_left}
use Rattle.q_rounds.proofs.Lookups.{here_at, later_at}
use Rattle.q_rounds.proofs.Splits.{one, split}

module _ (f : Peer → ℕ) where
  abbrev sum : List (Numbered Peer) → ℕ
  sum ks = total f (values_of ks)

  sum_append : (ks ls : List (Numbered Peer)) → sum (ks ++ ls) ≡ sum ks + sum ls
  sum_append [] ls = omega arith
  sum_append (k ∷ ks) ls = omega (arith, sum_append ks ls)

  pub total_more : (n : ℕ) (x : Peer) (ks : List (Numbered Peer)) → total f (values_of (ks ++ one n x ∷ [])) ≡ total f (values_of ks) + f x
  total_more n x ks = omega (arith, sum_append ks (one n x ∷ []))

  module _ (n : ℕ) (p : Peer) (ks : List (Numbered Peer)) (apart : AreApart ks) (there : item_at n ks ≡ Some p) where
    pub total_put : (x : Peer) → total f (values_of (map (put_at n x) ks)) + f p ≡ total f (values_of ks) + f x
    total_put x =
        let s = split n p ks apart there in
        omega (arith, ap sum (s.put x), ap sum s.whole, sum_append s.front (one n x ∷ s.back), sum_append s.front (one n p ∷ s.back))

    pub total_left : total f (values_of (without_number n ks)) + f p ≡ total f (values_of ks)
    total_left =
        let s = split n p ks apart there in
        omega (arith, ap sum s.left, ap sum s.whole, sum_append s.front s.back, sum_append s.front (one n p ∷ s.back))

    pub total_part : f p ≤ total f (values_of ks)
    total_part = omega (arith, total_left)

  pub total_most : (b : ℕ) (ks : List (Numbered Peer)) → AreApart ks → ((n : ℕ) (p : Peer) → item_at n ks ≡ Some p → f p ≤ b) → total f (values_of ks) ≤ length ks * b
  total_most b [] apart few = omega arith
  total_most b (k ∷ ks) apart few =
      let own = few k.number k.item (here_at k ks) in
      let rest = total_most b ks apart.1 (λ n p h. few n p (later_at n p k ks apart.0 h)) in
      omega (arith, own, rest)

pub rows_total : (i : Id) (t : ℕ) (ps : List Peer) → rows_left i t ps ≡ total (rows_of i t) ps
rows_total i t [] = refl
rows_total i t (p ∷ ps) = ap (λ n. rows_of i t p + n) (rows_total i t ps)
