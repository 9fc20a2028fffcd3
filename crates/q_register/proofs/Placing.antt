-- What stands in places, with the index and the ranks, after each change.
use Rattle.std.proofs.Common.{◌≡◌, ℕ, ◌++◌, ◌<◌, ◌≤◌, ap, sym, ◌∙◌, Bool, List, [], ◌∷◌, None, Option, Some, set, arith, length, length-append, replicate, subst}
use Rattle.std.proofs.lemmas.List.{length-set}
use Rattle.std.specs.Cmp.{IsEquivalence}
use Rattle.std.specs.HashMap.{IsEmpty, Updates}
use Rattle.indexmap.specs.IndexMap.{IndexMap}
use Rattle.q_register.specs.declared.member.Member.{Member}
use Rattle.q_register.specs.declared.index.Found.{Found}
use Rattle.q_register.specs.Members.{no_rank}
use Rattle.q_register.specs.Places.{IsAbsent, IsFound, IsPlaced, rank_of, ranks_of}
use Rattle.q_register.proofs.Indexing.{indexed_added, indexed_none, indexed_put, indexed_taken}
use Rattle.q_register.proofs.Ranking.{ranks-added, ranks-set}

module _ {K T : Type 0} where
  set_within : (xs : List (Option (Member K T))) (ranks : List ℕ) (p r : ℕ) (x : Option (Member K T)) → length xs ≤ length ranks → length (set xs p x) ≤ length (set ranks p r)
  set_within xs ranks p r x h = omega (arith, length-set xs p x, length-set ranks p r, h)

  ranked_set : (xs : List (Option (Member K T))) (ranks : List ℕ) (p : ℕ) (x : Option (Member K T)) → ranks ≡ ranks_of (length ranks) xs → p < length xs → length xs ≤ length ranks
      → set ranks p (rank_of x) ≡ ranks_of (length (set ranks p (rank_of x))) (set xs p x)
  ranked_set xs ranks p x h inside few =
      ap (λ (rs : List ℕ). set rs p (rank_of x)) h ∙ sym (ranks-set (length ranks) p xs x inside few) ∙ ap (λ (n : ℕ). ranks_of n (set xs p x)) (sym (length-set ranks p (rank_of x)))

module _ {K T S : Type 0} (eq : K → K → Bool) (laws : IsEquivalence eq) where
  pub placed_added : (xs : List (Option (Member K T))) (old new : IndexMap K ℕ S) (ranks : List ℕ) (e : Member K T) (place : ℕ) → place ≡ length xs
      → IsPlaced eq xs old ranks → IsAbsent eq e.key xs → Updates eq old new e.key (Some place) → length xs < length ranks
      → IsPlaced eq (xs ++ Some e ∷ []) new (set ranks place e.rank)
  placed_added xs old new ranks e place at h none u room =
      let len : length (set ranks place e.rank) ≡ length ranks = length-set ranks place e.rank in
      record {
        indexed = indexed_added eq laws xs old new e h.indexed none (subst (λ (p : ℕ). Updates eq old new e.key (Some p)) at u);
        ranked =
            ap (λ (rs : List ℕ). set rs place e.rank) h.ranked ∙ ap (λ (p : ℕ). set (ranks_of (length ranks) xs) p e.rank) at
            ∙ sym (ranks-added (length ranks) xs (Some e) room) ∙ ap (λ (n : ℕ). ranks_of n (xs ++ Some e ∷ [])) (sym len);
        within = omega (arith, length-append xs (Some e ∷ []), len, room);
      }

  pub placed_taken : (xs : List (Option (Member K T))) (index : IndexMap K ℕ S) (ranks : List ℕ) (p : ℕ) → IsPlaced eq xs index ranks → p < length xs → IsPlaced eq (set xs p None) index (set ranks p no_rank)
  placed_taken xs index ranks p h inside = record {
    indexed = indexed_taken eq laws xs index p h.indexed;
    ranked = ranked_set xs ranks p None h.ranked inside h.within;
    within = set_within xs ranks p no_rank None h.within;
  }

  pub placed_put : (xs : List (Option (Member K T))) (index : IndexMap K ℕ S) (ranks : List ℕ) (key : K) (f : Found K T) (x : Member K T)
      → IsPlaced eq xs index ranks → IsFound eq key xs f → x.key ≡ f.member.key → IsPlaced eq (set xs f.place (Some x)) index (set ranks f.place x.rank)
  placed_put xs index ranks key f x h found same = record {
    indexed = indexed_put eq laws xs index f.place f.member x h.indexed found.stands same;
    ranked = ranked_set xs ranks f.place (Some x) h.ranked found.within h.within;
    within = set_within xs ranks f.place x.rank (Some x) h.within;
  }

  -- nothing stands anywhere
  pub placed_none : (index : IndexMap K ℕ S) (ranks : List ℕ) → IsEmpty index → ranks ≡ replicate (length ranks) no_rank → IsPlaced {T = T} eq [] index ranks
  placed_none index ranks empty none = record {
    indexed = indexed_none eq laws index empty;
    ranked = none;
    within = omega arith;
  }
