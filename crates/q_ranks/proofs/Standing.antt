-- What is kept as a number comes into the order and as one goes.
use Rattle.std.proofs.Common.{◌≡◌, ◌∙◌, ◌<◌, [], false, get_or, length, List, map, None, Option, refl, set, Some, subst, sym, true, ℕ}
use Rattle.std.specs.Prelude.{IfSome}
use Rattle.q_chains.specs.Lists.{ahead_of, inserted, is_in, last_of, Lists, pushed, without}
use Rattle.q_chains.proofs.Places.{among_from, lacks_from}
use Rattle.q_ranks.specs.Ranking.{rank_of, Rises}
use Rattle.q_ranks.specs.Sound.{IsSound}
use Rattle.q_ranks.proofs.Alone.{length_mapped, mapped_alone, pushed_alone}
use Rattle.q_ranks.proofs.Rising.{rise_inserted, rise_pushed, rise_without}

module _ (order : Lists) (ranks : List ℕ) (numbers : ℕ) (sound : IsSound order ranks numbers) where
  -- the number goes
  pub sound_without : (n : ℕ) → IsSound (record order { lists = map (without n) order.lists }) ranks numbers
  sound_without n = record {
    one = length_mapped (without n) order.lists ∙ sound.one;
    known = sound.known;
    each = sound.each;
    few = sound.few;
    low = sound.low;
    rises = subst (Rises ranks) (sym (mapped_alone (without n) order.lists sound.one)) (rise_without 0 n ranks (get_or order.lists 0 []) sound.rises);
  }

  module _ (n : ℕ) (below : n < length ranks) (free : is_in n (get_or order.lists 0 []) ≡ false) where
    -- a rank above the last one's fits a number behind all
    pub fits_pushed : (rank : Option ℕ) → IfSome rank (λ r. rank_of ranks (last_of (get_or order.lists 0 [])) < r) → IfSome rank (λ r. Rises (set ranks n r) (get_or (pushed 0 n order.lists) 0 []))
    fits_pushed None above = tt
    fits_pushed (Some r) above =
        subst (Rises (set ranks n r)) (sym (pushed_alone n order.lists sound.one)) (rise_pushed n r ranks (get_or order.lists 0 []) (lacks_from n (get_or order.lists 0 []) free) below above sound.rises)

    -- one between those of two neighbours fits a number between them
    pub fits_inserted : (at : ℕ) (rank : Option ℕ) → is_in at (get_or order.lists 0 []) ≡ true → IfSome rank (λ r. rank_of ranks (ahead_of at (get_or order.lists 0 [])) < r) → IfSome rank (λ r. r < get_or ranks at 0) →
        IfSome rank (λ r. Rises (set ranks n r) (get_or (map (inserted n at) order.lists) 0 []))
    fits_inserted at None there above beneath = tt
    fits_inserted at (Some r) there above beneath =
        let ns = get_or order.lists 0 [] in
        subst (Rises (set ranks n r)) (sym (mapped_alone (inserted n at) order.lists sound.one)) (rise_inserted 0 n at r None ranks ns refl (lacks_from n ns free) below (among_from at ns there) above beneath sound.rises)
