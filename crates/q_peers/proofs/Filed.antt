-- Numbers in buckets, as a row comes and as one goes, and walks along a bucket.
use Rattle.std.proofs.Common.{◌≡◌, ◌∙◌, ◌∷◌, ◌++◌, ◌%◌, ◌<◌, [], ap, arith, Bool, cond, false, get_or, length, List, map, None, Option, refl, set, Some, sym, true, ℕ}
use Rattle.std.proofs.lemmas.Bool.{eqb-false, eqb-true}
use Rattle.std.proofs.lemmas.List.{append-nil, length-map}
use Rattle.std.proofs.lemmas.List.Elements.{filter-append}
use Rattle.std.specs.List.{concat}
use Rattle.std.specs.Prelude.{◌&&◌, ◌==◌, filter, find, not}
use Rattle.q_chains.specs.Lists.{behind, first_of, is_in, list_with, Lists, pushed, stands, without}
use Rattle.q_model.specs.declared.rows.Row.{Row}
use Rattle.q_chains.specs.Onward.{after, from_on}
use Rattle.q_chains.specs.Slots.{is_in_bucket, passes}
use Rattle.q_peers.specs.Sound.{AreFiled}
use Rattle.q_chains.proofs.Numbers.{after_kept, AreOnce, find_kept, from_first, from_next, in_kept, kept_alike, kept_swapped, list_is, other_there, stands_not}
use Rattle.q_chains.proofs.Slots.{passes_alike, passes_only, passes_own}
use Rattle.q_chains.proofs.Chained.{at_pushed_other, at_pushed_own, at_without, gone, length_pushed}

module _ (key : Row → ℕ) (rows : List (Option Row)) (ns : List ℕ) (room : ℕ) (buckets : Lists) (filed : AreFiled key rows ns room buckets) where
  -- what doesn't wait stands in no bucket
  pub lacks_filed : (n : ℕ) → is_in n ns ≡ false → stands n buckets.lists ≡ false
  lacks_filed n h = stands_not n buckets.lists (λ b k.
      ap (is_in n) (filed.each b (omega (arith, k, filed.count)))
      ∙ in_kept (passes (is_in_bucket key room b) rows) n ns
      ∙ ap (λ t. t && passes (is_in_bucket key room b) rows n) h)

  -- a row comes
  module _ (n b : ℕ) (r : Row) (free : is_in n ns ≡ false) (known : n < length rows) (is : b ≡ key r % room) where
    stay : (c : ℕ) → filter (passes (is_in_bucket key room c) (set rows n (Some r))) ns ≡ filter (passes (is_in_bucket key room c) rows) ns
    stay c = kept_alike (passes (is_in_bucket key room c) (set rows n (Some r))) (passes (is_in_bucket key room c) rows) ns
        (λ m k. passes_alike (is_in_bucket key room c) rows n m (Some r) (other_there m n ns free k))

    come_step : (c : ℕ) (t : Bool) → (b == c) ≡ t → b < room → c < room →
        get_or (pushed b n buckets.lists) c [] ≡ filter (passes (is_in_bucket key room c) rows) ns ++ cond t (n ∷ []) []
    come_step c true e few k =
        let same : b ≡ c = eqb-true b c e in
        ap (λ d. get_or (pushed b n buckets.lists) d []) (sym same)
        ∙ at_pushed_own b n buckets.lists (omega (arith, few, filed.count))
        ∙ ap (λ d. get_or buckets.lists d [] ++ n ∷ []) same
        ∙ ap (λ ms. ms ++ n ∷ []) (filed.each c k)
    come_step c false e few k =
        at_pushed_other b c n buckets.lists (eqb-false b c e) ∙ filed.each c k
        ∙ sym (append-nil (filter (passes (is_in_bucket key room c) rows) ns))

    pub filed_come : b < room → AreFiled key (set rows n (Some r)) (ns ++ n ∷ []) room (record buckets { lists = pushed b n buckets.lists })
    filed_come few = record {
      numbers = filed.numbers;
      count = length_pushed b n buckets.lists ∙ filed.count;
      each = λ c k.
          come_step c (b == c) refl few k
          ∙ ap (λ ms. ms ++ cond (b == c) (n ∷ []) []) (sym (stay c))
          ∙ ap (λ t. filter (passes (is_in_bucket key room c) (set rows n (Some r))) ns ++ cond t (n ∷ []) []) (ap (λ d. d == c) is ∙ sym (passes_own (is_in_bucket key room c) rows n (Some r) known))
          ∙ sym (filter-append (passes (is_in_bucket key room c) (set rows n (Some r))) ns (n ∷ []));
    }

  -- a row goes
  pub filed_go : (n : ℕ) → AreFiled key (set rows n None) (without n ns) room (record buckets { lists = map (without n) buckets.lists })
  filed_go n = record {
    numbers = filed.numbers;
    count = length-map buckets.lists (without n) ∙ filed.count;
    each = λ c k.
        at_without c n buckets.lists
        ∙ ap (without n) (filed.each c k)
        ∙ kept_swapped (λ x. not (x == n)) (passes (is_in_bucket key room c) rows) ns
        ∙ sym (kept_alike (passes (is_in_bucket key room c) (set rows n None)) (passes (is_in_bucket key room c) rows) (without n ns)
        (λ m h. passes_alike (is_in_bucket key room c) rows n m None (other_there m n (without n ns) (gone n ns) h)));
  }

  -- Walks along a bucket, where each row that passes is of it.
  module _ (b : ℕ) (p : Row → Bool) (once : AreOnce (concat buckets.lists)) (few : b < room) (only : (r : Row) → p r ≡ true → is_in_bucket key room b r ≡ true) where
    all_there : (ms : List ℕ) → find (passes p rows) (filter (passes (is_in_bucket key room b) rows) ms) ≡ find (passes p rows) ms
    all_there ms = find_kept (passes p rows) (passes (is_in_bucket key room b) rows) ms (λ n h. passes_only p (is_in_bucket key room b) (get_or rows n None) only h)

    pub first_filed : find (passes p rows) (from_on (first_of (get_or buckets.lists b [])) buckets.lists) ≡ find (passes p rows) ns
    first_filed = ap (find (passes p rows)) (from_first b buckets.lists once ∙ filed.each b few) ∙ all_there ns

    pub in_filed : (n : ℕ) → is_in n ns ≡ true → passes (is_in_bucket key room b) rows n ≡ true → is_in n (get_or buckets.lists b []) ≡ true
    in_filed n there own =
        ap (is_in n) (filed.each b few) ∙ in_kept (passes (is_in_bucket key room b) rows) n ns
        ∙ ap (λ t. t && passes (is_in_bucket key room b) rows n) there ∙ own

    pub next_filed : (n : ℕ) → is_in n ns ≡ true → passes (is_in_bucket key room b) rows n ≡ true →
        find (passes p rows) (from_on (behind n (list_with n buckets.lists)) buckets.lists) ≡ find (passes p rows) (after n ns)
    next_filed n there own =
        ap (find (passes p rows)) (
        from_next n buckets.lists once
        ∙ ap (after n) (list_is n b buckets.lists once (in_filed n there own) ∙ filed.each b few)
        ∙ after_kept (passes (is_in_bucket key room b) rows) n ns own)
        ∙ all_there (after n ns)
