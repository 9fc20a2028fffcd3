-- The best candidate of all needs so far.
use Rattle.std.proofs.Common.{Bool, List, None, Option, Some, ap, arith, cond, false, inl, inr, not, refl, subst, sym, true, ℕ, ◌*◌, ◌+◌, ◌-◌, ◌<◌, ◌^◌, ◌∙◌, ◌≡◌, ◌≤◌, ◌⊎◌}
use Rattle.std.proofs.lemmas.Bool.{and_from, and_parts, cases_lt, eq-eqb, eqb-true, le-leb, leb-true}
use Rattle.std.specs.Option.{option_map_or}
use Rattle.std.specs.Prelude.{◌==◌, ◌&&◌, find, IfSome, nat_le, nat_lt}
use Rattle.q_dest.specs.declared.dest.Dest.{Dest}
use Rattle.q_keyed.proofs.Values.{held_item, item_found}
use Rattle.q_keyed.specs.Numbered.{AreApart, AreKeysApart, first_such, item_at, Items, Numbered, values_of}
use Rattle.q_model.specs.declared.id.Id.{Id}
use Rattle.q_model.specs.Ids.{id_eq}
use Rattle.q_model.specs.Values.{Site}
use Rattle.q_rounds.proofs.ItemSets.{each_of, unless_none}
use Rattle.q_rounds.specs.KeyLaws.{key_eq-refl, key_eq-true}
use Rattle.q_rounds.specs.Rounds.{has_space_at, key_eq}
use Rattle.q_candidates.specs.declared.candidate.Candidate.{Candidate}
use Rattle.q_candidates.specs.declared.index.Index.{Index}
use Rattle.q_candidates.specs.declared.lane.Lane.{Lane}
use Rattle.q_candidates.specs.declared.wanted.Wanted.{Wanted}
use Rattle.q_candidates.specs.Candidates.{age_at, goes_first, IsBest, is_of, key_of, may_preempt}
use Rattle.q_candidates.specs.Choosing.{better_of, goes_first_at, is_over, IsBestOf, IsNextHope, IsNextNeed, IsWalked}
use Rattle.q_candidates.specs.Filing.{is_lane, lane_of}
use Rattle.q_candidates.specs.Sound.{IsOrdered}
use Rattle.q_candidates.specs.Walking.{AreShut, is_open, is_wanted}
use Rattle.q_candidates.proofs.Better.{first_along, first_back, over_first}
use Rattle.q_candidates.proofs.TicketLaws.{some_from}
use Rattle.q_candidates.proofs.ItemSame.{same_item}
use Rattle.q_candidates.proofs.Keys.{own_found}
use Rattle.q_candidates.proofs.Lanes.{lane_parts, not_suspended}
use Rattle.q_candidates.proofs.Steps.{AreFit}

abbrev pub wanted_with : ℕ → ℕ → Id → Wanted
wanted_with transport need except = record { transport = transport; need = need; except = except }

-- what is open at a need may preempt where the need is no more than the most
module _ (ds : List Dest) (transport most : ℕ) (except : Id) where
  wanted_may : (d : ℕ) (c : Candidate) → d ≤ most → is_wanted ds (wanted_with transport d except) c ≡ true → may_preempt ds transport most except c ≡ true
  wanted_may d c few h =
      let outer = and_parts (is_open ds (wanted_with transport d except) c) (not (id_eq c.id except)) h in
      let inner = and_parts ((c.site.transport == transport) && (c.need == d)) (has_space_at ds c.site) outer.0 in
      let parts = and_parts (c.site.transport == transport) (c.need == d) inner.0 in
      let need : c.need ≡ d = eqb-true c.need d parts.1 in
      and_from ((c.site.transport == transport) && nat_le c.need most && not (id_eq c.id except)) (has_space_at ds c.site)
      (and_from ((c.site.transport == transport) && nat_le c.need most) (not (id_eq c.id except))
      (and_from (c.site.transport == transport) (nat_le c.need most) parts.0 (le-leb c.need most (omega (arith, need, few)))) outer.1) inner.1

  pub record MayParts (c : Candidate) : Type 0 where
    pub at : c.site.transport ≡ transport
    pub few : c.need ≤ most
    pub other : not (id_eq c.id except) ≡ true
    pub space : has_space_at ds c.site ≡ true

  may_parts : (c : Candidate) → may_preempt ds transport most except c ≡ true → MayParts c
  may_parts c h =
      let outer = and_parts ((c.site.transport == transport) && nat_le c.need most && not (id_eq c.id except)) (has_space_at ds c.site) h in
      let inner = and_parts ((c.site.transport == transport) && nat_le c.need most) (not (id_eq c.id except)) outer.0 in
      let parts = and_parts (c.site.transport == transport) (nat_le c.need most) inner.0 in
      record { at = eqb-true c.site.transport transport parts.0; few = leb-true c.need most parts.1; other = inner.1; space = outer.1 }

  may_wanted : (c : Candidate) → may_preempt ds transport most except c ≡ true → is_wanted ds (wanted_with transport c.need except) c ≡ true
  may_wanted c h =
      let p = may_parts c h in
      and_from (is_open ds (wanted_with transport c.need except) c) (not (id_eq c.id except))
      (and_from ((c.site.transport == transport) && (c.need == c.need)) (has_space_at ds c.site)
      (and_from (c.site.transport == transport) (c.need == c.need) (eq-eqb c.site.transport transport p.at) (eq-eqb c.need c.need refl)) p.space) p.other

-- what is so far the best doesn't let a candidate go first
abbrev pub IsCovered : ℕ → List (Numbered Candidate) → Option ℕ → Candidate → Type 0
IsCovered now ks best c = (n : ℕ) × (y : Candidate) × (best ≡ Some n) × (item_at n ks ≡ Some y) × (goes_first now c y ≡ false)

-- its need is still to come
abbrev pub IsToCome : Option ℕ → Candidate → Type 0
IsToCome at c = (d : ℕ) × (at ≡ Some d) × (d ≤ c.need)

-- the number is that of one that passes
abbrev pub IsOne : (Candidate → Bool) → List (Numbered Candidate) → ℕ → Type 0
IsOne test ks n = (y : Candidate) × (item_at n ks ≡ Some y) × (test y ≡ true)

pub record IsSoFar (now : ℕ) (test : Candidate → Bool) (most : ℕ) (ks : List (Numbered Candidate)) (best at : Option ℕ) : Type 0 where
  pub each : (m : ℕ) (c : Candidate) → item_at m ks ≡ Some c → test c ≡ true → IsCovered now ks best c ⊎ IsToCome at c
  pub one : IfSome best (IsOne test ks)
  pub few : IfSome at (λ d. d ≤ most)

-- how many needs may be left
abbrev pub needs_left : Option ℕ → ℕ
needs_left at = option_map_or (λ d. 2 ^ 64 - d) at 0

-- what is over is so by the best so far
over_tells : (ks : List (Numbered Candidate)) (now age from : ℕ) (best : Option ℕ) → is_over ks now age best from ≡ true → (n : ℕ) × (b : Candidate) × (best ≡ Some n) × (item_at n ks ≡ Some b) × (nat_lt ((age + 1) * b.need) ((age_at now b + 1) * from) ≡ true)
over_tells ks now age from None h = absurd cc
over_tells ks now age from (Some n) h = step (item_at n ks) refl h
  where
    step : (o : Option Candidate) → item_at n ks ≡ o → option_map_or (λ (b : Candidate). nat_lt ((age + 1) * b.need) ((age_at now b + 1) * from)) o false ≡ true → (m : ℕ) × (b : Candidate) × (Some n ≡ Some m) × (item_at m ks ≡ Some b) × (nat_lt ((age + 1) * b.need) ((age_at now b + 1) * from) ≡ true)
    step None there k = absurd cc
    step (Some b) there k = (n, b, refl, there, k)

module _ (now : ℕ) (ks : List (Numbered Candidate)) (fit : AreFit ks) where
  goes_at : (a b : ℕ) (x y : Candidate) → item_at a ks ≡ Some x → item_at b ks ≡ Some y → goes_first_at ks now a b ≡ goes_first now x y
  goes_at a b x y h k =
      ap (λ o. option_map_or (λ x. option_map_or (λ y. goes_first now x y) (item_at b ks) false) o false) h
      ∙ ap (λ o. option_map_or (λ y. goes_first now x y) o false) k

  module _ (test : Candidate → Bool) where
    -- the better of two passes
    one_better : (a b : Option ℕ) → IfSome a (IsOne test ks) → IfSome b (IsOne test ks) → IfSome (better_of ks now a b) (IsOne test ks)
    one_better None b x y = y
    one_better (Some a) None x y = x
    one_better (Some a) (Some b) x y = step (goes_first_at ks now b a)
      where
        step : (t : Bool) → IfSome (cond t (Some b) (Some a)) (IsOne test ks)
        step true = y
        step false = x

    module _ (m : ℕ) (c : Candidate) (there : item_at m ks ≡ Some c) where
      along : (n k : ℕ) (y z : Candidate) → item_at n ks ≡ Some y → item_at k ks ≡ Some z → goes_first now c y ≡ false → goes_first now y z ≡ false → goes_first now c z ≡ false
      along n k y z h j p q = first_along now c y z (fit m c there).some (fit n y h).some (fit k z j).some p q

      pair_left : (a b : ℕ) (t : Bool) → goes_first_at ks now b a ≡ t → IsCovered now ks (Some a) c → IsOne test ks b → IsCovered now ks (cond t (Some b) (Some a)) c
      pair_left a b false is covered one = covered
      pair_left a b true is covered one =
          let number : Some a ≡ Some covered.0 = covered.2 in
          let same : a ≡ covered.0 = cc in
          let at : item_at a ks ≡ Some covered.1 = ap (λ i. item_at i ks) same ∙ covered.3 in
          let ahead : goes_first now one.0 covered.1 ≡ true = sym (goes_at b a one.0 covered.1 one.1 at) ∙ is in
          (b, one.0, refl, one.1, along a b covered.1 one.0 at one.1 covered.4 (first_back now one.0 covered.1 ahead))

      pair_right : (a b : ℕ) (t : Bool) → goes_first_at ks now b a ≡ t → IsOne test ks a → IsCovered now ks (Some b) c → IsCovered now ks (cond t (Some b) (Some a)) c
      pair_right a b true is one covered = covered
      pair_right a b false is one covered =
          let number : Some b ≡ Some covered.0 = covered.2 in
          let same : b ≡ covered.0 = cc in
          let at : item_at b ks ≡ Some covered.1 = ap (λ i. item_at i ks) same ∙ covered.3 in
          let behind : goes_first now covered.1 one.0 ≡ false = sym (goes_at b a covered.1 one.0 at one.1) ∙ is in
          (a, one.0, refl, one.1, along b a covered.1 one.0 at one.1 covered.4 behind)

      covered_left : (a b : Option ℕ) → IsCovered now ks a c → IfSome b (IsOne test ks) → IsCovered now ks (better_of ks now a b) c
      covered_left None b covered one = absurd (unless_none None covered.0 refl covered.2)
      covered_left (Some a) None covered one = covered
      covered_left (Some a) (Some b) covered one = pair_left a b (goes_first_at ks now b a) refl covered one

      covered_right : (a b : Option ℕ) → IfSome a (IsOne test ks) → IsCovered now ks b c → IsCovered now ks (better_of ks now a b) c
      covered_right None b one covered = covered
      covered_right (Some a) None one covered = absurd (unless_none None covered.0 refl covered.2)
      covered_right (Some a) (Some b) one covered = pair_right a b (goes_first_at ks now b a) refl one covered

      -- the best of the candidate's need covers it
      own_covered : (wanted : Candidate → Bool) (o : Option ℕ) → IsBestOf now wanted ks o → wanted c ≡ true → IsCovered now ks o c
      own_covered wanted None none passes =
          let both : true ≡ false = sym passes ∙ none m c there in
          absurd cc
      own_covered wanted (Some n) best passes = (n, best.candidate, refl, best.there, best.first m c there passes)

own_one : (now : ℕ) (wanted test : Candidate → Bool) (ks : List (Numbered Candidate)) (o : Option ℕ) → ((c : Candidate) → wanted c ≡ true → test c ≡ true) → IsBestOf now wanted ks o → IfSome o (IsOne test ks)
own_one now wanted test ks None may best = tt
own_one now wanted test ks (Some n) may best = (best.candidate, best.there, may best.candidate best.passes)

module _ (v : Items Candidate) (i : Index) (sound : IsOrdered v i) (lanes_apart : AreApart i.lanes.items) (now : ℕ) (ds : List Dest) (shut : AreShut ds i.lanes.items) (transport most : ℕ) (except : Id) where
  abbrev may : Candidate → Bool
  may c = may_preempt ds transport most except c

  few_step : (from : ℕ) (o : Option ℕ) → IsNextNeed transport from most i.lanes.items o → IfSome o (λ d. d ≤ most)
  few_step from None is = tt
  few_step from (Some d) is = is.1

  -- a need that isn't below is still to come
  to_come : (m : ℕ) (c : Candidate) (from : ℕ) (o : Option ℕ) → item_at m v.items ≡ Some c → may c ≡ true → from ≤ c.need → IsNextNeed transport from most i.lanes.items o → IsToCome o c
  to_come m c from o there passes low is =
      let p = may_parts ds transport most except c passes in
      let lane = some_from (lane_of c.site c.need i.lanes.items) (sound.filed.laned m c there) in
      let it = held_item (is_lane c.site c.need) lane.0 i.lanes.items lanes_apart lane.1 in
      let parts = lane_parts c.site c.need it.0 it.2 in
      step lane.0 it.0 it.1 (not_suspended ds i.lanes.items shut lane.0 it.0 it.1 (ap (has_space_at ds) parts.0 ∙ p.space), ap (λ (s : Site). s.transport) parts.0 ∙ p.at) (omega (arith, parts.1, low)) (omega (arith, parts.1, p.few)) parts.1 o is
    where
      step : (n : ℕ) (l : Lane) → item_at n i.lanes.items ≡ Some l → IsWalked transport l → from ≤ l.need → l.need ≤ most → l.need ≡ c.need → (o : Option ℕ) → IsNextNeed transport from most i.lanes.items o → IsToCome o c
      step n l here at low few same None is = absurd (is n l here at low few)
      step n l here at low few same (Some d) is = (d, refl, omega (arith, is.2 n l here at low, same))

  pub so_far_begins : (at : Option ℕ) → IsNextNeed transport 0 most i.lanes.items at → IsSoFar now may most v.items None at
  so_far_begins at is = record {
    each = λ m c there passes. inr (to_come m c 0 at there passes (omega arith) is);
    one = tt;
    few = few_step 0 at is;
  }

  module _ (age : ℕ) (older : (m : ℕ) (c : Candidate) → item_at m v.items ≡ Some c → c.site.transport ≡ transport → age_at now c ≤ age) (d : ℕ) (best at own next : Option ℕ) (here : at ≡ Some d) (so_far : IsSoFar now may most v.items best at) (is_own : IsBestOf now (is_wanted ds (wanted_with transport d except)) v.items own)
      (is_next : IsNextHope v.items now age transport (d + 1) most i.lanes.items (better_of v.items now best own) next) where
    few : d ≤ most
    few = subst (λ (o : Option ℕ). IfSome o (λ e. e ≤ most)) here so_far.few

    own_passes : IfSome own (IsOne may v.items)
    own_passes = own_one now (is_wanted ds (wanted_with transport d except)) may v.items own (λ c h. wanted_may ds transport most except d c few h) is_own

    more_step : (m : ℕ) (c : Candidate) → item_at m v.items ≡ Some c → may c ≡ true → d + 1 ≤ c.need → IsNextHope v.items now age transport (d + 1) most i.lanes.items (better_of v.items now best own) next → IsCovered now v.items (better_of v.items now best own) c ⊎ IsToCome next c
    more_step m c there passes more (inl is) = inr (to_come m c (d + 1) next there passes more is)
    more_step m c there passes more (inr over) =
        let it = over_tells v.items now age (d + 1) (better_of v.items now best own) over.1 in
        inl (it.0, it.1, it.2, it.3, over_first now age (d + 1) c it.1 (older m c there (may_parts ds transport most except c passes).at) more it.4)

    few_next : IsNextHope v.items now age transport (d + 1) most i.lanes.items (better_of v.items now best own) next → IfSome next (λ e. e ≤ most)
    few_next (inl is) = few_step (d + 1) next is
    few_next (inr over) = subst (λ (o : Option ℕ). IfSome o (λ e. e ≤ most)) (sym over.0) tt

    need_step : (m : ℕ) (c : Candidate) → item_at m v.items ≡ Some c → may c ≡ true → d ≤ c.need → (d < c.need) ⊎ (c.need ≤ d) → IsCovered now v.items (better_of v.items now best own) c ⊎ IsToCome next c
    need_step m c there passes low (inl more) = more_step m c there passes (omega (arith, more)) is_next
    need_step m c there passes low (inr no_more) =
        let same : c.need ≡ d = omega (arith, low, no_more) in
        let wanted : is_wanted ds (wanted_with transport d except) c ≡ true = subst (λ e. is_wanted ds (wanted_with transport e except) c ≡ true) same (may_wanted ds transport most except c passes) in
        inl (covered_right now v.items sound.fit may m c there best own so_far.one (own_covered now v.items sound.fit may m c there (is_wanted ds (wanted_with transport d except)) own is_own wanted))

    each_step : (m : ℕ) (c : Candidate) → item_at m v.items ≡ Some c → may c ≡ true → IsCovered now v.items best c ⊎ IsToCome at c → IsCovered now v.items (better_of v.items now best own) c ⊎ IsToCome next c
    each_step m c there passes (inl covered) = inl (covered_left now v.items sound.fit may m c there best own covered own_passes)
    each_step m c there passes (inr later) =
        let both : Some later.0 ≡ Some d = sym later.1 ∙ here in
        let same : later.0 ≡ d = cc in
        need_step m c there passes (omega (arith, later.2, same)) (cases_lt d c.need)

    pub so_far_goes : IsSoFar now may most v.items (better_of v.items now best own) next
    so_far_goes = record {
      each = λ m c there passes. each_step m c there passes (so_far.each m c there passes);
      one = one_better now v.items sound.fit may best own so_far.one own_passes;
      few = few_next is_next;
    }

  -- In the end.
  module _ (apart : AreApart v.items) (keys : AreKeysApart key_eq key_of v.items) (best at : Option ℕ) (done : at ≡ None) (so_far : IsSoFar now may most v.items best at) where
    all_covered : (m : ℕ) (c : Candidate) → item_at m v.items ≡ Some c → may c ≡ true → IsCovered now v.items best c
    all_covered m c there passes = step (so_far.each m c there passes)
      where
        step : IsCovered now v.items best c ⊎ IsToCome at c → IsCovered now v.items best c
        step (inl covered) = covered
        step (inr later) = absurd (unless_none at later.0 done later.1)

    pub ends_none : best ≡ None → IsBest ds transport most now except (values_of v.items) None
    ends_none none = each_of (λ c. may c ≡ false) v.items apart (λ m c there. fails m c there (may c) refl)
      where
        fails : (m : ℕ) (c : Candidate) → item_at m v.items ≡ Some c → (t : Bool) → may c ≡ t → t ≡ false
        fails m c there true passes = let covered = all_covered m c there passes in absurd (unless_none best covered.0 none covered.2)
        fails m c there false passes = refl

    found_by : (n : ℕ) (b : Candidate) → item_at n v.items ≡ Some b → find (is_of b.id b.site) (values_of v.items) ≡ Some b
    found_by n b there =
        let number : first_such (is_of b.id b.site) v.items ≡ Some n = own_found key_eq key_of key_eq-true key_eq-refl n b v.items keys there in
        sym (item_found (is_of b.id b.site) n v.items apart number) ∙ there

    pub ends_some : (n : ℕ) → best ≡ Some n → (b : Candidate) → item_at n v.items ≡ Some b → IsBest ds transport most now except (values_of v.items) (Some b)
    ends_some n is b there =
        let one = subst (λ (o : Option ℕ). IfSome o (IsOne may v.items)) is so_far.one in
        record {
          there = found_by n b there;
          passes = ap may (sym (same_item n one.0 b v.items one.1 there)) ∙ one.2;
          first = each_of (λ c. may c ≡ true → goes_first now c b ≡ false) v.items apart (λ m c here passes.
              let covered = all_covered m c here passes in
              let both : Some covered.0 ≡ Some n = sym covered.2 ∙ is in
              let same : covered.0 ≡ n = cc in
              ap (goes_first now c) (same_item n b covered.1 v.items there (ap (λ k. item_at k v.items) (sym same) ∙ covered.3)) ∙ covered.4);
        }

    pub has_item : (n : ℕ) → best ≡ Some n → item_at n v.items ≡ None → ⊥
    has_item n is none =
        let one = subst (λ (o : Option ℕ). IfSome o (IsOne may v.items)) is so_far.one in
        unless_none (item_at n v.items) one.0 none one.1

    get_step : (n : ℕ) → best ≡ Some n → (o : Option Candidate) → item_at n v.items ≡ o → IsBest ds transport most now except (values_of v.items) o
    get_step n is None there = absurd (has_item n is there)
    get_step n is (Some b) there = ends_some n is b there

    -- the candidate of the number
    pub ends_at : (n : ℕ) → best ≡ Some n → IsBest ds transport most now except (values_of v.items) (item_at n v.items)
    ends_at n is = get_step n is (item_at n v.items) refl
