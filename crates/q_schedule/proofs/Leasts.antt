-- Which message is the best, among equals the first admitted.
use Rattle.std.proofs.Common.{◌≡◌, ◌∙◌, ◌∷◌, ◌<◌, [], ap, Bool, cond, false, inl, inr, List, None, Option, refl, Some, subst, true, ℕ, ◌⊎◌}
use Rattle.std.proofs.lemmas.Bool.{both_ways, lt-ltb}
use Rattle.std.specs.List.{AllByRecursion}
use Rattle.std.specs.Option.{option_map_or}
use Rattle.std.specs.Prelude.{◌||◌, ◌&&◌, filter, find, nat_lt, not}
use Rattle.q_candidates.specs.Candidates.{goes_first, is_better}
use Rattle.q_model.specs.declared.id.Id.{Id}
use Rattle.q_model.specs.Lists.{least}
use Rattle.q_model.specs.Values.{Site}
use Rattle.q_rounds.specs.declared.peer.Peer.{Peer}
use Rattle.q_schedule.specs.Best.{as_candidate}
use Rattle.q_schedule.specs.declared.admitted.Admitted.{Admitted}
use Rattle.q_schedule.specs.declared.ranked.Ranked.{Ranked}
use Rattle.q_schedule.specs.Schedule.{is_better as is_better_of}
use Rattle.q_schedule.specs.Sound.{AreRanked, is_ranked, messages_of}

-- The least of those that pass.
module _ {X : Type 0} (before : X → X → Bool) (test : X → Bool) where
  -- it stands among these; those that stand before it don't go before it, nor those behind it
  abbrev pub IsChosen : X → List X → Type 0
  IsChosen r [] = ⊥
  IsChosen r (x ∷ xs) = ((x ≡ r) × AllByRecursion (λ y. test y ≡ true → before y r ≡ false) xs)
      ⊎ ((test x ≡ true → before r x ≡ true) × IsChosen r xs)

  abbrev better : X → Option X → X
  better x o = option_map_or (λ y. cond (before y x) y x) o x

  stays_step : (r y : X) (o : Option X) (b : Bool) → before y r ≡ b → b ≡ false → better r (Some y) ≡ r
  stays_step r y o true e h = absurd cc
  stays_step r y o false e h = ap (λ t. cond t y r) e

  stays : (r : X) (o : Option X) → ((y : X) → o ≡ Some y → before y r ≡ false) → better r o ≡ r
  stays r None h = refl
  stays r (Some y) h = ap (λ t. cond t y r) (h y refl)

  some_step : (x : X) (xs : List X) (y : X) (P : X → Type 0) (t : Bool) → test x ≡ t → (test x ≡ true → P x) → ((z : X) → least before (filter test xs) ≡ Some z → P z) → least before (cond t (x ∷ filter test xs) (filter test xs)) ≡ Some y → P y
  some_step x xs y P true is own rest h = pick (least before (filter test xs)) refl h
    where
      chosen : (b : Bool) (z : X) → P z → cond b z x ≡ y → P y
      chosen true z p e = subst P e p
      chosen false z p e = subst P e (own is)

      pick : (o : Option X) → least before (filter test xs) ≡ o → Some (better x o) ≡ Some y → P y
      pick None e k = let same : x ≡ y = cc in subst P same (own is)
      pick (Some z) e k = let same : cond (before z x) z x ≡ y = cc in chosen (before z x) z (rest z e) same
  some_step x xs y P false is own rest h = rest y h

  -- what holds of those that pass holds of the least of them
  pub least_holds : (P : X → Type 0) (xs : List X) → AllByRecursion (λ x. test x ≡ true → P x) xs → (y : X) → least before (filter test xs) ≡ Some y → P y
  least_holds P [] all y h = absurd cc
  least_holds P (x ∷ xs) all y h = some_step x xs y P (test x) refl all.0 (least_holds P xs all.1) h

  is_step : (r x : X) (xs : List X) (t : Bool) → test x ≡ t → test r ≡ true → IsChosen r (x ∷ xs) → (IsChosen r xs → least before (filter test xs) ≡ Some r) →
      least before (cond t (x ∷ filter test xs) (filter test xs)) ≡ Some r
  is_step r x xs true is passes (inl h) rest =
      ap (λ z. Some (better z (least before (filter test xs)))) h.0
      ∙ ap Some (stays r (least before (filter test xs)) (least_holds (λ y. before y r ≡ false) xs h.1))
  is_step r x xs true is passes (inr h) rest = ap (λ o. Some (better x o)) (rest h.1) ∙ ap (λ t. Some (cond t r x)) (h.0 is)
  is_step r x xs false is passes (inl h) rest = absurd (both_ways (test x) is (ap test h.0 ∙ passes))
  is_step r x xs false is passes (inr h) rest = rest h.1

  pub least_is : (r : X) (xs : List X) → test r ≡ true → IsChosen r xs → least before (filter test xs) ≡ Some r
  least_is r [] passes chosen = absurd chosen
  least_is r (x ∷ xs) passes chosen = is_step r x xs (test x) refl passes chosen (least_is r xs passes)

  none_step : (x : X) (xs : List X) (t : Bool) → test x ≡ t → test x ≡ false → least before (filter test xs) ≡ None → least before (cond t (x ∷ filter test xs) (filter test xs)) ≡ None
  none_step x xs true is none rest = absurd (both_ways (test x) none is)
  none_step x xs false is none rest = rest

  pub least_none : (xs : List X) → AllByRecursion (λ x. test x ≡ false) xs → least before (filter test xs) ≡ None
  least_none [] all = refl
  least_none (x ∷ xs) all = none_step x xs (test x) refl all.0 (least_none xs all.1)

-- Messages as candidates at a site.
module _ (s : Site) (ps : List Peer) (transport now : ℕ) where
  not_better : (m n : ℕ) (t u : Bool) → (t || (not u && nat_lt m n)) ≡ false → t ≡ false
  not_better m n true u h = h
  not_better m n false u h = refl

  is_other : (m n : ℕ) (t u : Bool) → (t || (not u && nat_lt m n)) ≡ false → nat_lt m n ≡ true → u ≡ true
  is_other m n true u h k = absurd cc
  is_other m n false true h k = refl
  is_other m n false false h k = absurd (both_ways (nat_lt m n) h k)

  module _ (test : Admitted → Bool) (r : Ranked) where
    -- none that passes goes first
    abbrev pub IsFirst : List Ranked → Type 0
    IsFirst rs = AllByRecursion (λ q. test q.message ≡ true → goes_first now (as_candidate s ps transport q) (as_candidate s ps transport r) ≡ false) rs

    behind : (rs : List Ranked) → IsFirst rs → AllByRecursion (λ y. test y ≡ true → is_better_of ps transport now y r.message ≡ false) (messages_of rs)
    behind [] first = tt
    behind (q ∷ rs) first =
        (λ h. not_better q.rank r.rank (is_better now (as_candidate s ps transport q) (as_candidate s ps transport r)) (is_better now (as_candidate s ps transport r) (as_candidate s ps transport q)) (first.0 h), behind rs first.1)

    found_step : (P : Ranked → Type 0) (q : Ranked) (t : Bool) (o : Option Ranked) → P q → (o ≡ Some r → P r) → cond t (Some q) o ≡ Some r → P r
    found_step P q true o own rest h = let same : q ≡ r = cc in subst P same own
    found_step P q false o own rest h = rest h

    found_holds : (P : Ranked → Type 0) (id : Id) (rs : List Ranked) → AllByRecursion P rs → find (is_ranked id) rs ≡ Some r → P r
    found_holds P id [] all h = absurd cc
    found_holds P id (q ∷ rs) all h = found_step P q (is_ranked id q) (find (is_ranked id) rs) all.0 (found_holds P id rs all.1) h

    chosen_step : (id : Id) (next : ℕ) (q : Ranked) (rs : List Ranked) (t : Bool) → cond t (Some q) (find (is_ranked id) rs) ≡ Some r → AreRanked next (q ∷ rs) → IsFirst (q ∷ rs) →
        (find (is_ranked id) rs ≡ Some r → IsChosen (is_better_of ps transport now) test r.message (messages_of rs)) → IsChosen (is_better_of ps transport now) test r.message (messages_of (q ∷ rs))
    chosen_step id next q rs true h ranked first rest =
        let same : q ≡ r = cc in inl (ap (λ (x : Ranked). x.message) same, behind rs first.1)
    chosen_step id next q rs false h ranked first rest =
        let sooner : q.rank < r.rank = found_holds (λ x. q.rank < x.rank) id rs ranked.1 h in
        inr (λ passes. is_other q.rank r.rank (is_better now (as_candidate s ps transport q) (as_candidate s ps transport r)) (is_better now (as_candidate s ps transport r) (as_candidate s ps transport q)) (first.0 passes) (lt-ltb q.rank r.rank sooner), rest h)

    chosen : (id : Id) (next : ℕ) (rs : List Ranked) → find (is_ranked id) rs ≡ Some r → AreRanked next rs → IsFirst rs → IsChosen (is_better_of ps transport now) test r.message (messages_of rs)
    chosen id next [] h ranked first = absurd cc
    chosen id next (q ∷ rs) h ranked first = chosen_step id next q rs (is_ranked id q) h ranked first (λ k. chosen id next rs k ranked.2 first.1)

    pub best_is : (id : Id) (next : ℕ) (rs : List Ranked) → find (is_ranked id) rs ≡ Some r → AreRanked next rs → test r.message ≡ true → IsFirst rs → least (is_better_of ps transport now) (filter test (messages_of rs)) ≡ Some r.message
    best_is id next rs h ranked passes first = least_is (is_better_of ps transport now) test r.message (messages_of rs) passes (chosen id next rs h ranked first)
