-- The one of some peers that was sent to before all others.
use Rattle.std.proofs.Common.{◌≡◌, ◌∙◌, ◌∷◌, ◌<◌, ◌≤◌, [], ap, arith, Bool, cond, false, inl, inr, List, None, Option, refl, Some, true, ◌⊎◌}
use Rattle.std.proofs.lemmas.Bool.{and_parts, both_ways, le-ltb, lt-ltb, ltb-false, ltb-true, not-true}
use Rattle.std.specs.Option.{option_map_or}
use Rattle.std.specs.Prelude.{◌&&◌, filter, find, IfSome, not}
use Rattle.q_keyed.proofs.Values.{NonePass}
use Rattle.q_model.proofs.EachLaws.{find-passes}
use Rattle.q_model.specs.Lists.{least}
use Rattle.q_rounds.specs.declared.peer.Peer.{Peer}
use Rattle.q_rounds.specs.Rounds.{is_started, sent_before}

-- the earlier one of two
abbrev earlier : Peer → Option Peer → Peer
earlier p o = option_map_or (λ y. cond (sent_before y p) y p) o p

-- none goes before one that was never sent to
fresh_first : (p : Peer) (o : Option Peer) → is_started p ≡ false → earlier p o ≡ p
fresh_first p None fresh = refl
fresh_first p (Some y) fresh =
    let none : p.last ≤ 0 = ltb-false 0 p.last fresh in
    ap (λ t. cond t y p) (le-ltb y.last p.last (omega (arith, none)))

-- it goes before one that was
fresh_wins : (p q : Peer) → is_started p ≡ false → is_started q ≡ true → earlier q (Some p) ≡ p
fresh_wins p q fresh started =
    let none : p.last ≤ 0 = ltb-false 0 p.last fresh in
    ap (λ t. cond t p q) (lt-ltb p.last q.last (omega (arith, none, ltb-true 0 q.last started)))

module _ (test : Peer → Bool) where
  abbrev pub is_fresh : Peer → Bool
  is_fresh p = test p && not (is_started p)

  fresh_step : (p q : Peer) (qs : List Peer) (t s : Bool) → test q ≡ t → is_started q ≡ s → cond (t && not s) (Some q) (find is_fresh qs) ≡ Some p → is_started p ≡ false → (find is_fresh qs ≡ Some p → least sent_before (filter test qs) ≡ Some p) →
      least sent_before (cond t (q ∷ filter test qs) (filter test qs)) ≡ Some p
  fresh_step p q qs true false t s found fresh rest =
      let same : q ≡ p = cc in
      ap Some (fresh_first q (least sent_before (filter test qs)) s) ∙ ap Some same
  fresh_step p q qs true true t s found fresh rest = ap (λ o. Some (earlier q o)) (rest found) ∙ ap Some (fresh_wins p q fresh s)
  fresh_step p q qs false s t e found fresh rest = rest found

  found_fresh : (p : Peer) (qs : List Peer) → find is_fresh qs ≡ Some p → is_started p ≡ false
  found_fresh p qs found =
      let passes = and_parts (test p) (not (is_started p)) (find-passes is_fresh qs p found) in not-true (is_started p) passes.1

  -- the first that was never sent to
  pub least_fresh : (p : Peer) (ps : List Peer) → find is_fresh ps ≡ Some p → least sent_before (filter test ps) ≡ Some p
  least_fresh p [] found = absurd cc
  least_fresh p (q ∷ qs) found =
      fresh_step p q qs (test q) (is_started q) refl refl found (found_fresh p (q ∷ qs) found) (least_fresh p qs)

  none_step : (q : Peer) (qs : List Peer) (t : Bool) → test q ≡ false → test q ≡ t → filter test qs ≡ [] → cond t (q ∷ filter test qs) (filter test qs) ≡ []
  none_step q qs true none is rest = absurd (both_ways (test q) none is)
  none_step q qs false none is rest = rest

  filtered : (qs : List Peer) → NonePass test qs → filter test qs ≡ []
  filtered [] none = refl
  filtered (q ∷ qs) none = none_step q qs (test q) none.0 refl (filtered qs none.1)

  -- nobody passes
  pub least_none : (ps : List Peer) → NonePass test ps → least sent_before (filter test ps) ≡ None
  least_none ps none = ap (least sent_before) (filtered ps none)

  -- the peer stands among these
  abbrev pub IsAmong : Peer → List Peer → Type 0
  IsAmong p [] = ⊥
  IsAmong p (q ∷ qs) = (q ≡ p) ⊎ IsAmong p qs

  -- each that passes is this one, or was sent to after it
  abbrev pub AreLater : Peer → List Peer → Type 0
  AreLater p [] = Unit {0}
  AreLater p (q ∷ qs) = (test q ≡ true → (q ≡ p) ⊎ (p.last < q.last)) × AreLater p qs

  abbrev IsLater : Peer → Option Peer → Type 0
  IsLater p o = IfSome o (λ y. (y ≡ p) ⊎ (p.last < y.last))

  pick_step : (p q y : Peer) (b : Bool) → (q ≡ p) ⊎ (p.last < q.last) → (y ≡ p) ⊎ (p.last < y.last) → (cond b y q ≡ p) ⊎ (p.last < (cond b y q).last)
  pick_step p q y true a b = b
  pick_step p q y false a b = a

  earlier_later : (p q : Peer) (o : Option Peer) → (q ≡ p) ⊎ (p.last < q.last) → IsLater p o → (earlier q o ≡ p) ⊎ (p.last < (earlier q o).last)
  earlier_later p q None a b = a
  earlier_later p q (Some y) a b = pick_step p q y (sent_before y q) a b

  later_step : (p q : Peer) (qs : List Peer) (t : Bool) → test q ≡ t → (test q ≡ true → (q ≡ p) ⊎ (p.last < q.last)) → IsLater p (least sent_before (filter test qs)) → IsLater p (least sent_before (cond t (q ∷ filter test qs) (filter test qs)))
  later_step p q qs true is own rest = earlier_later p q (least sent_before (filter test qs)) (own is) rest
  later_step p q qs false is own rest = rest

  least_later : (p : Peer) (qs : List Peer) → AreLater p qs → IsLater p (least sent_before (filter test qs))
  least_later p [] later = tt
  least_later p (q ∷ qs) later = later_step p q qs (test q) refl later.0 (least_later p qs later.1)

  -- it stays where the rest was sent to later
  pick_same : (p : Peer) (t : Bool) → cond t p p ≡ p
  pick_same p true = refl
  pick_same p false = refl

  stays_first : (p : Peer) (o : Option Peer) → IsLater p o → earlier p o ≡ p
  stays_first p None later = refl
  stays_first p (Some y) (inl same) = ap (λ z. cond (sent_before z p) z p) same ∙ pick_same p (sent_before p p)
  stays_first p (Some y) (inr after) = ap (λ t. cond t y p) (le-ltb y.last p.last (omega (arith, after)))

  -- it goes before one that was sent to later
  goes_first : (p q : Peer) → p.last < q.last → earlier q (Some p) ≡ p
  goes_first p q after = ap (λ t. cond t p q) (lt-ltb p.last q.last after)

  here : (p q : Peer) (o : Option Peer) → q ≡ p → IsLater p o → Some (earlier q o) ≡ Some p
  here p q o same later = ap (λ z. Some (earlier z o)) same ∙ ap Some (stays_first p o later)

  taken : (p q : Peer) (o : Option Peer) (B : Type 0) → IsLater p o → (B → o ≡ Some p) → (q ≡ p) ⊎ (p.last < q.last) → (q ≡ p) ⊎ B → Some (earlier q o) ≡ Some p
  taken p q o B later rest (inl same) among = here p q o same later
  taken p q o B later rest (inr after) (inl same) = here p q o same later
  taken p q o B later rest (inr after) (inr there) = ap (λ u. Some (earlier q u)) (rest there) ∙ ap Some (goes_first p q after)

  among_step : (p q : Peer) (qs : List Peer) (t : Bool) → test q ≡ t → test p ≡ true → (q ≡ p) ⊎ IsAmong p qs → (test q ≡ true → (q ≡ p) ⊎ (p.last < q.last)) → IsLater p (least sent_before (filter test qs)) → (IsAmong p qs → least sent_before (filter test qs) ≡ Some p) →
      least sent_before (cond t (q ∷ filter test qs) (filter test qs)) ≡ Some p
  among_step p q qs true is passes among own later rest = taken p q (least sent_before (filter test qs)) (IsAmong p qs) later rest (own is) among
  among_step p q qs false is passes (inl same) own later rest = absurd (both_ways (test q) is (ap test same ∙ passes))
  among_step p q qs false is passes (inr there) own later rest = rest there

  -- the one that was sent to longest ago
  pub least_is : (p : Peer) (ps : List Peer) → IsAmong p ps → test p ≡ true → AreLater p ps → least sent_before (filter test ps) ≡ Some p
  least_is p [] among passes later = absurd among
  least_is p (q ∷ qs) among passes later =
      among_step p q qs (test q) refl passes among later.0 (least_later p qs later.1) (λ there. least_is p qs there passes later.1)
