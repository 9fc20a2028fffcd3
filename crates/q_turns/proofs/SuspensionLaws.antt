-- Sites as they are suspended and resumed.
use Rattle.std.proofs.Common.{◌≡◌, ◌∙◌, ◌∷◌, ◌++◌, ◌+◌, ◌-◌, ◌<◌, ◌≤◌, [], ap, arith, Bool, cond, false, length, List, None, not, refl, Some, sym, true, ℕ}
use Rattle.std.proofs.lemmas.Bool.{both_ways, false_from_ne_true}
use Rattle.std.proofs.lemmas.Bool.Decides.{nat_tests}
use Rattle.std.specs.List.{list_any}
use Rattle.std.specs.Prelude.{◌||◌, filter, find, nat_lt}
use Rattle.q_dest.specs.declared.dest.Dest.{Dest}
use Rattle.q_model.proofs.IdLaws.{site_eq-refl, site_eq-true}
use Rattle.q_model.specs.Sites.{site_eq}
use Rattle.q_model.specs.Values.{Site}
use Rattle.q_rounds.specs.Rounds.{has_space_at}
use Rattle.q_suspended.specs.Suspensions.{AreApart, is_at, is_due}
use Rattle.q_suspended.specs.declared.suspension.Suspension.{Suspension}
use Rattle.q_turns.specs.Suspending.{HaveNoSpace, suspended_with}

abbrev pub is_else : Site → Suspension → Bool
is_else site s = not (is_at site s)

-- its moment comes later
abbrev pub is_later : ℕ → Suspension → Bool
is_later moment s = nat_lt moment s.until

-- with one site more
more_step : (t : Bool) (u : Bool) → u ≡ false → (t || u) ≡ t
more_step true u h = refl
more_step false u h = h

pub any_more : (other : Site) (s : Suspension) (xs : List Suspension) → site_eq s.site other ≡ false → list_any (is_at other) (xs ++ s ∷ []) ≡ list_any (is_at other) xs
any_more other s [] h = more_step (site_eq s.site other) false refl ∙ h
any_more other s (x ∷ xs) h = ap (λ b. is_at other x || b) (any_more other s xs h)

-- and with one less
less_step : (site other : Site) (x : Suspension) (xs : List Suspension) (t : Bool) → site_eq site other ≡ false → is_at site x ≡ t → list_any (is_at other) (filter (is_else site) xs) ≡ list_any (is_at other) xs → list_any (is_at other) (cond (not t) (x ∷ filter (is_else site) xs) (filter (is_else site) xs)) ≡ (is_at other x || list_any (is_at other) xs)
less_step site other x xs true h e rest = rest ∙ sym (ap (λ b. b || list_any (is_at other) xs) (ap (λ s. site_eq s other) (site_eq-true x.site site e) ∙ h))
less_step site other x xs false h e rest = ap (λ b. is_at other x || b) rest

pub any_less : (site other : Site) (xs : List Suspension) → site_eq site other ≡ false → list_any (is_at other) (filter (is_else site) xs) ≡ list_any (is_at other) xs
any_less site other [] h = refl
any_less site other (x ∷ xs) h = less_step site other x xs (is_at site x) h refl (any_less site other xs h)

-- none goes where none is the site
none_step : (site : Site) (x : Suspension) (xs : List Suspension) (t u : Bool) → (t || u) ≡ false → (u ≡ false → filter (is_else site) xs ≡ xs) → cond (not t) (x ∷ filter (is_else site) xs) (filter (is_else site) xs) ≡ x ∷ xs
none_step site x xs true u h rest = absurd cc
none_step site x xs false u h rest = ap (λ ys. x ∷ ys) (rest h)

pub none_less : (site : Site) (xs : List Suspension) → list_any (is_at site) xs ≡ false → filter (is_else site) xs ≡ xs
none_less site [] h = refl
none_less site (x ∷ xs) h = none_step site x xs (is_at site x) (list_any (is_at site) xs) h (none_less site xs)

-- The room.
pub full : (room : ℕ) (s : Suspension) (xs : List Suspension) → room - length xs ≡ 0 → suspended_with room s xs ≡ xs
full room s xs h =
    let none : nat_lt (length xs) room ≡ false = grind (arith, nat_tests) in
    ap (λ b. cond b (xs ++ s ∷ []) xs) none

pub roomy : (room : ℕ) (s : Suspension) (xs : List Suspension) → length xs < room → xs ++ s ∷ [] ≡ suspended_with room s xs
roomy room s xs h =
    let some : nat_lt (length xs) room ≡ true = grind (arith, nat_tests) in
    sym (ap (λ b. cond b (xs ++ s ∷ []) xs) some)

-- Those whose moment has come.
later_is : (moment : ℕ) (s : Suspension) → is_later moment s ≡ not (is_due moment s)
later_is moment s = grind (arith, nat_tests)

all_step : (moment : ℕ) (x : Suspension) (xs : List Suspension) (t : Bool) → is_due moment x ≡ t → cond t (Some x) (find (is_due moment) xs) ≡ None → (find (is_due moment) xs ≡ None → filter (is_later moment) xs ≡ xs) → filter (is_later moment) (x ∷ xs) ≡ x ∷ xs
all_step moment x xs true e h rest = absurd cc
all_step moment x xs false e h rest =
    ap (λ b. cond b (x ∷ filter (is_later moment) xs) (filter (is_later moment) xs)) (later_is moment x ∙ ap not e) ∙ ap (λ ys. x ∷ ys) (rest h)

-- none has
pub all_later : (moment : ℕ) (xs : List Suspension) → find (is_due moment) xs ≡ None → filter (is_later moment) xs ≡ xs
all_later moment [] h = refl
all_later moment (x ∷ xs) h = all_step moment x xs (is_due moment x) refl h (all_later moment xs)

other_step : (p : Suspension → Bool) (site : Site) (s x : Suspension) (xs : List Suspension) (t u v : Bool) → cond t (Some x) (find p xs) ≡ Some s → site_eq x.site site ≡ u → (u || v) ≡ false → (find p xs ≡ Some s → v ≡ false → site_eq s.site site ≡ false) → site_eq s.site site ≡ false
other_step p site s x xs true u v h e none rest =
    let some : Some x ≡ Some s = h in
    let same : x ≡ s = cc in
    ap (λ (y : Suspension). site_eq y.site site) (sym same) ∙ e ∙ sym (more_step u v (right u v none)) ∙ none
  where
    right : (u v : Bool) → (u || v) ≡ false → v ≡ false
    right true v h = absurd cc
    right false v h = h
other_step p site s x xs false u v h e none rest = rest h (right u v none)
  where
    right : (u v : Bool) → (u || v) ≡ false → v ≡ false
    right true v h = absurd cc
    right false v h = h

-- where none is the site, one that is found isn't
found_else : (p : Suspension → Bool) (site : Site) (s : Suspension) (xs : List Suspension) → find p xs ≡ Some s → list_any (is_at site) xs ≡ false → site_eq s.site site ≡ false
found_else p site s [] h none = absurd cc
found_else p site s (x ∷ xs) h none = other_step p site s x xs (p x) (site_eq x.site site) (list_any (is_at site) xs) h refl none (found_else p site s xs)

pub turned : (a b : Site) → site_eq a b ≡ false → site_eq b a ≡ false
turned a b h = false_from_ne_true (site_eq b a) (λ e. both_ways (site_eq a b) h (ap (site_eq a) (site_eq-true b a e) ∙ site_eq-refl a))

-- the first whose moment has come is resumed
module _ (moment : ℕ) (s : Suspension) where
  same_step : (x : Suspension) (xs : List Suspension) (t : Bool) → is_due moment x ≡ t → cond t (Some x) (find (is_due moment) xs) ≡ Some s → list_any (is_at x.site) xs ≡ false → (find (is_due moment) xs ≡ Some s → filter (is_later moment) (filter (is_else s.site) xs) ≡ filter (is_later moment) xs) →
      filter (is_later moment) (filter (is_else s.site) (x ∷ xs)) ≡ filter (is_later moment) (x ∷ xs)
  same_step x xs true e h apart rest =
      let some : Some x ≡ Some s = h in
      let same : x ≡ s = cc in
      let own : is_at s.site x ≡ true = ap (λ (y : Suspension). site_eq y.site s.site) same ∙ site_eq-refl s.site in
      ap (λ b. filter (is_later moment) (cond (not b) (x ∷ filter (is_else s.site) xs) (filter (is_else s.site) xs))) own
      ∙ ap (λ (y : Suspension). filter (is_later moment) (filter (is_else y.site) xs)) (sym same)
      ∙ ap (filter (is_later moment)) (none_less x.site xs apart)
      ∙ sym (ap (λ b. cond b (x ∷ filter (is_later moment) xs) (filter (is_later moment) xs)) (later_is moment x ∙ ap not e))
  same_step x xs false e h apart rest =
      let other : is_at s.site x ≡ false = turned s.site x.site (found_else (is_due moment) x.site s xs h apart) in
      ap (λ b. filter (is_later moment) (cond (not b) (x ∷ filter (is_else s.site) xs) (filter (is_else s.site) xs))) other
      ∙ ap (λ b. cond b (x ∷ filter (is_later moment) (filter (is_else s.site) xs)) (filter (is_later moment) (filter (is_else s.site) xs))) (later_is moment x ∙ ap not e)
      ∙ ap (λ ys. x ∷ ys) (rest h)
      ∙ sym (ap (λ b. cond b (x ∷ filter (is_later moment) xs) (filter (is_later moment) xs)) (later_is moment x ∙ ap not e))

  pub resumed_same : (xs : List Suspension) → AreApart xs → find (is_due moment) xs ≡ Some s → filter (is_later moment) (filter (is_else s.site) xs) ≡ filter (is_later moment) xs
  resumed_same [] apart h = absurd cc
  resumed_same (x ∷ xs) apart h = same_step x xs (is_due moment x) refl h apart.0 (resumed_same xs apart.1)

most_step : (x : Suspension) (ys : List Suspension) (t : Bool) (n : ℕ) → length ys ≤ n → length (cond t (x ∷ ys) ys) ≤ n + 1
most_step x ys true n h = omega (arith, h)
most_step x ys false n h = omega (arith, h)

most_left : (site : Site) (xs : List Suspension) → length (filter (is_else site) xs) ≤ length xs
most_left site [] = omega arith
most_left site (x ∷ xs) = let most = most_step x (filter (is_else site) xs) (is_else site x) (length xs) (most_left site xs) in omega (arith, most)

fewer_step : (p : Suspension → Bool) (s x : Suspension) (xs : List Suspension) (t u : Bool) → is_at s.site x ≡ u → cond t (Some x) (find p xs) ≡ Some s → (find p xs ≡ Some s → length (filter (is_else s.site) xs) < length xs) → length (cond (not u) (x ∷ filter (is_else s.site) xs) (filter (is_else s.site) xs)) < length (x ∷ xs)
fewer_step p s x xs t true e h rest = let most = most_left s.site xs in omega (arith, most)
fewer_step p s x xs true false e h rest =
    let some : Some x ≡ Some s = h in
    let same : x ≡ s = cc in
    absurd (both_ways (is_at s.site x) e (ap (λ (y : Suspension). site_eq y.site s.site) same ∙ site_eq-refl s.site))
fewer_step p s x xs false false e h rest = let less = rest h in omega (arith, less)

pub resumed_fewer : (p : Suspension → Bool) (s : Suspension) (xs : List Suspension) → find p xs ≡ Some s → length (filter (is_else s.site) xs) < length xs
resumed_fewer p s [] h = absurd cc
resumed_fewer p s (x ∷ xs) h = fewer_step p s x xs (p x) (is_at s.site x) refl h (resumed_fewer p s xs)

shut_step : (ds : List Dest) (site : Site) (s : Suspension) (t u : Bool) → site_eq s.site site ≡ t → has_space_at ds site ≡ true → has_space_at ds s.site ≡ false → u ≡ false → (t || u) ≡ false
shut_step ds site s true u e space shut rest = absurd (both_ways (has_space_at ds site) (ap (has_space_at ds) (sym (site_eq-true s.site site e)) ∙ shut) space)
shut_step ds site s false u e space shut rest = rest

-- a site with space isn't suspended
pub not_suspended : (ds : List Dest) (site : Site) → has_space_at ds site ≡ true → (suspended : List Suspension) → HaveNoSpace ds suspended → list_any (is_at site) suspended ≡ false
not_suspended ds site space [] shut = refl
not_suspended ds site space (s ∷ ss) shut = shut_step ds site s (site_eq s.site site) (list_any (is_at site) ss) refl space shut.0 (not_suspended ds site space ss shut.1)
