-- The sites of lanes that are suspended.
use Rattle.std.proofs.Common.{◌≡◌, ◌∙◌, ◌∷◌, [], ap, Bool, cond, false, filter, find, inl, inr, List, map, None, option_map, refl, Some, sym, true, ℕ, ◌⊎◌}
use Rattle.std.proofs.lemmas.Bool.{both_ways, or_cases, or_left, or_right}
use Rattle.std.specs.Option.{option_map_or}
use Rattle.std.specs.Prelude.{◌==◌, ◌&&◌, ◌||◌}
use Rattle.q_dest.specs.declared.dest.Dest.{Dest}
use Rattle.q_keyed.specs.Numbered.{AreApart, has_number, item_at, Numbered, values_of}
use Rattle.q_model.proofs.IdLaws.{site_eq-refl, site_eq-true}
use Rattle.q_model.specs.Sites.{site_eq}
use Rattle.q_model.specs.Values.{Site}
use Rattle.q_rounds.proofs.Lookups.{here_at, later_at}
use Rattle.q_candidates.specs.declared.lane.Lane.{Lane}
use Rattle.q_candidates.specs.Filing.{AreFrom, AreLeft}
use Rattle.q_candidates.specs.Suspending.{AreIn, AreInAnew, AreInWith, AreSet, differs, differs_at, HaveNoSpace, is_in, sites_of}
use Rattle.q_candidates.specs.Walking.{AreShut}

-- The site of a lane that is suspended is one of them.
here_step : (k : Numbered Lane) (ks : List (Numbered Lane)) (t : Bool) → t ≡ true → is_in k.item.site (map (λ (l : Lane). l.site) (cond t (k.item ∷ filter (λ (l : Lane). l.suspended) (values_of ks)) (filter (λ (l : Lane). l.suspended) (values_of ks)))) ≡ true
here_step k ks true h = or_left (site_eq k.item.site k.item.site) (is_in k.item.site (sites_of ks)) (site_eq-refl k.item.site)
here_step k ks false h = absurd cc

more_step : (site : Site) (k : Numbered Lane) (ks : List (Numbered Lane)) (t : Bool) → is_in site (sites_of ks) ≡ true → is_in site (map (λ (l : Lane). l.site) (cond t (k.item ∷ filter (λ (l : Lane). l.suspended) (values_of ks)) (filter (λ (l : Lane). l.suspended) (values_of ks)))) ≡ true
more_step site k ks true h = or_right (site_eq site k.item.site) (is_in site (sites_of ks)) h
more_step site k ks false h = h

in_step : (n : ℕ) (l : Lane) (k : Numbered Lane) (ks : List (Numbered Lane)) (t : Bool) → option_map (λ (k : Numbered Lane). k.item) (cond t (Some k) (find (has_number n) ks)) ≡ Some l → l.suspended ≡ true → (item_at n ks ≡ Some l → is_in l.site (sites_of ks) ≡ true) → is_in l.site (sites_of (k ∷ ks)) ≡ true
in_step n l k ks true there is rest =
    let same : k.item ≡ l = cc in
    ap (λ (y : Lane). is_in y.site (sites_of (k ∷ ks))) (sym same) ∙ here_step k ks k.item.suspended (ap (λ (y : Lane). y.suspended) same ∙ is)
in_step n l k ks false there is rest = more_step l.site k ks k.item.suspended (rest there)

lane_in : (n : ℕ) (l : Lane) (ks : List (Numbered Lane)) → item_at n ks ≡ Some l → l.suspended ≡ true → is_in l.site (sites_of ks) ≡ true
lane_in n l [] there is = absurd cc
lane_in n l (k ∷ ks) there is = in_step n l k ks (k.number == n) there is (λ h. lane_in n l ks h is)

-- And each of them is the site of one.
record HasLane (site : Site) (ks : List (Numbered Lane)) : Type 0 where
  number : ℕ
  lane : Lane
  there : item_at number ks ≡ Some lane
  at : lane.site ≡ site
  suspended : lane.suspended ≡ true

later_lane : (site : Site) (k : Numbered Lane) (ks : List (Numbered Lane)) → find (has_number k.number) ks ≡ None → HasLane site ks → HasLane site (k ∷ ks)
later_lane site k ks lacks has = record { number = has.number; lane = has.lane; there = later_at has.number has.lane k ks lacks has.there; at = has.at; suspended = has.suspended }

has_step : (site : Site) (k : Numbered Lane) (ks : List (Numbered Lane)) (t : Bool) → k.item.suspended ≡ t → find (has_number k.number) ks ≡ None → is_in site (map (λ (l : Lane). l.site) (cond t (k.item ∷ filter (λ (l : Lane). l.suspended) (values_of ks)) (filter (λ (l : Lane). l.suspended) (values_of ks)))) ≡ true → (is_in site (sites_of ks) ≡ true → HasLane site ks) → HasLane site (k ∷ ks)
has_step site k ks false e lacks h rest = later_lane site k ks lacks (rest h)
has_step site k ks true e lacks h rest =
    elim (or_cases (site_eq site k.item.site) (is_in site (sites_of ks)) h) [
      | inl here ↦ record { number = k.number; lane = k.item; there = here_at k ks; at = sym (site_eq-true site k.item.site here); suspended = e }
      | inr later ↦ later_lane site k ks lacks (rest later)
    ]

has_lane : (site : Site) (ks : List (Numbered Lane)) → AreApart ks → is_in site (sites_of ks) ≡ true → HasLane site ks
has_lane site [] apart h = absurd cc
has_lane site (k ∷ ks) apart h = has_step site k ks k.item.suspended refl apart.0 h (has_lane site ks apart.1)

-- where none of them has space, no lane that is suspended has
pub lanes_shut : (ds : List Dest) (lanes : List (Numbered Lane)) → HaveNoSpace ds (sites_of lanes) → AreShut ds lanes
lanes_shut ds lanes shut n l there is = shut l.site (lane_in n l lanes there is)

-- What calls make of them.
pub sites_left : (old new : List (Numbered Lane)) → AreApart new → AreLeft old new → AreIn (sites_of old) (sites_of new)
sites_left old new apart left s h =
    let has = has_lane s new apart h in
    ap (λ t. is_in t (sites_of old)) (sym has.at) ∙ lane_in has.number has.lane old (left has.number has.lane has.there) has.suspended

-- one that was left may be made anew
pub left_from : (site : Site) (suspended : Bool) (old between new : List (Numbered Lane)) → AreLeft old between → AreFrom site suspended between new → AreFrom site suspended old new
left_from site suspended old between new left from n l h = step (from n l h)
  where
    step : (item_at n between ≡ Some l) ⊎ ((l.site ≡ site) × (l.suspended ≡ suspended)) → (item_at n old ≡ Some l) ⊎ ((l.site ≡ site) × (l.suspended ≡ suspended))
    step (inl stood) = inl (left n l stood)
    step (inr made) = inr made

module _ (site : Site) (suspended : Bool) (old new : List (Numbered Lane)) (apart : AreApart new) where
  pub sites_with : AreFrom site suspended old new → AreInWith site suspended (sites_of old) (sites_of new)
  sites_with from s h = step (from has.number has.lane has.there)
    where
      has : HasLane s new
      has = has_lane s new apart h

      step : (item_at has.number old ≡ Some has.lane) ⊎ ((has.lane.site ≡ site) × (has.lane.suspended ≡ suspended)) → (is_in s (sites_of old) || site_eq s site && suspended) ≡ true
      step (inl stood) = or_left (is_in s (sites_of old)) (site_eq s site && suspended) (ap (λ t. is_in t (sites_of old)) (sym has.at) ∙ lane_in has.number has.lane old stood has.suspended)
      step (inr made) =
          or_right (is_in s (sites_of old)) (site_eq s site && suspended)
          (ap (λ t. site_eq t site && suspended) (sym has.at) ∙ ap (λ t. site_eq t site && suspended) made.0 ∙ ap (λ b. b && suspended) (site_eq-refl site) ∙ sym made.1 ∙ has.suspended)

  pub sites_anew : AreSet site suspended old new → AreInAnew site suspended (sites_of old) (sites_of new)
  sites_anew set s h = step (site_eq s site) refl
    where
      has : HasLane s new
      has = has_lane s new apart h

      stands : (item_at has.number old ≡ Some has.lane) ⊎ ((has.lane.site ≡ site) × (has.lane.suspended ≡ suspended)) → site_eq s site ≡ false → is_in s (sites_of old) ≡ true
      stands (inl stood) e = ap (λ t. is_in t (sites_of old)) (sym has.at) ∙ lane_in has.number has.lane old stood has.suspended
      stands (inr made) e = absurd (both_ways (site_eq s site) e (ap (λ t. site_eq t site) (sym has.at ∙ made.0) ∙ site_eq-refl site))

      -- a lane of the site is set
      own : (t : Bool) → t ≡ suspended → site_eq s site ≡ true → suspended ≡ true
      own true is e = sym is
      own false is e =
          let at : site_eq has.lane.site site ≡ true = ap (λ t. site_eq t site) has.at ∙ e in
          let left : differs_at site false new has.number ≡ true = ap (λ o. option_map_or (differs site false) o false) has.there ∙ ap (λ b. b && has.lane.suspended) at ∙ has.suspended in
          absurd (both_ways (differs_at site false new has.number) (ap (λ b. differs_at site b new has.number) is ∙ set.own has.number) left)

      step : (t : Bool) → site_eq s site ≡ t → cond t suspended (is_in s (sites_of old)) ≡ true
      step true e = own suspended refl e
      step false e = stands (set.from has.number has.lane has.there) e
