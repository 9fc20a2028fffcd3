-- The lanes of candidates, of which there are no more than candidates.
use Rattle.std.proofs.Common.{◌≡◌, ◌≢◌, ◌∙◌, ◌∷◌, ◌≤◌, [], ap, arith, false, length, List, Some, sym, true, ℕ}
use Rattle.std.proofs.lemmas.Bool.{and_from, and_parts, both_ways, eq-eqb, eqb-true, false_from_ne_true}
use Rattle.std.specs.Option.{is_some}
use Rattle.std.specs.Prelude.{◌==◌}
use Rattle.q_dest.specs.declared.dest.Dest.{Dest}
use Rattle.q_keyed.proofs.Values.{held_item, none_passes}
use Rattle.q_keyed.specs.Numbered.{AreApart, AreKeysApart, item_at, Numbered, without_number}
use Rattle.q_model.proofs.IdLaws.{site_eq-refl, site_eq-true}
use Rattle.q_model.specs.Sites.{site_eq}
use Rattle.q_model.specs.Values.{Site}
use Rattle.q_rounds.proofs.Lookups.{fewer_at, here_at, later_at, none_at, other_left}
use Rattle.q_rounds.specs.Rounds.{has_space_at}
use Rattle.q_candidates.specs.declared.candidate.Candidate.{Candidate}
use Rattle.q_candidates.specs.declared.lane.Lane.{Lane}
use Rattle.q_candidates.specs.Filing.{is_lane, key_of_lane, lane_eq, lane_of}
use Rattle.q_candidates.specs.LaneLaws.{lane_eq-refl, lane_eq-true}
use Rattle.q_candidates.specs.Sound.{IsUsed}
use Rattle.q_candidates.specs.Walking.{AreShut}
use Rattle.q_candidates.proofs.Keys.{own_found}

pub lane_parts : (site : Site) (need : ℕ) (l : Lane) → is_lane site need l ≡ true → (l.site ≡ site) × (l.need ≡ need)
lane_parts site need l h =
    let parts = and_parts (site_eq l.site site) (l.need == need) h in
    (site_eq-true l.site site parts.0, eqb-true l.need need parts.1)

pub lane_from : (site : Site) (need : ℕ) (l : Lane) → l.site ≡ site → l.need ≡ need → is_lane site need l ≡ true
lane_from site need l a b = and_from (site_eq l.site site) (l.need == need) (ap (λ s. site_eq s site) a ∙ site_eq-refl site) (eq-eqb l.need need b)

-- the lane of a site and a need has both
pub lane_named : (site : Site) (need n : ℕ) (lanes : List (Numbered Lane)) (l : Lane) → AreApart lanes → lane_of site need lanes ≡ Some n → item_at n lanes ≡ Some l → (l.site ≡ site) × (l.need ≡ need)
lane_named site need n lanes l apart found there =
    let it = held_item (is_lane site need) n lanes apart found in
    let some : Some it.0 ≡ Some l = sym it.1 ∙ there in
    let same : it.0 ≡ l = cc in
    lane_parts site need l (ap (is_lane site need) (sym same) ∙ it.2)

-- and it is found by them
pub lane_own : (n : ℕ) (l : Lane) (lanes : List (Numbered Lane)) → AreKeysApart lane_eq key_of_lane lanes → item_at n lanes ≡ Some l → lane_of l.site l.need lanes ≡ Some n
lane_own n l lanes keys there = own_found lane_eq key_of_lane lane_eq-true lane_eq-refl n l lanes keys there

-- a lane whose site has space isn't suspended
pub not_suspended : (ds : List Dest) (lanes : List (Numbered Lane)) → AreShut ds lanes → (n : ℕ) (l : Lane) → item_at n lanes ≡ Some l → has_space_at ds l.site ≡ true → l.suspended ≡ false
not_suspended ds lanes shut n l there space = false_from_ne_true l.suspended (λ h. both_ways (has_space_at ds l.site) (shut n l there h) space)

pub few_lanes : (lanes : List (Numbered Lane)) (ks : List (Numbered Candidate)) → AreApart lanes → AreKeysApart lane_eq key_of_lane lanes → ((n : ℕ) (l : Lane) → item_at n lanes ≡ Some l → IsUsed l.site l.need ks) → length lanes ≤ length ks
few_lanes [] ks apart keys used = omega arith
few_lanes (k ∷ lanes) ks apart keys used =
    let u = used k.number k.item (here_at k lanes) in
    let left = fewer_at u.number ks (ap is_some u.there) in
    let rest = few_lanes lanes (without_number u.number ks) apart.1 keys.1 (λ n l h.
    let v = used n l (later_at n l k lanes apart.0 h) in
    let other : v.number ≢ u.number = λ same.
    let some : Some u.candidate ≡ Some v.candidate = sym u.there ∙ ap (λ m. item_at m ks) (sym same) ∙ v.there in
    let one : u.candidate ≡ v.candidate = cc in
    both_ways (is_lane k.item.site k.item.need l) (none_at (is_lane k.item.site k.item.need) n l lanes (none_passes (is_lane k.item.site k.item.need) lanes keys.0) h)
    (lane_from k.item.site k.item.need l (sym v.at ∙ ap (λ (c : Candidate). c.site) (sym one) ∙ u.at) (sym v.needs ∙ ap (λ (c : Candidate). c.need) (sym one) ∙ u.needs))
    in
    record { number = v.number; candidate = v.candidate; there = other_left u.number v.number ks other ∙ v.there; at = v.at; needs = v.needs })
    in
    omega (arith, left, rest)
