-- There are no more lanes than peers.
use Rattle.std.proofs.Common.{◌≡◌, ◌∙◌, ◌∷◌, ◌+◌, ◌||◌, ◌<◌, ◌≤◌, [], ap, arith, Bool, cond, false, inl, inr, length, List, not, refl, Some, sym, true, ℕ}
use Rattle.std.proofs.lemmas.Bool.{both_ways, or_cases, or_left, or_right}
use Rattle.std.specs.List.{list_any}
use Rattle.std.specs.Prelude.{filter}
use Rattle.q_keyed.proofs.Values.{none_passes, NonePass}
use Rattle.q_keyed.specs.Numbered.{AreApart, AreKeysApart, item_at, Numbered, values_of}
use Rattle.q_model.proofs.IdLaws.{site_eq-refl, site_eq-true}
use Rattle.q_model.specs.Sites.{site_eq}
use Rattle.q_model.specs.Values.{Site}
use Rattle.q_turns.specs.declared.lane.Lane.{Lane}
use Rattle.q_rounds.specs.declared.peer.Peer.{Peer}
use Rattle.q_turns.specs.Heading.{is_lane_of}
use Rattle.q_turns.specs.Sound.{IsUsed}
use Rattle.q_turns.proofs.Choosing.{any_peer}
use Rattle.q_rounds.proofs.Lookups.{here_at, later_at}

abbrev is_there : Site → Peer → Bool
is_there site p = site_eq p.site site

-- each lane has a peer at its site
abbrev AreUsed : List (Numbered Lane) → List Peer → Type 0
AreUsed [] ps = Unit {0}
AreUsed (k ∷ ks) ps = (list_any (is_there k.item.site) ps ≡ true) × AreUsed ks ps

most_step : (p : Peer) (ps : List Peer) (t : Bool) → length (cond t (p ∷ ps) ps) ≤ length ps + 1
most_step p ps true = omega arith
most_step p ps false = omega arith

most_left : (q : Peer → Bool) (ps : List Peer) → length (filter q ps) ≤ length ps
most_left q [] = omega arith
most_left q (p ∷ ps) = omega (arith, most_step p (filter q ps) (q p), most_left q ps)

fewer_step : (p : Peer) (ps qs : List Peer) (t any : Bool) → (t || any) ≡ true → length qs ≤ length ps → (any ≡ true → length qs < length ps) → length (cond (not t) (p ∷ qs) qs) < length (p ∷ ps)
fewer_step p ps qs true any h most rest = omega (arith, most)
fewer_step p ps qs false any h most rest = omega (arith, rest h)

fewer : (q : Peer → Bool) (ps : List Peer) → list_any q ps ≡ true → length (filter (λ p. not (q p)) ps) < length ps
fewer q [] h = absurd cc
fewer q (p ∷ ps) h = fewer_step p ps (filter (λ p. not (q p)) ps) (q p) (list_any q ps) h (most_left (λ p. not (q p)) ps) (fewer q ps)

other_step : (site other : Site) (p : Peer) (qs : List Peer) (t any : Bool) → is_there site p ≡ t → site_eq other site ≡ false → (is_there other p || any) ≡ true → (any ≡ true → list_any (is_there other) qs ≡ true) → list_any (is_there other) (cond (not t) (p ∷ qs) qs) ≡ true
other_step site other p qs true any e differ h rest =
    elim (or_cases (is_there other p) any h) [
      | inl own ↦ absurd (both_ways (site_eq other site) differ (ap (λ s. site_eq s site) (sym (site_eq-true p.site other own)) ∙ e))
      | inr later ↦ rest later
    ]
other_step site other p qs false any e differ h rest =
    elim (or_cases (is_there other p) any h) [
      | inl own ↦ or_left (is_there other p) (list_any (is_there other) qs) own
      | inr later ↦ or_right (is_there other p) (list_any (is_there other) qs) (rest later)
    ]

other_left : (site other : Site) (ps : List Peer) → site_eq other site ≡ false → list_any (is_there other) ps ≡ true → list_any (is_there other) (filter (λ p. not (is_there site p)) ps) ≡ true
other_left site other [] differ h = h
other_left site other (p ∷ ps) differ h =
    other_step site other p (filter (λ p. not (is_there site p)) ps) (is_there site p) (list_any (is_there other) ps) refl differ h (other_left site other ps differ)

others_used : (site : Site) (ks : List (Numbered Lane)) (ps : List Peer) → NonePass (is_lane_of site) (values_of ks) → AreUsed ks ps → AreUsed ks (filter (λ p. not (is_there site p)) ps)
others_used site [] ps none used = tt
others_used site (k ∷ ks) ps none used = (other_left site k.item.site ps none.0 used.0, others_used site ks ps none.1 used.1)

few : (ks : List (Numbered Lane)) (ps : List Peer) → AreKeysApart site_eq (λ (l : Lane). l.site) ks → AreUsed ks ps → length ks ≤ length ps
few [] ps keys used = omega arith
few (k ∷ ks) ps keys used =
    let left = fewer (is_there k.item.site) ps used.0 in
    let rest = few ks (filter (λ p. not (is_there k.item.site p)) ps) keys.1 (others_used k.item.site ks ps (none_passes (is_lane_of k.item.site) ks keys.0) used.1) in
    omega (arith, left, rest)

used_from : (ks : List (Numbered Lane)) (peers : List (Numbered Peer)) → AreApart ks → ((j : ℕ) (l : Lane) → item_at j ks ≡ Some l → IsUsed l.site peers) → AreUsed ks (values_of peers)
used_from [] peers apart used = tt
used_from (k ∷ ks) peers apart used =
    let is = used k.number k.item (here_at k ks) in (
      any_peer (is_there k.item.site) is.number is.peer peers is.there (ap (λ s. site_eq s k.item.site) is.at ∙ site_eq-refl k.item.site),
      used_from ks peers apart.1 (λ j l h. used j l (later_at j l k ks apart.0 h)),
    )

pub few_lanes : (lanes : List (Numbered Lane)) (peers : List (Numbered Peer)) → AreApart lanes → AreKeysApart site_eq (λ (l : Lane). l.site) lanes → ((j : ℕ) (l : Lane) → item_at j lanes ≡ Some l → IsUsed l.site peers) → length lanes ≤ length (values_of peers)
few_lanes lanes peers apart keys used = few lanes (values_of peers) keys (used_from lanes peers apart used)
