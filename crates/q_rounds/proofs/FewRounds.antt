-- There are no more rounds than peers.
use Rattle.std.proofs.Common.{◌≡◌, ◌∙◌, ◌∷◌, ◌+◌, ◌||◌, ◌<◌, ◌≤◌, [], ap, arith, Bool, cond, false, inl, inr, length, List, not, Option, option_map, refl, Some, subst, sym, true, ℕ}
use Rattle.std.proofs.lemmas.Bool.{both_ways, eqb-true, false_from_ne_true, or_cases, or_left, or_right}
use Rattle.std.specs.List.{list_any}
use Rattle.std.specs.Option.{option_map_or}
use Rattle.std.specs.Prelude.{◌==◌, filter, find}
use Rattle.q_keyed.proofs.Values.{none_passes, NonePass}
use Rattle.q_keyed.specs.Numbered.{AreApart, AreKeysApart, has_number, item_at, Numbered, values_of}
use Rattle.q_model.specs.declared.id.Id.{Id}
use Rattle.q_rounds.specs.declared.peer.Peer.{Peer}
use Rattle.q_rounds.specs.declared.round.Round.{Round}
use Rattle.q_rounds.specs.Jobs.{AreRounds, is_round, key_of_round, round_at, round_eq, rows_at}
use Rattle.q_rounds.specs.Rounds.{is_peer_for, rows_left}
use Rattle.q_rounds.proofs.Lookups.{here_at, later_at, none_at}
use Rattle.q_rounds.proofs.RoundSets.{job_from, job_parts}

abbrev is_for : Round → Peer → Bool
is_for r p = is_peer_for r.id r.transport p

-- each round has a peer
abbrev AreUsed : List (Numbered Round) → List Peer → Type 0
AreUsed [] ps = Unit {0}
AreUsed (k ∷ ks) ps = (list_any (is_for k.item) ps ≡ true) × AreUsed ks ps

most_step : (p : Peer) (ps : List Peer) (t : Bool) → length (cond t (p ∷ ps) ps) ≤ length ps + 1
most_step p ps true = omega arith
most_step p ps false = omega arith

most_left : (q : Peer → Bool) (ps : List Peer) → length (filter q ps) ≤ length ps
most_left q [] = omega arith
most_left q (p ∷ ps) = omega (arith, most_step p (filter q ps) (q p), most_left q ps)

fewer_step : (p : Peer) (ps qs : List Peer) (t any : Bool) → (t || any) ≡ true → length qs ≤ length ps → (any ≡ true → length qs < length ps) → length (cond (not t) (p ∷ qs) qs) < length (p ∷ ps)
fewer_step p ps qs true any h most rest = omega (arith, most)
fewer_step p ps qs false any h most rest = omega (arith, rest h)

fewer : (q : Peer → Bool) (ps : List Peer) → list_any q ps ≡ true → length (filter (λ p. not (q p)) ps) < length ps
fewer q [] h = absurd cc
fewer q (p ∷ ps) h = fewer_step p ps (filter (λ p. not (q p)) ps) (q p) (list_any q ps) h (most_left (λ p. not (q p)) ps) (fewer q ps)

-- a peer is of one round
one_round : (r s : Round) (p : Peer) → is_for r p ≡ true → is_for s p ≡ true → is_round r.id r.transport s ≡ true
one_round r s p a b =
    let x = job_parts p.id p.site.transport r.id r.transport a in
    let y = job_parts p.id p.site.transport s.id s.transport b in
    job_from s.id s.transport r.id r.transport (sym y.0 ∙ x.0) (sym y.1 ∙ x.1)

other_step : (r s : Round) (p : Peer) (qs : List Peer) (t any : Bool) → is_for r p ≡ t → is_round r.id r.transport s ≡ false → (is_for s p || any) ≡ true → (any ≡ true → list_any (is_for s) qs ≡ true) → list_any (is_for s) (cond (not t) (p ∷ qs) qs) ≡ true
other_step r s p qs true any e differ h rest =
    elim (or_cases (is_for s p) any h) [
      | inl own ↦ absurd (both_ways (is_round r.id r.transport s) differ (one_round r s p e own))
      | inr later ↦ rest later
    ]
other_step r s p qs false any e differ h rest =
    elim (or_cases (is_for s p) any h) [
      | inl own ↦ or_left (is_for s p) (list_any (is_for s) qs) own
      | inr later ↦ or_right (is_for s p) (list_any (is_for s) qs) (rest later)
    ]

other_left : (r s : Round) (ps : List Peer) → is_round r.id r.transport s ≡ false → list_any (is_for s) ps ≡ true → list_any (is_for s) (filter (λ p. not (is_for r p)) ps) ≡ true
other_left r s [] differ h = h
other_left r s (p ∷ ps) differ h =
    other_step r s p (filter (λ p. not (is_for r p)) ps) (is_for r p) (list_any (is_for s) ps) refl differ h (other_left r s ps differ)

others_used : (r : Round) (ks : List (Numbered Round)) (ps : List Peer) → NonePass (is_round r.id r.transport) (values_of ks) → AreUsed ks ps → AreUsed ks (filter (λ p. not (is_for r p)) ps)
others_used r [] ps none used = tt
others_used r (k ∷ ks) ps none used = (other_left r k.item ps none.0 used.0, others_used r ks ps none.1 used.1)

few : (ks : List (Numbered Round)) (ps : List Peer) → AreKeysApart round_eq key_of_round ks → AreUsed ks ps → length ks ≤ length ps
few [] ps keys used = omega arith
few (k ∷ ks) ps keys used =
    let left = fewer (is_for k.item) ps used.0 in
    let rest = few ks (filter (λ p. not (is_for k.item p)) ps) keys.1 (others_used k.item ks ps (none_passes (is_round k.item.id k.item.transport) ks keys.0) used.1) in
    omega (arith, left, rest)

-- Where rows wait, a peer is of the round.
any_step : (i : Id) (t : ℕ) (p : Peer) (ps : List Peer) (b : Bool) → 1 ≤ cond b p.waiting 0 + rows_left i t ps → (1 ≤ rows_left i t ps → list_any (is_peer_for i t) ps ≡ true) → (b || list_any (is_peer_for i t) ps) ≡ true
any_step i t p ps true some rest = refl
any_step i t p ps false some rest = rest (omega (arith, some))

any_peer : (i : Id) (t : ℕ) (ps : List Peer) → 1 ≤ rows_left i t ps → list_any (is_peer_for i t) ps ≡ true
any_peer i t [] some = absurd (omega (arith, some))
any_peer i t (p ∷ ps) some = any_step i t p ps (is_peer_for i t p) some (any_peer i t ps)

-- A round is found by its own job.
own_step : (n : ℕ) (y : Round) (k : Numbered Round) (ks : List (Numbered Round)) (t : Bool) → (k.number == n) ≡ t → option_map (λ (k : Numbered Round). k.item) (cond t (Some k) (find (has_number n) ks)) ≡ Some y → NonePass (is_round k.item.id k.item.transport) (values_of ks) →
    (item_at n ks ≡ Some y → round_at y.id y.transport ks ≡ Some n) → round_at y.id y.transport (k ∷ ks) ≡ Some n
own_step n y k ks true e there none rest =
    let same : k.item ≡ y = cc in
    let passes : is_round y.id y.transport k.item ≡ true = ap (is_round y.id y.transport) same ∙ job_from y.id y.transport y.id y.transport refl refl in
    ap (λ b. option_map (λ (k : Numbered Round). k.number) (cond b (Some k) (find (λ k. is_round y.id y.transport k.item) ks))) passes ∙ ap Some (eqb-true k.number n e)
own_step n y k ks false e there none rest =
    let fails : is_round y.id y.transport k.item ≡ false =
    false_from_ne_true (is_round y.id y.transport k.item)
    (λ h.
    let parts = job_parts k.item.id k.item.transport y.id y.transport h in
    both_ways (is_round k.item.id k.item.transport y) (none_at (is_round k.item.id k.item.transport) n y ks none there) (job_from y.id y.transport k.item.id k.item.transport (sym parts.0) (sym parts.1)))
    in
    ap (λ b. option_map (λ (k : Numbered Round). k.number) (cond b (Some k) (find (λ k. is_round y.id y.transport k.item) ks))) fails ∙ rest there

own_found : (n : ℕ) (y : Round) (ks : List (Numbered Round)) → AreKeysApart round_eq key_of_round ks → item_at n ks ≡ Some y → round_at y.id y.transport ks ≡ Some n
own_found n y [] keys there = absurd cc
own_found n y (k ∷ ks) keys there = own_step n y k ks (k.number == n) refl there (none_passes (is_round k.item.id k.item.transport) ks keys.0) (own_found n y ks keys.1)

used_from : (ks : List (Numbered Round)) (ps : List Peer) → AreApart ks → ((n : ℕ) (r : Round) → item_at n ks ≡ Some r → 1 ≤ rows_left r.id r.transport ps) → AreUsed ks ps
used_from [] ps apart rows = tt
used_from (k ∷ ks) ps apart rows = (
  any_peer k.item.id k.item.transport ps (rows k.number k.item (here_at k ks)),
  used_from ks ps apart.1 (λ n r h. rows n r (later_at n r k ks apart.0 h)),
)

own_rows : (room : ℕ) (rs : List (Numbered Round)) (ps : List Peer) (n : ℕ) (r : Round) → AreKeysApart round_eq key_of_round rs → AreRounds room rs ps → item_at n rs ≡ Some r → 1 ≤ rows_left r.id r.transport ps
own_rows room rs ps n r keys counted there =
    let is : r.waiting ≡ rows_left r.id r.transport ps =
    sym (ap (λ (o : Option Round). option_map_or (λ (r : Round). r.waiting) o 0) there) ∙ sym (ap (rows_at rs) (own_found n r rs keys there)) ∙ counted.rows r.id r.transport
    in
    subst (λ m. 1 ≤ m) is (counted.each n r there).some

pub few_rounds : (room : ℕ) (rs : List (Numbered Round)) (ps : List Peer) → AreApart rs → AreKeysApart round_eq key_of_round rs → AreRounds room rs ps → length rs ≤ length ps
few_rounds room rs ps apart keys counted = few rs ps keys (used_from rs ps apart (λ n r h. own_rows room rs ps n r keys counted h))
