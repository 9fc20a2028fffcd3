-- The peers count the rows that wait, as these come and go, and say what rows say.
use Rattle.std.proofs.Common.{◌≡◌, ◌∙◌, ◌+◌, ◌≤◌, ◌++◌, ap, arith, Bool, cond, false, length, List, [], ◌∷◌, map, None, Option, refl, Some, sym, true, ℕ}
use Rattle.std.proofs.lemmas.Grind.{common_steps}
use Rattle.std.proofs.lemmas.List.{length-append, length-map}
use Rattle.std.specs.List.{list_any, remove}
use Rattle.std.specs.Prelude.{◌||◌, ◌-◌, ◌==◌, count_by, find, nat_lt, not, slice_get}
use Rattle.q_core.proofs.CountLaws.{count_without}
use Rattle.q_core.proofs.ListLaws.{find-any, find-passes}
use Rattle.q_core.proofs.SiteTies.{any_counted}
use Rattle.q_core.proofs.Tallies.{keyed_mapped, tally_comes, tally_fewer, tally_filtered, tally_first, tally_here, tally_there}
use Rattle.q_core.specs.Ties.{ArePeersTied}
use Rattle.q_jobs.specs.declared.job.Job.{Job}
use Rattle.q_model.specs.declared.id.Id.{Id}
use Rattle.q_model.specs.declared.rows.Row.{Row}
use Rattle.q_model.specs.Values.{Site}
use Rattle.q_rounds.specs.KeyLaws.{key_eq-refl, key_eq-true}
use Rattle.q_rounds.specs.declared.peer.Peer.{Peer}
use Rattle.q_rounds.specs.declared.peer.PeerKey.{PeerKey}
use Rattle.q_rounds.specs.Rounds.{gained, is_peer, key_eq, key_of, lost, new_peer, waits}
use Rattle.q_turns.specs.Turns.{AreApart, changed_at, HaveJobs, lost_at}

-- what a row is counted under
abbrev pub name_of : Row → PeerKey
name_of r = record { id = r.id; site = r.site }

none_waits : (p : Peer) → waits p ≡ false → p.waiting ≡ 0
none_waits p h = grind (arith, common_steps, h)

stays : (id : Id) (site : Site) (p : Peer) (b : Bool) → key_of (cond b (lost p) p) ≡ key_of p
stays id site p true = refl
stays id site p false = refl

-- one row less is counted
pub peers_fewer : (rows : List Row) (i : ℕ) (row : Row) (ps : List Peer) → slice_get rows i ≡ Some row → ArePeersTied ps rows → ArePeersTied (map (changed_at row.id row.site lost) ps) (remove rows i)
peers_fewer rows i row ps at tie =
    let k = name_of row in
    let there = tally_there key_eq key_of key_eq-true key_eq-refl (λ p. p.waiting) name_of ps rows k (count_by (λ (r : Row). key_eq (name_of r) k) (remove rows i)) tie
    (count_without (λ (r : Row). key_eq (name_of r) k) rows i row at ∙ ap (λ b. count_by (λ (r : Row). key_eq (name_of r) k) (remove rows i) + cond b 1 0) (key_eq-refl k)) in
    tally_fewer key_eq key_of key_eq-true key_eq-refl (λ p. p.waiting) name_of lost (λ p. refl) ps rows k row there.0 tie refl there.1 (remove rows i) (λ p. count_without p rows i row at) refl

-- a row waits no more
pub peers_lost : (rows : List Row) (i : ℕ) (row : Row) (ps : List Peer) → AreApart ps → slice_get rows i ≡ Some row → ArePeersTied ps rows → ArePeersTied (lost_at row.id row.site ps) (remove rows i)
peers_lost rows i row ps apart at tie =
    tally_filtered key_eq key_of key_eq-true key_eq-refl (λ p. p.waiting) waits name_of (map (changed_at row.id row.site lost) ps) (remove rows i) none_waits
    (keyed_mapped key_eq key_of key_eq-true key_eq-refl (changed_at row.id row.site lost) (λ p. stays row.id row.site p (is_peer row.id row.site p)) ps apart) (peers_fewer rows i row ps at tie)

found_step : {X : Type 0} (p : X → Bool) (x : X) (xs : List X) → (list_any p xs ≡ true → (y : X) × (find p xs ≡ Some y)) → (b : Bool) → (b || list_any p xs) ≡ true → (y : X) × (cond b (Some x) (find p xs) ≡ Some y)
found_step p x xs rest true h = (x, refl)
found_step p x xs rest false h = rest h

pub any_found : {X : Type 0} (p : X → Bool) (xs : List X) → list_any p xs ≡ true → (y : X) × (find p xs ≡ Some y)
any_found p [] h = cc
any_found p (x ∷ xs) h = found_step p x xs (any_found p xs) (p x) h

absent_step : {X : Type 0} (p : X → Bool) (x : X) (xs : List X) → (list_any p xs ≡ false → find p xs ≡ None) → (b : Bool) → (b || list_any p xs) ≡ false → cond b (Some x) (find p xs) ≡ None
absent_step p x xs rest true h = cc
absent_step p x xs rest false h = rest h

pub none_found : {X : Type 0} (p : X → Bool) (xs : List X) → list_any p xs ≡ false → find p xs ≡ None
none_found p [] h = refl
none_found p (x ∷ xs) h = absent_step p x xs (none_found p xs) (p x) h

-- one row more waits
pub peers_gained : (r : Row) (ps : List Peer) (rows : List Row) → ArePeersTied ps rows → (b : Bool) → list_any (is_peer r.id r.site) ps ≡ b →
    ArePeersTied (cond b (map (changed_at r.id r.site gained) ps) (ps ++ new_peer r.id r.site 0 ∷ [])) (rows ++ r ∷ [])
peers_gained r ps rows tie true t =
    let there = any_found (is_peer r.id r.site) ps t in
    tally_comes key_eq key_of key_eq-true key_eq-refl (λ p. p.waiting) name_of gained (λ p. refl) ps rows (name_of r) r there.0 tie refl there.1 refl
peers_gained r ps rows tie false t =
    tally_first key_eq key_of key_eq-true key_eq-refl (λ p. p.waiting) name_of ps rows (new_peer r.id r.site 0) r tie (none_found (is_peer r.id r.site) ps t) refl refl

pub one_peer_more : (id : Id) (site : Site) (ps : List Peer) (b : Bool) → length (cond b (map (changed_at id site gained) ps) (ps ++ new_peer id site 0 ∷ [])) ≤ length ps + 1
one_peer_more id site ps true = let same = length-map ps (changed_at id site gained) in omega (arith, same)
one_peer_more id site ps false = let all = length-append ps (new_peer id site 0 ∷ []) in omega (arith, all)

-- a test of messages and sites passes for a peer exactly where it passes for a row
own_step : (p q : Peer) (ps : List Peer) (b : Bool) → is_peer q.id q.site p ≡ b → find (is_peer p.id p.site) ps ≡ None → find (is_peer q.id q.site) ps ≡ Some q → cond b (Some p) (find (is_peer q.id q.site) ps) ≡ Some q
own_step p q ps true t none there =
    let same : key_of p ≡ key_of q = key_eq-true (key_of p) (key_of q) t in
    let absent : find (is_peer q.id q.site) ps ≡ None = ap (λ (k : PeerKey). find (is_peer k.id k.site) ps) (sym same) ∙ none in cc
own_step p q ps false t none there = there

-- each is found by its message and site
from_step : (T : PeerKey → Bool) (p q : Peer) (ps : List Peer) (b : Bool) → T (key_of p) ≡ b → find (is_peer p.id p.site) ps ≡ None → (find (λ (x : Peer). T (key_of x)) ps ≡ Some q → find (is_peer q.id q.site) ps ≡ Some q) →
    cond b (Some p) (find (λ (x : Peer). T (key_of x)) ps) ≡ Some q → find (is_peer q.id q.site) (p ∷ ps) ≡ Some q
from_step T p q ps true t none rest e =
    let is : p ≡ q = cc in
    ap (λ b. cond b (Some p) (find (is_peer q.id q.site) ps)) (ap (λ (x : Peer). key_eq (key_of p) (key_of x)) (sym is) ∙ key_eq-refl (key_of p)) ∙ ap (λ x. Some x) is
from_step T p q ps false t none rest e = own_step p q ps (is_peer q.id q.site p) refl none (rest e)

found_from : (T : PeerKey → Bool) (ps : List Peer) (q : Peer) → AreApart ps → find (λ (p : Peer). T (key_of p)) ps ≡ Some q → find (is_peer q.id q.site) ps ≡ Some q
found_from T [] q apart h = cc
found_from T (p ∷ ps) q apart h = from_step T p q ps (T (key_of p)) refl apart.0 (found_from T ps q apart.1) h

waits_step : (p q : Peer) (o : Option Peer) (b : Bool) → waits p ≡ true → (o ≡ Some q → waits q ≡ true) → cond b (Some p) o ≡ Some q → waits q ≡ true
waits_step p q o true own rest e = let is : p ≡ q = cc in ap waits (sym is) ∙ own
waits_step p q o false own rest e = rest e

waits_found : (lines : List (List Job)) (ps : List Peer) (q : Peer) (test : Peer → Bool) → HaveJobs lines ps → find test ps ≡ Some q → waits q ≡ true
waits_found lines [] q test h e = cc
waits_found lines (p ∷ ps) q test h e = waits_step p q (find test ps) (test p) h.0 (waits_found lines ps q test h.2) e

pub some_counted : (n : ℕ) → nat_lt 0 n ≡ true → (k : ℕ) × (n ≡ k + 1)
some_counted n h = let more : 1 ≤ n = grind (arith, common_steps, h) in (n - 1, omega (arith, more))

counted_any : {X : Type 0} (p : X → Bool) (xs : List X) → nat_lt 0 (count_by p xs) ≡ true → list_any p xs ≡ true
counted_any p xs h = any_counted p xs ∙ more (count_by p xs) h
  where
    more : (n : ℕ) → nat_lt 0 n ≡ true → not (n == 0) ≡ true
    more n k = grind (arith, common_steps, k)

pub any_counts : {X : Type 0} (p : X → Bool) (xs : List X) → list_any p xs ≡ true → nat_lt 0 (count_by p xs) ≡ true
any_counts p xs h = more (count_by p xs) (sym (any_counted p xs) ∙ h)
  where
    more : (n : ℕ) → not (n == 0) ≡ true → nat_lt 0 n ≡ true
    more n k = grind (arith, common_steps, k)

-- Peers that are apart, each with a row that waits, and that count these rows.
module _ (lines : List (List Job)) (ps : List Peer) (rows : List Row) (apart : AreApart ps) (jobs : HaveJobs lines ps) (tie : ArePeersTied ps rows) (T : PeerKey → Bool) where
  for_row : (q : Peer) → find (λ (p : Peer). T (key_of p)) ps ≡ Some q → list_any (λ (r : Row). T (name_of r)) rows ≡ true
  for_row q e =
      let k = key_of q in
      let there = found_from T ps q apart e in
      let counts : q.waiting ≡ count_by (λ (r : Row). key_eq (name_of r) k) rows = tally_here key_eq key_of key_eq-true key_eq-refl (λ p. p.waiting) name_of ps rows k q tie there in
      let many : nat_lt 0 (count_by (λ (r : Row). key_eq (name_of r) k) rows) ≡ true = ap (nat_lt 0) (sym counts) ∙ waits_found lines ps q (λ (p : Peer). T (key_of p)) jobs e in
      let row = any_found (λ (r : Row). key_eq (name_of r) k) rows (counted_any (λ (r : Row). key_eq (name_of r) k) rows many) in
      let same : name_of row.0 ≡ k = key_eq-true (name_of row.0) k (find-passes (λ (r : Row). key_eq (name_of r) k) rows row.0 row.1) in
      find-any (λ (r : Row). key_eq (name_of r) k) (λ (r : Row). T (name_of r)) rows row.0 row.1 (ap T same ∙ find-passes (λ (p : Peer). T (key_of p)) ps q e)

  for_peer : (r : Row) → find (λ (x : Row). T (name_of x)) rows ≡ Some r → list_any (λ (p : Peer). T (key_of p)) ps ≡ true
  for_peer r e =
      let k = name_of r in
      let here : list_any (λ (x : Row). key_eq (name_of x) k) rows ≡ true = find-any (λ (x : Row). T (name_of x)) (λ (x : Row). key_eq (name_of x) k) rows r e (key_eq-refl k) in
      let many = some_counted (count_by (λ (x : Row). key_eq (name_of x) k) rows) (any_counts (λ (x : Row). key_eq (name_of x) k) rows here) in
      let there = tally_there key_eq key_of key_eq-true key_eq-refl (λ p. p.waiting) name_of ps rows k many.0 tie many.1 in
      let same : key_of there.0 ≡ k = key_eq-true (key_of there.0) k (find-passes (λ (p : Peer). key_eq (key_of p) k) ps there.0 there.1) in
      find-any (λ (p : Peer). key_eq (key_of p) k) (λ (p : Peer). T (key_of p)) ps there.0 there.1 (ap T same ∙ find-passes (λ (x : Row). T (name_of x)) rows r e)

  pub any_peer : list_any (λ (p : Peer). T (key_of p)) ps ≡ list_any (λ (r : Row). T (name_of r)) rows
  any_peer = on (list_any (λ (p : Peer). T (key_of p)) ps) (list_any (λ (r : Row). T (name_of r)) rows) refl refl
    where
      on : (b c : Bool) → list_any (λ (p : Peer). T (key_of p)) ps ≡ b → list_any (λ (r : Row). T (name_of r)) rows ≡ c → b ≡ c
      on true true e f = refl
      on false false e f = refl
      on true false e f =
          let q = any_found (λ (p : Peer). T (key_of p)) ps e in
          let bad : true ≡ false = sym (for_row q.0 q.1) ∙ f in cc
      on false true e f =
          let r = any_found (λ (x : Row). T (name_of x)) rows f in
          let bad : true ≡ false = sym (for_peer r.0 r.1) ∙ e in cc
