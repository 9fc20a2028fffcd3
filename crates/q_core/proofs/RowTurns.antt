-- The row of a message that starts next at a transport is the first of the peer that is next.
use Rattle.std.proofs.Common.{◌≡◌, ◌∙◌, ◌⊎◌, inl, inr, ap, arith, Bool, cond, false, filter, find, List, [], ◌∷◌, None, not, Option, refl, Some, subst, sym, true, ℕ}
use Rattle.std.proofs.lemmas.Grind.{common_steps}
use Rattle.std.specs.List.{AllByRecursion, list_any}
use Rattle.std.specs.Option.{option_map_or}
use Rattle.std.specs.Prelude.{◌&&◌, ◌||◌, ◌==◌, count_by, nat_lt}
use Rattle.q_core.proofs.Firsts.{found-all, least_none, none_least}
use Rattle.q_core.proofs.ListLaws.{find-any, find-passes}
use Rattle.q_core.proofs.PeerTies.{any_counts, any_peer, name_of, none_found, some_counted}
use Rattle.q_core.proofs.Picks.{AreRounds, picked}
use Rattle.q_core.proofs.RowWalkLaws.{none_any}
use Rattle.q_core.proofs.TurnTies.{all_found, all_jobs_wait, row_there}
use Rattle.q_core.specs.Ties.{AreInOrder, AreTurnsTied, ComesBefore, is_row_of}
use Rattle.q_dest.specs.declared.dest.Dest.{Dest}
use Rattle.q_jobs.specs.declared.job.Job.{Job}
use Rattle.q_model.specs.declared.id.Id.{Id}
use Rattle.q_model.specs.declared.rows.Row.{Row}
use Rattle.q_model.specs.Ids.{id_eq}
use Rattle.q_model.specs.Lists.{least}
use Rattle.q_rounds.specs.declared.peer.Peer.{Peer}
use Rattle.q_rounds.specs.declared.peer.PeerKey.{PeerKey}
use Rattle.q_rounds.specs.KeyLaws.{key_eq-refl, key_eq-true}
use Rattle.q_rounds.specs.Rounds.{AreStartsApart, has_last, has_space_at, is_passed, is_peer, key_eq, key_of, next_in}
use Rattle.q_turns.specs.Turns.{AreApart, HaveJobs, last_for}

module _ {X : Type 0} where
  fails_step : (h r : X → Bool) (x p : X) (o : Option X) (q : Option X) → (q ≡ None → o ≡ Some p → h p ≡ false) → (a b : Bool) → h x ≡ a → cond a (Some x) q ≡ None → cond b (Some x) o ≡ Some p → h p ≡ false
  fails_step h r x p o q rest true b e none found = cc
  fails_step h r x p o q rest false true e none found = let is : x ≡ p = cc in ap h (sym is) ∙ e
  fails_step h r x p o q rest false false e none found = rest none found

  -- what is found doesn't pass what none passes
  found_fails : (h r : X → Bool) (xs : List X) (p : X) → find h xs ≡ None → find r xs ≡ Some p → h p ≡ false
  found_fails h r [] p none found = cc
  found_fails h r (x ∷ xs) p none found = fails_step h r x p (find r xs) (find h xs) (found_fails h r xs p) (h x) (r x) refl none found

  any_step : (h : X → Bool) (x : X) (xs : List X) (p : X) (o : Option X) → (list_any h xs ≡ false → o ≡ Some p → h p ≡ false) → (a b : Bool) → h x ≡ a → (a || list_any h xs) ≡ false → cond b (Some x) o ≡ Some p → h p ≡ false
  any_step h x xs p o rest true b e none found = cc
  any_step h x xs p o rest false true e none found = let is : x ≡ p = cc in ap h (sym is) ∙ e
  any_step h x xs p o rest false false e none found = rest none found

  any_fails : (h r : X → Bool) (xs : List X) (p : X) → list_any h xs ≡ false → find r xs ≡ Some p → h p ≡ false
  any_fails h r [] p none found = cc
  any_fails h r (x ∷ xs) p none found = any_step h x xs p (find r xs) (any_fails h r xs p) (h x) (r x) refl none found

  pub filter_same : (p q : X → Bool) → ((x : X) → p x ≡ q x) → (xs : List X) → filter p xs ≡ filter q xs
  filter_same p q same [] = refl
  filter_same p q same (x ∷ xs) = ap (λ b. cond b (x ∷ filter p xs) (filter p xs)) (same x) ∙ ap (λ ys. cond (q x) (x ∷ ys) ys) (filter_same p q same xs)

-- no two were last sent to in one start
has_own : (x p : Peer) → x.last ≡ p.last → nat_lt 0 p.last ≡ true → has_last x.last p ≡ true
has_own x p same some = ap (λ n. has_last n p) same ∙ both (nat_lt 0 p.last) some (p.last == p.last) (own p.last)
  where
    own : (n : ℕ) → (n == n) ≡ true
    own n = grind (arith, common_steps)

    both : (a : Bool) → a ≡ true → (b : Bool) → b ≡ true → (a && b) ≡ true
    both true e b f = f
    both false e b f = cc

one_step : (q r : Peer → Bool) (x d p : Peer) (xs : List Peer) → find (has_last x.last) xs ≡ None → d.last ≡ p.last → nat_lt 0 p.last ≡ true → (find q xs ≡ Some d → find r xs ≡ Some p → d ≡ p) → (a b : Bool) → cond a (Some x) (find q xs) ≡ Some d → cond b (Some x) (find r xs) ≡ Some p → d ≡ p
one_step q r x d p xs apart level some rest true true e f = let is : x ≡ d = cc in let at : x ≡ p = cc in sym is ∙ at
one_step q r x d p xs apart level some rest true false e f =
    let is : x ≡ d = cc in
    let fails = found_fails (has_last x.last) r xs p apart f in
    let bad : true ≡ false = sym (has_own x p (ap (λ (y : Peer). y.last) is ∙ level) some) ∙ fails in cc
one_step q r x d p xs apart level some rest false true e f =
    let is : x ≡ p = cc in
    let fails = found_fails (has_last x.last) q xs d apart e in
    let bad : true ≡ false = sym (has_own x d (ap (λ (y : Peer). y.last) is ∙ sym level) (ap (nat_lt 0) level ∙ some)) ∙ fails in cc
one_step q r x d p xs apart level some rest false false e f = rest e f

one_start : (q r : Peer → Bool) (xs : List Peer) (d p : Peer) → AreStartsApart xs → find q xs ≡ Some d → find r xs ≡ Some p → d.last ≡ p.last → nat_lt 0 p.last ≡ true → d ≡ p
one_start q r [] d p apart e f level some = cc
one_start q r (x ∷ xs) d p apart e f level some = one_step q r x d p xs apart.0 level some (λ e f. one_start q r xs d p apart.1 e f level some) (q x) (r x) e f

-- the first of those that pass comes before each of the others
before_step : (rows : List Row) (q r : Peer → Bool) (x p d : Peer) (xs : List Peer) → AllByRecursion (ComesBefore rows x) xs → q d ≡ true → (find q xs ≡ Some p → find r xs ≡ Some d → (d ≡ p) ⊎ ComesBefore rows p d) → (a b : Bool) → q x ≡ a →
    cond a (Some x) (find q xs) ≡ Some p → cond b (Some x) (find r xs) ≡ Some d → (d ≡ p) ⊎ ComesBefore rows p d
before_step rows q r x p d xs order passes rest true true s e f = let is : x ≡ p = cc in let at : x ≡ d = cc in inl (sym at ∙ is)
before_step rows q r x p d xs order passes rest true false s e f = let is : x ≡ p = cc in inr (subst (λ y. ComesBefore rows y d) is (found-all (ComesBefore rows x) r xs d order f))
before_step rows q r x p d xs order passes rest false true s e f =
    let at : x ≡ d = cc in
    let bad : true ≡ false = sym passes ∙ ap q (sym at) ∙ s in cc
before_step rows q r x p d xs order passes rest false false s e f = rest e f

comes_before : (rows : List Row) (q r : Peer → Bool) (xs : List Peer) (p d : Peer) → AreInOrder rows xs → find q xs ≡ Some p → find r xs ≡ Some d → q d ≡ true → (d ≡ p) ⊎ ComesBefore rows p d
comes_before rows q r [] p d order e f passes = cc
comes_before rows q r (x ∷ xs) p d order e f passes = before_step rows q r x p d xs order.0 passes (λ e f. comes_before rows q r xs p d order.1 e f passes) (q x) (r x) refl e f

fresh_now : (p : Peer) → p.last ≡ 0 → p.passed ≡ false → (not (nat_lt 0 p.last) && not p.passed) ≡ true
fresh_now p none stays = ap (λ n. not (nat_lt 0 n) && not p.passed) none ∙ ap (λ b. true && not b) stays

module _ (ds : List Dest) (lines : List (List Job)) (ps : List Peer) (rows : List Row) (starts : ℕ) (apart : AreApart ps) (jobs : HaveJobs lines ps) (tie : AreTurnsTied ps rows starts) (t : ℕ) (id : Id) where
  -- the message's rows at the transport whose site has space
  abbrev pub may_start : PeerKey → Bool
  may_start k = (id_eq k.id id && (k.site.transport == t)) && has_space_at ds k.site

  abbrev pub last_key : PeerKey → ℕ
  last_key k = last_for k.id k.site ps

  abbrev pub sooner : Row → Row → Bool
  sooner a b = nat_lt (last_key (name_of a)) (last_key (name_of b))

  -- the row that is next
  abbrev pub next_of_rows : Option Row
  next_of_rows = least sooner (filter (λ r. may_start (name_of r)) rows)

  module _ (starts_apart : AreStartsApart ps) (unpassed : list_any is_passed ps ≡ false) where
    named : (k : PeerKey) (d : Peer) → find (λ p. key_eq (key_of p) k) ps ≡ Some d → key_of d ≡ k
    named k d e = key_eq-true (key_of d) k (find-passes (λ p. key_eq (key_of p) k) ps d e)

    own_of : (q : Peer → Bool) (d : Peer) → find q ps ≡ Some d → find (is_peer d.id d.site) ps ≡ Some d
    own_of q d e = found-all (λ d. find (is_peer d.id d.site) ps ≡ Some d) q ps d (all_found ps apart) e

    order_of : (q : Peer → Bool) (p d : Peer) (k : PeerKey) → find q ps ≡ Some p → find (λ x. key_eq (key_of x) k) ps ≡ Some d → q d ≡ true → p.last ≡ 0 → d.last ≡ 0 →
        (d ≡ p) ⊎ (find (λ r. is_row_of p r || is_row_of d r) rows ≡ find (is_row_of p) rows)
    order_of q p d k e f passes np nd = on (comes_before rows q (λ x. key_eq (key_of x) k) ps p d tie.order e f passes)
      where
        on : (d ≡ p) ⊎ ComesBefore rows p d → (d ≡ p) ⊎ (find (λ r. is_row_of p r || is_row_of d r) rows ≡ find (is_row_of p) rows)
        on (inl same) = inl same
        on (inr before) = inr (before (fresh_now p np (any_fails is_passed q ps p unpassed e)) (fresh_now d nd (any_fails is_passed (λ x. key_eq (key_of x) k) ps d unpassed f)))

    rounds : AreRounds key_eq key_of key_eq-true key_eq-refl (λ p. p.waiting) name_of may_start (λ p. p.last) last_key ps rows
    rounds = record {
      tie = tie.counts;
      found = own_of;
      some = λ k d e.
          let row = row_there ps rows tie.counts d (own_of (λ p. key_eq (key_of p) k) d e) (found-all (λ p. nat_lt 0 p.waiting ≡ true) (λ p. key_eq (key_of p) k) ps d (all_jobs_wait lines ps jobs) e) in
          (row.0, ap (λ (j : PeerKey). find (λ r. key_eq (name_of r) j) rows) (sym (named k d e)) ∙ row.1);
      counted = λ x q e.
          some_counted (count_by (λ r. key_eq (name_of r) (name_of x)) rows)
          (any_counts (λ r. key_eq (name_of r) (name_of x)) rows (find-any q (λ r. key_eq (name_of r) (name_of x)) rows x e (key_eq-refl (name_of x))));
      known = λ k d e. ap (λ (o : Option Peer). option_map_or (λ (p : Peer). p.last) o 0) (sym (own_of (λ p. key_eq (key_of p) k) d e));
      apart = λ k j d p e f level more. one_start (λ x. key_eq (key_of x) k) (λ x. key_eq (key_of x) j) ps d p starts_apart e f level more;
      order = order_of;
    }

    -- it is the first of the peer that is next
    pub next_is : (p : Peer) → next_in ds t id ps ≡ Some p → next_of_rows ≡ find (is_row_of p) rows
    next_is p next = picked key_eq key_of key_eq-true key_eq-refl (λ p. p.waiting) name_of may_start (λ p. p.last) last_key ps rows rounds p next

  -- there is none where no peer is next
  pub next_none : next_in ds t id ps ≡ None → next_of_rows ≡ None
  next_none none =
      let no_peer = none_any (λ p. may_start (key_of p)) ps (none_least (λ p. p.last) (λ p. may_start (key_of p)) ps none) in
      let no_row = sym (any_peer lines ps rows apart jobs tie.counts may_start) ∙ no_peer in
      least_none (λ r. last_key (name_of r)) (λ r. may_start (name_of r)) rows (none_found (λ r. may_start (name_of r)) rows no_row)
