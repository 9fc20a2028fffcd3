-- The ticket behind another one in its lane.
use Rattle.std.proofs.Common.{◌≡◌, ◌≢◌, ◌∙◌, ◌∷◌, [], ap, arith, Bool, cond, false, List, None, refl, Some, true}
use Rattle.std.proofs.lemmas.Bool.{both_ways, eq-eqb}
use Rattle.std.proofs.lemmas.Bool.Decides.{nat_tests}
use Rattle.std.specs.Prelude.{◌&&◌, find}
use Rattle.q_sorted.specs.declared.ticket.Ticket.{Ticket}
use Rattle.q_sorted.specs.Tickets.{goes_before, is_of, Rises}
use Rattle.q_heads.specs.Lanes.{stands}
use Rattle.q_heads.proofs.Standing.{first_found, found, none_found, stands_here, stands_later}

both_step : (p q : Ticket → Bool) (n z : Ticket) (zs : List Ticket) (t : Bool) → p z ≡ t → cond t (Some z) (find p zs) ≡ Some n → q n ≡ true → (find p zs ≡ Some n → find (λ x. q x && p x) zs ≡ Some n) → cond (q z && t) (Some z) (find (λ x. q x && p x) zs) ≡ Some n
both_step p q n z zs true e h own rest =
    let same : z ≡ n = cc in
    ap (λ b. cond (b && true) (Some z) (find (λ x. q x && p x) zs)) (ap q same ∙ own) ∙ ap Some same
both_step p q n z zs false e h own rest = neither (q z)
  where
    neither : (b : Bool) → cond (b && false) (Some z) (find (λ x. q x && p x) zs) ≡ Some n
    neither true = rest h
    neither false = rest h

-- the first that passes one test passes both first where it passes the other
find_both : (p q : Ticket → Bool) (n : Ticket) (xs : List Ticket) → find p xs ≡ Some n → q n ≡ true → find (λ x. q x && p x) xs ≡ Some n
find_both p q n [] h own = absurd cc
find_both p q n (z ∷ zs) h own = both_step p q n z zs (p z) refl h own (λ k. find_both p q n zs k own)

pub none_sought : (p : Ticket → Bool) (xs : List Ticket) → ((x : Ticket) → stands x xs ≡ true → p x ≡ false) → find p xs ≡ None
none_sought p [] h = refl
none_sought p (z ∷ zs) h =
    ap (λ b. cond b (Some z) (find p zs)) (h z (stands_here z z zs refl)) ∙ none_sought p zs (λ x k. h x (stands_later x z zs k))

later_lane : (e n x : Ticket) → goes_before e n ≡ true → n.group ≢ e.group → goes_before x n ≡ false → is_of e.group x ≡ false
later_lane e n x h other k = grind (arith, nat_tests)

fails_step : (p q : Bool) → (p ≡ true → q ≡ false) → (q && p) ≡ false
fails_step true true h = h refl
fails_step true false h = refl
fails_step false true h = refl
fails_step false false h = refl

module _ (e : Ticket) (items : List Ticket) where
  abbrev is_behind : Ticket → Bool
  is_behind x = is_of e.group x && goes_before e x

  pub none_behind_it : find (goes_before e) items ≡ None → find is_behind items ≡ None
  none_behind_it none = none_sought is_behind items (λ x there. fails_step (goes_before e x) (is_of e.group x) (λ h. absurd (both_ways (goes_before e x) (none_found (goes_before e) x items none there) h)))

  pub own_behind_it : (n : Ticket) → find (goes_before e) items ≡ Some n → n.group ≡ e.group → find is_behind items ≡ Some n
  own_behind_it n next own = find_both (goes_before e) (is_of e.group) n items next (eq-eqb n.group e.group own)

  pub other_behind_it : (n : Ticket) → Rises items → find (goes_before e) items ≡ Some n → n.group ≢ e.group → find is_behind items ≡ None
  other_behind_it n rising next other =
      let it = found (goes_before e) n items next in
      none_sought is_behind items (λ x there. fails_step (goes_before e x) (is_of e.group x) (λ h. later_lane e n x it.1 other (first_found (goes_before e) n x items rising next there h)))
