-- What each call makes of lists that lie in the arrays.
use Rattle.std.proofs.Common.{◌≡◌, ◌∙◌, ◌≢◌, ◌∷◌, ◌++◌, ◌+◌, ◌-◌, ◌<◌, [], ap, arith, Bool, cond, false, get_or, length, List, map, refl, subst, suc, sym, true, zero, ℕ}
use Rattle.std.proofs.lemmas.List.{length-map, length-set}
use Rattle.std.proofs.lemmas.Bool.{eqb-false, eqb-true}
use Rattle.std.specs.List.{AllByRecursion}
use Rattle.std.specs.Prelude.{◌==◌, not}
use Rattle.q_chains.specs.Laid.{AreApart, AreJoined, IsLaid, IsPath, Lacks, led_past, lists_from, lists_in, put_between, strung}
use Rattle.q_chains.specs.Lists.{AllBelow, inserted, is_in, pushed, stands, without}
use Rattle.q_chains.proofs.Borders.{strung_border, strung_inserted, strung_next, strung_pushed, strung_within, strung_without, stands_below, stands_strung}
use Rattle.q_chains.proofs.Paths.{before_among, LeadsOver, LeadsPast, next_among, path_inserted, path_stays, path_without}
use Rattle.q_chains.proofs.Places.{among_from, apart_inserted, apart_without, IsAmong, lacks_from, lacks_inserted, lacks_other, lacks_uninserted, lacks_with, lacks_without, other_inserted, other_way, without_lacking}
use Rattle.q_chains.proofs.Walks.{lists_are}
use Rattle.q_chains.proofs.Writes.{joined_written, over_written, past_written, same_length, within_before, within_next}

-- the view finds the lists that lie there
pub lists_laid : (nx bf : List ℕ) (numbers : ℕ) (xss : List (List ℕ)) → IsLaid nx bf numbers xss → lists_in nx numbers ≡ xss
lists_laid nx bf numbers xss h =
    let count : length nx - numbers - 1 ≡ length xss = omega (arith, h.count) in
    ap (lists_from nx numbers numbers) count ∙ lists_are nx bf numbers numbers xss h.path h.below h.apart.1 (omega arith)

pub laid_in : (nx bf : List ℕ) (numbers : ℕ) (xss : List (List ℕ)) → IsLaid nx bf numbers xss → IsLaid nx bf numbers (lists_in nx numbers)
laid_in nx bf numbers xss h = subst (IsLaid nx bf numbers) (sym (lists_laid nx bf numbers xss h)) h

pub number_within : (nx bf : List ℕ) (numbers n : ℕ) (xss : List (List ℕ)) → IsLaid nx bf numbers xss → n < numbers → n < length nx
number_within nx bf numbers n xss h k = omega (arith, h.count, k)

pub place_within : (nx bf : List ℕ) (numbers p : ℕ) (xss : List (List ℕ)) → IsLaid nx bf numbers xss → IsAmong p (strung numbers xss) → p < length nx
place_within nx bf numbers p xss h i =
    let few = strung_within numbers numbers p xss h.below (omega arith) i in
    omega (arith, few, h.count)

-- A number goes.
below_gone : (numbers x : ℕ) (ys : List ℕ) (t : Bool) → x < numbers → AllByRecursion (λ x. x < numbers) ys → AllByRecursion (λ x. x < numbers) (cond (not t) (x ∷ ys) ys)
below_gone numbers x ys true h k = k
below_gone numbers x ys false h k = (h, k)

below_without : (numbers n : ℕ) (xs : List ℕ) → AllByRecursion (λ x. x < numbers) xs → AllByRecursion (λ x. x < numbers) (without n xs)
below_without numbers n [] h = tt
below_without numbers n (x ∷ xs) h = below_gone numbers x (without n xs) (x == n) h.0 (below_without numbers n xs h.1)

all_below_without : (numbers n : ℕ) (xss : List (List ℕ)) → AllBelow numbers xss → AllBelow numbers (map (without n) xss)
all_below_without numbers n [] h = tt
all_below_without numbers n (xs ∷ xss) h = (below_without numbers n xs h.0, all_below_without numbers n xss h.1)

-- Another number in no list leads to itself still.
module _ (nx bf ny bg : List ℕ) (numbers n : ℕ) (xss : List (List ℕ)) (h : IsLaid nx bf numbers xss) (known : n < numbers) (leads : LeadsPast nx bf ny bg n) where
  -- it isn't beside the number that goes
  beside : (m : ℕ) (t : Bool) → is_in n (strung numbers xss) ≡ t → m < numbers → m ≢ n → Lacks m (strung numbers xss) → (m ≢ get_or bf n 0) × (m ≢ get_or nx n 0)
  beside m true e k apart l =
      let i = among_from n (strung numbers xss) e in
      let all : Lacks m (numbers ∷ strung numbers xss) = (omega (arith, k), l) in (
        lacks_other m (get_or bf n 0) (numbers ∷ strung numbers xss) all (before_among nx bf numbers n (strung numbers xss) h.path i),
        lacks_other m (get_or nx n 0) (strung numbers xss) l (next_among nx bf numbers n (strung numbers xss) h.path (strung_next n numbers xss (omega (arith, known)) i)),
      )
  beside m false e k apart l =
      let own = h.alone n known (lacks_from n (strung numbers xss) e) in
      (λ q. apart (q ∙ own.1), λ q. apart (q ∙ own.0))

  alone_step : (m : ℕ) (t : Bool) → (m == n) ≡ t → m < numbers → Lacks m (without n (strung numbers xss)) → (get_or ny m 0 ≡ m) × (get_or bg m 0 ≡ m)
  alone_step m true e k l =
      let same : n ≡ m = sym (eqb-true m n e) in
      subst (λ (p : ℕ). (get_or ny p 0 ≡ p) × (get_or bg p 0 ≡ p)) same (leads.own_next, leads.own_before)
  alone_step m false e k l =
      let apart : m ≢ n = eqb-false m n e in
      let was = lacks_with m n (strung numbers xss) apart l in
      let own = h.alone m k was in
      let free = beside m (is_in n (strung numbers xss)) refl k apart was in
      (leads.next m apart free.0 ∙ own.0, leads.before m apart free.1 ∙ own.1)

  path_step : (t : Bool) → is_in n (strung numbers xss) ≡ t → IsPath ny bg numbers (without n (strung numbers xss))
  path_step true e =
      path_without nx bf ny bg n numbers (strung numbers xss) h.path h.apart (strung_next n numbers xss (omega (arith, known)) (among_from n (strung numbers xss) e)) leads
  path_step false e =
      let l = lacks_from n (strung numbers xss) e in
      let own = h.alone n known l in
      let all : Lacks n (numbers ∷ strung numbers xss) = (omega (arith, known), l) in
      subst (IsPath ny bg numbers) (sym (without_lacking n (strung numbers xss) l)) (path_stays nx bf ny bg numbers (strung numbers xss)
      (λ p i. let apart = other_way n p (lacks_other n p (numbers ∷ strung numbers xss) all i) in leads.next p apart (λ q. apart (q ∙ own.1)))
      (λ p i. let apart = other_way n p (lacks_other n p (strung numbers xss) l i) in leads.before p apart (λ q. apart (q ∙ own.0)))
      h.path)

  -- the arrays hold the lists without the number
  pub laid_past : (joined : AreJoined ny bg) (len : length ny ≡ length nx) → IsLaid ny bg numbers (map (without n) xss)
  laid_past joined len =
      let ps = strung numbers xss in
      let path : strung numbers (map (without n) xss) ≡ without n ps = strung_without n numbers xss (omega (arith, known)) in
      record {
        joined = joined;
        count = len ∙ h.count ∙ ap (λ k. numbers + k + 1) (sym (length-map xss (without n)));
        below = all_below_without numbers n xss h.below;
        path = subst (IsPath ny bg numbers) (sym path) (path_step (is_in n ps) refl);
        apart = subst (λ (qs : List ℕ). AreApart (numbers ∷ qs)) (sym path) (lacks_without numbers n ps h.apart.0, apart_without n ps h.apart.1);
        alone = λ m k l. alone_step m (m == n) refl k (subst (Lacks m) path l);
      }

pub laid_without : (nx bf : List ℕ) (numbers n : ℕ) (xss : List (List ℕ)) → IsLaid nx bf numbers xss → n < numbers → IsLaid (led_past nx bf n) (led_past bf nx n) numbers (map (without n) xss)
laid_without nx bf numbers n xss h known =
    let p = get_or bf n 0 in
    let q = get_or nx n 0 in
    let own = number_within nx bf numbers n xss h known in
    let from = within_before nx bf n h.joined own in
    let to = within_next nx bf n h.joined own in
    laid_past nx bf (led_past nx bf n) (led_past bf nx n) numbers n xss h known (past_written nx bf n h.joined own)
    (joined_written nx bf p q n n q p n n h.joined to own from own) (same_length nx p q n n)

-- A number comes before a place.
module _ (nx bf : List ℕ) (numbers n at : ℕ) (xss yss : List (List ℕ)) (h : IsLaid nx bf numbers xss) (known : n < numbers) (free : stands n xss ≡ false) (there : IsAmong at (strung numbers xss)) where
  lacks_all : Lacks n (numbers ∷ strung numbers xss)
  lacks_all = (omega (arith, known), lacks_from n (strung numbers xss) (stands_strung n numbers xss (omega (arith, known)) ∙ free))

  from_among : IsAmong (get_or bf at 0) (numbers ∷ strung numbers xss)
  from_among = before_among nx bf numbers at (strung numbers xss) h.path there

  over : LeadsOver nx bf (put_between nx (get_or bf at 0) n at) (put_between bf at n (get_or bf at 0)) n at
  over =
      over_written nx bf n at h.joined (number_within nx bf numbers n xss h known) (place_within nx bf numbers at xss h there)
      (lacks_other n at (strung numbers xss) lacks_all.1 there) (lacks_other n (get_or bf at 0) (numbers ∷ strung numbers xss) lacks_all from_among)

  alone : (m : ℕ) → m < numbers → Lacks m (inserted n at (strung numbers xss)) → (get_or (put_between nx (get_or bf at 0) n at) m 0 ≡ m) × (get_or (put_between bf at n (get_or bf at 0)) m 0 ≡ m)
  alone m k l =
      let was = lacks_uninserted m n at (strung numbers xss) l in
      let apart = other_inserted m n at (strung numbers xss) there l in
      let all : Lacks m (numbers ∷ strung numbers xss) = (omega (arith, k), was) in
      let own = h.alone m k was in (
        over.next m apart (lacks_other m (get_or bf at 0) (numbers ∷ strung numbers xss) all from_among) ∙ own.0,
        over.before m apart (lacks_other m at (strung numbers xss) was there) ∙ own.1,
      )

  -- the arrays hold the lists with the number in that place
  pub laid_over : strung numbers yss ≡ inserted n at (strung numbers xss) → AllBelow numbers yss → length yss ≡ length xss → IsLaid (put_between nx (get_or bf at 0) n at) (put_between bf at n (get_or bf at 0)) numbers yss
  laid_over path below count =
      let p = get_or bf at 0 in
      let ps = strung numbers xss in
      let own = number_within nx bf numbers n xss h known in
      let to = place_within nx bf numbers at xss h there in
      let from = within_before nx bf at h.joined to in
      record {
        joined = joined_written nx bf p n n at at n n p h.joined own to own from;
        count = same_length nx p n n at ∙ h.count ∙ ap (λ k. numbers + k + 1) (sym count);
        below = below;
        path = subst (IsPath (put_between nx p n at) (put_between bf at n p) numbers) (sym path) (path_inserted nx bf (put_between nx p n at) (put_between bf at n p) n at numbers ps h.path h.apart lacks_all there over);
        apart = subst (λ (qs : List ℕ). AreApart (numbers ∷ qs)) (sym path) (lacks_inserted numbers n at ps (other_way n numbers lacks_all.0) h.apart.0, apart_inserted n at ps lacks_all.1 h.apart.1);
        alone = λ m k l. alone m k (subst (Lacks m) path l);
      }

below_come : (numbers n x : ℕ) (ys : List ℕ) (t : Bool) → n < numbers → x < numbers → AllByRecursion (λ x. x < numbers) ys → AllByRecursion (λ x. x < numbers) (cond t (n ∷ x ∷ []) (x ∷ []) ++ ys)
below_come numbers n x ys true h k l = (h, (k, l))
below_come numbers n x ys false h k l = (k, l)

below_inserted : (numbers n at : ℕ) (xs : List ℕ) → n < numbers → AllByRecursion (λ x. x < numbers) xs → AllByRecursion (λ x. x < numbers) (inserted n at xs)
below_inserted numbers n at [] h k = tt
below_inserted numbers n at (x ∷ xs) h k = below_come numbers n x (inserted n at xs) (x == at) h k.0 (below_inserted numbers n at xs h k.1)

all_below_inserted : (numbers n at : ℕ) (xss : List (List ℕ)) → n < numbers → AllBelow numbers xss → AllBelow numbers (map (inserted n at) xss)
all_below_inserted numbers n at [] h k = tt
all_below_inserted numbers n at (xs ∷ xss) h k = (below_inserted numbers n at xs h k.0, all_below_inserted numbers n at xss h k.1)

below_pushed : (numbers n : ℕ) (xs : List ℕ) → n < numbers → AllByRecursion (λ x. x < numbers) xs → AllByRecursion (λ x. x < numbers) (xs ++ n ∷ [])
below_pushed numbers n [] h k = (h, tt)
below_pushed numbers n (x ∷ xs) h k = (k.0, below_pushed numbers n xs h k.1)

all_below_pushed : (numbers n list : ℕ) (xss : List (List ℕ)) → n < numbers → AllBelow numbers xss → AllBelow numbers (pushed list n xss)
all_below_pushed numbers n list [] h k = tt
all_below_pushed numbers n zero (xs ∷ xss) h k = (below_pushed numbers n xs h k.0, k.1)
all_below_pushed numbers n (suc list) (xs ∷ xss) h k = (k.0, all_below_pushed numbers n list xss h k.1)

pub among_stands : (numbers n : ℕ) (xss : List (List ℕ)) → AllBelow numbers xss → stands n xss ≡ true → (n < numbers) × IsAmong n (strung numbers xss)
among_stands numbers n xss below h = let known = stands_below numbers n xss below h in (known, among_from n (strung numbers xss) (stands_strung n numbers xss (omega (arith, known)) ∙ h))

pub laid_inserted : (nx bf : List ℕ) (numbers n at : ℕ) (xss : List (List ℕ)) → IsLaid nx bf numbers xss → n < numbers → stands n xss ≡ false → stands at xss ≡ true → IsLaid (put_between nx (get_or bf at 0) n at) (put_between bf at n (get_or bf at 0)) numbers (map (inserted n at) xss)
laid_inserted nx bf numbers n at xss h known free there =
    let i = among_stands numbers at xss h.below there in
    laid_over nx bf numbers n at xss (map (inserted n at) xss) h known free i.1 (strung_inserted n at numbers xss (omega (arith, i.0))) (all_below_inserted numbers n at xss known h.below) (length-map xss (inserted n at))

pub laid_pushed : (nx bf : List ℕ) (numbers n list at : ℕ) (xss : List (List ℕ)) → IsLaid nx bf numbers xss → n < numbers → stands n xss ≡ false → list < length xss → at ≡ numbers + list + 1 → IsLaid (put_between nx (get_or bf at 0) n at) (put_between bf at n (get_or bf at 0)) numbers (pushed list n xss)
laid_pushed nx bf numbers n list at xss h known free there is =
    laid_over nx bf numbers n at xss (pushed list n xss) h known free (subst (λ (p : ℕ). IsAmong p (strung numbers xss)) (sym is) (strung_border list numbers xss there))
    (strung_pushed numbers n list numbers xss h.below (omega arith) there ∙ ap (λ p. inserted n p (strung numbers xss)) (sym is))
    (all_below_pushed numbers n list xss known h.below) (length-set xss list (get_or xss list [] ++ n ∷ []))
