-- The accounts after an entry are those that are counted after it.
use Rattle.std.proofs.Common.{◌≡◌, ℕ, ◌+◌, ◌<◌, ◌^◌, Bool, true, false, cond, List, [], ◌∷◌, ◌++◌, set, refl, sym, ap, ◌∙◌, subst, arith, suc, zero-add, Option, Some, None, if◌then◌else◌, inl, inr, position, not}
use Rattle.std.proofs.lemmas.Bool.{and_parts, eqb-true}
use Rattle.std.proofs.lemmas.Grind.{common_steps}
use Rattle.std.specs.List.{position_or_len}
use Rattle.std.specs.Option.{option_map_or}
use Rattle.std.specs.Prelude.{◌&&◌, ◌==◌, filter, find, slice_get}
use Rattle.q_bare.specs.Counts.{Counts, counted, counts_after}
use Rattle.q_ledger.proofs.ListLaws.{position-find}
use Rattle.q_ledger.specs.Accounting.{AreFew}
use Rattle.q_ledger.specs.Beside.{AreAccounts}
use Rattle.q_ledger.specs.Counted.{change_or_add, charged_jobs, is_of, raised, started_jobs, with_charge, with_start}
use Rattle.q_ledger.specs.declared.accounts.Account.{Account}
use Rattle.q_ledger.specs.declared.accounts.Accounts.{Accounts}
use Rattle.q_model.proofs.IdLaws.{id_eq-refl, id_eq-true}
use Rattle.q_model.specs.Ids.{id_eq}
use Rattle.q_model.specs.Values.{Site}
use Rattle.q_model.specs.declared.entry.Entry.TheVariants as entries
use Rattle.q_model.specs.declared.id.Id.{Id}

-- ---- the first that passes is changed, or another is added

same_Some : {A : Type 0} (x y : A) → Some x ≡ Some y → x ≡ y
same_Some x y h = cc

change_step : {A : Type 0} (p : A → Bool) (f : A → A) (new r x : A) (xs : List A) (n : ℕ) → (slice_get xs n ≡ Some r → set xs n (f r) ≡ change_or_add p f new xs) → (b : Bool) →
    slice_get (x ∷ xs) (cond (not b) (1 + n) 0) ≡ Some r → set (x ∷ xs) (cond (not b) (1 + n) 0) (f r) ≡ (if b then f x ∷ xs else x ∷ change_or_add p f new xs)
change_step p f new r x xs n rest true h = ap (λ y. f y ∷ xs) (sym (same_Some x r h))
change_step p f new r x xs n rest false h =
    let e : 1 + n ≡ suc n = omega arith in
    ap (λ k. set (x ∷ xs) k (f r)) e ∙ ap (λ ys. x ∷ ys) (rest (ap (slice_get (x ∷ xs)) (sym e) ∙ h))

change_at_first : {A : Type 0} (p : A → Bool) (f : A → A) (new r : A) (xs : List A) → slice_get xs (position_or_len p xs) ≡ Some r → set xs (position_or_len p xs) (f r) ≡ change_or_add p f new xs
change_at_first p f new r [] h = cc
change_at_first p f new r (x ∷ xs) h = change_step p f new r x xs (position_or_len p xs) (change_at_first p f new r xs) (p x) h

pub changed_Some : {A : Type 0} (p : A → Bool) (f : A → A) (new : A) (xs ys : List A) (place : ℕ) → position p xs ≡ Some place → ((r : A) → slice_get xs place ≡ Some r → ys ≡ set xs place (f r)) → ys ≡ change_or_add p f new xs
changed_Some p f new xs ys place h k = elim (position-find p xs) [
  | inl n ↦ let bad : None ≡ Some place = sym n.0 ∙ h in cc
  | inr g ↦ let same : Some g.0 ≡ Some place = sym g.2.place ∙ h in
      let at : g.0 ≡ place = cc in
      let e : place ≡ position_or_len p xs = grind (arith, common_steps, h) in
      let there : slice_get xs place ≡ Some g.1 = subst (λ n. slice_get xs n ≡ Some g.1) at g.2.there in
      k g.1 there ∙ ap (λ n. set xs n (f g.1)) e ∙ change_at_first p f new g.1 xs (ap (slice_get xs) (sym e) ∙ there)
]

add_step : {A : Type 0} (p : A → Bool) (f : A → A) (new x : A) (xs : List A) → (find p xs ≡ None → (xs ++ new ∷ []) ≡ change_or_add p f new xs) → (b : Bool) → cond b (Some x) (find p xs) ≡ None →
    (x ∷ xs ++ new ∷ []) ≡ (if b then f x ∷ xs else x ∷ change_or_add p f new xs)
add_step p f new x xs rest true h = cc
add_step p f new x xs rest false h = ap (λ ys. x ∷ ys) (rest h)

add_new : {A : Type 0} (p : A → Bool) (f : A → A) (new : A) (xs : List A) → find p xs ≡ None → (xs ++ new ∷ []) ≡ change_or_add p f new xs
add_new p f new [] h = refl
add_new p f new (x ∷ xs) h = add_step p f new x xs (add_new p f new xs) (p x) h

pub added_None : {A : Type 0} (p : A → Bool) (f : A → A) (new : A) (xs : List A) → position p xs ≡ None → (xs ++ new ∷ []) ≡ change_or_add p f new xs
added_None p f new xs h = elim (position-find p xs) [
  | inl n ↦ add_new p f new xs n.1
  | inr g ↦ let bad : None ≡ Some g.0 = sym h ∙ g.2.place in cc
]

-- ---- what is found then

mine_step : {A : Type 0} (p : A → Bool) (f : A → A) (new x : A) (xs : List A) (b : Bool) → p (f x) ≡ p x → p x ≡ b → find p (change_or_add p f new xs) ≡ Some (option_map_or f (find p xs) new) →
    find p (if b then f x ∷ xs else x ∷ change_or_add p f new xs) ≡ Some (option_map_or f (cond b (Some x) (find p xs)) new)
mine_step p f new x xs true keeps e rest = ap (λ c. cond c (Some (f x)) (find p xs)) (keeps ∙ e)
mine_step p f new x xs false keeps e rest = ap (λ c. cond c (Some x) (find p (change_or_add p f new xs))) e ∙ rest

-- the one that is changed or added is found
found_mine : {A : Type 0} (p : A → Bool) (f : A → A) (new : A) → ((x : A) → p (f x) ≡ p x) → p new ≡ true → (xs : List A) →
    find p (change_or_add p f new xs) ≡ Some (option_map_or f (find p xs) new)
found_mine p f new keeps passes [] = ap (λ b. cond b (Some new) None) passes
found_mine p f new keeps passes (x ∷ xs) = mine_step p f new x xs (p x) (keeps x) refl (found_mine p f new keeps passes xs)

other_step : {A : Type 0} (p q : A → Bool) (f : A → A) (new x : A) (xs : List A) (b : Bool) → q (f x) ≡ q x → p x ≡ b → (p x ≡ true → q x ≡ false) → find q (change_or_add p f new xs) ≡ find q xs →
    find q (if b then f x ∷ xs else x ∷ change_or_add p f new xs) ≡ cond (q x) (Some x) (find q xs)
other_step p q f new x xs true keeps e apart rest =
    ap (λ c. cond c (Some (f x)) (find q xs)) (keeps ∙ apart e) ∙ sym (ap (λ c. cond c (Some x) (find q xs)) (apart e))
other_step p q f new x xs false keeps e apart rest = ap (cond (q x) (Some x)) rest

-- others are found as before
found_other : {A : Type 0} (p q : A → Bool) (f : A → A) (new : A) → ((x : A) → q (f x) ≡ q x) → q new ≡ false → ((x : A) → p x ≡ true → q x ≡ false) → (xs : List A) →
    find q (change_or_add p f new xs) ≡ find q xs
found_other p q f new keeps fails apart [] = ap (λ b. cond b (Some new) None) fails
found_other p q f new keeps fails apart (x ∷ xs) = other_step p q f new x xs (p x) (keeps x) refl (apart x) (found_other p q f new keeps fails apart xs)

-- ---- jobs

-- two jobs are one or others
abbrev same_job : Id → ℕ → Id → ℕ → Bool
same_job id transport i t = id_eq id i && (transport == t)

job_is : (id i : Id) (transport t : ℕ) → same_job id transport i t ≡ true → (id ≡ i) × (transport ≡ t)
job_is id i transport t h = let two = and_parts (id_eq id i) (transport == t) h in (id_eq-true id i two.0, eqb-true transport t two.1)

apart_by : (id i : Id) (transport t : ℕ) (a : Account) → same_job id transport i t ≡ false → is_of id transport a ≡ true → (b : Bool) → is_of i t a ≡ b → b ≡ false
apart_by id i transport t a h mine true e =
    let one = job_is a.id id a.transport transport mine in
    let two = job_is a.id i a.transport t e in
    let bad : true ≡ false = sym e ∙ ap (λ j. id_eq j i && (a.transport == t)) one.0 ∙ ap (λ n. id_eq id i && (n == t)) one.1 ∙ h in cc
apart_by id i transport t a h mine false e = refl

-- an account is of one job
jobs_apart : (id i : Id) (transport t : ℕ) → same_job id transport i t ≡ false → (a : Account) → is_of id transport a ≡ true → is_of i t a ≡ false
jobs_apart id i transport t h a mine = apart_by id i transport t a h mine (is_of i t a) refl

itself : (id : Id) (transport : ℕ) → same_job id transport id transport ≡ true
itself id transport = grind (arith, common_steps, id_eq-refl id)

-- ---- a delivery begins

abbrev starts_among : List Account → Id → ℕ → ℕ
starts_among xs id transport = option_map_or (λ a. a.starts) (find (is_of id transport) xs) 0

abbrev charged_among : List Account → Id → ℕ → ℕ
charged_among xs id transport = option_map_or (λ a. a.charged) (find (is_of id transport) xs) 0

abbrev first_start : Id → ℕ → Account
first_start id transport = record { id = id; transport = transport; starts = 1; charged = 0 }

abbrev first_charge : Id → ℕ → ℕ → Account
first_charge id transport need = record { id = id; transport = transport; starts = 0; charged = need }

start_by : (id : Id) (transport : ℕ) (o : Option Account) → option_map_or (λ a. a.starts) o 0 + 1 < 2 ^ 64 →
    (option_map_or with_start o (first_start id transport)).starts ≡ 1 + option_map_or (λ a. a.starts) o 0
start_by id transport None few = refl
start_by id transport (Some a) few = omega (arith, few)

start_keeps : (id : Id) (transport : ℕ) (o : Option Account) → (option_map_or with_start o (first_start id transport)).charged ≡ option_map_or (λ a. a.charged) o 0
start_keeps id transport None = refl
start_keeps id transport (Some a) = refl

started_found : (id : Id) (transport : ℕ) (xs : List Account) → find (is_of id transport) (started_jobs id transport xs) ≡ Some (option_map_or with_start (find (is_of id transport) xs) (first_start id transport))
started_found id transport xs = found_mine (is_of id transport) with_start (first_start id transport) (λ a. refl) (itself id transport) xs

started_apart : (id i : Id) (transport t : ℕ) (xs : List Account) → same_job id transport i t ≡ false → find (is_of i t) (started_jobs id transport xs) ≡ find (is_of i t) xs
started_apart id i transport t xs h = found_other (is_of id transport) (is_of i t) with_start (first_start id transport) (λ a. refl) h (jobs_apart id i transport t h) xs

-- what is so of the job itself and of others is so of all
each_job : (P : Id → ℕ → Bool → Type 0) (id : Id) (transport : ℕ) → P id transport true → ((i : Id) (t : ℕ) → same_job id transport i t ≡ false → P i t false) → (i : Id) (t : ℕ) → P i t (same_job id transport i t)
each_job P id transport mine others i t = by (same_job id transport i t) refl
  where
    by : (b : Bool) → same_job id transport i t ≡ b → P i t b
    by true e = let one = job_is id i transport t e in subst (λ j. P j t true) one.0 (subst (λ n. P id n true) one.1 mine)
    by false e = others i t e

starts_more : (id : Id) (transport : ℕ) (xs : List Account) → starts_among xs id transport + 1 < 2 ^ 64 → (i : Id) (t : ℕ) →
    starts_among (started_jobs id transport xs) i t ≡ (if same_job id transport i t then 1 else 0) + starts_among xs i t
starts_more id transport xs few =
    each_job (λ i t b. starts_among (started_jobs id transport xs) i t ≡ (if b then 1 else 0) + starts_among xs i t) id transport
    (ap (λ o. option_map_or (λ (a : Account). a.starts) o 0) (started_found id transport xs) ∙ start_by id transport (find (is_of id transport) xs) few)
    (λ i t h. ap (λ o. option_map_or (λ (a : Account). a.starts) o 0) (started_apart id i transport t xs h) ∙ sym (zero-add (starts_among xs i t)))

starts_keep : (id : Id) (transport : ℕ) (xs : List Account) (i : Id) (t : ℕ) → charged_among (started_jobs id transport xs) i t ≡ charged_among xs i t
starts_keep id transport xs =
    each_job (λ i t b. charged_among (started_jobs id transport xs) i t ≡ charged_among xs i t) id transport
    (ap (λ o. option_map_or (λ (a : Account). a.charged) o 0) (started_found id transport xs) ∙ start_keeps id transport (find (is_of id transport) xs))
    (λ i t h. ap (λ o. option_map_or (λ (a : Account). a.charged) o 0) (started_apart id i transport t xs h))

pub started_accounts : (a b : Accounts) (c : Counts) (number : ℕ) (id : Id) (site : Site) (positions : List ℕ) → AreAccounts a c → AreFew c →
    b.starts ≡ raised a.starts 1 → b.arrivals ≡ a.arrivals → b.jobs.items ≡ started_jobs id site.transport a.jobs.items →
    AreAccounts b (counts_after (entries.Start number id site positions) c)
started_accounts a b c number id site positions k few starts arrivals jobs =
    let most = few.begun id site.transport in
    let all = few.deliveries in
    let mine = k.starts id site.transport in
    let told = k.deliveries in
    record {
      deliveries = omega (arith, starts, told, all);
      messages = arrivals ∙ k.messages ∙ sym (zero-add c.messages);
      starts = λ i t. ap (λ xs. starts_among xs i t) jobs ∙ starts_more id site.transport a.jobs.items (omega (arith, most, all, mine)) i t
          ∙ ap (λ n. (if same_job id site.transport i t then 1 else 0) + n) (k.starts i t);
      charged = λ i t. ap (λ xs. charged_among xs i t) jobs ∙ starts_keep id site.transport a.jobs.items i t ∙ k.charged i t ∙ sym (zero-add (c.charged_to i t));
    }

-- ---- a job is charged

charge_by : (id : Id) (transport need : ℕ) (o : Option Account) → option_map_or (λ a. a.charged) o 0 + need < 2 ^ 64 →
    (option_map_or (with_charge need) o (first_charge id transport need)).charged ≡ need + option_map_or (λ a. a.charged) o 0
charge_by id transport need None few = omega arith
charge_by id transport need (Some a) few = omega (arith, few)

charge_keeps : (id : Id) (transport need : ℕ) (o : Option Account) → (option_map_or (with_charge need) o (first_charge id transport need)).starts ≡ option_map_or (λ a. a.starts) o 0
charge_keeps id transport need None = refl
charge_keeps id transport need (Some a) = refl

charged_found : (id : Id) (transport need : ℕ) (xs : List Account) → find (is_of id transport) (charged_jobs id transport need xs) ≡ Some (option_map_or (with_charge need) (find (is_of id transport) xs) (first_charge id transport need))
charged_found id transport need xs = found_mine (is_of id transport) (with_charge need) (first_charge id transport need) (λ a. refl) (itself id transport) xs

charged_apart : (id i : Id) (transport t need : ℕ) (xs : List Account) → same_job id transport i t ≡ false → find (is_of i t) (charged_jobs id transport need xs) ≡ find (is_of i t) xs
charged_apart id i transport t need xs h = found_other (is_of id transport) (is_of i t) (with_charge need) (first_charge id transport need) (λ a. refl) h (jobs_apart id i transport t h) xs

charges_more : (id : Id) (transport need : ℕ) (xs : List Account) → charged_among xs id transport + need < 2 ^ 64 → (i : Id) (t : ℕ) →
    charged_among (charged_jobs id transport need xs) i t ≡ (if same_job id transport i t then need else 0) + charged_among xs i t
charges_more id transport need xs few =
    each_job (λ i t b. charged_among (charged_jobs id transport need xs) i t ≡ (if b then need else 0) + charged_among xs i t) id transport
    (ap (λ o. option_map_or (λ (a : Account). a.charged) o 0) (charged_found id transport need xs) ∙ charge_by id transport need (find (is_of id transport) xs) few)
    (λ i t h. ap (λ o. option_map_or (λ (a : Account). a.charged) o 0) (charged_apart id i transport t need xs h) ∙ sym (zero-add (charged_among xs i t)))

charges_keep : (id : Id) (transport need : ℕ) (xs : List Account) (i : Id) (t : ℕ) → starts_among (charged_jobs id transport need xs) i t ≡ starts_among xs i t
charges_keep id transport need xs =
    each_job (λ i t b. starts_among (charged_jobs id transport need xs) i t ≡ starts_among xs i t) id transport
    (ap (λ o. option_map_or (λ (a : Account). a.starts) o 0) (charged_found id transport need xs) ∙ charge_keeps id transport need (find (is_of id transport) xs))
    (λ i t h. ap (λ o. option_map_or (λ (a : Account). a.starts) o 0) (charged_apart id i transport t need xs h))

pub charged_accounts : (a b : Accounts) (c : Counts) (child parent : Id) (transport need : ℕ) → AreAccounts a c → c.charged_to parent transport + need < 2 ^ 64 →
    b.starts ≡ a.starts → b.arrivals ≡ a.arrivals → b.jobs.items ≡ charged_jobs parent transport need a.jobs.items →
    AreAccounts b (counts_after (entries.Preempt child parent transport need) c)
charged_accounts a b c child parent transport need k few starts arrivals jobs =
    let mine = k.charged parent transport in
    record {
      deliveries = starts ∙ k.deliveries ∙ sym (zero-add c.deliveries);
      messages = arrivals ∙ k.messages ∙ sym (zero-add c.messages);
      starts = λ i t. ap (λ xs. starts_among xs i t) jobs ∙ charges_keep parent transport need a.jobs.items i t ∙ k.starts i t ∙ sym (zero-add (c.deliveries_of i t));
      charged = λ i t. ap (λ xs. charged_among xs i t) jobs ∙ charges_more parent transport need a.jobs.items (omega (arith, few, mine)) i t
          ∙ ap (λ n. (if same_job parent transport i t then need else 0) + n) (k.charged i t);
    }

-- ---- a message comes into memory

abbrev is_anothers : Id → Account → Bool
is_anothers id a = not (id_eq a.id id)

forgot_step : (id i : Id) (t : ℕ) (a : Account) (few all : List Account) (b d : Bool) → id_eq a.id id ≡ b → is_of i t a ≡ d → id_eq id i ≡ false → find (is_of i t) few ≡ find (is_of i t) all →
    find (is_of i t) (cond (not b) (a ∷ few) few) ≡ cond d (Some a) (find (is_of i t) all)
forgot_step id i t a few all false d e f h rest = ap (λ c. cond c (Some a) (find (is_of i t) few)) f ∙ ap (cond d (Some a)) rest
forgot_step id i t a few all true false e f h rest = rest
forgot_step id i t a few all true true e f h rest =
    let mine : a.id ≡ id = id_eq-true a.id id e in
    let other : id_eq a.id i ≡ true = (and_parts (id_eq a.id i) (a.transport == t) f).0 in
    let bad : true ≡ false = sym other ∙ ap (λ j. id_eq j i) mine ∙ h in cc

-- accounts of other messages stay
forgot_other : (id i : Id) (t : ℕ) → id_eq id i ≡ false → (xs : List Account) → find (is_of i t) (filter (is_anothers id) xs) ≡ find (is_of i t) xs
forgot_other id i t h [] = refl
forgot_other id i t h (a ∷ xs) = forgot_step id i t a (filter (is_anothers id) xs) xs (id_eq a.id id) (is_of i t a) refl refl h (forgot_other id i t h xs)

gone_step : (id : Id) (t : ℕ) (a : Account) (few : List Account) (b : Bool) → id_eq a.id id ≡ b → find (is_of id t) few ≡ None → find (is_of id t) (cond (not b) (a ∷ few) few) ≡ None
gone_step id t a few true e rest = rest
gone_step id t a few false e rest = ap (λ c. cond (c && (a.transport == t)) (Some a) (find (is_of id t) few)) e ∙ rest

-- the message has none
forgot_gone : (id : Id) (t : ℕ) (xs : List Account) → find (is_of id t) (filter (is_anothers id) xs) ≡ None
forgot_gone id t [] = refl
forgot_gone id t (a ∷ xs) = gone_step id t a (filter (is_anothers id) xs) (id_eq a.id id) refl (forgot_gone id t xs)

begun_value : (value : Account → ℕ) (id i : Id) (t : ℕ) (xs : List Account) (before : ℕ) → option_map_or value (find (is_of i t) xs) 0 ≡ before → (b : Bool) → id_eq id i ≡ b →
    option_map_or value (find (is_of i t) (filter (is_anothers id) xs)) 0 ≡ (if b then 0 else 0 + before)
begun_value value id i t xs before is true e =
    ap (λ j. option_map_or value (find (is_of j t) (filter (is_anothers id) xs)) 0) (sym (id_eq-true id i e)) ∙ ap (λ o. option_map_or value o 0) (forgot_gone id t xs)
begun_value value id i t xs before is false e = ap (λ o. option_map_or value o 0) (forgot_other id i t e xs) ∙ is ∙ sym (zero-add before)

pub begun_accounts : (a b : Accounts) (c : Counts) (id : Id) → AreAccounts a c → b.starts ≡ a.starts → b.arrivals ≡ a.arrivals → b.jobs.items ≡ filter (λ x. not (id_eq x.id id)) a.jobs.items →
    AreAccounts b (counts_after (entries.Admit id) c)
begun_accounts a b c id k starts arrivals jobs = record {
  deliveries = starts ∙ k.deliveries ∙ sym (zero-add c.deliveries);
  messages = arrivals ∙ k.messages ∙ sym (zero-add c.messages);
  starts = λ i t. ap (λ xs. starts_among xs i t) jobs ∙ begun_value (λ x. x.starts) id i t a.jobs.items (c.deliveries_of i t) (k.starts i t) (id_eq id i) refl;
  charged = λ i t. ap (λ xs. charged_among xs i t) jobs ∙ begun_value (λ x. x.charged) id i t a.jobs.items (c.charged_to i t) (k.charged i t) (id_eq id i) refl;
}
