-- Tickets that stand where they are those of the numbers that they name, as one comes or goes.
use Rattle.std.proofs.Common.{◌≡◌, ◌≢◌, ◌∙◌, ◌∷◌, ◌&&◌, ◌||◌, ◌<◌, ◌≤◌, [], ap, arith, Bool, cond, false, inl, inr, length, List, None, not, Option, refl, Some, sym, true, ℕ, ◌⊎◌}
use Rattle.std.proofs.lemmas.Bool.{both_ways, cases_eq, false_from_ne_true}
use Rattle.std.specs.Option.{is_some}
use Rattle.std.specs.Prelude.{filter}
use Rattle.q_heads.proofs.Standing.{all_stand, not_itself, same_is, same_refl, stands_here, stands_inserted, stands_later, stands_left}
use Rattle.q_heads.specs.Lanes.{is_same, is_the, stands}
use Rattle.q_keyed.specs.Numbered.{item_at, Numbered, without_number}
use Rattle.q_sorted.specs.declared.ticket.Ticket.{Ticket}
use Rattle.q_sorted.specs.Tickets.{goes_before, inserted, is_another, Rises}
use Rattle.q_rounds.specs.Listing.{AreTickets}
use Rattle.q_rounds.proofs.Lookups.{fewer_at, other_left}

pub the_is : (x : Ticket) (o : Option Ticket) → is_the x o ≡ true → o ≡ Some x
the_is x None h = absurd cc
the_is x (Some y) h = ap Some (sym (same_is x y h))

pub alike : (f g : ℕ → Option Ticket) (xs : List Ticket) → AreTickets f xs → ((n : ℕ) → g n ≡ f n) → AreTickets g xs
alike f g xs are same x = are x ∙ ap (is_the x) (sym (same x.item))

-- the ticket of a number stands there
pub entered : (f : ℕ → Option Ticket) (xs : List Ticket) (n : ℕ) (e : Ticket) → AreTickets f xs → f n ≡ Some e → e.item ≡ n → stands e xs ≡ true
entered f xs n e are own named = are e ∙ ap (λ m. is_the e (f m)) named ∙ ap (is_the e) own ∙ same_refl e

-- what stands there is the ticket of its number
pub ticket_own : (f : ℕ → Option Ticket) (xs : List Ticket) (x : Ticket) → AreTickets f xs → stands x xs ≡ true → f x.item ≡ Some x
ticket_own f xs x are there = the_is x (f x.item) (sym (are x) ∙ there)

other_ticket : (x e : Ticket) (n : ℕ) → e.item ≡ n → x.item ≢ n → is_same x e ≡ false
other_ticket x e n named other = false_from_ne_true (is_same x e) (λ h. other (ap (λ (y : Ticket). y.item) (same_is x e h) ∙ named))

or_none : (b : Bool) → (b || false) ≡ b
or_none true = refl
or_none false = refl

neither : (b : Bool) → (not b && b) ≡ false
neither true = refl
neither false = refl

pub cond_same : {A : Type 0} (b : Bool) (x : A) → cond b x x ≡ x
cond_same true x = refl
cond_same false x = refl

-- Those of all numbers but one stay the same.
abbrev pub StayBut : ℕ → (ℕ → Option Ticket) → (ℕ → Option Ticket) → Type 0
StayBut n f g = (m : ℕ) → m ≢ n → g m ≡ f m

module _ (f g : ℕ → Option Ticket) (xs : List Ticket) (are : AreTickets f xs) (n : ℕ) (stay : StayBut n f g) where
  come_same : (e x : Ticket) → f n ≡ None → g n ≡ Some e → x.item ≡ n → stands x (inserted e xs) ≡ is_the x (g x.item)
  come_same e x none own same =
      let lacks : stands x xs ≡ false = are x ∙ ap (λ m. is_the x (f m)) same ∙ ap (is_the x) none in
      stands_inserted e x xs ∙ ap (λ b. is_same x e || b) lacks ∙ or_none (is_same x e)
      ∙ ap (is_the x) (sym own) ∙ ap (λ m. is_the x (g m)) (sym same)

  come_other : (e x : Ticket) → e.item ≡ n → x.item ≢ n → stands x (inserted e xs) ≡ is_the x (g x.item)
  come_other e x named other =
      stands_inserted e x xs ∙ ap (λ b. b || stands x xs) (other_ticket x e n named other) ∙ are x ∙ ap (is_the x) (sym (stay x.item other))

  -- one comes
  pub come : (e : Ticket) → f n ≡ None → g n ≡ Some e → e.item ≡ n → AreTickets g (inserted e xs)
  come e none own named x = elim (cases_eq x.item n) [ inl same ↦ come_same e x none own same | inr other ↦ come_other e x named other ]

  go_same : (e x : Ticket) → f n ≡ Some e → g n ≡ None → x.item ≡ n → stands x (filter (is_another e) xs) ≡ is_the x (g x.item)
  go_same e x own none same =
      let there : stands x xs ≡ is_same x e = are x ∙ ap (λ m. is_the x (f m)) same ∙ ap (is_the x) own in
      stands_left e x xs ∙ ap (λ b. not (is_same x e) && b) there ∙ neither (is_same x e)
      ∙ ap (is_the x) (sym none) ∙ ap (λ m. is_the x (g m)) (sym same)

  go_other : (e x : Ticket) → e.item ≡ n → x.item ≢ n → stands x (filter (is_another e) xs) ≡ is_the x (g x.item)
  go_other e x named other =
      stands_left e x xs ∙ ap (λ b. not b && stands x xs) (other_ticket x e n named other) ∙ are x ∙ ap (is_the x) (sym (stay x.item other))

  -- one goes
  pub go : (e : Ticket) → f n ≡ Some e → g n ≡ None → e.item ≡ n → AreTickets g (filter (is_another e) xs)
  go e own none named x = elim (cases_eq x.item n) [ inl same ↦ go_same e x own none same | inr other ↦ go_other e x named other ]

  none_step : (m : ℕ) → f n ≡ None → g n ≡ None → (m ≡ n) ⊎ (m ≢ n) → g m ≡ f m
  none_step m a b (inl same) = ap g same ∙ b ∙ sym a ∙ ap f (sym same)
  none_step m a b (inr other) = stay m other

  -- none does
  pub none_does : f n ≡ None → g n ≡ None → AreTickets g xs
  none_does a b = alike f g xs are (λ m. none_step m a b (cases_eq m n))

-- There are no more tickets than numbers.
abbrev AreItemsApart : List Ticket → Type 0
AreItemsApart [] = Unit {0}
AreItemsApart (x ∷ xs) = ((y : Ticket) → stands y xs ≡ true → y.item ≢ x.item) × AreItemsApart xs

module _ (f : ℕ → Option Ticket) where
  apart : (xs : List Ticket) → Rises xs → ((x : Ticket) → stands x xs ≡ true → f x.item ≡ Some x) → AreItemsApart xs
  apart [] rising own = tt
  apart (x ∷ xs) rising own = (
    λ y there same.
        let mine = own x (stands_here x x xs refl) in
        let its = own y (stands_later y x xs there) in
        let one : Some x ≡ Some y = sym mine ∙ ap f (sym same) ∙ its in
        let equal : x ≡ y = cc in
        both_ways (goes_before x y) (ap (goes_before x) (sym equal) ∙ not_itself x) (all_stand (λ z. goes_before x z ≡ true) y xs rising.0 there),
    apart xs rising.1 (λ y there. own y (stands_later y x xs there)),
  )

module _ {T : Type 0} where
  few : (xs : List Ticket) (ks : List (Numbered T)) → AreItemsApart xs → ((x : Ticket) → stands x xs ≡ true → is_some (item_at x.item ks) ≡ true) → length xs ≤ length ks
  few [] ks apart there = omega arith
  few (x ∷ xs) ks apart there =
      let left = fewer_at x.item ks (there x (stands_here x x xs refl)) in
      let rest = few xs (without_number x.item ks) apart.1 (λ y stands. ap is_some (other_left x.item y.item ks (apart.0 y stands)) ∙ there y (stands_later y x xs stands)) in
      omega (arith, left, rest)

  -- where a number has no ticket, there are fewer
  pub fewer_tickets : (f : ℕ → Option Ticket) (xs : List Ticket) (ks : List (Numbered T)) (n : ℕ) → AreTickets f xs → Rises xs → ((m : ℕ) (e : Ticket) → f m ≡ Some e → is_some (item_at m ks) ≡ true) → f n ≡ None → is_some (item_at n ks) ≡ true →
      length xs < length ks
  fewer_tickets f xs ks n are rising held none there =
      let left = fewer_at n ks there in
      let own : (x : Ticket) → stands x xs ≡ true → f x.item ≡ Some x = λ x h. ticket_own f xs x are h in
      let rest = few xs (without_number n ks) (apart f xs rising own) (λ x h.
      ap is_some (other_left n x.item ks (λ same.
      let some : ◌≡◌ {A = Option Ticket} None (Some x) = sym none ∙ ap f (sym same) ∙ own x h in
      absurd cc))
      ∙ held x.item x (own x h)) in
      omega (arith, left, rest)

  pub most_tickets : (f : ℕ → Option Ticket) (xs : List Ticket) (ks : List (Numbered T)) → AreTickets f xs → Rises xs → ((m : ℕ) (e : Ticket) → f m ≡ Some e → is_some (item_at m ks) ≡ true) → length xs ≤ length ks
  most_tickets f xs ks are rising held =
      let own : (x : Ticket) → stands x xs ≡ true → f x.item ≡ Some x = λ x h. ticket_own f xs x are h in
      few xs ks (apart f xs rising own) (λ x h. held x.item x (own x h))
