-- What a contract sees of items in an order, each under a number of its own.
use Rattle.std.specs.Coded.{code_by, Coded, coded_list, coded_ℕ, coded×}
use Rattle.std.specs.Prelude.{◌≡◌, ◌++◌, ◌==◌, [], ◌∷◌, Bool, filter, find, if◌then◌else◌, List, map, None, not, Option, option_map, refl, slice_get, ℕ}

-- an item, and the number under which it stands
pub record Numbered (T : Type 0) : Type 0 where
  pub number : ℕ
  pub item : T

-- the items in their order, and how many have room
pub record Items (T : Type 0) : Type 0 where
  pub items : List (Numbered T)
  pub room : ℕ

-- how they are coded as a list of numbers, which a model says of a type with parameters
abbrev pub numbered_code : {T : Type 0} → Coded T → Coded (Numbered T)
numbered_code {T} t = code_by (ℕ × T)
    (coded× coded_ℕ t)
    (λ k. (k.number, k.item))
    (λ p. record { number = p.0; item = p.1 })
    (λ _. refl)

abbrev pub items_code : {T : Type 0} → Coded T → Coded (Items T)
items_code {T} t = code_by (List (Numbered T) × ℕ)
    (coded× (coded_list (numbered_code t)) coded_ℕ)
    (λ s. (s.items, s.room))
    (λ p. record { items = p.0; room = p.1 })
    (λ _. refl)

module _ {T : Type 0} where
  abbrev pub values_of : List (Numbered T) → List T
  values_of ks = map (λ k. k.item) ks

  -- it has this number
  abbrev pub has_number : ℕ → Numbered T → Bool
  has_number n k = k.number == n

  -- no two have one number
  abbrev pub AreApart : List (Numbered T) → Type 0
  AreApart [] = Unit {0}
  AreApart (k ∷ ks) = (find (has_number k.number) ks ≡ None) × AreApart ks

  -- the item of this number
  abbrev pub item_at : ℕ → List (Numbered T) → Option T
  item_at n ks = option_map (λ k. k.item) (find (has_number n) ks)

  -- the number of the first item that passes
  abbrev pub first_such : (T → Bool) → List (Numbered T) → Option ℕ
  first_such p ks = option_map (λ k. k.number) (find (λ k. p k.item) ks)

  -- the number of the first item
  abbrev pub first_number : List (Numbered T) → Option ℕ
  first_number ks = option_map (λ k. k.number) (slice_get ks 0)

  -- the number of the item right behind the one of this number
  abbrev pub next_number : ℕ → List (Numbered T) → Option ℕ
  next_number n [] = None
  next_number n (k ∷ ks) = if k.number == n then first_number ks else next_number n ks

  -- another item under this number
  abbrev pub put_at : ℕ → T → Numbered T → Numbered T
  put_at n t k = if k.number == n then record { number = n; item = t } else k

  -- one more right before the item of this number
  abbrev pub inserted_at : ℕ → Numbered T → List (Numbered T) → List (Numbered T)
  inserted_at at new [] = []
  inserted_at at new (k ∷ ks) = if k.number == at then new ∷ k ∷ ks else k ∷ inserted_at at new ks

  -- without the item of this number
  abbrev pub without_number : ℕ → List (Numbered T) → List (Numbered T)
  without_number n ks = filter (λ k. not (has_number n k)) ks

  -- the item of this number behind all others
  abbrev pub moved_last : ℕ → List (Numbered T) → List (Numbered T)
  moved_last n ks = without_number n ks ++ filter (has_number n) ks

  -- no two have one key
  abbrev pub AreKeysApart : {K : Type 0} → (K → K → Bool) → (T → K) → List (Numbered T) → Type 0
  AreKeysApart eq key [] = Unit {0}
  AreKeysApart eq key (k ∷ ks) =
      (first_such (λ t. eq (key t) (key k.item)) ks ≡ None) × AreKeysApart eq key ks
