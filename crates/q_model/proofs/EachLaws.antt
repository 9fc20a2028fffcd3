-- A fact of each element of a list, and the first that passes a test.
use Rattle.std.proofs.Common.{◌≡◌, Bool, true, false, ◌||◌, List, [], ◌∷◌, ◌++◌, map, find, is_some, Option, Some, if◌then◌else◌, refl, sym, ap, subst, ◌∙◌}
use Rattle.std.proofs.lemmas.Bool.{or_parts, or_from}
use Rattle.std.specs.List.{AllByRecursion, list_any}

pub each-append : {A : Type 0} (P : A → Type 0) (xs ys : List A) → AllByRecursion P xs → AllByRecursion P ys → AllByRecursion P (xs ++ ys)
each-append P [] ys h k = k
each-append P (x ∷ xs) ys h k = (h.0, each-append P xs ys h.1 k)

pub each-map : {A B : Type 0} (P : A → Type 0) (Q : B → Type 0) (f : A → B) (xs : List A) → ((x : A) → P x → Q (f x)) → AllByRecursion P xs → AllByRecursion Q (map f xs)
each-map P Q f [] step h = tt
each-map P Q f (x ∷ xs) step h = (step x h.0, each-map P Q f xs step h.1)

pub each-same : {A : Type 0} (P Q : A → Type 0) (xs : List A) → ((x : A) → P x → Q x) → AllByRecursion P xs → AllByRecursion Q xs
each-same P Q [] step h = tt
each-same P Q (x ∷ xs) step h = (step x h.0, each-same P Q xs step h.1)

pub each-both : {A : Type 0} (P Q : A → Type 0) (xs : List A) → AllByRecursion P xs → AllByRecursion Q xs → AllByRecursion (λ x. P x × Q x) xs
each-both P Q [] h k = tt
each-both P Q (x ∷ xs) h k = ((h.0, k.0), each-both P Q xs h.1 k.1)

pub none-each : {A : Type 0} (test : A → Bool) (xs : List A) → list_any test xs ≡ false → AllByRecursion (λ x. test x ≡ false) xs
none-each test [] h = tt
none-each test (x ∷ xs) h =
    let two = or_parts (test x) (list_any test xs) h in
    (two.0, none-each test xs two.1)

pub each-none : {A : Type 0} (test : A → Bool) (xs : List A) → AllByRecursion (λ x. test x ≡ false) xs → list_any test xs ≡ false
each-none test [] h = refl
each-none test (x ∷ xs) h = or_from (test x) (list_any test xs) h.0 (each-none test xs h.1)

pub any-map : {A B : Type 0} (test : B → Bool) (f : A → B) (xs : List A) → list_any test (map f xs) ≡ list_any (λ x. test (f x)) xs
any-map test f [] = refl
any-map test f (x ∷ xs) = rw (any-map test f xs) refl

pub each-unmap : {A B : Type 0} (P : B → Type 0) (f : A → B) (xs : List A) → AllByRecursion P (map f xs) → AllByRecursion (λ x. P (f x)) xs
each-unmap P f [] h = tt
each-unmap P f (x ∷ xs) h = (h.0, each-unmap P f xs h.1)

-- the first that passes a test passes it, and has what each has
first_passes : {A : Type 0} (test : A → Bool) (x : A) (xs : List A) (y : A) (t : Bool) → test x ≡ t → (if t then Some x else find test xs) ≡ Some y → (find test xs ≡ Some y → test y ≡ true) → test y ≡ true
first_passes test x xs y true e h rest =
    let same : x ≡ y = cc in
    ap test (sym same) ∙ e
first_passes test x xs y false e h rest = rest h

pub find-passes : {A : Type 0} (test : A → Bool) (xs : List A) (y : A) → find test xs ≡ Some y → test y ≡ true
find-passes test [] y h = absurd cc
find-passes test (x ∷ xs) y h = first_passes test x xs y (test x) refl h (find-passes test xs y)

first_has : {A : Type 0} (P : A → Type 0) (x : A) (xs : List A) (test : A → Bool) (y : A) (t : Bool) → (if t then Some x else find test xs) ≡ Some y → P x → (find test xs ≡ Some y → P y) → P y
first_has P x xs test y true h here rest =
    let same : x ≡ y = cc in
    subst P same here
first_has P x xs test y false h here rest = rest h

pub find-has : {A : Type 0} (P : A → Type 0) (test : A → Bool) (xs : List A) (y : A) → AllByRecursion P xs → find test xs ≡ Some y → P y
find-has P test [] y each h = absurd cc
find-has P test (x ∷ xs) y each h = first_has P x xs test y (test x) h each.0 (find-has P test xs y each.1)

-- something is found where one passes
found_or : {A : Type 0} (x : A) (o : Option A) (t b : Bool) → is_some o ≡ b → is_some (if t then Some x else o) ≡ (t || b)
found_or x o true b e = refl
found_or x o false b e = e

pub find-any : {A : Type 0} (test : A → Bool) (xs : List A) → is_some (find test xs) ≡ list_any test xs
find-any test [] = refl
find-any test (x ∷ xs) = found_or x (find test xs) (test x) (list_any test xs) (find-any test xs)
