-- Lists of entries that grow at their end.
use Rattle.std.proofs.Common.{◌≡◌, List, [], ◌∷◌, ◌++◌, ◌⊎◌, inl, inr, refl, sym, ap, ◌∙◌, subst}
use Rattle.std.proofs.lemmas.List.{append_assoc, append-nil}
use Rattle.q_model.specs.declared.entry.Entry.{Entry}

pub same_head : {A : Type 0} (x y : A) (xs ys : List A) → ◌≡◌ {A = List A} (x ∷ xs) (y ∷ ys) → (x ≡ y) × (xs ≡ ys)
same_head x y xs ys h = (cc, cc)

pub not_empty : {A : Type 0} (xs : List A) (x : A) (ys : List A) → ◌≡◌ {A = List A} [] (xs ++ (x ∷ ys)) → ⊥
not_empty [] x ys h = absurd cc
not_empty (y ∷ xs) x ys h = absurd cc

-- an element of a list that grew by one is the new one or one of the old ones
pub last_of : {A : Type 0} (es : List A) (e : A) (xs : List A) (x : A) (ys : List A) → es ++ e ∷ [] ≡ xs ++ (x ∷ ys) →
    ((ys ≡ []) × (x ≡ e) × (xs ≡ es)) ⊎ ((zs : List A) × (ys ≡ zs ++ e ∷ []) × (es ≡ xs ++ (x ∷ zs)))
last_of [] e [] x ys h = let two = same_head e x [] ys h in inl (sym two.1, sym two.0, refl)
last_of [] e (y ∷ xs) x ys h = absurd (not_empty xs x ys (same_head e y [] (xs ++ (x ∷ ys)) h).1)
last_of (a ∷ es) e [] x ys h = let two = same_head a x (es ++ e ∷ []) ys h in inr (es, sym two.1, ap (λ z. z ∷ es) two.0)
last_of (a ∷ es) e (y ∷ xs) x ys h =
    let two = same_head a y (es ++ e ∷ []) (xs ++ (x ∷ ys)) h in
    elim (last_of es e xs x ys two.1) [
      | inl new ↦ inl (new.0, new.1, ap (λ z. z ∷ xs) (sym two.0) ∙ ap (λ zs. a ∷ zs) new.2)
      | inr old ↦ inr (old.0, old.1, ap (λ z. z ∷ es) two.0 ∙ ap (λ zs. y ∷ zs) old.2)
    ]

-- so of each entry, by those before it
abbrev pub EachOf : (List Entry → Entry → Type 0) → List Entry → List Entry → Type 0
EachOf P done [] = Unit {0}
EachOf P done (e ∷ es) = P done e × EachOf P (done ++ e ∷ []) es

pub each_join : (P : List Entry → Entry → Type 0) (done es fs : List Entry) → EachOf P done es → EachOf P (done ++ es) fs → EachOf P done (es ++ fs)
each_join P done [] fs h k = subst (λ xs. EachOf P xs fs) (append-nil done) k
each_join P done (e ∷ es) fs h k = (h.0, each_join P (done ++ e ∷ []) es fs h.1 (subst (λ xs. EachOf P xs fs) (sym (append_assoc done (e ∷ []) es)) k))

pub each_at : (P : List Entry → Entry → Type 0) (done es xs : List Entry) (x : Entry) (ys : List Entry) → EachOf P done es → es ≡ xs ++ (x ∷ ys) → P (done ++ xs) x
each_at P done [] xs x ys h same = absurd (not_empty xs x ys same)
each_at P done (e ∷ es) [] x ys h same =
    let two = same_head e x es ys same in
    subst (λ zs. P zs x) (sym (append-nil done)) (subst (P done) two.0 h.0)
each_at P done (e ∷ es) (y ∷ xs) x ys h same =
    let two = same_head e y es (xs ++ (x ∷ ys)) same in
    subst (λ zs. P (done ++ zs ∷ xs) x) two.0 (subst (λ zs. P zs x) (append_assoc done (e ∷ []) xs) (each_at P (done ++ e ∷ []) es xs x ys h.1 two.1))
