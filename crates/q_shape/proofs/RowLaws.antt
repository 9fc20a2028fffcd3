-- What one more count changes of the rows.
use Rattle.std.proofs.Common.{◌≡◌, ◌++◌, ℕ, List, [], ◌∷◌, Bool, true, false, cond, Some, ap, sym, subst, refl, ◌∙◌, filter, not, append-nil, ◌||◌, true≢false}
use Rattle.std.specs.Cmp.Lexicographic.{nat_list_eq_equiv}
use Rattle.std.specs.List.{list_any}
use Rattle.std.specs.Map.{lookup}
use Rattle.std.specs.Prelude.{bytes_eq, unwrap_or, Vec}
use Rattle.std.proofs.lemmas.List.Elements.{filter-append}
use Rattle.std.proofs.lemmas.Slice.Eq.{bytes_eq-Decides}
use Rattle.indexmap.specs.IndexMap.{insert_entry}
use Rattle.q_shape.specs.declared.numbers.Numbers.{Numbers}
use Rattle.q_shape.specs.declared.options.ShapeOptions.{ShapeOptions}
use Rattle.q_shape.specs.Counted.{AreNumbers, no_numbers}
use Rattle.q_shape.specs.Counts.{Count, domains, of_domain}
use Rattle.q_shape.specs.Rows.{names_of, numbers_at}

same-bytes : (x y : List ℕ) → bytes_eq x y ≡ true → x ≡ y
same-bytes x y h = (bytes_eq-Decides x y).0 h

own-bytes : (x : List ℕ) → bytes_eq x x ≡ true
own-bytes x = (bytes_eq-Decides x x).1 refl

turned : (x y : List ℕ) → bytes_eq x y ≡ bytes_eq y x
turned x y = nat_list_eq_equiv.symm x y

-- ---- names

-- a name behind others, unless it is one of them
abbrev insert_name : List ℕ → List (List ℕ) → List (List ℕ)
insert_name q ns = cond (list_any (bytes_eq q) ns) ns (ns ++ q ∷ [])

filtered : (p q : List ℕ → Bool) (xs : List (List ℕ)) → ((x : List ℕ) → q x ≡ true → p x ≡ true) → list_any q (filter p xs) ≡ list_any q xs
filtered p q [] h = refl
filtered p q (x ∷ xs) h = by (filtered p q xs h) (p x) (q x) refl refl
  where
    by : list_any q (filter p xs) ≡ list_any q xs → (s t : Bool) → p x ≡ s → q x ≡ t → list_any q (cond (p x) (x ∷ filter p xs) (filter p xs)) ≡ (q x || list_any q xs)
    by more true t hs ht = ap (λ b. list_any q (cond b (x ∷ filter p xs) (filter p xs))) hs ∙ ap (λ r. q x || r) more
    by more false true hs ht = absurd (true≢false (sym (h x ht) ∙ hs))
    by more false false hs ht = ap (λ b. list_any q (cond b (x ∷ filter p xs) (filter p xs))) hs ∙ more ∙ sym (ap (λ b. b || list_any q xs) ht)

module _ (c : Count) where
  domains-push : (cs : List Count) → domains (cs ++ c ∷ []) ≡ insert_name c.0 (domains cs)
  domains-push [] = refl
  domains-push (d ∷ cs) = ap (λ ns. d.0 ∷ filter keep ns) (domains-push cs) ∙ by (bytes_eq c.0 d.0) (list_any (bytes_eq c.0) (domains cs)) refl refl
    where
      keep : List ℕ → Bool
      keep name = not (bytes_eq d.0 name)

      apart : bytes_eq c.0 d.0 ≡ false → (x : List ℕ) → bytes_eq c.0 x ≡ true → keep x ≡ true
      apart other x h = ap not (ap (bytes_eq d.0) (sym (same-bytes c.0 x h)) ∙ turned d.0 c.0 ∙ other)

      by : (s t : Bool) → bytes_eq c.0 d.0 ≡ s → list_any (bytes_eq c.0) (domains cs) ≡ t
          → d.0 ∷ filter keep (insert_name c.0 (domains cs)) ≡ insert_name c.0 (d.0 ∷ filter keep (domains cs))
      by true true hs ht = ap (λ b. d.0 ∷ filter keep (cond b (domains cs) (domains cs ++ c.0 ∷ []))) ht
          ∙ sym (ap (λ b. cond (b || list_any (bytes_eq c.0) (filter keep (domains cs))) (d.0 ∷ filter keep (domains cs)) ((d.0 ∷ filter keep (domains cs)) ++ c.0 ∷ [])) hs)
      by true false hs ht = ap (λ b. d.0 ∷ filter keep (cond b (domains cs) (domains cs ++ c.0 ∷ []))) ht
          ∙ ap (λ ns. d.0 ∷ ns) (filter-append keep (domains cs) (c.0 ∷ [])
          ∙ ap (λ b. filter keep (domains cs) ++ cond (not b) (c.0 ∷ []) []) (turned d.0 c.0 ∙ hs) ∙ append-nil (filter keep (domains cs)))
          ∙ sym (ap (λ b. cond (b || list_any (bytes_eq c.0) (filter keep (domains cs))) (d.0 ∷ filter keep (domains cs)) ((d.0 ∷ filter keep (domains cs)) ++ c.0 ∷ [])) hs)
      by false true hs ht = ap (λ b. d.0 ∷ filter keep (cond b (domains cs) (domains cs ++ c.0 ∷ []))) ht
          ∙ sym (ap (λ b. cond b (d.0 ∷ filter keep (domains cs)) ((d.0 ∷ filter keep (domains cs)) ++ c.0 ∷ []))
          (ap (λ b. b || list_any (bytes_eq c.0) (filter keep (domains cs))) hs ∙ filtered keep (bytes_eq c.0) (domains cs) (apart hs) ∙ ht))
      by false false hs ht = ap (λ b. d.0 ∷ filter keep (cond b (domains cs) (domains cs ++ c.0 ∷ []))) ht
          ∙ ap (λ ns. d.0 ∷ ns) (filter-append keep (domains cs) (c.0 ∷ []) ∙ ap (λ b. filter keep (domains cs) ++ cond (not b) (c.0 ∷ []) []) (turned d.0 c.0 ∙ hs))
          ∙ sym (ap (λ b. cond b (d.0 ∷ filter keep (domains cs)) ((d.0 ∷ filter keep (domains cs)) ++ c.0 ∷ []))
          (ap (λ b. b || list_any (bytes_eq c.0) (filter keep (domains cs))) hs ∙ filtered keep (bytes_eq c.0) (domains cs) (apart hs) ∙ ht))

-- ---- rows

module _ {A : Type 0} (k : Vec ℕ A) (v : Numbers) where
  abbrev is_key : List ℕ → Vec ℕ A → Bool
  is_key q key = bytes_eq q key.items

  abbrev inserted : List (Vec ℕ A × Numbers) → List (Vec ℕ A × Numbers)
  inserted rows = insert_entry (λ (key other : Vec ℕ A). bytes_eq key.items other.items) rows k v

  names-insert : (rows : List (Vec ℕ A × Numbers)) → names_of (inserted rows) ≡ insert_name k.items (names_of rows)
  names-insert [] = refl
  names-insert (e ∷ rows) = by (names-insert rows) (bytes_eq k.items e.0.items) (list_any (bytes_eq k.items) (names_of rows)) refl refl
    where
      by : names_of (inserted rows) ≡ insert_name k.items (names_of rows) → (s t : Bool) → bytes_eq k.items e.0.items ≡ s → list_any (bytes_eq k.items) (names_of rows) ≡ t
          → names_of (cond (bytes_eq k.items e.0.items) ((e.0, v) ∷ rows) (e ∷ inserted rows)) ≡ insert_name k.items (e.0.items ∷ names_of rows)
      by more true t hs ht = ap (λ b. names_of (cond b ((e.0, v) ∷ rows) (e ∷ inserted rows))) hs
          ∙ sym (ap (λ b. cond (b || list_any (bytes_eq k.items) (names_of rows)) (e.0.items ∷ names_of rows) ((e.0.items ∷ names_of rows) ++ k.items ∷ [])) hs)
      by more false t hs ht = ap (λ b. names_of (cond b ((e.0, v) ∷ rows) (e ∷ inserted rows))) hs ∙ ap (λ ns. e.0.items ∷ ns) more
          ∙ ap (λ b. e.0.items ∷ cond b (names_of rows) (names_of rows ++ k.items ∷ [])) ht
          ∙ last t
          ∙ sym (ap (λ b. cond b (e.0.items ∷ names_of rows) ((e.0.items ∷ names_of rows) ++ k.items ∷ [])) (ap (λ b. b || list_any (bytes_eq k.items) (names_of rows)) hs ∙ ht))
        where
          last : (t : Bool) → e.0.items ∷ cond t (names_of rows) (names_of rows ++ k.items ∷ []) ≡ cond t (e.0.items ∷ names_of rows) ((e.0.items ∷ names_of rows) ++ k.items ∷ [])
          last true = refl
          last false = refl

  lookup-insert : (q : List ℕ) (rows : List (Vec ℕ A × Numbers)) → lookup (is_key q) (inserted rows)
      ≡ cond (bytes_eq q k.items) (Some v) (lookup (is_key q) rows)
  lookup-insert q [] = refl
  lookup-insert q (e ∷ rows) = by (lookup-insert q rows) (bytes_eq k.items e.0.items) (bytes_eq q e.0.items) (bytes_eq q k.items) refl refl refl
    where
      by : lookup (is_key q) (inserted rows) ≡ cond (bytes_eq q k.items) (Some v) (lookup (is_key q) rows) → (s t u : Bool) → bytes_eq k.items e.0.items ≡ s → bytes_eq q e.0.items ≡ t → bytes_eq q k.items ≡ u
          → lookup (is_key q) (cond (bytes_eq k.items e.0.items) ((e.0, v) ∷ rows) (e ∷ inserted rows)) ≡ cond (bytes_eq q k.items) (Some v) (cond (bytes_eq q e.0.items) (Some e.1) (lookup (is_key q) rows))
      by more true t u hs ht hu = ap (λ b. lookup (is_key q) (cond b ((e.0, v) ∷ rows) (e ∷ inserted rows))) hs
          ∙ ap (λ x. cond (bytes_eq q x) (Some v) (lookup (is_key q) rows)) (sym (same-bytes k.items e.0.items hs))
          ∙ twice (bytes_eq q k.items) ∙ ap (λ x. cond (bytes_eq q k.items) (Some v) (cond (bytes_eq q x) (Some e.1) (lookup (is_key q) rows))) (same-bytes k.items e.0.items hs)
        where
          twice : (b : Bool) → cond b (Some v) (lookup (is_key q) rows) ≡ cond b (Some v) (cond b (Some e.1) (lookup (is_key q) rows))
          twice true = refl
          twice false = refl
      by more false true true hs ht hu = absurd (true≢false (sym (own-bytes k.items) ∙ ap (bytes_eq k.items) (sym (same-bytes q k.items hu) ∙ same-bytes q e.0.items ht) ∙ hs))
      by more false true false hs ht hu = ap (λ b. lookup (is_key q) (cond b ((e.0, v) ∷ rows) (e ∷ inserted rows))) hs ∙ ap (λ b. cond b (Some e.1) (lookup (is_key q) (inserted rows))) ht
          ∙ sym (ap (λ b. cond b (Some v) (cond (bytes_eq q e.0.items) (Some e.1) (lookup (is_key q) rows))) hu ∙ ap (λ b. cond b (Some e.1) (lookup (is_key q) rows)) ht)
      by more false false u hs ht hu = ap (λ b. lookup (is_key q) (cond b ((e.0, v) ∷ rows) (e ∷ inserted rows))) hs ∙ ap (λ b. cond b (Some e.1) (lookup (is_key q) (inserted rows))) ht ∙ more
          ∙ sym (ap (λ b. cond (bytes_eq q k.items) (Some v) (cond b (Some e.1) (lookup (is_key q) rows))) ht)

-- the row of a domain takes one more count
module _ {A : Type 0} (o : ShapeOptions) (cs : List Count) (c : Count) (rows new : List (Vec ℕ A × Numbers)) (k : Vec ℕ A) (v : Numbers) (is : k.items ≡ c.0)
    (made : new ≡ insert_entry (λ (key other : Vec ℕ A). bytes_eq key.items other.items) rows k v) where
  pub names-more : names_of rows ≡ domains cs → names_of new ≡ domains (cs ++ c ∷ [])
  names-more h = ap names_of made ∙ names-insert k v rows ∙ ap (insert_name k.items) h ∙ ap (λ q. insert_name q (domains cs)) is ∙ sym (domains-push c cs)

  found : (name : List ℕ) → numbers_at new name ≡ cond (bytes_eq name c.0) v (numbers_at rows name)
  found name = ap (λ es. numbers_at es name) made ∙ ap (λ o. unwrap_or o no_numbers) (lookup-insert k v name rows ∙ ap (λ q. cond (bytes_eq name q) (Some v) (lookup (λ (key : Vec ℕ A). bytes_eq name key.items) rows)) is) ∙ by (bytes_eq name c.0)
    where
      by : (b : Bool) → unwrap_or (cond b (Some v) (lookup (λ (key : Vec ℕ A). bytes_eq name key.items) rows)) no_numbers ≡ cond b v (numbers_at rows name)
      by true = refl
      by false = refl

  pub rows-more : ((name : List ℕ) → AreNumbers o (numbers_at rows name) (of_domain name cs)) → AreNumbers o v (of_domain c.0 cs ++ c ∷ [])
      → (name : List ℕ) → AreNumbers o (numbers_at new name) (of_domain name (cs ++ c ∷ []))
  rows-more each mine name = by (bytes_eq name c.0) refl
    where
      one : of_domain name (cs ++ c ∷ []) ≡ of_domain name cs ++ cond (bytes_eq c.0 name) (c ∷ []) []
      one = filter-append (λ (d : Count). bytes_eq d.0 name) cs (c ∷ [])

      by : (b : Bool) → bytes_eq name c.0 ≡ b → AreNumbers o (numbers_at new name) (of_domain name (cs ++ c ∷ []))
      by true h = subst (λ n. AreNumbers o n (of_domain name (cs ++ c ∷ []))) (sym (found name ∙ ap (λ b. cond b v (numbers_at rows name)) h))
          (subst (AreNumbers o v) (ap (λ q. of_domain q cs ++ c ∷ []) (sym (same-bytes name c.0 h)) ∙ sym (one ∙ ap (λ b. of_domain name cs ++ cond b (c ∷ []) []) (turned c.0 name ∙ h))) mine)
      by false h = subst (λ n. AreNumbers o n (of_domain name (cs ++ c ∷ []))) (sym (found name ∙ ap (λ b. cond b v (numbers_at rows name)) h))
          (subst (AreNumbers o (numbers_at rows name)) (sym (one ∙ ap (λ b. of_domain name cs ++ cond b (c ∷ []) []) (turned c.0 name ∙ h) ∙ append-nil (of_domain name cs))) (each name))
