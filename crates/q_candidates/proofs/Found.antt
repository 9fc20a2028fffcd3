-- What is found of a message at a site once a candidate was put in, or one was taken out.
use Rattle.std.proofs.Common.{◌≡◌, ◌∙◌, ◌∷◌, ◌++◌, [], ap, Bool, cond, false, List, map, None, not, refl, Some, sym, true}
use Rattle.std.proofs.lemmas.Bool.{and_from, and_parts, both_ways}
use Rattle.std.specs.List.{list_any}
use Rattle.std.specs.Prelude.{◌&&◌, filter, find, ◌||◌}
use Rattle.q_keyed.proofs.Values.{find_none, left_none}
use Rattle.q_model.proofs.IdLaws.{id_eq-refl, id_eq-true, site_eq-refl, site_eq-true}
use Rattle.q_model.specs.declared.id.Id.{Id}
use Rattle.q_model.specs.Ids.{id_eq}
use Rattle.q_model.specs.Sites.{site_eq}
use Rattle.q_model.specs.Values.{Site}
use Rattle.q_candidates.specs.declared.candidate.Candidate.{Candidate}
use Rattle.q_candidates.specs.Candidates.{is_of, put_in, put_over}

own : (c : Candidate) → is_of c.id c.site c ≡ true
own c = and_from (id_eq c.id c.id) (site_eq c.site c.site) (id_eq-refl c.id) (site_eq-refl c.site)

-- of one message at one site alone
one : (i j : Id) (s t : Site) (c : Candidate) → is_of i s c ≡ true → is_of j t c ≡ true → (id_eq i j && site_eq s t) ≡ true
one i j s t c a b =
    let x = and_parts (id_eq c.id i) (site_eq c.site s) a in
    let y = and_parts (id_eq c.id j) (site_eq c.site t) b in
    let id = sym (id_eq-true c.id i x.0) ∙ id_eq-true c.id j y.0 in
    let site = sym (site_eq-true c.site s x.1) ∙ site_eq-true c.site t y.1 in
    and_from (id_eq i j) (site_eq s t) (ap (id_eq i) (sym id) ∙ id_eq-refl i) (ap (site_eq s) (sym site) ∙ site_eq-refl s)

not_both : (i j : Id) (s t : Site) (c : Candidate) → (id_eq i j && site_eq s t) ≡ false → is_of j t c ≡ true → is_of i s c ≡ false
not_both i j s t c other b = step (is_of i s c) refl
  where
    step : (u : Bool) → is_of i s c ≡ u → u ≡ false
    step true a = absurd (both_ways (id_eq i j && site_eq s t) other (one i j s t c a b))
    step false a = refl

-- Where one is put in.
module _ (c : Candidate) where
  over_step : (x : Candidate) (xs : List Candidate) (t : Bool) → is_of c.id c.site x ≡ t → (t || list_any (is_of c.id c.site) xs) ≡ true → (list_any (is_of c.id c.site) xs ≡ true → find (is_of c.id c.site) (map (put_over c) xs) ≡ Some c) → find (is_of c.id c.site) (cond t c x ∷ map (put_over c) xs) ≡ Some c
  over_step x xs true e h rest = ap (λ b. cond b (Some c) (find (is_of c.id c.site) (map (put_over c) xs))) (own c)
  over_step x xs false e h rest = ap (λ b. cond b (Some x) (find (is_of c.id c.site) (map (put_over c) xs))) e ∙ rest h

  over_own : (xs : List Candidate) → list_any (is_of c.id c.site) xs ≡ true → find (is_of c.id c.site) (map (put_over c) xs) ≡ Some c
  over_own [] h = absurd cc
  over_own (x ∷ xs) h = over_step x xs (is_of c.id c.site x) refl h (over_own xs)

  behind_step : (x : Candidate) (xs : List Candidate) (t : Bool) → is_of c.id c.site x ≡ t → (t || list_any (is_of c.id c.site) xs) ≡ false → (list_any (is_of c.id c.site) xs ≡ false → find (is_of c.id c.site) (xs ++ c ∷ []) ≡ Some c) → cond t (Some x) (find (is_of c.id c.site) (xs ++ c ∷ [])) ≡ Some c
  behind_step x xs true e h rest = absurd cc
  behind_step x xs false e h rest = rest h

  behind_own : (xs : List Candidate) → list_any (is_of c.id c.site) xs ≡ false → find (is_of c.id c.site) (xs ++ c ∷ []) ≡ Some c
  behind_own [] h = ap (λ b. cond b (Some c) None) (own c)
  behind_own (x ∷ xs) h = behind_step x xs (is_of c.id c.site x) refl h (behind_own xs)

  -- it is found
  pub put_own : (xs : List Candidate) → find (is_of c.id c.site) (put_in c xs) ≡ Some c
  put_own xs = step (list_any (is_of c.id c.site) xs) refl
    where
      step : (t : Bool) → list_any (is_of c.id c.site) xs ≡ t → find (is_of c.id c.site) (cond t (map (put_over c) xs) (xs ++ c ∷ [])) ≡ Some c
      step true h = over_own xs h
      step false h = behind_own xs h

  module _ (i : Id) (s : Site) (other : (id_eq i c.id && site_eq s c.site) ≡ false) where
    not_own : is_of i s c ≡ false
    not_own = not_both i c.id s c.site c other (own c)

    kept_step : (x : Candidate) (xs : List Candidate) (t : Bool) → is_of c.id c.site x ≡ t → find (is_of i s) (map (put_over c) xs) ≡ find (is_of i s) xs → find (is_of i s) (cond t c x ∷ map (put_over c) xs) ≡ find (is_of i s) (x ∷ xs)
    kept_step x xs true e rest =
        ap (λ b. cond b (Some c) (find (is_of i s) (map (put_over c) xs))) not_own ∙ rest
        ∙ sym (ap (λ b. cond b (Some x) (find (is_of i s) xs)) (not_both i c.id s c.site x other e))
    kept_step x xs false e rest = ap (λ o. cond (is_of i s x) (Some x) o) rest

    over_other : (xs : List Candidate) → find (is_of i s) (map (put_over c) xs) ≡ find (is_of i s) xs
    over_other [] = refl
    over_other (x ∷ xs) = kept_step x xs (is_of c.id c.site x) refl (over_other xs)

    behind_other : (xs : List Candidate) → find (is_of i s) (xs ++ c ∷ []) ≡ find (is_of i s) xs
    behind_other [] = ap (λ b. cond b (Some c) None) not_own
    behind_other (x ∷ xs) = ap (λ o. cond (is_of i s x) (Some x) o) (behind_other xs)

    -- and what was found of others is
    pub put_other : (xs : List Candidate) → find (is_of i s) (put_in c xs) ≡ find (is_of i s) xs
    put_other xs = step (list_any (is_of c.id c.site) xs)
      where
        step : (t : Bool) → find (is_of i s) (cond t (map (put_over c) xs) (xs ++ c ∷ [])) ≡ find (is_of i s) xs
        step true = over_other xs
        step false = behind_other xs

-- Where one is taken out.
module _ (id : Id) (site : Site) where
  pub gone_own : (xs : List Candidate) → find (is_of id site) (filter (λ c. not (is_of id site c)) xs) ≡ None
  gone_own xs = find_none (is_of id site) (filter (λ c. not (is_of id site c)) xs) (left_none (is_of id site) xs)

  module _ (i : Id) (s : Site) (other : (id_eq i id && site_eq s site) ≡ false) where
    left_step : (x : Candidate) (xs ys : List Candidate) (t : Bool) → is_of id site x ≡ t → find (is_of i s) ys ≡ find (is_of i s) xs → find (is_of i s) (cond (not t) (x ∷ ys) ys) ≡ find (is_of i s) (x ∷ xs)
    left_step x xs ys true e rest = rest ∙ sym (ap (λ b. cond b (Some x) (find (is_of i s) xs)) (not_both i id s site x other e))
    left_step x xs ys false e rest = ap (λ o. cond (is_of i s x) (Some x) o) rest

    pub gone_other : (xs : List Candidate) → find (is_of i s) (filter (λ c. not (is_of id site c)) xs) ≡ find (is_of i s) xs
    gone_other [] = refl
    gone_other (x ∷ xs) = left_step x xs (filter (λ c. not (is_of id site c)) xs) (is_of id site x) refl (gone_other xs)
