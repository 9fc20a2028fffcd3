-- What is written into two arrays makes of a path in them.
use Rattle.std.proofs.Common.{◌≡◌, ◌∙◌, ◌≢◌, ◌∷◌, [], ap, get_or, inl, inr, List, refl, subst, sym, ℕ}
use Rattle.q_chains.specs.Laid.{AreApart, IsPath, Lacks}
use Rattle.q_chains.specs.Lists.{inserted, without}
use Rattle.q_chains.proofs.Places.{among_next, HasNext, inserted_here, inserted_lacking, inserted_there, IsAmong, lacks_other, other_way, without_here, without_lacking, without_there}

-- a path stays where its places lead where they led
pub path_stays : (nx bf ny bg : List ℕ) (a : ℕ) (ps : List ℕ) → ((p : ℕ) → IsAmong p (a ∷ ps) → get_or ny p 0 ≡ get_or nx p 0) → ((p : ℕ) → IsAmong p ps → get_or bg p 0 ≡ get_or bf p 0) → IsPath nx bf a ps → IsPath ny bg a ps
path_stays nx bf ny bg a [] f g h = tt
path_stays nx bf ny bg a (b ∷ ps) f g h =
    (f a (inl refl) ∙ h.0, g b (inl refl) ∙ h.1, path_stays nx bf ny bg b ps (λ p i. f p (inr i)) (λ p i. g p (inr i)) h.2)

-- what a place of a path leads back to is of the path
pub before_among : (nx bf : List ℕ) (a p : ℕ) (ps : List ℕ) → IsPath nx bf a ps → IsAmong p ps → IsAmong (get_or bf p 0) (a ∷ ps)
before_among nx bf a p [] h i = absurd i
before_among nx bf a p (b ∷ ps) h (inl e) = inl (ap (λ q. get_or bf q 0) e ∙ h.1)
before_among nx bf a p (b ∷ ps) h (inr i) = inr (before_among nx bf b p ps h.2 i)

-- and what it leads to
pub next_among : (nx bf : List ℕ) (a p : ℕ) (ps : List ℕ) → IsPath nx bf a ps → HasNext p ps → IsAmong (get_or nx p 0) ps
next_among nx bf a p [] h i = absurd i
next_among nx bf a p (b ∷ []) h i = absurd i
next_among nx bf a p (b ∷ c ∷ ps) h (inl e) = inr (inl (ap (λ q. get_or nx q 0) e ∙ h.2.0))
next_among nx bf a p (b ∷ c ∷ ps) h (inr i) = inr (next_among nx bf b p (c ∷ ps) h.2 i)

-- the places beside the number lead past it
pub record LeadsPast (nx bf ny bg : List ℕ) (n : ℕ) : Type 0 where
  pub next_at : get_or bf n 0 ≢ n → get_or ny (get_or bf n 0) 0 ≡ get_or nx n 0
  pub before_at : get_or nx n 0 ≢ n → get_or bg (get_or nx n 0) 0 ≡ get_or bf n 0
  pub next : (p : ℕ) → p ≢ n → p ≢ get_or bf n 0 → get_or ny p 0 ≡ get_or nx p 0
  pub before : (p : ℕ) → p ≢ n → p ≢ get_or nx n 0 → get_or bg p 0 ≡ get_or bf p 0
  pub own_next : get_or ny n 0 ≡ n
  pub own_before : get_or bg n 0 ≡ n

-- the number stands between a and c
past_here : (nx bf ny bg : List ℕ) (n a c : ℕ) (ps : List ℕ) → IsPath nx bf a (n ∷ c ∷ ps) → AreApart (a ∷ n ∷ c ∷ ps) → LeadsPast nx bf ny bg n → IsPath ny bg a (c ∷ ps)
past_here nx bf ny bg n a c ps h apart leads =
    let at_a : get_or bf n 0 ≡ a = h.1 in
    let at_c : get_or nx n 0 ≡ c = h.2.0 in
    let a_n : a ≢ n = apart.0.0 in
    let n_c : n ≢ c = apart.1.0.0 in (
      ap (λ q. get_or ny q 0) (sym at_a) ∙ leads.next_at (λ e. a_n (sym at_a ∙ e)) ∙ at_c,
      ap (λ q. get_or bg q 0) (sym at_c) ∙ leads.before_at (λ e. n_c (sym e ∙ at_c)) ∙ at_a,
      path_stays nx bf ny bg c ps
          (λ p i. leads.next p (other_way n p (lacks_other n p (c ∷ ps) apart.1.0 i)) (λ e. lacks_other a p (c ∷ ps) apart.0.1 i (sym (e ∙ at_a))))
          (λ p i. leads.before p (other_way n p (lacks_other n p (c ∷ ps) apart.1.0 (inr i))) (λ e. lacks_other c p ps apart.1.1.0 i (sym (e ∙ at_c))))
          h.2.2,
    )

pub path_without : (nx bf ny bg : List ℕ) (n a : ℕ) (ps : List ℕ) → IsPath nx bf a ps → AreApart (a ∷ ps) → HasNext n ps → LeadsPast nx bf ny bg n → IsPath ny bg a (without n ps)
path_without nx bf ny bg n a [] h apart i leads = absurd i
path_without nx bf ny bg n a (b ∷ []) h apart i leads = absurd i
path_without nx bf ny bg n a (b ∷ c ∷ ps) h apart (inl e) leads =
    let is : without n (b ∷ c ∷ ps) ≡ c ∷ ps = without_here n b (c ∷ ps) e ∙ ap (λ q. without q (c ∷ ps)) e ∙ without_lacking b (c ∷ ps) apart.1.0 in
    subst (IsPath ny bg a) (sym is) (past_here nx bf ny bg n a c ps (subst (λ (q : ℕ). IsPath nx bf a (q ∷ c ∷ ps)) (sym e) h) (subst (λ (q : ℕ). AreApart (a ∷ q ∷ c ∷ ps)) (sym e) apart) leads)
path_without nx bf ny bg n a (b ∷ c ∷ ps) h apart (inr i) leads =
    let n_b : n ≢ b = other_way b n (lacks_other b n (c ∷ ps) apart.1.0 (among_next n (c ∷ ps) i)) in
    let n_a : n ≢ a = other_way a n (lacks_other a n (c ∷ ps) apart.0.1 (among_next n (c ∷ ps) i)) in
    let at = before_among nx bf b n (c ∷ ps) h.2 (among_next n (c ∷ ps) i) in
    let to = next_among nx bf b n (c ∷ ps) h.2 i in
    subst (IsPath ny bg a) (sym (without_there n b (c ∷ ps) n_b)) (
      leads.next a (other_way n a n_a) (lacks_other a (get_or bf n 0) (b ∷ c ∷ ps) apart.0 at) ∙ h.0,
      leads.before b (other_way n b n_b) (lacks_other b (get_or nx n 0) (c ∷ ps) apart.1.0 to) ∙ h.1,
      path_without nx bf ny bg n b (c ∷ ps) h.2 apart.1 i leads,
    )

-- the number is put before a place
pub record LeadsOver (nx bf ny bg : List ℕ) (n at : ℕ) : Type 0 where
  pub next_at : get_or ny (get_or bf at 0) 0 ≡ n
  pub before_at : get_or bg at 0 ≡ n
  pub own_next : get_or ny n 0 ≡ at
  pub own_before : get_or bg n 0 ≡ get_or bf at 0
  pub next : (p : ℕ) → p ≢ n → p ≢ get_or bf at 0 → get_or ny p 0 ≡ get_or nx p 0
  pub before : (p : ℕ) → p ≢ n → p ≢ at → get_or bg p 0 ≡ get_or bf p 0

over_here : (nx bf ny bg : List ℕ) (n a b : ℕ) (ps : List ℕ) → IsPath nx bf a (b ∷ ps) → AreApart (a ∷ b ∷ ps) → Lacks n (a ∷ b ∷ ps) → LeadsOver nx bf ny bg n b → IsPath ny bg a (n ∷ b ∷ ps)
over_here nx bf ny bg n a b ps h apart free leads =
    let at_a : get_or bf b 0 ≡ a = h.1 in (
      ap (λ q. get_or ny q 0) (sym at_a) ∙ leads.next_at,
      leads.own_before ∙ at_a,
      (
        leads.own_next,
        leads.before_at,
        path_stays nx bf ny bg b ps
            (λ p i. leads.next p (other_way n p (lacks_other n p (b ∷ ps) free.1 i)) (λ e. lacks_other a p (b ∷ ps) apart.0 i (sym (e ∙ at_a))))
            (λ p i. leads.before p (other_way n p (lacks_other n p (b ∷ ps) free.1 (inr i))) (other_way b p (lacks_other b p ps apart.1.0 i)))
            h.2,
      ),
    )

pub path_inserted : (nx bf ny bg : List ℕ) (n at a : ℕ) (ps : List ℕ) → IsPath nx bf a ps → AreApart (a ∷ ps) → Lacks n (a ∷ ps) → IsAmong at ps → LeadsOver nx bf ny bg n at → IsPath ny bg a (inserted n at ps)
path_inserted nx bf ny bg n at a [] h apart free i leads = absurd i
path_inserted nx bf ny bg n at a (b ∷ ps) h apart free (inl e) leads =
    let is : inserted n at (b ∷ ps) ≡ n ∷ b ∷ ps = inserted_here n at b ps e ∙ ap (λ q. n ∷ b ∷ inserted n q ps) e ∙ ap (λ qs. n ∷ b ∷ qs) (inserted_lacking n b ps apart.1.0) in
    subst (IsPath ny bg a) (sym is) (over_here nx bf ny bg n a b ps h apart free (subst (LeadsOver nx bf ny bg n) e leads))
path_inserted nx bf ny bg n at a (b ∷ ps) h apart free (inr i) leads =
    let at_b : at ≢ b = other_way b at (lacks_other b at ps apart.1.0 i) in
    let from = before_among nx bf b at ps h.2 i in
    subst (IsPath ny bg a) (sym (inserted_there n at b ps at_b)) (
      leads.next a (other_way n a free.0) (lacks_other a (get_or bf at 0) (b ∷ ps) apart.0 from) ∙ h.0,
      leads.before b (other_way n b free.1.0) (other_way at b at_b) ∙ h.1,
      path_inserted nx bf ny bg n at b ps h.2 apart.1 free.1 i leads,
    )
