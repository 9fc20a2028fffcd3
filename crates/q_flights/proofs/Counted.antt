-- The counts of transports, as a delivery comes and one goes.
use Rattle.std.proofs.Common.{◌≡◌, ◌≢◌, ◌∙◌, ◌+◌, ◌-◌, ◌<◌, ◌≤◌, ◌++◌, ◌∷◌, [], ap, arith, Bool, cond, get_or, inl, inr, List, refl, replicate, set, Some, sym, ℕ}
use Rattle.std.proofs.lemmas.Bool.{eq-eqb}
use Rattle.std.proofs.lemmas.Bool.Decides.{eqb_tells}
use Rattle.std.proofs.lemmas.Grind.{common_steps}
use Rattle.std.proofs.lemmas.List.{get_or-replicate, get_or-set_other, get_or-set_same, length-set}
use Rattle.std.specs.Prelude.{count_by, filter, find}
use Rattle.q_flights.specs.Flying.{AreRising, has_number, is_at, is_other}
use Rattle.q_flights.specs.Sound.{AreCounted}
use Rattle.q_flights.proofs.Rising.{count_left}
use Rattle.q_model.specs.declared.rows.Delivery.{Delivery}

count_last : (p : Delivery → Bool) (fs : List Delivery) (f : Delivery) → count_by p (fs ++ f ∷ []) ≡ count_by p fs + cond (p f) 1 0
count_last p fs f = grind (arith, common_steps)

pub counted_none : AreCounted [] (replicate 256 0)
counted_none = record { len = refl; each = λ t within. get_or-replicate 256 t 0 0 within }

pub counted_more : (fs : List Delivery) (counts : List ℕ) (f : Delivery) (t : ℕ) → AreCounted fs counts → t < 256 → t ≡ f.row.site.transport →
    AreCounted (fs ++ f ∷ []) (set counts t (get_or counts t 0 + 1))
counted_more fs counts f t h within at = record {
  len = length-set counts t (get_or counts t 0 + 1) ∙ h.len;
  each = λ u inside.
      let last = count_last (is_at u) fs f in
      elim (eqb_tells f.row.site.transport u) [
        | inl same ↦
            let here : u ≡ t = sym (at ∙ same.1) in
            let more : count_by (is_at u) (fs ++ f ∷ []) ≡ count_by (is_at u) fs + 1 = last ∙ ap (λ b. count_by (is_at u) fs + cond b 1 0) same.0 in
            ap (λ k. get_or (set counts t (get_or counts t 0 + 1)) k 0) here
            ∙ get_or-set_same counts t (get_or counts t 0 + 1) 0 (omega (arith, within, h.len))
            ∙ ap (λ k. get_or counts k 0 + 1) (sym here) ∙ ap (λ k. k + 1) (h.each u inside) ∙ sym more
        | inr other ↦
            let apart : u ≢ t = λ e. other.1 (sym at ∙ sym e) in
            let same : count_by (is_at u) (fs ++ f ∷ []) ≡ count_by (is_at u) fs = last ∙ ap (λ b. count_by (is_at u) fs + cond b 1 0) other.0 ∙ omega arith in
            get_or-set_other counts t u (get_or counts t 0 + 1) 0 apart ∙ h.each u inside ∙ sym same
      ];
}

-- The delivery of a number goes, which is at a transport.
module _ (fs : List Delivery) (counts : List ℕ) (n : ℕ) (f : Delivery) (t : ℕ) (h : AreCounted fs counts) (rise : AreRising fs) (there : find (has_number n) fs ≡ Some f) (within : t < 256) (at : t ≡ f.row.site.transport) where
  pub counted_some : 1 ≤ get_or counts t 0
  counted_some =
      let is = h.each t within in
      let less = count_left (is_at t) n fs f rise there ∙ ap (λ b. count_by (is_at t) (filter (is_other n) fs) + cond b 1 0) (eq-eqb f.row.site.transport t (sym at)) in
      omega (arith, is, less)

  pub counted_left : AreCounted (filter (is_other n) fs) (set counts t (get_or counts t 0 - 1))
  counted_left = record {
    len = length-set counts t (get_or counts t 0 - 1) ∙ h.len;
    each = λ u inside.
        let less = count_left (is_at u) n fs f rise there in
        elim (eqb_tells f.row.site.transport u) [
          | inl same ↦
              let here : u ≡ t = sym (at ∙ same.1) in
              let fewer : count_by (is_at u) fs ≡ count_by (is_at u) (filter (is_other n) fs) + 1 = less ∙ ap (λ b. count_by (is_at u) (filter (is_other n) fs) + cond b 1 0) same.0 in
              ap (λ k. get_or (set counts t (get_or counts t 0 - 1)) k 0) here
              ∙ get_or-set_same counts t (get_or counts t 0 - 1) 0 (omega (arith, within, h.len))
              ∙ ap (λ k. get_or counts k 0 - 1) (sym here) ∙ ap (λ k. k - 1) (h.each u inside) ∙ omega (arith, fewer)
          | inr other ↦
              let apart : u ≢ t = λ e. other.1 (sym at ∙ sym e) in
              let same : count_by (is_at u) fs ≡ count_by (is_at u) (filter (is_other n) fs) = less ∙ ap (λ b. count_by (is_at u) (filter (is_other n) fs) + cond b 1 0) other.0 ∙ omega arith in
              get_or-set_other counts t u (get_or counts t 0 - 1) 0 apart ∙ h.each u inside ∙ same
        ];
  }
