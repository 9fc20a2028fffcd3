-- The rounds count the rows of peers, before and after those of one job were set.
use Rattle.std.proofs.Common.{◌≡◌, ◌∙◌, ◌<◌, ◌≤◌, ap, arith, cond, false, inl, inr, List, None, Option, refl, Some, subst, sym, true, ℕ, ◌⊎◌}
use Rattle.std.proofs.lemmas.Bool.{cases_Bool}
use Rattle.std.specs.Option.{is_some}
use Rattle.q_keyed.proofs.Values.{held_item}
use Rattle.q_keyed.specs.Numbered.{AreApart, item_at, Numbered, values_of}
use Rattle.q_model.specs.declared.id.Id.{Id}
use Rattle.q_rounds.specs.declared.peer.Peer.{Peer}
use Rattle.q_rounds.specs.declared.round.Round.{Round}
use Rattle.q_rounds.specs.Jobs.{AreRounds, HasSet, is_round, round_at, rows_at, rows_in, rows_of, same_job}
use Rattle.q_rounds.specs.Rounds.{rows_left}
use Rattle.q_rounds.proofs.RoundSets.{job_from, job_parts}
use Rattle.q_rounds.proofs.Totals.{rows_total, total_part}

some_there : (rs : List (Numbered Round)) (o : Option ℕ) → 1 ≤ rows_at rs o → (n : ℕ) × (o ≡ Some n)
some_there rs None h = absurd (omega (arith, h))
some_there rs (Some n) h = (n, refl)

-- a peer's own rows
pub own_rows : (p : Peer) → rows_of p.id p.site.transport p ≡ p.waiting
own_rows p = ap (λ t. cond t p.waiting 0) (job_from p.id p.site.transport p.id p.site.transport refl refl)

pub other_rows : (i : Id) (t : ℕ) (p : Peer) → same_job p.id p.site.transport i t ≡ false → rows_of i t p ≡ 0
other_rows i t p other = ap (λ b. cond b p.waiting 0) other

-- rows of a peer are rows of its job
pub part_rows : (n : ℕ) (p : Peer) (ks : List (Numbered Peer)) → AreApart ks → item_at n ks ≡ Some p → p.waiting ≤ rows_left p.id p.site.transport (values_of ks)
part_rows n p ks apart there =
    omega (arith, own_rows p, rows_total p.id p.site.transport (values_of ks), total_part (rows_of p.id p.site.transport) n p ks apart there)

-- the round of a job of which rows wait
pub round_there : (room : ℕ) (rs : List (Numbered Round)) (ps : List Peer) (i : Id) (t : ℕ) → AreRounds room rs ps → 1 ≤ rows_left i t ps → (n : ℕ) × (round_at i t rs ≡ Some n)
round_there room rs ps i t counted some = some_there rs (round_at i t rs) (subst (λ n. 1 ≤ n) (sym (counted.rows i t)) some)

pub round_below : (room : ℕ) (rs : List (Numbered Round)) (ps : List Peer) (i : Id) (t n : ℕ) → AreApart rs → AreRounds room rs ps → round_at i t rs ≡ Some n → n < room
round_below room rs ps i t n apart counted found =
    let it = held_item (is_round i t) n rs apart found in (counted.each n it.0 it.1).below

module _ (id : Id) (transport rows room : ℕ) (old new : List (Numbered Round)) (ps qs : List Peer) (counted : AreRounds room old ps) (set : HasSet id transport rows room old new) where
  module _ (own : rows ≡ rows_left id transport qs) (others : (i : Id) (t : ℕ) → same_job id transport i t ≡ false → rows_left i t qs ≡ rows_left i t ps) where
    rows_step : (i : Id) (t : ℕ) → (same_job id transport i t ≡ true) ⊎ (same_job id transport i t ≡ false) → rows_in i t new ≡ rows_left i t qs
    rows_step i t (inl same) =
        let parts = job_parts id transport i t same in
        ap (λ u. rows_in i u new) (sym parts.1) ∙ ap (λ j. rows_in j transport new) (sym parts.0) ∙ set.own ∙ own
        ∙ ap (λ j. rows_left j transport qs) parts.0 ∙ ap (λ u. rows_left i u qs) parts.1
    rows_step i t (inr other) = set.rows_others i t other ∙ counted.rows i t ∙ sym (others i t other)

    pub rounds_set : AreRounds room new qs
    rounds_set = record { rows = λ i t. rows_step i t (cases_Bool (same_job id transport i t)); each = set.each counted.each }

  stay_step : (i : Id) (t : ℕ) → 1 ≤ rows_left i t ps → (same_job id transport i t ≡ true → 1 ≤ rows) → (same_job id transport i t ≡ true) ⊎ (same_job id transport i t ≡ false) → round_at i t new ≡ round_at i t old
  stay_step i t before now (inl same) =
      let parts = job_parts id transport i t same in
      let back = λ (rs : List (Numbered Round)). ap (λ u. round_at i u rs) (sym parts.1) ∙ ap (λ j. round_at j transport rs) (sym parts.0) in
      let a = round_there room old ps i t counted before in
      let b = some_there new (round_at id transport new) (subst (λ n. 1 ≤ n) (sym set.own) (now same)) in
      back new ∙ set.kept (ap is_some (sym (back old) ∙ a.1)) (ap is_some b.1) ∙ sym (back old)
  stay_step i t before now (inr other) = set.others i t other

  -- a job of which rows wait before and after keeps the number of its round
  pub stays : (i : Id) (t : ℕ) → 1 ≤ rows_left i t ps → (same_job id transport i t ≡ true → 1 ≤ rows) → round_at i t new ≡ round_at i t old
  stays i t before now = stay_step i t before now (cases_Bool (same_job id transport i t))
