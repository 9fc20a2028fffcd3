-- What always holds, as candidates come, change and go.
use Rattle.std.proofs.Common.{◌≡◌, ◌≢◌, ◌∙◌, ◌∷◌, ◌++◌, [], ap, inl, inr, List, map, None, Some, subst, sym, ℕ, ◌⊎◌}
use Rattle.std.proofs.lemmas.Bool.{cases_eq}
use Rattle.std.specs.Option.{is_some}
use Rattle.std.specs.Prelude.{find}
use Rattle.q_keyed.specs.Numbered.{has_number, item_at, Items, Numbered, put_at, without_number}
use Rattle.q_rounds.proofs.ItemSets.{unless_none}
use Rattle.q_rounds.proofs.Lookups.{other_left, other_more, other_put, own_left, own_more, own_put}
use Rattle.q_rounds.specs.Listing.{AreTickets}
use Rattle.q_sorted.specs.declared.ticket.Ticket.{Ticket}
use Rattle.q_sorted.specs.Tickets.{Tickets}
use Rattle.q_candidates.specs.declared.candidate.Candidate.{Candidate}
use Rattle.q_candidates.specs.declared.index.Index.{Index}
use Rattle.q_candidates.specs.Filing.{arrival_at, IsChanged}
use Rattle.q_candidates.specs.Sound.{IsFiled, IsFit, IsLaid, IsSound}

pub is_more : (n : ℕ) (c : Candidate) (ks : List (Numbered Candidate)) → find (has_number n) ks ≡ None → IsChanged n (Some c) ks (ks ++ record { number = n; item = c } ∷ [])
is_more n c ks free = record { own = own_more n c ks free; others = λ m other. other_more n m c ks other }

pub is_less : (n : ℕ) (ks : List (Numbered Candidate)) → IsChanged n None ks (without_number n ks)
is_less n ks = record { own = own_left n ks; others = λ m other. other_left n m ks other }

pub is_put : (n : ℕ) (y c : Candidate) (ks : List (Numbered Candidate)) → item_at n ks ≡ Some y → IsChanged n (Some c) (without_number n ks) (map (put_at n c) ks)
is_put n y c ks there = record { own = own_put n c ks (ap is_some there); others = λ m other. other_put n m c ks other ∙ sym (other_left n m ks other) }

abbrev pub AreFit : List (Numbered Candidate) → Type 0
AreFit ks = (n : ℕ) (c : Candidate) → item_at n ks ≡ Some c → IsFit c

pub fit_set : (n : ℕ) (c : Candidate) (ks new : List (Numbered Candidate)) → IsChanged n (Some c) ks new → IsFit c → AreFit ks → AreFit new
fit_set n c ks new changed own fit m q h = step (cases_eq m n)
  where
    step : (m ≡ n) ⊎ (m ≢ n) → IsFit q
    step (inl same) =
        let some : Some c ≡ Some q = sym changed.own ∙ ap (λ x. item_at x new) (sym same) ∙ h in
        let its : c ≡ q = cc in
        subst IsFit its own
    step (inr other) = fit m q (sym (changed.others m other) ∙ h)

pub fit_less : (n : ℕ) (ks : List (Numbered Candidate)) → AreFit ks → AreFit (without_number n ks)
fit_less n ks fit m q h =
    let other : m ≢ n = λ same. unless_none (item_at n (without_number n ks)) q (own_left n ks) (ap (λ x. item_at x (without_number n ks)) (sym same) ∙ h) in
    fit m q (sym (other_left n m ks other) ∙ h)

-- what holds of the parts
pub sound_from : (v was : Items Candidate) (xs : List (Numbered Candidate)) (index old : Index) (w had : Tickets) (es : List Ticket) → v ≡ record was { items = xs } → AreFit xs → IsLaid index → IsFiled xs index → index.lanes.room ≡ old.lanes.room → old.lanes.room ≡ was.room →
    w ≡ record had { items = es } → AreTickets (arrival_at xs) es → had.room ≡ was.room → IsSound v index w
sound_from v was xs index old w had es is fit laid filed room was_room w_is arrived had_room =
    subst (λ (x : Items Candidate). IsSound x index w) (sym is)
    (subst (λ (y : Tickets). IsSound (record was { items = xs }) index y) (sym w_is)
    (record { ordered = record { fit = fit; laid = laid; filed = filed; room = room ∙ was_room }; arrived = arrived; arrival_room = had_room }))
