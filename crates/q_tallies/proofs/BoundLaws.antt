-- What a tally counts is bounded as the deliveries are that preemption puts before a job.
use Rattle.std.proofs.Common.{◌≡◌, ◌≢◌, ℕ, ◌*◌, ◌-◌, ◌<◌, ◌≤◌, Bool, true, false, List, ◌∷◌, ◌++◌, length, Some, refl, ap, ◌∙◌, arith, eqb-true, subst}
use Rattle.std.proofs.Math.Nat.{le-mul_of_pos_right, le_trans, mul-le-mul_right}
use Rattle.std.proofs.lemmas.List.{append_assoc}
use Rattle.std.specs.Prelude.{◌==◌}
use Rattle.q_fronts.proofs.Going.{opened_same}
use Rattle.q_fronts.specs.Fronts.{empty_at}
use Rattle.q_inflation.proofs.Inflation.{run_inflation, run_none}
use Rattle.q_model.specs.declared.entry.Entry.{Entry}
use Rattle.q_model.specs.declared.id.Id.{Id}
use Rattle.q_model.specs.Book.{message_of}
use Rattle.q_model.specs.Ledger.{Ledger, opening}
use Rattle.q_model.specs.Message.{Message}
use Rattle.q_model.specs.PreemptingStarts.{preempting_starts}
use Rattle.q_model.specs.Settings.{World}
use Rattle.q_model.specs.Step.{after_all}
use Rattle.q_tallies.proofs.LaterLaws.{exact_later, later}
use Rattle.q_tallies.specs.Bounded.{IsCountBounded, IsCountWhole, IsTalliedAt}
use Rattle.q_tallies.specs.Exact.{counted_all, fresh}
use Rattle.q_tallies.specs.Ways.{capped_sum}
use Rattle.q_model.specs.declared.entry.Entry.TheVariants as entries

starts_bounded : (w : World) (m : Message) (id : Id) (t : ℕ) (fs : List Entry) (h : IsTalliedAt w m id t fs) → preempting_starts id t (h.quiet ++ fs) * (w.settings.slot_cost - 1) ≤ length m.recipients
starts_bounded w m id t fs h =
    let f = h.front in
    let first = opening f.mode (empty_at f.generation) in
    let same = f.run ∙ append_assoc (h.first ∷ h.before) (entries.Admit id ∷ (h.quiet ++ fs)) f.later in
    let ledger : h.ledger ≡ after_all w first (h.first ∷ h.before) =
    h.behind.is ∙ ap (λ (k : Ledger). after_all w k (h.first ∷ h.before)) (opened_same w h.first h.before (h.before ++ (entries.Admit id ∷ (h.quiet ++ fs))) h.behind.front f) in
    let there : message_of (after_all w first (h.first ∷ h.before)).book id ≡ Some m = subst (λ (k : Ledger). message_of k.book id ≡ Some m) ledger h.message in
    run_inflation w f.mode (empty_at f.generation) f.items h.usable refl refl f.fits (h.first ∷ h.before) id (h.quiet ++ fs) f.later same m there t

pub count_bounded : IsCountBounded
count_bounded w m id t fs h =
    let exact = exact_later id t h.quiet fs h.leaves in
    let least : (counted_all capped_sum id t fs fresh).count ≤ preempting_starts id t (h.quiet ++ fs) = omega (arith, exact) in
    le_trans (mul-le-mul_right (w.settings.slot_cost - 1) least) (starts_bounded w m id t fs h)

-- ---- the whole number

starts_none : (w : World) (m : Message) (id : Id) (t : ℕ) (fs : List Entry) (h : IsTalliedAt w m id t fs) → w.settings.slot_cost ≡ 0 → preempting_starts id t (h.quiet ++ fs) ≡ 0
starts_none w m id t fs h free =
    let f = h.front in
    let same = f.run ∙ append_assoc (h.first ∷ h.before) (entries.Admit id ∷ (h.quiet ++ fs)) f.later in
    run_none w f.mode (empty_at f.generation) f.items h.usable refl refl f.fits (h.first ∷ h.before) id (h.quiet ++ fs) f.later same free t

costs : (n : ℕ) → (n == 0) ≡ false → (n == 1) ≡ false → 0 < n - 1
costs n h k = grind (arith, h, k)

few : (w : World) (m : Message) (id : Id) (t : ℕ) (fs : List Entry) (h : IsTalliedAt w m id t fs) → w.settings.slot_cost ≢ 1 → (b : Bool) → (w.settings.slot_cost == 0) ≡ b → preempting_starts id t (h.quiet ++ fs) ≤ length m.recipients
few w m id t fs h not_one true zero =
    let none = starts_none w m id t fs h (eqb-true w.settings.slot_cost 0 zero) in omega (arith, none)
few w m id t fs h not_one false some = which (w.settings.slot_cost == 1) refl
  where
    which : (b : Bool) → (w.settings.slot_cost == 1) ≡ b → preempting_starts id t (h.quiet ++ fs) ≤ length m.recipients
    which true one = absurd (not_one (eqb-true w.settings.slot_cost 1 one))
    which false more = le_trans (le-mul_of_pos_right (preempting_starts id t (h.quiet ++ fs)) (costs w.settings.slot_cost some more)) (starts_bounded w m id t fs h)

pub count_whole : IsCountWhole
count_whole w m id t fs h not_one short =
    let exact = exact_later id t h.quiet fs h.leaves in
    let within = few w m id t fs h not_one (w.settings.slot_cost == 0) refl in
    let same : (counted_all capped_sum id t fs fresh).count ≡ preempting_starts id t (h.quiet ++ fs) = omega (arith, exact, within, short) in
    same ∙ later id t h.quiet fs h.leaves
