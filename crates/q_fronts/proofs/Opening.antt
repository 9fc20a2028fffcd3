-- With which entry a front begins.
use Rattle.std.proofs.Common.{◌≡◌, ℕ, ◌+◌, ◌-◌, ◌<◌, ◌^◌, Bool, true, false, [], ◌∷◌, ◌++◌, refl, sym, ap, ◌∙◌, subst, arith, ltb-true, eq-eqb}
use Rattle.std.proofs.lemmas.Bool.{and_parts}
use Rattle.std.specs.Prelude.{◌&&◌, ◌||◌, ◌==◌, nat_lt, not}
use Rattle.q_fronts.proofs.Back.{row_allows, turn_goes}
use Rattle.q_fronts.proofs.Going.{begins, same_numbers}
use Rattle.q_fronts.specs.Fronts.{empty_at, IsFront}
use Rattle.q_fronts.specs.Openings.{FrontsOpen, LedgersOpen, opens}
use Rattle.q_model.specs.Ledger.{opening}
use Rattle.q_model.specs.Past.{has_entries}
use Rattle.q_model.specs.Lives.{mode_eq}
use Rattle.q_model.specs.Run.{decide, entry_of, run, run_of}
use Rattle.q_model.specs.Settings.{World}
use Rattle.q_model.specs.Step.{after, after_all, allowed}
use Rattle.q_model.specs.declared.entry.Entry.{Entry}
use Rattle.q_model.specs.declared.entry.Entry.TheVariants as entries
use Rattle.q_model.specs.declared.event.LifeEvent.TheVariants.{Begin}
use Rattle.q_model.specs.declared.event.Mode.{Mode}

opened : (w : World) (e : Entry) → IsFront w (e ∷ []) → opens e ≡ true
opened w e f =
    let g = f.generation in
    let m = opening f.mode (empty_at g) in
    let may = row_allows w m (entries.Life (g + 1) f.mode) f.fits.0 in
    let numbers = (and_parts ((g + 1 == g + 1) && nat_lt (g + 1) (2 ^ 32)) (not (has_entries m) || mode_eq f.mode f.mode) may).0 in
    let below : nat_lt (g + 1) (2 ^ 32) ≡ true = (and_parts (g + 1 == g + 1) (nat_lt (g + 1) (2 ^ 32)) numbers).1 in
    let some : nat_lt 0 (g + 1) ≡ true = grind arith in
    let is : opens (entries.Life (g + 1) f.mode) ≡ true = ap (λ b. b && nat_lt (g + 1) (2 ^ 32)) some ∙ below in
    subst (λ x. opens x ≡ true) (begins w e [] f) is

may_open : (a b : Bool) → a ≡ true → b ≡ true → ((a && b) && true) ≡ true
may_open true true h k = refl
may_open true false h k = absurd cc
may_open false b h k = absurd cc

of_life : (w : World) (generation : ℕ) (mode : Mode) → opens (entries.Life generation mode) ≡ true → IsFront w (entries.Life generation mode ∷ [])
unfolding allowed run_of run
of_life w generation mode h =
    let numbers = and_parts (nat_lt 0 generation) (nat_lt generation (2 ^ 32)) h in
    let some : 0 < generation = ltb-true 0 generation numbers.0 in
    let before : ℕ = generation - 1 in
    let m = opening mode (empty_at before) in
    let next : before + 1 ≡ generation = omega (arith, some) in
    let same : entry_of m Begin ≡ entries.Life generation mode = ap (λ n. entries.Life n mode) next in
    let turns = turn_goes w m Begin (entries.Life generation mode) same refl in
    let ds = decide (2 ^ 60) w (after w m (entries.Life generation mode)) in
    let below : nat_lt (before + 1) (2 ^ 32) ≡ true = ap (λ n. nat_lt n (2 ^ 32)) next ∙ numbers.1 in
    record {
      generation = before;
      mode = mode;
      items = [];
      later = ds ++ [];
      fits = (may_open (before + 1 == before + 1) (nat_lt (before + 1) (2 ^ 32)) (eq-eqb (before + 1) (before + 1) refl) below, tt);
      run = ap (λ xs. xs ++ []) turns;
    }

opens_so : (w : World) (e : Entry) → opens e ≡ true → IsFront w (e ∷ [])
opens_so w (entries.Life generation mode) h = of_life w generation mode h
opens_so w (entries.At t) h = absurd cc
opens_so w (entries.Arrive id sender to content) h = absurd cc
opens_so w (entries.Back id) h = absurd cc
opens_so w (entries.Admit id) h = absurd cc
opens_so w (entries.Load id from to) h = absurd cc
opens_so w (entries.Start number id site positions) h = absurd cc
opens_so w (entries.Preempt child parent transport need) h = absurd cc
opens_so w (entries.Reply number state outcomes) h = absurd cc
opens_so w (entries.Skip id site positions) h = absurd cc
opens_so w (entries.Log id failure) h = absurd cc
opens_so w (entries.Mark id position) h = absurd cc
opens_so w (entries.Sync id) h = absurd cc
opens_so w (entries.Defer id due) h = absurd cc
opens_so w (entries.Bounce id) h = absurd cc
opens_so w (entries.Remove id) h = absurd cc
opens_so w (entries.Corrupt id) h = absurd cc
opens_so w (entries.Trigger kind) h = absurd cc
opens_so w entries.End h = absurd cc

pub fronts_open : FrontsOpen
fronts_open w e = (opened w e, opens_so w e)

pub ledgers_open : LedgersOpen
unfolding after_all
ledgers_open w generation mode h =
    let front : IsFront w (entries.Life generation mode ∷ []) = of_life w generation mode h in
    let some : 0 < generation = ltb-true 0 generation (and_parts (nat_lt 0 generation) (nat_lt generation (2 ^ 32)) h).0 in
    let next : generation - 1 + 1 ≡ generation = omega (arith, some) in
    let same : entries.Life (generation - 1 + 1) mode ≡ entries.Life (front.generation + 1) front.mode =
    ap (λ n. entries.Life n mode) next ∙ sym (begins w (entries.Life generation mode) [] front) in
    record {
      front = front;
      is = ap (λ m. after w m (entries.Life generation mode)) (same_numbers (generation - 1) front.generation mode front.mode same);
    }
