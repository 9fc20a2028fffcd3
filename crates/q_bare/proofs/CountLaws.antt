-- How counts go on by an entry.
use Rattle.std.proofs.Common.{◌≡◌, ℕ, ◌+◌, Bool, true, false, cond, not, List, [], ◌∷◌, count_by, sum_by, take_while, refl, ap, ◌∙◌, if◌then◌else◌}
use Rattle.std.proofs.Math.Path.{fun_ext}
use Rattle.std.proofs.lemmas.List.Sums.{sum_by-cons, take_while-cons}
use Rattle.std.specs.Option.{option_map_or}
use Rattle.std.specs.Prelude.{is_some, slice_get}
use Rattle.q_bare.proofs.PastLaws.{after_past, change_past}
use Rattle.q_bare.specs.Counts.{counted, Counts, counts_of, no_counts}
use Rattle.q_bare.specs.Laws.{AreCountsKept}
use Rattle.q_model.specs.declared.entry.Entry.{Entry}
use Rattle.q_model.specs.declared.id.Id.{Id}
use Rattle.q_model.specs.Accounts.{charge_of, is_admit_of, is_start_of}
use Rattle.q_model.specs.Ledger.{Ledger}
use Rattle.q_model.specs.Past.{is_arrive, is_end, is_life, is_start}
use Rattle.q_model.specs.Settings.{World}
use Rattle.q_model.specs.Step.{change}
use Rattle.q_model.specs.declared.entry.Entry.TheVariants as entries

abbrev since : Id → List Entry → List Entry
since id es = take_while (λ e. not (is_admit_of id e)) es

-- what is counted of these entries
abbrev counts_in : List Entry → Counts
counts_in es = record {
  begun = is_some (slice_get es 0);
  living = option_map_or (λ e. not (is_end e)) (slice_get es 0) false;
  deliveries = count_by is_start es;
  messages = count_by is_arrive es;
  deliveries_of = λ id t. count_by (is_start_of id t) (since id es);
  charged_to = λ id t. sum_by (charge_of id t) (since id es);
}

account_step : (id : Id) (f : Entry → ℕ) (e : Entry) (es : List Entry) (b : Bool) → sum_by f (cond (not b) (e ∷ since id es) []) ≡ (if b then 0 else f e + sum_by f (since id es))
account_step id f e es true = refl
account_step id f e es false = sum_by-cons f e (since id es)

account_more : (id : Id) (f : Entry → ℕ) (e : Entry) (es : List Entry) → sum_by f (since id (e ∷ es)) ≡ (if is_admit_of id e then 0 else f e + sum_by f (since id es))
account_more id f e es = ap (sum_by f) (take_while-cons (λ x. not (is_admit_of id x)) e es) ∙ account_step id f e es (is_admit_of id e)

-- counts of begun entries
abbrev counts_with : Bool → ℕ → ℕ → (Id → ℕ → ℕ) → (Id → ℕ → ℕ) → Counts
counts_with living deliveries messages of to =
    record { begun = true; living = living; deliveries = deliveries; messages = messages; deliveries_of = of; charged_to = to }

one_more : (e : Entry) (es : List Entry) → counts_in (e ∷ es) ≡ counted e (counts_in es)
one_more e es =
    let all = counts_in (e ∷ es) in
    let more = counted e (counts_in es) in
    let one : (Entry → Bool) → Entry → ℕ = λ p x. cond (p x) 1 0 in
    ap (λ n. counts_with all.living n all.messages all.deliveries_of all.charged_to) (sum_by-cons (one is_start) e es)
    ∙ ap (λ n. counts_with all.living more.deliveries n all.deliveries_of all.charged_to) (sum_by-cons (one is_arrive) e es)
    ∙ ap (λ (of : Id → ℕ → ℕ). counts_with all.living more.deliveries more.messages of all.charged_to) (fun_ext (λ id. fun_ext (λ t. account_more id (one (is_start_of id t)) e es)))
    ∙ ap (λ (to : Id → ℕ → ℕ). counts_with all.living more.deliveries more.messages more.deliveries_of to) (fun_ext (λ id. fun_ext (λ t. account_more id (charge_of id t) e es)))

-- what was counted before the entry
counts_before : (w : World) (l : Ledger) (e : Entry) (b : Bool) → is_life e ≡ b → counts_in (change w l e).past ≡ (if b then no_counts else counts_of l)
counts_before w l e false h = ap counts_in (change_past w l e h)
counts_before w l (entries.Life generation mode) true h = refl
counts_before w l (entries.At t) true h = absurd cc
counts_before w l (entries.Arrive id sender to content) true h = absurd cc
counts_before w l (entries.Back id) true h = absurd cc
counts_before w l (entries.Admit id) true h = absurd cc
counts_before w l (entries.Load id from to) true h = absurd cc
counts_before w l (entries.Start number id site positions) true h = absurd cc
counts_before w l (entries.Preempt child parent transport need) true h = absurd cc
counts_before w l (entries.Reply number state outcomes) true h = absurd cc
counts_before w l (entries.Skip id site positions) true h = absurd cc
counts_before w l (entries.Log id failure) true h = absurd cc
counts_before w l (entries.Mark id position) true h = absurd cc
counts_before w l (entries.Sync id) true h = absurd cc
counts_before w l (entries.Defer id due) true h = absurd cc
counts_before w l (entries.Bounce id) true h = absurd cc
counts_before w l (entries.Remove id) true h = absurd cc
counts_before w l (entries.Corrupt id) true h = absurd cc
counts_before w l (entries.Trigger kind) true h = absurd cc
counts_before w l entries.End true h = absurd cc

pub counts_kept : AreCountsKept
counts_kept w l e =
    ap counts_in (after_past w l e)
    ∙ one_more e (change w l e).past
    ∙ ap (counted e) (counts_before w l e (is_life e) refl)
