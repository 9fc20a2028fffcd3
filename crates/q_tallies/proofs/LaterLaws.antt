-- A tally may begin at the first preemption of its job.
use Rattle.std.proofs.Common.{◌≡◌, ℕ, ◌+◌, ◌-◌, ◌^◌, Bool, true, false, not, List, [], ◌∷◌, ◌++◌, Option, Some, None, refl, sym, ap, ◌∙◌, if◌then◌else◌, zero-add}
use Rattle.std.proofs.lemmas.Bool.{and_parts}
use Rattle.std.specs.List.{list_all}
use Rattle.std.specs.Option.{option_map_or}
use Rattle.std.specs.Prelude.{◌&&◌, is_none, min}
use Rattle.q_model.specs.declared.entry.Entry.{Entry}
use Rattle.q_model.specs.declared.id.Id.{Id}
use Rattle.q_model.specs.PreemptingStarts.{child_of, ends_job, preempting_starts, starts_through}
use Rattle.q_tallies.proofs.CapLaws.{exact}
use Rattle.q_tallies.specs.Exact.{IsExactLater, leaves_job}

passed : (ends : Bool) (child : Option Id) (through : Id → ℕ) (n : ℕ) → (not ends && is_none child) ≡ true → (if ends then 0 else option_map_or through child 0 + n) ≡ n
passed true child through n h = absurd cc
passed false None through n h = zero-add n
passed false (Some child) through n h = absurd cc

pub later : (own : Id) (t : ℕ) (es fs : List Entry) → list_all (leaves_job own t) es ≡ true → preempting_starts own t (es ++ fs) ≡ preempting_starts own t fs
unfolding preempting_starts
later own t [] fs h = refl
later own t (e ∷ es) fs h =
    let two = and_parts (leaves_job own t e) (list_all (leaves_job own t) es) h in
    passed (ends_job own e) (child_of own t e) (λ child. starts_through child t (es ++ fs)) (preempting_starts own t (es ++ fs)) two.0 ∙ later own t es fs two.1

pub exact_later : IsExactLater
exact_later own t es fs h = exact own t fs ∙ ap (λ n. min n (2 ^ 64 - 1)) (sym (later own t es fs h))
