-- How the accounts of jobs are kept: where a change finds its account, and when it has room for one more.
use Rattle.std.specs.Prelude.{◌≡◌, ◌≤◌, ◌<◌, ◌+◌, ◌^◌, List, set, slice_get, Some, vec_capacity, vec_len, ℕ}
use Rattle.q_bare.specs.Counts.{Counts}
use Rattle.q_ledger.specs.declared.accounts.Accounts.{Accounts}
use Rattle.q_model.specs.declared.entry.Entry.{Entry}
use Rattle.q_model.specs.declared.id.Id.{Id}
use Rattle.q_model.specs.declared.entry.Entry.TheVariants as entries

-- the element at this place is changed
abbrev pub HasChanged : {A : Type 0} → (A → A) → ℕ → List A → List A → Type 0
HasChanged {A = A} change place old new = (x : A) → slice_get old place ≡ Some x → new ≡ set old place (change x)

-- there is room for one account more
abbrev pub HasRoom : Accounts → Type 0
HasRoom a = vec_len a.jobs < vec_capacity a.jobs

-- What is counted fits: in all, and of each job.
pub record AreFew (c : Counts) : Type 0 where
  pub deliveries : c.deliveries < 2 ^ 60
  pub messages : c.messages < 2 ^ 60
  pub begun : (id : Id) (transport : ℕ) → c.deliveries_of id transport ≤ c.deliveries

-- what the entry charges fits beside what was charged before
abbrev pub IsChargedWithin : Counts → Entry → Type 0
IsChargedWithin c (entries.Preempt child parent transport need) = c.charged_to parent transport + need < 2 ^ 64
IsChargedWithin c e = Unit {0}
