-- The accounts of jobs, found, and changed.
use Rattle.std.specs.Option.{option_map_or}
use Rattle.std.specs.Prelude.{◌&&◌, ◌+◌, ◌-◌, ◌==◌, [], ◌^◌, Bool, find, if◌then◌else◌, List, min, ℕ, ◌∷◌}
use Rattle.q_model.specs.declared.id.Id.{Id}
use Rattle.q_model.specs.Ids.{id_eq}
use Rattle.q_ledger.specs.declared.accounts.Account.{Account}
use Rattle.q_ledger.specs.declared.accounts.Accounts.{Accounts}

-- the account is the job's
abbrev pub is_of : Id → ℕ → Account → Bool
is_of id transport a = id_eq a.id id && (a.transport == transport)

-- the deliveries that the job has begun since its admission
abbrev pub starts_in : Accounts → Id → ℕ → ℕ
starts_in c id transport = option_map_or (λ a. a.starts) (find (is_of id transport) c.jobs.items) 0

-- the slots charged to it since
abbrev pub charged_in : Accounts → Id → ℕ → ℕ
charged_in c id transport = option_map_or (λ a. a.charged) (find (is_of id transport) c.jobs.items) 0

-- a number with so much more, as far as it is kept
abbrev pub raised : ℕ → ℕ → ℕ
raised n more = min (n + more) (2 ^ 64 - 1)

-- the first that passes is changed; where none does, another comes behind all
abbrev pub change_or_add : {A : Type 0} → (A → Bool) → (A → A) → A → List A → List A
change_or_add test change new [] = new ∷ []
change_or_add test change new (x ∷ xs) = if test x then change x ∷ xs else x ∷ change_or_add test change new xs

-- the job has begun one delivery more
abbrev pub with_start : Account → Account
with_start a = record a { starts = raised a.starts 1 }

-- so much more is charged to the job
abbrev pub with_charge : ℕ → Account → Account
with_charge need a = record a { charged = raised a.charged need }

-- the accounts with one delivery more of the job
abbrev pub started_jobs : Id → ℕ → List Account → List Account
started_jobs id transport jobs = change_or_add (is_of id transport) with_start
    (record { id = id; transport = transport; starts = 1; charged = 0 }) jobs

-- the accounts with so much more charged to the job
abbrev pub charged_jobs : Id → ℕ → ℕ → List Account → List Account
charged_jobs id transport need jobs = change_or_add (is_of id transport) (with_charge need)
    (record { id = id; transport = transport; starts = 0; charged = need }) jobs
