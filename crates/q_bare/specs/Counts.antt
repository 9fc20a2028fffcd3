-- What is counted of the entries of a life.
use Rattle.std.specs.Prelude.{◌+◌, Bool, false, if◌then◌else◌, not, true, ℕ}
use Rattle.q_model.specs.declared.entry.Entry.{Entry}
use Rattle.q_model.specs.declared.id.Id.{Id}
use Rattle.q_model.specs.Accounts.{charge_of, charged, is_admit_of, is_start_of, starts_of}
use Rattle.q_model.specs.Ledger.{Ledger}
use Rattle.q_model.specs.Past.{arrivals, has_entries, is_arrive, is_end, is_life, is_living, is_start, starts}

-- Whether a life has begun and whether it goes on, how many deliveries have begun and how many messages
-- came, and the account of each job.
pub record Counts : Type 0 where
  pub begun : Bool
  pub living : Bool
  pub deliveries : ℕ
  pub messages : ℕ
  pub deliveries_of : Id → ℕ → ℕ
  pub charged_to : Id → ℕ → ℕ

-- as the entries of the life have it
abbrev pub counts_of : Ledger → Counts
counts_of l = record {
  begun = has_entries l;
  living = is_living l;
  deliveries = starts l;
  messages = arrivals l;
  deliveries_of = starts_of l;
  charged_to = charged l;
}

-- before a life begins
abbrev pub no_counts : Counts
no_counts =
    record { begun = false; living = false; deliveries = 0; messages = 0; deliveries_of = λ id t. 0; charged_to = λ id t. 0 }

-- the counts with one entry more; the account of a job begins anew where its message comes into memory
abbrev pub counted : Entry → Counts → Counts
counted e c = record {
  begun = true;
  living = not (is_end e);
  deliveries = (if is_start e then 1 else 0) + c.deliveries;
  messages = (if is_arrive e then 1 else 0) + c.messages;
  deliveries_of = λ id t. if is_admit_of id e then 0
      else (if is_start_of id t e then 1 else 0) + c.deliveries_of id t;
  charged_to = λ id t. if is_admit_of id e then 0
      else charge_of id t e + c.charged_to id t;
}

-- the same, where another life may begin
abbrev pub counts_after : Entry → Counts → Counts
counts_after e c = counted e (if is_life e then no_counts else c)
