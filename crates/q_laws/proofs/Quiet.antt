-- Entries that leave the accounts of jobs as they are, and fields of a ledger on which nothing depends here.
use Rattle.std.proofs.Common.{◌≡◌, ℕ, ◌+◌, ◌≤◌, Bool, true, false, cond, not, List, [], ◌∷◌, Option, count_by, sum_by, inl, inr, ap, ◌∙◌, arith}
use Rattle.std.proofs.lemmas.List.Sums.{sum_by-cons, take_while-cons}
use Rattle.std.proofs.lemmas.Bool.{or_cases, or_left, or_right}
use Rattle.std.specs.List.{list_all}
use Rattle.std.specs.Prelude.{nat_le, nat_lt}
use Rattle.q_laws.proofs.Mapped.{raise}
use Rattle.q_laws.proofs.Members.{all_weaker}
use Rattle.q_laws.proofs.Tidied.{IsReady}
use Rattle.q_laws.specs.Consistency.{IsBookConsistent, IsConsistent, has_come}
use Rattle.q_model.specs.Accounts.{charge_of, charged, is_admit_of, is_start_of, since_admit, starts_of}
use Rattle.q_model.specs.Book.{all_ids}
use Rattle.q_model.specs.Ledger.{Ledger}
use Rattle.q_model.specs.Past.{arrivals, is_arrive, is_start, starts}
use Rattle.q_model.specs.Settings.{World}
use Rattle.q_model.specs.Step.{noted}
use Rattle.q_model.specs.Values.{Served, SiteRecord}
use Rattle.q_model.specs.declared.entry.Entry.{Entry}
use Rattle.q_model.specs.declared.id.Id.{Id}
use Rattle.q_model.specs.declared.rows.Delivery.{Delivery}
use Rattle.q_model.specs.declared.rows.Request.{Request}
use Rattle.q_model.specs.declared.rows.Scan.{Scan}

-- the entry doesn't touch this account
pub record LeavesAccount (id : Id) (transport : ℕ) (e : Entry) : Type 0 where
  pub admit : is_admit_of id e ≡ false
  pub start : is_start_of id transport e ≡ false
  pub charge : charge_of id transport e ≡ 0

-- it touches none
abbrev pub IsQuiet : Entry → Type 0
IsQuiet e = (id : Id) (transport : ℕ) → LeavesAccount id transport e

since_more : (l : Ledger) (e : Entry) (id : Id) → is_admit_of id e ≡ false → since_admit (noted e l) id ≡ e ∷ since_admit l id
since_more l e id h = take_while-cons (λ x. not (is_admit_of id x)) e l.past ∙ ap (λ b. cond (not b) (e ∷ since_admit l id) []) h

count_more : {A : Type 0} (p : A → Bool) (x : A) (xs : List A) → count_by p (x ∷ xs) ≡ cond (p x) 1 0 + count_by p xs
count_more p x xs = sum_by-cons (λ y. cond (p y) 1 0) x xs

pub starts_kept : (l : Ledger) (e : Entry) (id : Id) (t : ℕ) → LeavesAccount id t e → starts_of (noted e l) id t ≡ starts_of l id t
starts_kept l e id t q =
    ap (count_by (is_start_of id t)) (since_more l e id q.admit) ∙ count_more (is_start_of id t) e (since_admit l id)
    ∙ ap (λ b. cond b 1 0 + starts_of l id t) q.start ∙ omega arith

pub charged_kept : (l : Ledger) (e : Entry) (id : Id) (t : ℕ) → LeavesAccount id t e → charged (noted e l) id t ≡ charged l id t
charged_kept l e id t q =
    ap (sum_by (charge_of id t)) (since_more l e id q.admit) ∙ sum_by-cons (charge_of id t) e (since_admit l id)
    ∙ ap (λ n. n + charged l id t) q.charge ∙ omega arith

-- an account that was empty still is
pub account_kept : (l : Ledger) (e : Entry) (id : Id) (t : ℕ) → LeavesAccount id t e → (starts_of l id t ≡ 0) × (charged l id t ≡ 0) → (starts_of (noted e l) id t ≡ 0) × (charged (noted e l) id t ≡ 0)
account_kept l e id t q h = (starts_kept l e id t q ∙ h.0, charged_kept l e id t q ∙ h.1)

more_or_same : {A : Type 0} (p : A → Bool) (x : A) (xs : List A) → count_by p xs ≤ count_by p (x ∷ xs)
more_or_same p x xs = let e = count_more p x xs in omega (arith, e)

pub arrivals_grow : (l : Ledger) (e : Entry) → arrivals l ≤ arrivals (noted e l)
arrivals_grow l e = more_or_same is_arrive e l.past

pub starts_grow : (l : Ledger) (e : Entry) → starts l ≤ starts (noted e l)
starts_grow l e = more_or_same is_start e l.past

-- who has come has come
pub still_come : (l : Ledger) (e : Entry) (id : Id) → has_come l id ≡ true → has_come (noted e l) id ≡ true
still_come l e id h = elim (or_cases (nat_lt id.generation l.book.generation) (nat_le id.serial (arrivals l)) h) [
  | inl before ↦ or_left (nat_lt id.generation l.book.generation) (nat_le id.serial (arrivals (noted e l))) before
  | inr now ↦ or_right (nat_lt id.generation l.book.generation) (nat_le id.serial (arrivals (noted e l))) (raise id.serial (arrivals l) (arrivals (noted e l)) (arrivals_grow l e) now)
]

pub book_noted : (l : Ledger) (e : Entry) → IsBookConsistent l → IsBookConsistent (noted e l)
book_noted l e h = record {
  distinct = h.distinct;
  orderly = h.orderly;
  firm = h.firm;
  come = all_weaker (has_come l) (has_come (noted e l)) (all_ids l.book) (λ id there k. still_come l e id k) h.come;
}

pub begun_noted : (l : Ledger) (e : Entry) → list_all (λ (f : Delivery). nat_le f.number (starts l)) l.flights ≡ true → list_all (λ (f : Delivery). nat_le f.number (starts (noted e l))) l.flights ≡ true
begun_noted l e h = all_weaker (λ (f : Delivery). nat_le f.number (starts l)) (λ (f : Delivery). nat_le f.number (starts (noted e l))) l.flights (λ f there k. raise f.number (starts l) (starts (noted e l)) (starts_grow l e) k) h

-- a consistent ledger is ready where a quiet entry is noted that changes nothing of it
pub quiet_ready : (w : World) (l : Ledger) (e : Entry) → IsQuiet e → IsConsistent w l → IsReady w (noted e l)
quiet_ready w l e q c =
    let m = c.memory in
    record {
      usable = c.usable;
      book = book_noted l e c.book;
      memory = record {
        admitted = m.admitted;
        present = m.present;
        within = m.within;
        waiting = m.waiting;
        filled = m.filled;
        flights = m.flights;
        unsettled = m.unsettled;
        remembered = λ a x f g. let k = m.remembered a x f g in record { read = k.read; once = k.once; unmarked = k.unmarked; logged = k.logged };
        numbers = m.numbers;
        begun = begun_noted l e m.begun;
        single = m.single;
        fresh = λ id t some gone. account_kept l e id t (q id t) (m.fresh id t some gone);
        synced = m.synced;
        synced_next = λ id left was. m.synced_next id left was;
        messages = m.messages;
        recipients = m.recipients;
      };
    }

-- the ledger with other values of what nothing depends on here
abbrev pub otherwise : Ledger → ℕ → Bool → ℕ → Option Scan → Option Request → Bool → Bool → List Served → List SiteRecord → Ledger
otherwise l now timed next_run scan asked ignores follows served sites = record l { now = now; timed = timed; next_run = next_run; scan = scan; asked = asked; ignores = ignores; deferred_follows = follows; served = served; sites = sites }

pub otherwise_ready : (w : World) (l : Ledger) (now : ℕ) (timed : Bool) (next_run : ℕ) (scan : Option Scan) (asked : Option Request) (ignores follows : Bool) (served : List Served) (sites : List SiteRecord) →
    IsReady w l → IsReady w (otherwise l now timed next_run scan asked ignores follows served sites)
otherwise_ready w l now timed next_run scan asked ignores follows served sites h =
    let m = h.memory in
    record {
      usable = h.usable;
      book = record { distinct = h.book.distinct; orderly = h.book.orderly; firm = h.book.firm; come = h.book.come };
      memory = record {
        admitted = m.admitted;
        present = m.present;
        within = m.within;
        waiting = m.waiting;
        filled = m.filled;
        flights = m.flights;
        unsettled = m.unsettled;
        remembered = λ a x f g. let k = m.remembered a x f g in record { read = k.read; once = k.once; unmarked = k.unmarked; logged = k.logged };
        numbers = m.numbers;
        begun = m.begun;
        single = m.single;
        fresh = λ id t some gone. m.fresh id t some gone;
        synced = m.synced;
        synced_next = λ id left was. m.synced_next id left was;
        messages = m.messages;
        recipients = m.recipients;
      };
    }
