-- The `at` lines stay the moments that rise.
use Rattle.std.proofs.Common.{◌≡◌, ℕ, Bool, true, false, if◌then◌else◌, List, [], ◌∷◌, ◌++◌, refl, sym, ap, ◌∙◌}
use Rattle.std.proofs.lemmas.List.{append-nil}
use Rattle.std.specs.Prelude.{nat_lt}
use Rattle.q_drain.proofs.Adding.{moments_added}
use Rattle.q_drain.proofs.Silent.{AreInside, no_moments}
use Rattle.q_drain.specs.Told.{moment_after, moment_behind, moment_of, moments_of}
use Rattle.q_drain.specs.Sweeps.{rising, rising_past}
use Rattle.q_model.specs.declared.entry.Entry.{Entry}
use Rattle.q_model.specs.declared.entry.Entry.TheVariants as entries

-- the last of some moments, where m came before
abbrev latest : ℕ → List ℕ → ℕ
latest m [] = m
latest m (t ∷ ts) = latest t ts

-- the moment t, where it is past m
abbrev past : ℕ → ℕ → List ℕ
past m t = if nat_lt m t then t ∷ [] else []

past_more : (m : ℕ) (ts : List ℕ) (t : ℕ) → rising_past m (ts ++ t ∷ []) ≡ rising_past m ts ++ past (latest m (rising_past m ts)) t
past_more m [] t = refl
past_more m (u ∷ ts) t = on (nat_lt m u) (past_more u ts t) (past_more m ts t)
  where
    on : (b : Bool) → rising_past u (ts ++ t ∷ []) ≡ rising_past u ts ++ past (latest u (rising_past u ts)) t → rising_past m (ts ++ t ∷ []) ≡ rising_past m ts ++ past (latest m (rising_past m ts)) t
        → (if b then u ∷ rising_past u (ts ++ t ∷ []) else rising_past m (ts ++ t ∷ [])) ≡ (if b then u ∷ rising_past u ts else rising_past m ts) ++ past (latest m (if b then u ∷ rising_past u ts else rising_past m ts)) t
    on true h k = ap (λ (xs : List ℕ). u ∷ xs) h
    on false h k = k

-- a later moment is told where it is past the last that was
rising_more : (u : ℕ) (ts : List ℕ) (t : ℕ) → rising ((u ∷ ts) ++ t ∷ []) ≡ rising (u ∷ ts) ++ past (latest 0 (rising (u ∷ ts))) t
rising_more u ts t = ap (λ (xs : List ℕ). u ∷ xs) (past_more u ts t)

-- the moment behind entries is the last that they name
entry_latest : (t : ℕ) (e : Entry) (ts : List ℕ) → latest t (moment_of e ++ ts) ≡ latest (moment_behind t e) ts
entry_latest t (entries.At now) ts = refl
entry_latest t entries.End ts = refl
entry_latest t (entries.Life generation mode) ts = refl
entry_latest t (entries.Arrive id sender to content) ts = refl
entry_latest t (entries.Reply number site os) ts = refl
entry_latest t (entries.Trigger kind) ts = refl
entry_latest t (entries.Start number id site positions) ts = refl
entry_latest t (entries.Back id) ts = refl
entry_latest t (entries.Admit id) ts = refl
entry_latest t (entries.Load id from to) ts = refl
entry_latest t (entries.Preempt child parent transport need) ts = refl
entry_latest t (entries.Skip id site positions) ts = refl
entry_latest t (entries.Log id failure) ts = refl
entry_latest t (entries.Mark id position) ts = refl
entry_latest t (entries.Sync id) ts = refl
entry_latest t (entries.Defer id due) ts = refl
entry_latest t (entries.Bounce id) ts = refl
entry_latest t (entries.Remove id) ts = refl
entry_latest t (entries.Corrupt id) ts = refl

told_latest : (t : ℕ) (es : List Entry) → latest t (moments_of es) ≡ moment_after t es
told_latest t [] = refl
told_latest t (e ∷ es) = entry_latest t e (moments_of es) ∙ told_latest (moment_behind t e) es

-- what a moment adds to those that are told
abbrev pub IsClockedBy : List ℕ → List Entry → Type 0
IsClockedBy moments told = moments_of told ≡ rising moments

next_clocked : (u : ℕ) (ts : List ℕ) (told : List Entry) (t : ℕ) (b : Bool) → IsClockedBy (u ∷ ts) told → nat_lt (moment_after 0 told) t ≡ b → rising ((u ∷ ts) ++ t ∷ []) ≡ moments_of told ++ (if b then t ∷ [] else [])
next_clocked u ts told t b clocked is =
    rising_more u ts t
    ∙ ap (λ (xs : List ℕ). xs ++ past (latest 0 xs) t) (sym clocked)
    ∙ ap (λ m. moments_of told ++ past m t) (told_latest 0 told)
    ∙ ap (λ (x : Bool). moments_of told ++ (if x then t ∷ [] else [])) is

-- a moment past all before is told
pub later_clocked : (u : ℕ) (ts : List ℕ) (told : List Entry) (t : ℕ) (es : List Entry) → IsClockedBy (u ∷ ts) told → nat_lt (moment_after 0 told) t ≡ true → AreInside es → IsClockedBy ((u ∷ ts) ++ t ∷ []) (told ++ entries.At t ∷ es)
later_clocked u ts told t es clocked is inside =
    moments_added told (entries.At t ∷ es)
    ∙ ap (λ (xs : List ℕ). moments_of told ++ t ∷ xs) (no_moments es inside)
    ∙ sym (next_clocked u ts told t true clocked is)

-- another one isn't
pub same_clocked : (u : ℕ) (ts : List ℕ) (told : List Entry) (t : ℕ) → IsClockedBy (u ∷ ts) told → nat_lt (moment_after 0 told) t ≡ false → IsClockedBy ((u ∷ ts) ++ t ∷ []) told
same_clocked u ts told t clocked is = sym (next_clocked u ts told t false clocked is ∙ append-nil (moments_of told))

-- the first is told
pub first_clocked : (t : ℕ) (es : List Entry) → AreInside es → IsClockedBy (t ∷ []) (entries.At t ∷ es)
first_clocked t es inside = ap (λ (xs : List ℕ). t ∷ xs) (no_moments es inside)

-- a turn without a moment
pub none_clocked : (moments : List ℕ) (told es : List Entry) → IsClockedBy moments told → moments_of es ≡ [] → IsClockedBy moments (told ++ es)
none_clocked moments told es clocked none = moments_added told es ∙ ap (λ (xs : List ℕ). moments_of told ++ xs) none ∙ append-nil (moments_of told) ∙ clocked
