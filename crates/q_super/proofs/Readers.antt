-- Readers of pending recipients: what was read, and what is still to come.
use Rattle.std.proofs.Common.{◌≡◌, ◌∙◌, ◌∷◌, ◌++◌, ◌||◌, [], Bool, true, false, List, None, Option, Some, ℕ, append-nil, append_assoc, ap, refl, subst, sym}
use Rattle.std.specs.Prelude.{IfSome}
use Rattle.q_books.specs.Spots.{spot_of}
use Rattle.q_message.specs.FileHeads.{IsFault}
use Rattle.q_model.specs.FilesStand.{file_message}
use Rattle.q_model.specs.Message.{Message}
use Rattle.q_model.specs.QueueFile.{FileMessage}
use Rattle.q_model.specs.SpoolFiles.{Files}
use Rattle.q_model.specs.Values.{Spot, Taken}
use Rattle.q_pending.specs.Readings.{GivesPending, IsFileOfMessage, IsPendingAhead}
use Rattle.q_pending.specs.declared.pending.Pending.{Pending}
use Rattle.q_pending.proofs.FileLaws.{has_file}
use Rattle.q_super.specs.Domains.{has_in_domain, is_in_domain}
use Rattle.q_super.specs.declared.standing.Standing.{Standing}
use Rattle.q_super.specs.GivingUp.{IsFileOf}

-- ---- the file of a message

-- the reader's words for it
pub file_of : (f : Files) (s : Standing) (m : Message) (spot : Spot) → spot ≡ spot_of s.place s.id → IsFileOf f s m → IsFileOfMessage f m spot
file_of f s m spot here is = record {
  stands = is.stands;
  spot = here ∙ ap (λ p. spot_of p s.id) (sym is.place) ∙ ap (spot_of m.place) (sym is.id);
}

some_none : (x : FileMessage) → ◌≡◌ {A = Option FileMessage} (Some x) None → ⊥
some_none x e = cc

-- a message's file is a queue file
pub no_fault : (f : Files) (m : Message) (spot : Spot) (place : ℕ) → IsFileOfMessage f m spot → IfSome (f spot.area spot.name) (IsFault place) → ⊥
no_fault f m spot place is fault =
    let file = has_file f m spot is in
    let at = subst (λ (o : Option (List ℕ)). IfSome o (IsFault place)) file.here fault in
    some_none (file_message m) (sym file.reads ∙ at.0)

-- ---- positions that were read

-- these were read, and the others are ahead
pub record HasLeft (f : Files) (m : Message) (read : List ℕ) (p : Pending) (positions : List ℕ) : Type 0 where
  pub left : List ℕ
  pub ahead : IsPendingAhead f m p left
  pub all : positions ≡ read ++ left

pub none_read : (f : Files) (m : Message) (read : List ℕ) (p : Pending) (positions : List ℕ) → read ≡ [] → IsPendingAhead f m p positions → HasLeft f m read p positions
none_read f m read p positions none ahead = record { left = positions; ahead = ahead; all = ap (λ (xs : List ℕ). xs ++ positions) (sym none) }

none_ahead : (f : Files) (m : Message) (p : Pending) (positions : List ℕ) (o : Option Taken) → o ≡ None → GivesPending f m p positions o → positions ≡ []
none_ahead f m p positions o same gives = subst (λ (x : Option Taken). GivesPending f m p positions x) same gives

module _ (f : Files) (m : Message) (p q : Pending) (positions : List ℕ) (o : Option Taken) (next : (ps : List ℕ) → IsPendingAhead f m p ps → GivesPending f m q ps o) where
  pub all_read : (read : List ℕ) → o ≡ None → HasLeft f m read p positions → read ≡ positions
  all_read read none h = sym (h.all ∙ ap (λ (xs : List ℕ). read ++ xs) (none_ahead f m q h.left o none (next h.left h.ahead)) ∙ append-nil read)

  pub one_read : (read more : List ℕ) (taken : Taken) → o ≡ Some taken → more ≡ read ++ taken.position ∷ [] → HasLeft f m read p positions → HasLeft f m more q positions
  one_read read more taken some pushed h =
      let gives = subst (λ (x : Option Taken). GivesPending f m q h.left x) some (next h.left h.ahead) in
      record {
        left = gives.1;
        ahead = gives.4;
        all = h.all ∙ ap (λ (xs : List ℕ). read ++ xs) (gives.2 ∙ ap (λ n. n ∷ gives.1) (sym gives.3.position)) ∙ sym (append_assoc read (taken.position ∷ []) gives.1) ∙ ap (λ (xs : List ℕ). xs ++ gives.1) (sym pushed);
      }

-- ---- domains

-- none of those that were read is in the domain
pub record LooksOn (f : Files) (m : Message) (domain : List ℕ) (p : Pending) (positions : List ℕ) : Type 0 where
  pub left : List ℕ
  pub ahead : IsPendingAhead f m p left
  pub same : has_in_domain domain m positions ≡ has_in_domain domain m left

pub looks_first : (f : Files) (m : Message) (domain : List ℕ) (p : Pending) (positions : List ℕ) → IsPendingAhead f m p positions → LooksOn f m domain p positions
looks_first f m domain p positions ahead = record { left = positions; ahead = ahead; same = refl }

module _ (f : Files) (m : Message) (domain : List ℕ) (p q : Pending) (positions : List ℕ) (o : Option Taken) (next : (ps : List ℕ) → IsPendingAhead f m p ps → GivesPending f m q ps o) (h : LooksOn f m domain p positions) where
  pub looked_all : o ≡ None → has_in_domain domain m positions ≡ false
  looked_all none = h.same ∙ ap (has_in_domain domain m) (none_ahead f m q h.left o none (next h.left h.ahead))

  abbrev test : List ℕ → Bool
  test address = is_in_domain domain address

  one_more : (taken : Taken) → o ≡ Some taken → (rest : List ℕ) × IsPendingAhead f m q rest × (has_in_domain domain m positions ≡ (test taken.address || has_in_domain domain m rest))
  one_more taken some =
      let gives = subst (λ (x : Option Taken). GivesPending f m q h.left x) some (next h.left h.ahead) in
      (gives.1, gives.4, h.same ∙ ap (has_in_domain domain m) gives.2 ∙ ap (λ (a : List ℕ). test a || has_in_domain domain m gives.1) (sym gives.3.address))

  pub looked_here : (taken : Taken) → o ≡ Some taken → test taken.address ≡ true → has_in_domain domain m positions ≡ true
  looked_here taken some here = let one = one_more taken some in one.2 ∙ ap (λ t. t || has_in_domain domain m one.0) here

  pub looks_further : (taken : Taken) → o ≡ Some taken → test taken.address ≡ false → LooksOn f m domain q positions
  looks_further taken some other = let one = one_more taken some in record { left = one.0; ahead = one.1; same = one.2 ∙ ap (λ t. t || has_in_domain domain m one.0) other }
