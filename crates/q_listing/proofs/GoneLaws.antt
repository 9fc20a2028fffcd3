-- Items that are gone through one behind another: the recipients that a reader gives, and the messages
-- that a walk gives.
use Rattle.std.proofs.Common.{◌≡◌, ◌∙◌, ◌++◌, ◌∷◌, [], List, None, Some, append_assoc, append-nil, ap, refl, subst, sym, ℕ}
use Rattle.q_model.specs.Book.{Book}
use Rattle.q_model.specs.Message.{Message}
use Rattle.q_model.specs.SpoolFiles.{Files}
use Rattle.q_model.specs.Values.{Taken}
use Rattle.q_pending.specs.declared.pending.Pending.{Pending}
use Rattle.q_pending.specs.Readings.{GivesPending, IsPendingAhead, IsRecipientAt}
use Rattle.q_walk.specs.declared.walk.Found.{Found}
use Rattle.q_walk.specs.declared.walk.Walk.{Walk}
use Rattle.q_walk.specs.Walks.{GivesNext, IsAhead, IsFound}

-- The first items are done, and the rest is ahead.
pub record IsGoneTo {X : Type 0} (all : List X) (Ahead Done : List X → Type 0) : Type 0 where
  pub done : List X
  pub rest : List X
  pub split : all ≡ done ++ rest
  pub ahead : Ahead rest
  pub holds : Done done

module _ {X : Type 0} (all : List X) where
  pub gone_begins : (A D : List X → Type 0) → A all → D [] → IsGoneTo all A D
  gone_begins A D ahead none = record { done = []; rest = all; split = refl; ahead = ahead; holds = none }

  module _ (A D : List X → Type 0) (s : IsGoneTo all A D) where
    -- one more is done
    gone_more : (B E : List X → Type 0) (x : X) (behind : List X) → s.rest ≡ x ∷ behind → B behind → (D s.done → E (s.done ++ x ∷ [])) → IsGoneTo all B E
    gone_more B E x behind is ahead more = record {
      done = s.done ++ x ∷ [];
      rest = behind;
      split = s.split ∙ ap (λ (ys : List X). s.done ++ ys) is ∙ sym (append_assoc s.done (x ∷ []) behind);
      ahead = ahead;
      holds = more s.holds;
    }

    -- none is left
    gone_all : s.rest ≡ [] → D all
    gone_all none = subst D (sym (s.split ∙ ap (λ (ys : List X). s.done ++ ys) none ∙ append-nil s.done)) s.holds

-- ---- recipients, for files that are the same as at first

module _ (f h : Files) (same : h ≡ f) (m : Message) (p q : Pending) (positions : List ℕ) (D : List ℕ → Type 0) (s : IsGoneTo positions (IsPendingAhead f m p) D) where
  pending_here : IsPendingAhead h m p s.rest
  pending_here = subst (λ (x : Files). IsPendingAhead x m p s.rest) (sym same) s.ahead

  -- the reader gives none
  pub pending_end : ((ps : List ℕ) → IsPendingAhead h m p ps → GivesPending h m q ps None) → D positions
  pending_end next = gone_all positions (IsPendingAhead f m p) D s (next s.rest pending_here)

  -- it gives one more
  pub pending_next : (E : List ℕ → Type 0) (taken : Taken) → ((ps : List ℕ) → IsPendingAhead h m p ps → GivesPending h m q ps (Some taken))
      → ((done : List ℕ) (position : ℕ) → IsRecipientAt m position taken → D done → E (done ++ position ∷ [])) → IsGoneTo positions (IsPendingAhead f m q) E
  pending_next E taken next step =
      let given = next s.rest pending_here in
      gone_more positions (IsPendingAhead f m p) D s (IsPendingAhead f m q) E given.0 given.1 given.2
      (subst (λ (x : Files). IsPendingAhead x m q given.1) same given.4) (step s.done given.0 given.3)

-- ---- messages

module _ (f h : Files) (same : h ≡ f) (b : Book) (p q : Walk) (ms : List Message) (D : List Message → Type 0) (s : IsGoneTo ms (IsAhead f b p) D) where
  messages_here : IsAhead h b p s.rest
  messages_here = subst (λ (x : Files). IsAhead x b p s.rest) (sym same) s.ahead

  -- the walk gives none
  pub messages_end : ((xs : List Message) → IsAhead h b p xs → GivesNext h b q xs None) → D ms
  messages_end next = gone_all ms (IsAhead f b p) D s (next s.rest messages_here)

  -- it gives one more
  pub messages_next : (E : List Message → Type 0) (found : Found) → ((xs : List Message) → IsAhead h b p xs → GivesNext h b q xs (Some found))
      → ((done : List Message) (m : Message) → IsFound h m found → D done → E (done ++ m ∷ [])) → IsGoneTo ms (IsAhead f b q) E
  messages_next E found next step =
      let given = next s.rest messages_here in
      gone_more ms (IsAhead f b p) D s (IsAhead f b q) E given.0 given.1 given.2
      (subst (λ (x : Files). IsAhead x b q given.1) same given.4) (step s.done given.0 given.3)
