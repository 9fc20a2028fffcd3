-- Calls one behind another, between two books.
use Rattle.std.proofs.Common.{◌≡◌, ◌∙◌, ⊎_elim, inl, inr, sym, subst}
use Rattle.q_model.specs.Book.{Book}
use Rattle.q_model.specs.SpoolFiles.{Files}
use Rattle.q_host.specs.Calls.{Stays}
use Rattle.q_host.specs.View.{LeavesOnly, Remains, View}
use Rattle.q_host.proofs.Moments.{leaves_on}
use Rattle.q_books.specs.HostStands.{Between, HostStands, OwnLogs, Takes, TellsCrashes, Tries, TriesLoosely}
use Rattle.q_books.proofs.Calls.{stayed}

module _ (b k : Book) (u v w : View) where
  first_book : (x : Remains) → Between b b u.told x → Between b k u.told x
  first_book x h = record { told = h.told; book = ⊎_elim (λ l. inl l) (λ l. inl l) h.book }

  last_book : (x : Remains) → v.told ≡ u.told → Between k k v.told x → Between b k u.told x
  last_book x told h = record { told = h.told ∙ told; book = ⊎_elim (λ l. inr l) (λ l. inr l) h.book }

  both_books : (x : Remains) → v.told ≡ u.told → Between b k v.told x → Between b k u.told x
  both_books x told h = record { told = h.told ∙ told; book = h.book }

  before_takes : LeavesOnly u v (Between b b u.told) → v.told ≡ u.told → LeavesOnly v w (Between b k v.told) → LeavesOnly u w (Between b k u.told)
  before_takes p told q = leaves_on (Between b k u.told) p q (λ x h. first_book x h) (λ x h. both_books x told h)

  behind_takes : LeavesOnly u v (Between b k u.told) → v.told ≡ u.told → LeavesOnly v w (Between k k v.told) → LeavesOnly u w (Between b k u.told)
  behind_takes p told q = leaves_on (Between b k u.told) p q (λ x h. h) (λ x h. last_book x told h)

  -- a call behind one that kept the book
  pub kept_takes : Takes b b u v → Takes b k v w → Takes b k u w
  kept_takes p q = record { told = q.told ∙ p.told; stands = q.stands; logs = λ own. q.logs (p.logs own); moments = before_takes p.moments p.told q.moments }

  pub kept_tries : Takes b b u v → Tries b k v w → Tries b k u w
  kept_tries p q = record { told = q.told ∙ p.told; stands = q.stands; moments = before_takes p.moments p.told q.moments }

  pub kept_tries_loosely : (loose : Book) → Takes b b u v → TriesLoosely b k loose v w → TriesLoosely b k loose u w
  kept_tries_loosely loose p q = record { told = q.told ∙ p.told; stands = q.stands; moments = before_takes p.moments p.told q.moments }

  -- a call that keeps the book behind one that changed it
  pub takes_kept : Takes b k u v → Takes k k v w → Takes b k u w
  takes_kept p q = record { told = q.told ∙ p.told; stands = q.stands; logs = λ own. q.logs (p.logs own); moments = behind_takes p.moments p.told q.moments }

  pub takes_tried : Takes b k u v → Tries k k v w → Tries b k u w
  takes_tried p q = record { told = q.told ∙ p.told; stands = ⊎_elim (λ h. inr h) (λ h. inr h) q.stands; moments = behind_takes p.moments p.told q.moments }

module _ (b k : Book) (v w : View) (lawful : TellsCrashes v) where
  -- a call that changes nothing keeps the book
  pub reads_keep : Stays v w → HostStands v b → Takes b b v w
  reads_keep st h =
      let t = stayed b b v w lawful st h in
      record { told = t.told; stands = ⊎_elim (λ x. x) (λ x. x) t.stands; logs = λ own. subst (λ (f : Files). OwnLogs f b) (sym st.files) own; moments = t.moments }

  -- and was given up before it changed a book
  pub reads_try : Stays v w → HostStands v b → Tries b k v w
  reads_try st h = stayed b k v w lawful st h

-- a call that was given up and left nothing loose
pub tries_loosely : (b k loose : Book) (v w : View) → Tries b k v w → TriesLoosely b k loose v w
tries_loosely b k loose v w t = record { told = t.told; stands = ⊎_elim (λ h. inl h) (λ h. inr (inl h)) t.stands; moments = t.moments }
