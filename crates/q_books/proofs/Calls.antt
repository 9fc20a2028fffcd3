-- A call of a host that changes files takes it from one book to another.
use Rattle.std.proofs.Common.{◌≡◌, ◌⊎◌, sym, ap, subst, ◌∙◌, inl, inr}
use Rattle.q_model.specs.Book.{Book}
use Rattle.q_model.specs.Crashes.{IsCrashOf}
use Rattle.q_model.specs.FilesStand.{Stands}
use Rattle.q_model.specs.SpoolFiles.{Files}
use Rattle.q_host.specs.Calls.{Changes, Stays}
use Rattle.q_host.specs.View.{Goes, LeavesOnly, Remains, Step, View}
use Rattle.q_host.proofs.Moments.{leaves_by}
use Rattle.q_books.specs.HostStands.{Between, HostStands, IsLeftOf, OwnLogs, Takes, TellsCrashes, Tries}

module _ (b k : Book) (v w : View) (lawful : TellsCrashes v) where
  -- what may be left meanwhile
  pub meanwhile : {S M : Step} → Goes S M v w → ((d c : Remains) → v.may_leave d → IsLeftOf b d → M d c → (c.told ≡ d.told) × (IsLeftOf b c ⊎ IsLeftOf k c)) → HostStands v b → LeavesOnly v w (Between b k v.told)
  meanwhile goes step h = leaves_by (λ d. (d.told ≡ v.told) × v.may_leave d × IsLeftOf b d) (Between b k v.told) lawful.only goes (λ d m. (lawful.told d m, m, h.crash d m))
      (λ d p. record { told = p.0; book = inl p.2 }) (λ d c p m. let q = step d c p.1 p.2 m in record { told = q.0 ∙ p.0; book = q.1 })

  -- a call that changes nothing
  pub stayed : Stays v w → HostStands v b → Tries b k v w
  stayed st h = record {
    told = st.told;
    stands = inl (record { reads = subst (λ (f : Files). Stands f b) (sym st.files) h.reads; crash = λ c m. let d = st.goes.crash c m in subst (IsLeftOf b) (sym d.2) (h.crash d.0 d.1) });
    moments = meanwhile st.goes (λ d c m left same. (ap (λ (r : Remains). r.told) same, inl (subst (IsLeftOf b) (sym same) left))) h;
  }

  pub tried : Takes b k v w → Tries b k v w
  tried t = record { told = t.told; stands = inr t.stands; moments = t.moments }

-- How a change of files goes with a change of books.
pub record Carries (b : Book) (to : Book → Book) (change : Files → Files) : Type 0 where
  pub reads : (f : Files) → Stands f b → Stands (change f) (to b)
  pub left : (f : Files) (l : Book) → IsCrashOf b l → Stands f l → Stands (change f) (to l)
  pub crash : (l : Book) → IsCrashOf b l → IsCrashOf (to b) (to l)
  pub logs : (f : Files) → OwnLogs f b → OwnLogs (change f) (to b)

module _ (b : Book) (to : Book → Book) (change : Files → Files) (carries : Carries b to change) (v w : View) (lawful : TellsCrashes v) where
  left_changed : (d c : Remains) → c.files ≡ change d.files → IsLeftOf b d → IsLeftOf (to b) c
  left_changed d c files left = record { left = to left.left; after = carries.crash left.left left.after; stands = subst (λ (f : Files). Stands f (to left.left)) (sym files) (carries.left d.files left.left left.after left.stands) }

  -- a call that changes the files at once
  pub changed : Changes change v w → HostStands v b → Takes b (to b) v w
  changed ch h = record {
    told = ch.told;
    stands = record {
      reads = subst (λ (f : Files). Stands f (to b)) (sym ch.files) (carries.reads v.files h.reads);
      crash = λ c m. let d = ch.goes.crash c m in left_changed d.0 c d.2.0 (h.crash d.0 d.1);
    };
    logs = λ own. subst (λ (f : Files). OwnLogs f (to b)) (sym ch.files) (carries.logs v.files own);
    moments = meanwhile b (to b) v w lawful ch.goes (λ d c m left step. (step.1, inr (left_changed d c step.0 left))) h;
  }

  pub may_change : Changes change v w ⊎ Stays v w → HostStands v b → Tries b (to b) v w
  may_change (inl ch) h = tried b (to b) v w lawful (changed ch h)
  may_change (inr st) h = stayed b (to b) v w lawful st h
