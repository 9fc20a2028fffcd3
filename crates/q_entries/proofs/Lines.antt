-- First the disk, then the line.
use Rattle.std.proofs.Common.{◌≡◌, ◌≢◌, ◌⊎◌, inl, inr, ⊎_elim, ◌≤◌, ℕ, List, ◌++◌, length, take, refl, sym, ap, ◌∙◌, subst, arith, append-nil, take_all}
use Rattle.std.specs.Prelude.{Err, IsErrOf, Ok, OnErr, Result}
use Rattle.q_model.specs.declared.entry.Entry.{Entry}
use Rattle.q_model.specs.Book.{Book}
use Rattle.q_model.specs.CutOff.{cut_off}
use Rattle.q_model.specs.FilesStand.{Stands}
use Rattle.q_model.specs.Settings.{Table}
use Rattle.q_model.specs.SpoolFiles.{Files}
use Rattle.q_model.specs.Text.{line}
use Rattle.q_host.specs.Calls.{IsAsItWas, Tells}
use Rattle.q_host.specs.declared.error.HostError.{HostError}
use Rattle.q_host.specs.declared.error.HostError.TheVariants.{Disk, NoMemory, Tell}
use Rattle.q_host.specs.View.{LeavesOnly, Remains, View}
use Rattle.q_host.proofs.Moments.{leaves_by, leaves_on}
use Rattle.q_books.specs.HostStands.{Between, HostStands, IsLeftOf, OwnLogs, Takes, TellsCrashes, Tries, TriesLoosely}
use Rattle.q_entries.specs.Entries.{DoesEntry, IsWithinEntry, StandsAround, StopsEntry}

-- what an error means, of one error
pub of_err : {T : Type 0} {E : Type 0} {P : Type 0} (r : Result T E) (e : E) → IsErrOf r e → OnErr r P → P
of_err (Ok v) e is h = absurd cc
of_err (Err x) e is h = h

module _ (table : Table) (e : Entry) where
  abbrev whole : List ℕ
  whole = line table e

  -- nothing of the line was told yet
  before_line : (b k : Book) (before : List ℕ) (c : Remains) → Between b k before c → IsWithinEntry table e b k before c
  before_line b k before c p = record { part = 0; short = omega arith; told = p.told ∙ sym (append-nil before); book = p.book; disk_first = λ some. absurd (omega arith) }

  either : {P : Type 0} → P ⊎ P → P
  either (inl h) = h
  either (inr h) = h

  -- within the line, behind the change
  behind_change : (b k : Book) (before later : List ℕ) (c : Remains) → later ≡ before → IsWithinEntry table e k k later c → IsWithinEntry table e b k before c
  behind_change b k before later c same p = record { part = p.part; short = p.short; told = p.told ∙ ap (λ (x : List ℕ). x ++ take p.part whole) same; book = inr (either p.book); disk_first = p.disk_first }

  module _ (b k : Book) (u v w : View) (t : Takes b k u v) where
    line_moments : LeavesOnly v w (IsWithinEntry table e k k v.told) → LeavesOnly u w (IsWithinEntry table e b k u.told)
    line_moments then = leaves_on (IsWithinEntry table e b k u.told) t.moments then (before_line b k u.told) (λ c p. behind_change b k u.told v.told c t.told p)

    pub changed_does : DoesEntry table e k k v w → DoesEntry table e b k u w
    changed_does d = record {
      told = d.told ∙ ap (λ (x : List ℕ). x ++ whole) t.told;
      stands = d.stands;
      logs = λ own. d.logs (t.logs own);
      moments = line_moments d.moments;
    }

    pub changed_stops : (error : HostError) → StopsEntry table e k k error v w → StopsEntry table e b k error u w
    changed_stops error d = record {
      part = d.part;
      short = d.short;
      told = d.told ∙ ap (λ (x : List ℕ). x ++ take d.part whole) t.told;
      only_tell = d.only_tell;
      stands = inr (⊎_elim (λ h. inl h) (λ h. h) d.stands);
      disk_first = d.disk_first;
      moments = line_moments d.moments;
    }

  -- nothing of the line was told
  stopped_at : (b k : Book) (error : HostError) (v w : View) → w.told ≡ v.told → LeavesOnly v w (Between b k v.told) → StandsAround e b k error w → StopsEntry table e b k error v w
  stopped_at b k error v w same moments around = record {
    part = 0;
    short = omega arith;
    told = same ∙ sym (append-nil v.told);
    only_tell = λ h. refl;
    stands = around;
    disk_first = λ some. absurd (omega arith);
    moments = record {
      later = moments.later;
      each = λ c left. before_line b k v.told c (moments.each c left);
      before = λ at c le left. ⊎_elim (λ was. inl was) (λ p. inr (before_line b k v.told c p)) (moments.before at c le left);
    };
  }

  -- Disk or memory refused, and the book may be the one after it as it was cut off.
  pub may_stop_loosely : (b k : Book) (error : HostError) (v w : View) → error ≢ Tell → TriesLoosely b k (cut_off e k) v w → StopsEntry table e b k error v w
  may_stop_loosely b k error v w other t = stopped_at b k error v w t.told t.moments (⊎_elim (λ h. inl h) (λ h. inr (⊎_elim (λ i. inl i) (λ i. inr (other, i)) h)) t.stands)

  -- the disk refused
  pub may_stop : (b k : Book) (error : HostError) (v w : View) → Tries b k v w → StopsEntry table e b k error v w
  may_stop b k error v w t = stopped_at b k error v w t.told t.moments (⊎_elim (λ h. inl h) (λ h. inr (inl h)) t.stands)

  -- ---- telling a line

  module _ (b : Book) (n : ℕ) (short : n ≤ length whole) (v w : View) (lawful : TellsCrashes v) (told : Tells whole n v w) (h : HostStands v b) where
    same_left : (d c : Remains) → c.files ≡ d.files → IsLeftOf b d → IsLeftOf b c
    same_left d c same left = record { left = left.left; after = left.after; stands = subst (λ (f : Files). Stands f left.left) (sym same) left.stands }

    still : HostStands w b
    still = record {
      reads = subst (λ (f : Files). Stands f b) (sym told.files) h.reads;
      crash = λ c m. let d = told.goes.crash c m in same_left d.0 c d.2.files (h.crash d.0 d.1);
    }

    telling : LeavesOnly v w (IsWithinEntry table e b b v.told)
    telling = leaves_by (λ d. (d.told ≡ v.told) × IsLeftOf b d) (IsWithinEntry table e b b v.told) lawful.only told.goes (λ d m. (lawful.told d m, h.crash d m))
        (λ d p. record { part = 0; short = omega arith; told = p.0 ∙ sym (append-nil v.told); book = inl p.1; disk_first = λ some. p.1 })
        (λ d c p a.
        let left : IsLeftOf b c = same_left d c a.2.files p.1 in
        record { part = a.0; short = a.1; told = a.2.told ∙ ap (λ (x : List ℕ). x ++ take a.0 whole) p.0; book = inl left; disk_first = λ some. left })

    pub tells_does : n ≡ length whole → DoesEntry table e b b v w
    tells_does all = record {
      told = told.told ∙ ap (λ (x : List ℕ). v.told ++ x) (take_all n whole (omega (arith, all)));
      stands = still;
      logs = λ own. subst (λ (f : Files). OwnLogs f b) (sym told.files) own;
      moments = telling;
    }

    tells_stops : (error : HostError) → (error ≢ Tell → n ≡ 0) → StopsEntry table e b b error v w
    tells_stops error only = record {
      part = n;
      short = short;
      told = told.told;
      only_tell = only;
      stands = inl still;
      disk_first = λ some. still;
      moments = telling;
    }

  -- the host is as it was
  pub as_it_was : (b k : Book) (error : HostError) (v w : View) → TellsCrashes v → IsAsItWas v w → HostStands v b → StopsEntry table e b k error v w
  as_it_was b k error v w lawful was h = record {
    part = 0;
    short = omega arith;
    told = was.told ∙ sym (append-nil v.told);
    only_tell = λ other. refl;
    stands = inl (record { reads = subst (λ (f : Files). Stands f b) (sym was.files) h.reads; crash = λ c m. h.crash c (was.may_leave c m) });
    disk_first = λ some. absurd (omega arith);
    moments = record {
      later = omega (arith, was.moment);
      each = λ c left. here c (lawful.only c (was.left_since v.moment c left));
      before = λ at c le left. inl (was.left_since at c left);
    };
  }
    where
      here : (c : Remains) → v.may_leave c → IsWithinEntry table e b k v.told c
      here c m = record { part = 0; short = omega arith; told = lawful.told c m ∙ sym (append-nil v.told); book = inl (h.crash c m); disk_first = λ some. absurd (omega arith) }

  pub line_stops : (b : Book) (error : HostError) (v w : View) → TellsCrashes v → HostStands v b → (n : ℕ) × (n ≤ length whole) × Tells whole n v w → (error ≡ NoMemory → IsAsItWas v w) → (error ≡ Disk → ⊥) → StopsEntry table e b b error v w
  line_stops b Tell v w lawful h (n, short, told) memory disk = tells_stops b n short v w lawful told h Tell (λ other. absurd (other refl))
  line_stops b NoMemory v w lawful h some memory disk = as_it_was b b NoMemory v w lawful (memory refl) h
  line_stops b Disk v w lawful h some memory disk = absurd (disk refl)

-- no call was made
pub stands_still : (v : View) → IsAsItWas v v
stands_still v = record { files = refl; told = refl; moment = refl; may_leave = λ c m. m; left_since = λ at c m. m }
