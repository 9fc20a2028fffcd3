-- A line is told behind the steps of its message.
use Rattle.std.proofs.Common.{◌≡◌, ◌≢◌, ◌≤◌, inl, ℕ, List, [], ◌∷◌, ◌++◌, length, take, refl, sym, ap, ◌∙◌, subst, arith, append-nil, take_all}
use Rattle.std.specs.Prelude.{Err, IsErrOf, Ok, OnErr, Result}
use Rattle.q_model.specs.Book.{Book}
use Rattle.q_model.specs.FilesStand.{Stands}
use Rattle.q_model.specs.SpoolFiles.{Files}
use Rattle.q_host.specs.Calls.{IsAsItWas, Tells}
use Rattle.q_host.specs.View.{LeavesOnly, Remains, View}
use Rattle.q_host.specs.declared.error.HostError.{HostError}
use Rattle.q_host.specs.declared.error.HostError.TheVariants.{Disk, NoMemory, Tell}
use Rattle.q_host.proofs.Moments.{leaves_by}
use Rattle.q_books.specs.HostStands.{HostStands, IsLeftOf, OwnLogs, TellsCrashes}
use Rattle.q_super.specs.Deeds.{Deed, tells}
use Rattle.q_super.specs.Plays.{HaltsDeeds, IsLeftOfDeeds, PlaysDeeds}
use Rattle.q_super.proofs.Playing.{left_before}

-- what an error means, of one error
pub of_err : {T : Type 0} {E : Type 0} {P : Type 0} (r : Result T E) (e : E) → IsErrOf r e → OnErr r P → P
of_err (Ok v) e is h = absurd cc
of_err (Err x) e is h = h

-- no call was made
pub stands_still : (v : View) → IsAsItWas v v
stands_still v = record { files = refl; told = refl; moment = refl; may_leave = λ c m. m; left_since = λ at c m. m }

module _ (b : Book) (line : List ℕ) where
  abbrev deeds : List Deed
  deeds = tells line ∷ []

  module _ (n : ℕ) (short : n ≤ length line) (v w : View) (lawful : TellsCrashes v) (told : Tells line n v w) (h : HostStands v b) where
    same_left : (d c : Remains) → c.files ≡ d.files → IsLeftOf b d → IsLeftOf b c
    same_left d c same left = record { left = left.left; after = left.after; stands = subst (λ (f : Files). Stands f left.left) (sym same) left.stands }

    still : HostStands w b
    still = record {
      reads = subst (λ (f : Files). Stands f b) (sym told.files) h.reads;
      crash = λ c m. let d = told.goes.crash c m in same_left d.0 c d.2.files (h.crash d.0 d.1);
    }

    -- some first part of the line is told
    within : (c : Remains) → (k : ℕ) → k ≤ length line → c.told ≡ v.told ++ take k line → IsLeftOf b c → IsLeftOfDeeds b deeds v.told c
    within c k le part left = record {
      done = [];
      rest = deeds;
      all = refl;
      part = k;
      short = le;
      told = part ∙ ap (λ (x : List ℕ). x ++ take k line) (sym (append-nil v.told));
      book = left;
    }

    telling : LeavesOnly v w (IsLeftOfDeeds b deeds v.told)
    telling = leaves_by (λ d. (d.told ≡ v.told) × IsLeftOf b d) (IsLeftOfDeeds b deeds v.told) lawful.only told.goes (λ d m. (lawful.told d m, h.crash d m))
        (λ d p. left_before b v.told d deeds p.0 p.1)
        (λ d c p a. within c a.0 a.1 (a.2.told ∙ ap (λ (x : List ℕ). x ++ take a.0 line) p.0) (same_left d c a.2.files p.1))

    pub tells_plays : n ≡ length line → PlaysDeeds b deeds v w
    tells_plays all = record {
      told = told.told ∙ ap (λ (x : List ℕ). v.told ++ x) (take_all n line (omega (arith, all)) ∙ sym (append-nil line));
      stands = still;
      logs = λ own. subst (λ (f : Files). OwnLogs f b) (sym told.files) own;
      moments = telling;
    }

    tells_halts : (error : HostError) → (error ≢ Tell → n ≡ 0) → HaltsDeeds b deeds error v w
    tells_halts error only = record {
      done = [];
      rest = deeds;
      all = refl;
      part = n;
      short = short;
      told = told.told ∙ ap (λ (x : List ℕ). x ++ take n line) (sym (append-nil v.told));
      only_tell = only;
      stands = inl still;
      moments = telling;
    }

  -- the host is as it was
  pub as_it_was : (error : HostError) (v w : View) → TellsCrashes v → IsAsItWas v w → HostStands v b → HaltsDeeds b deeds error v w
  as_it_was error v w lawful was h = record {
    done = [];
    rest = deeds;
    all = refl;
    part = 0;
    short = omega arith;
    told = was.told ∙ sym (append-nil v.told) ∙ sym (append-nil (v.told ++ []));
    only_tell = λ other. refl;
    stands = inl (record { reads = subst (λ (f : Files). Stands f b) (sym was.files) h.reads; crash = λ c m. h.crash c (was.may_leave c m) });
    moments = record {
      later = omega (arith, was.moment);
      each = λ c left. here c (lawful.only c (was.left_since v.moment c left));
      before = λ at c le left. inl (was.left_since at c left);
    };
  }
    where
      here : (c : Remains) → v.may_leave c → IsLeftOfDeeds b deeds v.told c
      here c m = left_before b v.told c deeds (lawful.told c m) (h.crash c m)

  pub line_halts : (error : HostError) (v w : View) → TellsCrashes v → HostStands v b → (n : ℕ) × (n ≤ length line) × Tells line n v w → (error ≡ NoMemory → IsAsItWas v w) → (error ≡ Disk → ⊥) → HaltsDeeds b deeds error v w
  line_halts Tell v w lawful h (n, short, told) memory disk = tells_halts n short v w lawful told h Tell (λ other. absurd (other refl))
  line_halts NoMemory v w lawful h some memory disk = as_it_was NoMemory v w lawful (memory refl) h
  line_halts Disk v w lawful h some memory disk = absurd (disk refl)
