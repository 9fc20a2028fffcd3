-- Calls on one spool ran lives, one on what the other left.
use Rattle.std.proofs.Common.{◌≡◌, ◌⊎◌, inl, inr, ℕ, Bool, true, false, List, [], ◌∷◌, ◌++◌, take, refl, sym, ◌∙◌, subst, append_assoc, append-nil}
use Rattle.q_books.specs.HostStands.{HostStands, IsLeftOf}
use Rattle.q_host.specs.View.{Remains, View}
use Rattle.q_lives.specs.Lives.{AreLives, IsLeftBy, IsLife, IsOrderly, last_book, ledger_of, Life, life_entries}
use Rattle.q_model.specs.Book.{Book}
use Rattle.q_model.specs.Crashes.{IsCrashOf}
use Rattle.q_model.specs.FilesStand.{Stands}
use Rattle.q_model.specs.Settings.{Table}
use Rattle.q_model.specs.SpoolFiles.{Files}
use Rattle.q_model.specs.Text.{text}
use Rattle.q_model.specs.ToolSteps.{ToolStep}
use Rattle.q_model.specs.declared.entry.Entry.{Entry}
use Rattle.q_replay.proofs.LivesLeft.{still_orderly}
use Rattle.q_replay.proofs.SureBooks.{sure_after, sure_again}
use Rattle.q_replay.specs.LivesLeft.{AreTold, AreToldThenTools, IsLeft, LeavesLives, LeftAsItWas, LeftByLife, LifeIsTold}
use Rattle.q_replay.specs.Spools.{AreCalls, AreToldBy, Calls, CameToEnd, Course, host_behind, none, OnlyLooks, Seen, seen, ServesBook, then, WasCutOff}

-- a book, or what a crash makes of it
abbrev IsOf : Book → Book → Type 0
IsOf k left = (left ≡ k) ⊎ IsCrashOf k left

-- a crash behind a crash takes nothing more
crash_on : (a b c : Book) → IsOf a b → IsOf b c → IsOf a c
crash_on a b c h (inl same) = subst (IsOf a) (sym same) h
crash_on a b c (inl same) (inr crash) = inr (subst (λ (x : Book). IsCrashOf x c) same crash)
crash_on a b c (inr first) (inr crash) = inr (subst (IsCrashOf a) (sym (sure_again a b c first crash)) first)

same_behind : (xs ys zs : List ℕ) → xs ++ ys ≡ xs ++ zs → ys ≡ zs
same_behind [] ys zs h = h
same_behind (x ∷ xs) ys zs h = same_behind xs ys zs cc

-- ---- the next call

left_found : (b : Book) (c d : Remains) → d.files ≡ c.files → IsLeftOf b c → IsLeftOf b d
left_found b c d same h = record { left = h.left; after = h.after; stands = subst (λ (f : Files). Stands f h.left) (sym same) h.stands }

module _ (u : View) (c : Seen) where
  found_so : (b : Book) → CameToEnd u c → HostStands c.behind b → HostStands c.next b
  found_so b so h = record {
    reads = subst (λ (f : Files). Stands f b) (sym so.files) h.reads;
    crash = λ d may.
        let e = so.crash d may in
        left_found b e.0 d e.2 (h.crash e.0 e.1);
  }

  found_cut : (b : Book) (cut : WasCutOff u c) → IsCrashOf b b → Stands cut.remains.files b → HostStands c.next b
  found_cut b cut sure stands = record {
    reads = subst (λ (f : Files). Stands f b) (sym cut.files) stands;
    crash = λ d may. record { left = b; after = sure; stands = subst (λ (f : Files). Stands f b) (sym (cut.crash d may)) stands };
  }

  -- what it left, by what it told
  pub record Found (b : Book) : Type 0 where
    pub left : Book
    pub stands : HostStands c.next left
    pub told : List ℕ
    pub told_is : told ≡ u.told ++ c.told
    pub is : IsLeft b u.told told left

  found : (b : Book) → LeavesLives b u c.behind → CameToEnd u c ⊎ WasCutOff u c → Found b
  found b leaves (inl so) =
      let (left, stands, is) = leaves.at_end in
      record { left = left; stands = found_so left so stands; told = (c.behind).told; told_is = so.told; is = is }
  found b leaves (inr cut) =
      let (left, stands, sure, is) = leaves.moments.each cut.remains cut.left in
      record { left = left; stands = found_cut left cut sure stands; told = (cut.remains).told; told_is = cut.told; is = is }

  -- a call that looked
  pub record Looked (b : Book) : Type 0 where
    pub left : Book
    pub of : IsOf b left
    pub stands : HostStands c.next left

  looked : (b : Book) → OnlyLooks b u c.behind → CameToEnd u c ⊎ WasCutOff u c → Looked b
  looked b looks (inl so) = record { left = b; of = inl refl; stands = found_so b so looks.at_end }
  looked b looks (inr cut) =
      let h = looks.moments.each cut.remains cut.left in
      record { left = h.left; of = inr h.after; stands = found_cut h.left cut (sure_after b h.left h.after) h.stands }

-- ---- the lives

pub record RanLives {H : Type 0} (view : H → View) (b : Book) (h : H) (cs : Calls H) : Type 0 where
  pub first : Book
  pub begins : IsOf b first
  pub lives : List Life
  pub are : AreLives first lives
  pub told : AreToldBy first lives cs
  pub left : HostStands (view (host_behind h cs)) (last_book first lives)

still_good : (b left : Book) → IsOrderly b → IsOf b left → IsOrderly left
still_good b left orderly of = still_orderly b left orderly of

told_here : (table : Table) (es : List Entry) (before told more : List ℕ) → told ≡ before ++ more → AreTold table es before told → AreTold table es [] more
told_here table es before told more is h = record {
  done = h.done;
  last = h.last;
  all = h.all;
  few = h.few;
  part = h.part;
  told_is = same_behind before more (([] ++ text table h.done) ++ take h.part (text table h.last)) (sym is ∙ h.told_is ∙ append_assoc before (text table h.done) (take h.part (text table h.last)));
}

told_then_tools_here : (table : Table) (es : List Entry) (steps : List ToolStep) (before told more : List ℕ) → told ≡ before ++ more → AreToldThenTools table es steps before told → AreToldThenTools table es steps [] more
told_then_tools_here table es steps before told more is h = record {
  by_tools = h.by_tools;
  tools = h.tools;
  told_is = same_behind before more (([] ++ text table es) ++ h.by_tools) (sym is ∙ h.told_is ∙ append_assoc before (text table es) h.by_tools);
}

life_told_here : (table : Table) (es : List Entry) (steps : List ToolStep) (before told more : List ℕ) → told ≡ before ++ more → LifeIsTold table es steps before told → LifeIsTold table es steps [] more
life_told_here table es steps before told more is (inl (idle, h)) = inl (idle, told_here table es before told more is h)
life_told_here table es steps before told more is (inr h) = inr (told_then_tools_here table es steps before told more is h)

-- a life may leave what a crash makes of what it left
life_again : (b : Book) (life : Life) (left : Book) → IsLife b life → IsOf life.left left → IsLife b (record life { left = left })
life_again b life left is of = record { usable = is.usable; fits = is.fits; left = on is.left of }
  where
    on : IsLeftBy (ledger_of b life) life.steps life.left → IsOf life.left left → IsLeftBy (ledger_of b life) life.steps left
    on h of = record { end = h.end; ends = h.ends; may = h.may; worked = h.worked; works = h.works; leaves = crash_on h.worked life.left left h.leaves of }

module _ {H : Type 0} (view : H → View) (b : Book) (h : H) (c : Course H) (cs : Calls H) where
  abbrev u : View
  u = view h

  abbrev Ends : Type 0
  Ends = CameToEnd u (seen view c) ⊎ WasCutOff u (seen view c)

  -- what follows what was left
  silent_on : (left : Book) → IsOf b left → (c.runs ≡ false) ⊎ (c.told ≡ []) → RanLives view left c.next cs → RanLives view b h (then c cs)
  silent_on left of silent ran = record {
    first = ran.first;
    begins = crash_on b left ran.first of ran.begins;
    lives = ran.lives;
    are = ran.are;
    told = inl (silent, ran.told);
    left = ran.left;
  }

  life_on : (told : List ℕ) → told ≡ u.told ++ c.told → (left : Book) → LeftByLife b u.told told left → RanLives view left c.next cs → RanLives view b h (then c cs)
  life_on told told_is left by ran =
      let life = by.life in
      let of : IsOf life.left ran.first = subst (λ (x : Book). IsOf x ran.first) (sym by.left_is) ran.begins in
      let here = record life { left = ran.first } in
      record {
        first = b;
        begins = inl refl;
        lives = here ∷ ran.lives;
        are = (life_again b life ran.first by.is of, ran.are);
        told = inr (here, ran.lives, refl, life_told_here life.world.table (life_entries b life) life.steps u.told told c.told told_is by.lines, ran.told);
        left = ran.left;
      }

  found_on : Found u (seen view c) b → ((left : Book) → HostStands (view c.next) left → IsOrderly left → RanLives view left c.next cs) → RanLives view b h (then c cs)
  found_on f rest = by_either f.is.by (rest f.left f.stands f.is.orderly)
    where
      by_either : LeftByLife b u.told f.told f.left ⊎ LeftAsItWas b u.told f.told f.left → RanLives view f.left c.next cs → RanLives view b h (then c cs)
      by_either (inl life) ran = life_on f.told f.told_is f.left life ran
      by_either (inr still) ran = silent_on f.left still.book (inr (same_behind u.told c.told [] (sym f.told_is ∙ still.told_is ∙ sym (append-nil u.told)))) ran

  served_on : (runs : Bool) → c.runs ≡ runs → IsOrderly b → ServesBook runs b u (view c.behind) → Ends → ((left : Book) → HostStands (view c.next) left → IsOrderly left → RanLives view left c.next cs) → RanLives view b h (then c cs)
  served_on true is orderly serves ends rest = found_on (found u (seen view c) b serves ends) rest
  served_on false is orderly serves ends rest =
      let s = looked u (seen view c) b serves ends in
      silent_on s.left s.of (inl is) (rest s.left s.stands (still_good b s.left orderly s.of))

pub ran_lives : {H : Type 0} (view : H → View) (b : Book) (h : H) (cs : Calls H) → HostStands (view h) b → IsOrderly b → AreCalls view h cs → RanLives view b h cs
ran_lives view b h none stands orderly are = record { first = b; begins = inl refl; lives = []; are = tt; told = refl; left = stands }
ran_lives view b h (then c cs) stands orderly are =
    served_on view b h c cs c.runs refl orderly (are.0 b stands orderly.orderly) are.1 (λ left stood good. ran_lives view left c.next cs stood good are.2)

-- the first book of the lives
pub first_orderly : (b first : Book) → IsOrderly b → IsOf b first → IsOrderly first
first_orderly b first orderly of = still_good b first orderly of
