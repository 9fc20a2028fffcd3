-- What a run that was told, whole or in part, leaves is what a life leaves.
use Rattle.std.proofs.Common.{◌≡◌, ◌<◌, ◌⊎◌, inl, inr, ⊎_elim, ℕ, zero, suc, List, [], ◌∷◌, ◌++◌, length, take, true, refl, sym, ap, ◌∙◌, subst, arith, append-nil, append_assoc}
use Rattle.std.proofs.lemmas.List.{take_at}
use Rattle.std.specs.Option.{option_map_or}
use Rattle.std.specs.Prelude.{slice_get}
use Rattle.q_books.specs.HostStands.{Between, HostStands, IsLeftOf, Takes}
use Rattle.q_host.proofs.Moments.{leaves_on}
use Rattle.q_entries.specs.Runs.{HaltsRun, IsLeftOfRun, next_book, next_line, PlaysRun, StandsAroundNext}
use Rattle.q_host.specs.View.{LeavesOnly, Remains, View}
use Rattle.q_host.specs.declared.error.HostError.{HostError}
use Rattle.q_laws.specs.Consistency.{IsUsable}
use Rattle.q_laws.specs.Traces.{AreAllowed}
use Rattle.q_lives.specs.Lives.{cut_book, IsEnd, IsLeftBy, IsLife, IsOrderly, Life, life_entries}
use Rattle.q_lives.proofs.Books.{after_is}
use Rattle.q_lives.proofs.LawfulLives.{lives_lawful}
use Rattle.q_lives.proofs.Throughout.{lives_orderly}
use Rattle.q_model.proofs.RunLaws.{after_all-append}
use Rattle.q_model.proofs.CrashLaws.{is_lawful-crash, is_orderly-crash}
use Rattle.q_model.specs.Book.{Book}
use Rattle.q_model.specs.Crashes.{IsCrashOf}
use Rattle.q_model.specs.CutOff.{cut_off}
use Rattle.q_model.specs.Ledger.{Ledger, opening}
use Rattle.q_model.specs.Ids.{are_distinct}
use Rattle.q_model.specs.Orderly.{is_lawful}
use Rattle.q_model.specs.Run.{run, run_of}
use Rattle.q_model.specs.Settings.{Table, World}
use Rattle.q_model.specs.Step.{after, after_all}
use Rattle.q_model.specs.Text.{line, text}
use Rattle.q_model.specs.declared.entry.Entry.{Entry}
use Rattle.q_model.specs.declared.event.LifeEvent.{LifeEvent}
use Rattle.q_model.specs.declared.event.LifeEvent.TheVariants.{Begin}
use Rattle.q_model.specs.declared.event.Mode.{Mode}
use Rattle.q_replay.proofs.SureBooks.{crash_ids, sure_after}
use Rattle.q_replay.specs.LivesLeft.{AreTold, IsLeft, LeavesLives, LeftAt, LifeIsTold}
use Rattle.q_replay.specs.RunEnds.{entries_on}

one_text : (t : Table) (e : Entry) → text t (e ∷ []) ≡ line t e
unfolding text
one_text t e = append-nil (line t e)

no_text : (t : Table) → text t [] ≡ []
unfolding text
no_text t = refl

one_more : (w : World) (l : Ledger) (es : List Entry) (e : Entry) → after_all w l (es ++ e ∷ []) ≡ after w (after_all w l es) e
unfolding after_all
one_more w l es e = after_all-append w l es (e ∷ [])

-- the last entry was cut off
cut_last : (w : World) (l : Ledger) (e : Entry) → cut_off e (after w l e).book ≡ cut_book (after w l e)
cut_last w l e =
    let k : Book = (after w l e).book in
    sym (ap (λ (es : List Entry). option_map_or (λ (x : Entry). cut_off x k) (slice_get es 0) k) (after_is w l e).past)

-- items of a call: none, or a life begins with them
abbrev pub BeginsLife : List LifeEvent → Type 0
BeginsLife [] = Unit {0}
BeginsLife (i ∷ items) = i ≡ Begin

-- a book, or what a crash makes of it
abbrev IsOf : Book → Book → Type 0
IsOf k left = (left ≡ k) ⊎ IsCrashOf k left

module _ (b : Book) (orderly : IsOrderly b) (before : List ℕ) where
  -- ---- a life

  pub by_life : (life : Life) (told : List ℕ) → IsLife b life → LifeIsTold life.world.table (life_entries b life) life.steps before told → IsLeft b before told life.left
  by_life life told is lines = record {
    by = inl (record { life = life; is = is; left_is = refl; lines = lines });
    orderly = lives_orderly b (life ∷ []) orderly (is, tt);
    lawful = λ lawful. lives_lawful b (life ∷ []) orderly.distinct lawful (is, tt);
  }

  module _ (w : World) (mode : Mode) (usable : IsUsable w) (items : List LifeEvent) (fits : AreAllowed w (opening mode b) (Begin ∷ items)) where
    abbrev first : Ledger
    first = opening mode b

    abbrev all : List Entry
    all = run w first (Begin ∷ items)

    -- the life that came to so many of its entries
    abbrev life_to : ℕ → Book → Life
    life_to n left = record { world = w; mode = mode; items = items; count = n; steps = []; left = left }

    entries_to : (done rest : List Entry) (left : Book) → all ≡ done ++ rest → life_entries b (life_to (length done) left) ≡ done
    unfolding run_of
    entries_to done rest left is = ap (take (length done)) is ∙ take_at done rest (length done) refl

    is_life : (done rest : List Entry) (end left : Book) → all ≡ done ++ rest → IsEnd (after_all w first done) end → IsOf end left → IsLife b (life_to (length done) left)
    is_life done rest end left is ends of = record {
      usable = usable;
      fits = fits;
      left = subst (λ (es : List Entry). IsLeftBy (after_all w first es) [] left) (sym (entries_to done rest left is)) (record {
        end = end;
        ends = ends;
        may = refl;
        worked = end;
        works = inl refl;
        leaves = of;
      });
    }

    -- all lines of the first entries were told
    lines_whole : (done rest : List Entry) (left : Book) (told : List ℕ) → all ≡ done ++ rest → told ≡ before ++ text w.table done → AreTold w.table (life_entries b (life_to (length done) left)) before told
    lines_whole done rest left told is told_is = record {
      done = done;
      last = [];
      all = entries_to done rest left is ∙ sym (append-nil done);
      few = omega arith;
      part = 0;
      told_is = told_is ∙ sym (append-nil (before ++ text w.table done));
    }

    -- and some first part of the next one's
    lines_part : (done rest : List Entry) (e : Entry) (part : ℕ) (left : Book) (told : List ℕ) → all ≡ (done ++ e ∷ []) ++ rest → told ≡ (before ++ text w.table done) ++ take part (line w.table e) → AreTold w.table (life_entries b (life_to (length (done ++ e ∷ [])) left)) before told
    lines_part done rest e part left told is told_is = record {
      done = done;
      last = e ∷ [];
      all = entries_to (done ++ e ∷ []) rest left is;
      few = omega arith;
      part = part;
      told_is = told_is ∙ ap (λ (xs : List ℕ). (before ++ text w.table done) ++ take part xs) (sym (one_text w.table e));
    }

    pub life_whole : (done rest : List Entry) (left : Book) (told : List ℕ) → all ≡ done ++ rest → told ≡ before ++ text w.table done → IsOf (after_all w first done).book left → IsLeft b before told left
    life_whole done rest left told is told_is of = by_life (life_to (length done) left) told (is_life done rest (after_all w first done).book left is (inl refl) of) (inl (refl, lines_whole done rest left told is told_is))

    life_part : (done rest : List Entry) (e : Entry) (part : ℕ) (end left : Book) (told : List ℕ) → all ≡ done ++ (e ∷ rest) → told ≡ (before ++ text w.table done) ++ take part (line w.table e) → IsEnd (after w (after_all w first done) e) end → IsOf end left → IsLeft b before told left
    life_part done rest e part end left told is told_is ends of =
        let apart : all ≡ (done ++ e ∷ []) ++ rest = is ∙ sym (append_assoc done (e ∷ []) rest) in
        by_life (life_to (length (done ++ e ∷ [])) left) told (is_life (done ++ e ∷ []) rest end left apart (subst (λ (l : Ledger). IsEnd l end) (sym (one_more w first done e)) ends) of) (inl (refl, lines_part done rest e part left told apart told_is))

    -- a run that was cut off, where Q is what stands for a book
    module _ (Q : Book → Type 0) (told : List ℕ) (done : List Entry) where
      abbrev here : Ledger
      here = after_all w first done

      -- the book that stands, and what is left of it
      abbrev Stood : Type 0
      Stood = (k : Book) × Q k × ((left : Book) → IsOf k left → IsLeft b before told left)

      cut_end : (part : ℕ) → all ≡ done ++ [] → told ≡ (before ++ text w.table done) ++ take part [] → Q here.book → Stood
      cut_end part is told_is q = (here.book, q, λ left of. life_whole done [] left told is (told_is ∙ none part) of)
        where
          none : (part : ℕ) → (before ++ text w.table done) ++ take part [] ≡ before ++ text w.table done
          none zero = append-nil (before ++ text w.table done)
          none (suc n) = append-nil (before ++ text w.table done)

      cut_next : (e : Entry) (rest : List Entry) (part : ℕ) → all ≡ done ++ (e ∷ rest) → told ≡ (before ++ text w.table done) ++ take part (line w.table e) → Q (after w here e).book → Stood
      cut_next e rest part is told_is q = ((after w here e).book, q, λ left of. life_part done rest e part (after w here e).book left told is told_is (inl refl) of)

      pub cut : (rest : List Entry) (part : ℕ) → all ≡ done ++ rest → told ≡ (before ++ text w.table done) ++ take part (next_line w.table rest) → Q here.book ⊎ Q (next_book w here rest) → (0 < part → Q (next_book w here rest)) → Stood
      cut [] part is told_is (inl q) first_disk = cut_end part is told_is q
      cut [] part is told_is (inr q) first_disk = cut_end part is told_is q
      cut (e ∷ rest) zero is told_is (inl q) first_disk = (here.book, q, λ left of. life_whole done (e ∷ rest) left told is (told_is ∙ append-nil (before ++ text w.table done)) of)
      cut (e ∷ rest) (suc n) is told_is (inl q) first_disk = cut_next e rest (suc n) is told_is (first_disk (omega arith))
      cut (e ∷ rest) part is told_is (inr q) first_disk = cut_next e rest part is told_is q

      -- the entry was cut off
      pub cut_loosely : (e : Entry) (rest : List Entry) (part : ℕ) → all ≡ done ++ (e ∷ rest) → told ≡ (before ++ text w.table done) ++ take part (line w.table e) → Q (cut_off e (after w here e).book) → Stood
      cut_loosely e rest part is told_is q = (cut_off e (after w here e).book, q, λ left of. life_part done rest e part (cut_off e (after w here e).book) left told is told_is (inr (cut_last w here e)) of)

-- ---- nothing was done

pub still_orderly : (b left : Book) → IsOrderly b → IsOf b left → IsOrderly left
still_orderly b left orderly (inl is) = subst IsOrderly (sym is) orderly
still_orderly b left orderly (inr crash) = record { distinct = ap are_distinct (crash_ids b left crash) ∙ orderly.distinct; orderly = is_orderly-crash b left crash orderly.orderly }

pub still_lawful : (b left : Book) → IsOf b left → is_lawful b ≡ true → is_lawful left ≡ true
still_lawful b left (inl is) lawful = ap is_lawful is ∙ lawful
still_lawful b left (inr crash) lawful = is_lawful-crash b left crash lawful

pub still_left : (b : Book) → IsOrderly b → (before told : List ℕ) (left : Book) → told ≡ before → IsOf b left → IsLeft b before told left
still_left b orderly before told left is of = record { by = inr (record { told_is = is; book = of }); orderly = still_orderly b left orderly of; lawful = still_lawful b left of }

-- ---- runs

pub leaves_wider : {u v : View} (P Q : Remains → Type 0) → LeavesOnly u v P → ((c : Remains) → P c → Q c) → LeavesOnly u v Q
leaves_wider P Q p f = record {
  later = p.later;
  each = λ c left. f c (p.each c left);
  before = λ t c le left. ⊎_elim (λ was. inl was) (λ new. inr (f c new)) (p.before t c le left);
}

pub crash_of : (b : Book) (before : List ℕ) (c : Remains) (k : Book) → IsLeftOf k c → ((left : Book) → IsOf k left → IsLeft b before c.told left) → LeftAt b before c
crash_of b before c k left says = (left.left, left.stands, sure_after k left.left left.after, says left.left (inr left.after))

module _ (w : World) (mode : Mode) (b : Book) (orderly : IsOrderly b) (usable : IsUsable w) (items : List LifeEvent) (fits : AreAllowed w (opening mode b) (Begin ∷ items)) where
  pub crash_left : (before : List ℕ) (c : Remains) → IsLeftOfRun w (opening mode b) (run w (opening mode b) (Begin ∷ items)) before c → LeftAt b before c
  crash_left before c a =
      let s = cut b orderly before w mode usable items fits (λ k. IsLeftOf k c) c.told a.done a.rest a.part a.all a.told a.book a.disk_first in
      crash_of b before c s.0 s.1 s.2

  played_on : (u v : View) → PlaysRun w (opening mode b) (run w (opening mode b) (Begin ∷ items)) u v → LeavesLives b u v
  played_on u v p =
      let es = run w (opening mode b) (Begin ∷ items) in record {
        at_end = ((after_all w (opening mode b) es).book, p.stands, life_whole b orderly u.told w mode usable items fits es [] (after_all w (opening mode b) es).book v.told (sym (append-nil es)) p.told (inl refl));
        moments = leaves_wider (IsLeftOfRun w (opening mode b) (run w (opening mode b) (Begin ∷ items)) u.told) (LeftAt b u.told) p.moments (crash_left u.told);
      }

  -- a run that was given up
  module _ (error : HostError) (v : View) (before : List ℕ) (done : List Entry) (part : ℕ) where
    abbrev behind : Ledger
    behind = after_all w (opening mode b) done

    abbrev Stands : Type 0
    Stands = (k : Book) × HostStands v k × ((left : Book) → IsOf k left → IsLeft b before v.told left)

    around : (rest : List Entry) → run w (opening mode b) (Begin ∷ items) ≡ done ++ rest → v.told ≡ (before ++ text w.table done) ++ take part (next_line w.table rest) → StandsAroundNext w behind rest error v → (0 < part → HostStands v (next_book w behind rest)) → Stands
    around [] is told h disk = cut b orderly before w mode usable items fits (HostStands v) v.told done [] part is told (inl h) disk
    around (e ∷ rest) is told (inl h) disk = cut b orderly before w mode usable items fits (HostStands v) v.told done (e ∷ rest) part is told (inl h) disk
    around (e ∷ rest) is told (inr (inl h)) disk = cut b orderly before w mode usable items fits (HostStands v) v.told done (e ∷ rest) part is told (inr h) disk
    around (e ∷ rest) is told (inr (inr loose)) disk = cut_loosely b orderly before w mode usable items fits (HostStands v) v.told done e rest part is told loose.1

  halted_on : (error : HostError) (u v : View) → HaltsRun w (opening mode b) (run w (opening mode b) (Begin ∷ items)) error u v → LeavesLives b u v
  halted_on error u v p =
      let s = around error v u.told p.done p.part p.rest p.all p.told p.stands p.disk_first in record {
        at_end = (s.0, s.1, s.2 s.0 (inl refl));
        moments = leaves_wider (IsLeftOfRun w (opening mode b) (run w (opening mode b) (Begin ∷ items)) u.told) (LeftAt b u.told) p.moments (crash_left u.told);
      }

-- no entry was due
module _ (w : World) (mode : Mode) (b : Book) (orderly : IsOrderly b) where
  none_due : (done rest : List Entry) → [] ≡ done ++ rest → (done ≡ []) × (rest ≡ [])
  none_due [] [] is = (refl, refl)
  none_due [] (e ∷ rest) is = absurd cc
  none_due (e ∷ done) rest is = absurd cc

  same_book : (Q : Book → Type 0) (done rest : List Entry) → [] ≡ done ++ rest → Q (after_all w (opening mode b) done).book ⊎ Q (next_book w (after_all w (opening mode b) done) rest) → Q b
  unfolding after_all
  same_book Q [] [] is (inl q) = q
  same_book Q [] [] is (inr q) = q
  same_book Q [] (e ∷ rest) is q = absurd cc
  same_book Q (e ∷ done) rest is q = absurd cc

  same_stands : (error : HostError) (v : View) (done rest : List Entry) → [] ≡ done ++ rest → StandsAroundNext w (after_all w (opening mode b) done) rest error v → HostStands v b
  unfolding after_all
  same_stands error v [] [] is h = h
  same_stands error v [] (e ∷ rest) is h = absurd cc
  same_stands error v (e ∷ done) rest is h = absurd cc

  same_told : (before told : List ℕ) (done rest : List Entry) (part : ℕ) → [] ≡ done ++ rest → told ≡ (before ++ text w.table done) ++ take part (next_line w.table rest) → told ≡ before
  same_told before told [] [] zero is told_is = told_is ∙ append-nil (before ++ text w.table []) ∙ ap (λ xs. before ++ xs) (no_text w.table) ∙ append-nil before
  same_told before told [] [] (suc n) is told_is = told_is ∙ append-nil (before ++ text w.table []) ∙ ap (λ xs. before ++ xs) (no_text w.table) ∙ append-nil before
  same_told before told [] (e ∷ rest) part is told_is = absurd cc
  same_told before told (e ∷ done) rest part is told_is = absurd cc

  none_crash : (before : List ℕ) (c : Remains) → IsLeftOfRun w (opening mode b) [] before c → LeftAt b before c
  none_crash before c a =
      crash_of b before c b (same_book (λ k. IsLeftOf k c) a.done a.rest a.all a.book)
      (λ left of. still_left b orderly before c.told left (same_told before c.told a.done a.rest a.part a.all a.told) of)

  none_played : (u v : View) → PlaysRun w (opening mode b) [] u v → LeavesLives b u v
  none_played u v p = record {
    at_end = (b, same_book (HostStands v) [] [] refl (inl p.stands), still_left b orderly u.told v.told b (p.told ∙ ap (λ xs. u.told ++ xs) (no_text w.table) ∙ append-nil u.told) (inl refl));
    moments = leaves_wider (IsLeftOfRun w (opening mode b) [] u.told) (LeftAt b u.told) p.moments (none_crash u.told);
  }

  none_halted : (error : HostError) (u v : View) → HaltsRun w (opening mode b) [] error u v → LeavesLives b u v
  none_halted error u v p = record {
    at_end = (b, same_stands error v p.done p.rest p.all p.stands, still_left b orderly u.told v.told b (same_told u.told v.told p.done p.rest p.part p.all p.told) (inl refl));
    moments = leaves_wider (IsLeftOfRun w (opening mode b) [] u.told) (LeftAt b u.told) p.moments (none_crash u.told);
  }

-- ---- the items of a call

module _ (w : World) (mode : Mode) (b : Book) (orderly : IsOrderly b) (usable : IsUsable w) where
  pub played_lives : (items : List LifeEvent) (u v : View) → BeginsLife items → AreAllowed w (opening mode b) items → PlaysRun w (opening mode b) (entries_on w mode b items) u v → LeavesLives b u v
  unfolding run
  played_lives [] u v begins fits p = none_played w mode b orderly u v p
  played_lives (i ∷ items) u v begins fits p = begun i begins fits p
    where
      begun : (i : LifeEvent) → i ≡ Begin → AreAllowed w (opening mode b) (i ∷ items) → PlaysRun w (opening mode b) (entries_on w mode b (i ∷ items)) u v → LeavesLives b u v
      begun i is fits p = played_on w mode b orderly usable items (subst (λ (x : LifeEvent). AreAllowed w (opening mode b) (x ∷ items)) is fits) u v (subst (λ (x : LifeEvent). PlaysRun w (opening mode b) (entries_on w mode b (x ∷ items)) u v) is p)

  pub halted_lives : (items : List LifeEvent) (error : HostError) (u v : View) → BeginsLife items → AreAllowed w (opening mode b) items → HaltsRun w (opening mode b) (entries_on w mode b items) error u v → LeavesLives b u v
  unfolding run
  halted_lives [] error u v begins fits p = none_halted w mode b orderly error u v p
  halted_lives (i ∷ items) error u v begins fits p = begun i begins fits p
    where
      begun : (i : LifeEvent) → i ≡ Begin → AreAllowed w (opening mode b) (i ∷ items) → HaltsRun w (opening mode b) (entries_on w mode b (i ∷ items)) error u v → LeavesLives b u v
      begun i is fits p = halted_on w mode b orderly usable items (subst (λ (x : LifeEvent). AreAllowed w (opening mode b) (x ∷ items)) is fits) error u v (subst (λ (x : LifeEvent). HaltsRun w (opening mode b) (entries_on w mode b (x ∷ items)) error u v) is p)

-- ---- behind calls that only read

module _ (b : Book) (orderly : IsOrderly b) where
  still_at : (before : List ℕ) (c : Remains) → Between b b before c → LeftAt b before c
  still_at before c h = ⊎_elim at at h.book
    where
      at : IsLeftOf b c → LeftAt b before c
      at left = crash_of b before c b left (λ k of. still_left b orderly before c.told k h.told of)

  -- nothing was done
  pub still_lives : (u v : View) → Takes b b u v → LeavesLives b u v
  still_lives u v t = record {
    at_end = (b, t.stands, still_left b orderly u.told v.told b t.told (inl refl));
    moments = leaves_wider (Between b b u.told) (LeftAt b u.told) t.moments (still_at u.told);
  }

  -- and then lives were run
  pub lives_behind : (u m v : View) → Takes b b u m → LeavesLives b m v → LeavesLives b u v
  lives_behind u m v t h =
      let (left, stands, is) = h.at_end in record {
        at_end = (left, stands, subst (λ (before : List ℕ). IsLeft b before v.told left) t.told is);
        moments = leaves_on (LeftAt b u.told) t.moments h.moments (still_at u.told) (λ c here. subst (λ (before : List ℕ). LeftAt b before c) t.told here);
      }
