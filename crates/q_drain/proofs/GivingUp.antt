-- A drain that is given up, by what was told and what is still due.
use native.Mathlib.Omega.{arith}
use Rattle.std.proofs.Common.{◌≡◌, ◌≤◌, ℕ, List, [], ◌++◌, length, length-append, take, refl, sym, ap, ◌∙◌, subst, append-nil, append_assoc}
use Rattle.std.proofs.lemmas.Grind.{flat_map-append}
use Rattle.q_books.specs.HostStands.{HostStands, Takes, TellsCrashes}
use Rattle.q_drain.proofs.Rooming.{told_allowed}
use Rattle.q_drain.specs.Drains.{IsOwnRun}
use Rattle.q_drain.specs.GivenUp.{GivesUp}
use Rattle.q_drain.specs.Opened.{GaveUp}
use Rattle.q_drain.specs.Rooms.{HadRoom}
use Rattle.q_drain.specs.Standing.{Outside}
use Rattle.q_drain.specs.Stories.{Story}
use Rattle.q_drain.specs.Told.{event_of, events_of}
use Rattle.q_entries.proofs.Playing.{halts_behind, plays_none, plays_reads, plays_then, Reads}
use Rattle.q_entries.specs.Runs.{HaltsRun, next_book, next_line, PlaysRun, StandsAroundNext}
use Rattle.q_host.specs.View.{View as HostView}
use Rattle.q_host.specs.declared.error.HostError.{HostError}
use Rattle.q_model.proofs.RunLaws.{after_all-append}
use Rattle.q_model.specs.declared.entry.Entry.{Entry}
use Rattle.q_model.specs.Ledger.{Ledger}
use Rattle.q_model.specs.Settings.{Table, World}
use Rattle.q_model.specs.Step.{after_all}
use Rattle.q_model.specs.Text.{line, text}

pub events_added : (es fs : List Entry) → events_of (es ++ fs) ≡ events_of es ++ events_of fs
events_added es fs = flat_map-append event_of es fs

-- ---- runs

pub none_after : (w : World) (l : Ledger) → after_all w l [] ≡ l
unfolding after_all
none_after w l = refl

text_added : (t : Table) (es fs : List Entry) → text t (es ++ fs) ≡ text t es ++ text t fs
unfolding text
text_added t es fs = flat_map-append (line t) es fs

-- nothing but looks
pub plays_looked : (w : World) (k : Ledger) (u v : HostView) → TellsCrashes u → HostStands u k.book → Takes k.book k.book u v → PlaysRun w k [] u v
plays_looked w k u v lawful host takes = plays_reads w k [] u u v (plays_none w k u lawful host) (subst (λ (m : Ledger). Reads m.book u v) (sym (none_after w k)) takes)

-- a run between looks
pub plays_between : (w : World) (k : Ledger) (es : List Entry) (u v x y : HostView) → TellsCrashes u → HostStands u k.book → Takes k.book k.book u v → PlaysRun w k es v x → Takes (after_all w k es).book (after_all w k es).book x y → PlaysRun w k es u y
plays_between w k es u v x y lawful host before p behind =
    plays_reads w k es u x y (plays_then w k [] es u v x (plays_looked w k u v lawful host before) (subst (λ (m : Ledger). PlaysRun w m es v x) (sym (none_after w k)) p)) behind

-- one that was given up behind another
pub halts_after : (w : World) (k : Ledger) (es fs all : List Entry) (m : Ledger) (error : HostError) (u v x : HostView) → all ≡ es ++ fs → m ≡ after_all w k es → PlaysRun w k es u v → (q : HaltsRun w m fs error v x)
    → (h : HaltsRun w k all error u x) × (h.done ≡ es ++ q.done)
halts_after w k es fs all m error u v x parts is p q =
    let there : after_all w m q.done ≡ after_all w k (es ++ q.done) = ap (λ (n : Ledger). after_all w n q.done) is ∙ sym (after_all-append w k es q.done) in
    let behind : HaltsRun w k all error u x = subst (λ (xs : List Entry). HaltsRun w k xs error u x) (sym parts) (halts_behind w k es fs error u v x p (subst (λ (n : Ledger). HaltsRun w n fs error v x) is q)) in (
      record {
        done = es ++ q.done;
        rest = q.rest;
        all = parts ∙ ap (λ (xs : List Entry). es ++ xs) q.all ∙ sym (append_assoc es q.done q.rest);
        part = q.part;
        short = q.short;
        told = q.told ∙ ap (λ (xs : List ℕ). xs ++ take q.part (next_line w.table q.rest))
            (ap (λ (xs : List ℕ). xs ++ text w.table q.done) p.told ∙ append_assoc u.told (text w.table es) (text w.table q.done) ∙ ap (λ (xs : List ℕ). u.told ++ xs) (sym (text_added w.table es q.done)));
        only_tell = q.only_tell;
        stands = subst (λ (n : Ledger). StandsAroundNext w n q.rest error x) there q.stands;
        disk_first = λ some. subst (λ (n : Ledger). HostStands x (next_book w n q.rest)) there (q.disk_first some);
        moments = behind.moments;
      },
      refl,
    )

-- ---- what is due

-- of a run of more entries some were told
pub gives_up_part : (w : World) (l : Ledger) (a z : Outside) (u v : HostView) (error : HostError) (s r : Story) (es : List Entry) → IsOwnRun w l (s.told ++ es) → HadRoom w l (s.told ++ es) → length (events_of es) ≤ 1
    → (h : HaltsRun w (after_all w l s.told) es error u v) → r.told ≡ s.told ++ h.done → GaveUp w l a z r → GivesUp w l a z u v error s
gives_up_part w l a z u v error s r es own room few h told gave =
    let parts = ap (λ (xs : List Entry). length (events_of xs)) h.all in
    let split = ap length (events_added h.done h.rest) in
    let sum = length-append (events_of h.done) (events_of h.rest) in
    record {
      heard = events_of (s.told ++ es);
      entries_due = es;
      due = own;
      fits = told_allowed w l (s.told ++ es) own room;
      halts = h;
      story = r;
      told = told;
      others = events_of h.rest;
      few = omega (arith, few, parts, split, sum);
      names = ap (λ (xs : List Entry). events_of (s.told ++ xs)) h.all
          ∙ ap events_of (sym (append_assoc s.told h.done h.rest))
          ∙ events_added (s.told ++ h.done) h.rest
          ∙ ap (λ (xs : List Entry). events_of xs ++ events_of h.rest) (sym told);
      gave_up = gave;
    }

-- all were told, and more was tried behind them
pub gives_up_whole : (w : World) (l : Ledger) (a z : Outside) (u v : HostView) (error : HostError) (s r : Story) (es : List Entry) → IsOwnRun w l (s.told ++ es)
    → PlaysRun w (after_all w l s.told) es u v → r.told ≡ s.told ++ es → GaveUp w l a z r → GivesUp w l a z u v error s
gives_up_whole w l a z u v error s r es own p told gave = record {
  heard = events_of (s.told ++ es);
  entries_due = es;
  due = own;
  fits = told_allowed w l (s.told ++ es) own (subst (HadRoom w l) told gave.room);
  halts = record {
    done = es;
    rest = [];
    all = sym (append-nil es);
    part = 0;
    short = omega arith;
    told = p.told ∙ sym (append-nil (u.told ++ text w.table es));
    only_tell = λ other. refl;
    stands = p.stands;
    disk_first = λ some. absurd (omega arith);
    moments = p.moments;
  };
  story = r;
  told = told;
  others = [];
  few = omega arith;
  names = ap events_of (sym told) ∙ sym (append-nil (events_of r.told));
  gave_up = gave;
}

-- nothing more was told
pub gives_up_looking : (w : World) (l : Ledger) (a z : Outside) (u v : HostView) (error : HostError) (s r : Story) → IsOwnRun w l s.told → TellsCrashes u → HostStands u (after_all w l s.told).book
    → Takes (after_all w l s.told).book (after_all w l s.told).book u v → r.told ≡ s.told → GaveUp w l a z r → GivesUp w l a z u v error s
gives_up_looking w l a z u v error s r own lawful host takes told gave =
    gives_up_whole w l a z u v error s r [] (subst (IsOwnRun w l) (sym (append-nil s.told)) own) (plays_looked w (after_all w l s.told) u v lawful host takes) (told ∙ sym (append-nil s.told)) gave

-- more had been told before
pub gives_up_later : (w : World) (l : Ledger) (a z : Outside) (u v x : HostView) (error : HostError) (s r : Story) (es : List Entry) → r.told ≡ s.told ++ es → PlaysRun w (after_all w l s.told) es u v → GivesUp w l a z v x error r → GivesUp w l a z u x error s
gives_up_later w l a z u v x error s r es told p g =
    let k : Ledger = after_all w l s.told in
    let there : after_all w l r.told ≡ after_all w k es = ap (after_all w l) told ∙ after_all-append w l s.told es in
    let h = halts_after w k es g.entries_due (es ++ g.entries_due) (after_all w l r.told) error u v x refl there p g.halts in
    record {
      heard = g.heard;
      entries_due = es ++ g.entries_due;
      fits = g.fits;
      due = sym (append_assoc s.told es g.entries_due) ∙ ap (λ (xs : List Entry). xs ++ g.entries_due) (sym told) ∙ g.due;
      halts = h.0;
      story = g.story;
      told = g.told ∙ ap (λ (xs : List Entry). xs ++ (g.halts).done) told ∙ append_assoc s.told es (g.halts).done ∙ ap (λ (xs : List Entry). s.told ++ xs) (sym h.1);
      others = g.others;
      few = g.few;
      names = g.names;
      gave_up = g.gave_up;
    }
