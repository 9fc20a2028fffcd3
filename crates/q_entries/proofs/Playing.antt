-- Runs go on: one entry more, or one run behind another.
use Rattle.std.proofs.Common.{◌≡◌, ◌<◌, ◌≤◌, ◌⊎◌, inl, inr, ⊎_elim, ℕ, List, [], ◌∷◌, ◌++◌, length, take, refl, sym, ap, ◌∙◌, subst, arith, append-nil, append_assoc}
use Rattle.std.proofs.lemmas.Grind.{flat_map-append}
use Rattle.q_model.specs.declared.entry.Entry.{Entry}
use Rattle.q_model.specs.Book.{Book}
use Rattle.q_model.specs.Ledger.{Ledger}
use Rattle.q_model.specs.Settings.{Table, World}
use Rattle.q_model.specs.Step.{after, after_all}
use Rattle.q_model.specs.Text.{line, text}
use Rattle.q_model.proofs.RunLaws.{after_all-append}
use Rattle.q_host.specs.View.{LeavesOnly, Remains, View}
use Rattle.q_host.specs.declared.error.HostError.{HostError}
use Rattle.q_host.proofs.Moments.{leaves_here, leaves_on}
use Rattle.q_books.specs.HostStands.{Between, HostStands, IsLeftOf, OwnLogs, Takes, TellsCrashes}
use Rattle.q_entries.specs.Entries.{DoesEntry, IsWithinEntry, StandsAround, StopsEntry}
use Rattle.q_entries.specs.Runs.{HaltsRun, IsLeftOfRun, next_book, next_line, PlaysRun, StandsAroundNext}

text-append : (t : Table) (es fs : List Entry) → text t (es ++ fs) ≡ text t es ++ text t fs
unfolding text
text-append t es fs = flat_map-append (line t) es fs

text-one : (t : Table) (e : Entry) → text t (e ∷ []) ≡ line t e
unfolding text
text-one t e = append-nil (line t e)

text-none : (t : Table) → text t [] ≡ []
unfolding text
text-none t = refl

after_all-one : (w : World) (l : Ledger) (es : List Entry) (e : Entry) → after_all w l (es ++ e ∷ []) ≡ after w (after_all w l es) e
unfolding after_all
after_all-one w l es e = after_all-append w l es (e ∷ [])

after_all-none : (w : World) (l : Ledger) → after_all w l [] ≡ l
unfolding after_all
after_all-none w l = refl

none_of : (n : ℕ) → n ≤ 0 → n ≡ 0
none_of n h = omega (arith, h)

-- ---- what a crash leaves

module _ (w : World) (l : Ledger) (before : List ℕ) (c : Remains) where
  -- of a run that goes on
  allowed_more : (es fs : List Entry) → IsLeftOfRun w l es before c → IsLeftOfRun w l (es ++ fs) before c
  allowed_more es fs a = by a.rest fs a.all a.short a.told a.book a.disk_first
    where
      by : (rest more : List Entry) → es ≡ a.done ++ rest → a.part ≤ length (next_line w.table rest) → c.told ≡ (before ++ text w.table a.done) ++ take a.part (next_line w.table rest)
          → IsLeftOf (after_all w l a.done).book c ⊎ IsLeftOf (next_book w (after_all w l a.done) rest) c → (0 < a.part → IsLeftOf (next_book w (after_all w l a.done) rest) c) → IsLeftOfRun w l (es ++ more) before c
      by [] more all short told book first = record {
        done = a.done;
        rest = more;
        all = ap (λ (xs : List Entry). xs ++ more) (all ∙ append-nil a.done);
        part = 0;
        short = omega arith;
        told = told ∙ ap (λ (n : ℕ). (before ++ text w.table a.done) ++ take n []) (none_of a.part short);
        book = inl (either book);
        disk_first = λ some. absurd (omega arith);
      }
        where
          either : {P : Type 0} → P ⊎ P → P
          either (inl h) = h
          either (inr h) = h
      by (e ∷ rest) more all short told book first = record {
        done = a.done;
        rest = e ∷ (rest ++ more);
        all = ap (λ (xs : List Entry). xs ++ more) all ∙ append_assoc a.done (e ∷ rest) more;
        part = a.part;
        short = short;
        told = told;
        book = book;
        disk_first = first;
      }

  -- within the next entry
  allowed_next : (es : List Entry) (e : Entry) (k : Book) → k ≡ (after w (after_all w l es) e).book → IsWithinEntry w.table e (after_all w l es).book k (before ++ text w.table es) c → IsLeftOfRun w l (es ++ e ∷ []) before c
  allowed_next es e k is p = record {
    done = es;
    rest = e ∷ [];
    all = refl;
    part = p.part;
    short = p.short;
    told = p.told;
    book = subst (λ (b : Book). IsLeftOf (after_all w l es).book c ⊎ IsLeftOf b c) is p.book;
    disk_first = λ some. subst (λ (b : Book). IsLeftOf b c) is (p.disk_first some);
  }

  -- of a run behind another
  allowed_behind : (es fs : List Entry) → IsLeftOfRun w (after_all w l es) fs (before ++ text w.table es) c → IsLeftOfRun w l (es ++ fs) before c
  allowed_behind es fs a =
      let there : after_all w (after_all w l es) a.done ≡ after_all w l (es ++ a.done) = sym (after_all-append w l es a.done) in
      record {
        done = es ++ a.done;
        rest = a.rest;
        all = ap (λ (xs : List Entry). es ++ xs) a.all ∙ sym (append_assoc es a.done a.rest);
        part = a.part;
        short = a.short;
        told = a.told ∙ ap (λ (xs : List ℕ). xs ++ take a.part (next_line w.table a.rest)) (append_assoc before (text w.table es) (text w.table a.done) ∙ ap (λ (xs : List ℕ). before ++ xs) (sym (text-append w.table es a.done)));
        book = subst (λ (m : Ledger). IsLeftOf m.book c ⊎ IsLeftOf (next_book w m a.rest) c) there a.book;
        disk_first = λ some. subst (λ (m : Ledger). IsLeftOf (next_book w m a.rest) c) there (a.disk_first some);
      }

-- ---- runs

leaves_wider : (P R : Remains → Type 0) (u v : View) → LeavesOnly u v P → ((c : Remains) → P c → R c) → LeavesOnly u v R
leaves_wider P R u v p step = record {
  later = p.later;
  each = λ c left. step c (p.each c left);
  before = λ at c le left. ⊎_elim (λ was. inl was) (λ h. inr (step c h)) (p.before at c le left);
}

-- nothing of the next entry was done
pub stands_before : (w : World) (l : Ledger) (es : List Entry) (error : HostError) (v : View) → HostStands v l.book → StandsAroundNext w l es error v
stands_before w l [] error v h = h
stands_before w l (e ∷ es) error v h = inl h

-- no entry
pub plays_none : (w : World) (l : Ledger) (u : View) → TellsCrashes u → HostStands u l.book → PlaysRun w l [] u u
plays_none w l u lawful h =
    let same : after_all w l [] ≡ l = after_all-none w l in
    let told : u.told ≡ u.told ++ text w.table [] = sym (append-nil u.told) ∙ ap (λ (xs : List ℕ). u.told ++ xs) (sym (text-none w.table)) in
    record {
      told = told;
      stands = subst (λ (m : Ledger). HostStands u m.book) (sym same) h;
      logs = λ own. subst (λ (m : Ledger). OwnLogs u.files m.book) (sym same) own;
      moments = leaves_here (IsLeftOfRun w l [] u.told) u lawful.only (λ c may. record {
        done = [];
        rest = [];
        all = refl;
        part = 0;
        short = omega arith;
        told = lawful.told c may ∙ told ∙ sym (append-nil (u.told ++ text w.table []));
        book = inl (subst (λ (m : Ledger). IsLeftOf m.book c) (sym same) (h.crash c may));
        disk_first = λ some. absurd (omega arith);
      });
    }

-- one entry more
pub plays_more : (w : World) (l : Ledger) (es : List Entry) (e : Entry) (k : Book) (u v x : View) → k ≡ (after w (after_all w l es) e).book → PlaysRun w l es u v → DoesEntry w.table e (after_all w l es).book k v x → PlaysRun w l (es ++ e ∷ []) u x
plays_more w l es e k u v x is p d =
    let there : k ≡ (after_all w l (es ++ e ∷ [])).book = is ∙ ap (λ (m : Ledger). m.book) (sym (after_all-one w l es e)) in
    record {
      told = d.told ∙ ap (λ (xs : List ℕ). xs ++ line w.table e) p.told ∙ append_assoc u.told (text w.table es) (line w.table e)
          ∙ ap (λ (xs : List ℕ). u.told ++ xs) (ap (λ (xs : List ℕ). text w.table es ++ xs) (sym (text-one w.table e)) ∙ sym (text-append w.table es (e ∷ [])));
      stands = subst (HostStands x) there d.stands;
      logs = λ own. subst (λ (b : Book). OwnLogs x.files b) there (d.logs (p.logs own));
      moments = leaves_on (IsLeftOfRun w l (es ++ e ∷ []) u.told) p.moments d.moments (λ c a. allowed_more w l u.told c es (e ∷ []) a)
          (λ c a. allowed_next w l u.told c es e k is (subst (λ (xs : List ℕ). IsWithinEntry w.table e (after_all w l es).book k xs c) p.told a));
    }

-- the next entry was given up
pub plays_halts : (w : World) (l : Ledger) (es : List Entry) (e : Entry) (more : List Entry) (k : Book) (error : HostError) (u v x : View) → k ≡ (after w (after_all w l es) e).book → PlaysRun w l es u v → StopsEntry w.table e (after_all w l es).book k error v x → HaltsRun w l (es ++ e ∷ more) error u x
plays_halts w l es e more k error u v x is p d = record {
  done = es;
  rest = e ∷ more;
  all = refl;
  part = d.part;
  short = d.short;
  told = d.told ∙ ap (λ (xs : List ℕ). xs ++ take d.part (line w.table e)) p.told;
  only_tell = d.only_tell;
  stands = subst (λ (b : Book). StandsAround e (after_all w l es).book b error x) is d.stands;
  disk_first = λ some. subst (HostStands x) is (d.disk_first some);
  moments = leaves_on (IsLeftOfRun w l (es ++ e ∷ more) u.told) p.moments d.moments (λ c a. allowed_more w l u.told c es (e ∷ more) a)
      (λ c a. subst (λ (xs : List Entry). IsLeftOfRun w l xs u.told c) (append_assoc es (e ∷ []) more) (allowed_more w l u.told c (es ++ e ∷ []) more (allowed_next w l u.told c es e k is (subst (λ (xs : List ℕ). IsWithinEntry w.table e (after_all w l es).book k xs c) p.told a))));
}

-- one run behind another
pub plays_then : (w : World) (l : Ledger) (es fs : List Entry) (u v x : View) → PlaysRun w l es u v → PlaysRun w (after_all w l es) fs v x → PlaysRun w l (es ++ fs) u x
plays_then w l es fs u v x p q =
    let there : after_all w (after_all w l es) fs ≡ after_all w l (es ++ fs) = sym (after_all-append w l es fs) in
    record {
      told = q.told ∙ ap (λ (xs : List ℕ). xs ++ text w.table fs) p.told ∙ append_assoc u.told (text w.table es) (text w.table fs) ∙ ap (λ (xs : List ℕ). u.told ++ xs) (sym (text-append w.table es fs));
      stands = subst (λ (m : Ledger). HostStands x m.book) there q.stands;
      logs = λ own. subst (λ (m : Ledger). OwnLogs x.files m.book) there (q.logs (p.logs own));
      moments = leaves_on (IsLeftOfRun w l (es ++ fs) u.told) p.moments q.moments (λ c a. allowed_more w l u.told c es fs a)
          (λ c a. allowed_behind w l u.told c es fs (subst (λ (xs : List ℕ). IsLeftOfRun w (after_all w l es) fs xs c) p.told a));
    }

-- a run that was given up behind another
pub halts_behind : (w : World) (l : Ledger) (es fs : List Entry) (error : HostError) (u v x : View) → PlaysRun w l es u v → HaltsRun w (after_all w l es) fs error v x → HaltsRun w l (es ++ fs) error u x
halts_behind w l es fs error u v x p q =
    let there : after_all w (after_all w l es) q.done ≡ after_all w l (es ++ q.done) = sym (after_all-append w l es q.done) in
    record {
      done = es ++ q.done;
      rest = q.rest;
      all = ap (λ (xs : List Entry). es ++ xs) q.all ∙ sym (append_assoc es q.done q.rest);
      part = q.part;
      short = q.short;
      told = q.told ∙ ap (λ (xs : List ℕ). xs ++ take q.part (next_line w.table q.rest)) (ap (λ (xs : List ℕ). xs ++ text w.table q.done) p.told ∙ append_assoc u.told (text w.table es) (text w.table q.done) ∙ ap (λ (xs : List ℕ). u.told ++ xs) (sym (text-append w.table es q.done)));
      only_tell = q.only_tell;
      stands = subst (λ (m : Ledger). StandsAroundNext w m q.rest error x) there q.stands;
      disk_first = λ some. subst (λ (m : Ledger). HostStands x (next_book w m q.rest)) there (q.disk_first some);
      moments = leaves_on (IsLeftOfRun w l (es ++ fs) u.told) p.moments q.moments (λ c a. allowed_more w l u.told c es fs a)
          (λ c a. allowed_behind w l u.told c es fs (subst (λ (xs : List ℕ). IsLeftOfRun w (after_all w l es) fs xs c) p.told a));
    }

-- ---- files that are looked at

-- nothing is told and no book changes
abbrev pub Reads : Book → View → View → Type 0
Reads b u v = Takes b b u v

pub reads_then : (b : Book) (u v x : View) → Reads b u v → Reads b v x → Reads b u x
reads_then b u v x p q = record {
  told = q.told ∙ p.told;
  stands = q.stands;
  logs = λ own. q.logs (p.logs own);
  moments = leaves_on (Between b b u.told) p.moments q.moments (λ c a. a) (λ c a. record { told = a.told ∙ p.told; book = a.book });
}

-- files were looked at behind a run
pub plays_reads : (w : World) (l : Ledger) (es : List Entry) (u v x : View) → PlaysRun w l es u v → Reads (after_all w l es).book v x → PlaysRun w l es u x
plays_reads w l es u v x p q = record {
  told = q.told ∙ p.told;
  stands = q.stands;
  logs = λ own. q.logs (p.logs own);
  moments = leaves_on (IsLeftOfRun w l es u.told) p.moments q.moments (λ c a. a) (λ c a. record {
    done = es;
    rest = [];
    all = sym (append-nil es);
    part = 0;
    short = omega arith;
    told = a.told ∙ p.told ∙ sym (append-nil (u.told ++ text w.table es));
    book = a.book;
    disk_first = λ some. absurd (omega arith);
  });
}

-- a run that goes no further
pub plays_given_up : (w : World) (l : Ledger) (es more : List Entry) (error : HostError) (u v : View) → PlaysRun w l es u v → HaltsRun w l (es ++ more) error u v
plays_given_up w l es more error u v p = record {
  done = es;
  rest = more;
  all = refl;
  part = 0;
  short = omega arith;
  told = p.told ∙ sym (append-nil (u.told ++ text w.table es));
  only_tell = λ other. refl;
  stands = stands_before w (after_all w l es) more error v p.stands;
  disk_first = λ some. absurd (omega arith);
  moments = leaves_wider (IsLeftOfRun w l es u.told) (IsLeftOfRun w l (es ++ more) u.told) u v p.moments (λ c a. allowed_more w l u.told c es more a);
}

-- no file was looked at
pub reads_none : (b : Book) (u : View) → TellsCrashes u → HostStands u b → Reads b u u
reads_none b u lawful h = record {
  told = refl;
  stands = h;
  logs = λ own. own;
  moments = leaves_here (Between b b u.told) u lawful.only (λ c may. record { told = lawful.told c may; book = inl (h.crash c may) });
}

-- files were looked at before an entry
pub does_behind : (t : Table) (e : Entry) (b k : Book) (u v x : View) → Reads b u v → DoesEntry t e b k v x → DoesEntry t e b k u x
does_behind t e b k u v x p q = record {
  told = q.told ∙ ap (λ (xs : List ℕ). xs ++ line t e) p.told;
  stands = q.stands;
  logs = λ own. q.logs (p.logs own);
  moments = leaves_on (IsWithinEntry t e b k u.told) p.moments q.moments (λ c a. before_entry c a) (λ c a. subst (λ (xs : List ℕ). IsWithinEntry t e b k xs c) p.told a);
}
  where
    before_entry : (c : Remains) → Between b b u.told c → IsWithinEntry t e b k u.told c
    before_entry c a = record { part = 0; short = omega arith; told = a.told ∙ sym (append-nil u.told); book = inl (⊎_elim (λ h. h) (λ h. h) a.book); disk_first = λ some. absurd (omega arith) }

pub stops_behind : (t : Table) (e : Entry) (b k : Book) (error : HostError) (u v x : View) → Reads b u v → StopsEntry t e b k error v x → StopsEntry t e b k error u x
stops_behind t e b k error u v x p q = record {
  part = q.part;
  short = q.short;
  told = q.told ∙ ap (λ (xs : List ℕ). xs ++ take q.part (line t e)) p.told;
  only_tell = q.only_tell;
  stands = q.stands;
  disk_first = q.disk_first;
  moments = leaves_on (IsWithinEntry t e b k u.told) p.moments q.moments (λ c a. record { part = 0; short = omega arith; told = a.told ∙ sym (append-nil u.told); book = inl (⊎_elim (λ h. h) (λ h. h) a.book); disk_first = λ some. absurd (omega arith) })
      (λ c a. subst (λ (xs : List ℕ). IsWithinEntry t e b k xs c) p.told a);
}

-- a run that was given up was a part of a longer one
pub halts_more : (w : World) (l : Ledger) (es fs : List Entry) (error : HostError) (u x : View) → HaltsRun w l es error u x → HaltsRun w l (es ++ fs) error u x
halts_more w l es fs error u x p = by p.rest p.all p.short p.told p.stands p.disk_first
  where
    moments : LeavesOnly u x (IsLeftOfRun w l (es ++ fs) u.told)
    moments = leaves_wider (IsLeftOfRun w l es u.told) (IsLeftOfRun w l (es ++ fs) u.told) u x p.moments (λ c a. allowed_more w l u.told c es fs a)

    by : (rest : List Entry) → es ≡ p.done ++ rest → p.part ≤ length (next_line w.table rest) → x.told ≡ (u.told ++ text w.table p.done) ++ take p.part (next_line w.table rest)
        → StandsAroundNext w (after_all w l p.done) rest error x → (0 < p.part → HostStands x (next_book w (after_all w l p.done) rest)) → HaltsRun w l (es ++ fs) error u x
    by [] all short told stands first = record {
      done = p.done;
      rest = fs;
      all = ap (λ (xs : List Entry). xs ++ fs) (all ∙ append-nil p.done);
      part = 0;
      short = omega arith;
      told = told ∙ ap (λ (n : ℕ). (u.told ++ text w.table p.done) ++ take n []) (none_of p.part short);
      only_tell = λ other. refl;
      stands = stands_before w (after_all w l p.done) fs error x stands;
      disk_first = λ some. absurd (omega arith);
      moments = moments;
    }
    by (e ∷ rest) all short told stands first = record {
      done = p.done;
      rest = e ∷ (rest ++ fs);
      all = ap (λ (xs : List Entry). xs ++ fs) all ∙ append_assoc p.done (e ∷ rest) fs;
      part = p.part;
      short = short;
      told = told;
      only_tell = p.only_tell;
      stands = stands;
      disk_first = first;
      moments = moments;
    }
