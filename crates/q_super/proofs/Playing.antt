-- Deeds go on: some behind others.
use Rattle.std.proofs.Common.{◌≡◌, ◌≢◌, ◌≤◌, inl, inr, ⊎_elim, ℕ, List, [], ◌∷◌, ◌++◌, length, take, refl, sym, ap, ◌∙◌, subst, arith, append-nil, append_assoc}
use Rattle.q_model.specs.Book.{Book}
use Rattle.q_model.specs.ToolSteps.{after_step, after_steps, ToolStep}
use Rattle.q_host.specs.Calls.{Stays}
use Rattle.q_host.specs.View.{LeavesOnly, Remains, View}
use Rattle.q_host.specs.declared.error.HostError.{HostError}
use Rattle.q_host.specs.declared.error.HostError.TheVariants.{Tell}
use Rattle.q_host.proofs.Moments.{leaves_here, leaves_on}
use Rattle.q_books.specs.HostStands.{Between, HostStands, IsLeftOf, OwnLogs, Takes, TellsCrashes, Tries, TriesLoosely}
use Rattle.q_books.proofs.Joining.{reads_keep}
use Rattle.q_lives.specs.Tools.{after_cut_steps, cut_step}
use Rattle.q_super.specs.Deeds.{Deed, does, lines_in, steps_in, steps_of, told_by}
use Rattle.q_super.specs.Plays.{after_cut_deeds, after_deeds, HaltsDeeds, IsLeftOfDeeds, next_line, PlaysDeeds, StandsAfter}

-- ---- lists of deeds

pub steps_in-append : (ds es : List Deed) → steps_in (ds ++ es) ≡ steps_in ds ++ steps_in es
steps_in-append [] es = refl
steps_in-append (d ∷ ds) es = ap (λ (xs : List ToolStep). steps_of d ++ xs) (steps_in-append ds es) ∙ sym (append_assoc (steps_of d) (steps_in ds) (steps_in es))

pub lines_in-append : (ds es : List Deed) → lines_in (ds ++ es) ≡ lines_in ds ++ lines_in es
lines_in-append [] es = refl
lines_in-append (d ∷ ds) es = ap (λ (xs : List ℕ). told_by d ++ xs) (lines_in-append ds es) ∙ sym (append_assoc (told_by d) (lines_in ds) (lines_in es))

pub after_steps-append : (b : Book) (ss ts : List ToolStep) → after_steps b (ss ++ ts) ≡ after_steps (after_steps b ss) ts
after_steps-append b [] ts = refl
after_steps-append b (s ∷ ss) ts = after_steps-append (after_step b s) ss ts

pub after_deeds-append : (b : Book) (ds es : List Deed) → after_deeds b (ds ++ es) ≡ after_deeds (after_deeds b ds) es
after_deeds-append b ds es = ap (after_steps b) (steps_in-append ds es) ∙ after_steps-append b (steps_in ds) (steps_in es)

after_cut_steps-append : (b : Book) (ss : List ToolStep) (t : ToolStep) (ts : List ToolStep) → after_cut_steps b (ss ++ t ∷ ts) ≡ after_cut_steps (after_steps b ss) (t ∷ ts)
after_cut_steps-append b [] t ts = refl
after_cut_steps-append b (s ∷ []) t ts = refl
after_cut_steps-append b (s ∷ r ∷ ss) t ts = after_cut_steps-append (after_step b s) (r ∷ ss) t ts

none_of : (n : ℕ) → n ≤ 0 → n ≡ 0
none_of n h = omega (arith, h)

-- ---- what a crash leaves

module _ (b : Book) (before : List ℕ) (c : Remains) where
  -- of deeds that go on
  pub left_more : (ds es : List Deed) → IsLeftOfDeeds b ds before c → IsLeftOfDeeds b (ds ++ es) before c
  left_more ds es a = by a.rest a.all a.short a.told
    where
      by : (rest : List Deed) → ds ≡ a.done ++ rest → a.part ≤ length (next_line rest) → c.told ≡ (before ++ lines_in a.done) ++ take a.part (next_line rest) → IsLeftOfDeeds b (ds ++ es) before c
      by [] all short told = record {
        done = a.done;
        rest = es;
        all = ap (λ (xs : List Deed). xs ++ es) (all ∙ append-nil a.done);
        part = 0;
        short = omega arith;
        told = told ∙ ap (λ (n : ℕ). (before ++ lines_in a.done) ++ take n []) (none_of a.part short);
        book = a.book;
      }
      by (d ∷ rest) all short told = record {
        done = a.done;
        rest = d ∷ (rest ++ es);
        all = ap (λ (xs : List Deed). xs ++ es) all ∙ append_assoc a.done (d ∷ rest) es;
        part = a.part;
        short = short;
        told = told;
        book = a.book;
      }

  -- of some behind others
  pub left_behind : (ds es : List Deed) → IsLeftOfDeeds (after_deeds b ds) es (before ++ lines_in ds) c → IsLeftOfDeeds b (ds ++ es) before c
  left_behind ds es a = record {
    done = ds ++ a.done;
    rest = a.rest;
    all = ap (λ (xs : List Deed). ds ++ xs) a.all ∙ sym (append_assoc ds a.done a.rest);
    part = a.part;
    short = a.short;
    told = a.told ∙ ap (λ (xs : List ℕ). xs ++ take a.part (next_line a.rest)) (append_assoc before (lines_in ds) (lines_in a.done) ∙ ap (λ (xs : List ℕ). before ++ xs) (sym (lines_in-append ds a.done)));
    book = subst (λ (k : Book). IsLeftOf k c) (sym (after_deeds-append b ds a.done)) a.book;
  }

  -- behind all of them
  pub left_done : (ds : List Deed) → c.told ≡ before ++ lines_in ds → IsLeftOf (after_deeds b ds) c → IsLeftOfDeeds b ds before c
  left_done ds told book = record {
    done = ds;
    rest = [];
    all = sym (append-nil ds);
    part = 0;
    short = omega arith;
    told = told ∙ sym (append-nil (before ++ lines_in ds));
    book = book;
  }

  -- before the first
  pub left_before : (ds : List Deed) → c.told ≡ before → IsLeftOf b c → IsLeftOfDeeds b ds before c
  left_before ds told book = record {
    done = [];
    rest = ds;
    all = refl;
    part = 0;
    short = omega arith;
    told = told ∙ sym (append-nil before) ∙ sym (append-nil (before ++ []));
    book = book;
  }

leaves_wider : (P R : Remains → Type 0) (u v : View) → LeavesOnly u v P → ((c : Remains) → P c → R c) → LeavesOnly u v R
leaves_wider P R u v p step = record {
  later = p.later;
  each = λ c left. step c (p.each c left);
  before = λ at c le left. ⊎_elim (λ was. inl was) (λ h. inr (step c h)) (p.before at c le left);
}

-- ---- deeds

-- some behind others
pub plays_then : (b : Book) (ds es : List Deed) (u v x : View) → PlaysDeeds b ds u v → PlaysDeeds (after_deeds b ds) es v x → PlaysDeeds b (ds ++ es) u x
plays_then b ds es u v x p q =
    let there : after_deeds (after_deeds b ds) es ≡ after_deeds b (ds ++ es) = sym (after_deeds-append b ds es) in
    record {
      told = q.told ∙ ap (λ (xs : List ℕ). xs ++ lines_in es) p.told ∙ append_assoc u.told (lines_in ds) (lines_in es) ∙ ap (λ (xs : List ℕ). u.told ++ xs) (sym (lines_in-append ds es));
      stands = subst (HostStands x) there q.stands;
      logs = λ own. subst (λ (k : Book). OwnLogs x.files k) there (q.logs (p.logs own));
      moments = leaves_on (IsLeftOfDeeds b (ds ++ es) u.told) p.moments q.moments (λ c a. left_more b u.told c ds es a)
          (λ c a. left_behind b u.told c ds es (subst (λ (xs : List ℕ). IsLeftOfDeeds (after_deeds b ds) es xs c) p.told a));
    }

stands_behind : (b : Book) (ds done : List Deed) (error : HostError) (v : View) → StandsAfter (after_deeds b ds) done error v → StandsAfter b (ds ++ done) error v
stands_behind b ds done error v (inl h) = inl (subst (HostStands v) (sym (after_deeds-append b ds done)) h)
stands_behind b ds done error v (inr (other, h)) = by (steps_in done) refl
  where
    by : (ts : List ToolStep) → steps_in done ≡ ts → StandsAfter b (ds ++ done) error v
    by [] none =
        let same : after_cut_deeds (after_deeds b ds) done ≡ after_deeds b (ds ++ done) =
        ap (after_cut_steps (after_deeds b ds)) none ∙ sym (ap (after_steps (after_deeds b ds)) none) ∙ sym (after_deeds-append b ds done) in
        inl (subst (HostStands v) same h)
    by (t ∷ ts) some =
        let same : after_cut_deeds (after_deeds b ds) done ≡ after_cut_deeds b (ds ++ done) =
        ap (after_cut_steps (after_deeds b ds)) some ∙ sym (after_cut_steps-append b (steps_in ds) t ts)
        ∙ ap (λ (xs : List ToolStep). after_cut_steps b (steps_in ds ++ xs)) (sym some) ∙ ap (after_cut_steps b) (sym (steps_in-append ds done)) in
        inr (other, subst (HostStands v) same h)

-- the host gave up behind others
pub halts_behind : (b : Book) (ds es : List Deed) (error : HostError) (u v x : View) → PlaysDeeds b ds u v → HaltsDeeds (after_deeds b ds) es error v x → HaltsDeeds b (ds ++ es) error u x
halts_behind b ds es error u v x p q = record {
  done = ds ++ q.done;
  rest = q.rest;
  all = ap (λ (xs : List Deed). ds ++ xs) q.all ∙ sym (append_assoc ds q.done q.rest);
  part = q.part;
  short = q.short;
  told = q.told ∙ ap (λ (xs : List ℕ). xs ++ take q.part (next_line q.rest)) (ap (λ (xs : List ℕ). xs ++ lines_in q.done) p.told ∙ append_assoc u.told (lines_in ds) (lines_in q.done) ∙ ap (λ (xs : List ℕ). u.told ++ xs) (sym (lines_in-append ds q.done)));
  only_tell = q.only_tell;
  stands = stands_behind b ds q.done error x q.stands;
  moments = leaves_on (IsLeftOfDeeds b (ds ++ es) u.told) p.moments q.moments (λ c a. left_more b u.told c ds es a)
      (λ c a. left_behind b u.told c ds es (subst (λ (xs : List ℕ). IsLeftOfDeeds (after_deeds b ds) es xs c) p.told a));
}

-- it gave up among the first of more
pub halts_more : (b : Book) (ds es : List Deed) (error : HostError) (u x : View) → HaltsDeeds b ds error u x → HaltsDeeds b (ds ++ es) error u x
halts_more b ds es error u x p = by p.rest p.all p.short p.told
  where
    moments : LeavesOnly u x (IsLeftOfDeeds b (ds ++ es) u.told)
    moments = leaves_wider (IsLeftOfDeeds b ds u.told) (IsLeftOfDeeds b (ds ++ es) u.told) u x p.moments (λ c a. left_more b u.told c ds es a)

    by : (rest : List Deed) → ds ≡ p.done ++ rest → p.part ≤ length (next_line rest) → x.told ≡ (u.told ++ lines_in p.done) ++ take p.part (next_line rest) → HaltsDeeds b (ds ++ es) error u x
    by [] all short told = record {
      done = p.done;
      rest = es;
      all = ap (λ (xs : List Deed). xs ++ es) (all ∙ append-nil p.done);
      part = 0;
      short = omega arith;
      told = told ∙ ap (λ (n : ℕ). (u.told ++ lines_in p.done) ++ take n []) (none_of p.part short);
      only_tell = λ other. refl;
      stands = p.stands;
      moments = moments;
    }
    by (d ∷ rest) all short told = record {
      done = p.done;
      rest = d ∷ (rest ++ es);
      all = ap (λ (xs : List Deed). xs ++ es) all ∙ append_assoc p.done (d ∷ rest) es;
      part = p.part;
      short = short;
      told = told;
      only_tell = p.only_tell;
      stands = p.stands;
      moments = moments;
    }

-- it went no further
pub plays_given_up : (b : Book) (ds es : List Deed) (error : HostError) (u v : View) → PlaysDeeds b ds u v → HaltsDeeds b (ds ++ es) error u v
plays_given_up b ds es error u v p = record {
  done = ds;
  rest = es;
  all = refl;
  part = 0;
  short = omega arith;
  told = p.told ∙ sym (append-nil (u.told ++ lines_in ds));
  only_tell = λ other. refl;
  stands = inl p.stands;
  moments = leaves_wider (IsLeftOfDeeds b ds u.told) (IsLeftOfDeeds b (ds ++ es) u.told) u v p.moments (λ c a. left_more b u.told c ds es a);
}

-- ---- calls that do none, or one step

-- no book changed and nothing was told
pub takes_none : (b : Book) (u v : View) → Takes b b u v → PlaysDeeds b [] u v
takes_none b u v t = record {
  told = t.told ∙ sym (append-nil u.told);
  stands = t.stands;
  logs = t.logs;
  moments = leaves_wider (Between b b u.told) (IsLeftOfDeeds b [] u.told) u v t.moments (λ c a. left_before b u.told c [] a.told (⊎_elim (λ h. h) (λ h. h) a.book));
}

-- files were looked at
pub reads_play : (b : Book) (u v : View) → TellsCrashes u → Stays u v → HostStands u b → PlaysDeeds b [] u v
reads_play b u v lawful st h = takes_none b u v (reads_keep b b u v lawful st h)

-- no call was made
pub plays_none : (b : Book) (u : View) → TellsCrashes u → HostStands u b → PlaysDeeds b [] u u
plays_none b u lawful h = record {
  told = sym (append-nil u.told);
  stands = h;
  logs = λ own. own;
  moments = leaves_here (IsLeftOfDeeds b [] u.told) u lawful.only (λ c may. left_before b u.told c [] (lawful.told c may) (h.crash c may));
}

-- a step was given up before it began
pub reads_halt : (b : Book) (ds : List Deed) (error : HostError) (u v : View) → TellsCrashes u → Stays u v → HostStands u b → HaltsDeeds b ds error u v
reads_halt b ds error u v lawful st h = plays_given_up b [] ds error u v (reads_play b u v lawful st h)

module _ (b : Book) (s : ToolStep) (u v : View) where
  one_step : (c : Remains) → Between b (after_step b s) u.told c → IsLeftOfDeeds b (does s ∷ []) u.told c
  one_step c a = ⊎_elim (λ h. left_before b u.told c (does s ∷ []) a.told h) (λ h. left_done b u.told c (does s ∷ []) (a.told ∙ sym (append-nil u.told)) h) a.book

  step_moments : LeavesOnly u v (Between b (after_step b s) u.told) → LeavesOnly u v (IsLeftOfDeeds b (does s ∷ []) u.told)
  step_moments moments = leaves_wider (Between b (after_step b s) u.told) (IsLeftOfDeeds b (does s ∷ []) u.told) u v moments one_step

  -- a step was done
  pub takes_step : Takes b (after_step b s) u v → PlaysDeeds b (does s ∷ []) u v
  takes_step t = record { told = t.told ∙ sym (append-nil u.told); stands = t.stands; logs = t.logs; moments = step_moments t.moments }

  abbrev Halts : HostError → Type 0
  Halts error = HaltsDeeds b (does s ∷ []) error u v

  halted_before : (error : HostError) → v.told ≡ u.told → LeavesOnly u v (Between b (after_step b s) u.told) → HostStands v b → Halts error
  halted_before error told moments h = record {
    done = [];
    rest = does s ∷ [];
    all = refl;
    part = 0;
    short = omega arith;
    told = told ∙ sym (append-nil u.told) ∙ sym (append-nil (u.told ++ []));
    only_tell = λ other. refl;
    stands = inl h;
    moments = step_moments moments;
  }

  halted_behind : (error : HostError) → v.told ≡ u.told → LeavesOnly u v (Between b (after_step b s) u.told) → StandsAfter b (does s ∷ []) error v → Halts error
  halted_behind error told moments h = record {
    done = does s ∷ [];
    rest = [];
    all = refl;
    part = 0;
    short = omega arith;
    told = told ∙ sym (append-nil u.told) ∙ sym (append-nil (u.told ++ []));
    only_tell = λ other. refl;
    stands = h;
    moments = step_moments moments;
  }

  -- a step was given up
  pub tries_step : (error : HostError) → Tries b (after_step b s) u v → Halts error
  tries_step error t = ⊎_elim (λ h. halted_before error t.told t.moments h) (λ h. halted_behind error t.told t.moments (inl h)) t.stands

  -- one that may be loose then
  pub tries_loose_step : (error : HostError) → error ≢ Tell → TriesLoosely b (after_step b s) (cut_step (after_step b s) s) u v → Halts error
  tries_loose_step error other t = ⊎_elim (λ h. halted_before error t.told t.moments h)
      (λ h. halted_behind error t.told t.moments (⊎_elim (λ k. inl k) (λ k. inr (other, k)) h)) t.stands
