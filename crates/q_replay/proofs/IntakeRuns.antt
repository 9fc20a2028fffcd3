-- An intake life goes the same way with room for nothing more than one message.
use Rattle.std.proofs.Common.{◌≡◌, ℕ, zero, suc, ◌+◌, ◌++◌, ◌^◌, Bool, true, false, List, [], ◌∷◌, Option, Some, None, refl, ap, ◌∙◌, if◌then◌else◌}
use Rattle.std.specs.List.{AllByRecursion}
use Rattle.q_model.specs.Ledger.{Ledger}
use Rattle.q_model.specs.Next.{next}
use Rattle.q_model.specs.Run.{decide, decisions, entry_of, goes_on, run, turn}
use Rattle.q_model.specs.Settings.{World}
use Rattle.q_model.specs.Step.{after, after_all}
use Rattle.q_model.specs.declared.entry.Entry.{Entry}
use Rattle.q_model.specs.declared.entry.Entry.TheVariants as entries
use Rattle.q_model.specs.declared.event.Event.TheVariants as events
use Rattle.q_model.specs.declared.event.LifeEvent.{LifeEvent}
use Rattle.q_model.specs.declared.event.LifeEvent.TheVariants.{Begin, Finish, Heard}
use Rattle.q_replay.proofs.IntakeEntries.{after_holds, after_same, brings_nothing, HoldsNothing, intake_world, next_brings, next_same}

-- none of the entries brings anything into memory
abbrev pub BringNothing : List Entry → Type 0
BringNothing es = AllByRecursion (λ e. brings_nothing e ≡ true) es

pub parts_bring : (es fs : List Entry) → BringNothing (es ++ fs) → BringNothing es × BringNothing fs
parts_bring [] fs k = (tt, k)
parts_bring (e ∷ es) fs k = let (front, back) = parts_bring es fs k.1 in ((k.0, front), back)

joined_brings : (es fs : List Entry) → BringNothing es → BringNothing fs → BringNothing (es ++ fs)
joined_brings [] fs h k = k
joined_brings (e ∷ es) fs h k = (h.0, joined_brings es fs h.1 k)

pub all_same : (w : World) (l : Ledger) (es : List Entry) → HoldsNothing l → BringNothing es → after_all (intake_world w) l es ≡ after_all w l es
unfolding after_all
all_same w l [] h k = refl
all_same w l (e ∷ es) h k =
    ap (λ (x : Ledger). after_all (intake_world w) x es) (after_same w l h e k.0)
    ∙ all_same w (after w l e) es (after_holds w l h e k.0) k.1

pub all_hold : (w : World) (l : Ledger) (es : List Entry) → HoldsNothing l → BringNothing es → HoldsNothing (after_all w l es)
unfolding after_all
all_hold w l [] h k = h
all_hold w l (e ∷ es) h k = all_hold w (after w l e) es (after_holds w l h e k.0) k.1

-- ---- decisions

-- what is decided from an answer on
abbrev decided : ℕ → World → Ledger → Option Entry → List Entry
decided n w l o = elim o [ None ↦ [] | Some e ↦ e ∷ decide n w (after w l e) ]

module _ (n : ℕ) (w : World) (l : Ledger) (h : HoldsNothing l) where
  decided_brings : (rest : (k : Ledger) → HoldsNothing k → BringNothing (decide n w k)) (o : Option Entry) → ((e : Entry) → o ≡ Some e → brings_nothing e ≡ true) → BringNothing (decided n w l o)
  decided_brings rest None k = tt
  decided_brings rest (Some e) k = let fits = k e refl in (fits, rest (after w l e) (after_holds w l h e fits))

  decided_same : (rest : (k : Ledger) → HoldsNothing k → decide n (intake_world w) k ≡ decide n w k) (o : Option Entry) → ((e : Entry) → o ≡ Some e → brings_nothing e ≡ true) → decided n (intake_world w) l o ≡ decided n w l o
  decided_same rest None k = refl
  decided_same rest (Some e) k =
      let fits = k e refl in
      ap (λ (es : List Entry). e ∷ es) (ap (decide n (intake_world w)) (after_same w l h e fits) ∙ rest (after w l e) (after_holds w l h e fits))

decide_brings : (n : ℕ) (w : World) (l : Ledger) → HoldsNothing l → BringNothing (decide n w l)
unfolding decide
decide_brings zero w l h = tt
decide_brings (suc n) w l h = decided_brings n w l h (λ k t. decide_brings n w k t) (next w l) (next_brings w l h)

decide_same : (n : ℕ) (w : World) (l : Ledger) → HoldsNothing l → decide n (intake_world w) l ≡ decide n w l
unfolding decide
decide_same zero w l h = refl
decide_same (suc n) w l h =
    ap (decided n (intake_world w) l) (next_same l h w)
    ∙ decided_same n w l h (λ k t. decide_same n w k t) (next w l) (next_brings w l h)

decisions_brings : (w : World) (l : Ledger) → HoldsNothing l → BringNothing (decisions w l)
unfolding decisions
decisions_brings w l h = decide_brings (2 ^ 60) w l h

decisions_same : (w : World) (l : Ledger) → HoldsNothing l → decisions (intake_world w) l ≡ decisions w l
unfolding decisions
decisions_same w l h = decide_same (2 ^ 60) w l h

-- ---- turns and runs

-- the first entry of an item
own_brings : (l : Ledger) (item : LifeEvent) → HoldsNothing l → brings_nothing (entry_of l item) ≡ true
own_brings l Begin h = ap (λ mode. brings_nothing (entries.Life (l.book.generation + 1) mode)) h.intake
own_brings l Finish h = refl
own_brings l (Heard (events.At t)) h = refl
own_brings l (Heard (events.Mail sender to content)) h = refl
own_brings l (Heard (events.Reply number state os)) h = refl
own_brings l (Heard (events.Trigger kind)) h = refl

more_brings : (w : World) (l : Ledger) (b : Bool) → HoldsNothing l → BringNothing (if b then decisions w l else [])
more_brings w l true h = decisions_brings w l h
more_brings w l false h = tt

more_same : (w : World) (l : Ledger) (b : Bool) → HoldsNothing l → (if b then decisions (intake_world w) l else []) ≡ (if b then decisions w l else [])
more_same w l true h = decisions_same w l h
more_same w l false h = refl

module _ (w : World) (l : Ledger) (item : LifeEvent) (h : HoldsNothing l) where
  turn_brings : BringNothing (turn w l item)
  unfolding turn
  turn_brings =
      let own = own_brings l item h in
      (own, more_brings w (after w l (entry_of l item)) (goes_on item) (after_holds w l h (entry_of l item) own))

  pub turn_same : turn (intake_world w) l item ≡ turn w l item
  unfolding turn
  turn_same =
      let own = own_brings l item h in
      ap (λ (k : Ledger). entry_of l item ∷ (if goes_on item then decisions (intake_world w) k else [])) (after_same w l h (entry_of l item) own)
      ∙ ap (λ (es : List Entry). entry_of l item ∷ es) (more_same w (after w l (entry_of l item)) (goes_on item) (after_holds w l h (entry_of l item) own))

  pub turn_holds : HoldsNothing (after_all w l (turn w l item))
  turn_holds = all_hold w l (turn w l item) h turn_brings

  -- the ledger after a turn is the same
  pub turn_leads : after_all (intake_world w) l (turn (intake_world w) l item) ≡ after_all w l (turn w l item)
  turn_leads = ap (after_all (intake_world w) l) turn_same ∙ all_same w l (turn w l item) h turn_brings

pub run_brings : (w : World) (l : Ledger) (items : List LifeEvent) → HoldsNothing l → BringNothing (run w l items)
unfolding run
run_brings w l [] h = tt
run_brings w l (item ∷ items) h =
    joined_brings (turn w l item) (run w (after_all w l (turn w l item)) items) (turn_brings w l item h)
    (run_brings w (after_all w l (turn w l item)) items (turn_holds w l item h))

pub run_same : (w : World) (l : Ledger) (items : List LifeEvent) → HoldsNothing l → run (intake_world w) l items ≡ run w l items
unfolding run
run_same w l [] h = refl
run_same w l (item ∷ items) h =
    ap (λ (es : List Entry). es ++ run (intake_world w) (after_all (intake_world w) l es) items) (turn_same w l item h)
    ∙ ap (λ (k : Ledger). turn w l item ++ run (intake_world w) k items) (all_same w l (turn w l item) h (turn_brings w l item h))
    ∙ ap (λ (es : List Entry). turn w l item ++ es) (run_same w (after_all w l (turn w l item)) items (turn_holds w l item h))
