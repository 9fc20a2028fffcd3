-- Over every list of lives whoever is done has a cause in the trace.
use Rattle.std.proofs.Common.{◌≡◌, ℕ, zero, suc, ◌+◌, true, false, List, [], ◌∷◌, ◌++◌, take, Option, Some, None, ◌⊎◌, inl, inr, refl, sym, ap, ◌∙◌, subst}
use Rattle.std.proofs.lemmas.List.{append_assoc, append-nil}
use Rattle.std.specs.Option.{option_map_or}
use Rattle.std.specs.Prelude.{◌==◌, slice_get}
use Rattle.q_laws.proofs.Beginnings.{life_consistent}
use Rattle.q_laws.proofs.Kept.{entry_consistent}
use Rattle.q_laws.specs.Consistency.{IsConsistent, IsUsable}
use Rattle.q_laws.specs.Traces.{AreEntriesOf}
use Rattle.q_lives.specs.Lives.{IsOrderly, cut_book}
use Rattle.q_lives.proofs.Caused.{IsCaused, entry_caused, life_caused}
use Rattle.q_lives.specs.Causes.{Cause}
use Rattle.q_lives.proofs.Done.{changed_done, crash_done, done_in, kept_done, log_done, loose_done}
use Rattle.q_lives.proofs.Throughout.{entry_may, first_entry, lives_orderly, run_all, take_entries}
use Rattle.q_lives.specs.Causes.{DoneAfterCause, IsDoneBeside, is_done_at}
use Rattle.q_lives.specs.Tools.{after_cut_steps, cut_step, is_fail_of}
use Rattle.q_laws.proofs.Moved.{move_to}
use Rattle.q_model.specs.ToolSteps.{ToolStep, after_step, after_steps, fails, given_up, moves}
use Rattle.std.specs.List.{list_any}
use Rattle.q_model.proofs.IdLaws.{id_eq-refl}
use Rattle.q_model.specs.Ids.{id_eq}
use Rattle.q_model.specs.Logs.{with_failure}
use Rattle.q_model.specs.Message.{Message}
use Rattle.std.proofs.lemmas.Bool.{and_from, or_left, or_right}
use Rattle.std.proofs.lemmas.List.Folds.{list_any-append}
use Rattle.q_lives.specs.Lives.{AreLives, IsLeftBy, IsLife, Life, life_entries, last_book, ledger_of, tool_steps, trace}
use Rattle.q_model.specs.CutOff.{cut_off, loosened}
use Rattle.q_model.specs.Book.{Book, message_of}
use Rattle.q_model.specs.Crashes.{IsCrashOf}
use Rattle.q_model.specs.Ledger.{Ledger, opening}
use Rattle.q_model.specs.Settings.{World}
use Rattle.q_model.specs.Step.{after, after_all}
use Rattle.q_model.specs.declared.entry.Entry.{Entry}
use Rattle.q_model.specs.declared.event.Mode.{Mode}
use Rattle.q_model.specs.declared.id.Id.{Id}
use Rattle.q_model.specs.declared.entry.Entry.TheVariants as entries

-- whoever is done in the book has a cause
abbrev HasCauses : (Id → ℕ → Type 0) → List Entry → Book → Type 0
HasCauses first es b = (id : Id) (p : ℕ) → is_done_at b id p ≡ true → Cause first es id p

-- ---- one life

entries_caused : (first : Id → ℕ → Type 0) (done : List Entry) (w : World) (l : Ledger) (es : List Entry) → IsConsistent w l → AreEntriesOf w l es → IsCaused first done l → IsCaused first (done ++ es) (after_all w l es)
unfolding after_all
entries_caused first done w l [] c h caused = subst (λ xs. IsCaused first xs l) (sym (append-nil done)) caused
entries_caused first done w l (e ∷ es) c h caused =
    let rest = entries_caused first (done ++ e ∷ []) w (after w l e) es (entry_consistent w l e c h.0) h.1 (entry_caused first done w l e c (entry_may w l e c h.0) caused) in
    subst (λ xs. IsCaused first xs (after_all w (after w l e) es)) (append_assoc done (e ∷ []) es) rest

front_caused : (first : Id → ℕ → Type 0) (done : List Entry) (w : World) (mode : Mode) (book : Book) (rest : List Entry) (n : ℕ) → IsUsable w → IsOrderly book → HasCauses first done book → AreEntriesOf w (opening mode book) (entries.Life (book.generation + 1) mode ∷ rest) →
    HasCauses first (done ++ take n (entries.Life (book.generation + 1) mode ∷ rest)) (after_all w (opening mode book) (take n (entries.Life (book.generation + 1) mode ∷ rest))).book
unfolding after_all
front_caused first done w mode book rest zero usable good causes h = λ id p k. subst (λ xs. Cause first xs id p) (sym (append-nil done)) (causes id p k)
front_caused first done w mode book rest (suc n) usable good causes h =
    let e = entries.Life (book.generation + 1) mode in
    let l = opening mode book in
    let begun : IsConsistent w (after w l e) = life_consistent w l mode usable good.distinct good.orderly in
    let all = entries_caused first (done ++ e ∷ []) w (after w l e) (take n rest) begun (take_entries n w (after w l e) rest h.1) (life_caused first done w l (book.generation + 1) mode causes) in
    λ id p k. subst (λ xs. Cause first xs id p) (append_assoc done (e ∷ []) (take n rest)) (all.done id p k)

life_causes : (first : Id → ℕ → Type 0) (done : List Entry) (book : Book) (life : Life) → IsOrderly book → IsLife book life → HasCauses first done book → HasCauses first (done ++ life_entries book life) (ledger_of book life).book
life_causes first done book life good h causes =
    let w = life.world in
    let begins = first_entry w life.mode book life.items in
    let all = subst (AreEntriesOf w (opening life.mode book)) begins.1 (run_all w life.mode book life.items h.fits) in
    subst (λ es. HasCauses first (done ++ take life.count es) (after_all w (opening life.mode book) (take life.count es)).book) (sym begins.1) (front_caused first done w life.mode book begins.0 life.count h.usable good causes all)

-- ---- what it leaves

cut_done : (e : Entry) (b : Book) (id : Id) (p : ℕ) → is_done_at (cut_off e b) id p ≡ true → is_done_at b id p ≡ true
cut_done (entries.Log i failure) b id p h = kept_done b i loosened id p (λ m. refl) (λ m d. sym (loose_done p m) ∙ d) h
cut_done (entries.Life generation mode) b id p h = h
cut_done (entries.At t) b id p h = h
cut_done (entries.Arrive i sender to content) b id p h = h
cut_done (entries.Back i) b id p h = h
cut_done (entries.Admit i) b id p h = h
cut_done (entries.Load i from to) b id p h = h
cut_done (entries.Start number i site positions) b id p h = h
cut_done (entries.Preempt child parent transport need) b id p h = h
cut_done (entries.Reply number state outcomes) b id p h = h
cut_done (entries.Skip i site positions) b id p h = h
cut_done (entries.Mark i position) b id p h = h
cut_done (entries.Sync i) b id p h = h
cut_done (entries.Defer i due) b id p h = h
cut_done (entries.Bounce i) b id p h = h
cut_done (entries.Remove i) b id p h = h
cut_done (entries.Corrupt i) b id p h = h
cut_done (entries.Trigger kind) b id p h = h
cut_done entries.End b id p h = h

cut_on : (b : Book) (o : Option Entry) (id : Id) (p : ℕ) → is_done_at (option_map_or (λ e. cut_off e b) o b) id p ≡ true → is_done_at b id p ≡ true
cut_on b None id p h = h
cut_on b (Some e) id p h = cut_done e b id p h

-- a step makes no other recipient done than the one that it gives up
step_done : (b : Book) (s : ToolStep) (id : Id) (p : ℕ) → is_done_at (after_step b s) id p ≡ true → (is_done_at b id p ≡ true) ⊎ (is_fail_of id p s ≡ true)
step_done b (moves i place) id p h = inl (kept_done b i (move_to place) id p (λ m. refl) (λ m d. d) h)
step_done b (fails i q) id p h = elim (changed_done b i (with_failure (given_up q)) id p (λ m. refl) h) [
  | inl old ↦ inl old
  | inr new ↦ elim (log_done (given_up q) p new.1 new.3) [
    | inl was ↦ inl (ap (λ (o : Option Message). option_map_or (done_in p) o false) (ap (message_of b) new.0 ∙ new.2) ∙ was)
    | inr at ↦ inr (and_from (id_eq i id) (q == p) (subst (λ (j : Id). id_eq i j ≡ true) (sym new.0) (id_eq-refl i)) at)
  ]
]

cut_step_done : (b : Book) (s : ToolStep) (id : Id) (p : ℕ) → is_done_at (cut_step b s) id p ≡ true → is_done_at b id p ≡ true
cut_step_done b (moves i place) id p h = h
cut_step_done b (fails i q) id p h = kept_done b i loosened id p (λ m. refl) (λ m d. sym (loose_done p m) ∙ d) h

-- who is done behind steps was so, or was given up by one
abbrev IsDoneBy : Book → List ToolStep → Id → ℕ → Type 0
IsDoneBy b ss id p = (is_done_at b id p ≡ true) ⊎ (list_any (is_fail_of id p) ss ≡ true)

one_done : (b : Book) (s : ToolStep) (ss : List ToolStep) (id : Id) (p : ℕ) → IsDoneBy (after_step b s) ss id p → IsDoneBy b (s ∷ ss) id p
one_done b s ss id p (inr later) = inr (or_right (is_fail_of id p s) (list_any (is_fail_of id p) ss) later)
one_done b s ss id p (inl now) = elim (step_done b s id p now) [
  | inl old ↦ inl old
  | inr new ↦ inr (or_left (is_fail_of id p s) (list_any (is_fail_of id p) ss) new)
]

steps_done : (b : Book) (ss : List ToolStep) (id : Id) (p : ℕ) → is_done_at (after_steps b ss) id p ≡ true → IsDoneBy b ss id p
steps_done b [] id p h = inl h
steps_done b (s ∷ ss) id p h = one_done b s ss id p (steps_done (after_step b s) ss id p h)

cut_steps_done : (b : Book) (ss : List ToolStep) (id : Id) (p : ℕ) → is_done_at (after_cut_steps b ss) id p ≡ true → IsDoneBy b ss id p
cut_steps_done b [] id p h = inl h
cut_steps_done b (s ∷ []) id p h = one_done b s [] id p (inl (cut_step_done (after_step b s) s id p h))
cut_steps_done b (s ∷ t ∷ ss) id p h = one_done b s (t ∷ ss) id p (cut_steps_done (after_step b s) (t ∷ ss) id p h)

left_done : (l : Ledger) (steps : List ToolStep) (left : Book) (id : Id) (p : ℕ) → IsLeftBy l steps left → is_done_at left id p ≡ true → IsDoneBy l.book steps id p
left_done l steps left id p h k = elim (worked h.works (after_crash h.worked h.leaves k)) [
  | inl old ↦ inl (end h.ends old)
  | inr new ↦ inr new
]
  where
    worked : (h.worked ≡ after_steps h.end steps) ⊎ (h.worked ≡ after_cut_steps h.end steps) → is_done_at h.worked id p ≡ true → IsDoneBy h.end steps id p
    worked (inl e) d = steps_done h.end steps id p (sym (ap (λ b. is_done_at b id p) e) ∙ d)
    worked (inr e) d = cut_steps_done h.end steps id p (sym (ap (λ b. is_done_at b id p) e) ∙ d)

    end : (h.end ≡ l.book) ⊎ (h.end ≡ cut_book l) → is_done_at h.end id p ≡ true → is_done_at l.book id p ≡ true
    end (inl e) d = sym (ap (λ b. is_done_at b id p) e) ∙ d
    end (inr e) d = cut_on l.book (slice_get l.past 0) id p (sym (ap (λ b. is_done_at b id p) e) ∙ d)

    after_crash : (b : Book) → (left ≡ b) ⊎ IsCrashOf b left → is_done_at left id p ≡ true → is_done_at b id p ≡ true
    after_crash b (inl e) d = sym (ap (λ x. is_done_at x id p) e) ∙ d
    after_crash b (inr crash) d = crash_done b left id p crash d

-- ---- all lives

-- a reason more beside the entries
other_cause : (P Q : Id → ℕ → Type 0) (es : List Entry) (id : Id) (p : ℕ) → (P id p → Q id p) → Cause P es id p → Cause Q es id p
other_cause P Q es id p f (inl beside) = inl (f beside)
other_cause P Q es id p f (inr within) = inr within

more_fails : (first : Book) (done steps : List ToolStep) (id : Id) (p : ℕ) → IsDoneBeside first done id p → IsDoneBeside first (done ++ steps) id p
more_fails first done steps id p (inl old) = inl old
more_fails first done steps id p (inr new) = inr (list_any-append (is_fail_of id p) done steps ∙ or_left (list_any (is_fail_of id p) done) (list_any (is_fail_of id p) steps) new)

lives_causes : (first : Book) (given : List ToolStep) (done : List Entry) (book : Book) (lives : List Life) → IsOrderly book → AreLives book lives → HasCauses (IsDoneBeside first given) done book →
    HasCauses (IsDoneBeside first (given ++ tool_steps lives)) (done ++ trace book lives) (last_book book lives)
lives_causes first given done book [] good h causes = λ id p k.
    subst (λ xs. Cause (IsDoneBeside first (given ++ [])) xs id p) (sym (append-nil done)) (subst (λ ss. Cause (IsDoneBeside first ss) done id p) (sym (append-nil given)) (causes id p k))
lives_causes first given done book (life ∷ lives) good h causes =
    let next : IsOrderly life.left = lives_orderly book (life ∷ []) good (h.0, tt) in
    let ends = life_causes (IsDoneBeside first given) done book life good h.0 causes in
    let more = given ++ life.steps in
    let left : HasCauses (IsDoneBeside first (given ++ life.steps)) (done ++ life_entries book life) life.left = λ id p k. elim (left_done (ledger_of book life) life.steps life.left id p (h.0).left k) [
      | inl old ↦ other_cause (IsDoneBeside first given) (IsDoneBeside first (given ++ life.steps)) (done ++ life_entries book life) id p (more_fails first given life.steps id p) (ends id p old)
      | inr new ↦ inl (inr (list_any-append (is_fail_of id p) given life.steps ∙ or_right (list_any (is_fail_of id p) given) (list_any (is_fail_of id p) life.steps) new))
    ] in
    let rest = lives_causes first more (done ++ life_entries book life) life.left lives next h.1 left in
    λ id p k. subst (λ xs. Cause (IsDoneBeside first (given ++ (life.steps ++ tool_steps lives))) xs id p) (append_assoc done (life_entries book life) (trace life.left lives))
    (subst (λ ss. Cause (IsDoneBeside first ss) ((done ++ life_entries book life) ++ trace life.left lives) id p) (append_assoc given life.steps (tool_steps lives)) (rest id p k))

pub lives_done : (book : Book) (lives : List Life) → IsOrderly book → AreLives book lives → DoneAfterCause book (tool_steps lives) (trace book lives) (last_book book lives)
lives_done book lives good h id p k = lives_causes book [] [] book lives good h (λ i q d. inl (inl d)) id p k
