-- Over every list of lives a message that leaves and wants a bounce has had one.
use Rattle.std.proofs.Common.{◌≡◌, ℕ, zero, suc, ◌+◌, ◌≤◌, Bool, true, false, not, List, [], ◌∷◌, ◌++◌, take, map, Option, Some, None, ◌⊎◌, inl, inr, refl, sym, ap, ◌∙◌, subst, eqb-true, leb-true, arith}
use Rattle.std.proofs.lemmas.Bool.{and_parts, not-true, or_cases}
use Rattle.std.proofs.lemmas.List.{append_assoc, append-nil}
use Rattle.std.specs.List.{list_all, list_any}
use Rattle.std.specs.Option.{option_map_or}
use Rattle.std.specs.Prelude.{◌==◌, ◌&&◌, ◌||◌, ◌^◌, is_none, nat_le, nat_lt, slice_get}
use Rattle.q_laws.proofs.Beginnings.{life_consistent}
use Rattle.q_laws.proofs.Books.{message_in}
use Rattle.q_laws.proofs.Kept.{entry_consistent}
use Rattle.q_laws.proofs.Members.{IsIn, all_at, any_in, in_left, in_map, in_right}
use Rattle.q_laws.specs.Consistency.{IsConsistent, IsUsable}
use Rattle.q_laws.specs.Traces.{AreEntriesOf}
use Rattle.q_lives.specs.Lives.{IsOrderly, cut_book}
use Rattle.q_lives.proofs.Bounced.{IsBounced, IsBouncedBook, bounces_in, life_bounced, step_bounced}
use Rattle.q_lives.proofs.LawfulLives.{left_names}
use Rattle.q_lives.proofs.ToolSteps.{StepsKeep, worked_keeps}
use Rattle.q_lives.specs.Tools.{cut_step}
use Rattle.q_model.specs.ToolSteps.{ToolStep, after_step, fails, moves}
use Rattle.q_lives.proofs.Standing.{left_ids, message_ids, once_in}
use Rattle.q_lives.proofs.Throughout.{entry_may, first_entry, lives_orderly, run_all, take_entries}
use Rattle.q_lives.specs.Bounces.{BouncedAtEach, BouncedOnce, BouncedThroughout, bounces}
use Rattle.q_lives.specs.Lives.{AreLives, IsLeftBy, IsLife, Life, life_entries, ledger_of}
use Rattle.q_model.specs.CutOff.{cut_off}
use Rattle.q_model.specs.Book.{Book, Damaged, message_of}
use Rattle.q_model.specs.Crashes.{IsCrashOf}
use Rattle.q_model.specs.Book.{all_ids}
use Rattle.q_model.specs.Finishing.{has_bounce, is_at_rest, is_done, wants_bounce}
use Rattle.q_model.specs.Ids.{bounce_of, id_eq}
use Rattle.q_model.proofs.IdLaws.{id_eq-true}
use Rattle.q_model.specs.Ledger.{Ledger, opening}
use Rattle.q_model.specs.Lists.{has_none}
use Rattle.q_model.specs.Lives.{mode_eq}
use Rattle.q_model.specs.Message.{Message}
use Rattle.q_model.specs.Orderly.{is_paired, is_sound}
use Rattle.q_model.specs.Past.{has_entries}
use Rattle.q_model.specs.Places.{is_active, is_incoming}
use Rattle.q_model.specs.Settings.{World}
use Rattle.q_model.specs.Step.{after, after_all, may}
use Rattle.q_model.specs.declared.entry.Entry.{Entry}
use Rattle.q_model.specs.declared.event.Mode.{Mode}
use Rattle.q_model.specs.declared.id.Id.{Id}
use Rattle.q_model.specs.declared.entry.Entry.TheVariants as entries

-- ---- each entry

pub book_of : (first : Book) (es : List Entry) (l : Ledger) → IsBounced first es l → IsBouncedBook first es l.book
book_of first es l h = record { pairs = h.pairs; old = λ id o. (h.old id o).generation }

life_entry : (first : Book) (es : List Entry) (w : World) (l : Ledger) (generation : ℕ) (mode : Mode) → may w l (entries.Life generation mode) ≡ true → IsBounced first es l → IsBounced first (es ++ entries.Life generation mode ∷ []) (after w l (entries.Life generation mode))
life_entry first es w l generation mode can h =
    let two = and_parts ((generation == l.book.generation + 1) && nat_lt generation (2 ^ 32)) (not (has_entries l) || mode_eq mode l.mode) can in
    let same = eqb-true generation (l.book.generation + 1) (and_parts (generation == l.book.generation + 1) (nat_lt generation (2 ^ 32)) two.0).0 in
    subst (λ g. IsBounced first (es ++ entries.Life g mode ∷ []) (after w l (entries.Life g mode))) (sym same) (life_bounced first es w l mode (book_of first es l h))

pub entry_bounced : (first : Book) (es : List Entry) (w : World) (l : Ledger) (e : Entry) → IsConsistent w l → may w l e ≡ true → IsBounced first es l → IsBounced first (es ++ e ∷ []) (after w l e)
entry_bounced first es w l (entries.Life generation mode) c can h = life_entry first es w l generation mode can h
entry_bounced first es w l (entries.At t) c can h = step_bounced first es w l (entries.At t) c can refl h
entry_bounced first es w l (entries.Arrive i sender to content) c can h = step_bounced first es w l (entries.Arrive i sender to content) c can refl h
entry_bounced first es w l (entries.Back i) c can h = step_bounced first es w l (entries.Back i) c can refl h
entry_bounced first es w l (entries.Admit i) c can h = step_bounced first es w l (entries.Admit i) c can refl h
entry_bounced first es w l (entries.Load i from to) c can h = step_bounced first es w l (entries.Load i from to) c can refl h
entry_bounced first es w l (entries.Start number i site ps) c can h = step_bounced first es w l (entries.Start number i site ps) c can refl h
entry_bounced first es w l (entries.Preempt child parent transport need) c can h = step_bounced first es w l (entries.Preempt child parent transport need) c can refl h
entry_bounced first es w l (entries.Reply number state os) c can h = step_bounced first es w l (entries.Reply number state os) c can refl h
entry_bounced first es w l (entries.Skip i site ps) c can h = step_bounced first es w l (entries.Skip i site ps) c can refl h
entry_bounced first es w l (entries.Log i f) c can h = step_bounced first es w l (entries.Log i f) c can refl h
entry_bounced first es w l (entries.Mark i q) c can h = step_bounced first es w l (entries.Mark i q) c can refl h
entry_bounced first es w l (entries.Sync i) c can h = step_bounced first es w l (entries.Sync i) c can refl h
entry_bounced first es w l (entries.Defer i due) c can h = step_bounced first es w l (entries.Defer i due) c can refl h
entry_bounced first es w l (entries.Bounce i) c can h = step_bounced first es w l (entries.Bounce i) c can refl h
entry_bounced first es w l (entries.Remove i) c can h = step_bounced first es w l (entries.Remove i) c can refl h
entry_bounced first es w l (entries.Corrupt i) c can h = step_bounced first es w l (entries.Corrupt i) c can refl h
entry_bounced first es w l (entries.Trigger kind) c can h = step_bounced first es w l (entries.Trigger kind) c can refl h
entry_bounced first es w l entries.End c can h = step_bounced first es w l entries.End c can refl h

-- a message that leaves has had its bounce
removed_once : (first : Book) (es : List Entry) (w : World) (l : Ledger) (id : Id) (m : Message) → IsConsistent w l → may w l (entries.Remove id) ≡ true → IsBounced first es l → message_of l.book id ≡ Some m → wants_bounce m ≡ true → bounces first id es ≡ 1
removed_once first es w l id m c can h there wants =
    let now : (is_active m.place && is_at_rest l id && is_done m && (not (wants_bounce m) || has_bounce l id)) ≡ true = subst (λ (o : Option Message). option_map_or (λ (x : Message). is_active x.place && is_at_rest l id && is_done x && (not (wants_bounce x) || has_bounce l id)) o false ≡ true) there can in
    let stored : has_bounce l id ≡ true = either (wants_bounce m) (has_bounce l id) wants (and_parts (is_active m.place && is_at_rest l id && is_done m) (not (wants_bounce m) || has_bounce l id) now).1 in
    let mine = message_in l.book id m there in
    let plain : id.bounce ≡ false = ap (λ (j : Id). j.bounce) (sym mine.1) ∙ not-true m.id.bounce (and_parts (not (has_none m.failures) && not (is_none m.sender)) (not m.id.bounce) wants).1 in
    let pair = h.pairs id plain (subst (λ j. IsIn j (message_ids l.book)) mine.1 (in_map (λ (x : Message). x.id) m l.book.messages mine.0)) in
    pair ∙ once_in (bounce_of id) (all_ids l.book) c.book.distinct (listed stored)
  where
    either : (a b : Bool) → a ≡ true → (not a || b) ≡ true → b ≡ true
    either true b e k = k
    either false b e k = absurd cc

    listed : has_bounce l id ≡ true → IsIn (bounce_of id) (all_ids l.book)
    listed k = elim (or_cases (list_any (λ (x : Message). id_eq x.id (bounce_of id) && is_incoming x.place) l.book.messages) (list_any (λ (d : Damaged). id_eq d.id (bounce_of id) && is_incoming d.place) l.book.damaged) k) [
      | inl whole ↦
          let one = any_in (λ (x : Message). id_eq x.id (bounce_of id) && is_incoming x.place) l.book.messages whole in
          in_left (bounce_of id) (message_ids l.book) (map (λ (d : Damaged). d.id) l.book.damaged)
          (subst (λ j. IsIn j (message_ids l.book)) (id_eq-true one.0.id (bounce_of id) (and_parts (id_eq one.0.id (bounce_of id)) (is_incoming one.0.place) one.2).0) (in_map (λ (x : Message). x.id) one.0 l.book.messages one.1))
      | inr broken ↦
          let one = any_in (λ (d : Damaged). id_eq d.id (bounce_of id) && is_incoming d.place) l.book.damaged broken in
          in_right (bounce_of id) (message_ids l.book) (map (λ (d : Damaged). d.id) l.book.damaged)
          (subst (λ j. IsIn j (map (λ (d : Damaged). d.id) l.book.damaged)) (id_eq-true one.0.id (bounce_of id) (and_parts (id_eq one.0.id (bounce_of id)) (is_incoming one.0.place) one.2).0) (in_map (λ (d : Damaged). d.id) one.0 l.book.damaged one.1))
    ]

entry_once : (first : Book) (es : List Entry) (w : World) (l : Ledger) (e : Entry) → IsConsistent w l → may w l e ≡ true → IsBounced first es l → BouncedOnce first es l e
entry_once first es w l (entries.Remove id) c can h = λ m there wants. removed_once first es w l id m c can h there wants
entry_once first es w l (entries.Life generation mode) c can h = tt
entry_once first es w l (entries.At t) c can h = tt
entry_once first es w l (entries.Arrive i sender to content) c can h = tt
entry_once first es w l (entries.Back i) c can h = tt
entry_once first es w l (entries.Admit i) c can h = tt
entry_once first es w l (entries.Load i from to) c can h = tt
entry_once first es w l (entries.Start number i site ps) c can h = tt
entry_once first es w l (entries.Preempt child parent transport need) c can h = tt
entry_once first es w l (entries.Reply number state os) c can h = tt
entry_once first es w l (entries.Skip i site ps) c can h = tt
entry_once first es w l (entries.Log i f) c can h = tt
entry_once first es w l (entries.Mark i q) c can h = tt
entry_once first es w l (entries.Sync i) c can h = tt
entry_once first es w l (entries.Defer i due) c can h = tt
entry_once first es w l (entries.Bounce i) c can h = tt
entry_once first es w l (entries.Corrupt i) c can h = tt
entry_once first es w l (entries.Trigger kind) c can h = tt
entry_once first es w l entries.End c can h = tt

-- ---- one life

pub record HasBounced (first : Book) (done : List Entry) (w : World) (l : Ledger) (es : List Entry) : Type 0 where
  pub each : BouncedAtEach first done w l es
  pub end : IsBouncedBook first (done ++ es) (after_all w l es).book

entries_bounced : (first : Book) (done : List Entry) (w : World) (l : Ledger) (es : List Entry) → IsConsistent w l → AreEntriesOf w l es → IsBounced first done l → HasBounced first done w l es
unfolding after_all
entries_bounced first done w l [] c h b = record { each = tt; end = subst (λ xs. IsBouncedBook first xs l.book) (sym (append-nil done)) (book_of first done l b) }
entries_bounced first done w l (e ∷ es) c h b =
    let can = entry_may w l e c h.0 in
    let rest = entries_bounced first (done ++ e ∷ []) w (after w l e) es (entry_consistent w l e c h.0) h.1 (entry_bounced first done w l e c can b) in
    record { each = (entry_once first done w l e c can b, rest.each); end = subst (λ xs. IsBouncedBook first xs (after_all w (after w l e) es).book) (append_assoc done (e ∷ []) es) rest.end }

front_bounced : (first : Book) (done : List Entry) (w : World) (mode : Mode) (book : Book) (rest : List Entry) (n : ℕ) → IsUsable w → IsOrderly book → IsBouncedBook first done book → AreEntriesOf w (opening mode book) (entries.Life (book.generation + 1) mode ∷ rest) →
    HasBounced first done w (opening mode book) (take n (entries.Life (book.generation + 1) mode ∷ rest))
unfolding after_all
front_bounced first done w mode book rest zero usable good b h = record { each = tt; end = subst (λ xs. IsBouncedBook first xs book) (sym (append-nil done)) b }
front_bounced first done w mode book rest (suc n) usable good b h =
    let e = entries.Life (book.generation + 1) mode in
    let l = opening mode book in
    let begun : IsConsistent w (after w l e) = life_consistent w l mode usable good.distinct good.orderly in
    let all = entries_bounced first (done ++ e ∷ []) w (after w l e) (take n rest) begun (take_entries n w (after w l e) rest h.1) (life_bounced first done w l mode b) in
    record { each = (tt, all.each); end = subst (λ xs. IsBouncedBook first xs (after_all w (after w l e) (take n rest)).book) (append_assoc done (e ∷ []) (take n rest)) all.end }

pub one_life : (first : Book) (done : List Entry) (book : Book) (life : Life) → IsOrderly book → IsLife book life → IsBouncedBook first done book → HasBounced first done life.world (opening life.mode book) (life_entries book life)
one_life first done book life good h b =
    let w = life.world in
    let begins = first_entry w life.mode book life.items in
    let all = subst (AreEntriesOf w (opening life.mode book)) begins.1 (run_all w life.mode book life.items h.fits) in
    subst (λ es. HasBounced first done w (opening life.mode book) (take life.count es)) (sym begins.1) (front_bounced first done w life.mode book begins.0 life.count h.usable good b all)

-- ---- what it leaves

cut_generation : (e : Entry) (b : Book) → (cut_off e b).generation ≡ b.generation
cut_generation (entries.Life generation mode) b = refl
cut_generation (entries.At t) b = refl
cut_generation (entries.Arrive i sender to content) b = refl
cut_generation (entries.Back i) b = refl
cut_generation (entries.Admit i) b = refl
cut_generation (entries.Load i from to) b = refl
cut_generation (entries.Start number i site ps) b = refl
cut_generation (entries.Preempt child parent transport need) b = refl
cut_generation (entries.Reply number state os) b = refl
cut_generation (entries.Skip i site ps) b = refl
cut_generation (entries.Log i f) b = refl
cut_generation (entries.Mark i q) b = refl
cut_generation (entries.Sync i) b = refl
cut_generation (entries.Defer i due) b = refl
cut_generation (entries.Bounce i) b = refl
cut_generation (entries.Remove i) b = refl
cut_generation (entries.Corrupt i) b = refl
cut_generation (entries.Trigger kind) b = refl
cut_generation entries.End b = refl

cut_on : (b : Book) (o : Option Entry) → (option_map_or (λ e. cut_off e b) o b).generation ≡ b.generation
cut_on b None = refl
cut_on b (Some e) = cut_generation e b

step_generation : (b : Book) (s : ToolStep) → (after_step b s).generation ≡ b.generation
step_generation b (moves id place) = refl
step_generation b (fails id position) = refl

cut_step_generation : (b : Book) (s : ToolStep) → (cut_step b s).generation ≡ b.generation
cut_step_generation b (moves id place) = refl
cut_step_generation b (fails id position) = refl

generation_keep : StepsKeep (λ b c. c.generation ≡ b.generation)
generation_keep = record { same = λ b. refl; join = λ a b c h k. k ∙ h; step = step_generation; cut = cut_step_generation }

pub left_generation : (l : Ledger) (steps : List ToolStep) (left : Book) → IsLeftBy l steps left → left.generation ≡ l.book.generation
left_generation l steps left h = after_crash h.worked h.leaves ∙ worked_keeps (λ b c. c.generation ≡ b.generation) generation_keep l steps left h ∙ end h.ends
  where
    end : (h.end ≡ l.book) ⊎ (h.end ≡ cut_book l) → (h.end).generation ≡ l.book.generation
    end (inl e) = ap (λ (b : Book). b.generation) e
    end (inr e) = ap (λ (b : Book). b.generation) e ∙ cut_on l.book (slice_get l.past 0)

    after_crash : (b : Book) → (left ≡ b) ⊎ IsCrashOf b left → left.generation ≡ b.generation
    after_crash b (inl e) = ap (λ (x : Book). x.generation) e
    after_crash b (inr crash) = crash.generation

pub left_bounced : (first : Book) (es : List Entry) (l : Ledger) (steps : List ToolStep) (left : Book) → IsLeftBy l steps left → IsBouncedBook first es l.book → IsBouncedBook first es left
left_bounced first es l steps left h b =
    let whole = left_ids l steps left h in
    let broken : map (λ (d : Damaged). d.id) left.damaged ≡ map (λ (d : Damaged). d.id) l.book.damaged = left_names l steps left h in
    record {
      pairs = λ id plain there. b.pairs id plain (subst (IsIn id) whole there)
          ∙ sym (ap (λ (xs : List Id). bounces_in id (xs ++ map (λ (d : Damaged). d.id) left.damaged)) whole ∙ ap (λ (xs : List Id). bounces_in id (message_ids l.book ++ xs)) broken);
      old = λ id o. subst (λ g. id.generation ≤ g) (sym (left_generation l steps left h)) (b.old id o);
    }

lives_bounced : (first : Book) (done : List Entry) (book : Book) (lives : List Life) → IsOrderly book → AreLives book lives → IsBouncedBook first done book → BouncedThroughout first done book lives
lives_bounced first done book [] good h b = tt
lives_bounced first done book (life ∷ lives) good h b =
    let all = one_life first done book life good h.0 b in
    (all.each, lives_bounced first (done ++ life_entries book life) life.left lives (lives_orderly book (life ∷ []) good (h.0, tt)) h.1 (left_bounced first (done ++ life_entries book life) (ledger_of book life) life.steps life.left (h.0).left all.end))

-- at first as many bounces stand as stand
pub begins_bounced : (book : Book) → IsOrderly book → IsBouncedBook book [] book
begins_bounced book good = record {
  pairs = λ id plain there. omega arith;
  old = λ id o. elim o [
    | inl stored ↦ absurd cc
    | inr there ↦
        let ids = (and_parts (list_all (λ j. nat_le j.generation book.generation && is_paired book j) (all_ids book)) (list_all (λ (x : Message). is_active x.place || is_sound x) book.messages) good.orderly).0 in
        leb-true id.generation book.generation (and_parts (nat_le id.generation book.generation) (is_paired book id) (all_at (λ j. nat_le j.generation book.generation && is_paired book j) id (all_ids book) ids there)).0
  ];
}

pub all_bounced : (book : Book) (lives : List Life) → IsOrderly book → AreLives book lives → BouncedThroughout book [] book lives
all_bounced book lives good h = lives_bounced book [] book lives good h (begins_bounced book good)
