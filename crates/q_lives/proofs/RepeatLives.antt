-- Over every list of lives a start repeats only recipients whose mark wasn't synced.
use Rattle.std.proofs.Common.{◌≡◌, ℕ, zero, suc, ◌+◌, ◌≤◌, Bool, true, false, cond, List, [], ◌∷◌, ◌++◌, find, map, take, Option, Some, None, option_map, ◌⊎◌, inl, inr, refl, sym, ap, ◌∙◌, subst, if◌then◌else◌, arith, eqb-true, lt-ltb}
use Rattle.std.proofs.lemmas.Bool.{and_parts, or_left}
use Rattle.std.proofs.lemmas.List.{append_assoc, append-nil}
use Rattle.std.proofs.lemmas.Option.{same_Some}
use Rattle.std.specs.List.{list_any}
use Rattle.std.specs.Option.{option_map_or}
use Rattle.std.specs.Prelude.{◌==◌, ◌&&◌, ◌||◌, ◌^◌, nat_le, nat_lt, not, slice_get}
use Rattle.q_laws.proofs.Beginnings.{life_consistent}
use Rattle.q_laws.proofs.Counts.{in_times, once_times, times_append}
use Rattle.q_laws.proofs.Delivered.{this_row}
use Rattle.q_laws.proofs.Kept.{entry_consistent}
use Rattle.q_laws.proofs.Mapped.{find_mapped}
use Rattle.q_laws.proofs.Members.{IsIn, all_at, any_in, in_left, in_right}
use Rattle.q_laws.proofs.Synced.{admitted_active, found_admitted}
use Rattle.q_laws.specs.Consistency.{IsConsistent, IsUsable, are_once, flight_positions, memory_positions, unsettled_positions, waiting_positions}
use Rattle.q_laws.specs.Traces.{AreEntriesOf}
use Rattle.q_lives.proofs.Books.{after_is}
use Rattle.q_lives.proofs.BouncedLives.{left_generation}
use Rattle.q_lives.proofs.Caused.{after_still}
use Rattle.q_lives.proofs.Came.{came_parts, good_parts, lifeless, report_parts, touched_parts, touches}
use Rattle.q_lives.proofs.Growing.{EachOf, each_at, each_join, not_empty}
use Rattle.q_lives.proofs.MarkChanges.{IsFromBefore, KeepsMarks, changed_before, is_sure, marked_not_bare, same_before, same_marks, sure_marked}
use Rattle.q_lives.proofs.Remembered.{IsRemembered, IsSureIn, kept_sure, step_remembered}
use Rattle.q_lives.proofs.Standing.{ids_mapped, left_ids, message_ids}
use Rattle.q_lives.proofs.Throughout.{entry_may, first_entry, lives_orderly, run_all, take_entries}
use Rattle.q_lives.specs.Causes.{IsReported}
use Rattle.q_laws.proofs.Moved.{move_to}
use Rattle.q_lives.proofs.ToolSteps.{StepsKeep, worked_keeps}
use Rattle.q_lives.specs.Tools.{cut_step}
use Rattle.q_model.specs.Logs.{with_failure}
use Rattle.q_model.specs.ToolSteps.{ToolStep, after_step, fails, given_up, moves}
use Rattle.q_lives.specs.Lives.{AreLives, IsEnd, IsLeftBy, IsLife, IsOrderly, Life, life_entries, ledger_of, trace}
use Rattle.q_model.specs.CutOff.{cut_off, loosened}
use Rattle.q_lives.specs.Repeats.{IsMarkedForGood, IsUnsynced, RepeatsUnsynced, names}
use Rattle.q_model.proofs.IdLaws.{id_eq-refl}
use Rattle.q_model.specs.Book.{Book, message_of}
use Rattle.q_model.specs.Crashes.{EachTo, IsCrashOf, MarkAfter, MessageAfter, RecipientAfter}
use Rattle.q_model.specs.Ids.{cause_of, id_eq}
use Rattle.q_model.specs.Ledger.{Ledger, opening}
use Rattle.q_model.specs.Lives.{firm_failures, mode_eq}
use Rattle.q_model.specs.Marking.{is_unmarked_at}
use Rattle.q_model.specs.Memory.{is_admitted}
use Rattle.q_model.specs.Message.{Message, Recipient}
use Rattle.q_model.specs.Past.{arrivals, has_entries, is_life, starts}
use Rattle.q_model.specs.Settings.{World}
use Rattle.q_model.specs.Startable.{is_startable}
use Rattle.q_model.specs.Starts.{is_row, may_start}
use Rattle.q_model.specs.Step.{after, after_all, may}
use Rattle.q_model.specs.Values.{Site}
use Rattle.q_model.specs.declared.entry.Entry.{Entry}
use Rattle.q_model.specs.declared.event.Mode.{Mode}
use Rattle.q_model.specs.declared.id.Id.{Id}
use Rattle.q_model.specs.declared.rows.Mark.{Mark}
use Rattle.q_model.specs.declared.rows.Row.{Row}
use Rattle.q_model.specs.declared.entry.Entry.TheVariants as entries
use Rattle.q_model.specs.declared.rows.Mark.TheVariants as marks

-- ---- a start names nobody who has an outcome

row_in : (id : Id) (p : ℕ) (r : Row) (rs : List Row) → IsIn r rs → r.id ≡ id → IsIn p r.positions → IsIn p (waiting_positions id rs)
row_in id p r [] h same there = absurd h
row_in id p r (x ∷ rs) (inl e) same there =
    in_left p (if id_eq x.id id then x.positions else []) (waiting_positions id rs)
    (subst (λ (y : Row). IsIn p (if id_eq y.id id then y.positions else [])) (sym e) (subst (λ b. IsIn p (if b then r.positions else [])) (sym (ap (λ i. id_eq i id) same ∙ id_eq-refl id)) there))
row_in id p r (x ∷ rs) (inr h) same there = in_right p (if id_eq x.id id then x.positions else []) (waiting_positions id rs) (row_in id p r rs h same there)

twice : (p : ℕ) (xs ys : List ℕ) → are_once (xs ++ ys) ≡ true → IsIn p xs → IsIn p ys → ⊥
twice p xs ys once h k =
    let a = in_times p xs h in
    let b = in_times p ys k in
    let both = times_append p xs ys in
    let one = once_times (xs ++ ys) once p in
    absurd (omega (arith, a, b, both, one))

-- the recipient waits: no outcome of it is unsettled, and it has no mark
record IsWaiting (l : Ledger) (id : Id) (p : ℕ) : Type 0 where
  message : Message
  there : message_of l.book id ≡ Some message
  bare : is_unmarked_at message p ≡ true
  unsettled : IsIn p (unsettled_positions id l.unsettled) → ⊥

start_waits : (w : World) (l : Ledger) (number : ℕ) (id : Id) (site : Site) (ps : List ℕ) (p : ℕ) → IsConsistent w l → may_start w l number id site ps ≡ true → names p ps ≡ true → IsWaiting l id p
start_waits w l number id site ps p c can named =
    let two = and_parts (number == starts l + 1) (list_any (λ (r : Row). is_row id site ps r && is_startable w l r) l.waiting) can in
    let one = any_in (λ (r : Row). is_row id site ps r && is_startable w l r) l.waiting two.1 in
    let row = this_row id site ps one.0 (and_parts (is_row id site ps one.0) (is_startable w l one.0) one.2).0 in
    let adm : is_admitted l id ≡ true = subst (λ j. is_admitted l j ≡ true) row.name (all_at (λ (r : Row). is_admitted l r.id) one.0 l.waiting c.memory.waiting one.1) in
    let mine = admitted_active w l id c adm in
    let a = found_admitted w l id c adm in
    let remembered = c.memory.remembered a.0 mine.0 a.1 (ap (message_of l.book) a.2 ∙ mine.1.there) in
    let q = any_in (λ n. n == p) ps named in
    let inside : IsIn p one.0.positions = subst (IsIn p) (sym row.positions) (subst (λ n. IsIn n ps) (eqb-true q.0 p q.2) q.1) in
    let waits : IsIn p (waiting_positions a.0.id l.waiting) = row_in a.0.id p one.0 l.waiting one.1 (row.name ∙ sym a.2) inside in
    let front = waiting_positions a.0.id l.waiting ++ flight_positions a.0.id l.flights in
    let there : IsIn p front = in_left p (waiting_positions a.0.id l.waiting) (flight_positions a.0.id l.flights) waits in
    record {
      message = mine.0;
      there = mine.1.there;
      bare = all_at (is_unmarked_at mine.0) p (memory_positions l a.0.id) remembered.unmarked (in_left p front (unsettled_positions a.0.id l.unsettled) there);
      unsettled = λ k. twice p front (unsettled_positions a.0.id l.unsettled) remembered.once there (subst (λ i. IsIn p (unsettled_positions i l.unsettled)) (sym a.2) k);
    }

-- a trace with a report in it, cut somewhere behind the report
report_join : (before between xs tail : List Entry) (start last : Entry) → before ++ (start ∷ (between ++ (last ∷ (xs ++ tail)))) ≡ (before ++ (start ∷ (between ++ (last ∷ xs)))) ++ tail
report_join before between xs tail start last = ap (λ ys. before ++ (start ∷ ys)) (sym (append_assoc between (last ∷ xs) tail)) ∙ sym (append_assoc before (start ∷ (between ++ (last ∷ xs))) tail)

-- what was marked for good behind a report was so in the trace
good_behind : (id : Id) (p : ℕ) (es mid : List Entry) → IsReported id p es mid → IsMarkedForGood id p mid → IsMarkedForGood id p es
good_behind id p es mid r g =
    let start = entries.Start r.number id r.site r.positions in
    let last = entries.Reply r.number r.state r.outcomes in
    let tail = entries.Mark id p ∷ (g.between ++ (entries.Sync id ∷ g.later)) in
    record {
      before = r.before ++ (start ∷ (r.between ++ (last ∷ g.before)));
      between = g.between;
      later = g.later;
      entries = r.entries ∙ ap (λ xs. r.before ++ (start ∷ (r.between ++ (last ∷ xs)))) g.entries ∙ report_join r.before r.between g.before tail start last;
      same_life = g.same_life;
    }

start_unsynced : (es : List Entry) (w : World) (l : Ledger) (number : ℕ) (id : Id) (site : Site) (ps : List ℕ) → IsConsistent w l → may_start w l number id site ps ≡ true → IsRemembered es l →
    (p : ℕ) (mid : List Entry) → IsReported id p es mid → names p ps ≡ true → IsUnsynced id p mid
start_unsynced es w l number id site ps c can h p mid r named =
    let waits = start_waits w l number id site ps p c can named in
    record {
      another_life = on waits (list_any is_life mid) refl;
      not_for_good = λ g. marked_not_bare waits.message p (sure_marked waits.message p (h.sure id p (good_behind id p es mid r g) waits.message waits.there)) waits.bare;
    }
  where
    on : IsWaiting l id p → (b : Bool) → list_any is_life mid ≡ b → b ≡ true
    on waits true e = refl
    on waits false e = elim (h.reported id p mid r e waits.message waits.there) [
      | inl unsettled ↦ absurd (waits.unsettled unsettled)
      | inr marked ↦ absurd (marked_not_bare waits.message p marked waits.bare)
    ]

-- an entry that is a start names nobody who was reported, but as such a repeat
abbrev NoRepeat : List Entry → Entry → Type 0
NoRepeat done (entries.Start number id site ps) = (p : ℕ) (mid : List Entry) → IsReported id p done mid → names p ps ≡ true → IsUnsynced id p mid
NoRepeat done _ = Unit {0}

no_repeat : (es : List Entry) (w : World) (l : Ledger) (e : Entry) → IsConsistent w l → may w l e ≡ true → IsRemembered es l → NoRepeat es e
no_repeat es w l (entries.Start number i site ps) c can h = start_unsynced es w l number i site ps c can h
no_repeat es w l (entries.Life generation mode) c can h = tt
no_repeat es w l (entries.At t) c can h = tt
no_repeat es w l (entries.Arrive i sender to content) c can h = tt
no_repeat es w l (entries.Back i) c can h = tt
no_repeat es w l (entries.Admit i) c can h = tt
no_repeat es w l (entries.Load i from to) c can h = tt
no_repeat es w l (entries.Preempt child parent transport need) c can h = tt
no_repeat es w l (entries.Reply number state os) c can h = tt
no_repeat es w l (entries.Skip i site ps) c can h = tt
no_repeat es w l (entries.Log i f) c can h = tt
no_repeat es w l (entries.Mark i q) c can h = tt
no_repeat es w l (entries.Sync i) c can h = tt
no_repeat es w l (entries.Defer i due) c can h = tt
no_repeat es w l (entries.Bounce i) c can h = tt
no_repeat es w l (entries.Remove i) c can h = tt
no_repeat es w l (entries.Corrupt i) c can h = tt
no_repeat es w l (entries.Trigger kind) c can h = tt
no_repeat es w l entries.End c can h = tt

-- ---- between lives

-- the id is of no later generation; and where it is a bounce's, the message that it is of is gone
record IsKnownBook (b : Book) (id : Id) : Type 0 where
  generation : id.generation ≤ b.generation
  alone : id.bounce ≡ true → IsIn (cause_of id) (message_ids b) → ⊥

-- what the entries so far leave known of a book
record IsRememberedBook (es : List Entry) (b : Book) : Type 0 where
  known : (id : Id) → list_any (touches id) es ≡ true → IsKnownBook b id
  sure : (id : Id) (p : ℕ) → IsMarkedForGood id p es → IsSureIn b id p

book_of : (es : List Entry) (l : Ledger) → IsRemembered es l → IsRememberedBook es l.book
book_of es l h = record {
  known = λ id t. let k = h.known id t in record { generation = k.come.generation; alone = k.alone };
  sure = h.sure;
}

alive : (g : ℕ) (mode : Mode) → is_life (entries.Life g mode) ≡ false → ⊥
alive g mode h = let bad : true ≡ false = h in absurd cc

firm_before : (b c : Book) (id : Id) → c.messages ≡ map firm_failures b.messages → IsFromBefore b c id
firm_before b c id same n h = on (message_of b id) refl (sym (ap (λ (ms : List Message). find (λ (m : Message). id_eq m.id id) ms) same ∙ find_mapped firm_failures (λ m. refl) id b.messages) ∙ h)
  where
    on : (o : Option Message) → message_of b id ≡ o → option_map firm_failures o ≡ Some n → (m : Message) × (message_of b id ≡ Some m) × KeepsMarks m n
    on None e k = absurd cc
    on (Some m) e k = (m, e, subst (KeepsMarks m) (same_Some (firm_failures m) n k) (same_marks m (firm_failures m) refl))

-- a life begins
life_remembered : (es : List Entry) (w : World) (l : Ledger) (mode : Mode) → IsRememberedBook es l.book → IsRemembered (es ++ entries.Life (l.book.generation + 1) mode ∷ []) (after w l (entries.Life (l.book.generation + 1) mode))
life_remembered es w l mode h =
    let e = entries.Life (l.book.generation + 1) mode in
    let k = after w l e in
    let is = after_is w l e in
    let still = after_still w l e in
    let whole : message_ids k.book ≡ message_ids l.book = ap (λ (b : Book). message_ids b) is.book ∙ ids_mapped firm_failures l.book.messages (λ m. refl) in
    let generation : k.book.generation ≡ l.book.generation + 1 = ap (λ (b : Book). b.generation) is.book in
    record {
      known = λ id t. elim (touched_parts id es e t) [
        | inl old ↦
            let was = h.known id old in
            let below : id.generation ≤ l.book.generation = was.generation in
            record {
              come = record {
                come = or_left (nat_lt id.generation k.book.generation) (nat_le id.serial (arrivals k)) (lt-ltb id.generation k.book.generation (omega (arith, below, generation)));
                generation = omega (arith, below, generation);
              };
              alone = λ flag there. was.alone flag (subst (IsIn (cause_of id)) whole there);
            }
        | inr new ↦ absurd cc
      ];
      started = λ n id site ps came. elim (came_parts es e (entries.Start n id site ps) came) [
        | inl new ↦ (let bad : false ≡ true = ap is_life new in absurd cc)
        | inr old ↦ absurd (alive (l.book.generation + 1) mode old.1)
      ];
      reported = λ id p mid r same_life. elim (report_parts id p es e mid r) [
        | inl new ↦ (let bad : true ≡ false = ap is_life new.5 in absurd cc)
        | inr old ↦ absurd (alive (l.book.generation + 1) mode (lifeless old.0 e (sym (ap (list_any is_life) old.1) ∙ same_life)).1)
      ];
      marked = λ id p came. elim (came_parts es e (entries.Mark id p) came) [
        | inl new ↦ (let bad : false ≡ true = ap is_life new in absurd cc)
        | inr old ↦ absurd (alive (l.book.generation + 1) mode old.1)
      ];
      sure = λ id p good. elim (good_parts id p es e good) [
        | inl new ↦ (let bad : true ≡ false = ap is_life new.0 in absurd cc)
        | inr old ↦ kept_sure l.book k.book id p (firm_before l.book k.book id (ap (λ (b : Book). b.messages) still.book)) (h.sure id p old)
      ];
    }

life_entry : (es : List Entry) (w : World) (l : Ledger) (generation : ℕ) (mode : Mode) → may w l (entries.Life generation mode) ≡ true → IsRemembered es l → IsRemembered (es ++ entries.Life generation mode ∷ []) (after w l (entries.Life generation mode))
life_entry es w l generation mode can h =
    let two = and_parts ((generation == l.book.generation + 1) && nat_lt generation (2 ^ 32)) (not (has_entries l) || mode_eq mode l.mode) can in
    let same = eqb-true generation (l.book.generation + 1) (and_parts (generation == l.book.generation + 1) (nat_lt generation (2 ^ 32)) two.0).0 in
    subst (λ g. IsRemembered (es ++ entries.Life g mode ∷ []) (after w l (entries.Life g mode))) (sym same) (life_remembered es w l mode (book_of es l h))

life_or_not : (e : Entry) → ((g : ℕ) × (mode : Mode) × (e ≡ entries.Life g mode)) ⊎ (is_life e ≡ false)
life_or_not (entries.Life generation mode) = inl (generation, mode, refl)
life_or_not (entries.At t) = inr refl
life_or_not (entries.Arrive i sender to content) = inr refl
life_or_not (entries.Back i) = inr refl
life_or_not (entries.Admit i) = inr refl
life_or_not (entries.Load i from to) = inr refl
life_or_not (entries.Start number i site ps) = inr refl
life_or_not (entries.Preempt child parent transport need) = inr refl
life_or_not (entries.Reply number state os) = inr refl
life_or_not (entries.Skip i site ps) = inr refl
life_or_not (entries.Log i f) = inr refl
life_or_not (entries.Mark i q) = inr refl
life_or_not (entries.Sync i) = inr refl
life_or_not (entries.Defer i due) = inr refl
life_or_not (entries.Bounce i) = inr refl
life_or_not (entries.Remove i) = inr refl
life_or_not (entries.Corrupt i) = inr refl
life_or_not (entries.Trigger kind) = inr refl
life_or_not entries.End = inr refl

entry_remembered : (es : List Entry) (w : World) (l : Ledger) (e : Entry) → IsConsistent w l → may w l e ≡ true → IsRemembered es l → IsRemembered (es ++ e ∷ []) (after w l e)
entry_remembered es w l e c can h = elim (life_or_not e) [
  | inl life ↦ subst (λ x. IsRemembered (es ++ x ∷ []) (after w l x)) (sym life.2) (life_entry es w l life.0 life.1 (subst (λ x. may w l x ≡ true) life.2 can) h)
  | inr none ↦ step_remembered es w l e c can none h
]

-- ---- one life

record HasNoRepeat (done : List Entry) (w : World) (l : Ledger) (es : List Entry) : Type 0 where
  each : EachOf NoRepeat done es
  end : IsRememberedBook (done ++ es) (after_all w l es).book

entries_repeat : (done : List Entry) (w : World) (l : Ledger) (es : List Entry) → IsConsistent w l → AreEntriesOf w l es → IsRemembered done l → HasNoRepeat done w l es
unfolding after_all
entries_repeat done w l [] c h b = record { each = tt; end = subst (λ xs. IsRememberedBook xs l.book) (sym (append-nil done)) (book_of done l b) }
entries_repeat done w l (e ∷ es) c h b =
    let can = entry_may w l e c h.0 in
    let rest = entries_repeat (done ++ e ∷ []) w (after w l e) es (entry_consistent w l e c h.0) h.1 (entry_remembered done w l e c can b) in
    record { each = (no_repeat done w l e c can b, rest.each); end = subst (λ xs. IsRememberedBook xs (after_all w (after w l e) es).book) (append_assoc done (e ∷ []) es) rest.end }

front_repeat : (done : List Entry) (w : World) (mode : Mode) (book : Book) (rest : List Entry) (n : ℕ) → IsUsable w → IsOrderly book → IsRememberedBook done book → AreEntriesOf w (opening mode book) (entries.Life (book.generation + 1) mode ∷ rest) →
    HasNoRepeat done w (opening mode book) (take n (entries.Life (book.generation + 1) mode ∷ rest))
unfolding after_all
front_repeat done w mode book rest zero usable good b h = record { each = tt; end = subst (λ xs. IsRememberedBook xs book) (sym (append-nil done)) b }
front_repeat done w mode book rest (suc n) usable good b h =
    let e = entries.Life (book.generation + 1) mode in
    let l = opening mode book in
    let begun : IsConsistent w (after w l e) = life_consistent w l mode usable good.distinct good.orderly in
    let all = entries_repeat (done ++ e ∷ []) w (after w l e) (take n rest) begun (take_entries n w (after w l e) rest h.1) (life_remembered done w l mode b) in
    record { each = (tt, all.each); end = subst (λ xs. IsRememberedBook xs (after_all w (after w l e) (take n rest)).book) (append_assoc done (e ∷ []) (take n rest)) all.end }

one_life : (done : List Entry) (book : Book) (life : Life) → IsOrderly book → IsLife book life → IsRememberedBook done book → HasNoRepeat done life.world (opening life.mode book) (life_entries book life)
one_life done book life good h b =
    let w = life.world in
    let begins = first_entry w life.mode book life.items in
    let all = subst (AreEntriesOf w (opening life.mode book)) begins.1 (run_all w life.mode book life.items h.fits) in
    subst (λ es. HasNoRepeat done w (opening life.mode book) (take life.count es)) (sym begins.1) (front_repeat done w life.mode book begins.0 life.count h.usable good b all)

-- ---- what it leaves

cut_before : (e : Entry) (b : Book) (id : Id) → IsFromBefore b (cut_off e b) id
cut_before (entries.Log i failure) b id = changed_before b i loosened id (λ m. refl) (λ m there. same_marks m (loosened m) refl)
cut_before (entries.Life generation mode) b id = same_before b b id refl
cut_before (entries.At t) b id = same_before b b id refl
cut_before (entries.Arrive i sender to content) b id = same_before b b id refl
cut_before (entries.Back i) b id = same_before b b id refl
cut_before (entries.Admit i) b id = same_before b b id refl
cut_before (entries.Load i from to) b id = same_before b b id refl
cut_before (entries.Start number i site ps) b id = same_before b b id refl
cut_before (entries.Preempt child parent transport need) b id = same_before b b id refl
cut_before (entries.Reply number state os) b id = same_before b b id refl
cut_before (entries.Skip i site ps) b id = same_before b b id refl
cut_before (entries.Mark i q) b id = same_before b b id refl
cut_before (entries.Sync i) b id = same_before b b id refl
cut_before (entries.Defer i due) b id = same_before b b id refl
cut_before (entries.Bounce i) b id = same_before b b id refl
cut_before (entries.Remove i) b id = same_before b b id refl
cut_before (entries.Corrupt i) b id = same_before b b id refl
cut_before (entries.Trigger kind) b id = same_before b b id refl
cut_before entries.End b id = same_before b b id refl

cut_on : (b : Book) (o : Option Entry) (id : Id) → IsFromBefore b (option_map_or (λ e. cut_off e b) o b) id
cut_on b None id = same_before b b id refl
cut_on b (Some e) id = cut_before e b id

mark_stays : (old new : Mark) → MarkAfter old new → is_sure old ≡ true → is_sure new ≡ true
mark_stays marks.Unmarked new h e = absurd cc
mark_stays marks.Written new h e = absurd cc
mark_stays marks.Synced new h e = ap is_sure h

marks_stay : (olds news : List Recipient) (p : ℕ) → EachTo RecipientAfter olds news → option_map_or (λ (r : Recipient). is_sure r.mark) (slice_get olds p) false ≡ true → option_map_or (λ (r : Recipient). is_sure r.mark) (slice_get news p) false ≡ true
marks_stay [] [] p h e = e
marks_stay [] (n ∷ ns) p h e = absurd h
marks_stay (o ∷ os) [] p h e = absurd h
marks_stay (o ∷ os) (n ∷ ns) zero h e = mark_stays o.mark n.mark h.0.mark e
marks_stay (o ∷ os) (n ∷ ns) (suc p) h e = marks_stay os ns p h.1 e

crash_find : (olds news : List Message) (id : Id) (n : Message) → EachTo MessageAfter olds news → find (λ (m : Message). id_eq m.id id) news ≡ Some n → (m : Message) × (find (λ (x : Message). id_eq x.id id) olds ≡ Some m) × MessageAfter m n
crash_find [] [] id n h e = absurd cc
crash_find [] (x ∷ ns) id n h e = absurd h
crash_find (o ∷ os) [] id n h e = absurd h
crash_find (o ∷ os) (x ∷ ns) id n h e = on (id_eq x.id id) (id_eq o.id id) (ap (λ (i : Id). id_eq i id) (sym h.0.id)) (crash_find os ns id n h.1) e
  where
    on : (t u : Bool) → u ≡ t → (find (λ (m : Message). id_eq m.id id) ns ≡ Some n → (m : Message) × (find (λ (y : Message). id_eq y.id id) os ≡ Some m) × MessageAfter m n) →
        cond t (Some x) (find (λ (m : Message). id_eq m.id id) ns) ≡ Some n → (m : Message) × (cond u (Some o) (find (λ (y : Message). id_eq y.id id) os) ≡ Some m) × MessageAfter m n
    on true true same rest k = (o, refl, subst (MessageAfter o) (same_Some x n k) h.0)
    on false false same rest k = rest k
    on true false same rest k = absurd cc
    on false true same rest k = absurd cc

crash_sure : (b c : Book) (id : Id) (p : ℕ) → IsCrashOf b c → IsSureIn b id p → IsSureIn c id p
crash_sure b c id p h sure n there = let was = crash_find b.messages c.messages id n h.messages there in marks_stay was.0.recipients n.recipients p was.2.recipients (sure was.0 was.1)

-- who is marked for sure in a book is so in another
abbrev StaySure : Book → Book → Type 0
StaySure b c = (id : Id) (p : ℕ) → IsSureIn b id p → IsSureIn c id p

step_sure : (b : Book) (s : ToolStep) → StaySure b (after_step b s)
step_sure b (moves i place) = λ id p. kept_sure b (after_step b (moves i place)) id p (changed_before b i (move_to place) id (λ m. refl) (λ m there. same_marks m (move_to place m) refl))
step_sure b (fails i position) = λ id p. kept_sure b (after_step b (fails i position)) id p
    (changed_before b i (with_failure (given_up position)) id (λ m. refl) (λ m there. same_marks m (with_failure (given_up position) m) refl))

cut_step_sure : (b : Book) (s : ToolStep) → StaySure b (cut_step b s)
cut_step_sure b (moves i place) = λ id p sure. sure
cut_step_sure b (fails i position) = λ id p. kept_sure b (cut_step b (fails i position)) id p (changed_before b i loosened id (λ m. refl) (λ m there. same_marks m (loosened m) refl))

sure_keep : StepsKeep StaySure
sure_keep = record { same = λ b id p sure. sure; join = λ a b c h k id p sure. k id p (h id p sure); step = step_sure; cut = cut_step_sure }

left_remembered : (es : List Entry) (l : Ledger) (steps : List ToolStep) (left : Book) → IsLeftBy l steps left → IsRememberedBook es l.book → IsRememberedBook es left
left_remembered es l steps left h b = record {
  known = λ id t. let k = b.known id t in record {
    generation = subst (λ g. id.generation ≤ g) (sym (left_generation l steps left h)) k.generation;
    alone = λ flag there. k.alone flag (subst (IsIn (cause_of id)) (left_ids l steps left h) there);
  };
  sure = λ id p good. after_crash h.worked h.leaves id p (worked_keeps StaySure sure_keep l steps left h id p (end h.ends id p (b.sure id p good)));
}
  where
    end : IsEnd l h.end → (id : Id) (p : ℕ) → IsSureIn l.book id p → IsSureIn h.end id p
    end (inl e) id p sure = subst (λ x. IsSureIn x id p) (sym e) sure
    end (inr e) id p sure = subst (λ x. IsSureIn x id p) (sym e) (kept_sure l.book (option_map_or (λ y. cut_off y l.book) (slice_get l.past 0) l.book) id p (cut_on l.book (slice_get l.past 0) id) sure)

    after_crash : (c : Book) → (left ≡ c) ⊎ IsCrashOf c left → (id : Id) (p : ℕ) → IsSureIn c id p → IsSureIn left id p
    after_crash c (inl e) id p sure = subst (λ x. IsSureIn x id p) (sym e) sure
    after_crash c (inr crash) id p sure = crash_sure c left id p crash sure

-- ---- all lives

lives_repeat : (done : List Entry) (book : Book) (lives : List Life) → IsOrderly book → AreLives book lives → IsRememberedBook done book → EachOf NoRepeat done (trace book lives)
lives_repeat done book [] good h b = tt
lives_repeat done book (life ∷ lives) good h b =
    let all = one_life done book life good h.0 b in
    each_join NoRepeat done (life_entries book life) (trace life.left lives) all.each
    (lives_repeat (done ++ life_entries book life) life.left lives (lives_orderly book (life ∷ []) good (h.0, tt)) h.1 (left_remembered (done ++ life_entries book life) (ledger_of book life) life.steps life.left (h.0).left all.end))

begins_remembered : (book : Book) → IsRememberedBook [] book
begins_remembered book = record {
  known = λ id t. absurd cc;
  sure = λ id p good. absurd (not_empty good.before (entries.Mark id p) (good.between ++ (entries.Sync id ∷ good.later)) good.entries);
}

pub all_repeat : (book : Book) (lives : List Life) → IsOrderly book → AreLives book lives → RepeatsUnsynced (trace book lives)
all_repeat book lives good h id p mid later number site ps r named =
    let start = entries.Start r.number id r.site r.positions in
    let last = entries.Reply r.number r.state r.outcomes in
    let front = r.before ++ (start ∷ (r.between ++ (last ∷ mid))) in
    let each = lives_repeat [] book lives good h (begins_remembered book) in
    let here = each_at NoRepeat [] (trace book lives) front (entries.Start number id site ps) later each (r.entries ∙ report_join r.before r.between mid (entries.Start number id site ps ∷ later) start last) in
    here p mid (record { before = r.before; between = r.between; number = r.number; site = r.site; positions = r.positions; state = r.state; outcomes = r.outcomes; entries = refl; same_life = r.same_life; ok = r.ok }) named
