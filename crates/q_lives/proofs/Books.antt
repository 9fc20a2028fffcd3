-- The books that a life leaves are orderly, and no id stands twice in them.
use Rattle.std.proofs.Common.{◌≡◌, ℕ, true, List, [], ◌∷◌, ◌++◌, map, Some, ◌⊎◌, inl, inr, refl, sym, ap, ◌∙◌, subst, le_refl}
use Rattle.std.specs.Option.{option_map_or}
use Rattle.std.specs.Prelude.{slice_get}
use Rattle.q_laws.proofs.First.{first_on, first_positions}
use Rattle.q_laws.proofs.InPlace.{KeepsShape, changed, changed_name, keeps_active}
use Rattle.q_laws.proofs.Kept.{entry_consistent}
use Rattle.q_laws.proofs.Synced.{found_admitted}
use Rattle.q_laws.proofs.Mapped.{all_ids_mapped, orderly_mapped}
use Rattle.q_laws.proofs.Members.{IsIn, all_at}
use Rattle.q_laws.proofs.Tidied.{tidy_scan_is}
use Rattle.q_laws.proofs.Synced.{admitted_active}
use Rattle.q_laws.proofs.Unmarked.{bare_not_sealed}
use Rattle.q_laws.specs.Consistency.{IsConsistent, memory_positions}
use Rattle.q_laws.specs.Traces.{IsEntryOf}
use Rattle.q_lives.specs.Lives.{IsOrderly, cut_book}
use Rattle.q_model.specs.CutOff.{cut_off, loosened}
use Rattle.q_model.proofs.CrashLaws.{is_orderly-crash}
use Rattle.q_model.specs.Book.{Book, Damaged, message_of}
use Rattle.q_model.specs.BookChanges.{change_message}
use Rattle.q_model.specs.Crashes.{EachTo, IsCrashOf, MessageAfter}
use Rattle.q_model.specs.Book.{all_ids}
use Rattle.q_model.specs.Ids.{are_distinct}
use Rattle.q_model.specs.Ledger.{Ledger}
use Rattle.q_model.specs.Logs.{first_logged, may_log, needs_log}
use Rattle.q_model.specs.Marking.{is_unmarked_at}
use Rattle.q_model.specs.Memory.{is_admitted}
use Rattle.q_model.specs.Message.{Message}
use Rattle.q_model.specs.Places.{is_active}
use Rattle.q_model.specs.Settings.{World}
use Rattle.q_model.specs.declared.event.Mode.{Mode}
use Rattle.q_model.specs.Step.{after, change, may, noted, tidied}
use Rattle.q_model.specs.declared.entry.Entry.{Entry}
use Rattle.q_model.specs.declared.id.Id.{Id}
use Rattle.q_model.specs.declared.outcome.Failure.{Failure}
use Rattle.q_model.specs.declared.rows.Unsettled.{Unsettled}
use Rattle.q_model.specs.declared.entry.Entry.TheVariants as entries
use Rattle.q_model.specs.declared.rows.Need.TheVariants as needs

-- ---- after a crash

pub ids_after : (olds news : List Message) → EachTo MessageAfter olds news → map (λ (m : Message). m.id) news ≡ map (λ (m : Message). m.id) olds
ids_after [] [] h = refl
ids_after [] (n ∷ ns) h = absurd h
ids_after (o ∷ os) [] h = absurd h
ids_after (o ∷ os) (n ∷ ns) h = ap (λ (i : Id). i ∷ map (λ (m : Message). m.id) ns) h.0.id ∙ ap (λ (is : List Id). o.id ∷ is) (ids_after os ns h.1)

crash_ids : (b c : Book) → IsCrashOf b c → all_ids c ≡ all_ids b
crash_ids b c h = ap (λ (is : List Id). is ++ map (λ (d : Damaged). d.id) c.damaged) (ids_after b.messages c.messages h.messages) ∙ ap (λ (ds : List Damaged). map (λ (m : Message). m.id) b.messages ++ map (λ (d : Damaged). d.id) ds) h.damaged

-- ---- what each entry leaves of a ledger

pub record IsAfter (w : World) (l : Ledger) (e : Entry) : Type 0 where
  pub past : (after w l e).past ≡ e ∷ (change w l e).past
  pub book : (after w l e).book ≡ (change w l e).book
  pub admitted : (id : Id) → is_admitted (after w l e) id ≡ is_admitted (change w l e) id
  pub unsettled : (after w l e).unsettled ≡ (change w l e).unsettled

tidied_is : (w : World) (before k : Ledger) → ((tidied w before k).past ≡ k.past) × ((tidied w before k).book ≡ k.book) × ((id : Id) → is_admitted (tidied w before k) id ≡ is_admitted k id) × ((tidied w before k).unsettled ≡ k.unsettled)
tidied_is w before k =
    let scan = tidy_scan_is k in
    (ap (λ (x : Ledger). x.past) scan.2, ap (λ (x : Ledger). x.book) scan.2, λ id. ap (λ (x : Ledger). is_admitted x id) scan.2, ap (λ (x : Ledger). x.unsettled) scan.2)

pub after_is : (w : World) (l : Ledger) (e : Entry) → IsAfter w l e
unfolding after
after_is w l e = let s = tidied_is w l (noted e (change w l e)) in record { past = s.0; book = s.1; admitted = s.2; unsettled = s.3 }

-- ---- the last entry cut off

loose_shape : KeepsShape loosened
loose_shape = record { name = λ m. refl; place = λ m. refl; count = λ m. refl }

-- a failure of a message that has a bare position may be unsure
pub loose_orderly : (b : Book) (id : Id) (m : Message) (p : ℕ) → IsOrderly b → message_of b id ≡ Some m → is_active m.place ≡ true → is_unmarked_at m p ≡ true → IsOrderly (change_message b id loosened)
loose_orderly b id m p h there active bare = record {
  distinct = ap are_distinct (all_ids_mapped b b.generation (changed id loosened) (changed_name id loosened (λ x. refl))) ∙ h.distinct;
  orderly = orderly_mapped b b.generation (changed id loosened) (le_refl b.generation)
      (keeps_active b id loosened m h.distinct there loose_shape active (λ sealed. absurd (bare_not_sealed m p bare sealed))) h.orderly;
}

log_cut : (w : World) (l : Ledger) (id : Id) (f : Failure) → IsConsistent w l → may_log l id f ≡ true → IsConsistent w (after w l (entries.Log id f)) → IsOrderly (change_message (after w l (entries.Log id f)).book id loosened)
log_cut w l id f c may d =
    let e = entries.Log id f in
    let k = after w l e in
    let is = after_is w l e in
    let one = first_on l id f.position (needs_log f) l.unsettled refl may in
    let u = one.0 in
    let adm : is_admitted l id ≡ true = subst (λ i. is_admitted l i ≡ true) one.3 (all_at (λ (x : Unsettled). is_admitted l x.id) u l.unsettled c.memory.unsettled (subst (λ us. IsIn u us) (sym one.2) (inl refl))) in
    let still : is_admitted k id ≡ true = is.admitted id ∙ adm in
    let mine = admitted_active w k id d still in
    let a = found_admitted w k id d still in
    let h = d.memory.remembered a.0 mine.0 a.1 (ap (message_of k.book) a.2 ∙ mine.1.there) in
    let now : Unsettled = record u { need = needs.Mark } in
    let first : k.unsettled ≡ now ∷ one.1 = is.unsettled ∙ ap first_logged one.2 in
    let there : IsIn u.position (memory_positions k a.0.id) = first_positions now one.1 k a.0.id first (one.3 ∙ sym a.2) in
    loose_orderly k.book id mine.0 u.position (record { distinct = d.book.distinct; orderly = d.book.orderly }) mine.1.there mine.1.active
    (all_at (is_unmarked_at mine.0) u.position (memory_positions k a.0.id) h.unmarked there)

cut_entry : (w : World) (l : Ledger) (e : Entry) → IsConsistent w l → may w l e ≡ true → IsConsistent w (after w l e) → IsOrderly (cut_off e (after w l e).book)
cut_entry w l (entries.Log id f) c h d = log_cut w l id f c h d
cut_entry w l (entries.Life generation mode) c h d = record { distinct = d.book.distinct; orderly = d.book.orderly }
cut_entry w l (entries.At t) c h d = record { distinct = d.book.distinct; orderly = d.book.orderly }
cut_entry w l (entries.Arrive id sender to content) c h d = record { distinct = d.book.distinct; orderly = d.book.orderly }
cut_entry w l (entries.Back id) c h d = record { distinct = d.book.distinct; orderly = d.book.orderly }
cut_entry w l (entries.Admit id) c h d = record { distinct = d.book.distinct; orderly = d.book.orderly }
cut_entry w l (entries.Load id from to) c h d = record { distinct = d.book.distinct; orderly = d.book.orderly }
cut_entry w l (entries.Start number id site positions) c h d = record { distinct = d.book.distinct; orderly = d.book.orderly }
cut_entry w l (entries.Preempt child parent transport need) c h d = record { distinct = d.book.distinct; orderly = d.book.orderly }
cut_entry w l (entries.Reply number state outcomes) c h d = record { distinct = d.book.distinct; orderly = d.book.orderly }
cut_entry w l (entries.Skip id site positions) c h d = record { distinct = d.book.distinct; orderly = d.book.orderly }
cut_entry w l (entries.Mark id position) c h d = record { distinct = d.book.distinct; orderly = d.book.orderly }
cut_entry w l (entries.Sync id) c h d = record { distinct = d.book.distinct; orderly = d.book.orderly }
cut_entry w l (entries.Defer id due) c h d = record { distinct = d.book.distinct; orderly = d.book.orderly }
cut_entry w l (entries.Bounce id) c h d = record { distinct = d.book.distinct; orderly = d.book.orderly }
cut_entry w l (entries.Remove id) c h d = record { distinct = d.book.distinct; orderly = d.book.orderly }
cut_entry w l (entries.Corrupt id) c h d = record { distinct = d.book.distinct; orderly = d.book.orderly }
cut_entry w l (entries.Trigger kind) c h d = record { distinct = d.book.distinct; orderly = d.book.orderly }
cut_entry w l entries.End c h d = record { distinct = d.book.distinct; orderly = d.book.orderly }

cut_of : (w : World) (l : Ledger) (e : Entry) → IsOrderly (cut_off e (after w l e).book) → IsOrderly (cut_book (after w l e))
cut_of w l e h = subst IsOrderly (sym (ap (λ (es : List Entry). option_map_or (λ x. cut_off x (after w l e).book) (slice_get es 0) (after w l e).book) (after_is w l e).past)) h

-- after an entry of a consistent ledger
pub step_cut : (w : World) (l : Ledger) (e : Entry) → IsConsistent w l → IsEntryOf w l e → may w l e ≡ true → IsOrderly (cut_book (after w l e))
step_cut w l e c h can = cut_of w l e (cut_entry w l e c can (entry_consistent w l e c h))

-- after the first entry of a life
pub life_cut : (w : World) (l : Ledger) (generation : ℕ) (mode : Mode) → IsConsistent w (after w l (entries.Life generation mode)) → IsOrderly (cut_book (after w l (entries.Life generation mode)))
life_cut w l generation mode d = cut_of w l (entries.Life generation mode) (record { distinct = d.book.distinct; orderly = d.book.orderly })

-- ---- a crash

-- a crash leaves an orderly book
pub crash_orderly : (b left : Book) → IsOrderly b → (left ≡ b) ⊎ IsCrashOf b left → IsOrderly left
crash_orderly b left good (inl e) = subst IsOrderly (sym e) good
crash_orderly b left good (inr crash) = record { distinct = ap are_distinct (crash_ids b left crash) ∙ good.distinct; orderly = is_orderly-crash b left crash good.orderly }
