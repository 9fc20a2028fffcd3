-- A message that arrived stands in one queue file until it is removed.
use Rattle.std.proofs.Common.{◌≡◌, ℕ, ◌+◌, Bool, true, false, cond, not, List, [], ◌∷◌, ◌++◌, filter, map, count_by, Option, Some, None, ◌⊎◌, inl, inr, refl, sym, ap, ◌∙◌, subst, arith}
use Rattle.std.proofs.lemmas.Bool.{not_from_false}
use Rattle.std.proofs.lemmas.List.Sums.{sum_by-cons}
use Rattle.std.specs.Option.{option_map_or}
use Rattle.std.specs.Prelude.{length, nat_le, replicate, slice_get}
use Rattle.q_model.specs.Arrivals.{arrived}
use Rattle.q_model.specs.Skips.{unqueued}
use Rattle.q_model.specs.declared.rows.Place.TheVariants as places
use Rattle.q_laws.proofs.Distinct.{distinct_parts, distinct_tail, id_cases}
use Rattle.q_laws.proofs.InPlace.{changed, changed_name}
use Rattle.q_laws.proofs.Mapped.{names_mapped}
use Rattle.q_laws.proofs.Moved.{move_to}
use Rattle.q_lives.proofs.ToolSteps.{StepsKeep, worked_keeps}
use Rattle.q_lives.specs.Tools.{cut_step}
use Rattle.q_model.specs.ToolSteps.{ToolStep, after_step, fails, given_up, moves}
use Rattle.q_laws.proofs.Members.{IsIn, find_none_from, in_filter, in_left, in_map, in_unmap}
use Rattle.q_lives.proofs.Books.{after_is, ids_after}
use Rattle.q_lives.specs.Lives.{cut_book}
use Rattle.q_lives.proofs.Caused.{at_alike, load_alike, trigger_alike}
use Rattle.q_lives.specs.Standing.{is_remove_of}
use Rattle.q_lives.specs.Lives.{IsLeftBy}
use Rattle.q_model.specs.CutOff.{cut_off, loosened}
use Rattle.q_model.proofs.IdLaws.{id_eq-refl, id_eq-true}
use Rattle.q_model.specs.Book.{Book, Damaged, damaged_of, message_of}
use Rattle.q_model.specs.BookChanges.{change_message}
use Rattle.q_model.specs.Crashes.{IsCrashOf}
use Rattle.q_model.specs.Deliveries.{flight_of}
use Rattle.q_model.specs.Book.{all_ids}
use Rattle.q_model.specs.Ids.{are_distinct}
use Rattle.q_model.specs.Ids.{id_eq}
use Rattle.q_model.specs.Ledger.{Ledger}
use Rattle.q_model.specs.Lives.{firm_failures}
use Rattle.q_model.specs.Logs.{with_failure}
use Rattle.q_model.specs.Marking.{with_mark}
use Rattle.q_model.specs.Message.{Message}
use Rattle.q_model.specs.Notices.{bounce_message}
use Rattle.q_model.specs.Replies.{landed, replied}
use Rattle.q_model.specs.Settings.{World}
use Rattle.q_model.specs.Settling.{needs_of}
use Rattle.q_model.specs.Step.{after, change}
use Rattle.q_model.specs.Syncs.{sync_all}
use Rattle.q_model.specs.declared.entry.Entry.{Entry}
use Rattle.q_model.specs.declared.id.Id.{Id}
use Rattle.q_model.specs.declared.outcome.Outcome.{Outcome}
use Rattle.q_model.specs.declared.outcome.SiteState.{SiteState}
use Rattle.q_model.specs.declared.rows.Delivery.{Delivery}
use Rattle.q_model.specs.declared.entry.Entry.TheVariants as entries
use Rattle.q_model.specs.declared.outcome.Outcome.TheVariants as outcomes

-- the ids of the messages
abbrev pub message_ids : Book → List Id
message_ids b = map (λ (m : Message). m.id) b.messages

pub ids_mapped : (f : Message → Message) (ms : List Message) → ((m : Message) → (f m).id ≡ m.id) → map (λ (m : Message). m.id) (map f ms) ≡ map (λ (m : Message). m.id) ms
ids_mapped f [] name = refl
ids_mapped f (m ∷ ms) name = ap (λ (i : Id). i ∷ map (λ (x : Message). x.id) (map f ms)) (name m) ∙ ap (λ (is : List Id). m.id ∷ is) (ids_mapped f ms name)

pub ids_changed : (b : Book) (i : Id) (f : Message → Message) → ((m : Message) → (f m).id ≡ m.id) → message_ids (change_message b i f) ≡ message_ids b
ids_changed b i f name = ids_mapped (changed i f) b.messages (changed_name i f name)

pub ids_more : (ms : List Message) (x : Message) → map (λ (m : Message). m.id) (ms ++ x ∷ []) ≡ map (λ (m : Message). m.id) ms ++ x.id ∷ []
ids_more [] x = refl
ids_more (m ∷ ms) x = ap (λ (is : List Id). m.id ∷ is) (ids_more ms x)

-- ---- who stands stays, unless it is removed

abbrev Stays : Id → Entry → Book → Type 0
Stays id e b = (is_remove_of id e ≡ true) ⊎ IsIn id (message_ids b)

same_ids : (id : Id) (e : Entry) (b c : Book) → message_ids c ≡ message_ids b → IsIn id (message_ids b) → Stays id e c
same_ids id e b c same h = inr (subst (IsIn id) (sym same) h)

same_book : (id : Id) (e : Entry) (b c : Book) → c ≡ b → IsIn id (message_ids b) → Stays id e c
same_book id e b c same h = inr (subst (λ x. IsIn id (message_ids x)) (sym same) h)

remove_stays : (l : Ledger) (i id : Id) → IsIn id (message_ids l.book) → Stays id (entries.Remove i) (record l.book { messages = filter (λ (m : Message). not (id_eq m.id i)) l.book.messages })
remove_stays l i id h = elim (id_cases i id) [
  | inl same ↦ inl same.1
  | inr other ↦
      let one = in_unmap (λ (m : Message). m.id) id l.book.messages h in
      let apart : id_eq one.0.id i ≡ false = elim (id_cases one.0.id i) [
        | inl s ↦ (let bad : false ≡ true = sym other ∙ ap (id_eq i) (sym one.2 ∙ s.0) ∙ id_eq-refl i in absurd cc)
        | inr o ↦ o
      ] in
      inr (subst (λ j. IsIn j (map (λ (m : Message). m.id) (filter (λ (m : Message). not (id_eq m.id i)) l.book.messages))) one.2
      (in_map (λ (m : Message). m.id) one.0 (filter (λ (m : Message). not (id_eq m.id i)) l.book.messages) (in_filter (λ (m : Message). not (id_eq m.id i)) one.0 l.book.messages one.1 (not_from_false (id_eq one.0.id i) apart))))
]

added_stays : (id : Id) (e : Entry) (b : Book) (x : Message) → IsIn id (message_ids b) → Stays id e (record b { messages = b.messages ++ x ∷ [] })
added_stays id e b x h = inr (subst (IsIn id) (sym (ids_more b.messages x)) (in_left id (message_ids b) (x.id ∷ []) h))

bounce_stays : (l : Ledger) (id : Id) (e : Entry) (o : Option Message) → IsIn id (message_ids l.book) → Stays id e (option_map_or (λ (m : Message). record l { book = record l.book { messages = l.book.messages ++ bounce_message l.now m ∷ [] } }) o l).book
bounce_stays l id e None h = inr h
bounce_stays l id e (Some m) h = added_stays id e l.book (bounce_message l.now m) h

pub with_outcomes_book : (w : World) (k : Ledger) (ps : List ℕ) (os : List Outcome) (o : Option Message) → (option_map_or (λ (m : Message). record k { unsettled = k.unsettled ++ needs_of w k.now m ps os }) o k).book ≡ k.book
with_outcomes_book w k ps os None = refl
with_outcomes_book w k ps os (Some m) = refl

pub reply_book : (w : World) (l : Ledger) (state : SiteState) (os : List Outcome) (o : Option Delivery) → (option_map_or (λ (f : Delivery). replied w l state os f) o l).book ≡ l.book
reply_book w l state os None = refl
reply_book w l state os (Some f) = with_outcomes_book w (landed w l state f) f.row.positions os (message_of l.book f.row.id)

change_stays : (w : World) (l : Ledger) (e : Entry) (id : Id) → IsIn id (message_ids l.book) → Stays id e (change w l e).book
change_stays w l (entries.Life generation mode) id h = same_ids id (entries.Life generation mode) l.book (change w l (entries.Life generation mode)).book (ids_mapped firm_failures l.book.messages (λ m. refl)) h
change_stays w l (entries.At t) id h = same_book id (entries.At t) l.book (change w l (entries.At t)).book (at_alike w l t (nat_le l.next_run t)).book h
change_stays w l (entries.Arrive i sender to content) id h = added_stays id (entries.Arrive i sender to content) l.book (arrived l i sender to content) h
change_stays w l (entries.Back i) id h = same_ids id (entries.Back i) l.book (change w l (entries.Back i)).book (ids_changed l.book i (λ m. record m { place = places.Incoming }) (λ m. refl)) h
change_stays w l (entries.Admit i) id h = same_ids id (entries.Admit i) l.book (change w l (entries.Admit i)).book (ids_changed l.book i (λ m. record m { place = places.Active }) (λ m. refl)) h
change_stays w l (entries.Load i from to) id h = same_book id (entries.Load i from to) l.book (change w l (entries.Load i from to)).book (load_alike w l i from to (message_of l.book i)).book h
change_stays w l (entries.Start number i site ps) id h = inr h
change_stays w l (entries.Preempt child parent transport need) id h = inr h
change_stays w l (entries.Reply number state os) id h = same_book id (entries.Reply number state os) l.book (change w l (entries.Reply number state os)).book (reply_book w l state os (flight_of l number)) h
change_stays w l (entries.Skip i site ps) id h = same_book id (entries.Skip i site ps) l.book (change w l (entries.Skip i site ps)).book (with_outcomes_book w (unqueued l i site ps) ps (replicate (length ps) (outcomes.Later 0)) (message_of l.book i)) h
change_stays w l (entries.Log i f) id h = same_ids id (entries.Log i f) l.book (change w l (entries.Log i f)).book (ids_changed l.book i (with_failure f) (λ m. refl)) h
change_stays w l (entries.Mark i q) id h = same_ids id (entries.Mark i q) l.book (change w l (entries.Mark i q)).book (ids_changed l.book i (with_mark q) (λ m. refl)) h
change_stays w l (entries.Sync i) id h = same_ids id (entries.Sync i) l.book (change w l (entries.Sync i)).book (ids_changed l.book i sync_all (λ m. refl)) h
change_stays w l (entries.Defer i due) id h = same_ids id (entries.Defer i due) l.book (change w l (entries.Defer i due)).book (ids_changed l.book i (λ m. record m { place = places.Deferred due }) (λ m. refl)) h
change_stays w l (entries.Bounce i) id h = bounce_stays l id (entries.Bounce i) (message_of l.book i) h
change_stays w l (entries.Remove i) id h = remove_stays l i id h
change_stays w l (entries.Corrupt i) id h = inr h
change_stays w l (entries.Trigger kind) id h = same_book id (entries.Trigger kind) l.book (change w l (entries.Trigger kind)).book (trigger_alike w l kind).book h
change_stays w l entries.End id h = inr h

pub after_stays : (w : World) (l : Ledger) (e : Entry) (id : Id) → IsIn id (message_ids l.book) → Stays id e (after w l e).book
after_stays w l e id h = subst (Stays id e) (sym (after_is w l e).book) (change_stays w l e id h)

-- ---- lives

cut_ids : (e : Entry) (b : Book) → message_ids (cut_off e b) ≡ message_ids b
cut_ids (entries.Log i failure) b = ids_changed b i loosened (λ m. refl)
cut_ids (entries.Life generation mode) b = refl
cut_ids (entries.At t) b = refl
cut_ids (entries.Arrive i sender to content) b = refl
cut_ids (entries.Back i) b = refl
cut_ids (entries.Admit i) b = refl
cut_ids (entries.Load i from to) b = refl
cut_ids (entries.Start number i site positions) b = refl
cut_ids (entries.Preempt child parent transport need) b = refl
cut_ids (entries.Reply number state outcomes) b = refl
cut_ids (entries.Skip i site positions) b = refl
cut_ids (entries.Mark i position) b = refl
cut_ids (entries.Sync i) b = refl
cut_ids (entries.Defer i due) b = refl
cut_ids (entries.Bounce i) b = refl
cut_ids (entries.Remove i) b = refl
cut_ids (entries.Corrupt i) b = refl
cut_ids (entries.Trigger kind) b = refl
cut_ids entries.End b = refl

cut_on : (b : Book) (o : Option Entry) → message_ids (option_map_or (λ e. cut_off e b) o b) ≡ message_ids b
cut_on b None = refl
cut_on b (Some e) = cut_ids e b

changed_ids : (b : Book) (id : Id) (f : Message → Message) → ((m : Message) → (f m).id ≡ m.id) → message_ids (change_message b id f) ≡ message_ids b
changed_ids b id f h = names_mapped (changed id f) (changed_name id f h) b.messages

step_ids : (b : Book) (s : ToolStep) → message_ids (after_step b s) ≡ message_ids b
step_ids b (moves id place) = changed_ids b id (move_to place) (λ m. refl)
step_ids b (fails id position) = changed_ids b id (with_failure (given_up position)) (λ m. refl)

cut_step_ids : (b : Book) (s : ToolStep) → message_ids (cut_step b s) ≡ message_ids b
cut_step_ids b (moves id place) = refl
cut_step_ids b (fails id position) = changed_ids b id loosened (λ m. refl)

ids_keep : StepsKeep (λ b c. message_ids c ≡ message_ids b)
ids_keep = record { same = λ b. refl; join = λ a b c h k. k ∙ h; step = step_ids; cut = cut_step_ids }

-- a life, and tools behind it, leave the ids of its last book
pub left_ids : (l : Ledger) (steps : List ToolStep) (left : Book) → IsLeftBy l steps left → message_ids left ≡ message_ids l.book
left_ids l steps left h = after_crash h.worked h.leaves ∙ worked_keeps (λ b c. message_ids c ≡ message_ids b) ids_keep l steps left h ∙ end h.ends
  where
    end : (h.end ≡ l.book) ⊎ (h.end ≡ cut_book l) → message_ids h.end ≡ message_ids l.book
    end (inl e) = ap (λ (b : Book). message_ids b) e
    end (inr e) = ap (λ (b : Book). message_ids b) e ∙ cut_on l.book (slice_get l.past 0)

    after_crash : (b : Book) → (left ≡ b) ⊎ IsCrashOf b left → message_ids left ≡ message_ids b
    after_crash b (inl e) = ap (λ (x : Book). message_ids x) e
    after_crash b (inr crash) = ids_after b.messages left.messages crash.messages

-- ---- one file

pub count_more : (p : Id → Bool) (i : Id) (is : List Id) → count_by p (i ∷ is) ≡ cond (p i) 1 0 + count_by p is
count_more p i is = sum_by-cons (λ j. cond (p j) 1 0) i is

pub none_in : (id : Id) (is : List Id) → (IsIn id is → ⊥) → count_by (id_eq id) is ≡ 0
none_in id [] h = refl
none_in id (i ∷ is) h = elim (id_cases id i) [
  | inl same ↦ absurd (h (inl (sym same.0)))
  | inr other ↦
      let more : count_by (id_eq id) (i ∷ is) ≡ 0 + count_by (id_eq id) is = count_more (id_eq id) i is ∙ ap (λ b. cond b 1 0 + count_by (id_eq id) is) other in
      let none = none_in id is (λ k. h (inr k)) in
      omega (arith, more, none)
]

-- who stands among distinct ids stands there once
pub once_in : (id : Id) (is : List Id) → are_distinct is ≡ true → IsIn id is → count_by (id_eq id) is ≡ 1
once_in id [] h k = absurd k
once_in id (i ∷ is) h k =
    let two = distinct_tail i is h in
    let more = count_more (id_eq id) i is in
    on two (id_cases id i) k (once_in id is two.1)
  where
    on : (IsIn i is → ⊥) × (are_distinct is ≡ true) → ((id ≡ i) × (id_eq id i ≡ true)) ⊎ (id_eq id i ≡ false) → IsIn id (i ∷ is) → (IsIn id is → count_by (id_eq id) is ≡ 1) → count_by (id_eq id) (i ∷ is) ≡ 1
    on two (inl same) k rest =
        let more : count_by (id_eq id) (i ∷ is) ≡ 1 + count_by (id_eq id) is = count_more (id_eq id) i is ∙ ap (λ b. cond b 1 0 + count_by (id_eq id) is) same.1 in
        let none : count_by (id_eq id) is ≡ 0 = none_in id is (λ g. two.0 (subst (λ j. IsIn j is) same.0 g)) in
        omega (arith, more, none)
    on two (inr other) (inl e) rest = let bad : true ≡ false = sym (ap (id_eq id) e ∙ id_eq-refl id) ∙ other in absurd cc
    on two (inr other) (inr g) rest =
        let more : count_by (id_eq id) (i ∷ is) ≡ 0 + count_by (id_eq id) is = count_more (id_eq id) i is ∙ ap (λ b. cond b 1 0 + count_by (id_eq id) is) other in
        let one = rest g in
        omega (arith, more, one)

pub not_damaged : (b : Book) (id : Id) → are_distinct (all_ids b) ≡ true → IsIn id (message_ids b) → damaged_of b id ≡ None
not_damaged b id distinct there =
    let parts = distinct_parts (message_ids b) (map (λ (d : Damaged). d.id) b.damaged) distinct in
    find_none_from (λ (d : Damaged). id_eq d.id id) b.damaged (λ d inside. apart (parts.2 id there) d inside (id_eq d.id id) refl)
  where
    apart : (IsIn id (map (λ (d : Damaged). d.id) b.damaged) → ⊥) → (d : Damaged) → IsIn d b.damaged → (t : Bool) → id_eq d.id id ≡ t → t ≡ false
    apart never d inside false e = refl
    apart never d inside true e = absurd (never (subst (λ j. IsIn j (map (λ (x : Damaged). x.id) b.damaged)) (id_eq-true d.id id e) (in_map (λ (x : Damaged). x.id) d b.damaged inside)))
