-- What fits together still does as a message arrives and as a bounce is stored.
use Rattle.std.proofs.Common.{◌≡◌, ℕ, ◌+◌, ◌≤◌, ◌<◌, Bool, true, false, not, List, [], is_some, Option, Some, None, inl, inr, refl, sym, ap, ◌∙◌, subst, arith, if◌then◌else◌, le_refl, le-leb, leb-true, ltb-true}
use Rattle.std.proofs.lemmas.Bool.{and_from, and_parts, not-true, or_cases, or_right}
use Rattle.std.proofs.lemmas.List.Sums.{sum_by-cons}
use Rattle.std.specs.List.{list_all, list_any}
use Rattle.std.specs.Option.{option_map_or}
use Rattle.std.specs.Prelude.{◌==◌, ◌&&◌, ◌||◌, nat_le, nat_lt, is_none}
use Rattle.q_laws.proofs.Added.{IsAddable}
use Rattle.q_laws.proofs.Books.{message_in, message_listed}
use Rattle.q_laws.proofs.Members.{in_unmap, IsIn, all_at}
use Rattle.q_laws.proofs.Quiet.{still_come}
use Rattle.q_laws.proofs.Tidied.{IsReady, after_consistent}
use Rattle.q_laws.proofs.Unmarked.{logged_bare, done_sealed}
use Rattle.q_laws.specs.Consistency.{IsBookConsistent, IsConsistent, has_come}
use Rattle.q_model.proofs.IdLaws.{id_eq-true}
use Rattle.q_model.specs.Arrivals.{after_arrive, arrived, may_arrive, next_id}
use Rattle.q_model.specs.Book.{Book, all_ids, damaged_of, message_of, stands, stands_in}
use Rattle.q_model.specs.BookChanges.{add_message}
use Rattle.q_model.specs.Bounces.{may_bounce}
use Rattle.q_model.specs.Finishing.{has_bounce, is_at_rest, is_done, wants_bounce}
use Rattle.q_model.specs.Ids.{bounce_of, cause_of, id_eq}
use Rattle.q_model.specs.Ledger.{Ledger}
use Rattle.q_model.specs.Lists.{has_none}
use Rattle.q_model.specs.Message.{Logged, Recipient, is_logged, Message, unmarked_logged, written_marks, new_recipient}
use Rattle.q_model.specs.Notices.{bounce_message}
use Rattle.q_model.specs.Orderly.{has_firm_failures, is_paired, is_sealed, is_sound}
use Rattle.q_model.specs.Past.{arrivals, is_arrive}
use Rattle.q_model.specs.Places.{is_active, is_incoming}
use Rattle.q_model.specs.Settings.{World}
use Rattle.q_model.specs.Step.{after, noted}
use Rattle.q_model.specs.declared.entry.Entry.{Entry}
use Rattle.q_model.specs.declared.id.Id.{Id}
use Rattle.q_model.specs.declared.entry.Entry.TheVariants as entries
use Rattle.q_laws.proofs.Besides.{add_ready}
use Rattle.q_laws.proofs.Places.{IsPlaceOf, got_in, nothing_in, place_is}
use Rattle.q_model.specs.Marks.{is_written}
use Rattle.q_model.specs.declared.rows.Mark.TheVariants as marks
use Rattle.q_model.specs.Values.{Receiver}

-- ---- a message without failures and marks has nothing to settle

fresh_sound : (x : Message) → x.failures ≡ [] → ((r : Recipient) → IsIn r x.recipients → is_written r.mark ≡ false) → is_sound x ≡ true
fresh_sound x none unwritten =
    and_from (has_none (unmarked_logged x) && has_none (written_marks x)) (has_firm_failures x)
    (and_from (has_none (unmarked_logged x)) (has_none (written_marks x))
    (ap has_none (nothing_in (unmarked_logged x) (λ q k. unlogged q (logged_bare x q k).1)))
    (ap has_none (nothing_in (written_marks x) (λ q k. clean (place_is 0 (λ i (r : Recipient). is_written r.mark) x.recipients q k)))))
    (ap (λ fs. list_all (λ (f : Logged). f.firm) fs) none)
  where
    unlogged : (q : ℕ) → is_logged x q ≡ true → ⊥
    unlogged q h = let bad : false ≡ true = sym (ap (λ fs. list_any (λ (f : Logged). f.failure.position == q) fs) none) ∙ h in absurd cc

    clean : {q : ℕ} → IsPlaceOf 0 (λ i (r : Recipient). is_written r.mark) x.recipients q → ⊥
    clean one = let bad : false ≡ true = sym (unwritten one.item (got_in one.item x.recipients one.index one.there)) ∙ one.passes in absurd cc

-- ---- arrive

not_later : (g n : ℕ) → (nat_lt g g || nat_le (n + 1) n) ≡ true → ⊥
not_later g n h = elim (or_cases (nat_lt g g) (nat_le (n + 1) n) h) [
  | inl a ↦ let bad : g < g = ltb-true g g a in absurd (omega (arith, bad))
  | inr b ↦ let bad : n + 1 ≤ n = leb-true (n + 1) n b in absurd (omega (arith, bad))
]

arrivals_more : (l : Ledger) (id : Id) (sender : Option (List ℕ)) (to : List Receiver) (content : List ℕ) → arrivals (noted (entries.Arrive id sender to content) l) ≡ 1 + arrivals l
arrivals_more l id sender to content = sum_by-cons (λ (e : Entry). if is_arrive e then 1 else 0) (entries.Arrive id sender to content) l.past

abbrev pub new_message : Ledger → Option (List ℕ) → List Receiver → List ℕ → Message
new_message l sender to content = arrived l (next_id l) sender to content

pub new_addable : (l : Ledger) (sender : Option (List ℕ)) (to : List Receiver) (content : List ℕ) → IsBookConsistent l → IsAddable l.book (new_message l sender to content)
new_addable l sender to content h = record {
  new = λ inside. not_later l.book.generation (arrivals l) (all_at (has_come l) (next_id l) (all_ids l.book) h.come inside);
  generation = le-leb l.book.generation l.book.generation (le_refl l.book.generation);
  incoming = refl;
  sound = fresh_sound (new_message l sender to content) refl (λ r inside.
      let one = in_unmap new_recipient r to inside in
      ap (λ (x : Recipient). is_written x.mark) (sym one.2));
  childless = λ i inside bounce same.
      not_later l.book.generation (arrivals l) (ap (λ (j : Id). nat_lt j.generation l.book.generation || nat_le j.serial (arrivals l)) (sym same) ∙ all_at (has_come l) i (all_ids l.book) h.come inside);
  cause = λ bounce. absurd cc;
}

arrive_ready : (w : World) (l : Ledger) (sender : Option (List ℕ)) (to : List Receiver) (content : List ℕ) → IsConsistent w l → IsReady w (noted (entries.Arrive (next_id l) sender to content) (after_arrive l (next_id l) sender to content))
arrive_ready w l sender to content c =
    let e = entries.Arrive (next_id l) sender to content in
    let n = arrivals_more l (next_id l) sender to content in
    add_ready w l (new_message l sender to content) e c (λ i k. record { admit = refl; start = refl; charge = refl }) (new_addable l sender to content c.book) refl
    (or_right (nat_lt l.book.generation l.book.generation) (nat_le (arrivals l + 1) (arrivals (noted e l))) (le-leb (arrivals l + 1) (arrivals (noted e l)) (omega (arith, n)))) refl

-- a message arrives
pub arrive_consistent : (w : World) (l : Ledger) (id : Id) (sender : Option (List ℕ)) (to : List Receiver) (content : List ℕ) → IsConsistent w l → may_arrive l id ≡ true → IsConsistent w (after w l (entries.Arrive id sender to content))
arrive_consistent w l id sender to content c may =
    let same : id ≡ next_id l = id_eq-true id (next_id l) (and_parts l.timed (id_eq id (next_id l)) may).1 in
    subst (λ i. IsConsistent w (after w l (entries.Arrive i sender to content))) (sym same) (after_consistent w l (entries.Arrive (next_id l) sender to content) (arrive_ready w l sender to content c))

-- ---- bounce

abbrev id_with : Id → Bool → Id
id_with i b = record i { bounce = b }

-- the cause of the bounce of a message is the message
same_cause : (id : Id) → id.bounce ≡ false → cause_of (bounce_of id) ≡ id
same_cause id h = ap (id_with id) (sym h)

stands_true : (b : Book) (id : Id) (m : Message) → message_of b id ≡ Some m → stands b id ≡ true
stands_true b id m h = ap (λ (o : Option Message). is_some o || is_some (damaged_of b id)) h

paired_there : (a b s o : Bool) → a ≡ true → b ≡ true → (not a || not b || (s && o)) ≡ true → s ≡ true
paired_there a b s o ea eb h = (and_parts s o (sym (ap (λ x. not x || not b || (s && o)) ea ∙ ap (λ x. not x || (s && o)) eb) ∙ h)).0

pub bounce_addable : (l : Ledger) (m : Message) → IsBookConsistent l → message_of l.book m.id ≡ Some m → is_active m.place ≡ true → is_done m ≡ true → m.id.bounce ≡ false → has_bounce l m.id ≡ false → IsAddable l.book (bounce_message l.now m)
bounce_addable l m h there active done alone unsaid =
    let b = l.book in
    let inside = (message_in b m.id m there).0 in
    let test : Id → Bool = λ i. nat_le i.generation b.generation && is_paired b i in
    let ids : list_all test (all_ids b) ≡ true = (and_parts (list_all test (all_ids b)) (list_all (λ (x : Message). is_active x.place || is_sound x) b.messages) h.orderly).0 in
    record {
      new = λ k.
          let pair = (and_parts (nat_le m.id.generation b.generation) (is_paired b (bounce_of m.id)) (all_at test (bounce_of m.id) (all_ids b) ids k)).1 in
          let stands_now : stands b (cause_of (bounce_of m.id)) ≡ true = ap (stands b) (same_cause m.id alone) ∙ stands_true b m.id m there in
          let said : stands_in is_incoming b (bounce_of m.id) ≡ true = paired_there true (stands b (cause_of (bounce_of m.id))) (stands_in is_incoming b (bounce_of m.id)) (option_map_or (λ x. is_active x.place && is_sealed x) (message_of b (cause_of (bounce_of m.id))) false) refl stands_now pair in
          let bad : false ≡ true = sym unsaid ∙ said in
          absurd cc;
      generation = (and_parts (nat_le m.id.generation b.generation) (is_paired b m.id) (all_at test m.id (all_ids b) ids (message_listed b m inside))).0;
      incoming = refl;
      sound = fresh_sound (bounce_message l.now m) refl (λ r k. unmarked r k);
      childless = λ i k bounce same. let bad : false ≡ true = ap (λ (j : Id). j.bounce) same in absurd cc;
      cause = λ k. ap (λ (o : Option Message). option_map_or (λ x. is_active x.place && is_sealed x) o false) (ap (message_of b) (same_cause m.id alone) ∙ there)
          ∙ and_from (is_active m.place) (is_sealed m) active (done_sealed m done (all_at has_firm_failures m b.messages h.firm inside));
    }
  where
    unmarked : (r : Recipient) → IsIn r (bounce_message l.now m).recipients → is_written r.mark ≡ false
    unmarked r (inl e) = ap (λ (x : Recipient). is_written x.mark) (sym e)
    unmarked r (inr e) = absurd e

bounce_ready : (w : World) (l : Ledger) (id : Id) (o : Option Message) → IsConsistent w l → message_of l.book id ≡ o → option_map_or (λ m. is_active m.place && is_at_rest l id && is_done m && wants_bounce m && not (has_bounce l id)) o false ≡ true →
    IsReady w (noted (entries.Bounce id) (option_map_or (λ m. record l { book = add_message l.book (bounce_message l.now m) }) o l))
bounce_ready w l id None c there may = absurd cc
bounce_ready w l id (Some m) c there may =
    let e = entries.Bounce id in
    let mine = message_in l.book id m there in
    let four = and_parts (is_active m.place && is_at_rest l id && is_done m && wants_bounce m) (not (has_bounce l id)) may in
    let three = and_parts (is_active m.place && is_at_rest l id && is_done m) (wants_bounce m) four.0 in
    let two = and_parts (is_active m.place && is_at_rest l id) (is_done m) three.0 in
    let one = and_parts (is_active m.place) (is_at_rest l id) two.0 in
    let alone : m.id.bounce ≡ false = not-true m.id.bounce (and_parts (not (has_none m.failures) && not (is_none m.sender)) (not m.id.bounce) three.1).1 in
    let unsaid : has_bounce l m.id ≡ false = ap (has_bounce l) mine.1 ∙ not-true (has_bounce l id) four.1 in
    add_ready w l (bounce_message l.now m) e c (λ i k. record { admit = refl; start = refl; charge = refl })
    (bounce_addable l m c.book (ap (message_of l.book) mine.1 ∙ there) one.0 two.1 alone unsaid) refl
    (still_come l e m.id (all_at (has_come l) m.id (all_ids l.book) c.book.come (message_listed l.book m mine.0))) refl

-- the bounce of a message is stored
pub bounce_consistent : (w : World) (l : Ledger) (id : Id) → IsConsistent w l → may_bounce l id ≡ true → IsConsistent w (after w l (entries.Bounce id))
bounce_consistent w l id c may = after_consistent w l (entries.Bounce id) (bounce_ready w l id (message_of l.book id) c refl may)
