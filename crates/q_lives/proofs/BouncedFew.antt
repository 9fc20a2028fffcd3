-- Over every list of lives no message has two bounces.
use Rattle.std.proofs.Common.{◌≡◌, ℕ, zero, suc, ◌+◌, ◌≤◌, Bool, true, false, cond, not, List, [], ◌∷◌, ◌++◌, take, count_by, Option, Some, None, inl, inr, refl, sym, ap, ◌∙◌, subst, arith}
use Rattle.std.proofs.lemmas.Bool.{and_parts, not-true}
use Rattle.std.proofs.lemmas.List.{append_assoc, append-nil}
use Rattle.std.specs.List.{list_any}
use Rattle.std.specs.Option.{option_map_or}
use Rattle.std.specs.Prelude.{◌&&◌, is_none}
use Rattle.q_laws.proofs.Beginnings.{life_consistent}
use Rattle.q_laws.proofs.Books.{message_in}
use Rattle.q_laws.proofs.Distinct.{gone_listed, listed_in}
use Rattle.q_laws.proofs.Kept.{entry_consistent}
use Rattle.q_laws.proofs.Members.{IsIn, in_map}
use Rattle.q_laws.specs.Consistency.{IsConsistent, IsUsable}
use Rattle.q_laws.specs.Traces.{AreEntriesOf}
use Rattle.q_lives.proofs.Bounced.{IsBounced, IsBouncedBook, bounces_more, life_bounced}
use Rattle.q_lives.proofs.BouncedLives.{begins_bounced, entry_bounced, left_bounced, one_life}
use Rattle.q_lives.proofs.Standing.{after_stays, message_ids, none_in, once_in}
use Rattle.q_lives.proofs.Throughout.{entry_may, first_entry, lives_orderly, run_all, take_entries}
use Rattle.q_lives.specs.Bounces.{BouncedAtMostOnce, bounces, is_bounce_entry}
use Rattle.q_lives.specs.Lives.{AreLives, IsLife, IsOrderly, Life, life_entries, ledger_of, trace}
use Rattle.q_model.proofs.IdLaws.{id_eq-true}
use Rattle.q_model.specs.Book.{Book, all_ids, message_of}
use Rattle.q_model.specs.Finishing.{has_bounce, is_at_rest, is_done, wants_bounce}
use Rattle.q_model.specs.Ids.{are_distinct, bounce_of, id_eq}
use Rattle.q_model.specs.Ledger.{Ledger, opening}
use Rattle.q_model.specs.Lists.{has_none}
use Rattle.q_model.specs.Message.{Message}
use Rattle.q_model.specs.Places.{is_active}
use Rattle.q_model.specs.Settings.{World}
use Rattle.q_model.specs.Step.{after, may}
use Rattle.q_model.specs.declared.entry.Entry.{Entry}
use Rattle.q_model.specs.declared.event.Mode.{Mode}
use Rattle.q_model.specs.declared.id.Id.{Id}
use Rattle.q_model.specs.declared.entry.Entry.TheVariants as entries

-- among distinct ids none stands twice
at_most_once : (id : Id) (is : List Id) → are_distinct is ≡ true → count_by (id_eq id) is ≤ 1
at_most_once id is distinct = on (list_any (id_eq id) is) refl
  where
    on : (b : Bool) → list_any (id_eq id) is ≡ b → count_by (id_eq id) is ≤ 1
    on true e = let one = once_in id is distinct (listed_in id is e) in omega (arith, one)
    on false e = let none = none_in id is (gone_listed id is e) in omega (arith, none)

bounce_entry : (id : Id) (e : Entry) → is_bounce_entry id e ≡ true → e ≡ entries.Bounce id
bounce_entry id (entries.Bounce i) h = ap (λ j. entries.Bounce j) (id_eq-true i id h)
bounce_entry id (entries.Life generation mode) h = absurd cc
bounce_entry id (entries.At t) h = absurd cc
bounce_entry id (entries.Arrive i sender to content) h = absurd cc
bounce_entry id (entries.Back i) h = absurd cc
bounce_entry id (entries.Admit i) h = absurd cc
bounce_entry id (entries.Load i from to) h = absurd cc
bounce_entry id (entries.Start number i site ps) h = absurd cc
bounce_entry id (entries.Preempt child parent transport need) h = absurd cc
bounce_entry id (entries.Reply number state os) h = absurd cc
bounce_entry id (entries.Skip i site ps) h = absurd cc
bounce_entry id (entries.Log i f) h = absurd cc
bounce_entry id (entries.Mark i q) h = absurd cc
bounce_entry id (entries.Sync i) h = absurd cc
bounce_entry id (entries.Defer i due) h = absurd cc
bounce_entry id (entries.Remove i) h = absurd cc
bounce_entry id (entries.Corrupt i) h = absurd cc
bounce_entry id (entries.Trigger kind) h = absurd cc
bounce_entry id entries.End h = absurd cc

-- ---- a bounce that is stored now

-- the message is no bounce, and stands afterwards too
record IsCause (w : World) (l : Ledger) (id : Id) : Type 0 where
  plain : id.bounce ≡ false
  there : IsIn id (message_ids (after w l (entries.Bounce id)).book)

cause_on : (w : World) (l : Ledger) (id : Id) (o : Option Message) → message_of l.book id ≡ o → option_map_or (λ (m : Message). is_active m.place && is_at_rest l id && is_done m && wants_bounce m && not (has_bounce l id)) o false ≡ true → IsCause w l id
cause_on w l id None e can = absurd cc
cause_on w l id (Some m) e can =
    let mine = message_in l.book id m e in
    let one = and_parts (is_active m.place && is_at_rest l id && is_done m && wants_bounce m) (not (has_bounce l id)) can in
    let wants = (and_parts (is_active m.place && is_at_rest l id && is_done m) (wants_bounce m) one.0).1 in
    let before : IsIn id (message_ids l.book) = subst (λ j. IsIn j (message_ids l.book)) mine.1 (in_map (λ (x : Message). x.id) m l.book.messages mine.0) in
    record {
      plain = ap (λ (j : Id). j.bounce) (sym mine.1) ∙ not-true m.id.bounce (and_parts (not (has_none m.failures) && not (is_none m.sender)) (not m.id.bounce) wants).1;
      there = elim (after_stays w l (entries.Bounce id) id before) [ inl gone ↦ absurd cc | inr k ↦ k ];
    }

-- an entry more, where the counts fit the ledger after it
entry_few : (first : Book) (es : List Entry) (w : World) (l : Ledger) (e : Entry) → may w l e ≡ true → IsConsistent w (after w l e) → IsBounced first (es ++ e ∷ []) (after w l e) → BouncedAtMostOnce first es → BouncedAtMostOnce first (es ++ e ∷ [])
entry_few first es w l e can c b few id = on (is_bounce_entry id e) refl
  where
    on : (t : Bool) → is_bounce_entry id e ≡ t → bounces first id (es ++ e ∷ []) ≤ 1
    on false none =
        let more : bounces first id (es ++ e ∷ []) ≡ 0 + bounces first id es = bounces_more first id es e ∙ ap (λ t. cond t 1 0 + bounces first id es) none in
        let before = few id in
        omega (arith, more, before)
    on true now =
        let same = bounce_entry id e now in
        let cause = cause_on w l id (message_of l.book id) refl (subst (λ x. may w l x ≡ true) same can) in
        let pair = b.pairs id cause.plain (subst (λ x. IsIn id (message_ids (after w l x).book)) (sym same) cause.there) in
        let once = at_most_once (bounce_of id) (all_ids (after w l e).book) c.book.distinct in
        omega (arith, pair, once)

-- ---- lives

entries_few : (first : Book) (done : List Entry) (w : World) (l : Ledger) (es : List Entry) → IsConsistent w l → AreEntriesOf w l es → IsBounced first done l → BouncedAtMostOnce first done → BouncedAtMostOnce first (done ++ es)
entries_few first done w l [] c h b few = subst (BouncedAtMostOnce first) (sym (append-nil done)) few
entries_few first done w l (e ∷ es) c h b few =
    let can = entry_may w l e c h.0 in
    let next = entry_consistent w l e c h.0 in
    let now = entry_bounced first done w l e c can b in
    subst (BouncedAtMostOnce first) (append_assoc done (e ∷ []) es) (entries_few first (done ++ e ∷ []) w (after w l e) es next h.1 now (entry_few first done w l e can next now few))

front_few : (first : Book) (done : List Entry) (w : World) (mode : Mode) (book : Book) (rest : List Entry) (n : ℕ) → IsUsable w → IsOrderly book → IsBouncedBook first done book → BouncedAtMostOnce first done →
    AreEntriesOf w (opening mode book) (entries.Life (book.generation + 1) mode ∷ rest) → BouncedAtMostOnce first (done ++ take n (entries.Life (book.generation + 1) mode ∷ rest))
front_few first done w mode book rest zero usable good b few h = subst (BouncedAtMostOnce first) (sym (append-nil done)) few
front_few first done w mode book rest (suc n) usable good b few h =
    let e = entries.Life (book.generation + 1) mode in
    let l = opening mode book in
    let begun : IsConsistent w (after w l e) = life_consistent w l mode usable good.distinct good.orderly in
    let more : BouncedAtMostOnce first (done ++ e ∷ []) = λ id. (let k : bounces first id (done ++ e ∷ []) ≡ 0 + bounces first id done = bounces_more first id done e in let before = few id in omega (arith, k, before)) in
    subst (BouncedAtMostOnce first) (append_assoc done (e ∷ []) (take n rest))
    (entries_few first (done ++ e ∷ []) w (after w l e) (take n rest) begun (take_entries n w (after w l e) rest h.1) (life_bounced first done w l mode b) more)

life_few : (first : Book) (done : List Entry) (book : Book) (life : Life) → IsOrderly book → IsLife book life → IsBouncedBook first done book → BouncedAtMostOnce first done → BouncedAtMostOnce first (done ++ life_entries book life)
life_few first done book life good h b few =
    let w = life.world in
    let begins = first_entry w life.mode book life.items in
    let all = subst (AreEntriesOf w (opening life.mode book)) begins.1 (run_all w life.mode book life.items h.fits) in
    subst (λ es. BouncedAtMostOnce first (done ++ take life.count es)) (sym begins.1) (front_few first done w life.mode book begins.0 life.count h.usable good b few all)

lives_few : (first : Book) (done : List Entry) (book : Book) (lives : List Life) → IsOrderly book → AreLives book lives → IsBouncedBook first done book → BouncedAtMostOnce first done → BouncedAtMostOnce first (done ++ trace book lives)
lives_few first done book [] good h b few = subst (BouncedAtMostOnce first) (sym (append-nil done)) few
lives_few first done book (life ∷ lives) good h b few =
    let all = one_life first done book life good h.0 b in
    let next = lives_orderly book (life ∷ []) good (h.0, tt) in
    let left = left_bounced first (done ++ life_entries book life) (ledger_of book life) life.steps life.left (h.0).left all.end in
    subst (BouncedAtMostOnce first) (append_assoc done (life_entries book life) (trace life.left lives))
    (lives_few first (done ++ life_entries book life) life.left lives next h.1 left (life_few first done book life good h.0 b few))

begins_few : (book : Book) → IsOrderly book → BouncedAtMostOnce book []
begins_few book good id = let once = at_most_once (bounce_of id) (all_ids book) good.distinct in omega (arith, once)

pub all_few : (book : Book) (lives : List Life) → IsOrderly book → AreLives book lives → BouncedAtMostOnce book (trace book lives)
all_few book lives good h = lives_few book [] book lives good h (begins_bounced book good) (begins_few book good)
