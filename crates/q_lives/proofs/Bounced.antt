-- A message that leaves and wants a bounce has had one.
use Rattle.std.proofs.Common.{◌≡◌, ℕ, ◌+◌, ◌≤◌, ◌<◌, Bool, true, false, cond, if◌then◌else◌, not, List, [], ◌∷◌, ◌++◌, filter, map, count_by, Option, Some, None, ◌⊎◌, inl, inr, refl, sym, ap, ◌∙◌, subst, arith, leb-true, ltb-true, lt-ltb}
use Rattle.std.proofs.lemmas.Bool.{and_parts, or_cases, or_left, or_parts, not-true}
use Rattle.std.proofs.lemmas.List.Folds.{list_any-append}
use Rattle.std.proofs.lemmas.List.Sums.{sum_by-append, sum_by-cons}
use Rattle.std.specs.List.{list_all, list_any}
use Rattle.std.specs.Option.{option_map_or}
use Rattle.std.specs.Prelude.{◌&&◌, ◌||◌, nat_le, nat_lt, length, replicate, is_none, is_some}
use Rattle.q_laws.proofs.Books.{active_not_incoming, message_in, only_message}
use Rattle.q_laws.proofs.Distinct.{distinct_parts, id_cases, id_other, names_filtered}
use Rattle.q_laws.proofs.Members.{IsIn, all_at, any_in, in_either, in_left, in_map, in_unmap, find_none}
use Rattle.q_lives.proofs.Standing.{count_more, ids_changed, ids_mapped, ids_more, message_ids, none_in}
use Rattle.q_lives.specs.Bounces.{bounces, is_bounce_entry}
use Rattle.q_model.proofs.IdLaws.{id_eq-refl, id_eq-true, same_id}
use Rattle.q_model.specs.Book.{Book, Damaged, damaged_of, message_of, stands, stands_in}
use Rattle.q_model.specs.BookChanges.{add_message, change_message, remove_message}
use Rattle.q_model.specs.Finishing.{has_bounce, is_at_rest, is_done, wants_bounce}
use Rattle.q_model.specs.Lists.{has_none}
use Rattle.q_model.specs.Notices.{bounce_message}
use Rattle.q_model.specs.Book.{all_ids}
use Rattle.q_model.specs.Ids.{bounce_of, cause_of, id_eq}
use Rattle.q_model.specs.Ledger.{Ledger}
use Rattle.q_model.specs.Past.{arrivals, is_arrive, is_life}
use Rattle.q_laws.proofs.Quiet.{still_come}
use Rattle.q_laws.specs.Consistency.{IsConsistent, has_come}
use Rattle.q_lives.proofs.Caused.{IsAlike, at_alike, corrupt_alike, load_alike, picked_alike, trigger_alike}
use Rattle.q_model.specs.Arrivals.{arrived, may_arrive, next_id}
use Rattle.q_model.specs.Message.{Message}
use Rattle.q_model.specs.Orderly.{is_paired, is_sealed, is_sound}
use Rattle.q_model.specs.Places.{is_active, is_incoming}
use Rattle.q_laws.proofs.Moved.{move_to}
use Rattle.q_lives.proofs.Books.{after_is}
use Rattle.q_model.specs.Deliveries.{flight_of}
use Rattle.q_model.specs.Leftovers.{is_next_leftover}
use Rattle.q_model.specs.Lives.{firm_failures}
use Rattle.q_model.specs.Logs.{with_failure}
use Rattle.q_model.specs.Marking.{with_mark}
use Rattle.q_model.specs.Replies.{landed, replied}
use Rattle.q_model.specs.Settings.{World}
use Rattle.q_model.specs.Settling.{needs_of}
use Rattle.q_model.specs.Skips.{unqueued}
use Rattle.q_model.specs.Syncs.{sync_all}
use Rattle.q_model.specs.Alternation.{pick}
use Rattle.q_model.specs.declared.event.Mode.{Mode}
use Rattle.q_model.specs.declared.outcome.Outcome.{Outcome}
use Rattle.q_model.specs.declared.outcome.SiteState.{SiteState}
use Rattle.q_model.specs.declared.rows.Delivery.{Delivery}
use Rattle.q_model.specs.declared.outcome.Outcome.TheVariants as outcomes
use Rattle.q_model.specs.Step.{after, change, may}
use Rattle.q_model.specs.declared.rows.Place.TheVariants as places
use Rattle.q_model.specs.declared.entry.Entry.{Entry}
use Rattle.q_model.specs.declared.id.Id.{Id}
use Rattle.q_model.specs.declared.entry.Entry.TheVariants as entries
use Rattle.q_model.specs.Values.{Receiver}

-- how often the bounce of an id stands in a list of ids
abbrev pub bounces_in : Id → List Id → ℕ
bounces_in id is = count_by (id_eq (bounce_of id)) is

-- the id's bounce was stored in these entries, or the id stood at first
abbrev pub IsOld : Book → List Entry → Id → Type 0
IsOld first es id = (list_any (is_bounce_entry id) es ≡ true) ⊎ IsIn id (all_ids first)

-- the id came before
pub record HasCome (l : Ledger) (id : Id) : Type 0 where
  pub come : has_come l id ≡ true
  pub generation : id.generation ≤ l.book.generation

-- Of each message that stands and is no bounce, as many bounces were stored as stand; and who is old has come.
pub record IsBounced (first : Book) (es : List Entry) (l : Ledger) : Type 0 where
  pub pairs : (id : Id) → id.bounce ≡ false → IsIn id (message_ids l.book) → bounces first id es ≡ bounces_in id (all_ids l.book)
  pub old : (id : Id) → IsOld first es id → HasCome l id

count_append : (p : Entry → Bool) (xs ys : List Entry) → count_by p (xs ++ ys) ≡ count_by p xs + count_by p ys
count_append p xs ys = sum_by-append (λ e. cond (p e) 1 0) xs ys

count_one : (p : Entry → Bool) (e : Entry) → count_by p (e ∷ []) ≡ cond (p e) 1 0 + 0
count_one p e = sum_by-cons (λ x. cond (p x) 1 0) e []

-- an entry more
pub bounces_more : (first : Book) (id : Id) (es : List Entry) (e : Entry) → bounces first id (es ++ e ∷ []) ≡ cond (is_bounce_entry id e) 1 0 + bounces first id es
bounces_more first id es e =
    let a = count_append (is_bounce_entry id) es (e ∷ []) in
    let b = count_one (is_bounce_entry id) e in
    omega (arith, a, b)

-- a bounce's id is the same only of the same message
pub bounce_apart : (a b : Id) → a.bounce ≡ false → b.bounce ≡ false → id_eq (bounce_of a) (bounce_of b) ≡ id_eq b a
bounce_apart a b x y = elim (id_cases b a) [
  | inl same ↦ ap (λ (i : Id). id_eq (bounce_of a) (bounce_of i)) same.0 ∙ id_eq-refl (bounce_of a) ∙ sym same.1
  | inr other ↦ none other (id_eq (bounce_of a) (bounce_of b)) refl ∙ sym other
]
  where
    none : id_eq b a ≡ false → (t : Bool) → id_eq (bounce_of a) (bounce_of b) ≡ t → t ≡ false
    none other false e = refl
    none other true e =
        let same : bounce_of a ≡ bounce_of b = id_eq-true (bounce_of a) (bounce_of b) e in
        let one : b ≡ a = same_id b a (sym (ap (λ (i : Id). i.generation) same)) (sym (ap (λ (i : Id). i.serial) same)) (y ∙ sym x) in
        absurd (id_other b a other one)

-- the bounce of an id is no message that is no bounce
pub bounce_not : (a b : Id) → b.bounce ≡ false → id_eq (bounce_of a) b ≡ false
bounce_not a b h = on (id_eq (bounce_of a) b) refl
  where
    on : (t : Bool) → id_eq (bounce_of a) b ≡ t → t ≡ false
    on false e = refl
    on true e = let bad : true ≡ false = ap (λ (i : Id). i.bounce) (id_eq-true (bounce_of a) b e) ∙ h in absurd cc

count_none : (p : Entry → Bool) (es : List Entry) → list_any p es ≡ false → count_by p es ≡ 0
count_none p [] h = refl
count_none p (e ∷ es) h =
    let two = or_parts (p e) (list_any p es) h in
    let more : count_by p (e ∷ es) ≡ 0 + count_by p es = sum_by-cons (λ x. cond (p x) 1 0) e es ∙ ap (λ b. cond b 1 0 + count_by p es) two.0 in
    let none = count_none p es two.1 in
    omega (arith, more, none)

-- ---- who has come has come

pub come_later : (l k : Ledger) (e : Entry) (id : Id) → k.past ≡ e ∷ l.past → k.book.generation ≡ l.book.generation → HasCome l id → HasCome k id
come_later l k e id past generation h = record {
  come = ap (λ (es : List Entry). nat_lt id.generation k.book.generation || nat_le id.serial (count_by is_arrive es)) past
      ∙ ap (λ g. nat_lt id.generation g || nat_le id.serial (count_by is_arrive (e ∷ l.past))) generation ∙ still_come l e id h.come;
  generation = subst (λ g. id.generation ≤ g) (sym generation) h.generation;
}

-- the id of the next message hasn't come
pub not_yet : (l : Ledger) (j : Id) → j.generation ≡ l.book.generation → j.serial ≡ arrivals l + 1 → has_come l j ≡ true → ⊥
not_yet l j g s k = elim (or_cases (nat_lt j.generation l.book.generation) (nat_le j.serial (arrivals l)) k) [
  | inl before ↦ (let b : j.generation < l.book.generation = ltb-true j.generation l.book.generation before in omega (arith, b, g))
  | inr now ↦ (let n : j.serial ≤ arrivals l = leb-true j.serial (arrivals l) now in omega (arith, n, s))
]

-- who has a file has come
pub file_come : (w : World) (l : Ledger) (id : Id) → IsConsistent w l → IsIn id (all_ids l.book) → HasCome l id
file_come w l id c there =
    let ids = (and_parts (list_all (λ i. nat_le i.generation l.book.generation && is_paired l.book i) (all_ids l.book)) (list_all (λ (m : Message). is_active m.place || is_sound m) l.book.messages) c.book.orderly).0 in
    let one = and_parts (nat_le id.generation l.book.generation) (is_paired l.book id) (all_at (λ i. nat_le i.generation l.book.generation && is_paired l.book i) id (all_ids l.book) ids there) in
    record { come = all_at (has_come l) id (all_ids l.book) c.book.come there; generation = leb-true id.generation l.book.generation one.0 }

-- ---- each entry

abbrev IsPair : Book → List Entry → Ledger → Book → Entry → Id → Type 0
IsPair first es l b e id = (IsIn id (message_ids l.book) × (bounces_in id (all_ids b) ≡ cond (is_bounce_entry id e) 1 0 + bounces_in id (all_ids l.book))) ⊎ (bounces first id (es ++ e ∷ []) ≡ bounces_in id (all_ids b))

record IsPairStep (first : Book) (es : List Entry) (l k : Ledger) (e : Entry) : Type 0 where
  past : k.past ≡ l.past
  generation : k.book.generation ≡ l.book.generation
  pairs : (id : Id) → id.bounce ≡ false → IsIn id (message_ids k.book) → IsPair first es l k.book e id
  old : (id : Id) → is_bounce_entry id e ≡ true → HasCome l id

abbrev damaged_ids : Book → List Id
damaged_ids b = map (λ (d : Damaged). d.id) b.damaged

-- entries that keep the ids
ids_step : (first : Book) (es : List Entry) (l k : Ledger) (e : Entry) → k.past ≡ l.past → k.book.generation ≡ l.book.generation → message_ids k.book ≡ message_ids l.book → damaged_ids k.book ≡ damaged_ids l.book → ((id : Id) → is_bounce_entry id e ≡ false) → IsPairStep first es l k e
ids_step first es l k e past generation whole broken none = record {
  past = past;
  generation = generation;
  pairs = λ id plain there.
      let same : bounces_in id (all_ids k.book) ≡ bounces_in id (all_ids l.book) = ap (λ (is : List Id). bounces_in id (is ++ damaged_ids k.book)) whole ∙ ap (λ (is : List Id). bounces_in id (message_ids l.book ++ is)) broken in
      let more : cond (is_bounce_entry id e) 1 0 + bounces_in id (all_ids l.book) ≡ 0 + bounces_in id (all_ids l.book) = ap (λ b. cond b 1 0 + bounces_in id (all_ids l.book)) (none id) in
      inl (subst (IsIn id) whole there, omega (arith, same, more));
  old = λ id h. let bad : false ≡ true = sym (none id) ∙ h in absurd cc;
}

alike_pairs : (first : Book) (es : List Entry) (l k : Ledger) (e : Entry) → IsAlike l k → ((id : Id) → is_bounce_entry id e ≡ false) → IsPairStep first es l k e
alike_pairs first es l k e a none = ids_step first es l k e a.past (ap (λ (b : Book). b.generation) a.book) (ap (λ (b : Book). message_ids b) a.book) (ap (λ (b : Book). damaged_ids b) a.book) none

moved_ids : (i : Id) (ds : List Damaged) → map (λ (d : Damaged). d.id) (map (λ (d : Damaged). if id_eq d.id i then record d { place = places.Corrupt } else d) ds) ≡ map (λ (d : Damaged). d.id) ds
moved_ids i [] = refl
moved_ids i (d ∷ ds) = ap (λ (j : Id). j ∷ map (λ (x : Damaged). x.id) (map (λ (x : Damaged). if id_eq x.id i then record x { place = places.Corrupt } else x) ds)) (one (id_eq d.id i)) ∙ ap (λ (is : List Id). d.id ∷ is) (moved_ids i ds)
  where
    one : (b : Bool) → (if b then record d { place = places.Corrupt } else d).id ≡ d.id
    one true = refl
    one false = refl

ids_append : (id : Id) (xs ys : List Id) → bounces_in id (xs ++ ys) ≡ bounces_in id xs + bounces_in id ys
ids_append id xs ys = sum_by-append (λ i. cond (id_eq (bounce_of id) i) 1 0) xs ys

ids_one : (id i : Id) → bounces_in id (i ∷ []) ≡ cond (id_eq (bounce_of id) i) 1 0 + 0
ids_one id i = count_more (id_eq (bounce_of id)) i []

-- a message more
added_bounces : (id : Id) (b : Book) (x : Message) → bounces_in id (all_ids (record b { messages = b.messages ++ x ∷ [] })) ≡ cond (id_eq (bounce_of id) x.id) 1 0 + bounces_in id (all_ids b)
added_bounces id b x =
    let a : bounces_in id (all_ids (record b { messages = b.messages ++ x ∷ [] })) ≡ bounces_in id ((message_ids b ++ x.id ∷ []) ++ damaged_ids b) = ap (λ (is : List Id). bounces_in id (is ++ damaged_ids b)) (ids_more b.messages x) in
    let c = ids_append id (message_ids b ++ x.id ∷ []) (damaged_ids b) in
    let d = ids_append id (message_ids b) (x.id ∷ []) in
    let f = ids_one id x.id in
    let g = ids_append id (message_ids b) (damaged_ids b) in
    omega (arith, a, c, d, f, g)

-- a message that comes has an id that nobody has or had
new_pairs : (first : Book) (es : List Entry) (w : World) (l : Ledger) (x : Message) (e : Entry) → IsBounced first es l → IsConsistent w l → (HasCome l x.id → ⊥) → (HasCome l (bounce_of x.id) → ⊥) → x.id.bounce ≡ false → ((id : Id) → is_bounce_entry id e ≡ false) →
    (id : Id) → id.bounce ≡ false → IsIn id (message_ids (record l.book { messages = l.book.messages ++ x ∷ [] })) → IsPair first es l (record l.book { messages = l.book.messages ++ x ∷ [] }) e id
new_pairs first es w l x e h c fresh childless plain none id alone there =
    elim (in_either id (message_ids l.book) (x.id ∷ []) (subst (IsIn id) (ids_more l.book.messages x) there)) [
      | inl old ↦ inl (
        old,
        added_bounces id l.book x ∙ ap (λ b. cond b 1 0 + bounces_in id (all_ids l.book)) (bounce_not id x.id plain ∙ sym (none id)),
      )
      | inr new ↦ inr (
          let same : id ≡ x.id = mine new in
          let more : bounces first id (es ++ e ∷ []) ≡ 0 + bounces first id es = bounces_more first id es e ∙ ap (λ b. cond b 1 0 + bounces first id es) (none id) in
          let stored : count_by (is_bounce_entry id) es ≡ 0 = no_entry (list_any (is_bounce_entry id) es) refl (λ k. fresh (subst (HasCome l) same (h.old id (inl k)))) in
          let at_first : count_by (id_eq (bounce_of id)) (all_ids first) ≡ 0 = none_in (bounce_of id) (all_ids first) (λ k. childless (subst (λ (i : Id). HasCome l (bounce_of i)) same (h.old (bounce_of id) (inr k)))) in
          let here : bounces_in id (all_ids l.book) ≡ 0 = none_in (bounce_of id) (all_ids l.book) (λ k. childless (subst (λ (i : Id). HasCome l (bounce_of i)) same (file_come w l (bounce_of id) c k))) in
          let now : bounces_in id (all_ids (record l.book { messages = l.book.messages ++ x ∷ [] })) ≡ 0 + bounces_in id (all_ids l.book) = added_bounces id l.book x ∙ ap (λ b. cond b 1 0 + bounces_in id (all_ids l.book)) (bounce_not id x.id plain) in
          omega (arith, more, stored, at_first, here, now))
    ]
  where
    mine : IsIn id (x.id ∷ []) → id ≡ x.id
    mine (inl e) = sym e
    mine (inr k) = absurd k

    no_entry : (t : Bool) → list_any (is_bounce_entry id) es ≡ t → (list_any (is_bounce_entry id) es ≡ true → ⊥) → count_by (is_bounce_entry id) es ≡ 0
    no_entry true k never = absurd (never k)
    no_entry false k never = count_none (is_bounce_entry id) es k

arrive_pairs : (first : Book) (es : List Entry) (w : World) (l : Ledger) (i : Id) (sender : Option (List ℕ)) (to : List Receiver) (content : List ℕ) → IsBounced first es l → IsConsistent w l → may_arrive l i ≡ true → IsPairStep first es l (change w l (entries.Arrive i sender to content)) (entries.Arrive i sender to content)
arrive_pairs first es w l i sender to content h c can =
    let same : i ≡ next_id l = id_eq-true i (next_id l) (and_parts l.timed (id_eq i (next_id l)) can).1 in
    record {
      past = refl;
      generation = refl;
      pairs = new_pairs first es w l (arrived l i sender to content) (entries.Arrive i sender to content) h c
          (λ k. not_yet l i (ap (λ (j : Id). j.generation) same) (ap (λ (j : Id). j.serial) same) k.come)
          (λ k. not_yet l (bounce_of i) (ap (λ (j : Id). j.generation) same) (ap (λ (j : Id). j.serial) same) k.come)
          (ap (λ (j : Id). j.bounce) same) (λ id. refl);
      old = λ id k. absurd cc;
    }

-- the bounce of a message that stands
bounce_pairs : (first : Book) (es : List Entry) (w : World) (l : Ledger) (i : Id) (m : Message) → IsConsistent w l → message_of l.book i ≡ Some m → wants_bounce m ≡ true → IsPairStep first es l (record l { book = add_message l.book (bounce_message l.now m) }) (entries.Bounce i)
bounce_pairs first es w l i m c there wants =
    let mine = message_in l.book i m there in
    let plain : i.bounce ≡ false = ap (λ (j : Id). j.bounce) (sym mine.1) ∙ not-true m.id.bounce (and_parts (not (has_none m.failures) && not (is_none m.sender)) (not m.id.bounce) wants).1 in
    record {
      past = refl;
      generation = refl;
      pairs = λ id alone inside. elim (in_either id (message_ids l.book) (bounce_of m.id ∷ []) (subst (IsIn id) (ids_more l.book.messages (bounce_message l.now m)) inside)) [
        | inl old ↦ inl (
          old,
          added_bounces id l.book (bounce_message l.now m)
              ∙ ap (λ b. cond b 1 0 + bounces_in id (all_ids l.book)) (ap (λ (j : Id). id_eq (bounce_of id) (bounce_of j)) mine.1 ∙ bounce_apart id i alone plain),
        )
        | inr new ↦ absurd (not_it id alone new)
      ];
      old = λ id h. subst (HasCome l) (id_eq-true i id h) (file_come w l i c (in_left i (message_ids l.book) (damaged_ids l.book) (subst (λ j. IsIn j (message_ids l.book)) mine.1 (in_map (λ (x : Message). x.id) m l.book.messages mine.0))));
    }
  where
    not_it : (id : Id) → id.bounce ≡ false → IsIn id (bounce_of m.id ∷ []) → ⊥
    not_it id alone (inl e) = let bad : true ≡ false = ap (λ (j : Id). j.bounce) e ∙ alone in absurd cc
    not_it id alone (inr k) = absurd k

bounce_may : (first : Book) (es : List Entry) (w : World) (l : Ledger) (i : Id) (o : Option Message) → IsConsistent w l → message_of l.book i ≡ o →
    option_map_or (λ (m : Message). is_active m.place && is_at_rest l i && is_done m && wants_bounce m && not (has_bounce l i)) o false ≡ true →
    IsPairStep first es l (option_map_or (λ (m : Message). record l { book = add_message l.book (bounce_message l.now m) }) o l) (entries.Bounce i)
bounce_may first es w l i None c there can = absurd cc
bounce_may first es w l i (Some m) c there can =
    let one = and_parts (is_active m.place && is_at_rest l i && is_done m && wants_bounce m) (not (has_bounce l i)) can in
    bounce_pairs first es w l i m c there (and_parts (is_active m.place && is_at_rest l i && is_done m) (wants_bounce m) one.0).1

-- ---- a message that leaves is no bounce of one that stands

filtered_count : (p : Id → Bool) (i : Id) (ms : List Message) → p i ≡ false → count_by p (map (λ (m : Message). m.id) (filter (λ (m : Message). not (id_eq m.id i)) ms)) ≡ count_by p (map (λ (m : Message). m.id) ms)
filtered_count p i [] h = refl
filtered_count p i (m ∷ ms) h = on (id_eq m.id i) refl (filtered_count p i ms h)
  where
    on : (t : Bool) → id_eq m.id i ≡ t → count_by p (map (λ (x : Message). x.id) (filter (λ (x : Message). not (id_eq x.id i)) ms)) ≡ count_by p (map (λ (x : Message). x.id) ms) →
        count_by p (map (λ (x : Message). x.id) (cond (not t) (m ∷ filter (λ (x : Message). not (id_eq x.id i)) ms) (filter (λ (x : Message). not (id_eq x.id i)) ms))) ≡ count_by p (m.id ∷ map (λ (x : Message). x.id) ms)
    on false e rest =
        let a = count_more p m.id (map (λ (x : Message). x.id) (filter (λ (x : Message). not (id_eq x.id i)) ms)) in
        let b = count_more p m.id (map (λ (x : Message). x.id) ms) in
        omega (arith, a, b, rest)
    on true e rest =
        let b : count_by p (m.id ∷ map (λ (x : Message). x.id) ms) ≡ 0 + count_by p (map (λ (x : Message). x.id) ms) = count_more p m.id (map (λ (x : Message). x.id) ms) ∙ ap (λ t. cond t 1 0 + count_by p (map (λ (x : Message). x.id) ms)) (ap p (id_eq-true m.id i e) ∙ h) in
        omega (arith, b, rest)

removed_bounces : (id i : Id) (b : Book) → id_eq (bounce_of id) i ≡ false → bounces_in id (all_ids (remove_message b i)) ≡ bounces_in id (all_ids b)
removed_bounces id i b other =
    let a = ids_append id (map (λ (m : Message). m.id) (filter (λ (m : Message). not (id_eq m.id i)) b.messages)) (damaged_ids b) in
    let c = ids_append id (message_ids b) (damaged_ids b) in
    let d : bounces_in id (map (λ (m : Message). m.id) (filter (λ (m : Message). not (id_eq m.id i)) b.messages)) ≡ bounces_in id (message_ids b) = filtered_count (id_eq (bounce_of id)) i b.messages other in
    omega (arith, a, c, d)

stands_true : (b : Book) (id : Id) → IsIn id (message_ids b) → stands b id ≡ true
stands_true b id there = on (message_of b id) refl
  where
    on : (o : Option Message) → message_of b id ≡ o → (is_some o || is_some (damaged_of b id)) ≡ true
    on (Some m) e = refl
    on None e =
        let one = in_unmap (λ (m : Message). m.id) id b.messages there in
        let bad : true ≡ false = sym (ap (λ (j : Id). id_eq j id) one.2 ∙ id_eq-refl id) ∙ find_none (λ (m : Message). id_eq m.id id) one.0 b.messages e one.1 in
        absurd cc

-- where both a message and its bounce stand, the bounce is not in active
pub bounce_waits : (w : World) (l : Ledger) (id i : Id) (m : Message) → IsConsistent w l → id.bounce ≡ false → IsIn id (message_ids l.book) → bounce_of id ≡ i → message_of l.book i ≡ Some m → is_active m.place ≡ true → ⊥
bounce_waits w l id i m c plain there same found active =
    let mine = message_in l.book i m found in
    let listed : IsIn i (all_ids l.book) = in_left i (message_ids l.book) (damaged_ids l.book) (subst (λ j. IsIn j (message_ids l.book)) mine.1 (in_map (λ (x : Message). x.id) m l.book.messages mine.0)) in
    let ids = (and_parts (list_all (λ j. nat_le j.generation l.book.generation && is_paired l.book j) (all_ids l.book)) (list_all (λ (x : Message). is_active x.place || is_sound x) l.book.messages) c.book.orderly).0 in
    let pair : is_paired l.book i ≡ true = (and_parts (nat_le i.generation l.book.generation) (is_paired l.book i) (all_at (λ j. nat_le j.generation l.book.generation && is_paired l.book j) i (all_ids l.book) ids listed)).1 in
    let flag : i.bounce ≡ true = ap (λ (j : Id). j.bounce) (sym same) in
    let cause : cause_of i ≡ id = same_id (cause_of i) id (ap (λ (j : Id). j.generation) (sym same)) (ap (λ (j : Id). j.serial) (sym same)) (sym plain) in
    let standing : stands l.book (cause_of i) ≡ true = ap (stands l.book) cause ∙ stands_true l.book id there in
    let waits : stands_in is_incoming l.book i ≡ true = paired_waits i.bounce (stands l.book (cause_of i)) (stands_in is_incoming l.book i) (option_map_or (λ (x : Message). is_active x.place && is_sealed x) (message_of l.book (cause_of i)) false) flag standing pair in
    elim (or_cases (list_any (λ (x : Message). id_eq x.id i && is_incoming x.place) l.book.messages) (list_any (λ (d : Damaged). id_eq d.id i && is_incoming d.place) l.book.damaged) waits) [
      | inl whole ↦
          let one = any_in (λ (x : Message). id_eq x.id i && is_incoming x.place) l.book.messages whole in
          let two = and_parts (id_eq one.0.id i) (is_incoming one.0.place) one.2 in
          let it : one.0 ≡ m = only_message l.book c.book.distinct one.0 m one.1 mine.0 (id_eq-true one.0.id i two.0 ∙ sym mine.1) in
          active_not_incoming m.place active (subst (λ (x : Message). is_incoming x.place ≡ true) it two.1)
      | inr broken ↦
          let one = any_in (λ (d : Damaged). id_eq d.id i && is_incoming d.place) l.book.damaged broken in
          let name : one.0.id ≡ i = id_eq-true one.0.id i (and_parts (id_eq one.0.id i) (is_incoming one.0.place) one.2).0 in
          (distinct_parts (message_ids l.book) (damaged_ids l.book) c.book.distinct).2 i (subst (λ j. IsIn j (message_ids l.book)) mine.1 (in_map (λ (x : Message). x.id) m l.book.messages mine.0))
          (subst (λ j. IsIn j (damaged_ids l.book)) name (in_map (λ (d : Damaged). d.id) one.0 l.book.damaged one.1))
    ]
  where
    paired_waits : (b s t u : Bool) → b ≡ true → s ≡ true → (not b || not s || (t && u)) ≡ true → t ≡ true
    paired_waits true true true u x y h = refl
    paired_waits true true false u x y h = h
    paired_waits false s t u x y h = absurd cc
    paired_waits true false t u x y h = absurd cc

remove_on : (first : Book) (es : List Entry) (w : World) (l : Ledger) (i : Id) (o : Option Message) → IsConsistent w l → message_of l.book i ≡ o → option_map_or (λ (m : Message). is_active m.place && is_at_rest l i && is_done m && (not (wants_bounce m) || has_bounce l i)) o false ≡ true →
    IsPairStep first es l (change w l (entries.Remove i)) (entries.Remove i)
remove_on first es w l i None c found can = absurd cc
remove_on first es w l i (Some m) c found can =
    let three = and_parts (is_active m.place && is_at_rest l i && is_done m) (not (wants_bounce m) || has_bounce l i) can in
    let two = and_parts (is_active m.place && is_at_rest l i) (is_done m) three.0 in
    let active = (and_parts (is_active m.place) (is_at_rest l i) two.0).0 in
    record {
      past = refl;
      generation = refl;
      pairs = λ id plain there.
          let before : IsIn id (message_ids l.book) = names_filtered (λ (x : Message). x.id) (λ (x : Message). not (id_eq x.id i)) id l.book.messages there in
          let same : bounces_in id (all_ids (remove_message l.book i)) ≡ bounces_in id (all_ids l.book) = removed_bounces id i l.book (apart id plain before active (id_eq (bounce_of id) i) refl) in
          inl (before, omega (arith, same));
      old = λ id k. absurd cc;
    }
  where
    apart : (id : Id) → id.bounce ≡ false → IsIn id (message_ids l.book) → is_active m.place ≡ true → (t : Bool) → id_eq (bounce_of id) i ≡ t → t ≡ false
    apart id plain before active false e = refl
    apart id plain before active true e = absurd (bounce_waits w l id i m c plain before (id_eq-true (bounce_of id) i e) found active)

-- ---- any entry

outcomes_alike : (w : World) (l k : Ledger) (ps : List ℕ) (os : List Outcome) (o : Option Message) → (k.past ≡ l.past) × (k.book ≡ l.book) →
    ((option_map_or (λ (m : Message). record k { unsettled = k.unsettled ++ needs_of w k.now m ps os }) o k).past ≡ l.past) × ((option_map_or (λ (m : Message). record k { unsettled = k.unsettled ++ needs_of w k.now m ps os }) o k).book ≡ l.book)
outcomes_alike w l k ps os None h = h
outcomes_alike w l k ps os (Some m) h = h

reply_alike : (w : World) (l : Ledger) (state : SiteState) (os : List Outcome) (o : Option Delivery) → ((option_map_or (λ (f : Delivery). replied w l state os f) o l).past ≡ l.past) × ((option_map_or (λ (f : Delivery). replied w l state os f) o l).book ≡ l.book)
reply_alike w l state os None = (refl, refl)
reply_alike w l state os (Some f) = outcomes_alike w l (landed w l state f) f.row.positions os (message_of l.book f.row.id) (refl, refl)

two_step : (first : Book) (es : List Entry) (l k : Ledger) (e : Entry) → (k.past ≡ l.past) × (k.book ≡ l.book) → ((id : Id) → is_bounce_entry id e ≡ false) → IsPairStep first es l k e
two_step first es l k e h none = ids_step first es l k e h.0 (ap (λ (b : Book). b.generation) h.1) (ap (λ (b : Book). message_ids b) h.1) (ap (λ (b : Book). damaged_ids b) h.1) none

changed_step : (first : Book) (es : List Entry) (l k : Ledger) (e : Entry) (i : Id) (f : Message → Message) → ((m : Message) → (f m).id ≡ m.id) → k.past ≡ l.past → k.book ≡ change_message l.book i f → ((id : Id) → is_bounce_entry id e ≡ false) → IsPairStep first es l k e
changed_step first es l k e i f name past book none = ids_step first es l k e past (ap (λ (b : Book). b.generation) book) (ap (λ (b : Book). message_ids b) book ∙ ids_changed l.book i f name) (ap (λ (b : Book). damaged_ids b) book) none

pair_step : (first : Book) (es : List Entry) (w : World) (l : Ledger) (e : Entry) → IsConsistent w l → may w l e ≡ true → is_life e ≡ false → IsBounced first es l → IsPairStep first es l (change w l e) e
pair_step first es w l (entries.Life generation mode) c can alive h = absurd cc
pair_step first es w l (entries.At t) c can alive h = alike_pairs first es l (change w l (entries.At t)) (entries.At t) (at_alike w l t (nat_le l.next_run t)) (λ id. refl)
pair_step first es w l (entries.Arrive i sender to content) c can alive h = arrive_pairs first es w l i sender to content h c can
pair_step first es w l (entries.Back i) c can alive h = changed_step first es l (change w l (entries.Back i)) (entries.Back i) i (move_to places.Incoming) (λ m. refl) refl refl (λ id. refl)
pair_step first es w l (entries.Admit i) c can alive h = let a = picked_alike l (pick l) in changed_step first es l (change w l (entries.Admit i)) (entries.Admit i) i (move_to places.Active) (λ m. refl) a.past refl (λ id. refl)
pair_step first es w l (entries.Load i from to) c can alive h = alike_pairs first es l (change w l (entries.Load i from to)) (entries.Load i from to) (load_alike w l i from to (message_of l.book i)) (λ id. refl)
pair_step first es w l (entries.Start number i site ps) c can alive h = two_step first es l (change w l (entries.Start number i site ps)) (entries.Start number i site ps) (refl, refl) (λ id. refl)
pair_step first es w l (entries.Preempt child parent transport need) c can alive h = two_step first es l (change w l (entries.Preempt child parent transport need)) (entries.Preempt child parent transport need) (refl, refl) (λ id. refl)
pair_step first es w l (entries.Reply number state os) c can alive h = two_step first es l (change w l (entries.Reply number state os)) (entries.Reply number state os) (reply_alike w l state os (flight_of l number)) (λ id. refl)
pair_step first es w l (entries.Skip i site ps) c can alive h = two_step first es l (change w l (entries.Skip i site ps)) (entries.Skip i site ps) (outcomes_alike w l (unqueued l i site ps) ps (replicate (length ps) (outcomes.Later 0)) (message_of l.book i) (refl, refl)) (λ id. refl)
pair_step first es w l (entries.Log i f) c can alive h = changed_step first es l (change w l (entries.Log i f)) (entries.Log i f) i (with_failure f) (λ m. refl) refl refl (λ id. refl)
pair_step first es w l (entries.Mark i q) c can alive h = changed_step first es l (change w l (entries.Mark i q)) (entries.Mark i q) i (with_mark q) (λ m. refl) refl refl (λ id. refl)
pair_step first es w l (entries.Sync i) c can alive h = changed_step first es l (change w l (entries.Sync i)) (entries.Sync i) i sync_all (λ m. refl) refl refl (λ id. refl)
pair_step first es w l (entries.Defer i due) c can alive h = changed_step first es l (change w l (entries.Defer i due)) (entries.Defer i due) i (move_to (places.Deferred due)) (λ m. refl) refl refl (λ id. refl)
pair_step first es w l (entries.Bounce i) c can alive h = bounce_may first es w l i (message_of l.book i) c refl can
pair_step first es w l (entries.Remove i) c can alive h = remove_on first es w l i (message_of l.book i) c refl can
pair_step first es w l (entries.Corrupt i) c can alive h = let a = corrupt_alike l (is_next_leftover l i) in ids_step first es l (change w l (entries.Corrupt i)) (entries.Corrupt i) a.past refl refl (moved_ids i l.book.damaged) (λ id. refl)
pair_step first es w l (entries.Trigger kind) c can alive h = alike_pairs first es l (change w l (entries.Trigger kind)) (entries.Trigger kind) (trigger_alike w l kind) (λ id. refl)
pair_step first es w l entries.End c can alive h = two_step first es l l entries.End (refl, refl) (λ id. refl)

old_parts : (first : Book) (es : List Entry) (e : Entry) (id : Id) → IsOld first (es ++ e ∷ []) id → IsOld first es id ⊎ (is_bounce_entry id e ≡ true)
old_parts first es e id (inr there) = inl (inr there)
old_parts first es e id (inl h) = elim (or_cases (list_any (is_bounce_entry id) es) (is_bounce_entry id e || false) (sym (list_any-append (is_bounce_entry id) es (e ∷ [])) ∙ h)) [
  | inl before ↦ inl (inl before)
  | inr now ↦ inr (last (is_bounce_entry id e) now)
]
  where
    last : (b : Bool) → (b || false) ≡ true → b ≡ true
    last true k = refl
    last false k = k

-- an entry that is no new life
pub step_bounced : (first : Book) (es : List Entry) (w : World) (l : Ledger) (e : Entry) → IsConsistent w l → may w l e ≡ true → is_life e ≡ false → IsBounced first es l → IsBounced first (es ++ e ∷ []) (after w l e)
step_bounced first es w l e c can alive h =
    let s = pair_step first es w l e c can alive h in
    let is = after_is w l e in
    let k = after w l e in
    let past : k.past ≡ e ∷ l.past = is.past ∙ ap (λ (xs : List Entry). e ∷ xs) s.past in
    let generation : k.book.generation ≡ l.book.generation = ap (λ (b : Book). b.generation) is.book ∙ s.generation in
    record {
      pairs = λ id plain there.
          let book : bounces_in id (all_ids k.book) ≡ bounces_in id (all_ids (change w l e).book) = ap (λ (b : Book). bounces_in id (all_ids b)) is.book in
          let more = bounces_more first id es e in
          elim (s.pairs id plain (subst (λ (b : Book). IsIn id (message_ids b)) is.book there)) [
            | inl old ↦ (let was = h.pairs id plain old.0 in let now = old.1 in omega (arith, book, more, was, now))
            | inr new ↦ omega (arith, book, new)
          ];
      old = λ id o. come_later l k e id past generation (elim (old_parts first es e id o) [ inl was ↦ h.old id was | inr now ↦ s.old id now ]);
    }

-- ---- lives

-- between lives: the same of a book, and who is old is of no later generation
pub record IsBouncedBook (first : Book) (es : List Entry) (b : Book) : Type 0 where
  pub pairs : (id : Id) → id.bounce ≡ false → IsIn id (message_ids b) → bounces first id es ≡ bounces_in id (all_ids b)
  pub old : (id : Id) → IsOld first es id → id.generation ≤ b.generation

pub life_bounced : (first : Book) (es : List Entry) (w : World) (l : Ledger) (mode : Mode) → IsBouncedBook first es l.book → IsBounced first (es ++ entries.Life (l.book.generation + 1) mode ∷ []) (after w l (entries.Life (l.book.generation + 1) mode))
life_bounced first es w l mode h =
    let e = entries.Life (l.book.generation + 1) mode in
    let is = after_is w l e in
    let k = after w l e in
    let whole : message_ids k.book ≡ message_ids l.book = ap (λ (b : Book). message_ids b) is.book ∙ ids_mapped firm_failures l.book.messages (λ m. refl) in
    let broken : damaged_ids k.book ≡ damaged_ids l.book = ap (λ (b : Book). damaged_ids b) is.book in
    let generation : k.book.generation ≡ l.book.generation + 1 = ap (λ (b : Book). b.generation) is.book in
    record {
      pairs = λ id plain there.
          let same : bounces_in id (all_ids k.book) ≡ bounces_in id (all_ids l.book) = ap (λ (xs : List Id). bounces_in id (xs ++ damaged_ids k.book)) whole ∙ ap (λ (xs : List Id). bounces_in id (message_ids l.book ++ xs)) broken in
          let more : bounces first id (es ++ e ∷ []) ≡ 0 + bounces first id es = bounces_more first id es e in
          let was = h.pairs id plain (subst (IsIn id) whole there) in
          omega (arith, same, more, was);
      old = λ id o. elim (old_parts first es e id o) [
        | inl was ↦
            let below : id.generation ≤ l.book.generation = h.old id was in
            record {
              come = or_left (nat_lt id.generation k.book.generation) (nat_le id.serial (arrivals k)) (lt-ltb id.generation k.book.generation (omega (arith, below, generation)));
              generation = omega (arith, below, generation);
            }
        | inr now ↦ absurd cc
      ];
    }
