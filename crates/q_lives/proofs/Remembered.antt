-- What the entries of a trace leave known of who was reported and marked: in its life it has its outcome, and a synced mark stays.
use Rattle.std.proofs.Common.{◌≡◌, ℕ, ◌+◌, ◌≤◌, true, false, cond, List, [], ◌∷◌, ◌++◌, count_by, Option, Some, None, ◌⊎◌, inl, inr, refl, sym, ap, ◌∙◌, subst, arith, eqb-true, leb-true}
use Rattle.std.proofs.lemmas.Bool.{and_parts, or_cases}
use Rattle.std.proofs.lemmas.List.Sums.{sum_by-cons}
use Rattle.std.specs.List.{list_any}
use Rattle.std.specs.Option.{option_map_or}
use Rattle.std.specs.Prelude.{◌==◌, ◌&&◌, length, nat_le}
use Rattle.q_laws.proofs.Books.{message_in, message_listed}
use Rattle.q_laws.proofs.Members.{IsIn, all_at, any_in, find_in}
use Rattle.q_laws.proofs.Synced.{admitted_active}
use Rattle.q_laws.specs.Consistency.{IsConsistent, unsettled_positions}
use Rattle.q_lives.proofs.Bounced.{bounce_waits, come_later, file_come}
use Rattle.q_lives.proofs.Caused.{IsStill, after_still}
use Rattle.q_lives.proofs.Books.{after_is}
use Rattle.q_lives.proofs.KeptMarks.{IsKept, IsKnown, change_kept, mark_bare}
use Rattle.q_lives.proofs.MarkChanges.{IsFromBefore, changed_itself, is_sure_at, mark_marks, sync_sure_at}
use Rattle.q_lives.specs.Causes.{IsReported, is_marked_at, says_ok}
use Rattle.q_lives.specs.Repeats.{IsMarkedForGood}
use Rattle.q_model.specs.Book.{Book, message_of}
use Rattle.q_model.specs.Ids.{bounce_of, cause_of, id_eq}
use Rattle.q_model.specs.Ledger.{Ledger}
use Rattle.q_model.specs.Marking.{with_mark}
use Rattle.q_model.specs.Message.{Message}
use Rattle.q_model.specs.Past.{is_life, is_start, starts}
use Rattle.q_model.specs.Settings.{World}
use Rattle.q_model.specs.Step.{after, change, may}
use Rattle.q_model.specs.Syncs.{sync_all}
use Rattle.q_model.specs.Values.{Site}
use Rattle.q_model.specs.declared.entry.Entry.{Entry}
use Rattle.q_model.specs.declared.id.Id.{Id}
use Rattle.q_model.specs.declared.outcome.Outcome.{Outcome}
use Rattle.q_model.specs.declared.outcome.SiteState.{SiteState}
use Rattle.q_model.specs.declared.rows.Delivery.{Delivery}
use Rattle.q_model.specs.declared.rows.Row.{Row}
use Rattle.q_model.specs.declared.entry.Entry.TheVariants as entries
use Rattle.q_model.proofs.IdLaws.{id_eq-refl, id_eq-true, same_id}
use Rattle.q_model.specs.Places.{is_active}
use Rattle.q_model.specs.Starts.{is_row, may_start}
use Rattle.q_model.specs.Startable.{is_startable}
use Rattle.q_model.specs.Memory.{is_admitted}
use Rattle.q_model.specs.Book.{all_ids}
use Rattle.q_laws.proofs.Delivered.{this_row}
use Rattle.q_lives.proofs.KeptMarks.{IsBookKept}
use Rattle.std.proofs.Common.{if◌then◌else◌, option_map}
use Rattle.std.proofs.lemmas.Option.{same_Some}
use Rattle.std.specs.List.{cons_option}
use Rattle.q_laws.proofs.Members.{in_right}
use Rattle.q_laws.proofs.Distinct.{id_same}
use Rattle.q_model.specs.Settling.{need_of, needs_of, unsettled_row}
use Rattle.q_model.specs.Deliveries.{flight_of}
use Rattle.q_model.specs.Replies.{fits_state, landed, replied}
use Rattle.q_model.specs.Marking.{is_unmarked_at}
use Rattle.q_model.specs.declared.rows.Need.{Need}
use Rattle.q_model.specs.declared.rows.Unsettled.{Unsettled}
use Rattle.q_model.specs.declared.rows.Need.TheVariants as needs
use Rattle.q_model.specs.declared.outcome.Outcome.TheVariants as outcomes
use Rattle.q_lives.proofs.Came.{CameInLife, IsNewReport, came_parts, came_touches, good_parts, good_touches, lifeless, report_parts, report_touches, touched_parts, touches}

-- ---- what is remembered

-- the recipient is marked, where its message stands
abbrev pub IsMarkedIn : Book → Id → ℕ → Type 0
IsMarkedIn b id p = (m : Message) → message_of b id ≡ Some m → is_marked_at m p ≡ true

-- its mark is sure
abbrev pub IsSureIn : Book → Id → ℕ → Type 0
IsSureIn b id p = (m : Message) → message_of b id ≡ Some m → is_sure_at m p ≡ true

-- its outcome waits to be settled, or it is marked
abbrev pub HasOutcome : Ledger → Id → ℕ → Type 0
HasOutcome l id p = (m : Message) → message_of l.book id ≡ Some m → IsIn p (unsettled_positions id l.unsettled) ⊎ (is_marked_at m p ≡ true)

-- the delivery's number is no later one's, and a delivery in flight of this number is it
pub record IsNumbered (l : Ledger) (n : ℕ) (id : Id) (ps : List ℕ) : Type 0 where
  pub number : n ≤ starts l
  pub same : (f : Delivery) → IsIn f l.flights → f.number ≡ n → (f.row.id ≡ id) × (f.row.positions ≡ ps)

pub record IsRemembered (es : List Entry) (l : Ledger) : Type 0 where
  pub known : (id : Id) → list_any (touches id) es ≡ true → IsKnown l id
  pub started : (n : ℕ) (id : Id) (site : Site) (ps : List ℕ) → CameInLife es (entries.Start n id site ps) → IsNumbered l n id ps
  pub reported : (id : Id) (p : ℕ) (mid : List Entry) → IsReported id p es mid → list_any is_life mid ≡ false → HasOutcome l id p
  pub marked : (id : Id) (p : ℕ) → CameInLife es (entries.Mark id p) → IsMarkedIn l.book id p
  pub sure : (id : Id) (p : ℕ) → IsMarkedForGood id p es → IsSureIn l.book id p

-- ---- who is known

active_known : (w : World) (l : Ledger) (id : Id) (m : Message) → IsConsistent w l → message_of l.book id ≡ Some m → is_active m.place ≡ true → IsKnown l id
active_known w l id m c there active =
    let mine = message_in l.book id m there in
    record {
      come = file_come w l id c (subst (λ j. IsIn j (all_ids l.book)) mine.1 (message_listed l.book m mine.0));
      alone = λ flag stands. bounce_waits w l (cause_of id) id m c refl stands (same_id (bounce_of (cause_of id)) id refl refl (sym flag)) there active;
    }

start_known : (w : World) (l : Ledger) (number : ℕ) (i : Id) (site : Site) (ps : List ℕ) → IsConsistent w l → may_start w l number i site ps ≡ true → IsKnown l i
start_known w l number i site ps c can =
    let two = and_parts (number == starts l + 1) (list_any (λ (r : Row). is_row i site ps r && is_startable w l r) l.waiting) can in
    let one = any_in (λ (r : Row). is_row i site ps r && is_startable w l r) l.waiting two.1 in
    let row = this_row i site ps one.0 (and_parts (is_row i site ps one.0) (is_startable w l one.0) one.2).0 in
    let adm : is_admitted l i ≡ true = subst (λ j. is_admitted l j ≡ true) row.name (all_at (λ (r : Row). is_admitted l r.id) one.0 l.waiting c.memory.waiting one.1) in
    let mine = admitted_active w l i c adm in
    active_known w l i mine.0 c mine.1.there mine.1.active

known_now : (w : World) (l : Ledger) (e : Entry) (id : Id) → IsConsistent w l → may w l e ≡ true → touches id e ≡ true → IsKnown l id
known_now w l (entries.Start number i site ps) id c can h = subst (IsKnown l) (id_eq-true i id h) (start_known w l number i site ps c can)
known_now w l (entries.Mark i q) id c can h = let one = mark_bare w l i q c can in subst (IsKnown l) (id_eq-true i id h) (active_known w l i one.message c one.there one.active)
known_now w l (entries.Life generation mode) id c can h = absurd cc
known_now w l (entries.At t) id c can h = absurd cc
known_now w l (entries.Arrive i sender to content) id c can h = absurd cc
known_now w l (entries.Back i) id c can h = absurd cc
known_now w l (entries.Admit i) id c can h = absurd cc
known_now w l (entries.Load i from to) id c can h = absurd cc
known_now w l (entries.Preempt child parent transport need) id c can h = absurd cc
known_now w l (entries.Reply number state os) id c can h = absurd cc
known_now w l (entries.Skip i site ps) id c can h = absurd cc
known_now w l (entries.Log i f) id c can h = absurd cc
known_now w l (entries.Sync i) id c can h = absurd cc
known_now w l (entries.Defer i due) id c can h = absurd cc
known_now w l (entries.Bounce i) id c can h = absurd cc
known_now w l (entries.Remove i) id c can h = absurd cc
known_now w l (entries.Corrupt i) id c can h = absurd cc
known_now w l (entries.Trigger kind) id c can h = absurd cc
known_now w l entries.End id c can h = absurd cc

known_later : (l k : Ledger) (e : Entry) (id : Id) → k.past ≡ e ∷ l.past → IsBookKept l k.book → IsKnown l id → IsKnown k id
known_later l k e id past book h = record {
  come = come_later l k e id past book.generation h.come;
  alone = λ flag there. h.alone flag (book.plain (cause_of id) refl (record { come = h.come.come; generation = h.come.generation }) there);
}

-- ---- numbers of deliveries

start_number : (w : World) (l : Ledger) (e : Entry) (n : ℕ) (id : Id) (site : Site) (ps : List ℕ) → e ≡ entries.Start n id site ps → may w l e ≡ true → n ≡ starts l + 1
start_number w l e n id site ps same can = eqb-true n (starts l + 1) (and_parts (n == starts l + 1) (list_any (λ (r : Row). is_row id site ps r && is_startable w l r) l.waiting) (subst (λ x. may w l x ≡ true) same can)).0

starts_more : (l k : Ledger) (e : Entry) → k.past ≡ e ∷ l.past → starts k ≡ cond (is_start e) 1 0 + starts l
starts_more l k e past = ap (count_by is_start) past ∙ sum_by-cons (λ x. cond (is_start x) 1 0) e l.past

same_start : (n : ℕ) (i : Id) (s : Site) (ps : List ℕ) (m : ℕ) (j : Id) (t : Site) (qs : List ℕ) → entries.Start n i s ps ≡ entries.Start m j t qs → (i ≡ j) × (ps ≡ qs) × (n ≡ m)
same_start n i s ps m j t qs h = (cc, cc, cc)

numbered_now : (w : World) (l k : Ledger) (e : Entry) (n : ℕ) (id : Id) (site : Site) (ps : List ℕ) → IsConsistent w l → may w l e ≡ true → IsKept l k e → k.past ≡ l.past → (after : Ledger) → after.past ≡ e ∷ l.past → after.flights ≡ k.flights → e ≡ entries.Start n id site ps → IsNumbered after n id ps
numbered_now w l k e n id site ps c can s past after later flights same =
    let number = start_number w l e n id site ps same can in
    let more = starts_more l after e later in
    let one : ◌≡◌ {A = ℕ} (cond (is_start e) 1 0) 1 = ap (λ x. cond (is_start x) 1 0) same in
    record {
      number = omega (arith, number, more, one);
      same = λ f h equal. on f equal (s.flights f (subst (IsIn f) flights h));
    }
  where
    on : (f : Delivery) → f.number ≡ n → IsIn f l.flights ⊎ (e ≡ entries.Start f.number f.row.id f.row.site f.row.positions) → (f.row.id ≡ id) × (f.row.positions ≡ ps)
    on f equal (inl old) =
        let number = start_number w l e n id site ps same can in
        let before : f.number ≤ starts l = leb-true f.number (starts l) (all_at (λ (g : Delivery). nat_le g.number (starts l)) f l.flights c.memory.begun old) in
        absurd (omega (arith, number, before, equal))
    on f equal (inr new) = let two = same_start f.number f.row.id f.row.site f.row.positions n id site ps (sym new ∙ same) in (two.0, two.1)

numbered_later : (w : World) (l k : Ledger) (e : Entry) (n : ℕ) (id : Id) (ps : List ℕ) → may w l e ≡ true → IsKept l k e → (after : Ledger) → after.past ≡ e ∷ l.past → after.flights ≡ k.flights → IsNumbered l n id ps → IsNumbered after n id ps
numbered_later w l k e n id ps can s after later flights h =
    let more = starts_more l after e later in
    let before = h.number in
    record {
      number = omega (arith, before, more);
      same = λ f inside equal. on f equal (s.flights f (subst (IsIn f) flights inside));
    }
  where
    on : (f : Delivery) → f.number ≡ n → IsIn f l.flights ⊎ (e ≡ entries.Start f.number f.row.id f.row.site f.row.positions) → (f.row.id ≡ id) × (f.row.positions ≡ ps)
    on f equal (inl old) = h.same f old equal
    on f equal (inr new) =
        let number = start_number w l e f.number f.row.id f.row.site f.row.positions new can in
        let before = h.number in
        absurd (omega (arith, number, before, equal))

-- ---- a delivery that is reported now

more_positions : (id : Id) (p : ℕ) (us vs : List Unsettled) → IsIn p (unsettled_positions id vs) → IsIn p (unsettled_positions id (us ++ vs))
more_positions id p [] vs h = h
more_positions id p (u ∷ us) vs h = in_right p (if id_eq u.id id then u.position ∷ [] else []) (unsettled_positions id (us ++ vs)) (more_positions id p us vs h)

own_position : (id : Id) (q : ℕ) (i : Id) (n : Need) (us : List Unsettled) → i ≡ id → IsIn q (unsettled_positions id (unsettled_row i q n ∷ us))
own_position id q i n us same = subst (λ b. IsIn q ((if b then q ∷ [] else []) ++ unsettled_positions id us)) (sym (id_same i id same)) (inl refl)

later_position : (id : Id) (p q : ℕ) (i : Id) (o : Option Need) (us : List Unsettled) → IsIn p (unsettled_positions id us) → IsIn p (unsettled_positions id (cons_option (option_map (unsettled_row i q) o) us))
later_position id p q i None us h = h
later_position id p q i (Some n) us h = more_positions id p (unsettled_row i q n ∷ []) us h

said_position : (w : World) (now : ℕ) (m : Message) (id : Id) (p : ℕ) (ps : List ℕ) (os : List Outcome) → m.id ≡ id → says_ok p ps os ≡ true → IsIn p (unsettled_positions id (needs_of w now m ps os))
said_position w now m id p [] os same h = absurd cc
said_position w now m id p (q ∷ ps) [] same h = absurd cc
said_position w now m id p (q ∷ ps) (outcomes.Ok ∷ os) same h = elim (or_cases (q == p) (says_ok p ps os) h) [
  | inl here ↦ subst (λ n. IsIn n (unsettled_positions id (needs_of w now m (q ∷ ps) (outcomes.Ok ∷ os)))) (eqb-true q p here) (own_position id q m.id needs.Mark (needs_of w now m ps os) same)
  | inr there ↦ later_position id p q m.id (Some needs.Mark) (needs_of w now m ps os) (said_position w now m id p ps os same there)
]
said_position w now m id p (q ∷ ps) (outcomes.Later code ∷ os) same h = later_position id p q m.id (need_of w now m (outcomes.Later code)) (needs_of w now m ps os) (said_position w now m id p ps os same h)
said_position w now m id p (q ∷ ps) (outcomes.Never code ∷ os) same h = later_position id p q m.id (need_of w now m (outcomes.Never code)) (needs_of w now m ps os) (said_position w now m id p ps os same h)

outcome_on : (w : World) (l : Ledger) (k : Ledger) (id : Id) (p : ℕ) (ps : List ℕ) (os : List Outcome) (o : Option Message) → message_of l.book id ≡ o → k.book ≡ l.book → says_ok p ps os ≡ true → HasOutcome (option_map_or (λ (m : Message). record k { unsettled = k.unsettled ++ needs_of w k.now m ps os }) o k) id p
outcome_on w l k id p ps os None none book said m there = let bad : ◌≡◌ {A = Option Message} None (Some m) = sym none ∙ ap (λ (b : Book). message_of b id) (sym book) ∙ there in absurd cc
outcome_on w l k id p ps os (Some x) found book said m there = inl (more_positions id p k.unsettled (needs_of w k.now x ps os) (said_position w k.now x id p ps os (message_in l.book id x found).1 said))

reply_outcome : (w : World) (l : Ledger) (state : SiteState) (os : List Outcome) (id : Id) (p : ℕ) (ps : List ℕ) (f : Delivery) → f.row.id ≡ id → f.row.positions ≡ ps → says_ok p ps os ≡ true → HasOutcome (replied w l state os f) id p
reply_outcome w l state os id p ps f name at said =
    subst (λ i. HasOutcome (replied w l state os f) i p) name
    (outcome_on w l (landed w l state f) f.row.id p f.row.positions os (message_of l.book f.row.id) refl refl (subst (λ qs. says_ok p qs os ≡ true) (sym at) said))

replied_now : (w : World) (l : Ledger) (n : ℕ) (id : Id) (p : ℕ) (ps : List ℕ) (state : SiteState) (os : List Outcome) (o : Option Delivery) → IsNumbered l n id ps → flight_of l n ≡ o → option_map_or (λ (f : Delivery). (length os == length f.row.positions) && fits_state state os) o false ≡ true → says_ok p ps os ≡ true →
    HasOutcome (option_map_or (λ (f : Delivery). replied w l state os f) o l) id p
replied_now w l n id p ps state os None h found can said = absurd cc
replied_now w l n id p ps state os (Some f) h found can said =
    let one = find_in (λ (g : Delivery). g.number == n) f l.flights found in
    let row = h.same f one.0 (eqb-true f.number n one.1) in
    reply_outcome w l state os id p ps f row.0 row.1 said

-- ---- a mark that is written now, or synced now

mark_now : (w : World) (l : Ledger) (e : Entry) (id : Id) (p : ℕ) → IsConsistent w l → may w l e ≡ true → e ≡ entries.Mark id p → IsMarkedIn (change w l e).book id p
mark_now w l e id p c can same =
    subst (λ x. may w l x ≡ true → IsMarkedIn (change w l x).book id p) (sym same) (λ now m there.
    let one = mark_bare w l id p c now in
    let was = changed_itself l.book id (with_mark p) m (λ x. refl) there in
    subst (λ (x : Message). is_marked_at x p ≡ true) (sym was.2) (mark_marks p was.0 (subst (λ (x : Message). is_unmarked_at x p ≡ true) (same_Some one.message was.0 (sym one.there ∙ was.1)) one.bare))) can

sync_now : (w : World) (l : Ledger) (e : Entry) (id : Id) (p : ℕ) → IsMarkedIn l.book id p → e ≡ entries.Sync id → IsSureIn (change w l e).book id p
sync_now w l e id p marked same =
    subst (λ x. IsSureIn (change w l x).book id p) (sym same) (λ m there.
    let was = changed_itself l.book id sync_all m (λ x. refl) there in
    subst (λ (x : Message). is_sure_at x p ≡ true) (sym was.2) (sync_sure_at was.0 p (marked was.0 was.1)))

-- ---- an entry that is no new life

kept_marked : (l k : Ledger) (id : Id) (p : ℕ) → IsFromBefore l.book k.book id → IsMarkedIn l.book id p → IsMarkedIn k.book id p
kept_marked l k id p from h m there = let was = from m there in was.2.marked p (h was.0 was.1)

pub kept_sure : (b c : Book) (id : Id) (p : ℕ) → IsFromBefore b c id → IsSureIn b id p → IsSureIn c id p
kept_sure b c id p from h m there = let was = from m there in was.2.sure p (h was.0 was.1)

kept_outcome : (w : World) (l : Ledger) (e : Entry) (id : Id) (p : ℕ) → IsConsistent w l → may w l e ≡ true → IsKept l (change w l e) e → IsKnown l id → HasOutcome l id p → HasOutcome (change w l e) id p
kept_outcome w l e id p c can s known h m there =
    let was = s.book.marks id known m there in
    elim (h was.0 was.1) [
      | inl waits ↦ elim (s.unsettled id p waits) [
        | inl still ↦ inl still
        | inr now ↦ inr (mark_now w l e id p c can now m there)
      ]
      | inr marked ↦ inr (was.2.marked p marked)
    ]

still_outcome : (l k : Ledger) (id : Id) (p : ℕ) → IsStill l k → HasOutcome l id p → HasOutcome k id p
still_outcome l k id p a h m there =
    elim (h m (ap (λ (b : Book). message_of b id) (sym a.book) ∙ there)) [
      | inl waits ↦ inl (subst (λ us. IsIn p (unsettled_positions id us)) (sym a.unsettled) waits)
      | inr marked ↦ inr marked
    ]

reply_now : (w : World) (l : Ledger) (es : List Entry) (e : Entry) (id : Id) (p : ℕ) → IsConsistent w l → may w l e ≡ true → IsRemembered es l → IsNewReport id p es e → HasOutcome (change w l e) id p
reply_now w l es e id p c can h r =
    let n = r.0 in
    let site = r.1 in
    let ps = r.2 in
    let state = r.3 in
    let os = r.4 in
    let same : e ≡ entries.Reply n state os = r.5 in
    let came : CameInLife es (entries.Start n id site ps) = r.6 in
    let said : says_ok p ps os ≡ true = r.7 in
    subst (λ x. may w l x ≡ true → HasOutcome (change w l x) id p) (sym same) (λ now. replied_now w l n id p ps state os (flight_of l n) (h.started n id site ps came) refl now said) can

pub step_remembered : (es : List Entry) (w : World) (l : Ledger) (e : Entry) → IsConsistent w l → may w l e ≡ true → is_life e ≡ false → IsRemembered es l → IsRemembered (es ++ e ∷ []) (after w l e)
step_remembered es w l e c can alive h =
    let k = change w l e in
    let s = change_kept w l e c can alive in
    let still = after_still w l e in
    let past : (after w l e).past ≡ e ∷ l.past = (after_is w l e).past ∙ ap (λ (xs : List Entry). e ∷ xs) s.past in
    let book : IsBookKept l (after w l e).book = subst (IsBookKept l) (sym still.book) s.book in
    record {
      known = λ id t. elim (touched_parts id es e t) [
        | inl old ↦ known_later l (after w l e) e id past book (h.known id old)
        | inr new ↦ known_later l (after w l e) e id past book (known_now w l e id c can new)
      ];
      started = λ n id site ps came. elim (came_parts es e (entries.Start n id site ps) came) [
        | inl new ↦ numbered_now w l k e n id site ps c can s s.past (after w l e) past still.flights (sym new)
        | inr old ↦ numbered_later w l k e n id ps can s (after w l e) past still.flights (h.started n id site ps old.0)
      ];
      reported = λ id p mid r same_life. still_outcome k (after w l e) id p still (elim (report_parts id p es e mid r) [
        | inl new ↦ reply_now w l es e id p c can h new
        | inr old ↦
            let before = lifeless old.0 e (sym (ap (list_any is_life) old.1) ∙ same_life) in
            kept_outcome w l e id p c can s (h.known id (report_touches id p es old.0 old.2)) (h.reported id p old.0 old.2 before.0)
      ]);
      marked = λ id p came. subst (λ b. IsMarkedIn b id p) (sym still.book) (elim (came_parts es e (entries.Mark id p) came) [
        | inl new ↦ mark_now w l e id p c can (sym new)
        | inr old ↦ kept_marked l k id p (s.book.marks id (h.known id (came_touches id es (entries.Mark id p) old.0 (id_eq-refl id)))) (h.marked id p old.0)
      ]);
      sure = λ id p good. subst (λ b. IsSureIn b id p) (sym still.book) (elim (good_parts id p es e good) [
        | inl new ↦ sync_now w l e id p (h.marked id p new.1) new.0
        | inr old ↦ kept_sure l.book k.book id p (s.book.marks id (h.known id (good_touches id p es old))) (h.sure id p old)
      ]);
    }
