-- Which file comes into memory next.
use Rattle.std.proofs.Common.{◌≡◌, ℕ, Bool, true, false, List, [], ◌∷◌, ◌++◌, length, refl, sym, ap, ◌∙◌, subst, Option, Some, None, option_map, inl, inr}
use Rattle.std.proofs.lemmas.List.{length-map}
use Rattle.std.specs.Prelude.{filter, filter_map, not, ◌&&◌, ◌||◌, nat_lt, nat_le, is_some, if◌then◌else◌, option_and_then}
use Rattle.std.specs.Option.{option_map_or}
use Rattle.std.specs.List.{list_all, cons_option}
use Rattle.q_core.proofs.ChoiceLaws.{least-all, list_all-filter}
use Rattle.q_core.proofs.LeftLaws.{damaged_there, stand_each, stands_all}
use Rattle.q_core.proofs.NameLaws.{and_true_parts, id_eq-same, or_right}
use Rattle.q_core.proofs.RuleLaws.{same_free}
use Rattle.q_core.specs.Agrees.{Matches, AgreesButScan, IsSeen, IsSeenScan, file_of, found_at, found_deferred, found_incoming, found_next, slot_of}
use Rattle.q_core.specs.Decisions.{IsRule, IsRuleOrLooks}
use Rattle.q_core.specs.Facts.{is_nothing, picked, picked_decision, picked_next, picked_place}
use Rattle.q_core.specs.Held.{free_in}
use Rattle.q_core.specs.Rules.{admission_in, admission_of, admission_seen, has_message_room_in, next_admission_in}
use Rattle.q_core.specs.Scanning.{scan_after}
use Rattle.q_core.specs.declared.decision.Found.{Found}
use Rattle.q_core.specs.declared.decision.Found.TheVariants.{Damaged, Nothing, Whole}
use Rattle.q_core.specs.declared.state.Core.{Core}
use Rattle.q_core.specs.declared.state.Seen.{Seen}
use Rattle.q_core.specs.declared.state.Seen.TheVariants.{Known, Unknown}
use Rattle.q_model.specs.Admissions.{cause_gone, delivers, has_room, may_admit}
use Rattle.q_model.specs.Book.{Book, damaged_of, ids_at, message_of, stands}
use Rattle.q_model.specs.Ids.{id_before, id_eq}
use Rattle.q_model.specs.Leaving.{may_corrupt}
use Rattle.q_model.specs.Ledger.{Ledger}
use Rattle.q_model.specs.Leftovers.{is_next_leftover}
use Rattle.q_model.specs.Lists.{first_of}
use Rattle.q_model.specs.Message.{Message}
use Rattle.q_model.specs.Next.{admission_rule}
use Rattle.q_model.specs.Places.{due_of, is_incoming}
use Rattle.q_model.specs.Scans.{deferred_name, deferred_names, is_ahead, name_before, scan_next}
use Rattle.q_model.specs.Settings.{Settings, World}
use Rattle.q_model.specs.Alternation.{Pick, deferred_next, from_deferred, from_incoming, incoming_next, is_pick, pick, pick_id, pick_of, pick_with}
use Rattle.q_model.specs.declared.entry.Entry.{Entry}
use Rattle.q_model.specs.declared.id.Id.{Id}
use Rattle.q_model.specs.declared.rows.DeferredName.{DeferredName}
use Rattle.q_model.specs.declared.rows.Place.{Place}
use Rattle.q_model.specs.declared.rows.Request.{Request}
use Rattle.q_model.specs.declared.rows.Scan.{Scan}
use Rattle.q_model.specs.declared.entry.Entry.TheVariants as entries
use Rattle.q_core.specs.declared.decision.Decision.TheVariants as decisions
use Rattle.q_model.specs.Book.{Damaged as DamagedFile}

-- the names of deferred stand in the book
abbrev named : Id → ℕ → DeferredName
named id due = record { due = due; id = id }

name_step : (q : Id → Bool) (id : Id) (o : Option ℕ) (rest : List DeferredName) → q id ≡ true → list_all (λ (n : DeferredName). q n.id) rest ≡ true →
    list_all (λ (n : DeferredName). q n.id) (cons_option (option_map (named id) o) rest) ≡ true
name_step q id None rest h k = k
name_step q id (Some due) rest h k = ap (λ b. b && list_all (λ (n : DeferredName). q n.id) rest) h ∙ k

name_each : {X : Type 0} (name : X → Id) (place : X → Place) (q : Id → Bool) (xs : List X) → list_all (λ x. q (name x)) xs ≡ true →
    list_all (λ (n : DeferredName). q n.id) (filter_map (λ x. deferred_name (place x) (name x)) xs) ≡ true
name_each name place q [] h = refl
name_each name place q (x ∷ xs) h =
    let parts = and_true_parts (q (name x)) (list_all (λ y. q (name y)) xs) h in
    name_step q (name x) (due_of (place x)) (filter_map (λ y. deferred_name (place y) (name y)) xs) parts.0 (name_each name place q xs parts.1)

all_append : {X : Type 0} (q : X → Bool) (xs ys : List X) → list_all q xs ≡ true → list_all q ys ≡ true → list_all q (xs ++ ys) ≡ true
all_append q [] ys h k = k
all_append q (x ∷ xs) ys h k = let p = and_true_parts (q x) (list_all q xs) h in ap (λ b. b && list_all q (xs ++ ys)) p.0 ∙ all_append q xs ys p.1 k

names_stand : (b : Book) → list_all (λ (n : DeferredName). stands b n.id) (deferred_names b) ≡ true
names_stand b =
    all_append (λ (n : DeferredName). stands b n.id) (filter_map (λ (m : Message). deferred_name m.place m.id) b.messages) (filter_map (λ (d : DamagedFile). deferred_name d.place d.id) b.damaged)
    (name_each (λ (m : Message). m.id) (λ (m : Message). m.place) (stands b) b.messages
    (stand_each (λ (m : Message). m.id) (stands b) b.messages (λ k g. ap (λ z. z || is_some (damaged_of b k)) g)))
    (name_each (λ (d : DamagedFile). d.id) (λ (d : DamagedFile). d.place) (stands b) b.damaged
    (stand_each (λ (d : DamagedFile). d.id) (stands b) b.damaged (λ k g. or_right (is_some (message_of b k)) (is_some (damaged_of b k)) g)))

-- both queues give names that stand
incoming_stands : (l : Ledger) (id : Id) → incoming_next l ≡ Some id → stands l.book id ≡ true
incoming_stands l id e = least-all id_before (stands l.book) (ids_at is_incoming l.book) id (stands_all is_incoming l.book) e

scan_stands : (b : Book) (s : Scan) (n : DeferredName) → scan_next b s ≡ Some n → stands b n.id ≡ true
scan_stands b s n e = least-all name_before (λ (k : DeferredName). stands b k.id) (filter (is_ahead s) (deferred_names b)) n
    (list_all-filter (λ (k : DeferredName). stands b k.id) (is_ahead s) (deferred_names b) (names_stand b)) e

abbrev pub next_of : Book → Option Scan → Option DeferredName
next_of b o = option_and_then (λ s. scan_next b s) o

next_stands : (b : Book) (o : Option Scan) (n : DeferredName) → next_of b o ≡ Some n → stands b n.id ≡ true
next_stands b None n e = cc
next_stands b (Some s) n e = scan_stands b s n e

deferred_stands : (l : Ledger) (n : DeferredName) → deferred_next l ≡ Some n → stands l.book n.id ≡ true
deferred_stands l n e = next_stands l.book l.scan n e

-- what the two looks and the queue that follows give is the file of the pick
abbrev pick_due : Pick → ℕ
pick_due (from_incoming id) = 0
pick_due (from_deferred n) = n.due

abbrev pick_found : Ledger → Option Pick → Found
pick_found l o = option_map_or (λ p. found_at l (pick_due p) (pick_id p)) o Nothing

abbrev pub found_on : Ledger → ℕ → Id → Option Message → Found
found_on l due id o = option_map_or (λ m. Whole id due (file_of l id m)) o (Damaged id due (cause_gone l.book id))

pub some_found : (l : Ledger) (due : ℕ) (id : Id) (o : Option Message) → is_nothing (found_on l due id o) ≡ false
some_found l due id None = refl
some_found l due id (Some m) = refl

abbrev incoming_on : Ledger → Option Id → Found
incoming_on l o = option_map_or (λ id. found_at l 0 id) o Nothing

abbrev pick_both : Bool → Id → Option DeferredName → Option Pick
pick_both follows id o = Some (pick_with follows id o)

abbrev pick_on : Bool → Option DeferredName → Option Id → Option Pick
pick_on follows d o = pick_of follows o d

found_by : (l : Ledger) (b : Bool) (n : DeferredName) (id : Id) → (if b then found_at l n.due n.id else found_at l 0 id) ≡ pick_found l (Some (if b then from_deferred n else from_incoming id))
found_by l true n id = refl
found_by l false n id = refl

picked_is : (l : Ledger) (follows : Bool) (i : Option Id) (d : Option DeferredName) → picked follows (incoming_on l i) (found_next l d) ≡ pick_found l (pick_on follows d i)
picked_is l follows None None = refl
picked_is l follows None (Some n) = refl
picked_is l follows (Some id) None = ap (λ b. if b then Nothing else found_at l 0 id) (some_found l 0 id (message_of l.book id))
picked_is l follows (Some id) (Some n) =
    ap (λ b. if b then found_at l n.due n.id else (if is_nothing (found_at l n.due n.id) then found_at l 0 id else (if follows then found_at l n.due n.id else found_at l 0 id))) (some_found l 0 id (message_of l.book id))
    ∙ ap (λ b. if b then found_at l 0 id else (if follows then found_at l n.due n.id else found_at l 0 id)) (some_found l n.due n.id (message_of l.book n.id))
    ∙ found_by l follows n id

-- the pick stands
both_stand : (l : Ledger) (follows : Bool) (id : Id) (d : Option DeferredName) (p : Pick) → stands l.book id ≡ true → ((n : DeferredName) → d ≡ Some n → stands l.book n.id ≡ true) → pick_both follows id d ≡ Some p → stands l.book (pick_id p) ≡ true
both_stand l follows id None p hi hd e = let same : from_incoming id ≡ p = cc in subst (λ x. stands l.book (pick_id x) ≡ true) same hi
both_stand l true id (Some n) p hi hd e = let same : from_deferred n ≡ p = cc in subst (λ x. stands l.book (pick_id x) ≡ true) same (hd n refl)
both_stand l false id (Some n) p hi hd e = let same : from_incoming id ≡ p = cc in subst (λ x. stands l.book (pick_id x) ≡ true) same hi

on_stand : (l : Ledger) (follows : Bool) (d : Option DeferredName) (i : Option Id) (p : Pick) → ((id : Id) → i ≡ Some id → stands l.book id ≡ true) → ((n : DeferredName) → d ≡ Some n → stands l.book n.id ≡ true) →
    pick_on follows d i ≡ Some p → stands l.book (pick_id p) ≡ true
on_stand l follows None None p hi hd e = cc
on_stand l follows (Some n) None p hi hd e = let same : from_deferred n ≡ p = cc in subst (λ x. stands l.book (pick_id x) ≡ true) same (hd n refl)
on_stand l follows d (Some id) p hi hd e = both_stand l follows id d p (hi id refl) hd e

pick_stands : (l : Ledger) (p : Pick) → pick l ≡ Some p → stands l.book (pick_id p) ≡ true
pick_stands l p e = on_stand l l.deferred_follows (deferred_next l) (incoming_next l) p (incoming_stands l) (deferred_stands l) e

-- the two tests of a pick, where there is room
abbrev pick_is : Id → Option Pick → Bool
pick_is id o = option_map_or (λ p. id_eq (pick_id p) id) o false

picks_itself : (l : Ledger) (p : Pick) → pick l ≡ Some p → is_pick l (pick_id p) ≡ true
picks_itself l p e = ap (pick_is (pick_id p)) e ∙ id_eq-same (pick_id p)

admit_is : (w : World) (l : Ledger) (p : Pick) → has_room w l ≡ true → pick l ≡ Some p → may_admit w l (pick_id p) ≡ (is_some (message_of l.book (pick_id p)) && cause_gone l.book (pick_id p))
admit_is w l p room e =
    ap (λ b. b && is_pick l (pick_id p) && is_some (message_of l.book (pick_id p)) && cause_gone l.book (pick_id p)) room
    ∙ ap (λ b. true && b && is_some (message_of l.book (pick_id p)) && cause_gone l.book (pick_id p)) (picks_itself l p e)

drops : (a b : Bool) → (a && true && b) ≡ (a && b)
drops true b = refl
drops false b = refl

move_is : (w : World) (l : Ledger) (p : Pick) → has_room w l ≡ true → pick l ≡ Some p → may_corrupt w l (pick_id p) ≡ (is_some (damaged_of l.book (pick_id p)) && cause_gone l.book (pick_id p))
move_is w l p room e =
    ap (λ b. is_some (damaged_of l.book (pick_id p)) && b && cause_gone l.book (pick_id p))
    (or_right (is_next_leftover l (pick_id p)) (has_room w l && is_pick l (pick_id p)) (ap (λ b. b && is_pick l (pick_id p)) room ∙ picks_itself l p e))
    ∙ drops (is_some (damaged_of l.book (pick_id p))) (cause_gone l.book (pick_id p))

abbrev pick_choice : Id → Bool → Bool → Option Entry
pick_choice id admit corrupt = first_of ((admit, entries.Admit id) ∷ (corrupt, entries.Corrupt id) ∷ [])

whole_table : (c : Core) (id : Id) (place : Place) (damaged alone : Bool) → IsRule c (if alone then Some (decisions.Admit id place) else None) (pick_choice id alone (damaged && alone))
whole_table c id place damaged true = (entries.Admit id, refl, refl)
whole_table c id place true false = refl
whole_table c id place false false = refl

damaged_table : (c : Core) (id : Id) (place : Place) (alone : Bool) → IsRule c (if alone then Some (decisions.Corrupt id place) else None) (pick_choice id false alone)
damaged_table c id place true = (entries.Corrupt id, refl, refl)
damaged_table c id place false = refl

pick_at : (c : Core) (l : Ledger) (place : Place) (due : ℕ) (id : Id) → stands l.book id ≡ true → (o : Option Message) → message_of l.book id ≡ o →
    IsRule c (picked_decision place (found_on l due id o)) (pick_choice id (is_some o && cause_gone l.book id) (is_some (damaged_of l.book id) && cause_gone l.book id))
pick_at c l place due id h None e =
    subst (λ b. IsRule c (if cause_gone l.book id then Some (decisions.Corrupt id place) else None) (pick_choice id false (b && cause_gone l.book id))) (sym (damaged_there l.book id h e))
    (damaged_table c id place (cause_gone l.book id))
pick_at c l place due id h (Some m) e = whole_table c id place (is_some (damaged_of l.book id)) (cause_gone l.book id)

abbrev pick_entry : World → Ledger → Option Pick → Option Entry
pick_entry w l o = option_and_then (λ p. pick_choice (pick_id p) (may_admit w l (pick_id p)) (may_corrupt w l (pick_id p))) o

pick_decided : (w : World) (c : Core) (l : Ledger) (place : Place) → has_room w l ≡ true → (o : Option Pick) → pick l ≡ o → IsRule c (picked_decision place (pick_found l o)) (pick_entry w l o)
pick_decided w c l place room None e = refl
pick_decided w c l place room (Some p) e =
    let id = pick_id p in
    subst (λ o. IsRule c (picked_decision place (found_at l (pick_due p) id)) o)
    (sym (ap (λ b. pick_choice id b (may_corrupt w l id)) (admit_is w l p room e)
    ∙ ap (λ b. pick_choice id (is_some (message_of l.book id) && cause_gone l.book id) b) (move_is w l p room e)))
    (pick_at c l place (pick_due p) id (pick_stands l p e) (message_of l.book id) refl)

-- with both looks answered, the core takes what the ledger picks
pick_decides : {w : World} {c : Core} {l : Ledger} (place : Place) → AgreesButScan w c l → has_room w l ≡ true → IsRule c (picked_decision place (picked c.deferred_follows (found_incoming l) (found_deferred l))) (pick_entry w l (pick l))
pick_decides {w = w} {c = c} {l = l} place h room =
    subst (λ f. IsRule c (picked_decision place f) (pick_entry w l (pick l)))
    (sym (ap (λ b. picked b (found_incoming l) (found_deferred l)) h.deferred_follows ∙ picked_is l l.deferred_follows (incoming_next l) (deferred_next l)))
    (pick_decided w c l place room (pick l) refl)

same_room : {w : World} {c : Core} {l : Ledger} → AgreesButScan w c l → has_message_room_in c ≡ has_room w l
same_room {w = w} {c = c} {l = l} h =
    ap (λ m. delivers m && nat_lt (length c.admitted) c.params.active_limit && nat_le c.params.recipient_minimum (free_in c)) h.mode
    ∙ ap (λ n. delivers l.mode && nat_lt n c.params.active_limit && nat_le c.params.recipient_minimum (free_in c)) (ap length h.admitted ∙ length-map l.admitted (slot_of l))
    ∙ ap (λ (s : Settings). delivers l.mode && nat_lt (length l.admitted) s.active_limit && nat_le s.recipient_minimum (free_in c)) h.settings
    ∙ ap (λ n. delivers l.mode && nat_lt (length l.admitted) w.settings.active_limit && nat_le w.settings.recipient_minimum n) (same_free h)

abbrev room_on : World → Ledger → Bool → Option Entry
room_on w l b = if b then pick_entry w l (pick l) else None

-- a core without a scan agrees with a ledger without one
pub no_deferred : (c : Core) (l : Ledger) → scan_after l.book l.now None c.asked ≡ (l.scan, l.asked) → Nothing ≡ found_deferred l
no_deferred c l h = ap (λ (p : Option Scan × Option Request). found_next l (next_of l.book p.0)) h

admission_known : {w : World} {c : Core} {l : Ledger} → AgreesButScan w c l → has_room w l ≡ true → (incoming deferred : Found) → incoming ≡ found_incoming l → deferred ≡ found_deferred l →
    IsRule c (picked_next c.deferred_follows incoming deferred) (admission_rule w l)
admission_known {w = w} {c = c} {l = l} h room incoming deferred i d =
    let place = picked_place c.deferred_follows incoming deferred in
    subst (λ f. IsRule c (picked_decision place (picked c.deferred_follows f deferred)) (admission_rule w l)) (sym i)
    (subst (λ f. IsRule c (picked_decision place (picked c.deferred_follows (found_incoming l) f)) (admission_rule w l)) (sym d)
    (subst (λ o. IsRule c (picked_decision place (picked c.deferred_follows (found_incoming l) (found_deferred l))) o) (sym (ap (room_on w l) room))
    (pick_decides place h room)))

admission_scanning : {w : World} {c : Core} {l : Ledger} → AgreesButScan w c l → has_room w l ≡ true → (found : Found) → found ≡ found_incoming l → (scan : Scan) → c.scan ≡ Some scan →
    (seen : Seen) → c.deferred ≡ seen → IsSeenScan seen c.scan c.asked l → IsRuleOrLooks c (admission_of c found scan seen) (admission_rule w l)
admission_scanning h room found i scan e Unknown u s = inr (inr (scan, refl, e, u))
admission_scanning h room found i scan e (Known deferred) u s = inl (admission_known h room found deferred i s.2)

admission_scan : {w : World} {c : Core} {l : Ledger} → Matches w c l → has_room w l ≡ true → (found : Found) → found ≡ found_incoming l → (o : Option Scan) → c.scan ≡ o →
    IsRuleOrLooks c (admission_in c found c.deferred o) (admission_rule w l)
admission_scan {c = c} {l = l} a room found i None e =
    inl (admission_known a.parts room found Nothing i (no_deferred c l (ap (λ (o : Option Scan). scan_after l.book l.now o c.asked) (sym e) ∙ a.scan.goes_on)))
admission_scan {c = c} {l = l} a room found i (Some scan) e = admission_scanning a.parts room found i scan e c.deferred refl a.scan.seen

admission_told : {w : World} {c : Core} {l : Ledger} → Matches w c l → has_room w l ≡ true → (seen : Seen) → c.incoming ≡ seen → IsSeen seen (found_incoming l) → IsRuleOrLooks c (admission_seen c seen) (admission_rule w l)
admission_told a room Unknown e h = inr (inl (refl, e))
admission_told {c = c} a room (Known found) e h = admission_scan a room found h c.scan refl

room_law : {w : World} {c : Core} {l : Ledger} → Matches w c l → (b : Bool) → has_room w l ≡ b → IsRuleOrLooks c (if not b then None else admission_seen c c.incoming) (admission_rule w l)
room_law {w = w} {c = c} {l = l} a false e = inl (ap (room_on w l) e)
room_law {c = c} a true e = admission_told a e c.incoming refl a.parts.incoming

pub admission_law : {w : World} {c : Core} {l : Ledger} → Matches w c l → IsRuleOrLooks c (next_admission_in c c.incoming) (admission_rule w l)
admission_law {w = w} {c = c} {l = l} a =
    subst (λ b. IsRuleOrLooks c (if not b then None else admission_seen c c.incoming) (admission_rule w l)) (sym (same_room a.parts)) (room_law a (has_room w l) refl)
