-- The next decision by what is kept beside a ledger is the next decision by the ledger and the counts.
use Rattle.std.proofs.Common.{◌≡◌, ◌+◌, Bool, true, false, List, [], ◌∷◌, length, map, refl, sym, ap, ◌∙◌, subst, arith, suc, Option, Some, None, option_map, if◌then◌else◌}
use Rattle.std.specs.Option.{option_map_or, option_or}
use Rattle.std.specs.Prelude.{◌&&◌, ◌==◌, ◌||◌, count_by, find, is_some, option_and_then}
use Rattle.q_bare.specs.Bare.{bare, bare_message, bare_recipient}
use Rattle.q_bare.specs.CountedRules.{first_rule_by, next_by, start_rule_by}
use Rattle.q_bare.specs.Counts.{Counts}
use Rattle.q_bare.specs.Laws.{IsFoundBare}
use Rattle.q_laws.proofs.JobsLeft.{job_left_few}
use Rattle.q_laws.specs.Consistency.{IsMemoryConsistent}
use Rattle.q_ledger.proofs.ChoiceLaws.{IsLeftWithin, choosing_same}
use Rattle.q_ledger.proofs.RuleLaws.{clearing_same, finishing_same, load_rule_same, sync_rule_same}
use Rattle.q_ledger.specs.Beside.{AreAccounts, IsBeside, IsOfLedger, recipients_in}
use Rattle.q_ledger.specs.Choosing.{choosing_in}
use Rattle.q_ledger.specs.Deciding.{admission_in, admit_in, clearing_in, finishing_in, load_in, moving_in, settling_in, sync_in}
use Rattle.q_ledger.specs.Ruling.{HasLines, next_in}
use Rattle.q_ledger.specs.State.{State}
use Rattle.q_ledger.specs.Worlds.{Given, world_of}
use Rattle.q_ledger.specs.declared.accounts.Accounts.{Accounts}
use Rattle.q_model.proofs.IdLaws.{id_eq-refl}
use Rattle.q_model.specs.Accounts.{job_left}
use Rattle.q_model.specs.Admissions.{cause_gone, has_room, may_admit}
use Rattle.q_model.specs.Alternation.{Pick, is_pick, pick, pick_id}
use Rattle.q_model.specs.Book.{Damaged, message_of}
use Rattle.q_model.specs.Ids.{are_distinct, id_eq}
use Rattle.q_model.specs.Leaving.{may_corrupt}
use Rattle.q_model.specs.Ledger.{Ledger}
use Rattle.q_model.specs.Leftovers.{is_next_leftover}
use Rattle.q_model.specs.Lists.{first_of}
use Rattle.q_model.specs.Message.{Message}
use Rattle.q_model.specs.Next.{admission_rule, admit_or_corrupt, finishing_rule, leftover_rule, load_rule, settling_rule, skip_rule, sync_rule}
use Rattle.q_model.specs.Settings.{World}
use Rattle.q_model.specs.declared.entry.Entry.{Entry}
use Rattle.q_model.specs.declared.entry.Entry.TheVariants as entries
use Rattle.q_model.specs.declared.id.Id.{Id}
use Rattle.q_model.specs.declared.rows.Admitted.{Admitted}

-- ---- a file is admitted

-- where no file is damaged none goes to corrupt
pub not_corrupt : (w : World) (l : Ledger) → l.book.damaged ≡ [] → (id : Id) → may_corrupt w l id ≡ false
not_corrupt w l whole id =
    ap (λ (ds : List Damaged). is_some (find (λ d. id_eq d.id id) ds) && (is_next_leftover l id || (has_room w l && is_pick l id)) && cause_gone l.book id) whole

first_two : {A : Type 0} (a b : A) (x y : Bool) → y ≡ false → (if x then Some a else None) ≡ first_of ((x, a) ∷ (y, b) ∷ [])
first_two a b true y h = refl
first_two a b false y h = sym (ap (λ c. first_of ((false, a) ∷ (c, b) ∷ [])) h)

admit_by : (w : World) (l : Ledger) (p : Pick) → l.book.damaged ≡ [] → has_room w l ≡ true → pick l ≡ Some p → admit_in l p ≡ admit_or_corrupt w l p
admit_by w l p whole room picked =
    let id = pick_id p in
    let mine : is_pick l id ≡ true = ap (λ o. option_map_or (λ q. id_eq (pick_id q) id) o false) picked ∙ id_eq-refl id in
    let stands : Bool = is_some (message_of l.book id) in
    let may : may_admit w l id ≡ (stands && cause_gone l.book id) = ap (λ b. b && is_pick l id && stands && cause_gone l.book id) room ∙ ap (λ b. b && stands && cause_gone l.book id) mine in
    first_two (entries.Admit id) (entries.Corrupt id) (stands && cause_gone l.book id) (may_corrupt w l id) (not_corrupt w l whole id)
    ∙ ap (λ b. first_of ((b, entries.Admit id) ∷ (may_corrupt w l id, entries.Corrupt id) ∷ [])) (sym may)

admitted_by : (w : World) (l : Ledger) (o : Option Pick) → l.book.damaged ≡ [] → has_room w l ≡ true → pick l ≡ o → option_and_then (admit_in l) o ≡ option_and_then (admit_or_corrupt w l) o
admitted_by w l None whole room picked = refl
admitted_by w l (Some p) whole room picked = admit_by w l p whole room picked

admission_where : (w : World) (l : Ledger) (b : Bool) → l.book.damaged ≡ [] → has_room w l ≡ b →
    option_and_then (admit_in l) (if b then pick l else None) ≡ (if b then option_and_then (admit_or_corrupt w l) (pick l) else None)
admission_where w l false whole room = refl
admission_where w l true whole room = admitted_by w l (pick l) whole room refl

pub admission_same : (w : World) (l : Ledger) → l.book.damaged ≡ [] → admission_in w l ≡ admission_rule w l
admission_same w l whole = admission_where w l (has_room w l) whole refl

-- ---- what is left of a bare ledger

length-map : {A B : Type 0} (f : A → B) (xs : List A) → length (map f xs) ≡ length xs
length-map f [] = refl
length-map f (x ∷ xs) = ap suc (length-map f xs)

recipients_bare : (o : Option Message) → option_map_or (λ (m : Message). length m.recipients) (option_map bare_message o) 0 ≡ option_map_or (λ (m : Message). length m.recipients) o 0
recipients_bare None = refl
recipients_bare (Some m) = length-map bare_recipient m.recipients

bare_within : (w : World) (l : Ledger) → IsFoundBare l → IsMemoryConsistent w l → IsLeftWithin (bare l)
bare_within w l found k a inside t =
    let few = job_left_few w l a t k inside in
    let left : job_left (bare l) a.id t ≡ job_left l a.id t = ap (λ n. count_by (λ r. id_eq r.id a.id && (r.site.transport == t)) l.waiting + n) (found.unread a.id) in
    let most : recipients_in (bare l) a.id ≡ option_map_or (λ (m : Message). length m.recipients) (message_of l.book a.id) 0 =
    ap (λ o. option_map_or (λ (m : Message). length m.recipients) o 0) (found.message a.id) ∙ recipients_bare (message_of l.book a.id) in
    omega (arith, few, left, most)

pub left_within : (w : World) (c : Counts) (b : Ledger) → ((l : Ledger) → IsFoundBare l) → IsOfLedger w c b → IsLeftWithin b
left_within w c b found k = subst (λ x. IsLeftWithin x) k.bare_ledger (bare_within w k.ledger (found k.ledger) k.fits.consistent.memory)

-- ---- all rules

either_of : {A : Type 0} (a b c : Option A) → option_or (option_or a b) c ≡ option_or a (option_or b c)
either_of None b c = refl
either_of (Some x) b c = refl

moving_same : (g : Given) (s : State) (c : Counts) → IsOfLedger (world_of g) c s.ledger → IsBeside s → s.ledger.book.damaged ≡ [] → (rest : Option Entry) →
    option_or (moving_in g s) rest
    ≡ option_or (finishing_rule (world_of g) s.ledger) (option_or (leftover_rule (world_of g) s.ledger) (option_or (admission_rule (world_of g) s.ledger) (option_or (load_rule (world_of g) s.ledger) rest)))
moving_same g s c k beside whole rest =
    let w = world_of g in
    let l = s.ledger in
    let apart = subst (λ (x : Ledger). are_distinct (map (λ (a : Admitted). a.id) x.admitted) ≡ true) k.bare_ledger k.fits.consistent.memory.admitted in
    either_of (finishing_in g s) (option_or (clearing_in s) (option_or (admission_in w l) (load_in w s))) rest
    ∙ ap (option_or (finishing_in g s)) (either_of (clearing_in s) (option_or (admission_in w l) (load_in w s)) rest
    ∙ ap (option_or (clearing_in s)) (either_of (admission_in w l) (load_in w s) rest))
    ∙ ap (λ o. option_or o (option_or (clearing_in s) (option_or (admission_in w l) (option_or (load_in w s) rest)))) (finishing_same g s beside apart)
    ∙ ap (λ o. option_or (finishing_rule w l) (option_or o (option_or (admission_in w l) (option_or (load_in w s) rest)))) (clearing_same w s beside (not_corrupt w l whole))
    ∙ ap (λ o. option_or (finishing_rule w l) (option_or (leftover_rule w l) (option_or o (option_or (load_in w s) rest)))) (admission_same w l whole)
    ∙ ap (λ o. option_or (finishing_rule w l) (option_or (leftover_rule w l) (option_or (admission_rule w l) (option_or o rest)))) (load_rule_same w s beside)

settling_same : (w : World) (s : State) → IsBeside s → (rest : Option Entry) → option_or (settling_in w s) rest ≡ option_or (settling_rule s.ledger) (option_or (sync_rule w s.ledger) (option_or (skip_rule s.ledger) rest))
settling_same w s beside rest =
    let l = s.ledger in
    either_of (settling_rule l) (option_or (sync_in w s) (skip_rule l)) rest
    ∙ ap (option_or (settling_rule l)) (either_of (sync_in w s) (skip_rule l) rest)
    ∙ ap (λ o. option_or (settling_rule l) (option_or o (option_or (skip_rule l) rest))) (sync_rule_same w s beside)

pub next_same : (g : Given) (s : State) (a : Accounts) (c : Counts) → ((l : Ledger) → IsFoundBare l) → IsOfLedger (world_of g) c s.ledger → IsBeside s → AreAccounts a c → HasLines (world_of g) s.ledger → s.ledger.book.damaged ≡ [] →
    next_in g s a ≡ next_by c (world_of g) s.ledger
next_same g s a c found k beside accounts lines whole =
    let w = world_of g in
    let l = s.ledger in
    let started : choosing_in g s a (length w.table.transports) ≡ start_rule_by c w l = choosing_same g s a c beside.counted accounts (left_within w c l found k) (length w.table.transports) (sym lines) in
    let rules : option_or (settling_in w s) (option_or (moving_in g s) (choosing_in g s a (length w.table.transports))) ≡ first_rule_by c w l =
    settling_same w s beside (option_or (moving_in g s) (choosing_in g s a (length w.table.transports)))
    ∙ ap (λ o. option_or (settling_rule l) (option_or (sync_rule w l) (option_or (skip_rule l) o))) (moving_same g s c k beside whole (choosing_in g s a (length w.table.transports))
    ∙ ap (λ o. option_or (finishing_rule w l) (option_or (leftover_rule w l) (option_or (admission_rule w l) (option_or (load_rule w l) o)))) started) in
    ap (λ o. if l.timed then o else None) rules
