-- An entry that is read has the line that it is read from.
use Rattle.std.proofs.Common.{◌≡◌, ◌≤◌, ◌∙◌, ℕ, Option, Some, None, List, [], ◌∷◌, ◌++◌, length, map, refl, sym, ap, subst, arith}
use Rattle.std.specs.Prelude.{bytes_eq, codes, decimal, flat_map, if◌then◌else◌, option_and_then, option_map, replicate}
use Rattle.std.specs.Option.{option_map_or}
use Rattle.std.proofs.lemmas.List.{append-nil, length-map, length-replicate}
use Rattle.std.proofs.lemmas.Slice.Eq.{bytes_eq-Decides}
use Rattle.q_numbers.specs.Numbers.{number_within}
use Rattle.q_text.specs.ValueForms.{FitsBits}
use Rattle.q_numbers.specs.Pieces.{cut}
use Rattle.q_text.proofs.Exactness.{Exact, exact_last}
use Rattle.q_numbers.proofs.PieceLaws.{cut_back}
use Rattle.q_text.proofs.NumberReads.{exact_number}
use Rattle.q_text.proofs.WordReads.{exact_trigger, guarded, word_or}
use Rattle.q_model.proofs.EachLaws.{find-passes}
use Rattle.q_model.proofs.RecordLaws.{bind_some, map_some}
use Rattle.q_model.specs.declared.entry.Entry.{Entry}
use Rattle.q_model.specs.declared.id.Id.{Id}
use Rattle.q_model.specs.IdTexts.{id_text, IsId}
use Rattle.q_model.specs.declared.event.Mode.{Mode}
use Rattle.q_model.specs.declared.event.Mode.TheVariants.{Deliver, Intake}
use Rattle.q_model.specs.Settings.{Table}
use Rattle.q_model.specs.Text.{joined, outcome_text, sender_text, spaced, state_text, transport_text, words}
use Rattle.q_trace.specs.declared.kind.Kind.{Kind}
use Rattle.q_trace.specs.Bodies.{arrive_behind, at_behind, entry_behind, defer_behind, entry_of_line, kind_of, life_in, life_behind, load_behind, log_behind, mark_behind, plain_behind, preempt_behind, reply_behind, skip_behind, start_behind}
use Rattle.q_trace.specs.Bounds.{IsEntry}
use Rattle.q_trace.specs.Kinds.{all_kinds, word_of}
use Rattle.q_trace.specs.PartTexts.{id_of}
use Rattle.q_trace.proofs.BodyReads.{body_from, exact_arrive, exact_defer, exact_load, exact_log, exact_mark, exact_moment, exact_preempt, exact_reply, exact_skip, exact_start, IsBody}
use Rattle.q_trace.proofs.Joining.{spaced_joined}
use Rattle.q_trace.proofs.ListReads.{addresses, to_forms}
use Rattle.q_model.specs.Values.{Receiver}
use Rattle.q_trace.proofs.ValueReads.{exact_id}
use Rattle.q_model.specs.declared.entry.Entry.TheVariants as entries
use Rattle.q_trace.specs.declared.kind.Kind.TheVariants as kinds

-- a list at the end stands behind a space
pub list_line : {A : Type 0} (front : List ℕ) (write : A → List ℕ) (xs : List A) → 1 ≤ length xs → front ++ flat_map spaced (map write xs) ≡ front ++ 32 ∷ joined (map write xs)
list_line front write xs h = ap (λ (x : List ℕ). front ++ x) (spaced_joined (map write xs) (omega (arith, length-map xs write, h)))

pub exact_generation : Exact (number_within 1 4294967295) (λ n. (1 ≤ n) × FitsBits 32 n) (λ n. decimal n ++ [])
exact_generation = exact_last (exact_number 1 4294967295 (λ n. (1 ≤ n) × FitsBits 32 n) (omega arith) (λ n a b. (a, omega (arith, b))) (λ n h. (h.0, omega (arith, h.1)))).exact

life_in_back : (table : Table) (mode : Mode) (text : List ℕ) (e : Entry) → life_in mode text ≡ Some e → (g : ℕ) × (entries.Life g mode ≡ e) × IsEntry table (entries.Life g mode) × (decimal g ≡ text)
life_in_back table mode text e h =
    let (g, found, same) = map_some (λ (g : ℕ). entries.Life g mode) (number_within 1 4294967295 text) e h in
    let (is, written) = exact_generation.back text g found in
    (g, same, is, sym (append-nil (decimal g)) ∙ written)

life_cut : (table : Table) (text : List ℕ) (e : Entry) (o : Option (List ℕ × List ℕ)) → cut 32 text ≡ o
    → option_map_or (λ (c : List ℕ × List ℕ). if bytes_eq c.1 (codes "intake") then life_in Intake c.0 else None) o (life_in Deliver text) ≡ Some e
    → IsEntry table e × (joined (words table e) ≡ codes "life" ++ 32 ∷ text)
life_cut table text e None k h =
    let (g, same, is, written) = life_in_back table Deliver text e h in
    subst (λ (e : Entry). IsEntry table e × (joined (words table e) ≡ codes "life" ++ 32 ∷ text)) same
    (is, ap (λ (x : List ℕ). codes "life" ++ 32 ∷ x) (append-nil (decimal g) ∙ written))
life_cut table text e (Some c) k h =
    let (word, later) = guarded (bytes_eq c.1 (codes "intake")) (life_in Intake c.0) e h in
    let (g, same, is, written) = life_in_back table Intake c.0 e later in
    let whole : decimal g ++ 32 ∷ codes "intake" ≡ text =
    ap (λ (x : List ℕ). x ++ 32 ∷ codes "intake") written ∙ ap (λ (x : List ℕ). c.0 ++ 32 ∷ x) (sym ((bytes_eq-Decides c.1 (codes "intake")).0 word)) ∙ cut_back 32 text c.0 c.1 k in
    subst (λ (e : Entry). IsEntry table e × (joined (words table e) ≡ codes "life" ++ 32 ∷ text)) same (is, ap (λ (x : List ℕ). codes "life" ++ 32 ∷ x) whole)

life_body : (table : Table) → IsBody table (codes "life") life_behind
life_body table = record { back = λ text e h. life_cut table text e (cut 32 text) refl h }

arrive_line : (table : Table) (v : Id × (Option (List ℕ) × (ℕ × List Receiver))) → 1 ≤ length v.1.1.1
    → joined (words table (entries.Arrive v.0 v.1.0 v.1.1.1 (replicate v.1.1.0 0))) ≡ codes "arrive" ++ 32 ∷ (id_text v.0 ++ 32 ∷ (sender_text v.1.0 ++ 32 ∷ (decimal v.1.1.0 ++ 32 ∷ joined (addresses v.1.1.1))))
arrive_line table v h =
    let front = λ (x : List ℕ). codes "arrive" ++ 32 ∷ (id_text v.0 ++ 32 ∷ (sender_text v.1.0 ++ 32 ∷ x)) in
    ap (λ (n : ℕ). front (decimal n ++ flat_map spaced (addresses v.1.1.1))) (length-replicate v.1.1.0 0) ∙ ap (λ (x : List ℕ). front (decimal v.1.1.0 ++ x)) (spaced_joined (addresses v.1.1.1) (omega (arith, h, length-map v.1.1.1 (λ (r : Receiver). r.address))))

arrive_body : (table : Table) → IsBody table (codes "arrive") arrive_behind
arrive_body table =
    body_from table (codes "arrive") (λ v. entries.Arrive v.0 v.1.0 v.1.1.1 (replicate v.1.1.0 0)) exact_arrive
    (λ v h. (h.0, h.1.0, subst (λ (n : ℕ). n ≤ 10240000) (sym (length-replicate v.1.1.0 0)) h.1.1.0, to_forms v.1.1.1 h.1.1.1.0, h.1.1.1.1)) (λ v h. arrive_line table v h.1.1.1.0.0)

at_body : (table : Table) → IsBody table (codes "at") at_behind
at_body table = body_from table (codes "at") (λ t. entries.At t) exact_moment (λ t h. h) (λ t h. refl)

load_body : (table : Table) → IsBody table (codes "load") load_behind
load_body table = body_from table (codes "load") (λ v. entries.Load v.0 v.1.0 v.1.1) exact_load (λ v h. (h.0, h.1.0, h.1.1)) (λ v h. refl)

start_body : (table : Table) → IsBody table (codes "start") (start_behind table)
start_body table =
    body_from table (codes "start") (λ v. entries.Start v.0 v.1.0 (record { transport = v.1.1.0; hop = v.1.1.1.0 }) v.1.1.1.1) (exact_start table)
    (λ v h. (h.0, h.1.0, (h.1.1.0, h.1.1.1.0), h.1.1.1.1))
    (λ v h. ap (λ (x : List ℕ). codes "start" ++ 32 ∷ (decimal v.0 ++ 32 ∷ (id_text v.1.0 ++ 32 ∷ (transport_text table v.1.1.0 ++ 32 ∷ x)))) (list_line v.1.1.1.0 decimal v.1.1.1.1 h.1.1.1.1.0))

preempt_body : (table : Table) → IsBody table (codes "preempt") (preempt_behind table)
preempt_body table =
    body_from table (codes "preempt") (λ v. entries.Preempt v.0 v.1.0 v.1.1.0 v.1.1.1) (exact_preempt table) (λ v h. (h.0, h.1.0, h.1.1.0, h.1.1.1)) (λ v h. refl)

reply_body : (table : Table) → IsBody table (codes "reply") reply_behind
reply_body table =
    body_from table (codes "reply") (λ v. entries.Reply v.0 v.1.0 v.1.1) exact_reply (λ v h. (h.0, h.1.1))
    (λ v h. ap (λ (x : List ℕ). codes "reply" ++ 32 ∷ (decimal v.0 ++ 32 ∷ x)) (list_line (state_text v.1.0) outcome_text v.1.1 h.1.1.0))

skip_body : (table : Table) → IsBody table (codes "skip") (skip_behind table)
skip_body table =
    body_from table (codes "skip") (λ v. entries.Skip v.0 (record { transport = v.1.0; hop = v.1.1.0 }) v.1.1.1) (exact_skip table)
    (λ v h. (h.0, (h.1.0, h.1.1.0), h.1.1.1))
    (λ v h. ap (λ (x : List ℕ). codes "skip" ++ 32 ∷ (id_text v.0 ++ 32 ∷ (transport_text table v.1.0 ++ 32 ∷ x))) (list_line v.1.1.0 decimal v.1.1.1 h.1.1.1.0))

log_body : (table : Table) → IsBody table (codes "log") log_behind
log_body table =
    body_from table (codes "log") (λ v. entries.Log v.0 (record { position = v.1.0; why = v.1.1.0; code = v.1.1.1 })) exact_log (λ v h. (h.0, h.1.0, h.1.1.1)) (λ v h. refl)

mark_body : (table : Table) → IsBody table (codes "mark") mark_behind
mark_body table = body_from table (codes "mark") (λ v. entries.Mark v.0 v.1) exact_mark (λ v h. (h.0, h.1)) (λ v h. refl)

defer_body : (table : Table) → IsBody table (codes "defer") defer_behind
defer_body table = body_from table (codes "defer") (λ v. entries.Defer v.0 v.1) exact_defer (λ v h. (h.0, h.1)) (λ v h. refl)

id_body : (table : Table) (word : List ℕ) (make : Id → Entry) → ((id : Id) → IsId id → IsEntry table (make id)) → ((id : Id) → joined (words table (make id)) ≡ word ++ 32 ∷ (id_text id ++ []))
    → IsBody table word (λ text. option_map make (id_of text))
id_body table word make fits line = body_from table word make (exact_last exact_id.exact) fits (λ id h. line id)

body_back : (table : Table) (kind : Kind) → IsBody table (word_of kind) (entry_behind table kind)
unfolding entry_behind plain_behind
body_back table kinds.Life = life_body table
body_back table kinds.At = at_body table
body_back table kinds.Arrive = arrive_body table
body_back table kinds.Back = id_body table (codes "back") (λ id. entries.Back id) (λ id h. h) (λ id. refl)
body_back table kinds.Admit = id_body table (codes "admit") (λ id. entries.Admit id) (λ id h. h) (λ id. refl)
body_back table kinds.Load = load_body table
body_back table kinds.Start = start_body table
body_back table kinds.Preempt = preempt_body table
body_back table kinds.Reply = reply_body table
body_back table kinds.Skip = skip_body table
body_back table kinds.Log = log_body table
body_back table kinds.Mark = mark_body table
body_back table kinds.Sync = id_body table (codes "sync") (λ id. entries.Sync id) (λ id h. h) (λ id. refl)
body_back table kinds.Defer = defer_body table
body_back table kinds.Bounce = id_body table (codes "bounce") (λ id. entries.Bounce id) (λ id h. h) (λ id. refl)
body_back table kinds.Remove = id_body table (codes "remove") (λ id. entries.Remove id) (λ id h. h) (λ id. refl)
body_back table kinds.Corrupt = id_body table (codes "corrupt") (λ id. entries.Corrupt id) (λ id h. h) (λ id. refl)
body_back table kinds.Trigger = body_from table (codes "trigger") (λ kind. entries.Trigger kind) (exact_last exact_trigger.exact) (λ kind h. tt) (λ kind h. refl)

word_back : (word : List ℕ) (kind : Kind) → kind_of word ≡ Some kind → word_of kind ≡ word
unfolding kind_of
word_back word kind h = (bytes_eq-Decides (word_of kind) word).0 (find-passes (λ kind. bytes_eq (word_of kind) word) all_kinds kind h)

-- a line of more than one word
cut_line : (table : Table) (text : List ℕ) (e : Entry)
    → option_and_then (λ (c : List ℕ × List ℕ). option_and_then (λ kind. entry_behind table kind c.1) (kind_of c.0)) (cut 32 text) ≡ Some e → IsEntry table e × (joined (words table e) ≡ text)
cut_line table text e h =
    let (c, halves, later) = bind_some (cut 32 text) (λ (c : List ℕ × List ℕ). option_and_then (λ kind. entry_behind table kind c.1) (kind_of c.0)) e h in
    let (kind, named, read) = bind_some (kind_of c.0) (λ (kind : Kind). entry_behind table kind c.1) e later in
    let (is, line) = (body_back table kind).back c.1 e read in
    (is, line ∙ ap (λ (x : List ℕ). x ++ 32 ∷ c.1) (word_back c.0 kind named) ∙ cut_back 32 text c.0 c.1 halves)

pub entry_back : (table : Table) (text : List ℕ) (e : Entry) → entry_of_line table text ≡ Some e → IsEntry table e × (joined (words table e) ≡ text)
unfolding entry_of_line
entry_back table text e h =
    word_or text (codes "end") entries.End e _ (IsEntry table e × (joined (words table e) ≡ text)) h
    (λ word same. subst (λ (e : Entry). IsEntry table e × (joined (words table e) ≡ text)) same (tt, sym word)) (λ _ k. cut_line table text e k)
