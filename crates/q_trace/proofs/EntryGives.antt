-- An entry is read from its line, but for what a line doesn't tell.
use Rattle.std.proofs.Common.{◌≡◌, ◌≤◌, ◌∙◌, ℕ, true, false, Option, Some, None, List, [], ◌∷◌, ◌++◌, length, map, refl, sym, ap, arith}
use Rattle.std.specs.List.{list_all}
use Rattle.std.specs.Prelude.{bytes_eq, codes, decimal, option_map, replicate}
use Rattle.std.proofs.lemmas.List.{append-nil}
use Rattle.q_model.specs.declared.entry.Entry.{Entry}
use Rattle.q_model.specs.declared.event.Mode.{Mode}
use Rattle.q_model.specs.declared.event.Mode.TheVariants.{Deliver, Intake}
use Rattle.q_model.specs.declared.id.Id.{Id}
use Rattle.q_model.specs.IdTexts.{id_text, IsId}
use Rattle.q_model.specs.TextParts.{why_text}
use Rattle.q_model.specs.Settings.{Table}
use Rattle.q_model.specs.Values.{Receiver, Site}
use Rattle.q_model.specs.declared.event.Trigger.{Trigger}
use Rattle.q_model.specs.declared.outcome.Failure.{Failure}
use Rattle.q_model.specs.declared.outcome.Outcome.{Outcome}
use Rattle.q_model.specs.declared.outcome.SiteState.{SiteState}
use Rattle.q_model.specs.declared.outcome.Why.{Why}
use Rattle.q_model.specs.Text.{joined, outcome_text, sender_text, state_text, transport_text, trigger_text, words}
use Rattle.q_trace.specs.declared.kind.Kind.{Kind}
use Rattle.q_text.specs.ValueForms.{FitsBits}
use Rattle.q_numbers.specs.Pieces.{cut}
use Rattle.q_text.proofs.SolidTexts.{decimal_solid, is_solid}
use Rattle.q_text.proofs.Exactness.{exact_last}
use Rattle.q_text.proofs.WordReads.{exact_trigger}
use Rattle.q_trace.specs.Bodies.{entry_behind, entry_of_line, kind_of, life_in, plain_behind}
use Rattle.q_trace.specs.Bounds.{IsEntry, as_told, plain}
use Rattle.q_trace.proofs.ListReads.{addresses, plain_addresses, to_plain}
use Rattle.q_trace.specs.Kinds.{word_of}
use Rattle.q_trace.specs.PartTexts.{id_of}
use Rattle.q_trace.proofs.BodyReads.{exact_arrive, exact_defer, exact_load, exact_log, exact_mark, exact_moment, exact_preempt, exact_reply, exact_skip, exact_start}
use Rattle.q_trace.proofs.EntryBacks.{exact_generation, list_line}
use Rattle.q_trace.proofs.Joining.{spaced_joined}
use Rattle.q_trace.proofs.PartLaws.{cut_at, cut_none}
use Rattle.q_trace.proofs.ValueReads.{exact_id}
use Rattle.q_model.specs.declared.entry.Entry.TheVariants as entries
use Rattle.q_trace.specs.declared.kind.Kind.TheVariants as kinds

-- the word of a kind has no spaces, is not `end`, and is that of no other kind
record IsWord (kind : Kind) : Type 0 where
  solid : list_all is_solid (word_of kind) ≡ true
  other : (rest : List ℕ) → bytes_eq (word_of kind ++ 32 ∷ rest) (codes "end") ≡ false
  named : kind_of (word_of kind) ≡ Some kind

word_is : (kind : Kind) → IsWord kind
unfolding kind_of
word_is kinds.Life = record { solid = refl; other = λ rest. refl; named = refl }
word_is kinds.At = record { solid = refl; other = λ rest. refl; named = refl }
word_is kinds.Arrive = record { solid = refl; other = λ rest. refl; named = refl }
word_is kinds.Back = record { solid = refl; other = λ rest. refl; named = refl }
word_is kinds.Admit = record { solid = refl; other = λ rest. refl; named = refl }
word_is kinds.Load = record { solid = refl; other = λ rest. refl; named = refl }
word_is kinds.Start = record { solid = refl; other = λ rest. refl; named = refl }
word_is kinds.Preempt = record { solid = refl; other = λ rest. refl; named = refl }
word_is kinds.Reply = record { solid = refl; other = λ rest. refl; named = refl }
word_is kinds.Skip = record { solid = refl; other = λ rest. refl; named = refl }
word_is kinds.Log = record { solid = refl; other = λ rest. refl; named = refl }
word_is kinds.Mark = record { solid = refl; other = λ rest. refl; named = refl }
word_is kinds.Sync = record { solid = refl; other = λ rest. refl; named = refl }
word_is kinds.Defer = record { solid = refl; other = λ rest. refl; named = refl }
word_is kinds.Bounce = record { solid = refl; other = λ rest. refl; named = refl }
word_is kinds.Remove = record { solid = refl; other = λ rest. refl; named = refl }
word_is kinds.Corrupt = record { solid = refl; other = λ rest. refl; named = refl }
word_is kinds.Trigger = record { solid = refl; other = λ rest. refl; named = refl }

-- a line is read by what stands behind its word
line_gives : (table : Table) (kind : Kind) (rest : List ℕ) (e : Entry) → entry_behind table kind rest ≡ Some e → entry_of_line table (word_of kind ++ 32 ∷ rest) ≡ Some e
unfolding entry_of_line
line_gives table kind rest e h =
    let w = word_is kind in
    rw (w.other rest, cut_at (word_of kind) rest w.solid, w.named) h

id_gives : (make : Id → Entry) (id : Id) → IsId id → option_map make (id_of (id_text id ++ [])) ≡ Some (make id)
id_gives make id h = ap (option_map make) ((exact_last exact_id.exact).gives id h)

generation_solid : (g : ℕ) → (1 ≤ g) × FitsBits 32 g → list_all is_solid (decimal g) ≡ true
generation_solid g h = decimal_solid g (omega (arith, h.1))

life_in_gives : (g : ℕ) (mode : Mode) → (1 ≤ g) × FitsBits 32 g → life_in mode (decimal g) ≡ Some (entries.Life g mode)
life_in_gives g mode h = ap (life_in mode) (sym (append-nil (decimal g))) ∙ ap (option_map (λ (g : ℕ). entries.Life g mode)) (exact_generation.gives g h)

life_gives : (table : Table) (g : ℕ) (mode : Mode) → (1 ≤ g) × FitsBits 32 g → entry_of_line table (joined (words table (entries.Life g mode))) ≡ Some (entries.Life g mode)
unfolding entry_behind plain_behind
life_gives table g Deliver h =
    let alone : cut 32 (decimal g ++ []) ≡ None = ap (cut 32) (append-nil (decimal g)) ∙ cut_none (decimal g) (generation_solid g h) in
    line_gives table kinds.Life (decimal g ++ []) (entries.Life g Deliver) (rw (alone, append-nil (decimal g)) (life_in_gives g Deliver h))
life_gives table g Intake h =
    line_gives table kinds.Life (decimal g ++ 32 ∷ codes "intake") (entries.Life g Intake) (rw (cut_at (decimal g) (codes "intake") (generation_solid g h)) (life_in_gives g Intake h))

arrive_gives : (table : Table) (id : Id) (sender : Option (List ℕ)) (to : List Receiver) (content : List ℕ) → IsEntry table (entries.Arrive id sender to content)
    → entry_of_line table (joined (words table (entries.Arrive id sender to content))) ≡ Some (entries.Arrive id sender (map plain to) (replicate (length content) 0))
unfolding entry_behind
arrive_gives table id sender to content h =
    let front = λ (x : List ℕ). id_text id ++ 32 ∷ (sender_text sender ++ 32 ∷ (decimal (length content) ++ x)) in
    ap (λ (x : List ℕ). entry_of_line table (codes "arrive" ++ 32 ∷ front x)) (spaced_joined (addresses to) h.3.0)
    ∙ ap (λ (ws : List (List ℕ)). entry_of_line table (codes "arrive" ++ 32 ∷ front (32 ∷ joined ws))) (plain_addresses to)
    ∙ line_gives table kinds.Arrive (front (32 ∷ joined (addresses (map plain to)))) (entries.Arrive id sender (map plain to) (replicate (length content) 0))
    (ap (option_map (λ (v : Id × (Option (List ℕ) × (ℕ × List Receiver))). entries.Arrive v.0 v.1.0 v.1.1.1 (replicate v.1.1.0 0)))
    (exact_arrive.gives (id, (sender, (length content, map plain to))) (h.0, (h.1, (h.2, to_plain to h.3 h.4)))))

start_gives : (table : Table) (number : ℕ) (id : Id) (site : Site) (positions : List ℕ) → IsEntry table (entries.Start number id site positions)
    → entry_of_line table (joined (words table (entries.Start number id site positions))) ≡ Some (entries.Start number id site positions)
unfolding entry_behind
start_gives table number id site positions h =
    let front = λ (x : List ℕ). decimal number ++ 32 ∷ (id_text id ++ 32 ∷ (transport_text table site.transport ++ 32 ∷ x)) in
    ap (λ (x : List ℕ). entry_of_line table (codes "start" ++ 32 ∷ front x)) (list_line site.hop decimal positions h.3.0)
    ∙ line_gives table kinds.Start (front (site.hop ++ 32 ∷ joined (map decimal positions))) (entries.Start number id site positions)
    (ap (option_map (λ (v : ℕ × (Id × (ℕ × (List ℕ × List ℕ)))). entries.Start v.0 v.1.0 (record { transport = v.1.1.0; hop = v.1.1.1.0 }) v.1.1.1.1))
    ((exact_start table).gives (number, (id, (site.transport, (site.hop, positions)))) (h.0, (h.1, (h.2.0, (h.2.1, h.3))))))

reply_gives : (table : Table) (number : ℕ) (state : SiteState) (outcomes : List Outcome) → IsEntry table (entries.Reply number state outcomes)
    → entry_of_line table (joined (words table (entries.Reply number state outcomes))) ≡ Some (entries.Reply number state outcomes)
unfolding entry_behind
reply_gives table number state outcomes h =
    let front = λ (x : List ℕ). decimal number ++ 32 ∷ x in
    ap (λ (x : List ℕ). entry_of_line table (codes "reply" ++ 32 ∷ front x)) (list_line (state_text state) outcome_text outcomes h.1.0)
    ∙ line_gives table kinds.Reply (front (state_text state ++ 32 ∷ joined (map outcome_text outcomes))) (entries.Reply number state outcomes)
    (ap (option_map (λ (v : ℕ × (SiteState × List Outcome)). entries.Reply v.0 v.1.0 v.1.1)) (exact_reply.gives (number, (state, outcomes)) (h.0, (tt, h.1))))

skip_gives : (table : Table) (id : Id) (site : Site) (positions : List ℕ) → IsEntry table (entries.Skip id site positions)
    → entry_of_line table (joined (words table (entries.Skip id site positions))) ≡ Some (entries.Skip id site positions)
unfolding entry_behind
skip_gives table id site positions h =
    let front = λ (x : List ℕ). id_text id ++ 32 ∷ (transport_text table site.transport ++ 32 ∷ x) in
    ap (λ (x : List ℕ). entry_of_line table (codes "skip" ++ 32 ∷ front x)) (list_line site.hop decimal positions h.2.0)
    ∙ line_gives table kinds.Skip (front (site.hop ++ 32 ∷ joined (map decimal positions))) (entries.Skip id site positions)
    (ap (option_map (λ (v : Id × (ℕ × (List ℕ × List ℕ))). entries.Skip v.0 (record { transport = v.1.0; hop = v.1.1.0 }) v.1.1.1))
    ((exact_skip table).gives (id, (site.transport, (site.hop, positions))) (h.0, (h.1.0, (h.1.1, h.2)))))

log_gives : (table : Table) (id : Id) (f : Failure) → IsEntry table (entries.Log id f) → entry_of_line table (joined (words table (entries.Log id f))) ≡ Some (entries.Log id f)
unfolding entry_behind plain_behind
log_gives table id f h =
    line_gives table kinds.Log (id_text id ++ 32 ∷ (decimal f.position ++ 32 ∷ (why_text f.why ++ 32 ∷ (decimal f.code ++ [])))) (entries.Log id f)
    (ap (option_map (λ (v : Id × (ℕ × (Why × ℕ))). entries.Log v.0 (record { position = v.1.0; why = v.1.1.0; code = v.1.1.1 })))
    (exact_log.gives (id, (f.position, (f.why, f.code))) (h.0, (h.1, (tt, h.2)))))

preempt_gives : (table : Table) (child parent : Id) (transport need : ℕ) → IsEntry table (entries.Preempt child parent transport need)
    → entry_of_line table (joined (words table (entries.Preempt child parent transport need))) ≡ Some (entries.Preempt child parent transport need)
unfolding entry_behind plain_behind
preempt_gives table child parent transport need h =
    line_gives table kinds.Preempt (id_text child ++ 32 ∷ (id_text parent ++ 32 ∷ (transport_text table transport ++ 32 ∷ (decimal need ++ [])))) (entries.Preempt child parent transport need)
    (ap (option_map (λ (v : Id × (Id × (ℕ × ℕ))). entries.Preempt v.0 v.1.0 v.1.1.0 v.1.1.1)) ((exact_preempt table).gives (child, (parent, (transport, need))) (h.0, (h.1, (h.2, h.3)))))

pub entry_gives : (table : Table) (e : Entry) → IsEntry table e → entry_of_line table (joined (words table e)) ≡ Some (as_told e)
unfolding entry_behind plain_behind entry_of_line
entry_gives table (entries.Life g mode) h = life_gives table g mode h
entry_gives table (entries.At t) h = line_gives table kinds.At (decimal t ++ []) (entries.At t) (ap (option_map (λ (t : ℕ). entries.At t)) (exact_moment.gives t h))
entry_gives table (entries.Arrive id sender to content) h = arrive_gives table id sender to content h
entry_gives table (entries.Back id) h = line_gives table kinds.Back (id_text id ++ []) (entries.Back id) (id_gives (λ id. entries.Back id) id h)
entry_gives table (entries.Admit id) h = line_gives table kinds.Admit (id_text id ++ []) (entries.Admit id) (id_gives (λ id. entries.Admit id) id h)
entry_gives table (entries.Load id from to) h =
    line_gives table kinds.Load (id_text id ++ 32 ∷ (decimal from ++ 32 ∷ (decimal to ++ []))) (entries.Load id from to)
    (ap (option_map (λ (v : Id × (ℕ × ℕ)). entries.Load v.0 v.1.0 v.1.1)) (exact_load.gives (id, (from, to)) (h.0, (h.1, h.2))))
entry_gives table (entries.Start number id site positions) h = start_gives table number id site positions h
entry_gives table (entries.Preempt child parent transport need) h = preempt_gives table child parent transport need h
entry_gives table (entries.Reply number state outcomes) h = reply_gives table number state outcomes h
entry_gives table (entries.Skip id site positions) h = skip_gives table id site positions h
entry_gives table (entries.Log id f) h = log_gives table id f h
entry_gives table (entries.Mark id position) h =
    line_gives table kinds.Mark (id_text id ++ 32 ∷ (decimal position ++ [])) (entries.Mark id position) (ap (option_map (λ (v : Id × ℕ). entries.Mark v.0 v.1)) (exact_mark.gives (id, position) (h.0, h.1)))
entry_gives table (entries.Sync id) h = line_gives table kinds.Sync (id_text id ++ []) (entries.Sync id) (id_gives (λ id. entries.Sync id) id h)
entry_gives table (entries.Defer id due) h =
    line_gives table kinds.Defer (id_text id ++ 32 ∷ (decimal due ++ [])) (entries.Defer id due) (ap (option_map (λ (v : Id × ℕ). entries.Defer v.0 v.1)) (exact_defer.gives (id, due) (h.0, h.1)))
entry_gives table (entries.Bounce id) h = line_gives table kinds.Bounce (id_text id ++ []) (entries.Bounce id) (id_gives (λ id. entries.Bounce id) id h)
entry_gives table (entries.Remove id) h = line_gives table kinds.Remove (id_text id ++ []) (entries.Remove id) (id_gives (λ id. entries.Remove id) id h)
entry_gives table (entries.Corrupt id) h = line_gives table kinds.Corrupt (id_text id ++ []) (entries.Corrupt id) (id_gives (λ id. entries.Corrupt id) id h)
entry_gives table (entries.Trigger kind) h =
    line_gives table kinds.Trigger (trigger_text kind ++ []) (entries.Trigger kind) (ap (option_map (λ (kind : Trigger). entries.Trigger kind)) ((exact_last exact_trigger.exact).gives kind tt))
entry_gives table entries.End h = refl
