-- A list of entries that continue is the front of a run.
use Rattle.std.proofs.Common.{◌≡◌, ℕ, zero, suc, ◌+◌, ◌<◌, ◌≤◌, ◌^◌, Bool, true, false, not, List, [], ◌∷◌, ◌++◌, length, Option, Some, None, inl, inr, refl, sym, ap, ◌∙◌, subst, arith, if◌then◌else◌, append-nil, eqb-true, leb-true, max}
use Rattle.std.proofs.lemmas.Bool.{and_parts}
use Rattle.std.specs.Option.{option_map_or}
use Rattle.std.specs.Prelude.{◌&&◌, ◌||◌, ◌==◌, is_some, nat_le, nat_lt, slice_get}
use Rattle.q_fronts.proofs.Ending.{decision_goes_on, ended_allows, ended_dead}
use Rattle.q_fronts.proofs.Onward.{AreContinued, decided_none, decided_some}
use Rattle.q_fronts.specs.Fronts.{Continues}
use Rattle.q_laws.proofs.Living.{entry_living}
use Rattle.q_laws.specs.Traces.{AreAllowed, is_outside}
use Rattle.q_model.proofs.IdLaws.{id_eq-true}
use Rattle.q_model.specs.Arrivals.{next_id}
use Rattle.q_model.specs.Ids.{id_eq}
use Rattle.q_model.specs.Ledger.{Ledger}
use Rattle.q_model.specs.Lives.{may_life, mode_eq}
use Rattle.q_model.specs.Past.{has_entries, is_end, is_life, is_living}
use Rattle.q_model.specs.Run.{decide, decisions, entry_of, goes_on, run, turn}
use Rattle.q_model.specs.Settings.{World}
use Rattle.q_model.specs.Step.{after, after_all, allowed, may}
use Rattle.q_model.specs.declared.entry.Entry.{Entry}
use Rattle.q_model.specs.declared.event.Event.TheVariants as events
use Rattle.q_model.specs.declared.event.LifeEvent.{LifeEvent}
use Rattle.q_model.specs.declared.event.LifeEvent.TheVariants.{Begin, Finish, Heard}
use Rattle.q_model.specs.declared.event.Mode.{Mode}
use Rattle.q_model.specs.declared.event.Mode.TheVariants.{Deliver, Intake}
use Rattle.q_model.specs.declared.entry.Entry.TheVariants as entries

-- ---- the item of an entry from outside

some_of : (o : Option Entry) → option_map_or (λ e. not (is_end e)) o false ≡ true → is_some o ≡ true
some_of None h = absurd cc
some_of (Some e) h = refl

living_has : (m : Ledger) → is_living m ≡ true → has_entries m ≡ true
living_has m h = some_of (slice_get m.past 0) h

mode_same : (a b : Mode) → mode_eq a b ≡ true → a ≡ b
mode_same Deliver Deliver h = refl
mode_same Intake Intake h = refl
mode_same Deliver Intake h = absurd cc
mode_same Intake Deliver h = absurd cc

pub row_allows : (w : World) (m : Ledger) (e : Entry) → allowed w m e ≡ true → may w m e ≡ true
unfolding allowed
row_allows w m e h = (and_parts (is_living m || (is_life e && not (has_entries m))) (may w m e) h).1

pub record IsItemFor (m : Ledger) (e : Entry) : Type 0 where
  pub item : LifeEvent
  pub entry : entry_of m item ≡ e
  pub on : goes_on item ≡ true

or_second : (a b : Bool) → (not a || b) ≡ true → a ≡ true → b ≡ true
or_second true b h k = h
or_second false b h k = absurd cc

life_item : (m : Ledger) (g : ℕ) (mode : Mode) → is_living m ≡ true → may_life m g mode ≡ true → IsItemFor m (entries.Life g mode)
life_item m g mode living h =
    let numbers = (g == m.book.generation + 1) && nat_lt g (2 ^ 32) in
    let two = and_parts numbers (not (has_entries m) || mode_eq mode m.mode) h in
    let same : g ≡ m.book.generation + 1 = eqb-true g (m.book.generation + 1) (and_parts (g == m.book.generation + 1) (nat_lt g (2 ^ 32)) two.0).0 in
    let modes : mode ≡ m.mode = mode_same mode m.mode (or_second (has_entries m) (mode_eq mode m.mode) two.1 (living_has m living)) in
    record { item = Begin; entry = sym (ap (λ n. entries.Life n mode) same ∙ ap (λ d. entries.Life (m.book.generation + 1) d) modes); on = refl }

at_item : (m : Ledger) (t : ℕ) → nat_le m.now t ≡ true → IsItemFor m (entries.At t)
at_item m t h = let le : m.now ≤ t = leb-true m.now t h in
    let top : max m.now t ≡ t = omega (arith, le) in
    record { item = Heard (events.At t); entry = ap (λ n. entries.At n) top; on = refl }

pub item_for : (w : World) (m : Ledger) (e : Entry) → is_living m ≡ true → is_outside e ≡ true → is_end e ≡ false → may w m e ≡ true → IsItemFor m e
item_for w m (entries.Life g mode) living outside inner h = life_item m g mode living h
item_for w m (entries.At t) living outside inner h = at_item m t h
item_for w m (entries.Arrive id sender to content) living outside inner h =
    let same : id ≡ next_id m = id_eq-true id (next_id m) (and_parts m.timed (id_eq id (next_id m)) h).1 in
    record { item = Heard (events.Mail sender to content); entry = ap (λ i. entries.Arrive i sender to content) (sym same); on = refl }
item_for w m (entries.Reply number state outcomes) living outside inner h = record { item = Heard (events.Reply number state outcomes); entry = refl; on = refl }
item_for w m (entries.Trigger kind) living outside inner h = record { item = Heard (events.Trigger kind); entry = refl; on = refl }
item_for w m entries.End living outside inner h = absurd cc
item_for w m (entries.Back id) living outside inner h = absurd cc
item_for w m (entries.Admit id) living outside inner h = absurd cc
item_for w m (entries.Load id from to) living outside inner h = absurd cc
item_for w m (entries.Start number id site positions) living outside inner h = absurd cc
item_for w m (entries.Preempt child parent transport need) living outside inner h = absurd cc
item_for w m (entries.Skip id site positions) living outside inner h = absurd cc
item_for w m (entries.Log id failure) living outside inner h = absurd cc
item_for w m (entries.Mark id position) living outside inner h = absurd cc
item_for w m (entries.Sync id) living outside inner h = absurd cc
item_for w m (entries.Defer id due) living outside inner h = absurd cc
item_for w m (entries.Bounce id) living outside inner h = absurd cc
item_for w m (entries.Remove id) living outside inner h = absurd cc
item_for w m (entries.Corrupt id) living outside inner h = absurd cc

-- ---- runs

-- behind these decisions a run goes on with the entries
pub record Ahead (w : World) (m : Ledger) (ds es : List Entry) : Type 0 where
  pub items : List LifeEvent
  pub later : List Entry
  pub fits : AreAllowed w (after_all w m ds) items
  pub run : ds ++ run w (after_all w m ds) items ≡ es ++ later

-- so it is of these entries
abbrev pub Forth : List Entry → Type 0
Forth es = (n : ℕ) (w : World) (m : Ledger) → is_living m ≡ true → AreContinued w m es → length es < n → length es < 2 ^ 60 → Ahead w m (decide n w m) es

pub turn_goes : (w : World) (m : Ledger) (item : LifeEvent) (e : Entry) → entry_of m item ≡ e → goes_on item ≡ true → turn w m item ≡ e ∷ decide (2 ^ 60) w (after w m e)
unfolding turn decisions
turn_goes w m item e same on =
    ap (λ b. entry_of m item ∷ (if b then decide (2 ^ 60) w (after w m (entry_of m item)) else [])) on
    ∙ ap (λ x. x ∷ decide (2 ^ 60) w (after w m x)) same

-- an entry from outside that is no end
pub goes : (w : World) (m : Ledger) (item : LifeEvent) (e : Entry) (es : List Entry) → entry_of m item ≡ e → goes_on item ≡ true → allowed w m e ≡ true →
    Ahead w (after w m e) (decide (2 ^ 60) w (after w m e)) es → Ahead w m [] (e ∷ es)
unfolding after_all run
goes w m item e es same on fits a =
    let turns = turn_goes w m item e same on in
    record {
      items = item ∷ a.items;
      later = a.later;
      fits = (subst (λ x. allowed w m x ≡ true) (sym same) fits, subst (λ ds. AreAllowed w (after_all w m ds) a.items) (sym turns) a.fits);
      run = ap (λ ds. ds ++ run w (after_all w m ds) a.items) turns ∙ ap (λ xs. e ∷ xs) a.run;
    }

nothing_left : (w : World) (m : Ledger) (es : List Entry) → AreContinued w (after w m entries.End) es → es ≡ []
nothing_left w m [] h = refl
nothing_left w m (e ∷ es) h = absurd (no h.0)
  where
    no : Continues w (after w m entries.End) e → ⊥
    no (inl outside) = let off = ended_allows w m e in absurd cc
    no (inr due) = let dead = ended_dead w m in absurd cc

ends : (w : World) (m : Ledger) (es : List Entry) → allowed w m entries.End ≡ true → AreContinued w (after w m entries.End) es → Ahead w m [] (entries.End ∷ es)
unfolding after_all run turn
ends w m es fits h = subst (λ xs. Ahead w m [] (entries.End ∷ xs)) (sym (nothing_left w m es h)) (record { items = Finish ∷ []; later = []; fits = (fits, tt); run = refl })

outside_on : (w : World) (m : Ledger) (e : Entry) (es : List Entry) → is_living m ≡ true → is_outside e ≡ true → allowed w m e ≡ true → AreContinued w (after w m e) es → length es < 2 ^ 60 → Forth es → (b : Bool) → is_end e ≡ b → Ahead w m [] (e ∷ es)
outside_on w m e es living outside fits h short rest false inner =
    let found = item_for w m e living outside inner (row_allows w m e fits) in
    goes w m found.item e es found.entry found.on fits (rest (2 ^ 60) w (after w m e) (entry_living w m e inner) h short short)
outside_on w m entries.End es living outside fits h short rest true last = ends w m es fits h
outside_on w m (entries.Life g mode) es living outside fits h short rest true last = absurd cc
outside_on w m (entries.At t) es living outside fits h short rest true last = absurd cc
outside_on w m (entries.Arrive id sender to content) es living outside fits h short rest true last = absurd cc
outside_on w m (entries.Reply number state outcomes) es living outside fits h short rest true last = absurd cc
outside_on w m (entries.Trigger kind) es living outside fits h short rest true last = absurd cc
outside_on w m (entries.Back id) es living outside fits h short rest true last = absurd cc
outside_on w m (entries.Admit id) es living outside fits h short rest true last = absurd cc
outside_on w m (entries.Load id from to) es living outside fits h short rest true last = absurd cc
outside_on w m (entries.Start number id site positions) es living outside fits h short rest true last = absurd cc
outside_on w m (entries.Preempt child parent transport need) es living outside fits h short rest true last = absurd cc
outside_on w m (entries.Skip id site positions) es living outside fits h short rest true last = absurd cc
outside_on w m (entries.Log id failure) es living outside fits h short rest true last = absurd cc
outside_on w m (entries.Mark id position) es living outside fits h short rest true last = absurd cc
outside_on w m (entries.Sync id) es living outside fits h short rest true last = absurd cc
outside_on w m (entries.Defer id due) es living outside fits h short rest true last = absurd cc
outside_on w m (entries.Bounce id) es living outside fits h short rest true last = absurd cc
outside_on w m (entries.Remove id) es living outside fits h short rest true last = absurd cc
outside_on w m (entries.Corrupt id) es living outside fits h short rest true last = absurd cc

one_forth : (e : Entry) (es : List Entry) (n : ℕ) (w : World) (m : Ledger) → is_living m ≡ true → Continues w m e → AreContinued w (after w m e) es → length (e ∷ es) < suc n → length (e ∷ es) < 2 ^ 60 → Forth es → Ahead w m (decide (suc n) w m) (e ∷ es)
unfolding after_all
one_forth e es n w m living (inl outside) h few short rest =
    subst (λ ds. Ahead w m ds (e ∷ es)) (sym (decided_none n w m outside.1))
    (outside_on w m e es living outside.0 outside.2 h (omega (arith, short)) rest (is_end e) refl)
one_forth e es n w m living (inr due) h few short rest =
    let a = rest n w (after w m e) (entry_living w m e (decision_goes_on w m e due.1)) h (omega (arith, few)) (omega (arith, short)) in
    subst (λ ds. Ahead w m ds (e ∷ es)) (sym (decided_some n w m e due.1))
    (record { items = a.items; later = a.later; fits = a.fits; run = ap (λ xs. e ∷ xs) a.run })

pub forth : (es : List Entry) → Forth es
unfolding run
forth [] n w m living h few short = record { items = []; later = decide n w m; fits = tt; run = append-nil (decide n w m) }
forth (e ∷ es) zero w m living h few short = absurd (omega (arith, few))
forth (e ∷ es) (suc n) w m living h few short = one_forth e es n w m living h.0 h.1 few short (forth es)
