-- Looks and reads change no ledger.
use Rattle.std.proofs.Common.{◌≡◌, ◌<◌, arith, ℕ, Bool, true, false, refl, sym, ap, ◌∙◌, subst, Option, Some, None, inl, inr, IsTrue, List, ◌≤◌}
use Rattle.std.specs.Prelude.{◌&&◌, ◌||◌, if◌then◌else◌, is_none, is_some, not}
use Rattle.std.specs.Option.{option_or}
use Rattle.q_core.proofs.LastRuleLaws.{next_is_load}
use Rattle.q_core.proofs.NextLaws.{next_law}
use Rattle.q_laws.specs.Traces.{is_inner}
use Rattle.q_core.proofs.WholeLaws.{inner_goes_on, inner_moment, still_agrees, whole_law}
use Rattle.q_core.specs.Agrees.{Agrees, Matches}
use Rattle.q_core.specs.Changes.{is_known, is_looked_at, looked_at, scan_ended}
use Rattle.q_core.specs.Facts.{is_nothing}
use Rattle.q_core.specs.declared.decision.Found.{Found}
use Rattle.q_core.specs.Deciding.{IsDecided, IsNextDecision, IsApplied, decide_in, first_rule_in, is_asking, is_reading, question_of, scan_look_in}
use Rattle.q_core.specs.Decisions.{IsOf}
use Rattle.q_core.specs.declared.decision.Decision.{Decision}
use Rattle.q_core.specs.declared.decision.Decision.TheVariants as decisions
use Rattle.q_core.specs.declared.state.Core.{Core}
use Rattle.q_core.specs.Looking.{is_unseen, looks_left, unseen, unseen_scan}
use Rattle.q_core.specs.declared.state.Question.{Question}
use Rattle.q_core.specs.declared.state.Question.TheVariants.{Active, Deferred, Incoming, Nothing, Recipients}
use Rattle.q_core.specs.declared.state.Seen.{Seen}
use Rattle.q_core.specs.declared.state.Seen.TheVariants.{Known, Unknown}
use Rattle.q_model.specs.Ledger.{Ledger}
use Rattle.q_model.specs.Values.{Site}
use Rattle.q_model.specs.Next.{next}
use Rattle.q_model.specs.Settings.{World}
use Rattle.q_model.specs.Step.{after}
use Rattle.q_model.specs.declared.entry.Entry.{Entry}
use Rattle.q_model.specs.declared.id.Id.{Id}
use Rattle.q_model.specs.declared.rows.DeferredName.{DeferredName}
use Rattle.q_model.specs.declared.rows.Request.{Request}
use Rattle.q_model.specs.declared.rows.Scan.{Scan}

-- what the core waits for is no part of a ledger
pub question_law : {w : World} {c : Core} {l : Ledger} (q : Question) → Matches w c l → Matches w (record c { question = q }) l
question_law q m = let h = m.parts in record {
  parts = record {
    settings = h.settings;
    count = h.count;
    transports = h.transports;
    mode = h.mode;
    clock = h.clock;
    timed = h.timed;
    next_run = h.next_run;
    ignores = h.ignores;
    deferred_follows = h.deferred_follows;
    admitted = h.admitted;
    waiting = h.waiting;
    flights = h.flights;
    memory = h.memory;
    served = h.served;
    unsettled = h.unsettled;
    lines = h.lines;
    sites = h.sites;
    synced = h.synced;
    starts = h.starts;
    active = h.active;
    incoming = h.incoming;
  };
  scan = record { goes_on = m.scan.goes_on; seen = m.scan.seen };
}

named_law : {w : World} {c : Core} {l : Ledger} (xs : List Site) → Matches w c l → Matches w (record c { named = xs }) l
named_law xs m = let h = m.parts in record {
  parts = record {
    settings = h.settings;
    count = h.count;
    transports = h.transports;
    mode = h.mode;
    clock = h.clock;
    timed = h.timed;
    next_run = h.next_run;
    ignores = h.ignores;
    deferred_follows = h.deferred_follows;
    admitted = h.admitted;
    waiting = h.waiting;
    flights = h.flights;
    memory = h.memory;
    served = h.served;
    unsettled = h.unsettled;
    lines = h.lines;
    sites = h.sites;
    synced = h.synced;
    starts = h.starts;
    active = h.active;
    incoming = h.incoming;
  };
  scan = record { goes_on = m.scan.goes_on; seen = m.scan.seen };
}

pub look_active_applied : {w : World} {c : Core} {l : Ledger} → Agrees w c l → decide_in c ≡ Some decisions.LookActive → IsApplied w l c decisions.LookActive c
look_active_applied {w = w} {c = c} {l = l} a e = on (subst (λ o. IsNextDecision w l c o (next w l)) e (next_law a))
  where
    on : IsNextDecision w l c (Some decisions.LookActive) (next w l) → IsApplied w l c decisions.LookActive c
    on (inl h) = absurd h.1
    on (inr h) = inr (h, a.matches)

pub look_incoming_applied : {w : World} {c : Core} {l : Ledger} → Agrees w c l → decide_in c ≡ Some decisions.LookIncoming → IsApplied w l c decisions.LookIncoming c
look_incoming_applied {w = w} {c = c} {l = l} a e = on (subst (λ o. IsNextDecision w l c o (next w l)) e (next_law a))
  where
    on : IsNextDecision w l c (Some decisions.LookIncoming) (next w l) → IsApplied w l c decisions.LookIncoming c
    on (inl h) = absurd h.1
    on (inr h) = inr (h, a.matches)

pub look_deferred_applied : {w : World} {c : Core} {l : Ledger} → Agrees w c l → (place : Option DeferredName) (until : ℕ) → decide_in c ≡ Some (decisions.LookDeferred place until) → IsApplied w l c (decisions.LookDeferred place until) c
look_deferred_applied {w = w} {c = c} {l = l} a place until e = on (subst (λ o. IsNextDecision w l c o (next w l)) e (next_law a))
  where
    on : IsNextDecision w l c (Some (decisions.LookDeferred place until)) (next w l) → IsApplied w l c (decisions.LookDeferred place until) c
    on (inl h) = absurd h.1
    on (inr h) = inr (h, a.matches)

pub read_applied : {w : World} {c : Core} {l : Ledger} → Agrees w c l → (id : Id) (from max : ℕ) → decide_in c ≡ Some (decisions.Read id from max) → IsApplied w l c (decisions.Read id from max) c
read_applied a id from max e = inr (inl (next_is_load a id from max e), a.matches)

-- where the scan wasn't looked at, its look is the decision
scan_unknown : (c : Core) (d : Decision) (seen : Seen) (o : Option Scan) (b : Bool) → (is_none o || is_known seen) ≡ false → (if not b then None else option_or (scan_look_in seen o) (first_rule_in c)) ≡ Some d →
    (s : Scan) × (d ≡ decisions.LookDeferred s.place s.until)
scan_unknown c d seen None b h e = cc
scan_unknown c d (Known found) (Some s) b h e = cc
scan_unknown c d Unknown (Some s) true h e = (s, cc)
scan_unknown c d Unknown (Some s) false h e = cc

-- so any other decision comes where it was looked at
looked_unless : (c : Core) (d : Decision) (b : Bool) → is_looked_at c ≡ b → decide_in c ≡ Some d → ((s : Scan) → d ≡ decisions.LookDeferred s.place s.until → ⊥) → b ≡ true
looked_unless c d true h e other = refl
looked_unless c d false h e other = let k = scan_unknown c d c.deferred c.scan c.timed h e in absurd (other k.0 k.1)

pub plain_looked : (c : Core) (d : Decision) → is_asking d ≡ false → decide_in c ≡ Some d → IsTrue (is_looked_at c)
plain_looked c d p e = looked_unless c d (is_looked_at c) refl e (λ s same. let bad : true ≡ false = ap is_asking (sym same) ∙ p in cc)

pub read_looked : (c : Core) (d : Decision) → is_reading (question_of d) ≡ true → decide_in c ≡ Some d → IsTrue (is_looked_at c)
read_looked c d p e = looked_unless c d (is_looked_at c) refl e (λ s same. let bad : false ≡ true = ap (λ x. is_reading (question_of x)) (sym same) ∙ p in cc)

no_scan_look : (seen : Seen) (o : Option Scan) (q : Option Decision) → option_or (scan_look_in seen o) q ≡ None → (is_none o || is_known seen) ≡ true
no_scan_look seen None q e = refl
no_scan_look Unknown (Some s) q e = cc
no_scan_look (Known found) (Some s) q e = refl

timed_only : (b : Bool) (o : Option Decision) → b ≡ true → (if not b then None else o) ≡ None → o ≡ None
timed_only true o t e = e
timed_only false o t e = cc

pub quiet_looked : (c : Core) → decide_in c ≡ None → c.timed ≡ true → IsTrue (is_looked_at c)
quiet_looked c e t = no_scan_look c.deferred c.scan (first_rule_in c) (timed_only c.timed (option_or (scan_look_in c.deferred c.scan) (first_rule_in c)) t e)

-- a look or a read changes nothing
pub asking_applied : {w : World} {c : Core} {l : Ledger} → Agrees w c l → (d : Decision) → is_asking d ≡ true → decide_in c ≡ Some d → IsApplied w l c d c
asking_applied a (decisions.Log id failure) p e = cc
asking_applied a (decisions.Mark id position) p e = cc
asking_applied a (decisions.Sync id) p e = cc
asking_applied a (decisions.Skip id site entry) p e = cc
asking_applied a (decisions.Defer id due) p e = cc
asking_applied a (decisions.Back id) p e = cc
asking_applied a (decisions.Bounce id) p e = cc
asking_applied a (decisions.Remove id) p e = cc
asking_applied a (decisions.Corrupt id place) p e = cc
asking_applied a (decisions.Admit id place) p e = cc
asking_applied a (decisions.Preempt child parent transport need) p e = cc
asking_applied a (decisions.Start number id site) p e = cc
asking_applied a (decisions.Read id from max) p e = read_applied a id from max e
asking_applied a decisions.LookActive p e = look_active_applied a e
asking_applied a decisions.LookIncoming p e = look_incoming_applied a e
asking_applied a (decisions.LookDeferred place until) p e = look_deferred_applied a place until e

pub same_unseen : (q : Question) (c : Core) (x : Question) (xs : List Site) → is_unseen q (record c { question = x; named = xs }) ≡ is_unseen q c
same_unseen Nothing c x xs = refl
same_unseen Active c x xs = refl
same_unseen Incoming c x xs = refl
same_unseen Deferred c x xs = refl
same_unseen (Recipients id from max) c x xs = refl

-- the entry of a decision is none of those that come from outside
inner : (c : Core) (d : Decision) (e : Entry) → IsOf c d e → is_inner e ≡ true
inner c (decisions.Log id failure) e h = ap is_inner h
inner c (decisions.Mark id position) e h = ap is_inner h
inner c (decisions.Sync id) e h = ap is_inner h
inner c (decisions.Skip id site entry) e h = ap is_inner h.2
inner c (decisions.Defer id due) e h = ap is_inner h
inner c (decisions.Back id) e h = ap is_inner h
inner c (decisions.Bounce id) e h = ap is_inner h
inner c (decisions.Remove id) e h = ap is_inner h
inner c (decisions.Corrupt id place) e h = ap is_inner h
inner c (decisions.Admit id place) e h = ap is_inner h
inner c (decisions.Preempt child parent transport need) e h = ap is_inner h
inner c (decisions.Start number id site) e h = ap is_inner h.1
inner c (decisions.Read id from max) e h = absurd h
inner c decisions.LookActive e h = absurd h
inner c decisions.LookIncoming e h = absurd h
inner c (decisions.LookDeferred after until) e h = absurd h

-- what the core waits for, and which sites are named, is no part of a ledger
asking_law : {w : World} {c : Core} {l : Ledger} (q : Question) (xs : List Site) → Matches w c l → Matches w (record c { question = q; named = xs }) l
asking_law q xs m = question_law q (named_law xs m)

-- the decision is known, and the core waits for what it asks
pub decided_law : {w : World} {c d k : Core} {l : Ledger} (x : Decision) → Agrees w c l → IsApplied w l c x d → k ≡ record d { question = question_of x; named = k.named } → IsDecided w l c (Some x) k
decided_law {w = w} {c = c} {d = d} {k = k} {l = l} x a (inl h) same =
    let within = inner c x h.0 h.1 in
    inl (h.0, h.1, h.2, subst (λ y. Agrees w y (after w l h.0)) (sym same) (whole_law h.0 a (inr h.2) (inner_goes_on h.0 within) (inner_moment w l h.0 within a.moment) (asking_law (question_of x) k.named h.3)))
decided_law {w = w} {c = c} {d = d} {k = k} {l = l} x a (inr h) same =
    inr (h.0, subst (λ y. Agrees w y l) (sym same) (still_agrees a (asking_law (question_of x) k.named h.1)))

none_next : (w : World) (l : Ledger) (c : Core) (r : Option Entry) → IsNextDecision w l c None r → r ≡ None
none_next w l c r (inl h) = h
none_next w l c r (inr (inl h)) = h
none_next w l c r (inr (inr (inl h))) = cc
none_next w l c r (inr (inr (inr (inl h)))) = cc
none_next w l c r (inr (inr (inr (inr h)))) = cc

-- there is none exactly where the ledger is quiet
pub quiet_law : {w : World} {c : Core} {l : Ledger} → Agrees w c l → decide_in c ≡ None → IsDecided w l c None c
quiet_law {w = w} {c = c} {l = l} a e = (none_next w l c (next w l) (subst (λ o. IsNextDecision w l c o (next w l)) e (next_law a)), a)

-- ---- an answer leaves fewer looks

pub not_seen : (c : Core) {q : Question} → c.question ≡ q → is_unseen c.question c ≡ true → is_unseen q c ≡ true
not_seen c e h = ap (λ x. is_unseen x c) (sym e) ∙ h

pub never_seen : {n m : ℕ} → false ≡ true → n < m
never_seen h = cc

known_fewer : (seen : Seen) (found : Found) → not (is_known seen) ≡ true → unseen (Known found) < unseen seen
known_fewer Unknown found h = omega arith
known_fewer (Known old) found h = cc

pub fewer_active : (c d : Core) (found : Found) → not (is_known c.active) ≡ true → d ≡ record c { active = Known found } → looks_left d < looks_left c
fewer_active c d found h e = let less = known_fewer c.active found h in let same = ap looks_left e in omega (arith, less, same)

pub fewer_incoming : (c d : Core) (found : Found) → not (is_known c.incoming) ≡ true → d ≡ record c { incoming = Known found } → looks_left d < looks_left c
fewer_incoming c d found h e = let less = known_fewer c.incoming found h in let same = ap looks_left e in omega (arith, less, same)

ended_fewer : (c : Core) (o : Option Request) (s : Scan) → looks_left (scan_ended (record c { asked = o }) o) < looks_left (record c { deferred = Unknown; scan = Some s; asked = o })
ended_fewer c None s = omega arith
ended_fewer c (Some r) s = omega arith

after_look : (c : Core) (o : Option Scan) (q : Option Request) (s : Scan) (found : Found) → looks_left (record c { deferred = Known found; scan = o; asked = q }) < looks_left (record c { deferred = Unknown; scan = Some s; asked = q })
after_look c None None s found = omega arith
after_look c None (Some r) s found = omega arith
after_look c (Some x) None s found = omega arith
after_look c (Some x) (Some r) s found = omega arith

looked_fewer : (c : Core) (found : Found) (b : Bool) (s : Scan) → looks_left (if b then scan_ended c c.asked else record c { deferred = Known found }) < looks_left (record c { deferred = Unknown; scan = Some s })
looked_fewer c found true s = ended_fewer c c.asked s
looked_fewer c found false s = after_look c c.scan c.asked s found

pub fewer_at : (c d : Core) (found : Found) (o : Option Scan) (seen : Seen) → c.scan ≡ o → c.deferred ≡ seen → (is_some o && not (is_known seen)) ≡ true → d ≡ looked_at c found → looks_left d < looks_left c
fewer_at c d found None seen e f h k = cc
fewer_at c d found (Some s) (Known x) e f h k = cc
fewer_at c d found (Some s) Unknown e f h k =
    let less = looked_fewer c found (is_nothing found) s in
    let same = ap looks_left k in
    let before : looks_left c ≡ looks_left (record c { deferred = Unknown; scan = Some s }) = ap (λ x. looks_left (record c { scan = x })) e ∙ ap (λ x. looks_left (record c { scan = Some s; deferred = x })) f in
    omega (arith, less, same, before)

pub fewer_deferred : (c d : Core) (found : Found) → (is_some c.scan && not (is_known c.deferred)) ≡ true → d ≡ looked_at c found → looks_left d < looks_left c
fewer_deferred c d found h k = fewer_at c d found c.scan c.deferred refl refl h k

-- at most four looks are left
unseen_few : (seen : Seen) → unseen seen ≤ 1
unseen_few Unknown = omega arith
unseen_few (Known found) = omega arith

scan_few : (seen : Seen) (o : Option Scan) (q : Option Request) → unseen_scan seen o q ≤ 2
scan_few seen None q = omega arith
scan_few (Known found) (Some s) q = omega arith
scan_few Unknown (Some s) None = omega arith
scan_few Unknown (Some s) (Some r) = omega arith

pub looks_few : (c : Core) → looks_left c ≤ 4
looks_few c = let a = unseen_few c.active in let b = unseen_few c.incoming in let d = scan_few c.deferred c.scan c.asked in omega (arith, a, b, d)
