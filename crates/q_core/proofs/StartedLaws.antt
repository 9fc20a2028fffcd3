-- A delivery that starts is in flight with the positions of the ledger's entry.
use Rattle.std.proofs.Common.{◌≡◌, ◌+◌, Bool, true, cond, List, [], ◌∷◌, ◌++◌, Some, None, inl, inr, ◌⊎◌, refl, sym, ap, ◌∙◌, eq-eqb, eqb-true}
use Rattle.std.proofs.lemmas.List.Folds.{find-append}
use Rattle.std.specs.List.{list_any}
use Rattle.std.specs.Option.{option_or}
use Rattle.std.specs.Prelude.{◌&&◌, ◌==◌, find}
use Rattle.q_core.proofs.AppliedLaws.{is_plain, may_next, not_looking, not_read}
use Rattle.q_core.proofs.NameLaws.{and_true_parts}
use Rattle.q_core.proofs.SentLaws.{older}
use Rattle.q_core.specs.Agrees.{Agrees}
use Rattle.q_core.specs.Deciding.{BeginsFlight, IsApplied, is_asking, IsLooking, IsStartOf, question_of}
use Rattle.q_core.specs.Decisions.{IsReadRule}
use Rattle.q_core.specs.declared.decision.Decision.{Decision}
use Rattle.q_core.specs.declared.decision.Decision.TheVariants as decisions
use Rattle.q_core.specs.declared.state.Core.{Core}
use Rattle.q_laws.proofs.Living.{start_flights}
use Rattle.q_model.specs.Ledger.{Ledger}
use Rattle.q_model.specs.Next.{next}
use Rattle.q_model.specs.Past.{starts}
use Rattle.q_model.specs.Settings.{World}
use Rattle.q_model.specs.Startable.{is_startable}
use Rattle.q_model.specs.Starts.{is_row}
use Rattle.q_model.specs.Step.{after}
use Rattle.q_model.specs.declared.entry.Entry.{Entry}
use Rattle.q_model.specs.declared.entry.Entry.TheVariants as entries
use Rattle.q_model.specs.declared.rows.Delivery.{Delivery}

no_asking : (w : World) (l : Ledger) (c : Core) (d : Decision) → is_plain d ≡ true → (IsReadRule w l (Some d) (next w l) ⊎ IsLooking c (Some d)) → ⊥
no_asking w l c d p (inl r) = not_read w l d (next w l) p r
no_asking w l c d p (inr k) = not_looking c d p k

pub started_law : {w : World} {c d k : Core} {l : Ledger} (x : Decision) → Agrees w c l → IsApplied w l c x d → k ≡ record d { question = question_of x; named = k.named } → IsStartOf w l (Some x) k
started_law {w = w} {c = c} {k = k} {l = l} (decisions.Start number id site) a (inl h) same = λ positions nx.
    let e : Entry = entries.Start number id site positions in
    let may = (may_next a e nx).0 in
    let count = eqb-true number (starts l + 1) (and_true_parts (number == starts l + 1) (list_any (λ r. is_row id site positions r && is_startable w l r) l.waiting) may).0 in
    let both : Some h.0 ≡ Some e = sym h.2 ∙ nx in
    let which : h.0 ≡ e = cc in
    let f : Delivery = record { number = number; row = record { id = id; site = site; positions = positions } } in
    let p : Delivery → Bool = λ x. x.number == number in
    let flights : k.flights ≡ l.flights ++ f ∷ [] = ap (λ (y : Core). y.flights) same ∙ h.3.parts.flights ∙ ap (λ y. (after w l y).flights) which ∙ start_flights w l e (l.flights ++ f ∷ []) refl in
    ap (find p) flights
    ∙ find-append p l.flights (f ∷ [])
    ∙ ap (λ o. option_or o (find p (f ∷ []))) (older l.flights (starts l) number a.consistent.memory.begun count)
    ∙ ap (λ b. cond b (Some f) None) (eq-eqb number number refl)
started_law {w = w} {c = c} {l = l} (decisions.Start number id site) a (inr h) same = absurd (no_asking w l c (decisions.Start number id site) refl h.0)
started_law (decisions.Log id failure) a h same = tt
started_law (decisions.Mark id position) a h same = tt
started_law (decisions.Sync id) a h same = tt
started_law (decisions.Skip id site entry) a h same = tt
started_law (decisions.Defer id due) a h same = tt
started_law (decisions.Back id) a h same = tt
started_law (decisions.Bounce id) a h same = tt
started_law (decisions.Remove id) a h same = tt
started_law (decisions.Corrupt id place) a h same = tt
started_law (decisions.Admit id place) a h same = tt
started_law (decisions.Preempt child parent transport need) a h same = tt
started_law (decisions.Read id from max) a h same = tt
started_law decisions.LookActive a h same = tt
started_law decisions.LookIncoming a h same = tt
started_law (decisions.LookDeferred after until) a h same = tt

-- neither a look nor a read begins one
pub asking_begins : (fs : List Delivery) (d : Decision) → is_asking d ≡ true → BeginsFlight (Some d) fs
asking_begins fs (decisions.Log id f) e = cc
asking_begins fs (decisions.Mark id k) e = cc
asking_begins fs (decisions.Sync id) e = cc
asking_begins fs (decisions.Skip id site entry) e = cc
asking_begins fs (decisions.Defer id due) e = cc
asking_begins fs (decisions.Back id) e = cc
asking_begins fs (decisions.Bounce id) e = cc
asking_begins fs (decisions.Remove id) e = cc
asking_begins fs (decisions.Corrupt id place) e = cc
asking_begins fs (decisions.Admit id place) e = cc
asking_begins fs (decisions.Preempt child parent transport need) e = cc
asking_begins fs (decisions.Start number id site) e = cc
asking_begins fs (decisions.Read id from max) e = tt
asking_begins fs decisions.LookActive e = tt
asking_begins fs decisions.LookIncoming e = tt
asking_begins fs (decisions.LookDeferred after until) e = tt
