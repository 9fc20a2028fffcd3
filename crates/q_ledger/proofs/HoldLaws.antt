-- What a recount holds tells how the next entry is judged, and is held again behind an entry that was taken over.
use Rattle.std.proofs.Common.{◌≡◌, ℕ, ◌-◌, ◌<◌, ◌^◌, true, false, List, [], ◌∷◌, ◌++◌, length, refl, sym, ap, ◌∙◌, subst, arith, Some, inl, inr, not, if◌then◌else◌, IfOk, Result}
use Rattle.std.proofs.lemmas.Bool.{and_parts}
use Rattle.std.proofs.lemmas.Result.{IfOk-weaker}
use Rattle.std.specs.Option.{option_map_or}
use Rattle.std.specs.Prelude.{◌&&◌, ◌||◌, find}
use Rattle.q_bare.specs.Bare.{bare}
use Rattle.q_bare.specs.CountedRows.{allowed_by, may_by}
use Rattle.q_bare.specs.CountedRules.{next_by}
use Rattle.q_bare.specs.Counts.{Counts, counts_after, no_counts}
use Rattle.q_bare.specs.Judging.{ContinuesBy, HeldBegins, HeldGoesOn, HeldJudges, HeldRules, IsHeldAfter}
use Rattle.q_bare.specs.Laws.{AreRowsSame, IsNextSame}
use Rattle.q_fronts.specs.Fitting.{FrontsFit}
use Rattle.q_fronts.specs.Fronts.{IsFront}
use Rattle.q_fronts.specs.Openings.{FrontsOpen, opens}
use Rattle.q_laws.specs.Laws.{OfConsistent}
use Rattle.q_ledger.proofs.FewLaws.{are_few, few_after}
use Rattle.q_ledger.proofs.JudgedLaws.{ended_by, first_judged, judged_front, of_ledger}
use Rattle.q_ledger.proofs.LineLaws.{lines_after}
use Rattle.q_ledger.proofs.OpeningLaws.{opening_after, opening_lines}
use Rattle.q_ledger.specs.Accounting.{AreFew}
use Rattle.q_ledger.specs.Beside.{IsBeside, IsOfLedger}
use Rattle.q_ledger.specs.Counted.{is_of}
use Rattle.q_ledger.specs.Empty.{empty_ledger}
use Rattle.q_ledger.specs.Holding.{AreTold, Holds, IsJudged, IsJudgedBy, Recounted}
use Rattle.q_ledger.specs.Ruling.{HasLines}
use Rattle.q_ledger.specs.Taking.{IsTaken}
use Rattle.q_ledger.specs.Worlds.{world_of}
use Rattle.q_ledger.specs.declared.accounts.Account.{Account}
use Rattle.q_ledger.specs.declared.recount.Judged.{Judged}
use Rattle.q_ledger.specs.declared.recount.Judged.TheVariants.{Broken, Lawful}
use Rattle.q_model.specs.Ledger.{Ledger}
use Rattle.q_model.specs.Next.{next}
use Rattle.q_model.specs.Past.{is_end, is_life, is_living}
use Rattle.q_model.specs.Settings.{World}
use Rattle.q_model.specs.Step.{allowed}
use Rattle.q_model.specs.declared.entry.Entry.{Entry}
use Rattle.q_model.specs.declared.entry.Entry.TheVariants as entries
use Rattle.q_model.specs.declared.event.Mode.{Mode}
use Rattle.q_model.specs.declared.no_memory.NoMemory.{NoMemory}

-- ---- judging

-- no life has begun
pub judge_before : (w : World) (r : Recounted) (es : List Entry) (e : Entry) → FrontsOpen → Holds w r es → r.begun ≡ false → IsJudged w es e (if opens e then Lawful else Broken 1)
judge_before w r [] e fronts h before = first_judged w e fronts
judge_before w r (first ∷ es) e fronts h before = let bad : true ≡ false = sym h.since.begun ∙ before in absurd cc

-- the life has ended
pub judge_ended : (w : World) (r : Recounted) (es : List Entry) (e : Entry) → HeldJudges → HeldRules → Holds w r es → length es < 2 ^ 60 → r.begun ≡ true → r.living ≡ false → IsJudged w es e (Broken 19)
judge_ended w r [] e judges rules h short begun living = let bad : false ≡ true = sym h.since.begun ∙ begun in absurd cc
judge_ended w r (first ∷ es) e judges rules h short begun living =
    let k = h.since in
    judged_front w first es e k.counts r.state.ledger (Broken 19) judges rules k.held short (ended_by k.counts w r.state.ledger e (sym k.living ∙ living) k.counted)

-- the life goes on
pub judge_on : (w : World) (r : Recounted) (es : List Entry) (e : Entry) (j : Result Judged NoMemory) → HeldJudges → HeldRules → FrontsFit → Holds w r es → length es < 2 ^ 60 → r.living ≡ true →
    ((c : Counts) → IsOfLedger w c r.state.ledger → IsBeside r.state → AreTold r c → HasLines w r.state.ledger → c.living ≡ true → c.begun ≡ true → IfOk j (λ x. IsJudgedBy c w r.state.ledger e x)) →
    IfOk j (λ x. IsJudged w es e x)
judge_on w r [] e j judges rules fit h short living says = let bad : false ≡ true = sym h.since.living ∙ living in absurd cc
judge_on w r (first ∷ es) e j judges rules fit h short living says =
    let k = h.since in
    IfOk-weaker j _ _ (λ x by. judged_front w first es e k.counts r.state.ledger x judges rules k.held short by)
    (says k.counts (of_ledger w first es k.counts r.state.ledger fit h.range k.held) k.beside k.accounts k.lines (sym k.living ∙ living) k.counted)

-- ---- taking over

-- what goes on is allowed by its row
may_go_on : (w : World) (c : Counts) (b : Ledger) (e : Entry) → OfConsistent (λ w l. (e : Entry) → is_living l ≡ true → next w l ≡ Some e → allowed w l e ≡ true) → AreRowsSame → IsNextSame → IsOfLedger w c b → ContinuesBy c w b e → may_by c w b e ≡ true
may_go_on w c b e decides rows nexts k (inl h) = (and_parts (c.living || (is_life e && not c.begun)) (may_by c w b e) h.2).1
may_go_on w c b e decides rows nexts k (inr h) =
    let l = k.ledger in
    let is : next w l ≡ Some e = sym (nexts w l) ∙ ap (λ d. next_by d w (bare l)) k.counts ∙ ap (next_by c w) k.bare_ledger ∙ h.1 in
    let living : is_living l ≡ true = ap (λ (d : Counts). d.living) k.counts ∙ h.0 in
    let lawful : allowed_by c w b e ≡ true =
    sym (ap (λ x. allowed_by c w x e) k.bare_ledger) ∙ sym (ap (λ d. allowed_by d w (bare l) e) k.counts) ∙ (rows w l e).1 ∙ decides w l k.fits.consistent e living is in
    (and_parts (c.living || (is_life e && not c.begun)) (may_by c w b e) lawful).1

-- what is known before an entry is taken over that goes on
pub record IsKnown (w : World) (r : Recounted) (e : Entry) (c : Counts) : Type 0 where
  pub ledger : IsOfLedger w c r.state.ledger
  pub beside : IsBeside r.state
  pub accounts : AreTold r c
  pub few : AreFew c
  pub may : may_by c w r.state.ledger e ≡ true

-- what is known then of the recount
pub record IsFollowed (w : World) (r s : Recounted) (e : Entry) : Type 0 where
  pub given : s.given ≡ r.given
  pub begun : s.begun ≡ true
  pub living : s.living ≡ not (is_end e)
  pub taken : (c : Counts) → IsKnown w r e c → IsTaken w r.state.ledger e s.state
  pub accounts : (c : Counts) → IsKnown w r e c → AreTold s (counts_after e c)

pub taken_on : (w : World) (r s : Recounted) (es : List Entry) (e : Entry) → HeldJudges → HeldGoesOn → FrontsFit → OfConsistent (λ w l. (e : Entry) → is_living l ≡ true → next w l ≡ Some e → allowed w l e ≡ true) → AreRowsSame → IsNextSame →
    Holds w r es → length es < 2 ^ 60 → r.begun ≡ true → IsFront w (es ++ e ∷ []) → IsFollowed w r s e → Holds w s (es ++ e ∷ [])
taken_on w r s [] e judges goes fit decides rows nexts h short begun front f = let bad : false ≡ true = sym h.since.begun ∙ begun in absurd cc
taken_on w r s (first ∷ es) e judges goes fit decides rows nexts h short begun front f =
    let k = h.since in
    let c = k.counts in
    let b = r.state.ledger in
    let continues : ContinuesBy c w b e = (judges w first es e c b k.held short).0 front in
    let of : IsOfLedger w c b = of_ledger w first es c b fit h.range k.held in
    let known : IsKnown w r e c = record {
      ledger = of;
      beside = k.beside;
      accounts = k.accounts;
      few = are_few w c b (length (first ∷ es)) of k.few.0 k.few.1 short;
      may = may_go_on w c b e decides rows nexts of continues;
    } in
    let taken = f.taken c known in
    record {
      world = ap world_of f.given ∙ h.world;
      range = h.range;
      front = front;
      since = record {
        counts = counts_after e c;
        held = subst (λ x. IsHeldAfter w ((first ∷ es) ++ e ∷ []) (counts_after e c) x) (sym taken.ledger) (goes w first es e c b k.held short continues);
        beside = taken.beside;
        accounts = f.accounts c known;
        lines = subst (HasLines w) (sym taken.ledger) (lines_after w b e k.lines);
        few = few_after e c (first ∷ es) k.few;
        counted = refl;
        begun = f.begun;
        living = f.living;
      };
    }

-- the life is taken over with which a run begins
pub taken_first : (w : World) (r s : Recounted) (es : List Entry) (generation : ℕ) (mode : Mode) → FrontsOpen → HeldBegins → Holds w r es → r.begun ≡ false → IsFront w (es ++ entries.Life generation mode ∷ []) →
    s.given ≡ r.given → s.begun ≡ true → s.living ≡ true → s.starts ≡ 0 → s.arrivals ≡ 0 → s.jobs ≡ [] →
    (opens (entries.Life generation mode) ≡ true → IsTaken w (empty_ledger (generation - 1)) (entries.Life generation mode) s.state) → Holds w s (es ++ entries.Life generation mode ∷ [])
taken_first w r s (first ∷ es) generation mode fronts begins h before front given begun living starts arrivals jobs takes = let bad : true ≡ false = sym h.since.begun ∙ before in absurd cc
taken_first w r s [] generation mode fronts begins h before front given begun living starts arrivals jobs takes =
    let e : Entry = entries.Life generation mode in
    let opened : opens e ≡ true = (fronts w e).0 front in
    let taken = takes opened in
    record {
      world = ap world_of given ∙ h.world;
      range = h.range;
      front = front;
      since = record {
        counts = counts_after e no_counts;
        held = subst (λ x. IsHeldAfter w (e ∷ []) (counts_after e no_counts) x) (sym (opening_after w (generation - 1) generation mode) ∙ sym taken.ledger) (begins w generation mode opened);
        beside = taken.beside;
        accounts = record {
          deliveries = starts;
          messages = arrivals;
          starts = λ id t. ap (λ xs. option_map_or (λ (a : Account). a.starts) (find (is_of id t) xs) 0) jobs;
          charged = λ id t. ap (λ xs. option_map_or (λ (a : Account). a.charged) (find (is_of id t) xs) 0) jobs;
        };
        lines = subst (HasLines w) (sym taken.ledger) (opening_lines w (generation - 1) generation mode);
        few = (omega arith, omega arith);
        counted = refl;
        begun = begun;
        living = living;
      };
    }
