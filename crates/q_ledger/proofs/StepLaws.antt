-- What the calls of a recount say, by what it holds: in whichever world, behind whichever entries.
use Rattle.std.proofs.Common.{◌≡◌, ℕ, ◌-◌, ◌<◌, ◌^◌, ◌++◌, false, true, List, [], ◌∷◌, length, refl, sym, ap, ◌∙◌, subst, Err, IfOk, None, Ok, Result, Some}
use Rattle.std.proofs.lemmas.Bool.{and_parts, ltb-true}
use Rattle.std.proofs.lemmas.List.{length-map}
use Rattle.std.specs.Option.{option_map_or}
use Rattle.std.specs.Prelude.{find, nat_lt}
use Rattle.q_bare.specs.Bare.{bare, bare_recipient}
use Rattle.q_bare.specs.Counts.{Counts, counts_of}
use Rattle.q_bare.specs.Judging.{HeldBegins, HeldGoesOn, HeldJudges, HeldRules}
use Rattle.q_bare.specs.Laws.{AreRowsSame, IsNextSame}
use Rattle.q_fronts.specs.Fitting.{FrontsFit}
use Rattle.q_fronts.specs.Fronts.{IsFront, IsLedgerAfter, LedgersAreOne}
use Rattle.q_fronts.specs.Openings.{FrontsOpen, opens}
use Rattle.q_laws.specs.Laws.{OfConsistent}
use Rattle.q_ledger.proofs.BareLaws.{asked_bare}
use Rattle.q_ledger.proofs.HoldLaws.{IsFollowed, judge_on, taken_first, taken_on}
use Rattle.q_ledger.proofs.JudgedLaws.{usable, windows}
use Rattle.q_ledger.proofs.OpeningLaws.{opening_beside, opening_may, opening_of}
use Rattle.q_ledger.specs.Beside.{AreAccounts, IsBeside, IsOfLedger, recipients_in}
use Rattle.q_ledger.specs.Counted.{is_of}
use Rattle.q_ledger.specs.Empty.{empty_ledger}
use Rattle.q_ledger.specs.Following.{TakesIn}
use Rattle.q_ledger.specs.Holding.{AreTold, Holds, HoldsNothing, IsJudged, IsJudgedBy, IsJudgment, Recounted, TakesOver}
use Rattle.q_ledger.specs.Ruling.{HasLines}
use Rattle.q_ledger.specs.State.{State}
use Rattle.q_ledger.specs.Taking.{IsTaken}
use Rattle.q_ledger.specs.Worlds.{world_of}
use Rattle.q_ledger.specs.declared.accounts.Account.{Account}
use Rattle.q_ledger.specs.declared.accounts.Accounts.{Accounts}
use Rattle.q_ledger.specs.declared.recount.Judged.{Judged}
use Rattle.q_model.specs.Ids.{id_eq}
use Rattle.q_model.specs.Ledger.{Ledger}
use Rattle.q_model.specs.Message.{Message}
use Rattle.q_model.specs.Next.{next}
use Rattle.q_model.specs.Past.{is_living}
use Rattle.q_model.specs.Settings.{World}
use Rattle.q_model.specs.Step.{after_all, allowed}
use Rattle.q_model.specs.declared.entry.Entry.{Entry}
use Rattle.q_model.specs.declared.entry.Entry.TheVariants as entries
use Rattle.q_model.specs.declared.event.Mode.{Mode}
use Rattle.q_model.specs.declared.event.Mode.TheVariants.{Deliver}
use Rattle.q_model.specs.declared.id.Id.{Id}
use Rattle.q_model.specs.declared.no_memory.NoMemory.{NoMemory}
use Rattle.q_settings.specs.Ranges.{IsInRange}

-- no entry is the front of a run
pub front_none : (w : World) → FrontsOpen → IsFront w []
front_none w fronts =
    let f : IsFront w (entries.Life 1 Deliver ∷ []) = (fronts w (entries.Life 1 Deliver)).1 refl in
    record {
      generation = f.generation;
      mode = f.mode;
      items = f.items;
      later = entries.Life 1 Deliver ∷ f.later;
      fits = f.fits;
      run = f.run;
    }

-- before the first entry
pub begun_holds : (r : Recounted) → FrontsOpen → IsInRange r.given.settings → HoldsNothing r → Holds (world_of r.given) r []
begun_holds r fronts range nothing = record { world = refl; range = range; front = front_none (world_of r.given) fronts; since = nothing }

-- ---- recipients

recipients_bare : (l : Ledger) (id : Id) → recipients_in (bare l) id ≡ recipients_in l id
recipients_bare l id = asked_bare (λ m. length m.recipients) (λ m. length m.recipients) 0 (λ m. length-map m.recipients bare_recipient) l.book id

pub recipients_held : (w : World) (r : Recounted) (es : List Entry) (l : Ledger) (id : Id) → LedgersAreOne → Holds w r es → IsLedgerAfter w es l → recipients_in r.state.ledger id ≡ recipients_in l id
unfolding after_all
recipients_held w r [] l id one h after =
    ap (λ (ms : List Message). option_map_or (λ (m : Message). length m.recipients) (find (λ (m : Message). id_eq m.id id) ms) 0) h.since.messages
    ∙ sym (ap (λ (x : Ledger). recipients_in x id) after.is)
recipients_held w r (first ∷ es) l id one h after =
    let k = h.since.held in
    ap (λ (x : Ledger). recipients_in x id) (sym k.bare_ledger) ∙ recipients_bare k.ledger id
    ∙ ap (λ (x : Ledger). recipients_in x id) (one w first es k.ledger l k.front after)

-- ---- judging

each_ok : (j : Result Judged NoMemory) (r : Recounted) (e : Entry) → ((w : World) (es : List Entry) → Holds w r es → length es < 2 ^ 60 → IfOk j (λ x. IsJudged w es e x)) → IfOk j (IsJudgment r e)
each_ok (Ok x) r e h = h
each_ok (Err x) r e h = tt

pub judge_living : (r : Recounted) (e : Entry) (j : Result Judged NoMemory) → HeldJudges → HeldRules → FrontsFit → r.living ≡ true →
    ((c : Counts) → IsOfLedger (world_of r.given) c r.state.ledger → IsBeside r.state → AreTold r c → HasLines (world_of r.given) r.state.ledger → c.living ≡ true → c.begun ≡ true → IfOk j (λ x. IsJudgedBy c (world_of r.given) r.state.ledger e x)) →
    IfOk j (IsJudgment r e)
judge_living r e j judges rules fit living says = each_ok j r e (λ w es h short.
    subst (λ v. Holds v r es → IfOk j (λ x. IsJudged v es e x)) h.world (λ g. judge_on (world_of r.given) r es e j judges rules fit g short living says) h)

-- ---- taking over

pub take_next : (r s : Recounted) (e : Entry) → HeldJudges → HeldGoesOn → FrontsFit → OfConsistent (λ w l. (e : Entry) → is_living l ≡ true → next w l ≡ Some e → allowed w l e ≡ true) → AreRowsSame → IsNextSame → r.begun ≡ true →
    IsFollowed (world_of r.given) r s e → TakesOver r e s
take_next r s e judges goes fit decides rows nexts begun f w es h short front =
    subst (λ v. Holds v r es → IsFront v (es ++ e ∷ []) → Holds v s (es ++ e ∷ [])) h.world
    (λ g there. taken_on (world_of r.given) r s es e judges goes fit decides rows nexts g short begun there f) h front

-- accounts that are as they were are still those that are counted
pub kept_accounts : (r : Recounted) (a : Accounts) (c : Counts) → AreTold r c → a.starts ≡ r.starts → a.arrivals ≡ r.arrivals → a.jobs.items ≡ r.jobs → AreAccounts a c
kept_accounts r a c k starts arrivals jobs = record {
  deliveries = starts ∙ k.deliveries;
  messages = arrivals ∙ k.messages;
  starts = λ id t. ap (λ xs. option_map_or (λ (x : Account). x.starts) (find (is_of id t) xs) 0) jobs ∙ k.starts id t;
  charged = λ id t. ap (λ xs. option_map_or (λ (x : Account). x.charged) (find (is_of id t) xs) 0) jobs ∙ k.charged id t;
}

-- the state on an empty spool
abbrev pub empty_state : ℕ → State
empty_state generation = record { ledger = empty_ledger generation; slots = []; leftovers = []; left = None }

opened : (generation : ℕ) (mode : Mode) → opens (entries.Life generation mode) ≡ true → (0 < generation) × (generation < 2 ^ 32)
opened generation mode h =
    let two = and_parts (nat_lt 0 generation) (nat_lt generation (2 ^ 32)) h in (ltb-true 0 generation two.0, ltb-true generation (2 ^ 32) two.1)

-- the life with which a run begins is taken over from an empty spool
pub first_taken : (w : World) (generation : ℕ) (mode : Mode) (k s : State) → IsInRange w.settings → k ≡ empty_state (generation - 1) → TakesIn w k (entries.Life generation mode) s → opens (entries.Life generation mode) ≡ true →
    IsTaken w (empty_ledger (generation - 1)) (entries.Life generation mode) s
first_taken w generation mode k s range is takes opens_it =
    let g = generation - 1 in
    let few = opened generation mode opens_it in
    subst (λ (x : State). TakesIn w x (entries.Life generation mode) s) is takes (counts_of (empty_ledger g)) (opening_of w g (usable w range) (windows w range)) (opening_beside g) (opening_may w generation mode few.0 few.1)

-- what is known of a recount that has taken the life over
pub record IsFirst (r s : Recounted) (k : State) (e : Entry) (generation : ℕ) : Type 0 where
  pub given : s.given ≡ r.given
  pub begun : s.begun ≡ true
  pub living : s.living ≡ true
  pub starts : s.starts ≡ 0
  pub arrivals : s.arrivals ≡ 0
  pub jobs : s.jobs ≡ []
  pub life : opens e ≡ true → (mode : Mode) × (e ≡ entries.Life generation mode)
  pub empty : k ≡ empty_state (generation - 1)
  pub takes : TakesIn (world_of r.given) k e s.state

pub take_first : (r s : Recounted) (k : State) (e : Entry) (generation : ℕ) → FrontsOpen → HeldBegins → r.begun ≡ false → IsFirst r s k e generation → TakesOver r e s
take_first r s k e generation fronts begins before f w (first ∷ es) h short front = let bad : true ≡ false = sym h.since.begun ∙ before in absurd cc
take_first r s k e generation fronts begins before f w [] h short front =
    subst (λ v. Holds v r [] → IsFront v (e ∷ []) → Holds v s (e ∷ [])) h.world there h front
  where
    of : World
    of = world_of r.given

    by : (mode : Mode) → e ≡ entries.Life generation mode → Holds of r [] → IsFront of (e ∷ []) → Holds of s (e ∷ [])
    by mode is g here =
        let life : Entry = entries.Life generation mode in
        subst (λ (x : Entry). Holds of s (x ∷ [])) (sym is)
        (taken_first of r s [] generation mode fronts begins g before (subst (λ (x : Entry). IsFront of (x ∷ [])) is here) f.given f.begun f.living f.starts f.arrivals f.jobs
        (first_taken of generation mode k s.state g.range f.empty (subst (λ (x : Entry). TakesIn of k x s.state) is f.takes)))

    there : Holds of r [] → IsFront of (e ∷ []) → Holds of s (e ∷ [])
    there g here = let named = f.life ((fronts of e).0 here) in by named.0 named.1 g here
