-- What a drain promises, from what holds between its calls.
use Rattle.std.proofs.Common.{◌≡◌, ◌+◌, inl, inr, ℕ, List, [], ◌++◌, length, length-append, map, sym, ap, ◌∙◌}
use native.Mathlib.Omega.{arith}
use Rattle.std.proofs.lemmas.List.{append-nil, length-map, map-append}
use Rattle.q_agent.specs.Sessions.{OpenSession}
use Rattle.q_drain.proofs.Pairing.{pairs_none}
use Rattle.q_drain.proofs.Replying.{all_cases}
use Rattle.q_drain.proofs.Waiting.{sweeps_end}
use Rattle.q_drain.specs.Cases.{Case}
use Rattle.q_drain.specs.Causes.{FewFailed}
use Rattle.q_drain.specs.Drains.{Delivers, IsCut, IsQuiet, IsWhole}
use Rattle.q_drain.specs.Driving.{AreConnected, Driving, FewCutOff, HasCases}
use Rattle.q_drain.specs.Stories.{Story}
use Rattle.q_drain.specs.Told.{Begun, begun}
use Rattle.q_drain.specs.Sweeps.{AllConnected, SomeConnected}
use Rattle.q_drain.specs.Waited.{MadeSweeps}
use Rattle.q_drain.specs.Waits.{Sweeps}
use Rattle.q_drain.specs.Works.{IsSessionOf}
use Rattle.q_link.specs.Views.{Told}
use Rattle.q_model.specs.declared.rows.Delivery.{Delivery}
use Rattle.q_model.specs.Ledger.{Ledger}
use Rattle.q_model.specs.Settings.{World}
use Rattle.q_model.specs.Step.{after_all}

pub few_failed : (cs : List Case) (fs : List Delivery) (os : List OpenSession) (old new : ℕ) → FewCutOff cs fs os old new → FewFailed cs old new
few_failed cs fs os old new (inl h) = inl (omega (arith, h))
few_failed cs fs os old new (inr h) = inr h

-- at any time its deliveries are as promised
pub cases_deliver : (w : World) (l : Ledger) (connects old new : ℕ) (fs : List Delivery) (os : List OpenSession) (s : Story) → HasCases w l connects old new fs os s → Delivers w l connects old new s
cases_deliver w l connects old new fs os s d = record {
  cases = d.cases;
  are = all_cases w l s d.cases d.all;
  each = d.each;
  failed = few_failed d.cases fs os old new d.failed;
}

pub all_begun : (s : Story) (early waiting : List Begun) → AreConnected s early waiting → length (begun s.told) ≡ length early + length waiting
all_begun s early waiting c = ap length c.begins ∙ length-append early waiting

-- and where it was given up, the first deliveries were connected
pub some_connected : (s : Story) (early waiting : List Begun) → AreConnected s early waiting → SomeConnected s
some_connected s early waiting c =
    let all = all_begun s early waiting c in
    let connects = c.connects in
    let hops = ap length c.hops ∙ length-map early (λ (b : Begun). b.site.hop) in
    record {
      connects = omega (arith, all, connects);
      few = omega (arith, hops, connects);
      hops = (map (λ (b : Begun). b.site.hop) waiting, ap (λ (bs : List Begun). map (λ (b : Begun). b.site.hop) bs) c.begins ∙ map-append (λ (b : Begun). b.site.hop) early waiting ∙ ap (λ (xs : List (List ℕ)). xs ++ map (λ (b : Begun). b.site.hop) waiting) (sym c.hops));
    }

pub drives_cut : (w : World) (l : Ledger) (Tells : Begun → Told → Type 0) (early waiting : List Begun) (fs : List Delivery) (os : List OpenSession) (s : Story) → Driving w l Tells early waiting fs os s → IsCut s
drives_cut w l Tells early waiting fs os s d = record {
  clocked = ([], sym (append-nil _ ∙ d.course.clocked));
  connected = some_connected s early waiting d.connected;
}

pub all_connected : (s : Story) (early : List Begun) → AreConnected s early [] → AllConnected s
all_connected s early c =
    let all = all_begun s early [] c in
    let connects = c.connects in
    record {
      connects = omega (arith, all, connects);
      hops = c.hops ∙ ap (λ (bs : List Begun). map (λ (b : Begun). b.site.hop) bs) (sym (append-nil early) ∙ sym c.begins);
    }

-- where no delivery waits for its connect, and its last sweep did nothing
abbrev pub drives_whole : (w : World) (l : Ledger) (Tells : Begun → Told → Type 0) (early : List Begun) (fs : List Delivery) (os : List OpenSession) (s : Story) → Driving w l Tells early [] fs os s → Sweeps 1 s → MadeSweeps w l s → IsWhole w l s
drives_whole w l Tells early fs os s d sweeps made =
    let counted = d.opened.counted in
    let all = all_begun s early [] d.connected in
    record {
      told = d.course.run;
      room = d.course.room;
      clocked = d.course.clocked;
      rested = sweeps_end s sweeps (omega (arith, counted, all));
      sweeps = made;
      connected = all_connected s early d.connected;
    }

-- and no session is open, no delivery is in flight
pub drives_quiet : (w : World) (l : Ledger) (Tells : Begun → Told → Type 0) (early : List Begun) (fs : List Delivery) (s : Story) → Driving w l Tells early [] fs [] s → IsQuiet w l s
drives_quiet w l Tells early fs s d = d.opened.flights ∙ append-nil fs ∙ pairs_none (IsSessionOf (after_all w l s.told).book s.told Tells) fs d.opened.sessions
