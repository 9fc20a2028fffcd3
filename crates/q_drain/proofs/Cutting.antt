-- A turn that was given up: the lines of a first part of it were told.
use native.Mathlib.Omega.{arith}
use Rattle.std.proofs.Common.{◌≡◌, ◌≤◌, ℕ, List, [], ◌∷◌, ◌++◌, length, length-append, map, refl, sym, ap, ◌∙◌, append_assoc}
use Rattle.std.proofs.lemmas.List.{append-nil, length-map, map-append}
use Rattle.q_agent.specs.Sessions.{OpenSession}
use Rattle.q_drain.proofs.Adding.{begun_added, ended_added, moments_added}
use Rattle.q_drain.proofs.Closing.{all_later}
use Rattle.q_drain.proofs.Moments.{cases_longer, few_longer}
use Rattle.q_drain.proofs.Replying.{longer}
use Rattle.q_drain.specs.Drains.{IsCut}
use Rattle.q_drain.specs.Driving.{AreConnected, HasCases}
use Rattle.q_drain.specs.Stories.{Story}
use Rattle.q_drain.specs.Told.{Begun, begun, begun_from, ended, moment_after, moments_of}
use Rattle.q_drain.specs.Sweeps.{SomeConnected, rising}
use Rattle.q_model.specs.declared.entry.Entry.{Entry}
use Rattle.q_model.specs.declared.rows.Delivery.{Delivery}
use Rattle.q_model.specs.Ledger.{Ledger}
use Rattle.q_model.specs.Settings.{World}

-- more may have begun than was connected
some_more : (s r : Story) (early : List Begun) (done : List Entry) → r.told ≡ s.told ++ done → r.connects ≡ s.connects → r.hops ≡ s.hops → AreConnected s early [] → SomeConnected r
some_more s r early done told connects hops c =
    let m : ℕ = moment_after 0 s.told in
    let more : List Begun = begun_from m done in
    let all : begun r.told ≡ early ++ more = ap begun told ∙ begun_added 0 s.told done ∙ ap (λ (bs : List Begun). bs ++ more) (c.begins ∙ append-nil early) in
    let count = ap length all in
    let sum = length-append early more in
    let made = c.connects in
    let few = ap length c.hops ∙ length-map early (λ (b : Begun). b.site.hop) in
    let listed = ap length hops in
    record {
      connects = omega (arith, count, sum, connects, made);
      few = omega (arith, few, listed, made, connects);
      hops = (
        map (λ (b : Begun). b.site.hop) more,
        ap (map (λ (b : Begun). b.site.hop)) all
            ∙ map-append (λ (b : Begun). b.site.hop) early more
            ∙ ap (λ (xs : List (List ℕ)). xs ++ map (λ (b : Begun). b.site.hop) more) (sym (hops ∙ c.hops)),
      );
    }

-- of the entries of a turn, the first were told
pub cut_turn : (s r : Story) (early : List Begun) (es done rest : List Entry) → es ≡ done ++ rest → moments_of (s.told ++ es) ≡ rising r.moments
    → r.told ≡ s.told ++ done → r.connects ≡ s.connects → r.hops ≡ s.hops → AreConnected s early [] → IsCut r
cut_turn s r early es done rest parts clocked told connects hops c = record {
  clocked = (
    moments_of rest,
    sym clocked
        ∙ ap (λ (xs : List Entry). moments_of (s.told ++ xs)) parts
        ∙ ap moments_of (sym (append_assoc s.told done rest))
        ∙ moments_added (s.told ++ done) rest
        ∙ ap (λ (xs : List Entry). moments_of xs ++ moments_of rest) (sym told),
  );
  connected = some_more s r early done told connects hops c;
}

append_none : {A : Type 0} (xs ys : List A) → xs ++ ys ≡ [] → xs ≡ []
append_none [] ys h = refl
append_none (x ∷ xs) ys h = cc

-- no reply was told, where the whole turn has none
pub front_replies : (es done rest : List Entry) → es ≡ done ++ rest → ended es ≡ [] → ended done ≡ []
front_replies es done rest parts none = append_none (ended done) (ended rest) (sym (ap ended parts ∙ ended_added done rest) ∙ none)

-- the cases stay where some entries without a reply are told
pub cases_front : (w : World) (l : Ledger) (connects first last : ℕ) (fs : List Delivery) (os : List OpenSession) (s r : Story) (done : List Entry)
    → r.told ≡ s.told ++ done → r.records ≡ s.records → length s.moments ≤ length r.moments → ended done ≡ [] → HasCases w l connects first last fs os s → HasCases w l connects first last fs os r
cases_front w l connects first last fs os s r done told records later none h = record {
  cases = map (longer done) h.cases;
  all = cases_longer w l s r h.cases done told records none h.all;
  each = all_later s r connects done later h.cases h.each;
  failed = few_longer done h.cases fs os first last h.failed;
}
