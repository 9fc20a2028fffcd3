-- The sessions of the deliveries that wait are opened one after another.
use native.Mathlib.Omega.{arith}
use Rattle.std.proofs.Common.{◌≡◌, ◌≤◌, ◌<◌, ◌+◌, ℕ, List, [], ◌∷◌, ◌++◌, length, length-append, Option, refl, sym, ap, ◌∙◌, subst, append_assoc}
use Rattle.std.proofs.lemmas.List.{append-nil}
use Rattle.q_agent.specs.Sessions.{Sessions}
use Rattle.q_books.proofs.Joining.{reads_keep}
use Rattle.q_books.specs.HostStands.{HostStands, TellsCrashes}
use Rattle.q_drain.proofs.Ending.{all_begun}
use Rattle.q_drain.specs.Flights.{flight}
use Rattle.q_drain.specs.Opened.{FailsToOpen, GaveUp, IsServing, Looks, MayOpen, OpenedAll, OpensFirst}
use Rattle.q_drain.specs.Standing.{Outside}
use Rattle.q_drain.specs.Stories.{Story, with_request}
use Rattle.q_drain.specs.Told.{Begun}
use Rattle.q_engine.specs.Refusals.{ForAgreed}
use Rattle.q_engine.specs.declared.engine.Engine.{Engine}
use Rattle.q_entries.proofs.Playing.{reads_none, reads_then}
use Rattle.q_host.specs.Calls.{Stays}
use Rattle.q_host.specs.View.{View as HostView}
use Rattle.q_link.specs.Records.{HopsView}
use Rattle.q_model.specs.declared.rows.Delivery.{Delivery}
use Rattle.q_model.specs.Book.{Book}
use Rattle.q_model.specs.Ledger.{Ledger}
use Rattle.q_model.specs.Past.{starts}
use Rattle.q_model.specs.Settings.{World}
use Rattle.q_model.specs.Step.{after_all}

-- of all these, the first so many have their sessions
pub record OpenedSome (w : World) (l : Ledger) (a : Outside) (clock : Option (List ℕ)) (u v : HostView) (engine : Engine) (hops : HopsView) (agent : Sessions) (all : List Begun) (s : Story) (number : ℕ) : Type 0 where
  pub early : List Begun
  pub waiting : List Begun
  pub flights : List Delivery
  pub story : Story
  pub told : story.told ≡ s.told
  pub moments : story.moments ≡ s.moments
  pub rests : story.rests ≡ s.rests
  pub parts : early ++ waiting ≡ all
  pub number_is : length early ≡ number
  pub serving : IsServing w l a (record { clock = clock; hops = hops }) v engine agent early waiting flights story
  pub looks : Looks w l s u v

pub some_begin : (w : World) (l : Ledger) (a : Outside) (clock : Option (List ℕ)) (u : HostView) (engine : Engine) (hops : HopsView) (agent : Sessions) (early waiting : List Begun) (fs : List Delivery) (s : Story) (number : ℕ)
    → TellsCrashes u → length early ≡ number → IsServing w l a (record { clock = clock; hops = hops }) u engine agent early waiting fs s → OpenedSome w l a clock u u engine hops agent (early ++ waiting) s number
some_begin w l a clock u engine hops agent early waiting fs s number lawful is h = record {
  early = early;
  waiting = waiting;
  flights = fs;
  story = s;
  told = refl;
  moments = refl;
  rests = refl;
  parts = refl;
  number_is = is;
  serving = h;
  looks = record { takes = reads_none (after_all w l s.told).book u lawful h.under_way.stands.host; files = refl };
}

-- how many have begun
all_are : (w : World) (l : Ledger) (a z : Outside) (v : HostView) (engine : Engine) (agent : Sessions) (early waiting : List Begun) (fs : List Delivery) (s : Story) → IsServing w l a z v engine agent early waiting fs s → starts (after_all w l s.told) ≡ length early + length waiting
all_are w l a z v engine agent early waiting fs s h = h.under_way.driving.course.starts ∙ all_begun s early waiting h.under_way.driving.connected

last_is : (w : World) (l : Ledger) (a z : Outside) (v : HostView) (engine : Engine) (agent : Sessions) (early waiting : List Begun) (fs : List Delivery) (s : Story) (last : ℕ) → ForAgreed engine (λ w l. last ≡ starts l) → IsServing w l a z v engine agent early waiting fs s → last ≡ length early + length waiting
last_is w l a z v engine agent early waiting fs s last says h = says w (after_all w l s.told) h.under_way.stands.core h.under_way.stands.counts ∙ all_are w l a z v engine agent early waiting fs s h

-- one still waits
pub record HasFirst (waiting : List Begun) : Type 0 where
  pub first : Begun
  pub rest : List Begun
  pub is : waiting ≡ first ∷ rest

has_first : (waiting : List Begun) → 1 ≤ length waiting → HasFirst waiting
has_first [] h = absurd (omega (arith, h))
has_first (b ∷ rest) h = record { first = b; rest = rest; is = refl }

module _ (w : World) (l : Ledger) (a : Outside) (clock : Option (List ℕ)) (u v : HostView) (engine : Engine) (hops : HopsView) (agent : Sessions) (all : List Begun) (s : Story) (number last : ℕ)
    (says : ForAgreed engine (λ w l. last ≡ starts l)) (o : OpenedSome w l a clock u v engine hops agent all s number) where
  abbrev z : Outside
  z = record { clock = clock; hops = hops }

  pub waits : number < last → HasFirst o.waiting
  waits h =
      let is = last_is w l a z v engine agent o.early o.waiting o.flights o.story last says o.serving in
      let n = o.number_is in
      has_first o.waiting (omega (arith, h, is, n))

  abbrev at_first : HasFirst o.waiting → Type 0
  at_first f = IsServing w l a z v engine agent o.early (f.first ∷ f.rest) o.flights o.story

  served : (f : HasFirst o.waiting) → at_first f
  served f = subst (λ (bs : List Begun). IsServing w l a z v engine agent o.early bs o.flights o.story) f.is o.serving

  next_number : number + 1 ≡ length o.early + 1
  next_number = let n = o.number_is in omega (arith, n)

  pub may_open : number < last → MayOpen clock v hops engine agent (number + 1)
  may_open h =
      let f = waits h in
      record { world = w; ledger = l; first = a; early = o.early; begun = f.first; rest = f.rest; flights = o.flights; story = o.story; serving = served f; number_is = next_number }

  looks_on : (x : HostView) → TellsCrashes v → Stays v x → Looks w l s u x
  looks_on x lawful stays =
      let same : (after_all w l o.story.told).book ≡ (after_all w l s.told).book = ap (λ es. (after_all w l es).book) o.told in
      let book : Book = (after_all w l s.told).book in
      record { takes = reads_then book u v x o.looks.takes (reads_keep book book v x lawful stays (subst (HostStands v) same o.serving.under_way.stands.host)); files = stays.files ∙ o.looks.files }

  pub some_more : (x : HostView) (next : HopsView) (new : Sessions) → number < last → TellsCrashes v → Stays v x → OpensFirst engine v x hops next agent new (number + 1) → OpenedSome w l a clock u x engine next new all s (number + 1)
  some_more x next new h lawful stays opens =
      let f = waits h in
      let more = length-append o.early (f.first ∷ []) in
      let n = o.number_is in
      record {
        early = o.early ++ f.first ∷ [];
        waiting = f.rest;
        flights = o.flights ++ flight f.first ∷ [];
        story = with_request o.story f.first.site.hop;
        told = o.told;
        moments = o.moments;
        rests = o.rests;
        parts = append_assoc o.early (f.first ∷ []) f.rest ∙ ap (λ bs. o.early ++ bs) (sym f.is) ∙ o.parts;
        number_is = omega (arith, more, n);
        serving = opens w l a clock o.early (f.first ∷ f.rest) o.flights o.story f.first f.rest refl next_number (served f);
        looks = looks_on x lawful stays;
      }

  pub some_fails : (x : HostView) (next : HopsView) → number < last → TellsCrashes v → Stays v x → FailsToOpen engine v hops next agent (number + 1) → (t : Story) × (t.told ≡ s.told) × GaveUp w l a (record { clock = clock; hops = next }) t × Looks w l s u x
  some_fails x next h lawful stays fails =
      let f = waits h in
      let g = fails w l a clock o.early (f.first ∷ f.rest) o.flights o.story f.first f.rest refl next_number (served f) in
      (g.0, g.1 ∙ o.told, g.2, looks_on x lawful stays)

  none_left : (waiting : List Begun) → length waiting ≡ 0 → waiting ≡ []
  none_left [] h = refl
  none_left (b ∷ bs) h = absurd (omega (arith, h))

  pub some_all : last ≤ number → OpenedAll w l a z v engine agent all s × Looks w l s u v × (number ≡ length all)
  some_all h =
      let is = last_is w l a z v engine agent o.early o.waiting o.flights o.story last says o.serving in
      let n = o.number_is in
      let none : o.waiting ≡ [] = none_left o.waiting (omega (arith, h, is, n)) in
      let same : o.early ≡ all = sym (append-nil o.early) ∙ ap (λ bs. o.early ++ bs) (sym none) ∙ o.parts in (
        record {
          flights = o.flights;
          story = o.story;
          told = o.told;
          moments = o.moments;
          rests = o.rests;
          serving = subst (λ bs. IsServing w l a z v engine agent bs [] o.flights o.story) same (subst (λ bs. IsServing w l a z v engine agent o.early bs o.flights o.story) none o.serving);
        },
        o.looks,
        sym n ∙ ap length same,
      )
