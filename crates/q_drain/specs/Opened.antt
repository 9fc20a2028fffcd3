-- A drain opens the sessions of the deliveries that its engine began.
use Rattle.std.specs.Prelude.{◌+◌, ◌++◌, ◌≡◌, ◌≤◌, [], length, List, Option, Some, ℕ, ◌∷◌}
use Rattle.q_agent.specs.Sessions.{Sessions}
use Rattle.q_drain.specs.Drains.{Delivers, IsCut}
use Rattle.q_drain.specs.Flights.{flight}
use Rattle.q_drain.specs.Rooms.{HadRoom}
use Rattle.q_drain.specs.Standing.{HasGiven, IsUnderWay, Outside, counts_of}
use Rattle.q_drain.specs.Stories.{Did, Story, with_request}
use Rattle.q_drain.specs.Told.{Begun}
use Rattle.q_drain.specs.Works.{IsLinkOf}
use Rattle.q_engine.specs.declared.engine.Engine.{Engine}
use Rattle.q_books.specs.HostStands.{Takes}
use Rattle.q_host.specs.View.{View as HostView}
use Rattle.q_link.specs.Records.{HopsView, ToldHops}
use Rattle.q_model.specs.declared.rows.Delivery.{Delivery}
use Rattle.q_model.specs.Ledger.{Ledger}
use Rattle.q_model.specs.Settings.{World}
use Rattle.q_model.specs.Step.{after_all}

-- Within a sweep: the first deliveries have their sessions, and the others wait for them.
pub record IsServing (w : World) (l : Ledger) (a z : Outside) (v : HostView) (engine : Engine) (agent : Sessions) (early waiting : List Begun) (fs : List Delivery) (s : Story) : Type 0 where
  pub under_way : IsUnderWay w l a z v (IsLinkOf (counts_of a s agent.polled)) engine early waiting fs agent.listed s
  pub polled : agent.polled ≤ length early
  pub some : 1 ≤ length s.moments

-- so for some ledger, where the delivery of this number is the first that waits
pub record MayOpen (clock : Option (List ℕ)) (v : HostView) (hops : HopsView) (engine : Engine) (agent : Sessions) (number : ℕ) : Type 0 where
  pub world : World
  pub ledger : Ledger
  pub first : Outside
  pub early : List Begun
  pub begun : Begun
  pub rest : List Begun
  pub flights : List Delivery
  pub story : Story
  pub serving : IsServing world ledger first (record { clock = clock; hops = hops }) v engine agent early (begun ∷ rest) flights story
  pub number_is : number ≡ length early + 1

-- What a call that is given up leaves: what was told before, and the deliveries so far.
pub record GaveUp (w : World) (l : Ledger) (a z : Outside) (s : Story) : Type 0 where
  pub given : HasGiven a.clock z.clock s
  pub cut : IsCut s
  pub room : HadRoom w l s.told
  pub records : (now : ToldHops) → z.hops.told ≡ Some now
      → (before : ToldHops) × (a.hops.told ≡ Some before) × Did before now s
      × Delivers w l before.connects a.hops.connect_faults z.hops.connect_faults s

-- of each ledger, clock and first outside
abbrev pub ForServing : (World → Ledger → Outside → Option (List ℕ) → List Begun → List Begun → List Delivery → Story → Type 0) → Type 0
ForServing says = (w : World) → (l : Ledger) → (a : Outside) → (clock : Option (List ℕ)) → (early waiting : List Begun) → (fs : List Delivery) → (s : Story) → says w l a clock early waiting fs s

-- the first that waited has its session
abbrev pub OpensFirst : Engine → HostView → HostView → HopsView → HopsView → Sessions → Sessions → ℕ → Type 0
OpensFirst engine u v hops_old hops_new old new number = ForServing (λ w l a clock early waiting fs s.
    (b : Begun) → (rest : List Begun) → waiting ≡ b ∷ rest → number ≡ length early + 1
    → IsServing w l a (record { clock = clock; hops = hops_old }) u engine old early (b ∷ rest) fs s
    → IsServing w l a (record { clock = clock; hops = hops_new }) v engine new (early ++ b ∷ []) rest (fs ++ flight b ∷ []) (with_request s b.site.hop))

-- or it has none, and the drain is given up
abbrev pub FailsToOpen : Engine → HostView → HopsView → HopsView → Sessions → ℕ → Type 0
FailsToOpen engine u hops_old hops_new old number = ForServing (λ w l a clock early waiting fs s.
    (b : Begun) → (rest : List Begun) → waiting ≡ b ∷ rest → number ≡ length early + 1
    → IsServing w l a (record { clock = clock; hops = hops_old }) u engine old early (b ∷ rest) fs s
    → (t : Story) × (t.told ≡ s.told) × GaveUp w l a (record { clock = clock; hops = hops_new }) t)

-- All that waited have their sessions: nothing more was told, and no moment came.
pub record OpenedAll (w : World) (l : Ledger) (a z : Outside) (v : HostView) (engine : Engine) (agent : Sessions) (all : List Begun) (s : Story) : Type 0 where
  pub flights : List Delivery
  pub story : Story
  pub told : story.told ≡ s.told
  pub moments : story.moments ≡ s.moments
  pub rests : story.rests ≡ s.rests
  pub serving : IsServing w l a z v engine agent all [] flights story

-- the host was only looked at
pub record Looks (w : World) (l : Ledger) (s : Story) (u v : HostView) : Type 0 where
  pub takes : Takes (after_all w l s.told).book (after_all w l s.told).book u v
  pub files : v.files ≡ u.files

-- where so many have their sessions
abbrev pub OpensAll : Engine → HostView → HostView → HopsView → HopsView → Sessions → Sessions → ℕ → ℕ → Type 0
OpensAll engine u v hops_old hops_new old new known last = ForServing (λ w l a clock early waiting fs s.
    length early ≡ known
    → IsServing w l a (record { clock = clock; hops = hops_old }) u engine old early waiting fs s
    → OpenedAll w l a (record { clock = clock; hops = hops_new }) v engine new (early ++ waiting) s × Looks w l s u v × (last ≡ length (early ++ waiting)))

-- or one has none, and the drain is given up
abbrev pub FailsToOpenAll : Engine → HostView → HostView → HopsView → HopsView → Sessions → ℕ → Type 0
FailsToOpenAll engine u v hops_old hops_new old known = ForServing (λ w l a clock early waiting fs s.
    length early ≡ known
    → IsServing w l a (record { clock = clock; hops = hops_old }) u engine old early waiting fs s
    → (t : Story) × (t.told ≡ s.told) × GaveUp w l a (record { clock = clock; hops = hops_new }) t × Looks w l s u v)

-- so it is for some ledger, where so many have their sessions
pub record MayOpenAll (clock : Option (List ℕ)) (v : HostView) (hops : HopsView) (engine : Engine) (agent : Sessions) (known : ℕ) : Type 0 where
  pub world : World
  pub ledger : Ledger
  pub first : Outside
  pub early : List Begun
  pub waiting : List Begun
  pub flights : List Delivery
  pub story : Story
  pub serving : IsServing world ledger first (record { clock = clock; hops = hops }) v engine agent early waiting flights story
  pub known_is : length early ≡ known
