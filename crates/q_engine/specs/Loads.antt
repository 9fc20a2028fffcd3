-- How recipients that were read come into memory.
use Rattle.std.specs.Prelude.{◌≡◌, ◌≤◌, List, map, Some, ℕ}
use Rattle.q_model.specs.declared.entry.Entry.TheVariants as entries
use Rattle.q_model.specs.declared.id.Id.{Id}
use Rattle.q_model.specs.Ledger.{Ledger}
use Rattle.q_model.specs.Next.{next}
use Rattle.q_model.specs.Settings.{World}
use Rattle.q_model.specs.Step.{after}
use Rattle.q_model.specs.Values.{Site, Taken}
use Rattle.q_transport.specs.Routing.{table_of}
use Rattle.q_core.specs.Agrees.{Agrees}
use Rattle.q_core.specs.declared.state.Core.{Core}
use Rattle.q_core.specs.declared.state.Question.{Question}
use Rattle.q_core.specs.declared.state.Question.TheVariants.{Active, Deferred, Incoming, Nothing, Recipients}
use Rattle.q_core.specs.Loading.{ReadsAre}
use Rattle.q_engine.specs.declared.engine.Engine.{Engine}

-- the sites of recipients, by the engine's table
abbrev pub sites_of : Engine → List Taken → List Site
sites_of engine taken = map (λ t. (table_of engine.table).route t.address) taken

-- Where these are the recipients of the ledger's next load, the core agrees with the ledger after
-- it.
abbrev pub AnswersRead : World → Ledger → Engine → List Taken → ℕ → Core → Type 0
AnswersRead w l engine taken to core = (id : Id) → (from max : ℕ)
    → engine.core.value.question ≡ Recipients id from max → next w l ≡ Some (entries.Load id from to)
    → ReadsAre w l (sites_of engine taken) id from to taken
    → Agrees w core (after w l (entries.Load id from to))

-- a read waits for its answer that asks for so many recipients, or more
abbrev pub AsksFor : Question → ℕ → Type 0
AsksFor Nothing count = ⊥
AsksFor Active count = ⊥
AsksFor Incoming count = ⊥
AsksFor Deferred count = ⊥
AsksFor (Recipients id from max) count = count ≤ max
