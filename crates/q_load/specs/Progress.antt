-- How far a generator came.
use Rattle.std.specs.Prelude.{◌≡◌, ◌≤◌, count_by, List, ℕ}
use Rattle.q_engine.specs.Heard.{is_moment}
use Rattle.q_load.specs.Due.{is_fresh, is_mail, is_reply}
use Rattle.q_load.specs.Numbers.{number_of}
use Rattle.q_load.specs.declared.generator.Generator.{Generator}
use Rattle.q_model.specs.declared.event.Event.{Event}

-- its counts are no more than so many
pub record HasRoom (g : Generator) (most : ℕ) : Type 0 where
  pub came : g.came ≤ most
  pub replies : g.replies ≤ most
  pub rounds : g.rounds ≤ most

-- it counted these events, the last of them in front
pub record HasHeard (g : Generator) (heard : List Event) : Type 0 where
  pub came : g.came ≡ count_by is_mail heard
  pub number : g.number ≡ number_of g.mails (count_by is_mail heard)
  pub replies : g.replies ≡ count_by is_reply heard
  pub rounds : g.rounds ≡ count_by is_moment heard
  pub fresh : g.fresh ≡ is_fresh heard
