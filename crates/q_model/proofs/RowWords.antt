-- Words of worked runs: events, and the lines that they lead to.
use Rattle.std.specs.Prelude.{ℕ, zero, suc, ◌+◌, drop, List, [], ◌∷◌, ◌++◌, codes, decimal, flat_map, map, None, Some, false}
use Rattle.q_model.specs.declared.event.Event.TheVariants as events
use Rattle.q_model.specs.declared.event.LifeEvent.{LifeEvent}
use Rattle.q_model.specs.declared.event.LifeEvent.TheVariants.{Heard}
use Rattle.q_model.specs.declared.event.Mode.TheVariants.{Deliver}
use Rattle.q_model.specs.declared.id.Id.{Id}
use Rattle.q_model.specs.declared.outcome.Outcome.{Outcome}
use Rattle.q_model.specs.declared.outcome.Outcome.TheVariants as outcomes
use Rattle.q_model.specs.declared.outcome.SiteState.TheVariants.{Up, Down}
use Rattle.q_model.specs.declared.rows.Mark.{Mark}
use Rattle.q_model.specs.declared.rows.Place.{Place}
use Rattle.q_model.specs.Book.{empty_book}
use Rattle.q_model.specs.Message.{Message}
use Rattle.q_model.specs.TextParts.{text_line}
use Rattle.q_model.specs.Routes.{no_table, world_without_table}
use Rattle.q_model.specs.Run.{run_of}
use Rattle.q_model.specs.Settings.{Settings}
use Rattle.q_model.specs.Text.{text}
use Rattle.q_model.specs.Values.{Receiver}

abbrev pub at : ℕ → LifeEvent
at t = Heard (events.At t)

-- a recipient without another address
abbrev pub plain : List ℕ → Receiver
plain address = record { address = address; original = None }

abbrev pub mail : List ℕ → List (List ℕ) → LifeEvent
mail sender to = Heard (events.Mail (Some sender) (map plain to) [])

abbrev pub up : ℕ → List Outcome → LifeEvent
up number outcomes = Heard (events.Reply number Up outcomes)

abbrev pub down : ℕ → List Outcome → LifeEvent
down number outcomes = Heard (events.Reply number Down outcomes)

-- n deliveries from number i on succeed
abbrev pub ups : ℕ → ℕ → List LifeEvent
ups zero i = []
ups (suc n) i = up i (outcomes.Ok ∷ []) ∷ ups n (i + 1)

-- what is told for these items on an empty spool
abbrev pub told : Settings → List LifeEvent → List ℕ
unfolding run_of text
told settings items = text no_table (run_of (world_without_table settings) Deliver empty_book items)

-- the same from the n-th line on
abbrev pub told_from : ℕ → Settings → List LifeEvent → List ℕ
unfolding run_of text
told_from n settings items = text no_table (drop n (run_of (world_without_table settings) Deliver empty_book items))

abbrev pub lines : List (List ℕ) → List ℕ
lines texts = flat_map text_line texts

-- n addresses from number i on, each made by f
abbrev pub many : ℕ → ℕ → (ℕ → List ℕ) → List (List ℕ)
many zero i f = []
many (suc n) i f = f i ∷ many n (i + 1) f

abbrev pub same_domain : ℕ → List ℕ
same_domain i = codes "r" ++ decimal i ++ codes "@y.example"

abbrev pub own_domain : List ℕ → ℕ → List ℕ
own_domain name i = codes "r@" ++ name ++ decimal i ++ codes ".example"

abbrev pub id : ℕ → Id
id n = record { generation = 1; serial = n; bounce = false }

-- the message of number n, to one recipient
abbrev pub one_to : ℕ → Mark → Place → Message
one_to n mark place = record {
  id = id n;
  version = 2;
  sender = Some (codes "a@x.example");
  arrival = 1000;
  content = [];
  recipients = record { address = codes "b@y.example"; original = None; mark = mark } ∷ [];
  failures = [];
  place = place;
}
