-- The acts of queue tools: from where each takes messages, where to, and by which word it is told.
use Rattle.std.specs.Prelude.{Bool, codes, false, List, true, ℕ}
use Rattle.q_model.specs.declared.rows.Place.{Place}
use Rattle.q_model.specs.declared.spot.Area.{Area}
use Rattle.q_model.specs.SpoolFiles.{area_of}
use Rattle.q_super.specs.declared.acts.Act.{Act}
use Rattle.q_model.specs.declared.rows.Place.TheVariants as places
use Rattle.q_model.specs.declared.spot.Area.TheVariants as areas
use Rattle.q_super.specs.declared.acts.Act.TheVariants as acts

-- the act takes messages from the area
abbrev pub takes_from : Act → Area → Bool
takes_from acts.Hold areas.Incoming = true
takes_from acts.Hold areas.Deferred = true
takes_from acts.Release areas.Hold = true
takes_from acts.Requeue areas.Deferred = true
takes_from acts.Expire areas.Incoming = true
takes_from acts.Expire areas.Deferred = true
takes_from acts.Expire areas.Hold = true
takes_from act area = false

-- the act takes messages from the place
abbrev pub takes : Act → Place → Bool
takes act place = takes_from act (area_of place)

-- where they stand behind it
abbrev pub goal_of : Act → Place
goal_of acts.Hold = places.Hold
goal_of acts.Release = places.Incoming
goal_of acts.Requeue = places.Incoming
goal_of acts.Expire = places.Active

-- its word
abbrev pub word_of : Act → List ℕ
word_of acts.Hold = codes "hold"
word_of acts.Release = codes "release"
word_of acts.Requeue = codes "requeue"
word_of acts.Expire = codes "expire"
