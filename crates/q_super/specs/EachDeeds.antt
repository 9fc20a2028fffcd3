-- What an act does with the messages of several ids, one behind another.
use Rattle.std.specs.Prelude.{◌++◌, ◌||◌, ◌∷◌, [], Bool, false, List}
use Rattle.q_model.specs.declared.id.Id.{Id}
use Rattle.q_model.specs.Book.{Book}
use Rattle.q_model.specs.Lists.{has_none}
use Rattle.q_super.specs.declared.acts.Act.{Act}
use Rattle.q_super.specs.Deeds.{Deed, deeds_of}
use Rattle.q_super.specs.Plays.{after_deeds}

-- with each, on the book that those before it left
abbrev pub each_deeds : Act → List Id → Book → List Deed
each_deeds act [] b = []
each_deeds act (id ∷ ids) b = deeds_of act id b ++ each_deeds act ids (after_deeds b (deeds_of act id b))

-- with some of them there is nothing to do when its turn comes
abbrev pub lacks_any : Act → List Id → Book → Bool
lacks_any act [] b = false
lacks_any act (id ∷ ids) b = has_none (deeds_of act id b) || lacks_any act ids (after_deeds b (deeds_of act id b))
