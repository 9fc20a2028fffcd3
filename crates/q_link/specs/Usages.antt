-- Whether a link may be read and written on.
use Rattle.q_link.specs.declared.usage.Usage.{Usage}
use Rattle.q_link.specs.declared.usage.Usage.TheVariants.{Closed, Misused, Open}

-- behind a call that answered neither `End` nor `Failed`
abbrev pub usage_called : Usage → Usage
usage_called Open = Open
usage_called Closed = Misused
usage_called Misused = Misused

-- behind one that answered `End` or `Failed`
abbrev pub usage_closed : Usage → Usage
usage_closed Open = Closed
usage_closed Closed = Misused
usage_closed Misused = Misused
