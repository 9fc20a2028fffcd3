-- Links and hops that tell nothing of what came and went. How often a link may answer `NotYet` isn't known.
use Rattle.std.specs.Prelude.{false, None}
use Rattle.q_link.specs.Records.{HopsView}
use Rattle.q_link.specs.declared.usage.Usage.TheVariants.{Open}
use Rattle.q_link.specs.Usages.{usage_called}
use Rattle.q_link.specs.Views.{NoWait, View, Wait}

-- a link over which nothing came or went yet
abbrev pub fresh : View
fresh = record { faults = 0; wait = NoWait; ended = false; usage = Open; waits_left = None; told = None }

-- a link of whose telling nothing is said
abbrev pub untold : View → View
untold link = record link { waits_left = None; told = None }

-- a link after a rest
abbrev pub rested : View → View
rested link = record link { wait = NoWait }

-- a link behind a call that answered neither `End` nor `Failed`
abbrev pub called : Wait → View → View
called waiting link = record link { wait = waiting; usage = usage_called link.usage }

-- hops of which nothing was asked yet
abbrev pub no_calls : HopsView
no_calls = record { connect_faults = 0; rests = 0; link_faults = 0; link_ends = 0; waits_left = None; told = None }
