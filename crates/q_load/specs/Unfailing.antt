-- A host of which no call fails but for want of memory.
use Rattle.q_host.specs.Faults.{Faults}

-- no call has failed
abbrev pub no_faults : Faults
no_faults = record { disk = 0; tell = 0 }
