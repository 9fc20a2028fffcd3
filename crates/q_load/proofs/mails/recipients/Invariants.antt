use Rattle.std.proofs.Common.{◌≡◌, map}
use Rattle.std.specs.List.{range_with_len}
use Rattle.q_load.specs.Mails.{receiver}
use Rattle.q_load.proofs.mails.recipients.Given as goal

abbrev pub invariant-loop-place : goal.invariant-loop-place
invariant-loop-place l = record { to : l.to ≡ map (receiver l.number) (range_with_len 0 l.place) }
