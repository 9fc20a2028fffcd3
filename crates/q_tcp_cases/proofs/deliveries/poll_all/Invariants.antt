use Rattle.std.proofs.Common.{◌≡◌, false}
use Rattle.q_link.specs.declared.usage.Usage.TheVariants.{Open}
use Rattle.q_tcp_cases.proofs.deliveries.poll_all.Given as goal

-- the delivery goes on, and its link didn't end
abbrev pub invariant-loop : goal.invariant-loop
invariant-loop l = record { goes_on : l.session.over ≡ false; open_link : l.link.ended ≡ false; usable : l.link.usage ≡ Open }
