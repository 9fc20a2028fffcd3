use Rattle.std.proofs.Common.{◌≡◌, ◌∙◌, None, Some, refl, sym}
use Rattle.q_engine.specs.Refusals.{is_of_event, is_of_host, is_unreadable}
use Rattle.q_load.specs.Loads.{load_world}
use Rattle.q_load.proofs.Unfailing.{engine_memory, host_alone_of}
use Rattle.q_load.proofs.loading.hear.Goals as goal

pub step-requires-clause-stands : goal.step-requires-clause-stands
step-requires-clause-stands c tells = let s = c.requires.accepted in (load_world, s.0, s.1)

pub returns-in-Ok-clause-hears : goal.returns-in-Ok-clause-hears
returns-in-Ok-clause-hears c l stands = (c.in-Ok.ensures.ok refl load_world l stands).stands

pub want_of_memory-requires : goal.want_of_memory-requires
want_of_memory-requires c =
    let error = c.in-Err.error in
    let s = c.requires.accepted in
    engine_memory error c.step.result c.in-Err.is c.step.ensures.cause
    (host_alone_of (is_of_host error) (is_of_event error) (is_unreadable error)
    (λ of. let bad : None ≡ Some error = sym s.2 ∙ c.step.ensures.only_refused error c.in-Err.is of load_world s.0 s.1.core s.1.counts in cc)
    (c.step.ensures.readable refl error c.in-Err.is)
    (c.step.ensures.kinds error c.in-Err.is))
