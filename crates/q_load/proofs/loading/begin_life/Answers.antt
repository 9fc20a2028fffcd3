use Rattle.std.proofs.Common.{◌^◌, ◌-◌, ◌<◌, ap, arith, refl, sym}
use Rattle.q_engine.specs.Beginnings.{is_of_spool}
use Rattle.q_engine.specs.Refusals.{is_of_host}
use Rattle.q_load.specs.Loads.{load_world}
use Rattle.q_model.specs.Book.{empty_book}
use Rattle.q_transport.specs.Routing.{table_of}
use Rattle.q_load.proofs.Unfailing.{engine_memory, host_alone}
use Rattle.q_load.proofs.loading.begin_life.Goals as goal

pub returns-in-Ok-clause-begins : goal.returns-in-Ok-clause-begins
returns-in-Ok-clause-begins c =
    (c.in-Ok.ensures.ok refl empty_book c.requires).stands refl refl load_world c.defaults.ensures.exact (ap table_of (sym c.empty-table.ensures.exact))

pub want_of_memory-requires : goal.want_of_memory-requires
want_of_memory-requires c =
    let error = c.in-Err.error in
    let few : 0 < 2 ^ 32 - 1 = omega arith in
    let spool = c.begin.ensures.orderly refl empty_book c.requires refl few error c.in-Err.is in
    engine_memory error c.begin.result c.in-Err.is c.begin.ensures.cause (host_alone (is_of_host error) (is_of_spool error) spool (c.begin.ensures.kinds error c.in-Err.is))
