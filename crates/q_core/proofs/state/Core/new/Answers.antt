use Rattle.std.proofs.Common.{◌+◌, refl, subst, sym}
use Rattle.q_core.proofs.BeginLaws.{begin_law, begin_living, begin_moment, open_windows, usable}
use Rattle.q_core.specs.Agrees.{AgreesIfConsistent, ForFirst}
use Rattle.q_core.specs.Beginning.{first_state}
use Rattle.q_core.specs.declared.state.Core.{Core}
use Rattle.q_laws.proofs.Beginnings.{begins_consistent}
use Rattle.q_laws.proofs.SiteEntries.{sites_at_life}
use Rattle.q_model.specs.Ledger.{opening}
use Rattle.q_settings.specs.Ranges.{IsInRange}
use Rattle.q_core.proofs.state.Core.new.Goals as goal

pub returns-clause-consistent : goal.returns-clause-consistent
returns-clause-consistent c =
    subst (λ (core : Core). ForFirst c.args.params c.args.transports c.args.mode (λ w book l. AgreesIfConsistent w core l)) (sym c.over.ensures)
    (λ w book settings count k s. record {
      matches = begin_law w c.args.mode book (first_state c.args.params c.args.transports c.args.mode) c.args.transports settings refl count
          (record { mode_is = refl; clock = refl; admitted = refl; waiting = refl; flights = refl; served = refl; unsettled = refl; lines = refl; sites = refl; synced = refl });
      consistent = k;
      sites = s;
      living = begin_living w c.args.mode book;
      moment = begin_moment w c.args.mode book;
    })

pub returns-clause-orderly : goal.returns-clause-orderly
returns-clause-orderly c = λ w book settings count distinct orderly.
    let held : IsInRange w.settings = subst IsInRange settings c.requires in
    returns-clause-consistent c w book settings count (begins_consistent w c.args.mode book (usable w held) distinct orderly) (sites_at_life w (opening c.args.mode book) (book.generation + 1) c.args.mode (open_windows w held))
