use Rattle.std.proofs.Common.{◌≡◌, arith, filter, get_or, List, subst, sym, take_all, true}
use Rattle.q_host.proofs.Stays.{stays_here, stays_on}
use Rattle.q_model.specs.FilesStand.{Stands}
use Rattle.q_model.specs.SpoolFiles.{Files}
use Rattle.q_super.specs.Deeds.{is_file_for}
use Rattle.q_super.specs.Finding.{IsSource}
use Rattle.q_super.specs.Moves.{stands_there}
use Rattle.q_super.specs.Names.{AreSources}
use Rattle.q_super.specs.declared.acts.Act.TheVariants as acts
use Rattle.q_super.specs.declared.standing.Standing.{Standing}
use Rattle.q_super.proofs.AllTaken.{selected_next, sources_next}
use Rattle.q_super.proofs.ToldMoves.{at_index, no_file, same_default}
use Rattle.q_super.proofs.flushing.select.Goals as goal

pub loop-file-init : goal.loop-file-init
loop-file-init g c = record {
  sources = subst (AreSources acts.Requeue) (sym c.new-found.ensures.items) tt;
  selected = λ t b h each. c.new-found.ensures.items;
  stays = λ t. stays_here (g.H.Host.view c.args.host.now);
  disk_later = omega arith;
  tell_later = omega arith;
}

pub is_for-requires : goal.is_for-requires
is_for-requires g c =
    let files = c.args.files.now in
    let i = c.loop-file.file-index in
    at_index (λ (s : Standing). IsSource acts.Requeue s.id s.place) files i (get_or files i no_file) c.requires c.loop-file-test.true (same_default files i no_file (get_or files i no_file) c.loop-file-test.true)

pub loop-file-preserved : goal.loop-file-preserved
loop-file-preserved g c =
    let view = g.H.Host.view in
    let so = c.loop-file.invariant in
    let files = c.args.files.now in
    let i = c.loop-file.file-index in
    let x = get_or files i no_file in
    let here = same_default files i no_file x c.loop-file-test.true in
    record {
      sources = sources_next acts.Requeue x c.in_ok-wanted.wanted c.loop-file.found.items c.add_if.new.found.items (at_index (λ (s : Standing). IsSource acts.Requeue s.id s.place) files i x c.requires c.loop-file-test.true here) c.in_ok-add_if.ensures so.sources;
      selected = λ t b h each.
          let now = subst (λ (fs : Files). Stands fs b) (sym (so.stays t).files) h in
          selected_next (is_file_for c.args.domain.now b) files i x c.loop-file-test.true here c.loop-file.found.items c.add_if.new.found.items (so.selected t b h each) c.in_ok-wanted.wanted
          (c.in_ok-wanted.ensures.selects t b now (at_index (λ (s : Standing). stands_there b s ≡ true) files i x each c.loop-file-test.true here)) c.in_ok-add_if.ensures;
      stays = λ t. stays_on (view c.args.host.now) (view c.loop-file.host) (view c.is_for.new.host) (so.stays t) (c.in_ok-wanted.ensures.stays t);
      disk_later = omega (arith, so.disk_later, c.in_ok-wanted.ensures.cause.disk_later);
      tell_later = omega (arith, so.tell_later, c.in_ok-wanted.ensures.cause.tell_later);
    }

pub returns-clause-selected : goal.returns-clause-selected
returns-clause-selected g c t b h each = subst (λ (ss : List Standing). c.loop-file.found.items ≡ filter (is_file_for c.args.domain.now b) ss) (take_all c.loop-file.file-index c.args.files.now c.loop-file-test.false) (c.loop-file.invariant.selected t b h each)
