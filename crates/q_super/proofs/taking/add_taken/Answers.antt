use Rattle.std.proofs.Common.{◌∙◌, ◌++◌, ap, List, sym}
use Rattle.q_super.specs.declared.standing.Standing.{Standing}
use Rattle.q_super.proofs.Taken.{adds_all, adds_none, sources_added}
use Rattle.q_super.proofs.taking.add_taken.Goals as goal

pub returns-then-not-takes_from-clause-adds : goal.returns-then-not-takes_from-clause-adds
returns-then-not-takes_from-clause-adds g c t = adds_none (g.H.Host.view c.args.host.now).files c.args.act c.args.area c.args.found.now.items (sym c.takes_from.ensures ∙ c.if-not-takes_from.true)

pub returns-clause-sources : goal.returns-clause-sources
returns-clause-sources g c = sources_added c.args.act c.args.area c.in_ok-files.files.items c.args.found.now.items c.extend_from_slice.new.self.items (sym c.takes_from.ensures ∙ c.if-not-takes_from.false) c.in_ok-files.ensures.each (c.in_ok-extend_from_slice.ensures.items ∙ ap (λ (xs : List Standing). c.args.found.now.items ++ xs) c.as_slice.ensures.value)

pub returns-clause-adds : goal.returns-clause-adds
returns-clause-adds g c t = adds_all (g.H.Host.view c.args.host.now).files c.args.act c.args.area c.in_ok-files.files.items c.args.found.now.items c.extend_from_slice.new.self.items (sym c.takes_from.ensures ∙ c.if-not-takes_from.false) (c.in_ok-files.ensures.all t) (c.in_ok-extend_from_slice.ensures.items ∙ ap (λ (xs : List Standing). c.args.found.now.items ++ xs) c.as_slice.ensures.value)
