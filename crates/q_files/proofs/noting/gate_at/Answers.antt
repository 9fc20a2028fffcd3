use Rattle.std.proofs.Common.{inl, sym, ◌∙◌}
use Rattle.q_model.specs.declared.spot.Area.TheVariants as areas
use Rattle.q_files.proofs.LogWrites.{made_goes, made_reads, made_there}
use Rattle.q_files.proofs.noting.gate_at.Goals as goal

pub returns-in_err-create-clause-reads : goal.returns-in_err-create-clause-reads
returns-in_err-create-clause-reads g c t = made_reads areas.Defer c.args.name (g.H.Host.view c.args.host.now) (g.H.Host.view c.has.new.self) (g.H.Host.view c.create.new.self) (c.has.ensures.stays t) (c.in_err-create.ensures.err t)

pub returns-in_err-create-clause-goes : goal.returns-in_err-create-clause-goes
returns-in_err-create-clause-goes g c t = made_goes areas.Defer c.args.name (g.H.Host.view c.args.host.now) (g.H.Host.view c.has.new.self) (g.H.Host.view c.create.new.self) (c.has.ensures.stays t) (c.in_err-create.ensures.err t)

pub returns-clause-there : goal.returns-clause-there
returns-clause-there g c t = made_there areas.Defer c.args.name (g.H.Host.view c.args.host.now) (g.H.Host.view c.has.new.self) (g.H.Host.view c.create.new.self) (c.in_ok-create.ensures.ok t) (sym (c.in_ok-has.ensures.found t) ∙ c.if-branch.false)

pub returns-clause-reads : goal.returns-clause-reads
returns-clause-reads g c t = made_reads areas.Defer c.args.name (g.H.Host.view c.args.host.now) (g.H.Host.view c.has.new.self) (g.H.Host.view c.create.new.self) (c.has.ensures.stays t) (inl (c.in_ok-create.ensures.ok t))

pub returns-clause-goes : goal.returns-clause-goes
returns-clause-goes g c t = made_goes areas.Defer c.args.name (g.H.Host.view c.args.host.now) (g.H.Host.view c.has.new.self) (g.H.Host.view c.create.new.self) (c.has.ensures.stays t) (inl (c.in_ok-create.ensures.ok t))
