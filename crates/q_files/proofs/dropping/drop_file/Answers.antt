use Rattle.std.proofs.Common.{inl}
use Rattle.q_books.proofs.Results.{on_ok}
use Rattle.q_files.proofs.Drops.{may_remove_on, removed_now}
use Rattle.q_files.proofs.Outcomes.{either}
use Rattle.q_files.proofs.dropping.drop_file.Goals as goal

pub returns-then-branch-clause-gone : goal.returns-then-branch-clause-gone
returns-then-branch-clause-gone g c = on_ok c.remove.result (λ d t. removed_now c.args.area c.args.name (g.H.Host.view c.has.new.self) (g.H.Host.view c.remove.new.self) (d t)) c.remove.ensures.ok

pub returns-then-branch-clause-change : goal.returns-then-branch-clause-change
returns-then-branch-clause-change g c t =
    let u = g.H.Host.view c.args.host.now in
    let on = may_remove_on c.args.area c.args.name u (g.H.Host.view c.has.new.self) (g.H.Host.view c.remove.new.self) (g.met.H.Host.counts_now c.args.host.now) (c.has.ensures.stays t) in
    either c.remove.result (λ d. on (inl (d t))) (λ d. on (d t)) c.remove.ensures.ok c.remove.ensures.err
