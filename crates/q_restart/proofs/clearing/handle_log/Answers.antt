use Rattle.std.proofs.Common.{◌≡◌, ◌∙◌, ap, false, is_some, None, sym, true}
use Rattle.q_books.proofs.Results.{on_ok}
use Rattle.q_model.specs.SpoolFiles.{Files}
use Rattle.q_host.specs.Files.{without_file}
use Rattle.q_host.proofs.Puts.{put-here}
use Rattle.q_restart.specs.Clearings.{DropsStrays}
use Rattle.q_restart.specs.Places.{is_placed}
use Rattle.q_restart.proofs.Clears.{by-may, done_or, drops-here, drops-remove, handled-gone, handled-kept, others-remove}
use Rattle.q_restart.proofs.clearing.handle_log.Goals as goal

pub returns-then-is_some-clause-handled : goal.returns-then-is_some-clause-handled
returns-then-is_some-clause-handled g c =
    let keeps = is_placed c.args.places.now in
    let kept : keeps c.in-Some.id ≡ true = sym (c.is_some.ensures ∙ ap is_some c.place_of.ensures) ∙ c.if-is_some.true in
    on_ok c.keep_log.result (λ settled t. handled-kept keeps c.args.area c.args.name c.in-Some.id (g.H.Host.view c.keep_log.new.host) c.in-Some.ensures.some.0 c.in-Some.ensures.some.1 kept (settled t)) c.keep_log.ensures.settled

pub returns-then-is_some-clause-goes : goal.returns-then-is_some-clause-goes
returns-then-is_some-clause-goes g c = c.keep_log.ensures.goes (is_placed c.args.places.now)

pub returns-clause-handled : goal.returns-clause-handled
returns-clause-handled g c =
    let keeps = is_placed c.args.places.now in
    let view = g.H.Host.view in
    let gone : keeps c.in-Some.id ≡ false = sym (c.is_some.ensures ∙ ap is_some c.place_of.ensures) ∙ c.if-is_some.false in
    on_ok c.remove.result (λ ok t. handled-gone keeps c.args.area c.args.name c.in-Some.id (view c.remove.new.self) c.in-Some.ensures.some.0 c.in-Some.ensures.some.1 gone
    (ap (λ (f : Files). f c.args.area c.args.name) (ok t).files ∙ put-here (view c.args.host.now).files c.args.area c.args.name None)) c.remove.ensures.ok

pub returns-clause-others : goal.returns-clause-others
returns-clause-others g c t = others-remove c.args.area c.args.name (g.H.Host.view c.args.host.now) (g.H.Host.view c.remove.new.self) (done_or c.remove.result c.remove.ensures.ok c.remove.ensures.err t)

pub returns-clause-goes : goal.returns-clause-goes
returns-clause-goes g c t =
    let keeps = is_placed c.args.places.now in
    let gone : keeps c.in-Some.id ≡ false = sym (c.is_some.ensures ∙ ap is_some c.place_of.ensures) ∙ c.if-is_some.false in
    by-may (DropsStrays keeps) (drops-here keeps) (λ (f : Files). without_file f c.args.area c.args.name)
    (drops-remove keeps c.args.area c.args.name (record { area_is = c.requires.logs; id = c.in-Some.id; form = c.in-Some.ensures.some.0; name_is = c.in-Some.ensures.some.1; gone = gone }))
    (g.H.Host.view c.args.host.now) (g.H.Host.view c.remove.new.self) (done_or c.remove.result c.remove.ensures.ok c.remove.ensures.err t)
