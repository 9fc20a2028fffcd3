use Rattle.std.proofs.Common.{arith, ap, subst, sym, ◌∙◌}
use Rattle.q_message.specs.Readings.{start_from}
use Rattle.q_message.specs.Windows.{Shows}
use Rattle.q_message.proofs.WindowLaws.{moved_shows, start_found}
use Rattle.q_message.proofs.head.read_start.Goals as goal

pub returns-in-Ok-clause-reads : goal.returns-in-Ok-clause-reads
returns-in-Ok-clause-reads g c t file here shows =
    start_found c.args.window.now.at file c.fill.new.self.bytes c.start_in.result c.requires.front (c.in_ok-fill.ensures.front t file here shows) (c.start_in.ensures ∙ ap start_from c.bytes.ensures) ∙ c.in-Ok.is

pub returns-in-Ok-clause-shows : goal.returns-in-Ok-clause-shows
returns-in-Ok-clause-shows g c t file here shows = subst (Shows file) (sym (c.skip.ensures.moved (omega arith))) (moved_shows _ file _ (c.in_ok-fill.ensures.shows t file here shows))

pub returns-in-Err-clause-reads : goal.returns-in-Err-clause-reads
returns-in-Err-clause-reads g c t file here shows =
    start_found c.args.window.now.at file c.fill.new.self.bytes c.start_in.result c.requires.front (c.in_ok-fill.ensures.front t file here shows) (c.start_in.ensures ∙ ap start_from c.bytes.ensures) ∙ c.in-Err.is
