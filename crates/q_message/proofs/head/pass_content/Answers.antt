use Rattle.std.proofs.Common.{ℕ, ◌+◌, length, Ok, ap, arith, subst, sym, ◌∙◌, ◌≡◌, ◌≤◌, true}
use Rattle.q_model.specs.SpoolFiles.{Files}
use Rattle.q_message.specs.Fronts.{begins_record}
use Rattle.q_message.specs.Windows.{Shows}
use Rattle.q_message.proofs.WindowLaws.{content_found, moved_shows, same_spot, size_of_file}
use Rattle.q_message.proofs.head.pass_content.Goals as goal

pub returns-clause-reads : goal.returns-clause-reads
returns-clause-reads g c t file here shows =
    let there = same_spot (g.H.Host.view c.fill.new.host).files _ c.args.spot file c.spot.view_is (ap (λ (f : Files). f c.args.spot.area c.args.spot.name) (c.fill.ensures.stays t).files ∙ here) in
    let size : c.in_ok-size.size ≡ length file = size_of_file _ file c.in_ok-size.size (c.in_ok-size.ensures.size t) there in
    let begins : begins_record 78 c.args.content c.fill.new.self.bytes ≡ true = cc in
    let moved : c.skip.new.self.at ≡ c.fill.new.self.at + (5 + c.args.content) = c.skip.ensures.at (omega arith) in
    let same : c.fill.new.self.at ≡ c.args.window.now.at = c.fill.ensures.at in
    let within : c.args.window.now.at + 5 + c.args.content ≤ length file = omega arith in
    let next : c.args.window.now.at + 5 + c.args.content ≡ c.skip.new.self.at = omega arith in
    content_found c.args.content c.args.window.now.at file c.fill.new.self.bytes (c.in_ok-fill.ensures.front t file here shows) begins within ∙ ap (λ (n : ℕ). Ok n) next

pub returns-clause-shows : goal.returns-clause-shows
returns-clause-shows g c t file here shows = subst (Shows file) (sym (c.skip.ensures.moved (omega arith))) (moved_shows _ file _ (c.in_ok-fill.ensures.shows t file here shows))
