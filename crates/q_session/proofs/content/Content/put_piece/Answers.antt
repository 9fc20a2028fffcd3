use Rattle.std.proofs.Common.{◌≡◌, ◌∙◌, arith, length, rules}
use Rattle.std.proofs.lemmas.List.{length-take-le}
use Rattle.q_session.proofs.ContentFills.{not_short, piece_fills}
use Rattle.q_session.proofs.content.Content.put_piece.Goals as goal

pub returns-then-not-branch-clause-short : goal.returns-then-not-branch-clause-short
returns-then-not-branch-clause-short g c =
    let here = c.args.self.now in
    let piece = c.read_whole.new.piece in
    let size : length piece ≡ c.min-count.result = c.in_ok-read_whole.ensures.length ∙ length-take-le c.min-count.result _ (search rules) in
    λ e tells mail stands placed. not_short _ mail here piece c.in_ok-read_whole.field-0 (stands tells) placed (omega (arith, size, c.min-count.ensures)) (c.in_ok-read_whole.ensures.read tells) c.if-not-branch.true

pub returns-clause-filled : goal.returns-clause-filled
returns-clause-filled g c =
    let here = c.args.self.now in
    let piece = c.read_whole.new.piece in
    let size : length piece ≡ c.min-count.result = c.in_ok-read_whole.ensures.length ∙ length-take-le c.min-count.result _ (search rules) in
    λ e tells mail stands placed. piece_fills _ mail here piece c.in_ok-read_whole.field-0 c.saturating_add-self.result c.min-count.result c.encode-self.result c.encode-self.new.self (stands tells) placed size (omega (arith, size, c.min-count.ensures)) (c.in_ok-read_whole.ensures.read tells) c.if-not-branch.false c.requires.busy c.saturating_add-self.ensures c.encode-self.ensures.line c.encode-self.ensures.bytes
