use Rattle.std.proofs.Common.{subst, Bool, List, ℕ}
use Rattle.q_smtpd.proofs.Hearings.{content_ended, content_on}
use Rattle.q_smtpd.specs.Intakes.{comes}
use Rattle.q_smtpd.specs.Keeping.{HoldsContent, Took}
use Rattle.q_smtpd.specs.Places.{Envelope, contents}
use Rattle.q_smtpd.proofs.hearing.Hearing.hear.Goals as goal

pub returns-in-Contents : goal.returns-in-Contents
returns-in-Contents c = λ p holds.
    content_ended p c.args.byte c.args.self.now c.end_content.new.self c.take.new.self c.end_content.result holds c.in-Contents.is
    (subst (λ (w : Bool). (d : Envelope) (text line : List ℕ) → HoldsContent text line c.args.self.now.content → Took d (comes (contents d text line) c.args.byte) w c.take.new.self) c.if-branch.true c.in_ok-take.ensures)
    c.end_content.ensures

pub returns-in-Contents-2 : goal.returns-in-Contents-2
returns-in-Contents-2 c = λ p holds.
    content_on p c.args.byte c.args.self.now c.take.new.self holds c.in-Contents.is
    (subst (λ (w : Bool). (d : Envelope) (text line : List ℕ) → HoldsContent text line c.args.self.now.content → Took d (comes (contents d text line) c.args.byte) w c.take.new.self) c.if-branch.false c.in_ok-take.ensures)
