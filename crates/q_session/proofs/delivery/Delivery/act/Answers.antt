use Rattle.std.proofs.Common.{sym, true, ◌≡◌, ◌∙◌, subst, ℕ, ◌<◌}
use Rattle.q_session.proofs.Acting.{all_answered, follows_content, follows_said, is_broken, is_named, is_settled, some_to, sound_content, sound_said}
use Rattle.q_session.specs.Course.{Stands, command_line}
use Rattle.q_session.specs.Mails.{transaction_of}
use Rattle.q_session.specs.declared.dialogue.Command.{Command}
use Rattle.q_session.specs.declared.dialogue.Next.TheVariants as next
use Rattle.q_session.specs.Codes.{IsLast, is_last}
use Rattle.q_session.proofs.delivery.Delivery.act.Goals as goal

pub say-requires : goal.say-requires
say-requires c =
    let g = c.in-Say.ensures.goes (some_to c.args.self.now.to) (sym c.requires.sound.recipients) in
    record {
      place = λ place is. subst (λ (n : ℕ). place < n) (g.recipients ∙ c.requires.sound.recipients)
          (is_named place c.hear.new.self (subst (λ (x : Command). Stands (next.Say x) c.hear.new.self) is g.stands));
    }

pub returns-in-Say-clause-sound : goal.returns-in-Say-clause-sound
returns-in-Say-clause-sound c =
    let d = c.args.self.now in
    let g = c.in-Say.ensures.goes (some_to d.to) (sym c.requires.sound.recipients) in
    rw c.say.ensures (sound_said d (record { bytes = command_line d.sender d.to c.in-Say.command; gone = 0 }) c.in-Say.command c.hear.new.self c.requires.sound c.requires.sent g.stands g.recipients c.hear.ensures.codes)

pub returns-in-Say-clause-acts : goal.returns-in-Say-clause-acts
returns-in-Say-clause-acts c = λ tells mail t h.
    let g = c.in-Say.ensures.goes (transaction_of mail c.args.self.now.to) (sym c.requires.sound.recipients) in
    rw c.say.ensures (follows_said c.in-Say.command c.hear.new.self h c.requires.sent g)

pub returns-in-SendContent-clause-sound : goal.returns-in-SendContent-clause-sound
returns-in-SendContent-clause-sound c =
    let g = c.in-SendContent.ensures.goes (some_to c.args.self.now.to) (sym c.requires.sound.recipients) in
    rw c.begin.ensures (sound_content c.args.self.now c.hear.new.self c.requires.sound g.stands g.recipients c.hear.ensures.codes)

pub returns-in-SendContent-clause-acts : goal.returns-in-SendContent-clause-acts
returns-in-SendContent-clause-acts c = λ tells mail t h.
    let g = c.in-SendContent.ensures.goes (transaction_of mail c.args.self.now.to) (sym c.requires.sound.recipients) in
    rw c.begin.ensures (follows_content c.hear.new.self h c.requires.sent g)

pub returns-in-Settled-clause-settled : goal.returns-in-Settled-clause-settled
returns-in-Settled-clause-settled c = λ last is.
    let g = c.in-Settled.ensures.goes (some_to c.args.self.now.to) (sym c.requires.sound.recipients) in
    all_answered c.args.self.now c.hear.new.self g.stands g.recipients c.requires.sound.recipients

pub returns-in-Settled-clause-acts : goal.returns-in-Settled-clause-acts
returns-in-Settled-clause-acts c = λ tells mail t h.
    is_settled c.in-Settled.last c.hear.new.self h (c.in-Settled.ensures.goes (transaction_of mail c.args.self.now.to) (sym c.requires.sound.recipients))

pub returns-in-Broken-clause-acts : goal.returns-in-Broken-clause-acts
returns-in-Broken-clause-acts c = λ tells mail t h.
    is_broken c.hear.new.self h (c.in-Broken.ensures.goes (transaction_of mail c.args.self.now.to) (sym c.requires.sound.recipients))

pub returns-in-Settled-clause-codes : goal.returns-in-Settled-clause-codes
returns-in-Settled-clause-codes c = λ last is.
    let same : c.in-Settled.last ≡ last = cc in
    record {
      answers = c.hear.ensures.codes;
      last_is = subst (λ (n : ℕ). is_last n ≡ true) same (subst IsLast c.in-Settled.is c.hear.ensures.last);
    }
