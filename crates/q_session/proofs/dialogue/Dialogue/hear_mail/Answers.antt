use Rattle.std.proofs.Common.{refl, sym, ap, ◌≡◌, ◌∙◌, ℕ, List, map, replicate, arith, vec_len, length, ◌++◌, ◌∷◌, [], ◌+◌}
use Rattle.q_smtp.specs.Codes.{outcome_by}
use Rattle.q_smtp.specs.Dialogue.{Settled, ends}
use Rattle.q_session.specs.declared.dialogue.Awaited.TheVariants.{Answer}
use Rattle.q_session.specs.declared.dialogue.Command.TheVariants.{Mail}
use Rattle.q_session.specs.declared.dialogue.Next.TheVariants as next
use Rattle.q_session.proofs.Dialogues.{goes_at, goes_named, is_ready_at, mail_broken, mail_heard, mail_refused, none_yet, one_more_of}
use Rattle.std.specs.List.{list_all}
use Rattle.q_smtp.specs.Codes.{is_answer}
use Rattle.q_session.proofs.CodeLaws.{answer_last, refusal_answers, same_answers}
use Rattle.q_session.proofs.dialogue.Dialogue.hear_mail.Goals as goal

pub returns-then-is_done-clause-goes : goal.returns-then-is_done-clause-goes
returns-then-is_done-clause-goes c =
    let none = none_yet c.args.self.now c.requires.awaited c.requires.course.place in
    λ e all. goes_named e c.args.self.now c.args.self.now c.name_recipient.new.self c.args.code c.name_recipient.result
    (mail_heard e c.args.self.now c.args.code c.requires.awaited (sym c.is_done.ensures ∙ c.if-is_done.true) none.0 none.1)
    refl (is_ready_at c.args.self.now Mail c.requires.awaited) (c.name_recipient.ensures.named e all)

pub returns-then-not-is_refusal-clause-goes : goal.returns-then-not-is_refusal-clause-goes
returns-then-not-is_refusal-clause-goes c = λ e all. goes_at e c.args.self.now (Answer Mail) c.args.code next.Broken c.args.self.now c.requires.awaited
    (λ more. mail_broken e c.args.code more (sym c.is_done.ensures ∙ c.if-is_done.false) (sym c.is_refusal.ensures ∙ c.if-not-is_refusal.true)) tt refl (λ whole left h. tt)

pub loop-init : goal.loop-init
loop-init c =
    let none = none_yet c.args.self.now c.requires.awaited c.requires.course.place in
    record { awaited = refl; recipients = refl; items = none.1; count = none.0; room = c.requires.course.room }

pub loop-preserved : goal.loop-preserved
loop-preserved c =
    let i = c.loop.invariant in
    record {
      awaited = i.awaited;
      recipients = i.recipients;
      items = c.push_reserved.ensures.items ∙ ap (λ (xs : List ℕ). xs ++ c.args.code ∷ []) i.items ∙ one_more_of c.loop.counter c.args.code;
      count = c.push_reserved.ensures.len ∙ ap (λ (n : ℕ). n + 1) i.count;
      room = omega (arith, i.room, c.push_reserved.ensures.capacity);
    }

pub returns-clause-goes : goal.returns-clause-goes
returns-clause-goes c = λ e all. goes_at e c.args.self.now (Answer Mail) c.args.code (next.Settled c.args.code) c.loop.self c.requires.awaited
    (λ more. mail_refused e c.args.code more (sym c.is_done.ensures ∙ c.if-is_done.false) (sym c.is_refusal.ensures ∙ c.if-not-is_refusal.false)
    ∙ ap (λ (n : ℕ). ends (Settled (map (outcome_by c.args.code) (replicate n c.args.code)))) (let same : length e.to ≡ c.loop.counter = omega (arith, c.loop.auto.counter-end) in same)
    ∙ ap (λ (xs : List ℕ). ends (Settled (map (outcome_by c.args.code) xs))) (sym c.loop.invariant.items))
    (let full : vec_len c.loop.self.answers ≡ c.loop.self.recipients = omega (arith, c.loop.invariant.count, c.loop.invariant.recipients, c.loop.auto.counter-end) in full)
    c.loop.invariant.recipients (λ whole left h. tt)

pub returns-clause-codes : goal.returns-clause-codes
returns-clause-codes c =
    ap (list_all is_answer) c.loop.invariant.items ∙ same_answers c.loop.counter c.args.code (refusal_answers c.args.code (sym c.is_refusal.ensures ∙ c.if-not-is_refusal.false))

pub returns-clause-last : goal.returns-clause-last
returns-clause-last c = answer_last c.args.code (refusal_answers c.args.code (sym c.is_refusal.ensures ∙ c.if-not-is_refusal.false))
