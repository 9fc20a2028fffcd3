use Rattle.std.proofs.Common.{◌∙◌, sym}
use Rattle.q_words.proofs.WordLaws.{named, some-words}
use Rattle.q_words.proofs.queues.queues_of.Goals as goal

pub returns : goal.returns
returns c = (λ i. record { incoming = c.names.ensures i; active = c.names-2.ensures i; deferred = c.names-3.ensures i; hold = c.names-4.ensures i })
    ∙ named c.args.words.now (some-words c.args.words.now (sym c.is_empty.ensures ∙ c.if-is_empty.false))
