use Rattle.std.proofs.Common.{◌≡◌, inl, inr, refl, subst, sym}
use Rattle.q_top.proofs.Asked.{asked_form}
use Rattle.q_top.specs.Qmgr.{texts_of, words_status}
use Rattle.q_words.specs.Requests.{IsRequest}
use Rattle.q_top.proofs.Named.{asked_too, words_named}
use Rattle.q_top.proofs.Readable.{words_readable, faultless_of, words_faultless}
use Rattle.q_top.proofs.command.qmgr.Goals as goal

pub carry_out-requires-clause-form : goal.carry_out-requires-clause-form
carry_out-requires-clause-form g c = asked_form (texts_of c.args.words.now) c.in-Ok.request c.in-Ok.ensures.1

pub returns-in-Ok-clause-unfinished : goal.returns-in-Ok-clause-unfinished
returns-in-Ok-clause-unfinished g c n is = (c.in-Ok.request, c.in-Ok.ensures.1, c.carry_out.ensures.unfinished n is)

pub returns-in-Ok-clause-few : goal.returns-in-Ok-clause-few
returns-in-Ok-clause-few g c n is = (c.in-Ok.request, c.in-Ok.ensures.1, c.carry_out.ensures.few n is)

pub returns-in-Err-clause-readable : goal.returns-in-Err-clause-readable
returns-in-Err-clause-readable g c t = rw c.words_status.ensures.exact (words_readable c.in-Err.error)

pub returns-in-Ok-clause-alone : goal.returns-in-Ok-clause-alone
returns-in-Ok-clause-alone g c usage = inr (record {
  request = c.in-Ok.request;
  asked = c.in-Ok.ensures.1;
  source = c.carry_out.ensures.source_stays;
  clock = c.carry_out.ensures.clock_stays;
  connections = c.carry_out.ensures.connections_stay;
  door = c.carry_out.ensures.door_stays;
})

pub returns-in-Err-clause-alone : goal.returns-in-Err-clause-alone
returns-in-Err-clause-alone g c usage = inl (refl, refl, refl, refl)

pub returns-in-Ok-clause-blames : goal.returns-in-Ok-clause-blames
returns-in-Ok-clause-blames g c of = (c.in-Ok.request, c.in-Ok.ensures.1, c.carry_out.ensures.blames of)

pub returns-in-Err-clause-blames : goal.returns-in-Err-clause-blames
returns-in-Err-clause-blames g c = rw c.words_status.ensures.exact (faultless_of (words_status c.in-Err.error) (words_faultless c.in-Err.error))

pub returns-in-Err-clause-named : goal.returns-in-Err-clause-named
returns-in-Err-clause-named g c = rw c.words_status.ensures.exact (words_named (IsRequest (texts_of c.args.words.now)) (g.S.Source.left c.args.source.now) c.in-Err.error)

pub returns-in-Ok-clause-named : goal.returns-in-Ok-clause-named
returns-in-Ok-clause-named g c =
    let words = texts_of c.args.words.now in
    asked_too (λ r. r ≡ c.in-Ok.request) (IsRequest words) (λ r is. subst (IsRequest words) (sym is) c.in-Ok.ensures.1) (g.S.Source.left c.args.source.now) c.carry_out.result c.carry_out.ensures.named
