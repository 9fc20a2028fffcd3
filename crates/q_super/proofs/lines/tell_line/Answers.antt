use Rattle.std.proofs.Common.{◌≤◌, ◌∙◌, ℕ, List, length, refl, subst, arith}
use Rattle.std.specs.Prelude.{IsErrOf}
use Rattle.q_host.specs.Calls.{Tells}
use Rattle.q_books.specs.HostStands.{TellsCrashes}
use Rattle.q_books.proofs.Results.{on_ok}
use Rattle.q_super.specs.Deeds.{line_of}
use Rattle.q_super.proofs.Telling.{as_it_was, line_halts, of_err, stands_still, tells_plays}
use Rattle.q_super.proofs.lines.tell_line.Goals as goal

pub returns-clause-ok : goal.returns-clause-ok
returns-clause-ok g c =
    let v = g.H.Host.view c.args.host.now in
    let w = g.H.Host.view c.tell.new.self in
    let line = line_of c.args.word.now c.args.id in
    let lawful : TellsCrashes v = (record { only = g.met.H.Host.only_now c.args.host.now; told = g.met.H.Host.told_stays c.args.host.now }) in
    on_ok c.tell.result (λ told t b h.
    tells_plays b line (length line) (omega arith) v w lawful
    (subst (λ (x : List ℕ). Tells x (length x) v w) (c.as_slice.ensures.value ∙ c.in-Ok.ensures) (told t)) h refl) c.tell.ensures.ok

pub returns-clause-err : goal.returns-clause-err
returns-clause-err g c error is t b h =
    let v = g.H.Host.view c.args.host.now in
    let w = g.H.Host.view c.tell.new.self in
    let line = line_of c.args.word.now c.args.id in
    let lawful : TellsCrashes v = (record { only = g.met.H.Host.only_now c.args.host.now; told = g.met.H.Host.told_stays c.args.host.now }) in
    line_halts b line error v w lawful h
    (subst (λ (x : List ℕ). (k : ℕ) × (k ≤ length x) × Tells x k v w) (c.as_slice.ensures.value ∙ c.in-Ok.ensures) (of_err c.tell.result error is c.tell.ensures.err t))
    (λ same. (c.tell.ensures.memory (subst (λ x. IsErrOf c.tell.result x) same is)).1 t)
    (λ same. c.tell.ensures.cause.no_disk (subst (λ x. IsErrOf c.tell.result x) same is))

pub returns-in_default-clause-err : goal.returns-in_default-clause-err
returns-in_default-clause-err g c error is t b h =
    let v = g.H.Host.view c.args.host.now in
    as_it_was b (line_of c.args.word.now c.args.id) error v v (record { only = g.met.H.Host.only_now c.args.host.now; told = g.met.H.Host.told_stays c.args.host.now }) (stands_still v) h
