use Rattle.std.proofs.Common.{◌≡◌, ◌∙◌, ap, arith, drop, subst, take, ℕ}
use Rattle.std.proofs.lemmas.Result.{on_err_weaker, on_ok_weaker}
use Rattle.q_model.specs.Values.{FileHead}
use Rattle.q_telling.specs.Telling.{TellsFront, TellsMore}
use Rattle.q_show.proofs.show.tell_content.Goals as goal

pub returns-clause-told : goal.returns-clause-told
returns-clause-told g c = on_ok_weaker c.tell_bytes.result (λ tell t near file here.
    let u = g.H.Host.view c.args.host.now in
    let z = g.H.Host.view c.tell_bytes.new.host in
    let at : c.head.inside.content_at ≡ c.args.head.now.content_at = ap (λ (h : FileHead). h.content_at) c.head.view_is in
    let size : c.from-size.result ≡ c.args.head.now.content_len = c.from-size.ensures ∙ ap (λ (h : FileHead). h.content_len) c.head.view_is in
    subst (λ (n : ℕ). TellsMore (take c.args.head.now.content_len (drop n file)) u z) at
    (subst (λ (n : ℕ). TellsMore (take n (drop c.head.inside.content_at file)) u z) size (tell t (omega (arith, near, at, size)) file here)))
    c.tell_bytes.ensures.told

pub returns-clause-front : goal.returns-clause-front
returns-clause-front g c = on_err_weaker c.tell_bytes.result (λ tell t near file here.
    let u = g.H.Host.view c.args.host.now in
    let z = g.H.Host.view c.tell_bytes.new.host in
    let at : c.head.inside.content_at ≡ c.args.head.now.content_at = ap (λ (h : FileHead). h.content_at) c.head.view_is in
    let size : c.from-size.result ≡ c.args.head.now.content_len = c.from-size.ensures ∙ ap (λ (h : FileHead). h.content_len) c.head.view_is in
    subst (λ (n : ℕ). TellsFront (take c.args.head.now.content_len (drop n file)) u z) at
    (subst (λ (n : ℕ). TellsFront (take n (drop c.head.inside.content_at file)) u z) size (tell t (omega (arith, near, at, size)) file here)))
    c.tell_bytes.ensures.front
