use Rattle.std.proofs.Common.{subst, List, ℕ}
use Rattle.std.proofs.lemmas.Result.{err_from_is_err_and}
use Rattle.q_conf.specs.declared.error.ConfFile.TheVariants as files
use Rattle.q_conf_texts.specs.Params.{params_text}
use Rattle.q_conf_texts.specs.Tellings.{params_bytes, params_said}
use Rattle.q_conf_texts.proofs.EndLaws.{all_told, front_told, params_from}
use Rattle.q_telling.specs.Telling.{TellsFront, TellsMore}
use Rattle.q_telling.proofs.TellingLaws.{tells_none}
use Rattle.q_conf_texts.proofs.telling.tell_params.Goals as goal

pub returns-in_err-tell_text-clause-told : goal.returns-in_err-tell_text-clause-told
returns-in_err-tell_text-clause-told g c t =
    let u = g.H.Host.view c.args.host.now in
    let v = g.H.Host.view c.read_file.new.host in
    let w = g.H.Host.view c.tell_text.new.host in
    let facts = params_from u _ _ _ _ _ _ _ c.params_name.ensures (c.in_ok-bytes.ensures.bytes t) c.as_slice.ensures.value c.in_default.ensures.exact c.as_slice-2.ensures.value c.in_ok-text.ensures c.as_slice-3.ensures.value in
    let front = subst (λ (x : List ℕ). TellsFront x v w) facts.1 (c.in_err-tell_text.ensures.front t) in
    let p = err_from_is_err_and c.from_residual-in_err-tell_text.result c.from_residual-in_err-tell_text.ensures.1 in
    rw (p.1, p.2) (front_told files.Parameters (params_said (params_bytes u)) (λ s. params_text (params_bytes u)) u v w c.in_default.field-0 facts.0
    (tells_none u v (g.met.H.Host.only_now c.args.host.now) (c.in_ok-bytes.ensures.stays t)) _ front)

pub returns-clause-told : goal.returns-clause-told
returns-clause-told g c t =
    let u = g.H.Host.view c.args.host.now in
    let v = g.H.Host.view c.read_file.new.host in
    let w = g.H.Host.view c.tell_text.new.host in
    let facts = params_from u _ _ _ _ _ _ _ c.params_name.ensures (c.in_ok-bytes.ensures.bytes t) c.as_slice.ensures.value c.in_default.ensures.exact c.as_slice-2.ensures.value c.in_ok-text.ensures c.as_slice-3.ensures.value in
    all_told files.Parameters (params_said (params_bytes u)) (λ s. params_text (params_bytes u)) u v w c.in_default.field-0 facts.0
    (tells_none u v (g.met.H.Host.only_now c.args.host.now) (c.in_ok-bytes.ensures.stays t)) (subst (λ (x : List ℕ). TellsMore x v w) facts.1 (c.in_ok-tell_text.ensures.told t))
