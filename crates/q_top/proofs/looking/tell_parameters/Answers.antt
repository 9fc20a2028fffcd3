use Rattle.q_conf.specs.declared.error.ConfFile.TheVariants.{Parameters}
use Rattle.q_conf_texts.specs.Params.{params_text}
use Rattle.q_conf_texts.specs.Tellings.{params_bytes, params_said}
use Rattle.q_top.proofs.ConfLooks.{look_cause, look_readable, params_named, said_looks}
use Rattle.q_top.proofs.looking.tell_parameters.Goals as goal

pub returns-clause-tells : goal.returns-clause-tells
returns-clause-tells g c t = record { result = c.tell_params.result; is = c.look_status.ensures.exact; says = c.tell_params.ensures.told t }

pub returns-clause-serves : goal.returns-clause-serves
returns-clause-serves g c t b h orderly =
    let u = g.H.Host.view c.args.host.now in
    let v = g.H.Host.view c.tell_params.new.host in
    said_looks Parameters (params_said (params_bytes u)) (λ s. params_text (params_bytes u)) b u v h c.tell_params.result (c.tell_params.ensures.told t)

pub returns-clause-readable : goal.returns-clause-readable
returns-clause-readable g c = rw c.look_status.ensures.exact (look_readable c.tell_params.result)

pub returns-clause-named : goal.returns-clause-named
returns-clause-named g c text = rw c.look_status.ensures.exact (params_named (λ r. ⊥) text c.tell_params.result c.tell_params.ensures.named)

pub returns-clause-host : goal.returns-clause-host
returns-clause-host g c = rw c.look_status.ensures.exact (look_cause (g.H.Host.faults c.args.host.now) (g.H.Host.faults c.tell_params.new.host) c.tell_params.result c.tell_params.ensures.cause)
