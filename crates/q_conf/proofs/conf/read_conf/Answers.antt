use Rattle.std.proofs.Common.{ap, ◌∙◌, codes}
use Rattle.q_conf.specs.Confs.{conf_bytes}
use Rattle.q_conf.proofs.ConfFiles.{conf_range, conf_read, params_fault, params_fault_of, said_by, second_bytes, table_fault, table_fault_of}
use Rattle.q_conf.proofs.conf.read_conf.Goals as goal

pub returns-in-Err-params-clause-fault : goal.returns-in-Err-params-clause-fault
returns-in-Err-params-clause-fault g c =
    let before = g.H.Host.view c.args.host.now in
    let first = c.as_slice.result.now in
    params_fault g.H.Host.tells before.files first c.in-Err-params.error c.in-Err-params.ensures.exact (λ t. c.as_slice.ensures.value ∙ c.in-Ok.ensures.bytes t ∙ ap (conf_bytes before.files) c.params_name.ensures)

pub returns-in-Ok-table-clause-exact : goal.returns-in-Ok-table-clause-exact
returns-in-Ok-table-clause-exact g c t =
    let before = g.H.Host.view c.args.host.now in
    let first = c.as_slice.result.now in
    let mid = g.H.Host.view c.read_file.new.host in
    let second = c.as_slice-2.result.now in
    conf_read before.files first second (record { params = c.in-Ok-params.params; table = c.in-Ok-table.table }) c.in-Ok-params.ensures.exact c.in-Ok-table.ensures.exact
    (c.as_slice.ensures.value ∙ c.in-Ok.ensures.bytes t ∙ ap (conf_bytes before.files) c.params_name.ensures) (c.as_slice-2.ensures.value ∙ second_bytes before mid c.in-Ok-read_file.bytes.items c.table_name.result (codes "transport") (c.in-Ok.ensures.stays t) c.table_name.ensures (c.in-Ok-read_file.ensures.bytes t))

pub returns-in-Ok-table-clause-range : goal.returns-in-Ok-table-clause-range
returns-in-Ok-table-clause-range g c = conf_range (record { params = c.in-Ok-params.params; table = c.in-Ok-table.table }) c.in-Ok-params.ensures.range

pub returns-clause-fault : goal.returns-clause-fault
returns-clause-fault g c =
    let before = g.H.Host.view c.args.host.now in
    let first = c.as_slice.result.now in
    let mid = g.H.Host.view c.read_file.new.host in
    let second = c.as_slice-2.result.now in
    table_fault g.H.Host.tells before.files first second c.in-Ok-params.params c.in-Err-table.error c.in-Err-table.ensures.exact c.in-Ok-params.ensures.exact
    (λ t. c.as_slice.ensures.value ∙ c.in-Ok.ensures.bytes t ∙ ap (conf_bytes before.files) c.params_name.ensures) (λ t. c.as_slice-2.ensures.value ∙ second_bytes before mid c.in-Ok-read_file.bytes.items c.table_name.result (codes "transport") (c.in-Ok.ensures.stays t) c.table_name.ensures (c.in-Ok-read_file.ensures.bytes t))

pub returns-in-Err-params-clause-some_fault : goal.returns-in-Err-params-clause-some_fault
returns-in-Err-params-clause-some_fault g c = params_fault_of c.as_slice.result.now c.in-Err-params.error c.in-Err-params.ensures.exact

pub returns-clause-some_fault : goal.returns-clause-some_fault
returns-clause-some_fault g c = table_fault_of c.as_slice.result.now c.as_slice-2.result.now c.in-Ok-params.params c.in-Err-table.error c.in-Err-table.ensures.exact c.in-Ok-params.ensures.exact

pub returns-in-Ok-table-clause-some : goal.returns-in-Ok-table-clause-some
returns-in-Ok-table-clause-some g c =
    said_by c.as_slice.result.now c.as_slice-2.result.now (record { params = c.in-Ok-params.params; table = c.in-Ok-table.table }) c.in-Ok-params.ensures.exact c.in-Ok-table.ensures.exact
