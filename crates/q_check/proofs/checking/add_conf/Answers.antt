use Rattle.std.proofs.Common.{◌++◌, ◌∙◌, List, ap, ℕ}
use Rattle.std.specs.Prelude.{flat_map, slice_get}
use Rattle.q_conf.specs.Confs.{conf_bytes}
use Rattle.q_check.specs.Checks.{bad_line}
use Rattle.q_check.specs.Faults.{fault_in, faults}
use Rattle.q_check.proofs.FaultLaws.{first_fault}
use Rattle.q_check.proofs.checking.add_conf.Goals as goal

pub returns-clause-added : goal.returns-clause-added
returns-clause-added g c t =
    let files = (g.H.Host.view c.args.host.now).files in
    c.in_ok-add_bad_lines.ensures
    ∙ ap (λ (ns : List ℕ). c.args.text.now.items ++ flat_map (bad_line c.args.file) ns)
    (c.as_slice-2.ensures.value ∙ c.in_ok-lines.ensures ∙ ap (faults c.args.file 100) (c.as_slice.ensures.value ∙ c.in_ok-bytes.ensures.bytes t ∙ ap (conf_bytes files) c.file_name.ensures))

pub returns-clause-some : goal.returns-clause-some
returns-clause-some g c =
    (c.as_slice.result.now, c.first_of.ensures ∙ ap (λ (ns : List ℕ). slice_get ns 0) (c.as_slice-3.ensures.value ∙ c.in_ok-lines.ensures) ∙ first_fault c.args.file c.as_slice.result.now)

pub returns-clause-first : goal.returns-clause-first
returns-clause-first g c t =
    let files = (g.H.Host.view c.args.host.now).files in
    c.first_of.ensures ∙ ap (λ (ns : List ℕ). slice_get ns 0) (c.as_slice-3.ensures.value ∙ c.in_ok-lines.ensures) ∙ first_fault c.args.file c.as_slice.result.now
    ∙ ap (fault_in c.args.file) (c.as_slice.ensures.value ∙ c.in_ok-bytes.ensures.bytes t ∙ ap (conf_bytes files) c.file_name.ensures)
