use Rattle.std.proofs.Common.{◌∙◌, ap, sym, subst, arith, refl}
use Rattle.q_host.specs.NamesLeft.{names_left}
use Rattle.q_host.specs.Reads.{Rise}
use Rattle.q_host.proofs.NamesLeft.{fewer_left}
use Rattle.q_scan.specs.Walks.{Walk}
use Rattle.q_scan.proofs.WalkLaws.{drop_step, rise_step, within_buffer}
use Rattle.q_scan.proofs.scan.Scan.step.Goals as goal

pub overflow_add-self : goal.overflow_add-self
overflow_add-self c = omega (arith, within_buffer c.self.inside.names c.self.inside.next c.get-name.result c.get-name.ensures, c.self.invariant.1)

pub invariant_of-self : goal.invariant_of-self
invariant_of-self c = (within_buffer c.self.inside.names c.self.inside.next c.get-name.result c.get-name.ensures, c.self.invariant.1, rise_step c.self.inside.place c.self.inside.names c.self.inside.next c.get-name.result c.get-name.ensures c.self.invariant.2)

pub returns-clause-stepped : goal.returns-clause-stepped
returns-clause-stepped c = record {
  name = c.get-name.result;
  area = ap (λ (w : Walk). w.area) c.self.view_is;
  place = refl;
  ahead = sym (ap (λ (w : Walk). w.ahead) c.self.view_is) ∙ drop_step c.self.inside.names c.self.inside.next c.get-name.result c.get-name.ensures;
}

pub returns-clause-fewer : goal.returns-clause-fewer
returns-clause-fewer c =
    let rise = subst (Rise c.self.inside.place) (drop_step c.self.inside.names c.self.inside.next c.get-name.result c.get-name.ensures) c.self.invariant.2 in
    omega (arith, fewer_left c.self.inside.place c.get-name.result c.bytes.ensures.form rise.0, ap (λ (w : Walk). names_left w.place) c.self.view_is)
