use Rattle.std.proofs.Common.{◌≡◌, ◌++◌, ◌∷◌, [], sym, subst, rules}
use Rattle.q_shape.specs.Counted.{AreNumbers}
use Rattle.q_shape.specs.Counts.{Count, of_domain}
use Rattle.std.specs.Prelude.{bytes_eq}
use Rattle.q_shape.proofs.CountLaws.{counted-one}
use Rattle.q_shape.proofs.RowLaws.{names-more, rows-more}
use Rattle.q_shape.proofs.age_table.AgeTable.add.Goals as goal

pub returns : goal.returns
returns c = λ o cs h fits.
    let t = c.args.self.now in
    let name = c.args.domain.now in
    let one : Count = (name, c.args.age, c.args.number) in
    let entries = c.in_ok-insert.ensures.entries in
    let mine = counted-one (λ (d : Count). bytes_eq d.0 name) cs one fits in
    let is : c.in_ok-to_vec.field-0.items ≡ name = search rules in
    record {
      options = h.options;
      shape = h.shape;
      all = subst (λ p. AreNumbers p c.with-self.result (cs ++ one ∷ [])) h.options (c.with-self.ensures name cs (subst (λ p. AreNumbers p t.all cs) (sym h.options) h.all) fits);
      names = names-more o cs one t.rows.entries c.insert.new.self.entries c.in_ok-to_vec.field-0 c.with-numbers.result is entries h.names;
      rows = rows-more o cs one t.rows.entries c.insert.new.self.entries c.in_ok-to_vec.field-0 c.with-numbers.result is entries h.rows
          (subst (λ p. AreNumbers p c.with-numbers.result (of_domain name cs ++ one ∷ [])) h.options (c.with-numbers.ensures name (of_domain name cs) (subst (λ p. AreNumbers p c.numbers_of-of_name.result (of_domain name cs)) (sym h.options) (subst (λ n. AreNumbers o n (of_domain name cs)) (search rules) (h.rows name))) mine));
    }
