use Rattle.std.proofs.Common.{◌≡◌, ◌∙◌, ◌++◌, List, ap, length, subst, sym}
use Rattle.std.proofs.lemmas.List.{length-map}
use Rattle.q_model.specs.Values.{Site, Taken}
use Rattle.q_transport.specs.Routing.{table_of}
use Rattle.q_core.specs.Agrees.{Agrees}
use Rattle.q_core.specs.Loading.{ReadsAre}
use Rattle.q_core.specs.declared.state.Core.{Core}
use Rattle.q_engine.specs.declared.engine.Engine.{Engine}
use Rattle.q_engine.specs.Loads.{sites_of}
use Rattle.q_engine.proofs.CarriedLoads.{named_agrees}
use Rattle.q_engine.proofs.engine.Engine.take_in.Goals as goal

pub returns-clause-exact : goal.returns-clause-exact
returns-clause-exact c = λ w l a id from max asks following reads.
    let old = c.args.self.now.core.value in
    let sites = sites_of c.args.self.now c.args.taken.now.items in
    let is : c.name_sites.new.self.core.value ≡ record old { named = sites } =
    ap (λ (e : Engine). e.core.value) c.name_sites.ensures ∙ ap (λ (xs : List Site). record old { named = xs ++ sites }) c.requires.named in
    let lent : c.deref_mut.result.now ≡ record old { named = sites } = c.deref_mut.ensures.value ∙ is in
    c.loaded.ensures.exact w l (subst (λ (k : Core). Agrees w k l) (sym lent) (named_agrees w old l sites a)) id from max (ap (λ (k : Core). k.question) lent ∙ asks) following
    (subst (λ (k : Core). ReadsAre w l k.named id from c.args.next.position c.args.taken.now.items) (sym lent) reads)

pub loaded-requires-clause-sited : goal.loaded-requires-clause-sited
loaded-requires-clause-sited c =
    let old = c.args.self.now.core.value in
    let sites = sites_of c.args.self.now c.args.taken.now.items in
    let is : c.name_sites.new.self.core.value ≡ record old { named = sites } =
    ap (λ (e : Engine). e.core.value) c.name_sites.ensures ∙ ap (λ (xs : List Site). record old { named = xs ++ sites }) c.requires.named in
    let lent : c.deref_mut.result.now ≡ record old { named = sites } = c.deref_mut.ensures.value ∙ is in
    sym (ap (λ (k : Core). length k.named) lent ∙ length-map c.args.taken.now.items (λ (t : Taken). (table_of c.args.self.now.table).route t.address))

pub returns-clause-timed : goal.returns-clause-timed
returns-clause-timed c =
    c.loaded.ensures.timed ∙ ap (λ (k : Core). k.timed) c.deref_mut.ensures.value ∙ ap (λ (e : Engine). e.core.value.timed) c.name_sites.ensures
