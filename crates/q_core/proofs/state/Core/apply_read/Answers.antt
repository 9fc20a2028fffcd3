use Rattle.std.proofs.Common.{◌≡◌, ◌≤◌, ◌∙◌, ap, false, length, sym, subst, true}
use Rattle.q_core.specs.Held.{is_admitted_in}
use Rattle.q_model.specs.Step.{after}
use Rattle.q_core.proofs.GoneLaws.{loaded_there}
use Rattle.q_core.proofs.LoadLaws.{load_law, rows_are}
use Rattle.q_core.proofs.LoadRooms.{load_fits}
use Rattle.q_core.proofs.ProcessLaws.{processes_few}
use Rattle.q_core.specs.Loading.{fit_in, HasLoaded}
use Rattle.q_core.specs.Rooms.{most_flights}
use Rattle.q_core.specs.declared.state.Question.TheVariants.{Recipients}
use Rattle.q_core.specs.State.{State}
use Rattle.q_core.proofs.state.Core.apply_read.Goals as goal

pub returns-then-not-has_slot-clause-exact : goal.returns-then-not-has_slot-clause-exact
returns-then-not-has_slot-clause-exact c = λ w l a id from max asks may reads.
    let both : Recipients c.in-Recipients.id c.in-Recipients.from c.in-Recipients.max ≡ Recipients id from max = sym c.in-Recipients.is ∙ ap (λ (s : State). s.question) c.self.view_is ∙ asks in
    let same : c.in-Recipients.id ≡ id = cc in
    let there = loaded_there a.matches.parts id from c.args.to may in
    let bad : true ≡ false = sym (c.has_slot.ensures ∙ ap (is_admitted_in c.args.self.now) same ∙ there) ∙ c.if-not-has_slot.true in
    absurd cc

pub returns-clause-exact : goal.returns-clause-exact
unfolding after
returns-clause-exact c = λ w l a id from max asks may reads.
    let both : Recipients c.in-Recipients.id c.in-Recipients.from c.in-Recipients.max ≡ Recipients id from max = sym c.in-Recipients.is ∙ ap (λ (s : State). s.question) c.self.view_is ∙ asks in
    let same : c.in-Recipients.id ≡ id = cc in
    let old = c.args.self.now in
    let ts = c.args.taken.now.items in
    let m = reads.message in
    let few : length old.flights ≤ most_flights old.params old.transports =
    subst (λ (s : State). length s.flights ≤ most_flights s.params s.transports) c.self.view_is (processes_few c.self.inside.params c.self.inside.transports c.self.inside.flights c.self.invariant.6.deliveries) in
    let fit = load_fits a few id from c.args.to m reads.there may in
    let rows = rows_are a.matches.parts id from c.args.to m ts reads.there reads.positions reads.sites in
    let load : HasLoaded old c.load.new.self id c.args.to ts = subst (λ i. HasLoaded old c.load.new.self i c.args.to ts) same c.load.ensures.exact in
    load_law a c.requires.seen id from c.args.to m ts reads.there may reads.positions reads.sites
    (λ rs is. load rs is (subst (λ xs. fit_in old id xs ≡ true) (rows ∙ sym is) fit))
    c.tidy.ensures
