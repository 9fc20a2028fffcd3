use Rattle.std.proofs.Common.{inl, inr, List, subst, ℕ}
use Rattle.std.proofs.lemmas.Result.{on_err_weaker, on_ok_weaker}
use Rattle.q_telling.specs.Telling.{TellsFront, TellsMore}
use Rattle.q_top.proofs.Told.{none_told, when_err}
use Rattle.q_top.proofs.loading.tell_summary.Goals as goal

pub returns-in_err-text-clause-front : goal.returns-in_err-text-clause-front
returns-in_err-text-clause-front g c =
    let host = c.args.host.now in
    when_err c.from_residual.result (λ t. inl (none_told (g.H.Host.view host) (g.met.H.Host.only_now host)))

pub returns-clause-told : goal.returns-clause-told
returns-clause-told g c = on_ok_weaker c.tell_text.result (λ told t. record {
  text = c.in_ok-text.text.items;
  is = c.in_ok-text.ensures;
  told = subst (λ (text : List ℕ). TellsMore text (g.H.Host.view c.args.host.now) (g.H.Host.view c.tell_text.new.host)) c.as_slice.ensures.value (told t);
}) c.tell_text.ensures.told

pub returns-clause-front : goal.returns-clause-front
returns-clause-front g c = on_err_weaker c.tell_text.result (λ front t. inr (record {
  text = c.in_ok-text.text.items;
  is = c.in_ok-text.ensures;
  told = subst (λ (text : List ℕ). TellsFront text (g.H.Host.view c.args.host.now) (g.H.Host.view c.tell_text.new.host)) c.as_slice.ensures.value (front t);
})) c.tell_text.ensures.front
