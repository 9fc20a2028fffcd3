use Rattle.std.proofs.Common.{[], inr, List, subst, ℕ}
use Rattle.std.proofs.lemmas.Result.{on_err_weaker, on_ok_weaker}
use Rattle.q_telling.proofs.TellingLaws.{front_on, only_none, only_on, tells_none, tells_on}
use Rattle.q_telling.specs.Telling.{TellsFront, TellsMore}
use Rattle.q_ages.proofs.ages.tell_ages.Goals as goal

pub returns-clause-told : goal.returns-clause-told
returns-clause-told g c = on_ok_weaker c.tell_text.result (λ told t b stands.
    let u = g.H.Host.view c.args.host.now in
    let v = g.H.Host.view c.table_text.new.host in
    let x = g.H.Host.view c.tell_text.new.host in
    let none = tells_none u v (g.met.H.Host.only_now c.args.host.now) (c.in-Ok.ensures.stays t) in
    record {
      text = c.in-Ok.text;
      is = c.in-Ok.ensures.table t b stands;
      told = subst (λ (text : List ℕ). TellsMore text (g.H.Host.view c.args.host.now) (g.H.Host.view c.tell_text.new.host)) c.as_slice.ensures (tells_on [] c.as_slice.result.now u v x none (told t));
    })
    c.tell_text.ensures.told

pub returns-clause-front : goal.returns-clause-front
returns-clause-front g c = on_err_weaker c.tell_text.result (λ front t b stands.
    let u = g.H.Host.view c.args.host.now in
    let v = g.H.Host.view c.table_text.new.host in
    let x = g.H.Host.view c.tell_text.new.host in
    let none = tells_none u v (g.met.H.Host.only_now c.args.host.now) (c.in-Ok.ensures.stays t) in
    inr (record {
      text = c.in-Ok.text;
      is = c.in-Ok.ensures.table t b stands;
      told = subst (λ (text : List ℕ). TellsFront text (g.H.Host.view c.args.host.now) (g.H.Host.view c.tell_text.new.host)) c.as_slice.ensures (front_on [] c.as_slice.result.now u v x none (front t));
    }))
    c.tell_text.ensures.front

pub returns-in-Err-clause-only : goal.returns-in-Err-clause-only
returns-in-Err-clause-only g c t =
    only_none (g.H.Host.view c.args.host.now) (g.H.Host.view c.table_text.new.host) (g.met.H.Host.only_now c.args.host.now) (c.in-Err.ensures.stays t)

pub returns-clause-only : goal.returns-clause-only
returns-clause-only g c t =
    let u = g.H.Host.view c.args.host.now in
    let v = g.H.Host.view c.table_text.new.host in
    only_on u v (g.H.Host.view c.tell_text.new.host) (only_none u v (g.met.H.Host.only_now c.args.host.now) (c.in-Ok.ensures.stays t)) (c.tell_text.ensures.only t)
