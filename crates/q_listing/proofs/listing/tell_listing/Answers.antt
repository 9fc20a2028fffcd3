use Rattle.q_host.proofs.Stays.{stays_here}
use Rattle.std.proofs.Common.{List, ℕ, length, subst}
use Rattle.std.proofs.lemmas.Result.{on_err_weaker, on_ok_weaker}
use Rattle.std.specs.Prelude.{flat_map}
use Rattle.q_walk.specs.Listed.{all_queues, listed}
use Rattle.q_telling.specs.Telling.{TellsFront, TellsMore}
use Rattle.q_telling.proofs.TellingLaws.{front_more, front_none, front_on, only_none, only_on, tells_on}
use Rattle.q_listing.specs.Listings.{lines_in, listing, recipient_count, total_line}
use Rattle.q_listing.proofs.MessageLaws.{same_total}
use Rattle.q_listing.proofs.ToldLaws.{err_has, none_told}
use Rattle.q_listing.proofs.listing.tell_listing.Goals as goal

pub returns-in_err-walk-clause-front : goal.returns-in_err-walk-clause-front
returns-in_err-walk-clause-front g c =
    let host = c.args.host.now in
    let u = g.H.Host.view host in
    err_has c.from_residual.result (λ t b stands. front_none (listing u.files b) u u (none_told u (g.met.H.Host.only_now host)))

pub returns-in_err-totals-clause-front : goal.returns-in_err-totals-clause-front
returns-in_err-totals-clause-front g c =
    let u = g.H.Host.view c.args.host.now in
    let v = g.H.Host.view c.tell_messages.new.host in
    err_has c.from_residual-in_err-totals.result (λ t b stands.
    let ms = listed all_queues b in
    front_more (flat_map (lines_in u.files) ms) (total_line (length ms) (recipient_count ms)) u v
    (c.in_err-totals.ensures.front t b ms stands (c.in_ok-walk.ensures u.files b stands)))

pub returns-clause-told : goal.returns-clause-told
returns-clause-told g c =
    let u = g.H.Host.view c.args.host.now in
    let v = g.H.Host.view c.tell_messages.new.host in
    let w = g.H.Host.view c.tell_total.new.host in
    on_ok_weaker c.tell_total.result (λ total t b stands.
    let ms = listed all_queues b in
    let told = c.in_ok-totals.ensures.told t b ms stands (c.in_ok-walk.ensures u.files b stands) in
    tells_on (flat_map (lines_in u.files) ms) (total_line (length ms) (recipient_count ms)) u v w told.2
    (subst (λ (x : List ℕ). TellsMore x v w) (same_total c.in_ok-totals.totals.messages c.in_ok-totals.totals.recipients u.files b stands told.0 told.1) (total t))) c.tell_total.ensures.told

pub returns-clause-front : goal.returns-clause-front
returns-clause-front g c =
    let u = g.H.Host.view c.args.host.now in
    let v = g.H.Host.view c.tell_messages.new.host in
    let w = g.H.Host.view c.tell_total.new.host in
    on_err_weaker c.tell_total.result (λ part t b stands.
    let ms = listed all_queues b in
    let told = c.in_ok-totals.ensures.told t b ms stands (c.in_ok-walk.ensures u.files b stands) in
    front_on (flat_map (lines_in u.files) ms) (total_line (length ms) (recipient_count ms)) u v w told.2
    (subst (λ (x : List ℕ). TellsFront x v w) (same_total c.in_ok-totals.totals.messages c.in_ok-totals.totals.recipients u.files b stands told.0 told.1) (part t))) c.tell_total.ensures.front

pub returns-in_err-walk-clause-only : goal.returns-in_err-walk-clause-only
returns-in_err-walk-clause-only g c t =
    let u = g.H.Host.view c.args.host.now in
    only_none u u (g.met.H.Host.only_now c.args.host.now) (stays_here u)

pub returns-clause-only : goal.returns-clause-only
returns-clause-only g c t =
    only_on (g.H.Host.view c.args.host.now) (g.H.Host.view c.tell_messages.new.host) (g.H.Host.view c.tell_total.new.host) (c.tell_messages.ensures.only t) (c.tell_total.ensures.only t)
