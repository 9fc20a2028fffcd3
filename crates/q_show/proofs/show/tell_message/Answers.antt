use Rattle.std.proofs.Common.{◌∙◌, [], ap, List, subst, ℕ}
use Rattle.q_listing.proofs.RecipientLaws.{found_still}
use Rattle.q_listing.proofs.ToldLaws.{err_has}
use Rattle.q_model.specs.SpoolFiles.{Files}
use Rattle.q_show.specs.declared.finding.Sought.TheVariants as sought
use Rattle.q_show.specs.Finding.{IsSought}
use Rattle.q_show.specs.Shown.{bytes_text, message_text, shown_text}
use Rattle.q_telling.specs.Telling.{TellsFront, TellsMore}
use Rattle.q_telling.proofs.TellingLaws.{front_none, front_on, only_none, only_on, tells_none, tells_on}
use Rattle.q_show.proofs.BookTexts.{damage_there, text_damaged, text_found}
use Rattle.q_show.proofs.show.tell_message.Goals as goal

pub returns-in-Err-clause-front : goal.returns-in-Err-clause-front
returns-in-Err-clause-front g c t b stands =
    let u = g.H.Host.view c.args.host.now in
    front_none (shown_text u.files b c.args.id) u (g.H.Host.view c.find.new.host) (tells_none u (g.H.Host.view c.find.new.host) (g.met.H.Host.only_now c.args.host.now) (c.in-Err.ensures.stays t))

pub returns-in-Err-clause-only : goal.returns-in-Err-clause-only
returns-in-Err-clause-only g c t =
    only_none (g.H.Host.view c.args.host.now) (g.H.Host.view c.find.new.host) (g.met.H.Host.only_now c.args.host.now) (c.in-Err.ensures.stays t)

pub returns-in-Nothing-clause-only : goal.returns-in-Nothing-clause-only
returns-in-Nothing-clause-only g c t =
    only_none (g.H.Host.view c.args.host.now) (g.H.Host.view c.find.new.host) (g.met.H.Host.only_now c.args.host.now) (c.in-Ok.ensures.stays t)

pub returns-in_err-tell_found-in-Message-clause-only : goal.returns-in_err-tell_found-in-Message-clause-only
returns-in_err-tell_found-in-Message-clause-only g c t =
    let u = g.H.Host.view c.args.host.now in
    let v = g.H.Host.view c.find.new.host in
    only_on u v (g.H.Host.view c.tell_found.new.host) (only_none u v (g.met.H.Host.only_now c.args.host.now) (c.in-Ok.ensures.stays t)) (c.in_err-tell_found-in-Message.ensures.only t)

pub returns-in_ok-tell_found-in-Message-clause-only : goal.returns-in_ok-tell_found-in-Message-clause-only
returns-in_ok-tell_found-in-Message-clause-only g c t =
    let u = g.H.Host.view c.args.host.now in
    let v = g.H.Host.view c.find.new.host in
    only_on u v (g.H.Host.view c.tell_found.new.host) (only_none u v (g.met.H.Host.only_now c.args.host.now) (c.in-Ok.ensures.stays t)) (c.in_ok-tell_found-in-Message.ensures.only t)

pub returns-in_err-tell_damaged-in-Damaged-clause-only : goal.returns-in_err-tell_damaged-in-Damaged-clause-only
returns-in_err-tell_damaged-in-Damaged-clause-only g c t =
    let u = g.H.Host.view c.args.host.now in
    let v = g.H.Host.view c.find.new.host in
    only_on u v (g.H.Host.view c.tell_damaged.new.host) (only_none u v (g.met.H.Host.only_now c.args.host.now) (c.in-Ok.ensures.stays t)) (c.in_err-tell_damaged-in-Damaged.ensures.only t)

pub returns-in_ok-tell_damaged-in-Damaged-clause-only : goal.returns-in_ok-tell_damaged-in-Damaged-clause-only
returns-in_ok-tell_damaged-in-Damaged-clause-only g c t =
    let u = g.H.Host.view c.args.host.now in
    let v = g.H.Host.view c.find.new.host in
    only_on u v (g.H.Host.view c.tell_damaged.new.host) (only_none u v (g.met.H.Host.only_now c.args.host.now) (c.in-Ok.ensures.stays t)) (c.in_ok-tell_damaged-in-Damaged.ensures.only t)

pub returns-in_ok-tell_found-in-Message-clause-told : goal.returns-in_ok-tell_found-in-Message-clause-told
returns-in_ok-tell_found-in-Message-clause-told g c t b stands =
    let u = g.H.Host.view c.args.host.now in
    let v = g.H.Host.view c.find.new.host in
    let z = g.H.Host.view c.tell_found.new.host in
    let found = c.in-Message.found in
    let same = (c.in-Ok.ensures.stays t).files in
    let s : IsSought u.files b c.args.id (sought.Message found) = subst (IsSought u.files b c.args.id) c.in-Message.is (c.in-Ok.ensures.sought t b stands) in
    let quiet = tells_none u v (g.met.H.Host.only_now c.args.host.now) (c.in-Ok.ensures.stays t) in
    let part = subst (λ (f : Files). TellsMore (message_text f s.0) v z) same (c.in_ok-tell_found-in-Message.ensures.told t s.0 (found_still u.files v.files s.0 found same s.2)) in
    subst (λ (x : List ℕ). TellsMore x u z) (text_found u.files b c.args.id found s) (tells_on [] (message_text u.files s.0) u v z quiet part)

pub returns-in_err-tell_found-in-Message-clause-front : goal.returns-in_err-tell_found-in-Message-clause-front
returns-in_err-tell_found-in-Message-clause-front g c =
    let u = g.H.Host.view c.args.host.now in
    let v = g.H.Host.view c.find.new.host in
    let z = g.H.Host.view c.tell_found.new.host in
    err_has c.from_residual.result (λ t b stands.
    let found = c.in-Message.found in
    let same = (c.in-Ok.ensures.stays t).files in
    let s : IsSought u.files b c.args.id (sought.Message found) = subst (IsSought u.files b c.args.id) c.in-Message.is (c.in-Ok.ensures.sought t b stands) in
    let quiet = tells_none u v (g.met.H.Host.only_now c.args.host.now) (c.in-Ok.ensures.stays t) in
    let part = subst (λ (f : Files). TellsFront (message_text f s.0) v z) same (c.in_err-tell_found-in-Message.ensures.front t s.0 (found_still u.files v.files s.0 found same s.2)) in
    subst (λ (x : List ℕ). TellsFront x u z) (text_found u.files b c.args.id found s) (front_on [] (message_text u.files s.0) u v z quiet part))

pub returns-in_ok-tell_damaged-in-Damaged-clause-told : goal.returns-in_ok-tell_damaged-in-Damaged-clause-told
returns-in_ok-tell_damaged-in-Damaged-clause-told g c t b stands =
    let u = g.H.Host.view c.args.host.now in
    let v = g.H.Host.view c.find.new.host in
    let z = g.H.Host.view c.tell_damaged.new.host in
    let damage = c.in-Damaged.damage in
    let same = (c.in-Ok.ensures.stays t).files in
    let s : IsSought u.files b c.args.id (sought.Damaged damage) = subst (IsSought u.files b c.args.id) c.in-Damaged.is (c.in-Ok.ensures.sought t b stands) in
    let quiet = tells_none u v (g.met.H.Host.only_now c.args.host.now) (c.in-Ok.ensures.stays t) in
    let there = ap (λ (f : Files). f damage.spot.area damage.spot.name) same ∙ damage_there u.files b c.args.id damage s in
    let part = c.in_ok-tell_damaged-in-Damaged.ensures.told t s.2 there s.5.fault in
    subst (λ (x : List ℕ). TellsMore x u z) (text_damaged u.files b c.args.id damage s) (tells_on [] (bytes_text damage.place damage.id s.2) u v z quiet part)

pub returns-in_err-tell_damaged-in-Damaged-clause-front : goal.returns-in_err-tell_damaged-in-Damaged-clause-front
returns-in_err-tell_damaged-in-Damaged-clause-front g c =
    let u = g.H.Host.view c.args.host.now in
    let v = g.H.Host.view c.find.new.host in
    let z = g.H.Host.view c.tell_damaged.new.host in
    err_has c.from_residual-in_err-tell_damaged-in-Damaged.result (λ t b stands.
    let damage = c.in-Damaged.damage in
    let same = (c.in-Ok.ensures.stays t).files in
    let s : IsSought u.files b c.args.id (sought.Damaged damage) = subst (IsSought u.files b c.args.id) c.in-Damaged.is (c.in-Ok.ensures.sought t b stands) in
    let quiet = tells_none u v (g.met.H.Host.only_now c.args.host.now) (c.in-Ok.ensures.stays t) in
    let there = ap (λ (f : Files). f damage.spot.area damage.spot.name) same ∙ damage_there u.files b c.args.id damage s in
    let part = c.in_err-tell_damaged-in-Damaged.ensures.front t s.2 there s.5.fault in
    subst (λ (x : List ℕ). TellsFront x u z) (text_damaged u.files b c.args.id damage s) (front_on [] (bytes_text damage.place damage.id s.2) u v z quiet part))
