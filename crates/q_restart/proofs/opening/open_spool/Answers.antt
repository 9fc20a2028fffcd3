use Rattle.std.proofs.Common.{is_some, ◌≡◌, ◌∙◌, ◌+◌, ◌<◌, ◌^◌, ap, subst, sym, ℕ}
use Rattle.q_model.specs.declared.spot.Area.TheVariants as areas
use Rattle.q_model.specs.IdTexts.{hex}
use Rattle.q_model.specs.SpoolFiles.{Files}
use Rattle.q_books.proofs.Calls.{tried}
use Rattle.q_host.specs.Calls.{Changes}
use Rattle.q_host.specs.View.{now}
use Rattle.q_restart.specs.Openings.{begun}
use Rattle.q_restart.specs.Places.{is_placed}
use Rattle.q_restart.specs.Raises.{MayRaise, raised}
use Rattle.q_restart.proofs.Begun.{begun-opens, begun-tries, cleared-tries}
use Rattle.q_restart.proofs.Opened.{boot-same}
use Rattle.q_restart.proofs.Seen.{boot-file, boot-is, no_boot, sees}
use Rattle.q_restart.proofs.SoundBooks.{none-refused}
use Rattle.q_restart.proofs.OneSight.{accepted-spent, allowed-begins, refused_some, sound-undamaged, spent-undamaged}
use Rattle.q_restart.proofs.opening.open_spool.Goals as goal

pub raise-requires-clause-there : goal.raise-requires-clause-there
raise-requires-clause-there g c t some =
    let view = g.H.Host.view in
    let sight = c.in_ok-sight.sight in
    let shows = c.in_ok-sight.ensures.shows t in
    let allowed = c.in_ok-generation.ensures.ok in
    let generation = c.in_ok-generation.generation in
    let there = boot-file ((view c.args.host.now).files areas.Boot) sight.boot.items generation shows.names (no_boot sight.boot.items sight.walk.items allowed.sound) allowed.last some in
    ap is_some (boot-same (is_placed c.in_ok-index.index.places) (now (view c.look.new.host)) (now (view c.clear.new.host)) (c.clear.ensures.goes t).reads (hex 8 generation)
    ∙ ap (λ (f : Files). f areas.Boot (hex 8 generation)) (c.look.ensures.stays t).files) ∙ there

pub returns-in_err-clear-clause-tries : goal.returns-in_err-clear-clause-tries
returns-in_err-clear-clause-tries g c t b h =
    let view = g.H.Host.view in
    let sight = c.in_ok-sight.sight in
    let index = c.in_ok-index.index in
    let see = sees (view c.args.host.now).files sight.boot.items sight.walk.items c.deref.result.now index.repeated index.places c.deref.ensures.value (c.in_ok-sight.ensures.shows t) c.in_ok-generation.ensures.ok.sound c.in_ok-index.ensures.repeated c.in_ok-index.ensures.places in
    cleared-tries (is_placed index.places) b (view c.args.host.now) (view c.look.new.host) (view c.clear.new.host) (c.look.ensures.stays t) see
    (record { only = g.met.H.Host.only_now c.args.host.now; told = g.met.H.Host.told_stays c.args.host.now })
    (record { only = g.met.H.Host.only_now c.look.new.host; told = g.met.H.Host.told_stays c.look.new.host })
    (record { only = g.met.H.Host.only_now c.clear.new.host; told = g.met.H.Host.told_stays c.clear.new.host })
    (g.met.H.Host.names_stay c.look.new.host) (c.clear.ensures.goes t) h

pub returns-in_err-raise-clause-tries : goal.returns-in_err-raise-clause-tries
returns-in_err-raise-clause-tries g c t b h =
    let view = g.H.Host.view in
    let sight = c.in_ok-sight.sight in
    let index = c.in_ok-index.index in
    let shows = c.in_ok-sight.ensures.shows t in
    let allowed = c.in_ok-generation.ensures.ok in
    let generation = c.in_ok-generation.generation in
    let see = sees (view c.args.host.now).files sight.boot.items sight.walk.items c.deref.result.now index.repeated index.places c.deref.ensures.value shows allowed.sound c.in_ok-index.ensures.repeated c.in_ok-index.ensures.places in
    let same : generation ≡ b.generation = sym allowed.last ∙ boot-is (view c.args.host.now).files sight.boot.items b.generation shows.names h.reads.boot (no_boot sight.boot.items sight.walk.items allowed.sound) in
    begun-tries (is_placed index.places) b (view c.args.host.now) (view c.look.new.host) (view c.clear.new.host) (c.look.ensures.stays t) see
    (record { only = g.met.H.Host.only_now c.args.host.now; told = g.met.H.Host.told_stays c.args.host.now })
    (record { only = g.met.H.Host.only_now c.look.new.host; told = g.met.H.Host.told_stays c.look.new.host })
    (record { only = g.met.H.Host.only_now c.clear.new.host; told = g.met.H.Host.told_stays c.clear.new.host })
    (g.met.H.Host.names_stay c.look.new.host) (c.clear.ensures.goes t) h
    (view c.raise.new.host) (c.in_ok-clear.ensures.clean t) (subst (λ (k : ℕ). k + 1 < 2 ^ 32) same allowed.fits)
    (subst (λ (k : ℕ). MayRaise k (view c.clear.new.host) (view c.raise.new.host)) same (c.in_err-raise.ensures.err t))

pub returns-clause-ok : goal.returns-clause-ok
returns-clause-ok g c t b h =
    let view = g.H.Host.view in
    let sight = c.in_ok-sight.sight in
    let index = c.in_ok-index.index in
    let shows = c.in_ok-sight.ensures.shows t in
    let allowed = c.in_ok-generation.ensures.ok in
    let generation = c.in_ok-generation.generation in
    let see = sees (view c.args.host.now).files sight.boot.items sight.walk.items c.deref.result.now index.repeated index.places c.deref.ensures.value shows allowed.sound c.in_ok-index.ensures.repeated c.in_ok-index.ensures.places in
    let same : generation ≡ b.generation = sym allowed.last ∙ boot-is (view c.args.host.now).files sight.boot.items b.generation shows.names h.reads.boot (no_boot sight.boot.items sight.walk.items allowed.sound) in
    begun-opens (is_placed index.places) b (view c.args.host.now) (view c.look.new.host) (view c.clear.new.host) (c.look.ensures.stays t) see
    (record { only = g.met.H.Host.only_now c.args.host.now; told = g.met.H.Host.told_stays c.args.host.now })
    (record { only = g.met.H.Host.only_now c.look.new.host; told = g.met.H.Host.told_stays c.look.new.host })
    (record { only = g.met.H.Host.only_now c.clear.new.host; told = g.met.H.Host.told_stays c.clear.new.host })
    (g.met.H.Host.names_stay c.look.new.host) (c.clear.ensures.goes t) h
    (view c.raise.new.host) (c.in_ok-clear.ensures.clean t) (subst (λ (k : ℕ). k + 1 < 2 ^ 32) same allowed.fits)
    (subst (λ (k : ℕ). Changes (raised k) (view c.clear.new.host) (view c.raise.new.host)) same (c.in_ok-raise.ensures.ok t)) generation same

pub returns-clause-tries : goal.returns-clause-tries
returns-clause-tries g c t b h =
    let view = g.H.Host.view in
    tried b (begun b) (view c.args.host.now) (view c.raise.new.host)
    (record { only = g.met.H.Host.only_now c.args.host.now; told = g.met.H.Host.told_stays c.args.host.now })
    (returns-clause-ok g c t b h).takes

pub returns-in_err-generation-clause-orderly : goal.returns-in_err-generation-clause-orderly
returns-in_err-generation-clause-orderly g c t b h orderly below refusal =
    let sight = c.in_ok-sight.sight in
    none-refused (g.H.Host.view c.args.host.now).files b sight.boot.items sight.walk.items (c.in_ok-sight.ensures.shows t) h.reads orderly below c.in_err-generation.field-0.0 c.in_err-generation.ensures.err

pub returns-in_err-generation-clause-undamaged : goal.returns-in_err-generation-clause-undamaged
returns-in_err-generation-clause-undamaged g c t accepted area name damage =
    let sight = c.in_ok-sight.sight in
    spent-undamaged (g.H.Host.view c.args.host.now).files sight.boot.items sight.walk.items area name (c.in_ok-sight.ensures.shows t) c.in_err-generation.field-0.0
    (accepted-spent c.from_residual-in_err-generation.result c.in_err-generation.field-0.0 c.from_residual-in_err-generation.ensures.1 accepted) c.in_err-generation.ensures.err damage

pub returns-clause-undamaged : goal.returns-clause-undamaged
returns-clause-undamaged g c t accepted area name damage =
    let sight = c.in_ok-sight.sight in
    sound-undamaged (g.H.Host.view c.args.host.now).files sight.boot.items sight.walk.items area name (c.in_ok-sight.ensures.shows t) c.in_ok-generation.ensures.ok.sound damage

pub returns-in_err-clear-clause-unbegun : goal.returns-in_err-clear-clause-unbegun
returns-in_err-clear-clause-unbegun g c t cannot =
    let sight = c.in_ok-sight.sight in
    absurd (allowed-begins (g.H.Host.view c.args.host.now).files sight.boot.items sight.walk.items c.in_ok-generation.generation (c.in_ok-sight.ensures.shows t) c.in_ok-generation.ensures.ok cannot)

pub returns-in_err-raise-clause-unbegun : goal.returns-in_err-raise-clause-unbegun
returns-in_err-raise-clause-unbegun g c t cannot =
    let sight = c.in_ok-sight.sight in
    absurd (allowed-begins (g.H.Host.view c.args.host.now).files sight.boot.items sight.walk.items c.in_ok-generation.generation (c.in_ok-sight.ensures.shows t) c.in_ok-generation.ensures.ok cannot)

pub returns-clause-unbegun : goal.returns-clause-unbegun
returns-clause-unbegun g c t cannot =
    let sight = c.in_ok-sight.sight in
    absurd (allowed-begins (g.H.Host.view c.args.host.now).files sight.boot.items sight.walk.items c.in_ok-generation.generation (c.in_ok-sight.ensures.shows t) c.in_ok-generation.ensures.ok cannot)

pub returns-in_err-generation-clause-some : goal.returns-in_err-generation-clause-some
returns-in_err-generation-clause-some g c =
    let sight = c.in_ok-sight.sight in
    refused_some sight.boot.items sight.walk.items c.in_err-generation.field-0.0 c.from_residual-in_err-generation.result c.from_residual-in_err-generation.ensures.1 c.in_err-generation.ensures.err
