use Rattle.std.proofs.Common.{◌≡◌, ◌∙◌, ap, sym, subst, arith, drop, refl, List, [], ℕ, Option, Some}
use Rattle.q_host.specs.NamesLeft.{names_left}
use Rattle.q_host.specs.Reads.{IsAfter}
use Rattle.q_model.specs.declared.spot.Area.{Area}
use Rattle.q_model.specs.SpoolFiles.{Files}
use Rattle.q_scan.specs.Filled.{IsFilled}
use Rattle.q_scan.specs.Fits.{IsFitOf, IsLater}
use Rattle.q_scan.specs.Walks.{IsWalked, IsWithin, Walk}
use Rattle.q_host.proofs.Stays.{stays_here, stays_on}
use Rattle.q_scan.proofs.WalkLaws.{ended_empty, ended_later, exact_none, exact_some, first_of, HasWalked, left_none, left_some, none_first, same_first, stepped_behind, stepped_first, up_none, up_some, walked_filled, walked_nowhere, walked_over}
use Rattle.q_scan.proofs.scan.Scan.next.Goals as goal

pub loop-self-init : goal.loop-self-init
loop-self-init g c = record {
  area = refl;
  fewer = omega arith;
  behind = λ n h. h;
  walked = λ t. walked_nowhere (g.H.Host.view c.args.host.now).files c.args.self.now;
  stays = λ t. stays_here (g.H.Host.view c.args.host.now);
  disk_later = omega arith;
  tell_later = omega arith;
}

pub returns-in_err-fill-clause-area : goal.returns-in_err-fill-clause-area
returns-in_err-fill-clause-area g c = c.fill.ensures.area ∙ c.loop-self.invariant.area

pub returns-in_default-clause-area : goal.returns-in_default-clause-area
returns-in_default-clause-area g c = c.fill.ensures.area ∙ c.loop-self.invariant.area

pub returns-in-Later-clause-area : goal.returns-in-Later-clause-area
returns-in-Later-clause-area g c = c.fill.ensures.area ∙ c.loop-self.invariant.area

pub returns-in-Given-clause-area : goal.returns-in-Given-clause-area
returns-in-Given-clause-area g c = c.step-in-Given.ensures.stepped.area ∙ c.fill.ensures.area ∙ c.loop-self.invariant.area

pub returns-in_default-clause-left : goal.returns-in_default-clause-left
returns-in_default-clause-left g c t =
    let files = (g.H.Host.view c.args.host.now).files in
    let old = c.args.self.now in
    let loop = c.loop-self.self in
    let new = c.fill.new.self in
    let filled : IsFilled files loop new = subst (λ (f : Files). IsFilled f loop new) (c.loop-self.invariant.stays t).files (c.in_ok-fill.ensures.filled t) in
    let walked : HasWalked files old new = walked_filled files old loop new (c.loop-self.invariant.walked t) c.fill.ensures.area c.fill.ensures.place filled in
    let none : new.ahead ≡ [] = none_first new.ahead (sym c.first.ensures ∙ c.in_default.is) in
    let ended = ended_empty files old loop new (c.loop-self.invariant.walked t) c.args.until filled none in
    left_none files old new c.args.until walked ended

pub returns-in_default-clause-exact : goal.returns-in_default-clause-exact
returns-in_default-clause-exact g c t =
    let files = (g.H.Host.view c.args.host.now).files in
    let old = c.args.self.now in
    let loop = c.loop-self.self in
    let new = c.fill.new.self in
    let filled : IsFilled files loop new = subst (λ (f : Files). IsFilled f loop new) (c.loop-self.invariant.stays t).files (c.in_ok-fill.ensures.filled t) in
    let walked : HasWalked files old new = walked_filled files old loop new (c.loop-self.invariant.walked t) c.fill.ensures.area c.fill.ensures.place filled in
    let none : new.ahead ≡ [] = none_first new.ahead (sym c.first.ensures ∙ c.in_default.is) in
    let ended = ended_empty files old loop new (c.loop-self.invariant.walked t) c.args.until filled none in
    exact_none files old new c.args.until walked ended

pub returns-in_default-clause-up_to_date : goal.returns-in_default-clause-up_to_date
returns-in_default-clause-up_to_date g c t =
    let files = (g.H.Host.view c.args.host.now).files in
    let old = c.args.self.now in
    let loop = c.loop-self.self in
    let new = c.fill.new.self in
    let filled : IsFilled files loop new = subst (λ (f : Files). IsFilled f loop new) (c.loop-self.invariant.stays t).files (c.in_ok-fill.ensures.filled t) in
    let walked : HasWalked files old new = walked_filled files old loop new (c.loop-self.invariant.walked t) c.fill.ensures.area c.fill.ensures.place filled in
    up_none files old new c.args.until walked

pub returns-in-Later-clause-left : goal.returns-in-Later-clause-left
returns-in-Later-clause-left g c t =
    let files = (g.H.Host.view c.args.host.now).files in
    let old = c.args.self.now in
    let loop = c.loop-self.self in
    let new = c.fill.new.self in
    let filled : IsFilled files loop new = subst (λ (f : Files). IsFilled f loop new) (c.loop-self.invariant.stays t).files (c.in_ok-fill.ensures.filled t) in
    let walked : HasWalked files old new = walked_filled files old loop new (c.loop-self.invariant.walked t) c.fill.ensures.area c.fill.ensures.place filled in
    let fits = subst (IsFitOf new.area c.args.until c.in-Some.name) c.in-Later.is (subst (λ (a : Area). IsFitOf a c.args.until c.in-Some.name c.fit_of.result) (ap (λ (w : Walk). w.area) c.self.view_is) c.fit_of.ensures) in
    let late : IsLater new.area c.args.until c.in-Some.name = fits in
    let ended = ended_later files old new c.args.until walked c.in-Some.name (drop 1 new.ahead) (first_of new.ahead c.in-Some.name (sym c.first.ensures ∙ c.in-Some.is)) c.fill.ensures.rises late in
    left_none files old new c.args.until walked ended

pub returns-in-Later-clause-exact : goal.returns-in-Later-clause-exact
returns-in-Later-clause-exact g c t =
    let files = (g.H.Host.view c.args.host.now).files in
    let old = c.args.self.now in
    let loop = c.loop-self.self in
    let new = c.fill.new.self in
    let filled : IsFilled files loop new = subst (λ (f : Files). IsFilled f loop new) (c.loop-self.invariant.stays t).files (c.in_ok-fill.ensures.filled t) in
    let walked : HasWalked files old new = walked_filled files old loop new (c.loop-self.invariant.walked t) c.fill.ensures.area c.fill.ensures.place filled in
    let fits = subst (IsFitOf new.area c.args.until c.in-Some.name) c.in-Later.is (subst (λ (a : Area). IsFitOf a c.args.until c.in-Some.name c.fit_of.result) (ap (λ (w : Walk). w.area) c.self.view_is) c.fit_of.ensures) in
    let late : IsLater new.area c.args.until c.in-Some.name = fits in
    let ended = ended_later files old new c.args.until walked c.in-Some.name (drop 1 new.ahead) (first_of new.ahead c.in-Some.name (sym c.first.ensures ∙ c.in-Some.is)) c.fill.ensures.rises late in
    exact_none files old new c.args.until walked ended

pub returns-in-Later-clause-up_to_date : goal.returns-in-Later-clause-up_to_date
returns-in-Later-clause-up_to_date g c t =
    let files = (g.H.Host.view c.args.host.now).files in
    let old = c.args.self.now in
    let loop = c.loop-self.self in
    let new = c.fill.new.self in
    let filled : IsFilled files loop new = subst (λ (f : Files). IsFilled f loop new) (c.loop-self.invariant.stays t).files (c.in_ok-fill.ensures.filled t) in
    let walked : HasWalked files old new = walked_filled files old loop new (c.loop-self.invariant.walked t) c.fill.ensures.area c.fill.ensures.place filled in
    up_none files old new c.args.until walked

pub returns-in-Given-clause-left : goal.returns-in-Given-clause-left
returns-in-Given-clause-left g c t =
    let files = (g.H.Host.view c.args.host.now).files in
    let old = c.args.self.now in
    let loop = c.loop-self.self in
    let new = c.fill.new.self in
    let filled : IsFilled files loop new = subst (λ (f : Files). IsFilled f loop new) (c.loop-self.invariant.stays t).files (c.in_ok-fill.ensures.filled t) in
    let walked : HasWalked files old new = walked_filled files old loop new (c.loop-self.invariant.walked t) c.fill.ensures.area c.fill.ensures.place filled in
    let last = c.step-in-Given.new.self in
    let s = c.step-in-Given.ensures.stepped in
    let is : c.in-Some.name ≡ s.name = same_first new.ahead c.in-Some.name s.name last.ahead (sym c.first.ensures ∙ c.in-Some.is) s.ahead in
    left_some files old new last c.args.until c.in-Some.name walked s c.fill.ensures.rises is

pub returns-in-Given-clause-exact : goal.returns-in-Given-clause-exact
returns-in-Given-clause-exact g c t =
    let files = (g.H.Host.view c.args.host.now).files in
    let old = c.args.self.now in
    let loop = c.loop-self.self in
    let new = c.fill.new.self in
    let filled : IsFilled files loop new = subst (λ (f : Files). IsFilled f loop new) (c.loop-self.invariant.stays t).files (c.in_ok-fill.ensures.filled t) in
    let walked : HasWalked files old new = walked_filled files old loop new (c.loop-self.invariant.walked t) c.fill.ensures.area c.fill.ensures.place filled in
    let last = c.step-in-Given.new.self in
    let s = c.step-in-Given.ensures.stepped in
    let is : c.in-Some.name ≡ s.name = same_first new.ahead c.in-Some.name s.name last.ahead (sym c.first.ensures ∙ c.in-Some.is) s.ahead in
    let within : IsWithin new.area c.args.until c.in-Some.name = subst (IsFitOf new.area c.args.until c.in-Some.name) c.in-Given.is (subst (λ (a : Area). IsFitOf a c.args.until c.in-Some.name c.fit_of.result) (ap (λ (w : Walk). w.area) c.self.view_is) c.fit_of.ensures) in
    exact_some files old new last c.args.until c.in-Some.name walked s c.fill.ensures.rises is within

pub returns-in-Given-clause-up_to_date : goal.returns-in-Given-clause-up_to_date
returns-in-Given-clause-up_to_date g c t =
    let files = (g.H.Host.view c.args.host.now).files in
    let old = c.args.self.now in
    let loop = c.loop-self.self in
    let new = c.fill.new.self in
    let filled : IsFilled files loop new = subst (λ (f : Files). IsFilled f loop new) (c.loop-self.invariant.stays t).files (c.in_ok-fill.ensures.filled t) in
    let walked : HasWalked files old new = walked_filled files old loop new (c.loop-self.invariant.walked t) c.fill.ensures.area c.fill.ensures.place filled in
    let last = c.step-in-Given.new.self in
    let s = c.step-in-Given.ensures.stepped in
    let is : c.in-Some.name ≡ s.name = same_first new.ahead c.in-Some.name s.name last.ahead (sym c.first.ensures ∙ c.in-Some.is) s.ahead in
    up_some files old new last c.args.until c.in-Some.name walked s c.fill.ensures.rises is

pub returns-in-Given-clause-given : goal.returns-in-Given-clause-given
returns-in-Given-clause-given g c =
    let new = c.fill.new.self in
    let last = c.step-in-Given.new.self in
    let s = c.step-in-Given.ensures.stepped in
    let is : c.in-Some.name ≡ s.name = same_first new.ahead c.in-Some.name s.name last.ahead (sym c.first.ensures ∙ c.in-Some.is) s.ahead in
    let within : IsWithin new.area c.args.until c.in-Some.name = subst (IsFitOf new.area c.args.until c.in-Some.name) c.in-Given.is (subst (λ (a : Area). IsFitOf a c.args.until c.in-Some.name c.fit_of.result) (ap (λ (w : Walk). w.area) c.self.view_is) c.fit_of.ensures) in
    record {
      within = subst (λ (a : Area). IsWithin a c.args.until c.in-Some.name) (c.fill.ensures.area ∙ c.loop-self.invariant.area) within;
      behind = c.loop-self.invariant.behind c.in-Some.name (subst (λ (p : Option (List ℕ)). IsAfter p c.in-Some.name) c.fill.ensures.place (subst (IsAfter new.place) (sym is) (stepped_first new last s c.fill.ensures.rises)));
      place = s.place ∙ ap Some (sym is);
    }

pub loop-self-preserved : goal.loop-self-preserved
loop-self-preserved g c =
    let new = c.fill.new.self in
    let last = c.step.new.self in
    let s = c.step.ensures.stepped in
    let is : c.in-Some.name ≡ s.name = same_first new.ahead c.in-Some.name s.name last.ahead (sym c.first.ensures ∙ c.in-Some.is) s.ahead in
    let other : IsWalked new.area c.in-Some.name → ⊥ = subst (IsFitOf new.area c.args.until c.in-Some.name) c.in-Other.is (subst (λ (a : Area). IsFitOf a c.args.until c.in-Some.name c.fit_of.result) (ap (λ (w : Walk). w.area) c.self.view_is) c.fit_of.ensures) in
    record {
      area = s.area ∙ c.fill.ensures.area ∙ c.loop-self.invariant.area;
      fewer = omega (arith, c.loop-self.invariant.fewer, c.step.ensures.fewer, ap names_left c.fill.ensures.place);
      behind = λ n h. c.loop-self.invariant.behind n (subst (λ (p : Option (List ℕ)). IsAfter p n) c.fill.ensures.place (stepped_behind new last n s c.fill.ensures.rises h));
      walked = λ t.
          let files = (g.H.Host.view c.args.host.now).files in
          let filled : IsFilled files c.loop-self.self new = subst (λ (f : Files). IsFilled f c.loop-self.self new) (c.loop-self.invariant.stays t).files (c.in_ok-fill.ensures.filled t) in
          let walked : HasWalked files c.args.self.now new = walked_filled files c.args.self.now c.loop-self.self new (c.loop-self.invariant.walked t) c.fill.ensures.area c.fill.ensures.place filled in
          walked_over files c.args.self.now new last walked s c.fill.ensures.rises c.in-Some.name is other;
      stays = λ t. stays_on (g.H.Host.view c.args.host.now) (g.H.Host.view c.loop-self.host) (g.H.Host.view c.fill.new.host) (c.loop-self.invariant.stays t) (c.fill.ensures.stays t);
      disk_later = omega (arith, c.loop-self.invariant.disk_later, c.fill.ensures.cause.disk_later);
      tell_later = omega (arith, c.loop-self.invariant.tell_later, c.fill.ensures.cause.tell_later);
    }

pub returns-in_default-clause-forward : goal.returns-in_default-clause-forward
returns-in_default-clause-forward g c n h = c.loop-self.invariant.behind n (subst (λ (p : Option (List ℕ)). IsAfter p n) c.fill.ensures.place h)

pub returns-in-Later-clause-forward : goal.returns-in-Later-clause-forward
returns-in-Later-clause-forward g c n h = c.loop-self.invariant.behind n (subst (λ (p : Option (List ℕ)). IsAfter p n) c.fill.ensures.place h)

pub returns-in-Given-clause-forward : goal.returns-in-Given-clause-forward
returns-in-Given-clause-forward g c n h =
    let new = c.fill.new.self in
    let last = c.step-in-Given.new.self in
    c.loop-self.invariant.behind n (subst (λ (p : Option (List ℕ)). IsAfter p n) c.fill.ensures.place (stepped_behind new last n c.step-in-Given.ensures.stepped c.fill.ensures.rises h))

pub loop-self-smaller : goal.loop-self-smaller
loop-self-smaller g c = omega (arith, c.step.ensures.fewer, ap names_left c.fill.ensures.place)

pub returns-in-Given-clause-fewer : goal.returns-in-Given-clause-fewer
returns-in-Given-clause-fewer g c = omega (arith, c.loop-self.invariant.fewer, c.step-in-Given.ensures.fewer, ap names_left c.fill.ensures.place)

pub returns-in_default-clause-left_over : goal.returns-in_default-clause-left_over
returns-in_default-clause-left_over g c = omega (arith, c.loop-self.invariant.fewer, ap names_left c.fill.ensures.place)

pub returns-in-Later-clause-left_over : goal.returns-in-Later-clause-left_over
returns-in-Later-clause-left_over g c = omega (arith, c.loop-self.invariant.fewer, ap names_left c.fill.ensures.place)

pub returns-in-Given-clause-left_over : goal.returns-in-Given-clause-left_over
returns-in-Given-clause-left_over g c = omega (arith, c.loop-self.invariant.fewer, c.step-in-Given.ensures.fewer, ap names_left c.fill.ensures.place)
