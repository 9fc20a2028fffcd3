-- Records of sites that nothing goes to leave before the core is tidied.
use Rattle.std.proofs.Common.{◌≡◌, ◌∙◌, ◌+◌, ap, Bool, cond, false, List, [], ◌∷◌, None, Option, refl, Some, true}
use Rattle.std.specs.Option.{option_map_or}
use Rattle.std.specs.Prelude.{filter, nat_le}
use Rattle.q_core.specs.Changes.{HasLeftSite, IsTidied, asked_scan, asked_when_due, left_sites, request_by, used_sites, with_sites}
use Rattle.q_core.specs.Lists.{moved_back}
use Rattle.q_core.specs.UsedSites.{forget_in, is_kept_in, is_left_in, used_in}
use Rattle.q_core.specs.declared.state.Core.{Core}
use Rattle.q_core.specs.declared.state.Seen.TheVariants.{Unknown}
use Rattle.q_model.specs.Scans.{joined_request, new_scan}
use Rattle.q_model.specs.Values.{Site, SiteRecord}
use Rattle.q_model.specs.declared.rows.Scan.{Scan}

twice_step : {X : Type 0} (p : X → Bool) (x : X) (xs : List X) → filter p (filter p xs) ≡ filter p xs → (b : Bool) → p x ≡ b → filter p (cond b (x ∷ filter p xs) (filter p xs)) ≡ cond b (x ∷ filter p xs) (filter p xs)
twice_step p x xs h true t = ap (λ b. cond b (x ∷ filter p (filter p xs)) (filter p (filter p xs))) t ∙ ap (λ ys. x ∷ ys) h
twice_step p x xs h false t = h

pub filter_twice : {X : Type 0} (p : X → Bool) (xs : List X) → filter p (filter p xs) ≡ filter p xs
filter_twice p [] = refl
filter_twice p (x ∷ xs) = twice_step p x xs (filter_twice p xs) (p x) refl

-- the same comes of tidying where they left already
pub tidied_used : (c d : Core) (st : List SiteRecord) → c.sites ≡ used_sites c st → IsTidied c d → IsTidied (with_sites st c) d
tidied_used c d st e t = record {
  rest = t.rest;
  lines = t.lines;
  served = t.served;
  sites = t.sites
      ∙ ap (λ xs. forget_in c.waiting c.flights c.params.recipient_limit (used_in c.waiting c.flights xs)) e
      ∙ ap (forget_in c.waiting c.flights c.params.recipient_limit) (filter_twice (is_kept_in c.waiting c.flights) st);
}

-- a row or a delivery left a site, and what nothing goes to left
module _ (c d : Core) (st : List SiteRecord) (site : Site) (left : c.sites ≡ left_sites c st site) where
  abbrev pub moved : List SiteRecord
  moved = moved_back (is_left_in c.waiting c.flights site) st

  pub has_left : HasLeftSite (with_sites st c) (with_sites moved c) site
  has_left = record { rest = refl; sites = refl }

  pub tidied_left : IsTidied c d → IsTidied (with_sites moved c) d
  tidied_left t = tidied_used c d moved left t

-- a scan that is asked for leaves the records

scan_sites : (st : List SiteRecord) (c : Core) (o : Option Scan) →
    option_map_or (λ (s : Scan). record (with_sites st c) { asked = Some (joined_request c.asked (request_by c.ignores)); ignores = false }) o
    (record (with_sites st c) { scan = Some (new_scan c.clock.seconds (request_by c.ignores)); deferred = Unknown; ignores = false })
    ≡ with_sites st (option_map_or (λ (s : Scan). record c { asked = Some (joined_request c.asked (request_by c.ignores)); ignores = false }) o
    (record c { scan = Some (new_scan c.clock.seconds (request_by c.ignores)); deferred = Unknown; ignores = false }))
scan_sites st c None = refl
scan_sites st c (Some s) = refl

due_sites : (st : List SiteRecord) (c : Core) (b : Bool) → cond b (asked_scan (record (with_sites st c) { next_run = c.clock.seconds + c.params.run_delay })) (with_sites st c) ≡ with_sites st (cond b (asked_scan (record c { next_run = c.clock.seconds + c.params.run_delay })) c)
due_sites st c true = scan_sites st (record c { next_run = c.clock.seconds + c.params.run_delay }) c.scan
due_sites st c false = refl

pub asked_sites : (st : List SiteRecord) (c : Core) → asked_when_due (with_sites st c) ≡ with_sites st (asked_when_due c)
asked_sites st c = due_sites st c (nat_le c.next_run c.clock.seconds)

scan_used : (st : List SiteRecord) (c : Core) (o : Option Scan) → c.sites ≡ used_sites c st →
    (option_map_or (λ (s : Scan). record c { asked = Some (joined_request c.asked (request_by c.ignores)); ignores = false }) o (record c { scan = Some (new_scan c.clock.seconds (request_by c.ignores)); deferred = Unknown; ignores = false })).sites
    ≡ used_sites (option_map_or (λ (s : Scan). record c { asked = Some (joined_request c.asked (request_by c.ignores)); ignores = false }) o (record c { scan = Some (new_scan c.clock.seconds (request_by c.ignores)); deferred = Unknown; ignores = false })) st
scan_used st c None h = h
scan_used st c (Some s) h = h

due_used : (st : List SiteRecord) (c : Core) (b : Bool) → c.sites ≡ used_sites c st → (cond b (asked_scan (record c { next_run = c.clock.seconds + c.params.run_delay })) c).sites ≡ used_sites (cond b (asked_scan (record c { next_run = c.clock.seconds + c.params.run_delay })) c) st
due_used st c true h = scan_used st (record c { next_run = c.clock.seconds + c.params.run_delay }) c.scan h
due_used st c false h = h

pub asked_used : (st : List SiteRecord) (c : Core) → c.sites ≡ used_sites c st → (asked_when_due c).sites ≡ used_sites (asked_when_due c) st
asked_used st c h = due_used st c (nat_le c.next_run c.clock.seconds) h
