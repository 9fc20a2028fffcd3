-- A delivery ends.
use Rattle.std.proofs.Common.{◌≡◌, ℕ, ◌+◌, ◌-◌, ◌≤◌, Bool, true, false, List, ◌++◌, cond, length, length-append, map, refl, sym, ap, ◌∙◌, subst, arith, zero-add, Option, Some, None, sum_by, IsTrue}
use Rattle.std.proofs.lemmas.Bool.{eqb-true}
use Rattle.std.specs.Option.{option_map_or}
use Rattle.std.specs.Prelude.{◌&&◌, ◌||◌, ◌==◌, filter, find, not}
use Rattle.q_laws.proofs.Sites.{limit_is}
use Rattle.q_core.proofs.DroppedLaws.{other_site}
use Rattle.q_core.proofs.FlightLaws.{apart_state, sum_by-removed}
use Rattle.q_core.proofs.ListLaws.{find-all, find-passes}
use Rattle.q_core.proofs.NameLaws.{and_true_parts}
use Rattle.q_core.proofs.NeedsLaws.{needs_few}
use Rattle.q_core.proofs.NoteLaws.{IsQuiet, note_law}
use Rattle.q_core.proofs.RowsLaws.{needs_law, rows_law, with_outcomes_is, stands}
use Rattle.q_core.proofs.SiteLaws.{LeavesFrom, tidy_left_law, sites_law}
use Rattle.q_core.proofs.StepLaws.{HoldsRaw, raw_law}
use Rattle.q_core.proofs.WindowLaws.{heard_law}
use Rattle.q_core.specs.Agrees.{Agrees, Matches}
use Rattle.q_core.specs.Changes.{HasLeftSite, IsTidied, is_looked_at}
use Rattle.q_core.specs.UsedSites.{busy_in, waits_at_in}
use Rattle.q_core.specs.Leaving.{heard_at, IsSiteHeard, IsLanded, IsReplied, replied_in}
use Rattle.q_core.specs.Queries.{flight_in}
use Rattle.q_core.specs.declared.state.Core.{Core}
use Rattle.q_laws.specs.SitesConsistency.{IsSitesConsistent}
use Rattle.q_laws.specs.Consistency.{IsConsistent}
use Rattle.q_model.proofs.IdLaws.{site_eq-refl}
use Rattle.q_model.specs.Book.{message_of}
use Rattle.q_model.specs.Deliveries.{busy, flight_of}
use Rattle.q_model.specs.Sites.{site_eq}
use Rattle.q_model.specs.Ledger.{Ledger}
use Rattle.q_model.specs.Memory.{is_admitted}
use Rattle.q_model.specs.Message.{Message}
use Rattle.q_model.specs.Past.{has_entries, is_life, is_living}
use Rattle.q_model.specs.Replies.{after_reply, fits_state, landed, may_reply, replied}
use Rattle.q_model.specs.Settings.{Settings, World}
use Rattle.q_model.specs.Settling.{needs_of}
use Rattle.q_model.specs.Step.{allowed, noted, tidied}
use Rattle.q_model.specs.Values.{Site, SiteRecord}
use Rattle.q_model.specs.Windows.{after_state}
use Rattle.q_model.specs.declared.entry.Entry.{Entry}
use Rattle.q_model.specs.declared.entry.Entry.TheVariants as entries
use Rattle.q_model.specs.declared.outcome.Outcome.{Outcome}
use Rattle.q_model.specs.declared.outcome.SiteState.{SiteState}
use Rattle.q_model.specs.declared.rows.Delivery.{Delivery}
use Rattle.q_model.specs.declared.rows.Row.{Row}
use Rattle.q_model.specs.declared.rows.Unsettled.{Unsettled}

-- the recipients in memory, where those of one delivery left and their needs came
counted : (waiting whole part rest kept few memory : ℕ) → memory ≡ waiting + whole + kept → whole ≡ part + rest → few ≤ part → memory - (part - few) ≡ waiting + rest + (kept + few)
counted waiting whole part rest kept few memory total parts less = omega (arith, total, parts, less)

-- the others in flight
abbrev others : Ledger → ℕ → List Delivery
others l number = filter (λ f. not (f.number == number)) l.flights

-- the ledger without the delivery, where its message is m
abbrev over : World → Ledger → SiteState → List Outcome → ℕ → Delivery → Message → Ledger
over w l state os number f m = record l {
  flights = others l number;
  sites = after_state w l f.row.site state;
  unsettled = l.unsettled ++ needs_of w l.now m f.row.positions os;
}

-- the delivery is over, its site has heard of it, and its outcomes are settled
reply_raw : {w : World} {c u v d : Core} {l : Ledger} → HoldsRaw w c l → IsConsistent w l → IsSitesConsistent w l → (number : ℕ) (state : SiteState) (os : List Outcome) (f : Delivery) (m : Message) → find (λ x. x.number == number) l.flights ≡ Some f →
    is_admitted l f.row.id ≡ true → message_of l.book f.row.id ≡ Some m → IsReplied c u f os f.row.site → IsSiteHeard u v f.row.site state → IsLanded v d number → HoldsRaw w d (over w l state os number f m)
reply_raw {w = w} {c = c} {u = u} {v = v} {d = d} {l = l} h k ds number state os f m found there e replies hears lands =
    let site = f.row.site in
    let needs : replied_in c f os ≡ needs_of w l.now m f.row.positions os = needs_law h.parts f.row.id m there e f.row.positions os in
    let fs : List Delivery = others l number in
    let us : List Unsettled = l.unsettled ++ needs_of w l.now m f.row.positions os in
    let heard : v.sites ≡ after_state w l site state =
    hears.sites
    ∙ ap (λ (x : Core). map (heard_at x.params site (busy_in x.flights site) x.clock.seconds state) x.sites) replies.rest
    ∙ ap (λ (x : List Delivery). map (heard_at c.params site (busy_in x site) c.clock.seconds state) c.sites) h.parts.flights
    ∙ ap (λ (x : List SiteRecord). map (heard_at c.params site (busy l site) c.clock.seconds state) x) h.parts.sites
    ∙ ap (λ n. map (heard_at c.params site (busy l site) n state) l.sites) h.parts.clock
    ∙ ap (λ (x : Settings). map (heard_at x site (busy l site) l.now state) l.sites) h.parts.settings
    ∙ heard_law w l site (limit_is w ds.settings).1 ds.windows state in
    let between : Core = record c { sites = v.sites } in
    let raw : HoldsRaw w between (record l { sites = after_state w l site state }) = sites_law {w = w} {c = c} {d = between} {l = l} (after_state w l site state) h refl heard in
    let middle : v ≡ record c { unsettled = u.unsettled; in_memory = u.in_memory; sites = v.sites } = hears.rest ∙ ap (λ (x : Core). record x { sites = v.sites }) replies.rest in
    let last : d ≡ record c { unsettled = u.unsettled; in_memory = u.in_memory; sites = v.sites; flights = d.flights } = lands.rest ∙ ap (λ (x : Core). record x { flights = d.flights }) middle in
    let rest : d ≡ record between { waiting = d.waiting; flights = d.flights; unsettled = d.unsettled; in_memory = d.in_memory } =
    last
    ∙ ap (λ ws. record between { waiting = ws; flights = d.flights; unsettled = u.unsettled; in_memory = u.in_memory }) (sym (ap (λ (x : Core). x.waiting) last))
    ∙ ap (λ us. record between { waiting = d.waiting; flights = d.flights; unsettled = us; in_memory = u.in_memory }) (sym (ap (λ (x : Core). x.unsettled) last))
    ∙ ap (λ n. record between { waiting = d.waiting; flights = d.flights; unsettled = d.unsettled; in_memory = n }) (sym (ap (λ (x : Core). x.in_memory) last)) in
    let flights : d.flights ≡ fs = lands.flights ∙ ap (λ (x : Core). filter (λ (y : Delivery). not (y.number == number)) x.flights) middle ∙ ap (filter (λ (y : Delivery). not (y.number == number))) h.parts.flights in
    let unsettled : d.unsettled ≡ us = ap (λ (x : Core). x.unsettled) last ∙ replies.unsettled ∙ ap (λ (xs : List Unsettled). xs ++ replied_in c f os) h.parts.unsettled ∙ ap (λ xs. l.unsettled ++ xs) needs in
    let memory : d.in_memory ≡ sum_by (λ (x : Row). length x.positions) l.waiting + sum_by (λ (x : Delivery). length x.row.positions) fs + length us =
    ap (λ (x : Core). x.in_memory) last
    ∙ replies.memory
    ∙ counted (sum_by (λ (x : Row). length x.positions) l.waiting) (sum_by (λ (x : Delivery). length x.row.positions) l.flights) (length f.row.positions) (sum_by (λ (x : Delivery). length x.row.positions) fs)
    (length l.unsettled) (length (replied_in c f os)) c.in_memory h.parts.memory (sum_by-removed (λ x. length x.row.positions) number f l.flights k.memory.numbers found) (needs_few _ f.row.id f.row.positions os)
    ∙ ap (λ n. sum_by (λ (x : Row). length x.positions) l.waiting + sum_by (λ (x : Delivery). length x.row.positions) fs + n)
    (ap (λ (xs : List Unsettled). length l.unsettled + length xs) needs ∙ sym (length-append l.unsettled (needs_of w l.now m f.row.positions os))) in
    rows_law l.waiting fs us raw rest (record { waiting = ap (λ (x : Core). x.waiting) last ∙ h.parts.waiting; flights = flights; unsettled = unsettled; memory = memory })

and_false : (a : Bool) → (a && false) ≡ false
and_false true = refl
and_false false = refl

some_busy : (n : ℕ) → (1 + n == 0) ≡ false
some_busy n = grind arith

-- how many are in flight at a site with this delivery, and without
abbrev at_site : Site → Delivery → ℕ
at_site s x = cond (site_eq x.row.site s) 1 0

-- a delivery left its site, and no other
reply_leaves : (w : World) (l : Ledger) → IsConsistent w l → (e : Entry) (number : ℕ) (state : SiteState) (os : List Outcome) (f : Delivery) (m : Message) → find (λ x. x.number == number) l.flights ≡ Some f →
    LeavesFrom f.row.site l (noted e (over w l state os number f m))
reply_leaves w l k e number state os f m found =
    let site = f.row.site in
    let counts : (s : Site) → busy_in l.flights s ≡ at_site s f + busy_in (others l number) s = λ s. sum_by-removed (at_site s) number f l.flights k.memory.numbers found in
    record {
      here = ap (λ n. not (waits_at_in l.waiting site) && (n == 0)) (counts site ∙ ap (λ b. cond b 1 0 + busy_in (others l number) site) (site_eq-refl site))
          ∙ ap (λ b. not (waits_at_in l.waiting site) && b) (some_busy (busy_in (others l number) site)) ∙ and_false (not (waits_at_in l.waiting site));
      elsewhere = λ s differs. ap (λ n. not (waits_at_in l.waiting s) && (n == 0))
          (sym (counts s ∙ ap (λ b. cond b 1 0 + busy_in (others l number) s) (other_site site s differs (site_eq site s) refl) ∙ zero-add (busy_in (others l number) s)));
    }

reply_is : (w : World) (l : Ledger) (number : ℕ) (state : SiteState) (os : List Outcome) (f : Delivery) (m : Message) → find (λ x. x.number == number) l.flights ≡ Some f → message_of l.book f.row.id ≡ Some m →
    after_reply w l number state os ≡ over w l state os number f m
reply_is w l number state os f m found e =
    let same : f.number ≡ number = eqb-true f.number number (find-passes (λ (x : Delivery). x.number == number) l.flights f found) in
    ap (λ (o : Option Delivery). option_map_or (λ x. replied w l state os x) o l) found
    ∙ with_outcomes_is w f.row.id f.row.positions os (landed w l state f) m e
    ∙ ap (λ n. record l { flights = others l n; sites = after_state w l f.row.site state; unsettled = l.unsettled ++ needs_of w l.now m f.row.positions os }) same

reply_done : {w : World} {c u v x mid d : Core} {l : Ledger} → Agrees w c l → IsTrue (is_looked_at c) → (number : ℕ) (state : SiteState) (os : List Outcome) (f : Delivery) → flight_in c number ≡ Some f →
    IsReplied c u f os f.row.site → IsSiteHeard u v f.row.site state → IsLanded v x number → HasLeftSite x mid f.row.site → IsTidied mid d → Matches w d (tidied w l (noted (entries.Reply number state os) (after_reply w l number state os)))
reply_done {w = w} {c = c} {u = u} {v = v} {x = x} {mid = mid} {d = d} {l = l} a looked number state os f there replies hears lands left s =
    let raw = raw_law a.matches looked in
    let k = a.consistent in
    let found : find (λ (y : Delivery). y.number == number) l.flights ≡ Some f = ap (find (λ (y : Delivery). y.number == number)) (sym raw.parts.flights) ∙ there in
    let admitted : is_admitted l f.row.id ≡ true = find-all (λ (y : Delivery). y.number == number) (λ (y : Delivery). is_admitted l y.row.id) l.flights f k.memory.flights found in
    let m = stands l f.row.id admitted k.memory.present in
    let e : Entry = entries.Reply number state os in
    let quiet : IsQuiet e = record { no_admit = λ id. refl; no_start_of = λ id t. refl; no_charge = λ id t. refl; no_start = refl } in
    let gone = reply_raw raw k a.sites number state os f m.0 found admitted m.1 replies hears lands in
    let apart = apart_state w l f.row.site state ∙ a.sites.apart in
    let done : Matches w d (tidied w l (noted e (over w l state os number f m.0))) = tidy_left_law f.row.site l (reply_leaves w l k e number state os f m.0 found) apart (note_law e quiet gone) left s in
    subst (λ z. Matches w d (tidied w l (noted e z))) (sym (reply_is w l number state os f m.0 found m.1)) done

-- the whole entry
pub reply_law : {w : World} {c u v x mid d : Core} {l : Ledger} → Agrees w c l → IsTrue (is_looked_at c) → (number : ℕ) (state : SiteState) (os : List Outcome) (site : Site) (f : Delivery) → flight_in c number ≡ Some f →
    IsReplied c u f os site → IsSiteHeard u v site state → IsLanded v x number → HasLeftSite x mid site → IsTidied mid d → Matches w d (tidied w l (noted (entries.Reply number state os) (after_reply w l number state os)))
reply_law {c = c} {u = u} {v = v} {x = x} {mid = mid} a looked number state os site f there replies hears lands left s =
    reply_done a looked number state os f there (subst (λ z. IsReplied c u f os z) replies.there replies) (subst (λ z. IsSiteHeard u v z state) replies.there hears) lands (subst (λ z. HasLeftSite x mid z) replies.there left) s

in_flight : (state : SiteState) (os : List Outcome) (o : Option Delivery) → option_map_or (λ f. (length os == length f.row.positions) && fits_state state os) o false ≡ true → (f : Delivery) × (o ≡ Some f)
in_flight state os None h = cc
in_flight state os (Some f) h = (f, refl)

-- a reply that is allowed has its delivery in flight
pub reply_in_flight : {w : World} {c : Core} {l : Ledger} → Agrees w c l → (number : ℕ) (state : SiteState) (os : List Outcome) → allowed w l (entries.Reply number state os) ≡ true → (f : Delivery) × (flight_in c number ≡ Some f)
unfolding allowed
reply_in_flight {w = w} {c = c} {l = l} a number state os h =
    let e : Entry = entries.Reply number state os in
    let may = and_true_parts (is_living l || (is_life e && not (has_entries l))) (may_reply l number state os) h in
    let found = in_flight state os (flight_of l number) may.1 in
    (found.0, ap (find (λ (y : Delivery). y.number == number)) a.matches.parts.flights ∙ found.1)
