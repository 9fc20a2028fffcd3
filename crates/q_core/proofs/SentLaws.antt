-- A delivery begins: its row goes from those that wait to those in flight.
use Rattle.std.proofs.Common.{◌≡◌, ℕ, ◌+◌, ◌<◌, ◌^◌, Bool, true, false, cond, List, [], ◌∷◌, ◌++◌, length, map, refl, sym, ap, ◌∙◌, subst, Some, None, inl, inr, position, sum_by, arith, eq-eqb, eqb-true, leb-true, ltb-true, add-zero}
use Rattle.std.proofs.lemmas.List.Sums.{sum_by-cons, sum_by_push}
use Rattle.std.specs.List.{enumerate_from, list_all, remove}
use Rattle.std.specs.Prelude.{◌&&◌, ◌==◌, find, is_some, IsSome, IsTrue, nat_le, not, Option, slice_get}
use Rattle.std.specs.Option.{option_or}
use Rattle.std.proofs.lemmas.List.Folds.{find-append}
use Rattle.q_core.proofs.AccountLaws.{lines_begun}
use Rattle.q_core.proofs.ChosenLaws.{IsChosen, chosen_row}
use Rattle.q_core.proofs.DroppedLaws.{drop_first-narrow, is_row-same, is_row-true, list_any-drop_first, sum_by-drop_first}
use Rattle.q_core.proofs.ListLaws.{drop_first-Some, position-find}
use Rattle.q_core.proofs.NameLaws.{and_true_parts, id_eq-same}
use Rattle.q_core.proofs.SiteLaws.{tidy_used_law}
use Rattle.q_core.proofs.StepLaws.{HoldsRaw, IsStillSeen, raw_law}
use Rattle.q_core.specs.Agrees.{Agrees, AgreesButScan, Matches, jobs_of}
use Rattle.q_core.specs.Sending.{started_line, is_for, IsStarted, IsSent, served_now}
use Rattle.q_core.specs.Changes.{IsTidied, is_looked_at}
use Rattle.q_core.specs.UsedSites.{busy_in, is_unused_in, waits_at_in}
use Rattle.q_jobs.specs.declared.job.Job.{Job}
use Rattle.q_core.specs.declared.state.Core.{Core}
use Rattle.q_core.specs.declared.state.Seen.{Seen}
use Rattle.q_core.specs.declared.state.Seen.TheVariants.{Known, Unknown}
use Rattle.q_model.proofs.IdLaws.{site_eq-refl}
use Rattle.q_model.specs.Sites.{site_eq}
use Rattle.q_model.specs.Ledger.{Ledger}
use Rattle.q_model.specs.Lists.{drop_first}
use Rattle.q_model.specs.Memory.{in_memory}
use Rattle.q_model.specs.Next.{start_rule}
use Rattle.q_model.specs.Past.{is_start, starts}
use Rattle.q_model.specs.Settings.{World}
use Rattle.q_model.specs.Starts.{after_start, is_row}
use Rattle.q_model.specs.Step.{noted, tidied}
use Rattle.q_model.specs.Values.{Served, Site}
use Rattle.q_model.specs.declared.entry.Entry.{Entry}
use Rattle.q_model.specs.declared.entry.Entry.TheVariants as entries
use Rattle.q_model.specs.declared.id.Id.{Id}
use Rattle.q_model.specs.declared.rows.Delivery.{Delivery}
use Rattle.q_model.specs.declared.rows.Row.{Row}

still_begun : (seen : Seen) (l : Ledger) (ws : List Row) (fs : List Delivery) (vs : List Served) (es : List Entry) → IsStillSeen seen l → IsStillSeen seen (record l { waiting = ws; flights = fs; served = vs; past = es })
still_begun Unknown l ws fs vs es h = tt
still_begun (Known found) l ws fs vs es h = h

-- the row that leaves, and its delivery
abbrev row_at : Id → Site → List ℕ → Row
row_at id site ps = record { id = id; site = site; positions = ps }

abbrev delivery_at : ℕ → Id → Site → List ℕ → Delivery
delivery_at number id site ps = record { number = number; row = row_at id site ps }

is_row-for : (id : Id) (site : Site) (ps : List ℕ) (y : Row) → is_row id site ps y ≡ true → is_for id site y ≡ true
is_row-for id site ps y h = ap (λ (x : Row). is_for id site x) (is_row-true id site ps y h) ∙ ap (λ b. b && site_eq site site) (id_eq-same id) ∙ site_eq-refl site

-- the first row for the site is the first equal one
dropped_same : {w : World} {c : Core} {l : Ledger} → AgreesButScan w c l → (number : ℕ) (id : Id) (site : Site) (ps : List ℕ) (entry : ℕ) → IsChosen l number id site ps → position (is_for id site) c.waiting ≡ Some entry →
    remove c.waiting entry ≡ drop_first (is_row id site ps) l.waiting
dropped_same {c = c} {l = l} h number id site ps entry chosen there =
    drop_first-Some (is_for id site) c.waiting entry there
    ∙ ap (drop_first (is_for id site)) h.waiting
    ∙ sym (drop_first-narrow (is_for id site) (is_row id site ps) (row_at id site ps) (is_row-same (row_at id site ps)) (is_row-for id site ps) l.waiting chosen.first)

-- the row at the place that was found
row_there : {X : Type 0} (p : X → Bool) (xs : List X) (entry : ℕ) (x : X) → position p xs ≡ Some entry → find p xs ≡ Some x → slice_get xs entry ≡ Some x
row_there p xs entry x there found = elim (position-find p xs) [
  | inl n ↦ let bad : None ≡ Some entry = sym n.0 ∙ there in cc
  | inr f ↦ let same : Some f.0 ≡ Some entry = sym f.2.place ∙ there in
      let place : f.0 ≡ entry = cc in
      ap (slice_get xs) (sym place) ∙ f.2.there ∙ sym f.2.found ∙ found
]

-- the recipients in memory stay
same_memory : (l : Ledger) (number : ℕ) (id : Id) (site : Site) (ps : List ℕ) → IsChosen l number id site ps → in_memory l ≡ in_memory (after_start l number id site ps)
same_memory l number id site ps chosen =
    let out = sum_by-drop_first (λ (r : Row). length r.positions) (is_for id site) (row_at id site ps) l.waiting chosen.first in
    let narrow = ap (sum_by (λ (r : Row). length r.positions)) (drop_first-narrow (is_for id site) (is_row id site ps) (row_at id site ps) (is_row-same (row_at id site ps)) (is_row-for id site ps) l.waiting chosen.first) in
    let inn = sum_by_push (λ (f : Delivery). length f.row.positions) l.flights (delivery_at number id site ps) in
    omega (arith, out, narrow, inn)

-- the whole change of the lists
start_raw : {w : World} {c u d : Core} {l : Ledger} → HoldsRaw w c l → (number : ℕ) (id : Id) (site : Site) (ps : List ℕ) (entry : ℕ) → IsChosen l number id site ps → position (is_for id site) c.waiting ≡ Some entry → slice_get c.waiting entry ≡ Some (row_at id site ps) →
    IsSent c u number id site entry → IsStarted u d id site.transport → HoldsRaw w d (noted (entries.Start number id site ps) (after_start l number id site ps))
start_raw {w = w} {c = c} {u = u} {d = d} {l = l} r number id site ps entry chosen there row sent begun =
    let h = r.parts in
    let e : Entry = entries.Start number id site ps in
    let next : Ledger = noted e (after_start l number id site ps) in
    let kept : Core = record c { waiting = u.waiting; flights = u.flights; served = u.served; starts = number; lines = d.lines } in
    let few : starts l < 2 ^ 48 = ltb-true (starts l) (2 ^ 48) chosen.few in
    let lines : d.lines ≡ map (jobs_of next) (enumerate_from 0 l.lines) =
    begun.lines
    ∙ ap (λ (x : Core). map (started_line id site.transport) (enumerate_from 0 x.lines)) sent.rest
    ∙ ap (λ (js : List (List Job)). map (started_line id site.transport) (enumerate_from 0 js)) h.lines
    ∙ lines_begun (after_start l number id site ps) number id site ps few 0 l.lines in
    let count : number ≡ starts next =
    let more = sum_by-cons (λ x. cond (is_start x) 1 0) e l.past in
    let is = chosen.count in
    omega (arith, more, is) in
    let parts : AgreesButScan w kept next = record {
      settings = h.settings;
      count = h.count;
      transports = h.transports;
      mode = h.mode;
      clock = h.clock;
      timed = h.timed;
      next_run = h.next_run;
      ignores = h.ignores;
      deferred_follows = h.deferred_follows;
      admitted = h.admitted;
      waiting = (sent.waiting ∙ dropped_same h number id site ps entry chosen there);
      flights = (sent.flights (row_at id site ps) row ∙ ap (λ fs. fs ++ delivery_at number id site ps ∷ []) h.flights);
      memory = (h.memory ∙ same_memory l number id site ps chosen);
      served = (sent.served ∙ ap (served_now id site number) h.served);
      unsettled = h.unsettled;
      lines = lines;
      sites = h.sites;
      synced = h.synced;
      starts = count;
      active = h.active;
      incoming = h.incoming;
    } in
    let raw : HoldsRaw w kept next = record { parts = parts; scan = r.scan; asked = r.asked; seen = still_begun c.deferred l next.waiting next.flights next.served next.past r.seen } in
    subst (λ k. HoldsRaw w k next) (sym (begun.rest ∙ ap (λ (x : Core). record x { lines = d.lines }) sent.rest)) raw

-- ---- no site comes to be unused

none_of : (b : Bool) → (b && not b) ≡ false
none_of true = refl
none_of false = refl

some_busy : (n : ℕ) → (n + 1 == 0) ≡ false
some_busy n = grind arith

and_false : (a : Bool) → (a && false) ≡ false
and_false true = refl
and_false false = refl

used_there : (l k : Ledger) (s : Site) (n : ℕ) → busy_in k.flights s ≡ n + 1 → (is_unused_in k.waiting k.flights s && not (is_unused_in l.waiting l.flights s)) ≡ false
used_there l k s n e =
    ap (λ m. (not (waits_at_in k.waiting s) && (m == 0)) && not (is_unused_in l.waiting l.flights s)) e
    ∙ ap (λ b. (not (waits_at_in k.waiting s) && b) && not (is_unused_in l.waiting l.flights s)) (some_busy n)
    ∙ ap (λ b. b && not (is_unused_in l.waiting l.flights s)) (and_false (not (waits_at_in k.waiting s)))

start_used : (l : Ledger) (number : ℕ) (id : Id) (site : Site) (ps : List ℕ) (s : Site) (b : Bool) → site_eq site s ≡ b →
    (is_unused_in (drop_first (is_row id site ps) l.waiting) (l.flights ++ delivery_at number id site ps ∷ []) s && not (is_unused_in l.waiting l.flights s)) ≡ false
start_used l number id site ps s true e =
    used_there l (after_start l number id site ps) s (busy_in l.flights s)
    (sum_by_push (λ (f : Delivery). cond (site_eq f.row.site s) 1 0) l.flights (delivery_at number id site ps) ∙ ap (λ b. busy_in l.flights s + cond b 1 0) e)
start_used l number id site ps s false e =
    let count : busy_in (l.flights ++ delivery_at number id site ps ∷ []) s ≡ busy_in l.flights s =
    sum_by_push (λ (f : Delivery). cond (site_eq f.row.site s) 1 0) l.flights (delivery_at number id site ps) ∙ ap (λ b. busy_in l.flights s + cond b 1 0) e ∙ add-zero (busy_in l.flights s) in
    let waits : waits_at_in (drop_first (is_row id site ps) l.waiting) s ≡ waits_at_in l.waiting s =
    list_any-drop_first (λ (x : Row). site_eq x.site s) (is_row id site ps) (λ y f. ap (λ (x : Row). site_eq x.site s) (is_row-true id site ps y f) ∙ e) l.waiting in
    ap (λ b. (not b && (busy_in (l.flights ++ delivery_at number id site ps ∷ []) s == 0)) && not (is_unused_in l.waiting l.flights s)) waits
    ∙ ap (λ n. (not (waits_at_in l.waiting s) && (n == 0)) && not (is_unused_in l.waiting l.flights s)) count
    ∙ none_of (is_unused_in l.waiting l.flights s)

-- ---- the whole entry

pub sent_law : {w : World} {c u v d : Core} {l : Ledger} → Agrees w c l → IsTrue (is_looked_at c) → (number : ℕ) (id : Id) (site : Site) (ps : List ℕ) (entry : ℕ) → start_rule w l ≡ Some (entries.Start number id site ps) →
    position (is_for id site) c.waiting ≡ Some entry → IsSent c u number id site entry → IsStarted u v id site.transport → IsTidied v d → Matches w d (tidied w l (noted (entries.Start number id site ps) (after_start l number id site ps)))
sent_law {w = w} {c = c} {u = u} {v = v} {d = d} {l = l} a looked number id site ps entry rule there sent begun s =
    let chosen = chosen_row w l number id site ps rule in
    let raw = raw_law a.matches looked in
    let row = row_there (is_for id site) c.waiting entry (row_at id site ps) there (ap (find (is_for id site)) a.matches.parts.waiting ∙ chosen.first) in
    tidy_used_law l (λ r. start_used l number id site ps r.site (site_eq site r.site) refl) (start_raw raw number id site ps entry chosen there row sent begun) s

-- the delivery is in flight by its number

or_last : {A : Type 0} (o q : Option A) → IsSome q → IsSome (option_or o q)
or_last None q h = h
or_last (Some x) q h = refl

pub last_flies : (fs : List Delivery) (r : Row) (number : ℕ) → IsSome (find (λ (x : Delivery). x.number == number) (fs ++ record { number = number; row = r } ∷ []))
last_flies fs r number =
    let p : Delivery → Bool = λ x. x.number == number in
    let f : Delivery = record { number = number; row = r } in
    subst (λ o. IsSome o) (sym (find-append p fs (f ∷ [])))
    (or_last (find p fs) (find p (f ∷ [])) (ap (λ b. is_some (cond b (Some f) None)) (eq-eqb number number refl)))

pub older : (fs : List Delivery) (n number : ℕ) → list_all (λ (f : Delivery). nat_le f.number n) fs ≡ true → number ≡ n + 1 → find (λ (f : Delivery). f.number == number) fs ≡ None
older [] n number h e = refl
older (f ∷ fs) n number h e =
    let both = and_true_parts (nat_le f.number n) (list_all (λ (x : Delivery). nat_le x.number n) fs) h in
    let differs : (f.number == number) ≡ false = other (f.number == number) refl in
    ap (λ b. cond b (Some f) (find (λ (x : Delivery). x.number == number) fs)) differs ∙ older fs n number both.1 e
  where
    other : (b : Bool) → (f.number == number) ≡ b → b ≡ false
    other false t = refl
    other true t =
        let same = eqb-true f.number number t in
        let less = leb-true f.number n (and_true_parts (nat_le f.number n) (list_all (λ (x : Delivery). nat_le x.number n) fs) h).0 in
        absurd (omega (arith, less, e, same))
