-- Settling the ledger after an entry: lines lose those who left them, and all else that fits together still does.
use Rattle.std.proofs.Common.{◌≡◌, ℕ, zero, suc, ◌+◌, Bool, true, false, not, List, [], ◌∷◌, map, filter, Option, Some, None, length, refl, sym, ap, ◌∙◌, subst, ◌≤◌, arith}
use Rattle.std.proofs.lemmas.Bool.{and_from, and_parts, not_from_false, or_left}
use Rattle.std.specs.List.{enumerate_from, list_all, list_any}
use Rattle.std.specs.Option.{option_map_or}
use Rattle.std.specs.Prelude.{◌==◌, ◌&&◌, nat_le, slice_get}
use Rattle.q_laws.proofs.Distinct.{distinct_filter, gone_listed}
use Rattle.q_laws.proofs.Members.{IsIn, all_from, in_filter, in_filtered, none_from}
use Rattle.q_laws.specs.Consistency.{IsBookConsistent, IsConsistent, IsFresh, IsRemembered, IsSyncedNext, IsUsable, are_once, is_filled, is_present, is_synced_well, is_within}
use Rattle.q_model.proofs.IdLaws.{id_eq-true}
use Rattle.q_model.specs.Book.{message_of}
use Rattle.q_model.specs.Ids.{are_distinct, id_eq}
use Rattle.q_model.specs.Ledger.{Ledger}
use Rattle.q_model.specs.Memory.{admitted_of, in_memory, is_admitted, unread_of}
use Rattle.q_model.specs.Message.{Message}
use Rattle.q_model.specs.Past.{starts}
use Rattle.q_model.specs.Scans.{live, new_scan, scan_next, tidy_scan, end_scan, tidy_scan_at, tidy_scan_of}
use Rattle.q_model.specs.Settings.{World}
use Rattle.q_model.specs.Startable.{line_of}
use Rattle.q_model.specs.Step.{after, change, noted, tidy_line, tidied, stays}
use Rattle.q_model.specs.UnusedSites.{tidied_sites}
use Rattle.q_model.specs.Values.{Served, SiteRecord}
use Rattle.q_model.specs.declared.entry.Entry.{Entry}
use Rattle.q_model.specs.declared.id.Id.{Id}
use Rattle.q_model.specs.declared.rows.Admitted.{Admitted}
use Rattle.q_model.specs.declared.rows.DeferredName.{DeferredName}
use Rattle.q_model.specs.declared.rows.Request.{Request}
use Rattle.q_model.specs.declared.rows.Scan.{Scan}
use Rattle.q_model.specs.Sites.{site_eq}

-- what fits together in memory before the ledger is tidied: all but the lines
pub record IsMemoryReady (w : World) (l : Ledger) : Type 0 where
  pub admitted : are_distinct (map (λ a. a.id) l.admitted) ≡ true
  pub present : list_all (is_present l) l.admitted ≡ true
  pub within : list_all (is_within l) l.admitted ≡ true
  pub waiting : list_all (λ r. is_admitted l r.id) l.waiting ≡ true
  pub filled : list_all is_filled l.waiting ≡ true
  pub flights : list_all (λ f. is_admitted l f.row.id) l.flights ≡ true
  pub unsettled : list_all (λ u. is_admitted l u.id) l.unsettled ≡ true
  pub remembered : (a : Admitted) (m : Message) → admitted_of l a.id ≡ Some a → message_of l.book a.id ≡ Some m → IsRemembered l a m
  pub numbers : are_once (map (λ f. f.number) l.flights) ≡ true
  pub begun : list_all (λ f. nat_le f.number (starts l)) l.flights ≡ true
  pub single : list_all are_distinct l.lines ≡ true
  pub fresh : (id : Id) (transport : ℕ) → IsFresh l id transport
  pub synced : list_all (is_synced_well l) l.synced ≡ true
  pub synced_next : (id : Id) → IsSyncedNext l id
  pub messages : length l.admitted ≤ w.settings.active_limit
  pub recipients : in_memory l ≤ w.settings.recipient_limit

-- the ledger is consistent once it is tidied
pub record IsReady (w : World) (l : Ledger) : Type 0 where
  pub usable : IsUsable w
  pub book : IsBookConsistent l
  pub memory : IsMemoryReady w l

-- ---- the scan

over : (l : Ledger) (o : Option Request) → (s : Option Scan) × (q : Option Request) × (end_scan l o ≡ record l { scan = s; asked = q })
over l None = (None, l.asked, refl)
over l (Some request) = (live l.book (new_scan l.now request), None, refl)

goes_on : (l : Ledger) (o : Option DeferredName) → (s : Option Scan) × (q : Option Request)
    × (tidy_scan_at l o ≡ record l { scan = s; asked = q })
goes_on l (Some n) = (l.scan, l.asked, refl)
goes_on l None = over l l.asked

scanned : (l : Ledger) (o : Option Scan) → (s : Option Scan) × (q : Option Request)
    × (tidy_scan_of l o ≡ record l { scan = s; asked = q })
scanned l None = (l.scan, l.asked, refl)
scanned l (Some s) = goes_on l (scan_next l.book s)

-- of a ledger only the scan and the request are tidied
pub tidy_scan_is : (l : Ledger) → (s : Option Scan) × (q : Option Request) × (tidy_scan l ≡ record l { scan = s; asked = q })
tidy_scan_is l = scanned l l.scan

-- ---- the lines

numbered_stay : (l : Ledger) (n : ℕ) (ls : List (List Id)) → list_all (λ (line : ℕ × List Id). list_all (stays l line.0) line.1) (enumerate_from n (map (tidy_line l) (enumerate_from n ls))) ≡ true
numbered_stay l n [] = refl
numbered_stay l n (ids ∷ ls) =
    and_from (list_all (stays l n) (filter (stays l n) ids)) (list_all (λ (line : ℕ × List Id). list_all (stays l line.0) line.1) (enumerate_from (n + 1) (map (tidy_line l) (enumerate_from (n + 1) ls))))
    (all_from (stays l n) (filter (stays l n) ids) (λ x k. (in_filtered (stays l n) x ids k).1)) (numbered_stay l (n + 1) ls)

numbered_single : (l : Ledger) (n : ℕ) (ls : List (List Id)) → list_all are_distinct ls ≡ true → list_all are_distinct (map (tidy_line l) (enumerate_from n ls)) ≡ true
numbered_single l n [] h = refl
numbered_single l n (ids ∷ ls) h =
    let two = and_parts (are_distinct ids) (list_all are_distinct ls) h in
    and_from (are_distinct (filter (stays l n) ids)) (list_all are_distinct (map (tidy_line l) (enumerate_from (n + 1) ls))) (distinct_filter (stays l n) ids two.0) (numbered_single l (n + 1) ls two.1)

abbrev line_at : Option (List Id) → List Id
line_at o = option_map_or (λ ids. ids) o []

-- a line after all lines were changed
pub line_mapped : (f : (ℕ × List Id) → List Id) → ((n : ℕ) → f (n, []) ≡ []) → (n t j : ℕ) (ls : List (List Id)) → j ≡ n + t → line_at (slice_get (map f (enumerate_from n ls)) t) ≡ f (j, line_at (slice_get ls t))
line_mapped f h n t j [] e = sym (h j)
line_mapped f h n zero j (ids ∷ ls) e = let same : n ≡ j = omega arith in ap (λ k. f (k, ids)) same
line_mapped f h n (suc t) j (ids ∷ ls) e = line_mapped f h (n + 1) t j ls (omega arith)

line_tidied : (l : Ledger) (t : ℕ) → line_at (slice_get (map (tidy_line l) (enumerate_from 0 l.lines)) t) ≡ filter (stays l t) (line_of l t)
line_tidied l t = line_mapped (tidy_line l) (λ n. refl) 0 t t l.lines (omega arith)

-- who has something unread and isn't in the line that was tidied, wasn't in it before
still_gone : (l : Ledger) (id : Id) (t : ℕ) → (unread_of l id == 0) ≡ false → list_any (id_eq id) (line_at (slice_get (map (tidy_line l) (enumerate_from 0 l.lines)) t)) ≡ false → list_any (id_eq id) (line_of l t) ≡ false
still_gone l id t some gone =
    let stay : stays l t id ≡ true = or_left (not (unread_of l id == 0)) (list_any (λ r. id_eq r.id id && (r.site.transport == t)) l.waiting) (not_from_false (unread_of l id == 0) some) in
    let out : list_any (id_eq id) (filter (stays l t) (line_of l t)) ≡ false = ap (list_any (id_eq id)) (sym (line_tidied l t)) ∙ gone in
    none_from (id_eq id) (line_of l t) (λ x k. other x k (id_eq id x) refl out stay)
  where
    other : (x : Id) → IsIn x (line_of l t) → (b : Bool) → id_eq id x ≡ b → list_any (id_eq id) (filter (stays l t) (line_of l t)) ≡ false → stays l t id ≡ true → id_eq id x ≡ false
    other x k false e out stay = e
    other x k true e out stay = absurd (gone_listed id (filter (stays l t) (line_of l t)) out (in_filter (stays l t) id (line_of l t) (subst (λ y. IsIn y (line_of l t)) (sym (id_eq-true id x e)) k) stay))

abbrev tidied_by : Ledger → Option Scan → Option Request → List Served → List SiteRecord → Ledger
tidied_by l s q served sites = record l { scan = s; asked = q; lines = map (tidy_line l) (enumerate_from 0 l.lines); served = served; sites = sites }

ready_tidied : (w : World) (l : Ledger) (s : Option Scan) (q : Option Request) (served : List Served) (sites : List SiteRecord) → IsReady w l → IsConsistent w (tidied_by l s q served sites)
ready_tidied w l s q served sites h =
    let m = h.memory in
    record {
      usable = h.usable;
      book = record { distinct = h.book.distinct; orderly = h.book.orderly; firm = h.book.firm; come = h.book.come };
      memory = record {
        admitted = m.admitted;
        present = m.present;
        within = m.within;
        waiting = m.waiting;
        filled = m.filled;
        flights = m.flights;
        unsettled = m.unsettled;
        remembered = λ a x f g. let k = m.remembered a x f g in record { read = k.read; once = k.once; unmarked = k.unmarked; logged = k.logged };
        numbers = m.numbers;
        begun = m.begun;
        single = numbered_single l 0 l.lines m.single;
        lines = numbered_stay l 0 l.lines;
        fresh = λ id t some gone. m.fresh id t some (still_gone l id t some gone);
        synced = m.synced;
        synced_next = λ id left was. m.synced_next id left was;
        messages = m.messages;
        recipients = m.recipients;
      };
    }

-- tidying makes a ledger that is ready consistent
pub tidied_consistent : (w : World) (before l : Ledger) → IsReady w l → IsConsistent w (tidied w before l)
tidied_consistent w before l h =
    let scan = tidy_scan_is l in
    subst (λ k. IsConsistent w (record k {
      lines = map (tidy_line l) (enumerate_from 0 l.lines);
      served = filter (λ (s : Served). list_any (λ r. id_eq r.id s.id && site_eq r.site s.site) l.waiting) l.served;
      sites = tidied_sites w before l;
    })) (sym scan.2) (ready_tidied w l scan.0 scan.1 (filter (λ (s : Served). list_any (λ r. id_eq r.id s.id && site_eq r.site s.site) l.waiting) l.served) (tidied_sites w before l) h)

-- after an entry: what it changes, with the entry noted, has to be ready
pub after_consistent : (w : World) (l : Ledger) (e : Entry) → IsReady w (noted e (change w l e)) → IsConsistent w (after w l e)
unfolding after
after_consistent w l e h = tidied_consistent w l (noted e (change w l e)) h
