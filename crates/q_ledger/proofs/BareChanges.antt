-- A bare ledger stays bare as messages are marked and failures are stored, and is tidied as the ledger is.
use Rattle.std.proofs.Common.{◌≡◌, ℕ, ◌+◌, Bool, true, false, not, List, [], ◌∷◌, map, Option, Some, None, refl, sym, ap, ◌∙◌, if◌then◌else◌}
use Rattle.std.proofs.Math.Path.{fun_ext}
use Rattle.std.specs.List.{cons_option, enumerate_from, list_any}
use Rattle.std.specs.Option.{option_and_then}
use Rattle.std.specs.Prelude.{◌&&◌, ◌||◌, ◌==◌, ◌++◌, filter, filter_map}
use Rattle.q_bare.specs.Bare.{bare, bare_book, bare_message, bare_recipient}
use Rattle.q_ledger.proofs.BareLaws.{unread_bare}
use Rattle.q_model.specs.Book.{Book, Damaged}
use Rattle.q_model.specs.BookChanges.{change_message}
use Rattle.q_model.specs.Ids.{id_eq}
use Rattle.q_model.specs.Ledger.{Ledger}
use Rattle.q_model.specs.Lists.{least}
use Rattle.q_model.specs.Logs.{with_failure}
use Rattle.q_model.specs.Marking.{mark_one, with_mark}
use Rattle.q_model.specs.Marks.{sync_mark}
use Rattle.q_model.specs.Message.{Message, Recipient}
use Rattle.q_model.specs.Scans.{deferred_name, end_scan, is_ahead, name_before, new_scan, scan_next, tidy_scan, tidy_scan_at, tidy_scan_of}
use Rattle.q_model.specs.Settings.{World}
use Rattle.q_model.specs.Sites.{site_eq}
use Rattle.q_model.specs.Step.{stays, tidied, tidy_line}
use Rattle.q_model.specs.Syncs.{sync_all}
use Rattle.q_model.specs.UnusedSites.{tidied_sites}
use Rattle.q_model.specs.Values.{Served}
use Rattle.q_model.specs.declared.id.Id.{Id}
use Rattle.q_model.specs.declared.outcome.Failure.{Failure}
use Rattle.q_model.specs.declared.rows.DeferredName.{DeferredName}
use Rattle.q_model.specs.declared.rows.Request.{Request}
use Rattle.q_model.specs.declared.rows.Scan.{Scan}
use Rattle.q_model.specs.declared.rows.Mark.TheVariants as marks

-- ---- what is bare stays so

-- a ledger of a bare book without past entries
pub still_bare : (b k : Ledger) → bare b ≡ b → bare_book k.book ≡ k.book → k.past ≡ b.past → bare k ≡ k
still_bare b k h book past =
    let none : [] ≡ k.past = ap (λ (l : Ledger). l.past) h ∙ sym past in
    ap (λ (x : Book). record k { book = x; past = [] }) book ∙ ap (λ es. record k { past = es }) none

-- ---- a message changes

changed_step : (b : Bool) (f : Message → Message) → ((m : Message) → f (bare_message m) ≡ bare_message (f m)) → (m : Message) → (if b then f (bare_message m) else bare_message m) ≡ bare_message (if b then f m else m)
changed_step true f h m = h m
changed_step false f h m = refl

changed : (id : Id) (f : Message → Message) → ((m : Message) → f (bare_message m) ≡ bare_message (f m)) → (ms : List Message) →
    map (λ (m : Message). if id_eq m.id id then f m else m) (map bare_message ms) ≡ map bare_message (map (λ (m : Message). if id_eq m.id id then f m else m) ms)
changed id f h [] = refl
changed id f h (m ∷ ms) =
    ap (λ x. x ∷ map (λ (y : Message). if id_eq y.id id then f y else y) (map bare_message ms)) (changed_step (id_eq m.id id) f h m)
    ∙ ap (λ xs. bare_message (if id_eq m.id id then f m else m) ∷ xs) (changed id f h ms)

pub change_bare : (b : Book) (id : Id) (f : Message → Message) → ((m : Message) → f (bare_message m) ≡ bare_message (f m)) → bare_book b ≡ b → bare_book (change_message b id f) ≡ change_message b id f
change_bare b id f h e = ap (λ ms. record b { messages = ms }) (sym (changed id f h b.messages)) ∙ ap (λ (x : Book). change_message x id f) e

pub failure_bare : (f : Failure) (m : Message) → with_failure f (bare_message m) ≡ bare_message (with_failure f m)
failure_bare f m = refl

marked_step : (b : Bool) (x y : Recipient) → (if b then bare_recipient x else bare_recipient y) ≡ bare_recipient (if b then x else y)
marked_step true x y = refl
marked_step false x y = refl

marked : (p n : ℕ) (rs : List Recipient) → map (mark_one p) (enumerate_from n (map bare_recipient rs)) ≡ map bare_recipient (map (mark_one p) (enumerate_from n rs))
marked p n [] = refl
marked p n (r ∷ rs) =
    ap (λ x. x ∷ map (mark_one p) (enumerate_from (n + 1) (map bare_recipient rs))) (marked_step (n == p) (record r { mark = marks.Written }) r)
    ∙ ap (λ xs. bare_recipient (mark_one p (n, r)) ∷ xs) (marked p (n + 1) rs)

pub mark_bare : (p : ℕ) (m : Message) → with_mark p (bare_message m) ≡ bare_message (with_mark p m)
mark_bare p m = ap (λ rs. record (bare_message m) { recipients = rs }) (marked p 0 m.recipients)

synced : (rs : List Recipient) → map (λ (r : Recipient). record r { mark = sync_mark r.mark }) (map bare_recipient rs) ≡ map bare_recipient (map (λ (r : Recipient). record r { mark = sync_mark r.mark }) rs)
synced [] = refl
synced (r ∷ rs) = ap (λ xs. bare_recipient (record r { mark = sync_mark r.mark }) ∷ xs) (synced rs)

pub synced_bare : (m : Message) → sync_all (bare_message m) ≡ bare_message (sync_all m)
synced_bare m = ap (λ rs. record (bare_message m) { recipients = rs }) (synced m.recipients)

-- ---- tidying

names_here : (ms : List Message) → filter_map (λ (m : Message). deferred_name m.place m.id) (map bare_message ms) ≡ filter_map (λ (m : Message). deferred_name m.place m.id) ms
names_here [] = refl
names_here (m ∷ ms) = ap (cons_option (deferred_name m.place m.id)) (names_here ms)

scan_bare : (b : Book) (s : Scan) → scan_next (bare_book b) s ≡ scan_next b s
scan_bare b s = ap (λ (ns : List DeferredName). least name_before (filter (is_ahead s) (ns ++ filter_map (λ (d : Damaged). deferred_name d.place d.id) b.damaged))) (names_here b.messages)

stays_bare : (l : Ledger) (t : ℕ) (id : Id) → stays (bare l) t id ≡ stays l t id
stays_bare l t id = ap (λ n. not (n == 0) || list_any (λ r. id_eq r.id id && (r.site.transport == t)) l.waiting) (unread_bare l id)

line_bare : (l : Ledger) (line : ℕ × List Id) → tidy_line (bare l) line ≡ tidy_line l line
line_bare l line = ap (λ (p : Id → Bool). filter p line.1) (fun_ext (stays_bare l line.0))

end_bare : (l : Ledger) (asked : Option Request) → end_scan (bare l) asked ≡ bare (end_scan l asked)
end_bare l None = refl
end_bare l (Some request) =
    ap (λ (n : Option DeferredName). record (bare l) { scan = option_and_then (λ _. Some (new_scan l.now request)) n; asked = None }) (scan_bare l.book (new_scan l.now request))

scan_at_bare : (l : Ledger) (o : Option DeferredName) → tidy_scan_at (bare l) o ≡ bare (tidy_scan_at l o)
scan_at_bare l None = end_bare l l.asked
scan_at_bare l (Some name) = refl

scan_of_bare : (l : Ledger) (o : Option Scan) → tidy_scan_of (bare l) o ≡ bare (tidy_scan_of l o)
scan_of_bare l None = refl
scan_of_bare l (Some s) = ap (tidy_scan_at (bare l)) (scan_bare l.book s) ∙ scan_at_bare l (scan_next l.book s)

-- what is tidied of a bare ledger is what the tidied ledger leaves
pub tidied_bare : (w : World) (before l : Ledger) → tidied w before (bare l) ≡ bare (tidied w before l)
tidied_bare w before l =
    let served : List Served = filter (λ (s : Served). list_any (λ r. id_eq r.id s.id && site_eq r.site s.site) l.waiting) l.served in
    ap (λ (s : Ledger). record s { lines = map (tidy_line (bare l)) (enumerate_from 0 l.lines); served = served; sites = tidied_sites w before l }) (scan_of_bare l l.scan)
    ∙ ap (λ (f : (ℕ × List Id) → List Id). record (bare (tidy_scan l)) { lines = map f (enumerate_from 0 l.lines); served = served; sites = tidied_sites w before l }) (fun_ext (line_bare l))
