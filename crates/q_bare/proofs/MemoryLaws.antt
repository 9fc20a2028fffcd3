-- What is known of messages in memory, of leftovers and of what is picked is the same of a bare ledger.
use Rattle.std.proofs.Common.{◌≡◌, ℕ, ◌-◌, false, not, length, Option, ap, ◌∙◌}
use Rattle.std.proofs.Math.Path.{fun_ext}
use Rattle.std.specs.List.{list_any}
use Rattle.std.specs.Option.{option_and_then, option_map_or}
use Rattle.std.specs.Prelude.{◌&&◌, ◌||◌, ◌==◌, filter}
use Rattle.q_bare.proofs.BookLaws.{asked, ids_bare, names_bare, stands_bare, stands_in_bare}
use Rattle.q_bare.proofs.RecipientLaws.{length_bare}
use Rattle.q_bare.specs.Bare.{bare, bare_book}
use Rattle.q_model.specs.declared.id.Id.{Id}
use Rattle.q_model.specs.declared.rows.Admitted.{Admitted}
use Rattle.q_model.specs.declared.rows.DeferredName.{DeferredName}
use Rattle.q_model.specs.declared.rows.Scan.{Scan}
use Rattle.q_model.specs.Admissions.{cause_gone}
use Rattle.q_model.specs.Alternation.{deferred_next, incoming_next, is_pick, pick, pick_id, pick_of}
use Rattle.q_model.specs.Book.{Book}
use Rattle.q_model.specs.Finishing.{has_bounce, is_at_rest}
use Rattle.q_model.specs.Ids.{bounce_of, cause_of, id_before, id_eq}
use Rattle.q_model.specs.Leftovers.{is_leftover, is_next_leftover, leftovers, next_leftover, was_synced}
use Rattle.q_model.specs.Ledger.{Ledger}
use Rattle.q_model.specs.Lists.{least}
use Rattle.q_model.specs.Memory.{admitted_of, has_rows, is_admitted, is_idle, unread_count, unread_of}
use Rattle.q_model.specs.Places.{is_active, is_incoming}
use Rattle.q_model.specs.Scans.{is_ahead, name_before, scan_next}

pub unread_count_bare : (l : Ledger) (a : Admitted) → unread_count (bare l) a ≡ unread_count l a
unread_count_bare l a = asked (λ m. length m.recipients - a.unread) (λ m. length m.recipients - a.unread) 0 (λ m. ap (λ n. n - a.unread) (length_bare m)) l.book a.id

pub unread_bare : (l : Ledger) (id : Id) → unread_of (bare l) id ≡ unread_of l id
unread_bare l id = ap (λ (f : Admitted → ℕ). option_map_or f (admitted_of l id) 0) (fun_ext (unread_count_bare l))

pub idle_bare : (l : Ledger) (id : Id) → is_idle (bare l) id ≡ is_idle l id
idle_bare l id = ap (λ n. is_admitted l id && (n == 0) && not (has_rows l id)) (unread_bare l id)

pub leftovers_bare : (l : Ledger) → leftovers (bare l) ≡ leftovers l
leftovers_bare l = ap (filter (λ id. not (is_admitted l id))) (ids_bare is_active l.book)

pub leftover_bare : (l : Ledger) (id : Id) → is_leftover (bare l) id ≡ is_leftover l id
leftover_bare l id = ap (list_any (id_eq id)) (leftovers_bare l)

pub next_leftover_bare : (l : Ledger) → next_leftover (bare l) ≡ next_leftover l
next_leftover_bare l = ap (least id_before) (leftovers_bare l)

pub is_next_leftover_bare : (l : Ledger) (id : Id) → is_next_leftover (bare l) id ≡ is_next_leftover l id
is_next_leftover_bare l id = ap (λ o. option_map_or (λ x. id_eq x id) o false) (next_leftover_bare l)

pub rest_bare : (l : Ledger) (id : Id) → is_at_rest (bare l) id ≡ is_at_rest l id
rest_bare l id =
    ap (λ idle. idle || (is_leftover (bare l) id && was_synced l id)) (idle_bare l id)
    ∙ ap (λ left. is_idle l id || (left && was_synced l id)) (leftover_bare l id)

pub bounce_bare : (l : Ledger) (id : Id) → has_bounce (bare l) id ≡ has_bounce l id
bounce_bare l id = stands_in_bare is_incoming l.book (bounce_of id)

pub cause_bare : (b : Book) (id : Id) → cause_gone (bare_book b) id ≡ cause_gone b id
cause_bare b id = ap (λ there. not (id.bounce && there)) (stands_bare b (cause_of id))

-- ---- what is picked

pub incoming_bare : (l : Ledger) → incoming_next (bare l) ≡ incoming_next l
incoming_bare l = ap (least id_before) (ids_bare is_incoming l.book)

pub scan_bare : (b : Book) (s : Scan) → scan_next (bare_book b) s ≡ scan_next b s
scan_bare b s = ap (λ names. least name_before (filter (is_ahead s) names)) (names_bare b)

pub scanned_bare : (l : Ledger) → deferred_next (bare l) ≡ deferred_next l
scanned_bare l = ap (λ (f : Scan → Option DeferredName). option_and_then f l.scan) (fun_ext (scan_bare l.book))

pub pick_bare : (l : Ledger) → pick (bare l) ≡ pick l
pick_bare l =
    ap (λ id. pick_of l.deferred_follows id (deferred_next (bare l))) (incoming_bare l)
    ∙ ap (pick_of l.deferred_follows (incoming_next l)) (scanned_bare l)

pub is_pick_bare : (l : Ledger) (id : Id) → is_pick (bare l) id ≡ is_pick l id
is_pick_bare l id = ap (λ o. option_map_or (λ p. id_eq (pick_id p) id) o false) (pick_bare l)
