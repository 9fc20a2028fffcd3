-- What is known before any message in memory or any row is looked at: no marks to sync, no site that is dead.
use Rattle.std.proofs.Common.{◌≡◌, ℕ, ◌≤◌, Bool, false, List, [], ◌∷◌, length, refl, ap, ◌∙◌, arith, Option, Some, None, option_map, not}
use Rattle.std.proofs.lemmas.Grind.{common_steps}
use Rattle.std.specs.List.{list_any}
use Rattle.std.specs.Option.{option_map_or}
use Rattle.std.specs.Prelude.{◌&&◌, ◌||◌, nat_le, nat_lt}
use Rattle.q_laws.proofs.Members.{IsIn, find_in, find_none_from, none_at}
use Rattle.q_ledger.specs.Deciding.{sync_in}
use Rattle.q_ledger.specs.Held.{is_idle_in, wants_sync_in}
use Rattle.q_ledger.specs.State.{State}
use Rattle.q_ledger.specs.declared.admitted.Slot.{Slot}
use Rattle.q_model.specs.Book.{message_of}
use Rattle.q_model.specs.Finishing.{is_clean}
use Rattle.q_model.specs.Ids.{id_eq}
use Rattle.q_model.specs.Ledger.{Ledger}
use Rattle.q_model.specs.Lists.{has_none}
use Rattle.q_model.specs.Message.{Message, written_marks}
use Rattle.q_model.specs.Next.{marks_of, skip_of, skip_rule}
use Rattle.q_model.specs.Settings.{World}
use Rattle.q_model.specs.SiteRecords.{is_alive, is_dead_site, record_of}
use Rattle.q_model.specs.Sites.{site_eq}
use Rattle.q_model.specs.Values.{Site, SiteRecord}
use Rattle.q_model.specs.declared.entry.Entry.TheVariants as entries
use Rattle.q_model.specs.declared.id.Id.{Id}
use Rattle.q_model.specs.declared.rows.Row.{Row}

-- ---- marks

none_counted : (ns : List ℕ) → not (has_none ns) ≡ false → length ns ≡ 0
none_counted [] h = refl
none_counted (n ∷ ns) h = absurd cc

marks_by : (l : Ledger) (o : Option Message) → list_any (λ m. not (is_clean m)) l.book.messages ≡ false → ((m : Message) → o ≡ Some m → IsIn m l.book.messages) → option_map_or (λ m. length (written_marks m)) o 0 ≡ 0
marks_by l None h inside = refl
marks_by l (Some m) h inside = none_counted (written_marks m) (none_at (λ (x : Message). not (is_clean x)) m l.book.messages h (inside m refl))

-- a message has no marks that a crash may lose where none has
no_marks : (l : Ledger) → list_any (λ m. not (is_clean m)) l.book.messages ≡ false → (id : Id) → marks_of l id ≡ 0
no_marks l h id = marks_by l (message_of l.book id) h (λ m e. (find_in (λ (x : Message). id_eq x.id id) m l.book.messages e).0)

not_wanted : (limit : ℕ) (idle : Bool) → 1 ≤ limit → (nat_le limit 0 || (nat_lt 0 0 && idle)) ≡ false
not_wanted limit idle h = grind (arith, common_steps, h)

none_wants : (w : World) (s : State) → 1 ≤ w.settings.mark_sync_limit → list_any (λ m. not (is_clean m)) s.ledger.book.messages ≡ false → (x : Slot) → wants_sync_in w s x ≡ false
none_wants w s some h x =
    ap (λ n. nat_le w.settings.mark_sync_limit n || (nat_lt 0 n && is_idle_in s x.id)) (no_marks s.ledger h x.id)
    ∙ not_wanted w.settings.mark_sync_limit (is_idle_in s x.id) some

pub no_sync : (w : World) (s : State) → 1 ≤ w.settings.mark_sync_limit → list_any (λ m. not (is_clean m)) s.ledger.book.messages ≡ false → sync_in w s ≡ None
no_sync w s some h = ap (option_map (λ (x : Slot). entries.Sync x.id)) (find_none_from (wants_sync_in w s) s.slots (λ x inside. none_wants w s some h x))

-- ---- sites

dead_by : (l : Ledger) (o : Option SiteRecord) → list_any (λ r. not (is_alive r.health)) l.sites ≡ false → ((r : SiteRecord) → o ≡ Some r → IsIn r l.sites) → option_map_or (λ r. not (is_alive r.health)) o false ≡ false
dead_by l None h inside = refl
dead_by l (Some r) h inside = none_at (λ (x : SiteRecord). not (is_alive x.health)) r l.sites h (inside r refl)

no_dead_site : (l : Ledger) → list_any (λ r. not (is_alive r.health)) l.sites ≡ false → (site : Site) → is_dead_site l site ≡ false
no_dead_site l h site = dead_by l (record_of l site) h (λ r e. (find_in (λ (x : SiteRecord). site_eq x.site site) r l.sites e).0)

pub no_skip : (l : Ledger) → list_any (λ r. not (is_alive r.health)) l.sites ≡ false → skip_rule l ≡ None
no_skip l h = ap (option_map skip_of) (find_none_from (λ (r : Row). is_dead_site l r.site) l.waiting (λ r inside. no_dead_site l h r.site))
