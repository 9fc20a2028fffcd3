-- What each entry of a consistent ledger keeps of limits, windows, delays and accounts, and that a message leaves when it is done.
use Rattle.std.proofs.Common.{◌≡◌, ℕ, ◌+◌, ◌-◌, ◌*◌, true, false, not, [], map, Option, Some, None, refl, sym, subst, eqb-true, leb-true}
use Rattle.std.proofs.lemmas.Bool.{and_parts}
use Rattle.std.specs.List.{list_any}
use Rattle.std.specs.Option.{option_map_or}
use Rattle.std.specs.Prelude.{◌==◌, ◌&&◌, ◌||◌, nat_le}
use Rattle.q_laws.proofs.Beginnings.{life_consistent}
use Rattle.q_laws.proofs.Kept.{entry_consistent}
use Rattle.q_laws.proofs.Members.{in_filtered, least_in}
use Rattle.q_laws.proofs.Places.{none_of}
use Rattle.q_laws.proofs.Resting.{keeps_apart}
use Rattle.q_laws.specs.Consistency.{IsConsistent}
use Rattle.q_laws.specs.Traces.{IsWithinLimits}
use Rattle.q_lives.proofs.Throughout.{HoldsAtEntries, HoldsAtFirst}
use Rattle.q_lives.proofs.Windows.{start_window}
use Rattle.q_lives.specs.Throughout.{DeliversApart, FitsAccount, FitsWindow, IsPaid, KeepsLimits, LeavesDone}
use Rattle.q_model.proofs.IdLaws.{id_eq-true}
use Rattle.q_model.specs.Accounts.{charged, job_left, starts_of}
use Rattle.q_model.specs.Book.{message_of}
use Rattle.q_model.specs.Candidates.{ids_behind, best, candidates, is_better, is_candidate, pays}
use Rattle.q_model.specs.Finishing.{has_bounce, is_at_rest, is_clean, is_done, wants_bounce}
use Rattle.q_model.specs.Ids.{id_eq}
use Rattle.q_model.specs.Ledger.{Ledger, opening}
use Rattle.q_model.specs.Lists.{has_none}
use Rattle.q_model.specs.Message.{Message, pending, unmarked_logged}
use Rattle.q_model.specs.Places.{is_active}
use Rattle.q_model.specs.Preemptions.{is_best, is_current, may_preempt}
use Rattle.q_model.specs.Settings.{World}
use Rattle.q_model.specs.Startable.{can_start, line_of}
use Rattle.q_model.specs.Step.{after, may}
use Rattle.q_model.specs.declared.id.Id.{Id}
use Rattle.q_model.specs.declared.rows.Admitted.{Admitted}
use Rattle.q_model.specs.declared.entry.Entry.TheVariants as entries

-- ---- limits

limits_of : (w : World) (l : Ledger) → IsConsistent w l → IsWithinLimits w l
limits_of w l c = record { messages = c.memory.messages; recipients = c.memory.recipients }

pub limits_first : HoldsAtFirst KeepsLimits
limits_first w mode book usable good = limits_of w (after w (opening mode book) (entries.Life (book.generation + 1) mode)) (life_consistent w (opening mode book) mode usable good.distinct good.orderly)

pub limits_entries : HoldsAtEntries KeepsLimits
limits_entries w l e c can is = limits_of w (after w l e) (entry_consistent w l e c is)

-- ---- windows

pub windows_first : HoldsAtFirst FitsWindow
windows_first w mode book usable good = tt

pub windows_entries : HoldsAtEntries FitsWindow
windows_entries w l (entries.Start number id site positions) c can is = start_window w l number id site positions can
windows_entries w l (entries.Life generation mode) c can is = tt
windows_entries w l (entries.At t) c can is = tt
windows_entries w l (entries.Arrive id sender to content) c can is = tt
windows_entries w l (entries.Back id) c can is = tt
windows_entries w l (entries.Admit id) c can is = tt
windows_entries w l (entries.Load id from to) c can is = tt
windows_entries w l (entries.Preempt child parent transport need) c can is = tt
windows_entries w l (entries.Reply number state outcomes) c can is = tt
windows_entries w l (entries.Skip id site positions) c can is = tt
windows_entries w l (entries.Log id failure) c can is = tt
windows_entries w l (entries.Mark id position) c can is = tt
windows_entries w l (entries.Sync id) c can is = tt
windows_entries w l (entries.Defer id due) c can is = tt
windows_entries w l (entries.Bounce id) c can is = tt
windows_entries w l (entries.Remove id) c can is = tt
windows_entries w l (entries.Corrupt id) c can is = tt
windows_entries w l (entries.Trigger kind) c can is = tt
windows_entries w l entries.End c can is = tt

-- ---- delays

-- before a life begins no delivery is in flight
pub apart_first : HoldsAtFirst DeliversApart
apart_first w mode book usable good number state outcomes f found = absurd cc

pub apart_entries : HoldsAtEntries DeliversApart
apart_entries w l e c can is = keeps_apart w l c

-- ---- accounts

pays_paid : (w : World) (l : Ledger) (transport : ℕ) (child parent : Id) (need : ℕ) → need ≡ job_left l child transport → pays w l transport parent need ≡ true → IsPaid w l child parent transport need
pays_paid w l transport child parent need all h =
    let cost = w.settings.slot_cost in
    let charge = cost * charged l parent transport in
    let started = starts_of l parent transport in
    let left = job_left l parent transport in
    let a = nat_le (need * (100 - w.settings.slot_discount) * cost + 100 * charge) (100 * (started + w.settings.slot_loan * cost)) in
    let b = nat_le (cost * need + charge) (started + left) in
    let d = nat_le (cost * w.settings.minimum_slots) (started + left) in
    let two = and_parts (a && b) d h in
    let one = and_parts a b two.0 in
    record {
      whole_need = all;
      loan = leb-true (need * (100 - w.settings.slot_discount) * cost + 100 * charge) (100 * (started + w.settings.slot_loan * cost)) one.0;
      whole = leb-true (cost * need + charge) (started + left) one.1;
      minimum = leb-true (cost * w.settings.minimum_slots) (started + left) two.1;
    }

best_paid : (w : World) (l : Ledger) (transport : ℕ) (parent child : Id) (o : Option Id) → best w l transport parent ≡ o → option_map_or (λ b. id_eq b child) o false ≡ true → IsPaid w l child parent transport (job_left l child transport)
best_paid w l transport parent child None e h = absurd cc
best_paid w l transport parent child (Some b) e h =
    let good = (in_filtered (is_candidate w l transport parent) b (map (λ (a : Admitted). a.id) l.admitted) (least_in (is_better l transport) b (candidates w l transport parent) e)).1 in
    let first = not (w.settings.slot_cost == 0) && list_any (id_eq b) (ids_behind parent (line_of l transport)) && (starts_of l b transport == 0) && can_start w l transport b in
    let paid = (and_parts first (pays w l transport parent (job_left l b transport)) good).1 in
    subst (λ (i : Id). IsPaid w l i parent transport (job_left l i transport)) (id_eq-true b child h) (pays_paid w l transport b parent (job_left l b transport) refl paid)

preempt_paid : (w : World) (l : Ledger) (child parent : Id) (transport need : ℕ) → may_preempt w l child parent transport need ≡ true → IsPaid w l child parent transport need
preempt_paid w l child parent transport need h =
    let two = and_parts (is_current w l transport parent && is_best w l transport parent child) (need == job_left l child transport) h in
    let one = and_parts (is_current w l transport parent) (is_best w l transport parent child) two.0 in
    subst (IsPaid w l child parent transport) (sym (eqb-true need (job_left l child transport) two.1)) (best_paid w l transport parent child (best w l transport parent) refl one.1)

pub accounts_first : HoldsAtFirst FitsAccount
accounts_first w mode book usable good = tt

pub accounts_entries : HoldsAtEntries FitsAccount
accounts_entries w l (entries.Preempt child parent transport need) c can is = preempt_paid w l child parent transport need can
accounts_entries w l (entries.Start number id site positions) c can is = tt
accounts_entries w l (entries.Life generation mode) c can is = tt
accounts_entries w l (entries.At t) c can is = tt
accounts_entries w l (entries.Arrive id sender to content) c can is = tt
accounts_entries w l (entries.Back id) c can is = tt
accounts_entries w l (entries.Admit id) c can is = tt
accounts_entries w l (entries.Load id from to) c can is = tt
accounts_entries w l (entries.Reply number state outcomes) c can is = tt
accounts_entries w l (entries.Skip id site positions) c can is = tt
accounts_entries w l (entries.Log id failure) c can is = tt
accounts_entries w l (entries.Mark id position) c can is = tt
accounts_entries w l (entries.Sync id) c can is = tt
accounts_entries w l (entries.Defer id due) c can is = tt
accounts_entries w l (entries.Bounce id) c can is = tt
accounts_entries w l (entries.Remove id) c can is = tt
accounts_entries w l (entries.Corrupt id) c can is = tt
accounts_entries w l (entries.Trigger kind) c can is = tt
accounts_entries w l entries.End c can is = tt

-- ---- who leaves

remove_on : (l : Ledger) (id : Id) (m : Message) → option_map_or (λ (x : Message). is_active x.place && is_at_rest l id && is_done x && (not (wants_bounce x) || has_bounce l id)) (Some m) false ≡ true → pending m ≡ []
remove_on l id m h =
    let three = and_parts (is_active m.place && is_at_rest l id && is_done m) (not (wants_bounce m) || has_bounce l id) h in
    let two = and_parts (is_active m.place && is_at_rest l id) (is_done m) three.0 in
    let one = and_parts (has_none (pending m) && has_none (unmarked_logged m)) (is_clean m) two.1 in
    none_of (pending m) (and_parts (has_none (pending m)) (has_none (unmarked_logged m)) one.0).0

remove_done : (w : World) (l : Ledger) (id : Id) → may w l (entries.Remove id) ≡ true → (m : Message) → message_of l.book id ≡ Some m → pending m ≡ []
remove_done w l id can m there =
    remove_on l id m (subst (λ (o : Option Message). option_map_or (λ (x : Message). is_active x.place && is_at_rest l id && is_done x && (not (wants_bounce x) || has_bounce l id)) o false ≡ true) there can)

pub done_first : HoldsAtFirst LeavesDone
done_first w mode book usable good = tt

pub done_entries : HoldsAtEntries LeavesDone
done_entries w l (entries.Remove id) c can is = remove_done w l id can
done_entries w l (entries.Preempt child parent transport need) c can is = tt
done_entries w l (entries.Start number id site positions) c can is = tt
done_entries w l (entries.Life generation mode) c can is = tt
done_entries w l (entries.At t) c can is = tt
done_entries w l (entries.Arrive id sender to content) c can is = tt
done_entries w l (entries.Back id) c can is = tt
done_entries w l (entries.Admit id) c can is = tt
done_entries w l (entries.Load id from to) c can is = tt
done_entries w l (entries.Reply number state outcomes) c can is = tt
done_entries w l (entries.Skip id site positions) c can is = tt
done_entries w l (entries.Log id failure) c can is = tt
done_entries w l (entries.Mark id position) c can is = tt
done_entries w l (entries.Sync id) c can is = tt
done_entries w l (entries.Defer id due) c can is = tt
done_entries w l (entries.Bounce id) c can is = tt
done_entries w l (entries.Corrupt id) c can is = tt
done_entries w l (entries.Trigger kind) c can is = tt
done_entries w l entries.End c can is = tt
