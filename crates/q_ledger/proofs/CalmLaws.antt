-- The clock and the triggers change no list but that of sites.
use Rattle.std.proofs.Common.{◌≡◌, ℕ, Bool, true, false, List, filter, find, length, not, Option, Some, None, refl, sym, ap, ◌∙◌, if◌then◌else◌}
use Rattle.std.specs.List.{list_any}
use Rattle.std.specs.Option.{option_map_or}
use Rattle.std.specs.Prelude.{◌==◌, nat_le}
use Rattle.q_bare.specs.Bare.{bare}
use Rattle.q_bare.specs.Counts.{Counts}
use Rattle.q_ledger.proofs.BareLaws.{bare_same}
use Rattle.q_ledger.proofs.HeldLaws.{held_bare}
use Rattle.q_ledger.proofs.QuietLaws.{bare_tidy, left_tidy, tidy_still}
use Rattle.q_ledger.proofs.RecountLaws.{KeepsRows, counted_still, unread_same}
use Rattle.q_ledger.specs.Beside.{IsBeside, IsOfLedger, recipients_in}
use Rattle.q_ledger.specs.Changed.{with_ledger}
use Rattle.q_ledger.specs.State.{State}
use Rattle.q_ledger.specs.Taking.{IsChanged, site_left}
use Rattle.q_model.specs.declared.entry.Entry.{Entry}
use Rattle.q_model.specs.declared.entry.Entry.TheVariants as entries
use Rattle.q_model.specs.declared.event.Trigger.{Trigger}
use Rattle.q_model.specs.declared.event.Trigger.TheVariants as triggers
use Rattle.q_model.specs.declared.id.Id.{Id}
use Rattle.q_model.specs.declared.rows.Admitted.{Admitted}
use Rattle.q_model.specs.declared.rows.Request.{Request}
use Rattle.q_model.specs.declared.rows.Request.TheVariants as requests
use Rattle.q_model.specs.declared.rows.Scan.{Scan}
use Rattle.q_model.specs.Book.{Book, ids_at, message_of}
use Rattle.q_model.specs.Clock.{after_at, scheduled, woken}
use Rattle.q_model.specs.Ids.{id_eq}
use Rattle.q_model.specs.Ledger.{Ledger}
use Rattle.q_model.specs.Memory.{is_admitted, unread_of}
use Rattle.q_model.specs.Message.{Message}
use Rattle.q_model.specs.Places.{is_active}
use Rattle.q_model.specs.Scans.{ask_scan, open_scan, remember_scan}
use Rattle.q_model.specs.Settings.{World}
use Rattle.q_model.specs.Step.{change}
use Rattle.q_model.specs.Triggers.{after_trigger}

-- the book, those in memory, rows and lines are the same
pub record IsCalm (b l : Ledger) : Type 0 where
  pub rows : KeepsRows b l
  pub book : l.book ≡ b.book
  pub admitted : l.admitted ≡ b.admitted
  pub lines : l.lines ≡ b.lines
  pub past : l.past ≡ b.past

pub calm_law : (w : World) (c : Counts) (s : State) (e : Entry) (l : Ledger) → IsOfLedger w c s.ledger → IsBeside s → IsCalm s.ledger l → change w s.ledger e ≡ l → site_left s.ledger e ≡ None →
    IsChanged w s.ledger e (with_ledger s l)
calm_law w c s e l held beside calm same left =
    let b = s.ledger in
    let count : (id : Id) → recipients_in l id ≡ recipients_in b id =
    λ id. ap (λ (k : Book). option_map_or (λ (m : Message). length m.recipients) (message_of k id) 0) calm.book in
    let unread : (id : Id) → unread_of l id ≡ unread_of b id =
    λ id. unread_same b l id (ap (find (λ (a : Admitted). id_eq a.id id)) calm.admitted) (λ a there. count a.id) in
    record {
      ledger = left_tidy (change w b e) l (ap bare same ∙ bare_same b l (held_bare w c b held) calm.book calm.past)
          (tidy_still b l (bare_tidy w c b held) calm.rows.waiting calm.lines calm.rows.served (λ id some. ap (λ n. not (n == 0)) (unread id) ∙ some));
      counted = record {
        admitted = calm.admitted ∙ beside.counted.admitted;
        slots = counted_still s l s.slots calm.rows beside.counted (λ x inside. (inside, count x.id));
      };
      leftovers = beside.leftovers
          ∙ ap (λ (rows : List Admitted). filter (λ id. not (list_any (λ (a : Admitted). id_eq a.id id) rows)) (ids_at is_active b.book)) (sym calm.admitted)
          ∙ ap (λ (k : Book). filter (λ id. not (is_admitted l id)) (ids_at is_active k)) (sym calm.book);
      left = beside.left ∙ sym left;
    }

keeps_all : (l : Ledger) → KeepsRows l l
keeps_all l = record { waiting = refl; flights = refl; unsettled = refl; served = refl }

-- ---- the clock

asked_calm : (b l : Ledger) → IsCalm b l → IsCalm b (ask_scan l)
asked_calm b l h = on (if l.ignores then requests.All else requests.Due) l.scan
  where
    on : (r : Request) (o : Option Scan) → IsCalm b (option_map_or (λ s. remember_scan l r) o (open_scan l r))
    on r None = record { rows = record { waiting = h.rows.waiting; flights = h.rows.flights; unsettled = h.rows.unsettled; served = h.rows.served }; book = h.book; admitted = h.admitted; lines = h.lines; past = h.past }
    on r (Some s) = record { rows = record { waiting = h.rows.waiting; flights = h.rows.flights; unsettled = h.rows.unsettled; served = h.rows.served }; book = h.book; admitted = h.admitted; lines = h.lines; past = h.past }

at_calm : (w : World) (b : Ledger) (t : ℕ) → IsCalm b (after_at w b t)
at_calm w b t = which (nat_le b.next_run t)
  where
    which : (late : Bool) → IsCalm b (if late then ask_scan (scheduled w b t) else woken w b t)
    which true = asked_calm b (scheduled w b t) (record { rows = record { waiting = refl; flights = refl; unsettled = refl; served = refl }; book = refl; admitted = refl; lines = refl; past = refl })
    which false = record { rows = record { waiting = refl; flights = refl; unsettled = refl; served = refl }; book = refl; admitted = refl; lines = refl; past = refl }

pub at_law : (w : World) (c : Counts) (s : State) (t : ℕ) → IsOfLedger w c s.ledger → IsBeside s → IsChanged w s.ledger (entries.At t) (with_ledger s (after_at w s.ledger t))
at_law w c s t held beside = calm_law w c s (entries.At t) (after_at w s.ledger t) held beside (at_calm w s.ledger t) refl refl

-- ---- triggers

trigger_calm : (w : World) (b : Ledger) (kind : Trigger) → IsCalm b (after_trigger w b kind)
trigger_calm w b triggers.D = asked_calm b b (record { rows = keeps_all b; book = refl; admitted = refl; lines = refl; past = refl })
trigger_calm w b triggers.A = record { rows = record { waiting = refl; flights = refl; unsettled = refl; served = refl }; book = refl; admitted = refl; lines = refl; past = refl }
trigger_calm w b triggers.F = record { rows = record { waiting = refl; flights = refl; unsettled = refl; served = refl }; book = refl; admitted = refl; lines = refl; past = refl }

pub trigger_law : (w : World) (c : Counts) (s : State) (kind : Trigger) → IsOfLedger w c s.ledger → IsBeside s → IsChanged w s.ledger (entries.Trigger kind) (with_ledger s (after_trigger w s.ledger kind))
trigger_law w c s kind held beside = calm_law w c s (entries.Trigger kind) (after_trigger w s.ledger kind) held beside (trigger_calm w s.ledger kind) refl refl

-- ---- the end

pub end_law : (w : World) (c : Counts) (s : State) → IsOfLedger w c s.ledger → IsBeside s → IsChanged w s.ledger entries.End s
end_law w c s held beside = calm_law w c s entries.End s.ledger held beside (record { rows = keeps_all s.ledger; book = refl; admitted = refl; lines = refl; past = refl }) refl refl
