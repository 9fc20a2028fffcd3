-- What may become of a message, by what is kept beside a ledger, is what may become of it by the ledger.
use Rattle.std.proofs.Common.{◌≡◌, ℕ, Bool, false, not, refl, ap, ◌∙◌, Option, Some, None}
use Rattle.std.specs.List.{list_any}
use Rattle.std.specs.Option.{option_map_or}
use Rattle.std.specs.Prelude.{◌&&◌, ◌||◌}
use Rattle.q_ledger.proofs.SlotLaws.{idle_same}
use Rattle.q_ledger.specs.Beside.{IsBeside}
use Rattle.q_ledger.specs.Deciding.{backs_in, bounces_in, defers_in, removes_in, syncs_in}
use Rattle.q_ledger.specs.Held.{is_at_rest_in, is_undone, may_bounce_in, may_defer_in, may_remove_in, may_sync_in}
use Rattle.q_ledger.specs.State.{State}
use Rattle.q_ledger.specs.Worlds.{Given, world_of}
use Rattle.q_model.specs.Book.{message_of}
use Rattle.q_model.specs.Bounces.{may_bounce}
use Rattle.q_model.specs.Finishing.{has_bounce, is_at_rest, is_clean, is_done, wants_bounce}
use Rattle.q_model.specs.Ids.{id_eq}
use Rattle.q_model.specs.Leaving.{may_back, may_defer, may_remove}
use Rattle.q_model.specs.Leftovers.{is_leftover, was_synced}
use Rattle.q_model.specs.Marking.{is_unmarked_at, marks_first, may_mark}
use Rattle.q_model.specs.Memory.{is_idle}
use Rattle.q_model.specs.Message.{is_logged, Message}
use Rattle.q_model.specs.Places.{is_active}
use Rattle.q_model.specs.Syncs.{may_sync}
use Rattle.q_model.specs.declared.id.Id.{Id}

-- tests that answer alike answer alike of what is found
asked_same : (f g : Message → Bool) → ((m : Message) → f m ≡ g m) → (o : Option Message) → option_map_or f o false ≡ option_map_or g o false
asked_same f g h None = refl
asked_same f g h (Some m) = h m

pub leftover_same : (s : State) → IsBeside s → (id : Id) → list_any (id_eq id) s.leftovers ≡ is_leftover s.ledger id
leftover_same s k id = ap (list_any (id_eq id)) k.leftovers

pub at_rest_same : (s : State) → IsBeside s → (id : Id) → is_at_rest_in s id ≡ is_at_rest s.ledger id
at_rest_same s k id =
    ap (λ b. b || (list_any (id_eq id) s.leftovers && was_synced s.ledger id)) (idle_same s k.counted id)
    ∙ ap (λ b. is_idle s.ledger id || (b && was_synced s.ledger id)) (leftover_same s k id)

pub defer_same : (g : Given) (s : State) → IsBeside s → (id : Id) (t : ℕ) → defers_in g s id t ≡ may_defer (world_of g) s.ledger id t
defer_same g s k id t = ap (λ b. b && option_map_or (may_defer_in g s t) (message_of s.ledger.book id) false) (idle_same s k.counted id)

pub bounce_same : (s : State) → IsBeside s → (id : Id) → bounces_in s id ≡ may_bounce s.ledger id
bounce_same s k id =
    asked_same (may_bounce_in s id) (λ m. is_active m.place && is_at_rest s.ledger id && is_done m && wants_bounce m && not (has_bounce s.ledger id))
    (λ m. ap (λ b. is_active m.place && b && is_done m && wants_bounce m && not (has_bounce s.ledger id)) (at_rest_same s k id))
    (message_of s.ledger.book id)

pub remove_same : (s : State) → IsBeside s → (id : Id) → removes_in s id ≡ may_remove s.ledger id
remove_same s k id =
    asked_same (may_remove_in s id) (λ m. is_active m.place && is_at_rest s.ledger id && is_done m && (not (wants_bounce m) || has_bounce s.ledger id))
    (λ m. ap (λ b. is_active m.place && b && is_done m && (not (wants_bounce m) || has_bounce s.ledger id)) (at_rest_same s k id))
    (message_of s.ledger.book id)

pub back_same : (s : State) → IsBeside s → (id : Id) → backs_in s id ≡ may_back s.ledger id
back_same s k id = ap (λ b. b && was_synced s.ledger id && option_map_or is_undone (message_of s.ledger.book id) false) (leftover_same s k id)

pub sync_same : (s : State) → IsBeside s → (id : Id) → syncs_in s id ≡ may_sync s.ledger id
sync_same s k id =
    asked_same (may_sync_in s id) (λ m. is_active m.place && (is_leftover s.ledger id || not (is_clean m)))
    (λ m. ap (λ b. is_active m.place && (b || not (is_clean m))) (leftover_same s k id))
    (message_of s.ledger.book id)

pub mark_same : (s : State) → IsBeside s → (id : Id) (position : ℕ) →
    (marks_first s.ledger id position || (list_any (id_eq id) s.leftovers && option_map_or (λ m. is_logged m position && is_unmarked_at m position) (message_of s.ledger.book id) false))
    ≡ may_mark s.ledger id position
mark_same s k id position =
    ap (λ b. marks_first s.ledger id position || (b && option_map_or (λ m. is_logged m position && is_unmarked_at m position) (message_of s.ledger.book id) false)) (leftover_same s k id)
