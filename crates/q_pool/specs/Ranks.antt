-- The ranks of messages: one that has something to do comes before one that hasn't.
use Rattle.std.specs.Prelude.{◌+◌, ◌≡◌, ◌&&◌, ◌==◌, [], Bool, false, find, if◌then◌else◌, List, map, min, nat_le, nat_lt, None, Option, Some, ℕ, ◌∷◌}
use Rattle.q_model.specs.declared.id.Id.{Id}
use Rattle.q_pool.specs.Kept.{is_idle, unread_of, wants_sync}
use Rattle.q_pool.specs.Pooled.{Pooled}
use Rattle.q_pool.specs.declared.kept.Kept.{Kept}
use Rattle.q_register.specs.Members.{no_rank}
use Rattle.q_register.specs.Places.{members_of}
use Rattle.q_register.specs.declared.member.Member.{Member}

-- 0 or 1 for one that wants a sync, 1 or 2 for one that is idle, from 3 on for one that is to read:
-- the more, the more room it wants
abbrev pub rank_of : ℕ → ℕ → Kept → ℕ
rank_of limit minimum k = if wants_sync limit k then (if is_idle k then 1 else 0)
    else (if is_idle k then 2
    else (if nat_lt 0 (unread_of k.slot) && (k.waiting == 0)
    then 3 + min minimum (unread_of k.slot) else no_rank))

abbrev pub value_of : Member Id Kept → Kept
value_of e = e.value

-- it stands under its id, at its rank
pub record IsRanked (limit minimum : ℕ) (e : Member Id Kept) : Type 0 where
  pub key : e.key ≡ e.value.slot.id
  pub rank : e.rank ≡ rank_of limit minimum e.value

abbrev pub AreRanked : ℕ → ℕ → List (Member Id Kept) → Type 0
AreRanked limit minimum [] = Unit {0}
AreRanked limit minimum (e ∷ es) = IsRanked limit minimum e × AreRanked limit minimum es

-- the messages at places, of which some are empty
abbrev pub values_of : List (Option (Member Id Kept)) → List Kept
values_of places = map value_of (members_of places)

-- a message stands there that passes
abbrev pub passes_at : (Kept → Bool) → Option (Member Id Kept) → Bool
passes_at p None = false
passes_at p (Some e) = p e.value

-- the message there
abbrev pub message_at : Option (Option (Member Id Kept)) → Option Kept
message_at None = None
message_at (Some None) = None
message_at (Some (Some e)) = Some e.value

-- the first message at this rank or a lesser one
abbrev pub IsFirstWithin : Pooled → ℕ → Option Kept → Type 0
IsFirstWithin m rank k = k ≡ find (λ x. nat_le (rank_of m.sync_limit m.minimum x) rank) m.items
