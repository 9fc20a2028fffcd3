use Rattle.std.proofs.Common.{◌≡◌, filter, map, take}
use Rattle.q_model.specs.Places.{is_active}
use Rattle.q_ledger.proofs.beginning.ids_in_active.Given as goal

abbrev pub invariant-loop-message : goal.invariant-loop-message
invariant-loop-message l = l.ids.items ≡ map (λ m. m.id) (filter (λ m. is_active m.place) (take l.message-index l.messages))
