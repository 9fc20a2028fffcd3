use Rattle.std.proofs.Common.{◌≡◌, sym, ◌∙◌, ap, ◌++◌, [], List, append-nil, Option, Some, None, ◌∷◌}
use Rattle.q_mem_host.specs.declared.record.Call.{Call}
use Rattle.q_mem_host.specs.Memo.{Memo}
use Rattle.q_mem_host.specs.Record.{events_of, history}
use Rattle.q_mem_host.specs.Event.{Event, crash}
use Rattle.q_mem_host.specs.declared.rot.Rot.{Rot}
use Rattle.q_mem_host.proofs.Keeping.{keeps_fallen, state_fallen, state_fallen_twice}
use Rattle.q_mem_host.proofs.mem_host.MemHost.fall_down.Goals as goal

noted : (calls : List Call) (crashed : Option Rot) (choice : Rot) → crashed ≡ None → history calls (Some choice) ≡ history calls crashed ++ crash choice ∷ []
noted calls crashed choice is = sym (ap (λ (o : Option Rot). history calls o ++ crash choice ∷ []) is ∙ ap (λ (l : List Event). l ++ crash choice ∷ []) (append-nil (events_of calls)))

pub invariant_of-self : goal.invariant_of-self
invariant_of-self c =
    keeps_fallen c.self.inside.files.items _ _ (history c.self.inside.calls.items c.self.inside.crashed) _ c.args.choice c.self.invariant c.fall_all.ensures.fallen c.fall_all.ensures.order (noted c.self.inside.calls.items c.self.inside.crashed c.args.choice c.in-None.is)

pub returns-in-None-clause-left : goal.returns-in-None-clause-left
returns-in-None-clause-left c = state_fallen c.args.self.now.history (history c.self.inside.calls.items c.self.inside.crashed) _ c.args.choice (sym (ap (λ (m : Memo). m.history) c.self.view_is)) (noted c.self.inside.calls.items c.self.inside.crashed c.args.choice c.in-None.is)

pub returns-in-Some-clause-left : goal.returns-in-Some-clause-left
returns-in-Some-clause-left c = state_fallen_twice c.args.self.now.history _ (events_of c.self.inside.calls.items) c.in-Some.field-0 c.args.choice (sym (ap (λ (m : Memo). m.history) c.self.view_is)) (ap (λ (o : Option Rot). history c.self.inside.calls.items o) c.in-Some.is)
