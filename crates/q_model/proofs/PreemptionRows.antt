-- Worked runs in which short messages pass longer ones.
use Rattle.q_model.proofs.RowWords.{at, id, lines, mail, many, own_domain, told_from, up, ups}
use Rattle.q_model.specs.Book.{empty_book}
use Rattle.q_model.specs.IdTexts.{hex}
use Rattle.q_model.specs.Next.{next}
use Rattle.q_model.specs.PreemptingStarts.{preempting_starts, starts_through}
use Rattle.q_model.specs.Routes.{world_without_table}
use Rattle.q_model.specs.Run.{decide, decisions, run, run_of, turn}
use Rattle.q_model.specs.Settings.{defaults}
use Rattle.q_model.specs.Step.{after, after_all}
use Rattle.q_model.specs.Text.{line, text}
use Rattle.q_model.specs.declared.entry.Entry.{Entry}
use Rattle.q_model.specs.declared.event.LifeEvent.TheVariants.{Finish}
use Rattle.q_model.specs.declared.event.Mode.TheVariants.{Deliver}
use Rattle.std.proofs.Common.{refl}
use Rattle.std.specs.Fmt.{digits}
use Rattle.std.specs.Prelude.{List, [], codes, drop, ◌++◌, ◌∷◌, ◌≡◌}
use Rattle.q_model.specs.declared.outcome.Outcome.TheVariants as outcomes

-- a short message passes a list once the list has earned its slots
preempts_when_paid : told_from 44 (record defaults { process_limit = 1 }) (at 1000 ∷ mail (codes "a@x.example") (many 100 0 (own_domain (codes "d"))) ∷ mail (codes "a@x.example") (many 10 0 (own_domain (codes "e"))) ∷ ups 10 1 ++ Finish ∷ []) ≡ lines (
    codes "start 10 00000001-00000001 smtp d9.example 9"
    ∷ codes "reply 10 up ok"
    ∷ codes "mark 00000001-00000001 9"
    ∷ codes "sync 00000001-00000001"
    ∷ codes "preempt 00000001-00000002 00000001-00000001 smtp 10"
    ∷ codes "start 11 00000001-00000002 smtp e0.example 0"
    ∷ codes "end"
    ∷ [])
unfolding run_of text run turn decisions decide after after_all next line digits hex
preempts_when_paid = refl

-- of two candidates the one with the smaller need goes first
smallest_need_first : told_from 12 (record defaults { process_limit = 1 }) (at 1000 ∷ mail (codes "a@x.example") (many 1 0 (own_domain (codes "c"))) ∷ mail (codes "a@x.example") (many 15 0 (own_domain (codes "d"))) ∷ mail (codes "a@x.example") (many 3 0 (own_domain (codes "e"))) ∷ ups 1 1 ++ Finish ∷ []) ≡ lines (
    codes "reply 1 up ok"
    ∷ codes "mark 00000001-00000001 0"
    ∷ codes "sync 00000001-00000001"
    ∷ codes "remove 00000001-00000001"
    ∷ codes "preempt 00000001-00000003 00000001-00000002 smtp 3"
    ∷ codes "start 2 00000001-00000003 smtp e0.example 0"
    ∷ codes "end"
    ∷ [])
unfolding run_of text run turn decisions decide after after_all next line digits hex
smallest_need_first = refl

-- a list that is too short is not preempted
too_few_slots_to_preempt : told_from 12 (record defaults { process_limit = 1 }) (at 1000 ∷ mail (codes "a@x.example") (many 1 0 (own_domain (codes "c"))) ∷ mail (codes "a@x.example") (many 14 0 (own_domain (codes "d"))) ∷ mail (codes "a@x.example") (many 2 0 (own_domain (codes "e"))) ∷ ups 1 1 ++ Finish ∷ []) ≡ lines (
    codes "reply 1 up ok"
    ∷ codes "mark 00000001-00000001 0"
    ∷ codes "sync 00000001-00000001"
    ∷ codes "remove 00000001-00000001"
    ∷ codes "start 2 00000001-00000002 smtp d0.example 0"
    ∷ codes "end"
    ∷ [])
unfolding run_of text run turn decisions decide after after_all next line digits hex
too_few_slots_to_preempt = refl

-- a job that preempts is preempted itself
nested_preemption : told_from 12 (record defaults { process_limit = 1; slot_cost = 2; slot_loan = 40; slot_discount = 0; minimum_slots = 1 }) (at 1000 ∷ mail (codes "a@x.example") (many 1 0 (own_domain (codes "c"))) ∷ mail (codes "a@x.example") (many 40 0 (own_domain (codes "d"))) ∷ mail (codes "a@x.example") (many 20 0 (own_domain (codes "e"))) ∷ up 1 (outcomes.Ok ∷ []) ∷ mail (codes "a@x.example") (many 10 0 (own_domain (codes "f"))) ∷ up 2 (outcomes.Ok ∷ []) ∷ Finish ∷ []) ≡ lines (
    codes "reply 1 up ok"
    ∷ codes "mark 00000001-00000001 0"
    ∷ codes "sync 00000001-00000001"
    ∷ codes "remove 00000001-00000001"
    ∷ codes "preempt 00000001-00000003 00000001-00000002 smtp 20"
    ∷ codes "start 2 00000001-00000003 smtp e0.example 0"
    ∷ codes "arrive 00000001-00000004 a@x.example 0 r@f0.example r@f1.example r@f2.example r@f3.example r@f4.example r@f5.example r@f6.example r@f7.example r@f8.example r@f9.example"
    ∷ codes "admit 00000001-00000004"
    ∷ codes "load 00000001-00000004 0 10"
    ∷ codes "reply 2 up ok"
    ∷ codes "mark 00000001-00000003 0"
    ∷ codes "sync 00000001-00000003"
    ∷ codes "preempt 00000001-00000004 00000001-00000003 smtp 10"
    ∷ codes "start 3 00000001-00000004 smtp f0.example 0"
    ∷ codes "end"
    ∷ [])
unfolding run_of text run turn decisions decide after after_all next line digits hex
nested_preemption = refl

-- the entries of the nested preemption
abbrev nested_entries : List Entry
unfolding run_of
nested_entries = run_of (world_without_table (record defaults { process_limit = 1; slot_cost = 2; slot_loan = 40; slot_discount = 0; minimum_slots = 1 })) Deliver empty_book (at 1000 ∷ mail (codes "a@x.example") (many 1 0 (own_domain (codes "c"))) ∷ mail (codes "a@x.example") (many 40 0 (own_domain (codes "d"))) ∷ mail (codes "a@x.example") (many 20 0 (own_domain (codes "e"))) ∷ up 1 (outcomes.Ok ∷ []) ∷ mail (codes "a@x.example") (many 10 0 (own_domain (codes "f"))) ∷ up 2 (outcomes.Ok ∷ []) ∷ up 3 (outcomes.Ok ∷ []) ∷ Finish ∷ [])

-- two deliveries of the third message and two of the fourth went before the second; those of the fourth count once through the third
nested_preempting_starts : preempting_starts (id 2) 0 (drop 8 nested_entries) ≡ 3
unfolding preempting_starts starts_through run_of text run turn decisions decide after after_all next line digits hex
nested_preempting_starts = refl
