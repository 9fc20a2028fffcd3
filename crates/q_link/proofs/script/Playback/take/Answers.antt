use Rattle.std.proofs.Common.{◌≡◌, ℕ, List, drop, length, refl, subst, sym, arith, ap, ◌+◌, ◌∙◌}
use Rattle.q_link.specs.declared.link.Got.{Got}
use Rattle.q_link.specs.declared.link.Got.TheVariants as got
use Rattle.q_link.specs.declared.script.Step.TheVariants as kept
use Rattle.q_link.specs.Playback.{Played, steps_of}
use Rattle.q_link.specs.Scripts.{end, failure, not_yet}
use Rattle.q_link.proofs.Playbacks.{copied, Takes, finished, next_step, partly, passed, piece_place, place_partly, place_passed, places}
use Rattle.q_link.proofs.script.Playback.take.Goals as goal

since : (room : ℕ) (old was new : Played) (given : Got) {buf : List ℕ} → old ≡ was → Takes room old new given buf → Takes room was new given buf
since room old was new given {buf} same takes = subst (λ (p : Played). Takes room p new given buf) same takes

pub invariant_of-self : goal.invariant_of-self
invariant_of-self c =
    place_passed c.self.inside.at c.self.inside.next c.self.inside.steps.items not_yet got.NotYet
    (next_step c.self.inside.steps.items c.deref.result.now c.self.inside.next c.in-Some-NotYet.field-0.now kept.NotYet c.deref.ensures.value c.in-Some-NotYet.ensures.lookup.0 c.in-Some-NotYet.ensures.lookup.1 c.in-Some-NotYet.field-0-is) c.self.invariant refl

pub returns-in-Some-NotYet : goal.returns-in-Some-NotYet
returns-in-Some-NotYet c =
    let is = next_step c.self.inside.steps.items c.deref.result.now c.self.inside.next c.in-Some-NotYet.field-0.now kept.NotYet c.deref.ensures.value c.in-Some-NotYet.ensures.lookup.0 c.in-Some-NotYet.ensures.lookup.1 c.in-Some-NotYet.field-0-is in
    let t = since _ _ _ _ _ c.self.view_is (passed (length c.args.buf.now) c.self.inside.at c.self.inside.next (steps_of c.self.inside.steps.items) not_yet got.NotYet c.args.buf.now is c.self.invariant refl) in
    record { answer = t.answer; rest = t.rest; bytes = t.bytes; received = t.received }

pub invariant_of-self-in-Some-End : goal.invariant_of-self-in-Some-End
invariant_of-self-in-Some-End c =
    place_passed c.self.inside.at c.self.inside.next c.self.inside.steps.items end got.End
    (next_step c.self.inside.steps.items c.deref.result.now c.self.inside.next c.in-Some-End.field-0.now kept.End c.deref.ensures.value c.in-Some-End.ensures.lookup.0 c.in-Some-End.ensures.lookup.1 c.in-Some-End.field-0-is) c.self.invariant refl

pub returns-in-Some-End : goal.returns-in-Some-End
returns-in-Some-End c =
    let is = next_step c.self.inside.steps.items c.deref.result.now c.self.inside.next c.in-Some-End.field-0.now kept.End c.deref.ensures.value c.in-Some-End.ensures.lookup.0 c.in-Some-End.ensures.lookup.1 c.in-Some-End.field-0-is in
    let t = since _ _ _ _ _ c.self.view_is (passed (length c.args.buf.now) c.self.inside.at c.self.inside.next (steps_of c.self.inside.steps.items) end got.End c.args.buf.now is c.self.invariant refl) in
    record { answer = t.answer; rest = t.rest; bytes = t.bytes; received = t.received }

pub invariant_of-self-in-Some-Fail : goal.invariant_of-self-in-Some-Fail
invariant_of-self-in-Some-Fail c =
    place_passed c.self.inside.at c.self.inside.next c.self.inside.steps.items failure got.Failed
    (next_step c.self.inside.steps.items c.deref.result.now c.self.inside.next c.in-Some-Fail.field-0.now kept.Fail c.deref.ensures.value c.in-Some-Fail.ensures.lookup.0 c.in-Some-Fail.ensures.lookup.1 c.in-Some-Fail.field-0-is) c.self.invariant refl

pub returns-in-Some-Fail : goal.returns-in-Some-Fail
returns-in-Some-Fail c =
    let is = next_step c.self.inside.steps.items c.deref.result.now c.self.inside.next c.in-Some-Fail.field-0.now kept.Fail c.deref.ensures.value c.in-Some-Fail.ensures.lookup.0 c.in-Some-Fail.ensures.lookup.1 c.in-Some-Fail.field-0-is in
    let t = since _ _ _ _ _ c.self.view_is (passed (length c.args.buf.now) c.self.inside.at c.self.inside.next (steps_of c.self.inside.steps.items) failure got.Failed c.args.buf.now is c.self.invariant refl) in
    record { answer = t.answer; rest = t.rest; bytes = t.bytes; received = t.received }

pub split_at-requires : goal.split_at-requires
split_at-requires c =
    let is = next_step c.self.inside.steps.items c.deref.result.now c.self.inside.next c.in-Some-Piece.field-0.now (kept.Piece c.in-Some-Piece.piece) c.deref.ensures.value c.in-Some-Piece.ensures.lookup.0 c.in-Some-Piece.ensures.lookup.1 c.in-Some-Piece.field-0-is in
    let there = piece_place c.self.inside.at c.self.inside.next (steps_of c.self.inside.steps.items) c.in-Some-Piece.piece.bytes.items is c.self.invariant in
    omega (arith, there)

pub invariant_of-self-then-count-rest : goal.invariant_of-self-then-count-rest
invariant_of-self-then-count-rest c = places c.self.inside.steps.items (c.self.inside.next + 1)

pub invariant_of-self-else-count-rest : goal.invariant_of-self-else-count-rest
invariant_of-self-else-count-rest c =
    let is = next_step c.self.inside.steps.items c.deref.result.now c.self.inside.next c.in-Some-Piece.field-0.now (kept.Piece c.in-Some-Piece.piece) c.deref.ensures.value c.in-Some-Piece.ensures.lookup.0 c.in-Some-Piece.ensures.lookup.1 c.in-Some-Piece.field-0-is in
    let there = piece_place c.self.inside.at c.self.inside.next (steps_of c.self.inside.steps.items) c.in-Some-Piece.piece.bytes.items is c.self.invariant in
    let copy = copied (length c.args.buf.now) c.self.inside.at c.copy_front-count.result c.in-Some-Piece.piece.bytes.items c.deref-in-Some-Piece.result.now c.split_at.result.1.now c.copy_front-count.new.to
    c.requires there c.deref-in-Some-Piece.ensures.value c.split_at.ensures.back c.copy_front-count.auto.to c.copy_front-count.ensures.count c.copy_front-count.ensures.front in
    let rest_is : c.split_at.result.1.now ≡ drop c.self.inside.at c.in-Some-Piece.piece.bytes.items = c.split_at.ensures.back ∙ ap (drop c.self.inside.at) c.deref-in-Some-Piece.ensures.value in
    place_partly (length c.args.buf.now) c.self.inside.at c.self.inside.next c.copy_front-count.result (steps_of c.self.inside.steps.items) c.in-Some-Piece.piece.bytes.items c.copy_front-count.new.to is copy
    (λ e. c.if-count-rest.false (e ∙ ap length (sym rest_is)))

pub returns-then-count-rest : goal.returns-then-count-rest
returns-then-count-rest c =
    let is = next_step c.self.inside.steps.items c.deref.result.now c.self.inside.next c.in-Some-Piece.field-0.now (kept.Piece c.in-Some-Piece.piece) c.deref.ensures.value c.in-Some-Piece.ensures.lookup.0 c.in-Some-Piece.ensures.lookup.1 c.in-Some-Piece.field-0-is in
    let there = piece_place c.self.inside.at c.self.inside.next (steps_of c.self.inside.steps.items) c.in-Some-Piece.piece.bytes.items is c.self.invariant in
    let copy = copied (length c.args.buf.now) c.self.inside.at c.copy_front-count.result c.in-Some-Piece.piece.bytes.items c.deref-in-Some-Piece.result.now c.split_at.result.1.now c.copy_front-count.new.to
    c.requires there c.deref-in-Some-Piece.ensures.value c.split_at.ensures.back c.copy_front-count.auto.to c.copy_front-count.ensures.count c.copy_front-count.ensures.front in
    let rest_is : c.split_at.result.1.now ≡ drop c.self.inside.at c.in-Some-Piece.piece.bytes.items = c.split_at.ensures.back ∙ ap (drop c.self.inside.at) c.deref-in-Some-Piece.ensures.value in
    let t = since _ _ _ _ _ c.self.view_is (finished (length c.args.buf.now) c.self.inside.at c.self.inside.next c.copy_front-count.result (steps_of c.self.inside.steps.items) c.in-Some-Piece.piece.bytes.items c.copy_front-count.new.to is copy
    (c.if-count-rest.true ∙ ap length rest_is)) in
    record { answer = t.answer; rest = t.rest; bytes = t.bytes; received = t.received }

pub returns-else-count-rest : goal.returns-else-count-rest
returns-else-count-rest c =
    let is = next_step c.self.inside.steps.items c.deref.result.now c.self.inside.next c.in-Some-Piece.field-0.now (kept.Piece c.in-Some-Piece.piece) c.deref.ensures.value c.in-Some-Piece.ensures.lookup.0 c.in-Some-Piece.ensures.lookup.1 c.in-Some-Piece.field-0-is in
    let there = piece_place c.self.inside.at c.self.inside.next (steps_of c.self.inside.steps.items) c.in-Some-Piece.piece.bytes.items is c.self.invariant in
    let copy = copied (length c.args.buf.now) c.self.inside.at c.copy_front-count.result c.in-Some-Piece.piece.bytes.items c.deref-in-Some-Piece.result.now c.split_at.result.1.now c.copy_front-count.new.to
    c.requires there c.deref-in-Some-Piece.ensures.value c.split_at.ensures.back c.copy_front-count.auto.to c.copy_front-count.ensures.count c.copy_front-count.ensures.front in
    let rest_is : c.split_at.result.1.now ≡ drop c.self.inside.at c.in-Some-Piece.piece.bytes.items = c.split_at.ensures.back ∙ ap (drop c.self.inside.at) c.deref-in-Some-Piece.ensures.value in
    let t = since _ _ _ _ _ c.self.view_is (partly (length c.args.buf.now) c.self.inside.at c.self.inside.next c.copy_front-count.result (steps_of c.self.inside.steps.items) c.in-Some-Piece.piece.bytes.items c.copy_front-count.new.to is copy
    (λ e. c.if-count-rest.false (e ∙ ap length (sym rest_is)))) in
    record { answer = t.answer; rest = t.rest; bytes = t.bytes; received = t.received }
