use Rattle.std.proofs.Common.{◌≡◌, ◌<◌, ◌∙◌, ◌∷◌, ℕ, List, length, drop, take, sym, ap, subst, arith}
use Rattle.std.specs.Prelude.{option_map}
use Rattle.std.proofs.lemmas.Bool.Decides.{nat_tests}
use Rattle.std.proofs.lemmas.List.{length_push}
use Rattle.q_lines.specs.States.{text_left, ReaderState}
use Rattle.q_lines.proofs.LineParts.{PartTaken, is_lf, is_other, part_ends, part_long, part_more, part_past, stops, text_ends, text_none, rose_later}
use Rattle.q_lines.proofs.line_reader.LineReader.read_line.Goals as goal

pub returns-in-Failed-clause-source : goal.returns-in-Failed-clause-source
returns-in-Failed-clause-source g c is =
    let left = g.S.Source.left in
    stops c.args.self.now.budget c.loop-byte.self.budget (text_left c.args.self.now.buffered (left c.args.source.now)) (text_left c.loop-byte.self.buffered (left c.loop-byte.source)) (left c.next_byte.new.source) c.loop-byte.line.items c.in-Failed.ensures.next.1 c.loop-byte.invariant.part

pub returns-in-Failed-clause-cause : goal.returns-in-Failed-clause-cause
returns-in-Failed-clause-cause g c is = rose_later _ _ _ c.loop-byte.invariant.later c.in-Failed.ensures.counts.1

pub returns-then-self-eq0-clause-line : goal.returns-then-self-eq0-clause-line
returns-then-self-eq0-clause-line g c =
    let left = g.S.Source.left in
    let none : c.loop-byte.self.budget ≡ 0 = sym c.in-Byte.ensures.budget ∙ sym (ap (λ (s : ReaderState). s.budget) c.self.view_is) ∙ c.if-self-eq0.true in
    part_past c.args.self.now.budget c.loop-byte.self.budget c.in-Byte.byte (text_left c.args.self.now.buffered (left c.args.source.now)) (text_left c.loop-byte.self.buffered (left c.loop-byte.source))
    (text_left c.next_byte.new.self.buffered (left c.next_byte.new.source)) c.loop-byte.line.items none c.loop-byte.invariant.short c.in-Byte.ensures.next c.loop-byte.invariant.part

pub returns-then-byte-eq10-clause-line : goal.returns-then-byte-eq10-clause-line
returns-then-byte-eq10-clause-line g c =
    let left = g.S.Source.left in
    let old = text_left c.args.self.now.buffered (left c.args.source.now) in
    let mid = text_left c.loop-byte.self.buffered (left c.loop-byte.source) in
    let more = drop c.self.inside.at (take c.self.inside.end c.self.inside.buffer) in
    let same : c.loop-byte.self.budget ≡ c.self.inside.budget = sym c.in-Byte.ensures.budget ∙ sym (ap (λ (s : ReaderState). s.budget) c.self.view_is) in
    let next : mid ≡ option_map (λ rest. c.in-Byte.byte ∷ rest) (text_left more (left c.next_byte.new.source)) =
    c.in-Byte.ensures.next ∙ ap (λ (x : List ℕ). option_map (λ rest. c.in-Byte.byte ∷ rest) (text_left x (left c.next_byte.new.source))) (sym (ap (λ (s : ReaderState). s.buffered) c.self.view_is)) in
    let some : 0 < c.self.inside.budget = omega (arith, c.if-self-eq0.false) in
    part_ends c.args.self.now.budget c.self.inside.budget c.in-Byte.byte old mid (text_left more (left c.next_byte.new.source)) c.loop-byte.line.items some (is_lf c.in-Byte.byte c.if-byte-eq10.true) next
    (subst (λ n. PartTaken c.args.self.now.budget old n c.loop-byte.line.items mid) same c.loop-byte.invariant.part)

pub returns-then-len-eq-LONGEST-clause-line : goal.returns-then-len-eq-LONGEST-clause-line
returns-then-len-eq-LONGEST-clause-line g c =
    let left = g.S.Source.left in
    let some : 0 < c.loop-byte.self.budget = omega (arith, c.if-self-eq0.false, c.in-Byte.ensures.budget, ap (λ (s : ReaderState). s.budget) c.self.view_is) in
    let full : length c.loop-byte.line.items ≡ 16777216 = omega (arith, c.if-len-eq-LONGEST.true, c.len.ensures, c.loop-byte.line.ok) in
    part_long c.args.self.now.budget c.loop-byte.self.budget c.in-Byte.byte (text_left c.args.self.now.buffered (left c.args.source.now)) (text_left c.loop-byte.self.buffered (left c.loop-byte.source))
    (text_left c.next_byte.new.self.buffered (left c.next_byte.new.source)) c.loop-byte.line.items some (is_other c.in-Byte.byte c.if-byte-eq10.false) full c.in-Byte.ensures.next c.loop-byte.invariant.part

pub loop-byte-preserved : goal.loop-byte-preserved
loop-byte-preserved g c =
    let left = g.S.Source.left in
    let old = text_left c.args.self.now.buffered (left c.args.source.now) in
    let mid = text_left c.loop-byte.self.buffered (left c.loop-byte.source) in
    let more = drop c.self.inside.at (take c.self.inside.end c.self.inside.buffer) in
    let same : c.loop-byte.self.budget ≡ c.self.inside.budget = sym c.in-Byte.ensures.budget ∙ sym (ap (λ (s : ReaderState). s.budget) c.self.view_is) in
    let next : mid ≡ option_map (λ rest. c.in-Byte.byte ∷ rest) (text_left more (left c.next_byte.new.source)) =
    c.in-Byte.ensures.next ∙ ap (λ (x : List ℕ). option_map (λ rest. c.in-Byte.byte ∷ rest) (text_left x (left c.next_byte.new.source))) (sym (ap (λ (s : ReaderState). s.buffered) c.self.view_is)) in
    let some : 0 < c.self.inside.budget = omega (arith, c.if-self-eq0.false) in
    let longer = ap length c.in-Ok.ensures.items ∙ length_push c.loop-byte.line.items c.in-Byte.byte in
    record {
      part = rw c.in-Ok.ensures.items (part_more c.args.self.now.budget c.self.inside.budget c.in-Byte.byte old mid (text_left more (left c.next_byte.new.source)) c.loop-byte.line.items some (is_other c.in-Byte.byte c.if-byte-eq10.false) next
          (subst (λ n. PartTaken c.args.self.now.budget old n c.loop-byte.line.items mid) same c.loop-byte.invariant.part));
      spent = omega (arith, longer, some, same, c.loop-byte.invariant.spent);
      short = omega (arith, longer, c.loop-byte.invariant.short, c.if-len-eq-LONGEST.false, c.len.ensures, c.loop-byte.line.ok);
      later = omega (arith, c.loop-byte.invariant.later, c.in-Byte.ensures.counts);
      faultless = c.in-Byte.ensures.counts ∙ c.loop-byte.invariant.faultless;
    }

pub returns-in-End-clause-line : goal.returns-in-End-clause-line
returns-in-End-clause-line g c =
    let left = g.S.Source.left in
    let old = text_left c.args.self.now.buffered (left c.args.source.now) in
    let mid = text_left c.loop-byte.self.buffered (left c.loop-byte.source) in
    let some : 0 < length c.loop-byte.line.items = grind (arith, nat_tests, c.if-is_empty.false, c.is_empty.ensures, c.loop-byte.line.ok) in
    text_ends c.args.self.now.budget c.next_byte.new.self.budget old mid (text_left c.next_byte.new.self.buffered (left c.next_byte.new.source)) c.loop-byte.line.items some c.in-End.ensures.next.0 c.in-End.ensures.next.1
    (subst (λ n. PartTaken c.args.self.now.budget old n c.loop-byte.line.items mid) (sym c.in-End.ensures.budget) c.loop-byte.invariant.part)

pub returns-then-is_empty-clause-line : goal.returns-then-is_empty-clause-line
returns-then-is_empty-clause-line g c =
    let left = g.S.Source.left in
    let old = text_left c.args.self.now.buffered (left c.args.source.now) in
    let mid = text_left c.loop-byte.self.buffered (left c.loop-byte.source) in
    let none : length c.loop-byte.line.items ≡ 0 = grind (arith, nat_tests, c.if-is_empty.true, c.is_empty.ensures, c.loop-byte.line.ok) in
    text_none c.args.self.now.budget c.next_byte.new.self.budget old mid (text_left c.next_byte.new.self.buffered (left c.next_byte.new.source)) c.loop-byte.line.items none c.in-End.ensures.next.0 c.in-End.ensures.next.1
    (subst (λ n. PartTaken c.args.self.now.budget old n c.loop-byte.line.items mid) (sym c.in-End.ensures.budget) c.loop-byte.invariant.part)
