use Rattle.std.proofs.Common.{sym, subst, ap, ◌∙◌}
use Rattle.q_smtpd.proofs.Contents.{dot_ends, dot_goes, dot_return_goes, line_ends, return_goes, start_goes, within_goes}
use Rattle.q_smtpd.specs.Keeping.{HoldsContent, Kept}
use Rattle.q_smtpd.proofs.content.Content.take.Goals as goal

pub returns-in-DotReturn : goal.returns-in-DotReturn
returns-in-DotReturn c = λ d text line h.
    let old : Kept = record { bytes = c.self.inside.bytes.items; is_big = c.self.inside.is_big; column = c.self.inside.column } in
    let e = dot_ends d text line c.args.byte old c.if-byte-eq-LF.true c.in-DotReturn.is (subst (λ (k : Kept). HoldsContent text line k) (sym c.self.view_is) h) in
    rw (← c.self.view_is) (e.text, e.came_is, e.holds)

pub returns-in_ok-within-in-Start-2 : goal.returns-in_ok-within-in-Start-2
returns-in_ok-within-in-Start-2 c = λ d text line h.
    let old : Kept = c.args.self.now in
    let g = start_goes d text line c.args.byte old c.within.new.self (ap (λ (k : Kept). k.column) (sym c.self.view_is) ∙ c.in-Start.is) h c.in_ok-within-in-Start-2.ensures c.if-byte-eq46.false in
    (g.text, g.line, g.came_is, g.holds)

pub returns-in_ok-within-in-Dot-2 : goal.returns-in_ok-within-in-Dot-2
returns-in_ok-within-in-Dot-2 c = λ d text line h.
    let old : Kept = c.args.self.now in
    let g = dot_goes d text line c.args.byte old c.within-in-Dot-2.new.self (ap (λ (k : Kept). k.column) (sym c.self.view_is) ∙ c.in-Dot.is) h c.in_ok-within-in-Dot-2.ensures c.if-byte-eq-CR.false in
    (g.text, g.line, g.came_is, g.holds)

pub returns-in_ok-within-in-DotReturn-2 : goal.returns-in_ok-within-in-DotReturn-2
returns-in_ok-within-in-DotReturn-2 c = λ d text line h.
    let old : Kept = c.args.self.now in
    let g = dot_return_goes d text line c.args.byte old c.keep.new.self c.within-in-DotReturn-2.new.self (ap (λ (k : Kept). k.column) (sym c.self.view_is) ∙ c.in-DotReturn.is) h c.in_ok-keep-in-DotReturn-2.ensures.bytes c.in_ok-within-in-DotReturn-2.ensures c.if-byte-eq-LF.false in
    (g.text, g.line, g.came_is, g.holds)

pub returns-in_ok-keep-in-Return : goal.returns-in_ok-keep-in-Return
returns-in_ok-keep-in-Return c = λ d text line h.
    let old : Kept = record { bytes = c.self.inside.bytes.items; is_big = c.self.inside.is_big; column = c.self.inside.column } in
    let g = line_ends d text line c.args.byte old c.keep-in-Return.new.self c.if-byte-eq-LF-2.true c.in-Return.is (subst (λ (k : Kept). HoldsContent text line k) (sym c.self.view_is) h) c.in_ok-keep-in-Return.ensures.column c.in_ok-keep-in-Return.ensures.bytes in
    (g.text, g.line, g.came_is, g.holds)

pub returns-in_ok-within-in-Return-2 : goal.returns-in_ok-within-in-Return-2
returns-in_ok-within-in-Return-2 c = λ d text line h.
    let old : Kept = c.args.self.now in
    let g = return_goes d text line c.args.byte old c.keep-in-Return-2.new.self c.within-in-Return-2.new.self (ap (λ (k : Kept). k.column) (sym c.self.view_is) ∙ c.in-Return.is) h c.in_ok-keep-in-Return-2.ensures.bytes c.in_ok-within-in-Return-2.ensures c.if-byte-eq-LF-2.false in
    (g.text, g.line, g.came_is, g.holds)

pub returns-in_ok-within-in-Within : goal.returns-in_ok-within-in-Within
returns-in_ok-within-in-Within c = λ d text line h.
    let old : Kept = c.args.self.now in
    let g = within_goes d text line c.args.byte old c.within-in-Within.new.self (ap (λ (k : Kept). k.column) (sym c.self.view_is) ∙ c.in-Within.is) h c.in_ok-within-in-Within.ensures in
    (g.text, g.line, g.came_is, g.holds)
