use Rattle.std.proofs.Common.{◌≡◌, ◌∙◌, ap, arith, find, Option, Some, subst, sym, true}
use Rattle.std.specs.List.{list_any}
use Rattle.std.specs.Prelude.{IfSome}
use Rattle.q_candidates.specs.Candidates.{is_of, Listed}
use Rattle.q_model.specs.Values.{Site}
use Rattle.q_rounds.specs.Rounds.{is_peer}
use Rattle.q_turns.specs.Filing.{candidate_at, IsFiledAt}
use Rattle.q_suspended.specs.Suspensions.{is_at}
use Rattle.q_turns.specs.Turns.{Turning}
use Rattle.q_turns.proofs.TiedLaws.{tied_left, tied_with}
use Rattle.q_turns.proofs.FiledAt.{gone_filed, has_room, its_id, its_site, needs_some, put_filed}
use Rattle.q_turns.proofs.Having.{all_wait}
use Rattle.q_turns.proofs.turns.Turns.file_at.Goals as goal

pub put-requires-clause-some : goal.put-requires-clause-some
put-requires-clause-some c =
    let t = c.args.self.now in
    let there = subst (λ (o : Option Site). IfSome o (λ s. list_any (is_peer c.args.id s) t.peers ≡ true)) c.in-Some.is c.requires.there in
    let is = sym c.candidate_at.ensures ∙ c.in-Some-candidate_at.is in
    needs_some t.lines t.peers c.args.facts c.args.id c.in-Some.site c.in-Some-candidate_at.candidate is (all_wait t.lines t.peers c.stand_apart.ensures.jobs) there

pub put-requires-clause-room : goal.put-requires-clause-room
put-requires-clause-room c = λ none.
    let t = c.args.self.now in
    let q = c.in-Some-candidate_at.candidate in
    let cs = c.args.candidates.now.items in
    let there = subst (λ (o : Option Site). IfSome o (λ s. list_any (is_peer c.args.id s) t.peers ≡ true)) c.in-Some.is c.requires.there in
    let is = sym c.candidate_at.ensures ∙ c.in-Some-candidate_at.is in
    let own = its_id t.lines t.peers c.args.facts c.args.id c.in-Some.site q is in
    let at = its_site t.lines t.peers c.args.facts c.args.id c.in-Some.site q is in
    let absent = ap (λ j. find (is_of j c.in-Some.site) cs) (sym own) ∙ ap (λ s. find (is_of q.id s) cs) (sym at) ∙ none in
    let fewer = has_room t.peers cs c.args.id c.in-Some.site c.stand_apart-2.ensures.apart c.requires.peers there absent in
    omega (arith, fewer, c.requires.room, c.stand_apart.ensures.within)

pub returns-in-Some-candidate_at-clause-filed : goal.returns-in-Some-candidate_at-clause-filed
returns-in-Some-candidate_at-clause-filed c =
    let t = c.args.self.now in
    let q = c.in-Some-candidate_at.candidate in
    let is = sym c.candidate_at.ensures ∙ c.in-Some-candidate_at.is in
    subst (λ (o : Option Site). IsFiledAt t.lines t.peers c.args.id o c.args.facts c.args.candidates.now.items c.put.new.self.items) (sym c.in-Some.is)
    (subst (λ (v : Listed). IsFiledAt t.lines t.peers c.args.id (Some c.in-Some.site) c.args.facts c.args.candidates.now.items v.items) (sym c.put.ensures.put)
    (put_filed (candidate_at t.lines t.peers c.args.facts) c.args.id c.in-Some.site c.args.candidates.now.items q is
    (its_id t.lines t.peers c.args.facts c.args.id c.in-Some.site q is) (its_site t.lines t.peers c.args.facts c.args.id c.in-Some.site q is)))

pub returns-in-None-clause-filed : goal.returns-in-None-clause-filed
returns-in-None-clause-filed c =
    let t = c.args.self.now in
    let none = sym c.candidate_at.ensures ∙ c.in-None.is in
    subst (λ (o : Option Site). IsFiledAt t.lines t.peers c.args.id o c.args.facts c.args.candidates.now.items c.remove.new.self.items) (sym c.in-Some.is)
    (subst (λ (v : Listed). IsFiledAt t.lines t.peers c.args.id (Some c.in-Some.site) c.args.facts c.args.candidates.now.items v.items) (sym c.remove.ensures.left)
    (gone_filed (candidate_at t.lines t.peers c.args.facts) c.args.id c.in-Some.site c.args.candidates.now.items none))

pub returns-in-Some-candidate_at-clause-tied : goal.returns-in-Some-candidate_at-clause-tied
returns-in-Some-candidate_at-clause-tied c =
    let t = c.args.self.now in
    let q = c.in-Some-candidate_at.candidate in
    let site = c.in-Some.site in
    let at = its_site t.lines t.peers c.args.facts c.args.id site q (sym c.candidate_at.ensures ∙ c.in-Some-candidate_at.is) in
    let has = c.has.ensures ∙ ap (λ (x : Turning). list_any (is_at site) x.suspended) c.self.view_is ∙ ap (λ s. list_any (is_at s) t.suspended) (sym at) in
    tied_with t.suspended c.args.candidates.now.suspended c.put.new.self.suspended c.requires.tied q.site c.has.result has c.put.ensures.suspended

pub returns-in-None-clause-tied : goal.returns-in-None-clause-tied
returns-in-None-clause-tied c =
    tied_left c.args.self.now.suspended c.args.candidates.now.suspended c.remove.new.self.suspended c.requires.tied c.remove.ensures.suspended
