use Rattle.std.proofs.Common.{◌∙◌, ap, refl, subst, sym}
use Rattle.std.specs.Prelude.{find, IfSome, not, Option}
use Rattle.q_keyed.specs.Numbered.{values_of}
use Rattle.q_model.specs.Values.{Site}
use Rattle.q_sorted.specs.declared.ticket.Ticket.{Ticket}
use Rattle.q_sorted.specs.Tickets.{goes_before}
use Rattle.q_turns.proofs.FilingLaws.{filing_begins, filing_ends, filing_goes, of_peers, waits_there}
use Rattle.q_turns.proofs.MessageWalk.{ends_at_none, ends_at_other, stands_found, stood_at, walk_smaller}
use Rattle.q_turns.specs.Filing.{AreOfPeers, IsFiled, IsFiledAt}
use Rattle.q_turns.specs.Turns.{Turning}
use Rattle.std.specs.List.{list_any}
use Rattle.std.proofs.Common.{◌≡◌, true}
use Rattle.q_rounds.specs.Rounds.{is_peer}
use Rattle.q_turns.proofs.turns.Turns.file.Goals as goal

pub loop-at-init : goal.loop-at-init
loop-at-init c =
    let a = c.self.inside in
    let items = a.messages.items in
    let is = c.first_from-at.ensures.is ∙ ap (λ (e : Ticket). find (λ (x : Ticket). not (goes_before x e)) items) c.least_of.ensures in
    record {
      room = refl;
      tied = c.requires.tied;
      stood = stands_found _ items c.first_from-at.result is;
      filed = filing_begins c.args.id a.peers.items c.stand_apart.ensures.apart c.stand_apart.ensures.keys items c.self.invariant.listed c.first_from-at.ensures.rising c.args.self.now.lines c.args.facts c.first_from-at.result c.args.candidates.now.items is;
    }

pub returns-then-not-is_of_message-clause-filed : goal.returns-then-not-is_of_message-clause-filed
returns-then-not-is_of_message-clause-filed c =
    let ks = c.self.inside.peers.items in
    subst (λ (t : Turning). IsFiled c.args.self.now.lines t.peers c.args.id c.args.facts c.args.candidates.now.items c.loop-at.candidates.items) c.self.view_is
    (filing_ends c.args.id ks c.stand_apart.ensures.apart c.stand_apart.ensures.keys c.args.self.now.lines c.args.facts c.loop-at.at c.args.candidates.now.items c.loop-at.candidates.items
    (ends_at_other c.args.id c.loop-at.at c.in-Some.ticket c.in-Some.is (sym c.is_of_message.ensures ∙ c.if-not-is_of_message.true)) c.loop-at.invariant.filed)

pub file_at-requires-clause-peers : goal.file_at-requires-clause-peers
file_at-requires-clause-peers c =
    let ks = c.self.inside.peers.items in
    let was = subst (λ (t : Turning). AreOfPeers t.peers c.args.candidates.now.items) (sym c.self.view_is) c.requires.peers in
    subst (λ (t : Turning). AreOfPeers t.peers c.loop-at.candidates.items) c.self.view_is
    (of_peers c.args.id ks c.args.self.now.lines c.args.facts c.loop-at.at c.args.candidates.now.items c.loop-at.candidates.items was c.loop-at.invariant.filed)

pub file_at-requires-clause-there : goal.file_at-requires-clause-there
file_at-requires-clause-there c =
    let a = c.self.inside in
    let items = a.messages.items in
    let e = c.in-Some.ticket in
    let stood = stood_at items c.loop-at.at e c.in-Some.is c.loop-at.invariant.stood in
    let of = sym c.is_of_message.ensures ∙ c.if-not-is_of_message.false in
    subst (λ (t : Turning). IfSome c.site_in-site.result (λ s. list_any (is_peer c.args.id s) t.peers ≡ true)) c.self.view_is
    (subst (λ (o : Option Site). IfSome o (λ s. list_any (is_peer c.args.id s) (values_of a.peers.items) ≡ true)) (sym c.site_in-site.ensures)
    (waits_there c.args.id a.peers.items c.stand_apart.ensures.apart c.stand_apart.ensures.keys items c.self.invariant.listed c.first_from-at.ensures.rising c.args.self.now.lines c.args.facts e c.loop-at.at _ c.in-Some.is stood of refl))

pub loop-at-smaller : goal.loop-at-smaller
loop-at-smaller c = walk_smaller c.self.inside.messages.items c.in-Some.ticket c.loop-at.at c.behind-at.result c.in-Some.is c.behind-at.ensures.is

pub loop-at-preserved : goal.loop-at-preserved
loop-at-preserved c =
    let a = c.self.inside in
    let ks = a.peers.items in
    let items = a.messages.items in
    let lines = c.args.self.now.lines in
    let e = c.in-Some.ticket in
    let inv = c.loop-at.invariant in
    let stood = stood_at items c.loop-at.at e c.in-Some.is inv.stood in
    let of = sym c.is_of_message.ensures ∙ c.if-not-is_of_message.false in
    let filed = subst (λ (o : Option Site). IsFiledAt lines (values_of ks) c.args.id o c.args.facts c.loop-at.candidates.items c.file_at.new.candidates.items) c.site_in-site.ensures
    (subst (λ (t : Turning). IsFiledAt lines t.peers c.args.id c.site_in-site.result c.args.facts c.loop-at.candidates.items c.file_at.new.candidates.items) (sym c.self.view_is) c.file_at.ensures.filed) in
    record {
      room = c.file_at.ensures.room ∙ inv.room;
      tied = c.file_at.ensures.tied;
      stood = stands_found (goes_before e) items c.behind-at.result c.behind-at.ensures.is;
      filed = filing_goes c.args.id ks c.stand_apart.ensures.apart c.stand_apart.ensures.keys items c.self.invariant.listed c.first_from-at.ensures.rising lines c.args.facts e c.loop-at.at c.behind-at.result c.in-Some.is stood of c.behind-at.ensures.is
          c.args.candidates.now.items c.loop-at.candidates.items c.file_at.new.candidates.items inv.filed filed;
    }

pub returns-clause-filed : goal.returns-clause-filed
returns-clause-filed c =
    let ks = c.self.inside.peers.items in
    subst (λ (t : Turning). IsFiled c.args.self.now.lines t.peers c.args.id c.args.facts c.args.candidates.now.items c.loop-at.candidates.items) c.self.view_is
    (filing_ends c.args.id ks c.stand_apart.ensures.apart c.stand_apart.ensures.keys c.args.self.now.lines c.args.facts c.loop-at.at c.args.candidates.now.items c.loop-at.candidates.items
    (ends_at_none c.args.id c.loop-at.at c.in_default.is) c.loop-at.invariant.filed)

pub returns-then-not-is_of_message-clause-peers : goal.returns-then-not-is_of_message-clause-peers
returns-then-not-is_of_message-clause-peers c =
    let ks = c.self.inside.peers.items in
    let was = subst (λ (t : Turning). AreOfPeers t.peers c.args.candidates.now.items) (sym c.self.view_is) c.requires.peers in
    subst (λ (t : Turning). AreOfPeers t.peers c.loop-at.candidates.items) c.self.view_is
    (of_peers c.args.id ks c.args.self.now.lines c.args.facts c.loop-at.at c.args.candidates.now.items c.loop-at.candidates.items was c.loop-at.invariant.filed)

pub returns-clause-peers : goal.returns-clause-peers
returns-clause-peers c =
    let ks = c.self.inside.peers.items in
    let was = subst (λ (t : Turning). AreOfPeers t.peers c.args.candidates.now.items) (sym c.self.view_is) c.requires.peers in
    subst (λ (t : Turning). AreOfPeers t.peers c.loop-at.candidates.items) c.self.view_is
    (of_peers c.args.id ks c.args.self.now.lines c.args.facts c.loop-at.at c.args.candidates.now.items c.loop-at.candidates.items was c.loop-at.invariant.filed)
