use Rattle.q_link.proofs.Sparing.{spares_same, spares_then}
use Rattle.q_session.proofs.Using.{called_open, lost_once}
use Rattle.std.proofs.Common.{refl, [], List, ℕ, take, ap, sym, subst, ◌∙◌, arith}
use Rattle.circular_buffer.specs.Buffer.{Buffer}
use Rattle.q_link.specs.Reads.{same, with_not_yet, with_received}
use Rattle.q_link.specs.Views.{NoWait}
use Rattle.q_session.specs.Traffic.{Received, Tells}
use Rattle.q_session.specs.declared.inbox.Heard.TheVariants.{Code, Lost, NoReply, NotYet}
use Rattle.q_session.proofs.Inboxes.{Reading, fault_feeds, hears_code, hears_lost, hears_no_reply, hears_not_yet, hears_then, in_hand, lost_adds, none_unused, reads_fed, reads_none, reads_then, tells_next}
use Rattle.q_session.proofs.Traffic.{goes_by_leaving, goes_nowhere, goes_then, tells_nothing}
use Rattle.q_session.proofs.inbox.Inbox.receive.Goals as goal

pub loop-code-init : goal.loop-code-init
loop-code-init g c =
    let old = c.args.self.now in
    let read = c.read_into-count in
    record {
      empty = ap (λ (b : Buffer ℕ). b.items) read.ensures.items ∙ none_unused old.unused.items read.result c.requires.few read.ensures.count;
      capacity = ap (λ (b : Buffer ℕ). b.capacity) read.ensures.items ∙ c.requires.capacity;
      size = omega (arith, read.auto.dst);
      within = omega (arith, read.ensures.count);
      usable = c.requires.usable;
      spared = spares_same (g.L.Link.view c.args.link.now).waits_left;
      link = goes_nowhere (g.L.Link.view c.args.link.now);
      reading = subst (λ (xs : List ℕ). Tells (Reading old old.replies xs) (g.L.Link.view c.args.link.now) (g.L.Link.view c.args.link.now))
          (sym (in_hand old.unused.items _ read.new.dst read.result c.requires.few refl read.ensures.count read.ensures.read))
          (tells_nothing (Reading old old.replies old.unused.items) (g.L.Link.view c.args.link.now) (reads_none old));
    }

pub returns-in-Reply-clause-got : goal.returns-in-Reply-clause-got
returns-in-Reply-clause-got g c =
    let old = c.args.self.now in
    let hand = take c.loop-code.count c.loop-code.buffer in
    tells_next (Reading old c.loop-code.self.replies hand) (Received old (Code c.in-Reply.code) c.take_in.new.self) (g.L.Link.view c.args.link.now) (g.L.Link.view c.loop-code.link)
    (hears_code old c.loop-code.self.replies hand c.take_in.new.self c.in-Reply.code c.in-Reply.used c.in-Reply.ensures.feeds) c.loop-code.invariant.reading

pub returns-in-BadReply-clause-got : goal.returns-in-BadReply-clause-got
returns-in-BadReply-clause-got g c =
    let old = c.args.self.now in
    let kept = c.loop-code.self.replies in
    let hand = take c.loop-code.count c.loop-code.buffer in
    let new = c.take_in.new.self in
    tells_next (Reading old kept hand) (Received old NoReply new) (g.L.Link.view c.args.link.now) (g.L.Link.view c.loop-code.link)
    (hears_no_reply old kept hand new (fault_feeds kept hand c.take_in.result new c.in-BadReply.is c.take_in.ensures.feeds)) c.loop-code.invariant.reading

pub loop-code-preserved : goal.loop-code-preserved
loop-code-preserved g c =
    let old = c.args.self.now in
    let view = g.L.Link.view in
    let kept = c.loop-code.self.replies in
    let hand = take c.loop-code.count c.loop-code.buffer in
    let came = take c.in-Took.more c.read.new.buf in
    let i = c.loop-code.invariant in
    let leaves = c.in-Took.ensures.reads.2 in
    let fed = tells_next (Reading old kept hand) (Reading old c.take_in.new.self.replies []) (view c.args.link.now) (view c.loop-code.link)
    (reads_fed old kept hand c.take_in.new.self c.in-More.ensures.feeds) i.reading in
    record {
      empty = c.in-More.ensures.unused refl;
      capacity = c.in-More.ensures.capacity;
      size = omega (arith, c.read.auto.buf, i.size);
      within = omega (arith, c.read.auto.buf, i.size, c.in-Took.ensures.reads.1);
      usable = called_open (view c.loop-code.link).usage (view c.read.new.self).usage i.usable leaves.usage;
      spared = spares_then 0 0 (view c.args.link.now).waits_left (view c.loop-code.link).waits_left (view c.read.new.self).waits_left i.spared leaves.waits_left;
      link = goes_then (view c.args.link.now) (view c.loop-code.link) (view c.read.new.self) i.link (goes_by_leaving NoWait (with_received came) (view c.loop-code.link) (view c.read.new.self) leaves);
      reading = reads_then old c.take_in.new.self.replies came (view c.args.link.now) (view c.loop-code.link) (view c.read.new.self) fed leaves.told;
    }

pub returns-in-NotYet-clause-got : goal.returns-in-NotYet-clause-got
returns-in-NotYet-clause-got g c =
    let old = c.args.self.now in
    let view = g.L.Link.view in
    let kept = c.loop-code.self.replies in
    let hand = take c.loop-code.count c.loop-code.buffer in
    let new = c.take_in.new.self in
    let fed = tells_next (Reading old kept hand) (Reading old new.replies []) (view c.args.link.now) (view c.loop-code.link)
    (reads_fed old kept hand new c.in-More.ensures.feeds) c.loop-code.invariant.reading in
    hears_then old new.replies NotYet new with_not_yet (view c.args.link.now) (view c.loop-code.link) (view c.read.new.self) fed c.in-NotYet.ensures.reads.told
    (hears_not_yet old new (c.in-More.ensures.unused refl))

pub returns-in-End-clause-got : goal.returns-in-End-clause-got
returns-in-End-clause-got g c =
    let old = c.args.self.now in
    let view = g.L.Link.view in
    let kept = c.loop-code.self.replies in
    let hand = take c.loop-code.count c.loop-code.buffer in
    let new = c.take_in.new.self in
    let fed = tells_next (Reading old kept hand) (Reading old new.replies []) (view c.args.link.now) (view c.loop-code.link)
    (reads_fed old kept hand new c.in-More.ensures.feeds) c.loop-code.invariant.reading in
    hears_then old new.replies Lost new same (view c.args.link.now) (view c.loop-code.link) (view c.read.new.self) fed
    (lost_adds (view c.loop-code.link) (view c.read.new.self) c.read.result c.read.new.buf c.in-End.is c.read.ensures.reads) (hears_lost old new)

pub returns-in-NotYet-clause-uses : goal.returns-in-NotYet-clause-uses
returns-in-NotYet-clause-uses g c = called_open (g.L.Link.view c.loop-code.link).usage (g.L.Link.view c.read.new.self).usage c.loop-code.invariant.usable c.in-NotYet.ensures.reads.usage

pub returns-in-End-clause-uses : goal.returns-in-End-clause-uses
returns-in-End-clause-uses g c = lost_once (g.L.Link.view c.loop-code.link) (g.L.Link.view c.read.new.self) c.read.result c.read.new.buf c.loop-code.invariant.usable c.in-End.is c.read.ensures.reads

pub returns-in-NotYet-clause-spares : goal.returns-in-NotYet-clause-spares
returns-in-NotYet-clause-spares g c =
    let view = g.L.Link.view in
    spares_then 0 1 (view c.args.link.now).waits_left (view c.loop-code.link).waits_left (view c.read.new.self).waits_left c.loop-code.invariant.spared c.in-NotYet.ensures.reads.waits_left
