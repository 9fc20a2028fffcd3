use Rattle.std.proofs.Common.{Bool, ℕ, ◌≡◌, ◌+◌, ◌∙◌, ap, arith, subst, sym}
use Rattle.q_model.specs.QueueFile.{FileRecipient}
use Rattle.q_model.specs.SpoolFiles.{Files}
use Rattle.q_model.specs.QueueFileBytes.{recipient_size}
use Rattle.q_message.specs.Readings.{fault_in, front_recipient}
use Rattle.q_message.specs.Windows.{Shows}
use Rattle.q_host.proofs.Stays.{stays_on}
use Rattle.q_message.proofs.WindowLaws.{moved_shows, one_if, step_reads, stop_reads}
use Rattle.q_message.proofs.head.count_marked.Goals as goal
use Rattle.q_message.proofs.head.count_marked.Goals.{then-recipient, else-recipient}

pub returns-in_default-clause-reads : goal.returns-in_default-clause-reads
returns-in_default-clause-reads g c t file here shows =
    let there = ap (λ (f : Files). f c.args.spot.area c.args.spot.name) (c.loop.invariant.stays t).files ∙ here in
    let front = c.in_ok-fill.ensures.front t file there (c.loop.invariant.shows t file here shows) in
    let none = sym (c.front_recipient.ensures ∙ ap (front_recipient c.args.version) c.bytes-front.ensures) ∙ c.in_default.is in
    let at : c.at.result ≡ c.loop.window.at = c.at.ensures ∙ c.fill.ensures.at in
    let before : c.fault_in-before.result ≡ fault_in c.args.version c.fill.new.self.bytes = c.fault_in-before.ensures.fault ∙ ap (fault_in c.args.version) c.bytes-front.ensures in
    sym (c.loop.invariant.reads t file here shows)
    ∙ stop_reads c.args.version c.args.recipients c.loop.counter c.loop.marked c.loop.window.at (c.at.result + c.fault_in-before.result) file c.fill.new.self.bytes c.loop-test.true front none (omega (arith, at, before))

pub loop-preserved : goal.loop-preserved
loop-preserved g c =
    let inv = c.loop.invariant in
    record {
      stays = λ t. stays_on _ _ _ (inv.stays t) (c.fill.ensures.stays t);
      disk_later = omega (arith, inv.disk_later, c.fill.ensures.cause.disk_later);
      tell_later = omega (arith, inv.tell_later, c.fill.ensures.cause.tell_later);
      counted = elim c.if-recipient.branch [ then-recipient w ↦ omega arith | else-recipient w ↦ omega arith ];
      near =
          let moved : c.skip.new.self.at ≡ c.fill.new.self.at + c.recipient_size.result = c.skip.ensures.at (omega arith) in
          omega arith;
      shows = λ t file here shows.
          subst (Shows file) (sym (c.skip.ensures.moved (omega arith))) (moved_shows c.recipient_size.result file c.fill.new.self
          (c.in_ok-fill.ensures.shows t file (ap (λ (f : Files). f c.args.spot.area c.args.spot.name) (inv.stays t).files ∙ here) (inv.shows t file here shows)));
      reads = λ t file here shows.
          let front = c.in_ok-fill.ensures.front t file (ap (λ (f : Files). f c.args.spot.area c.args.spot.name) (inv.stays t).files ∙ here) (inv.shows t file here shows) in
          let is = sym (c.front_recipient.ensures ∙ ap (front_recipient c.args.version) c.bytes-front.ensures) ∙ c.in-Some.is in
          let mark : c.recipient.inside.marked ≡ c.in-Some.recipient.marked = ap (λ (r : FileRecipient). r.marked) c.recipient.view_is in
          let none_more : c.loop.marked ≡ c.loop.marked + 0 = omega arith in
          let counts : c.if-recipient.marked ≡ c.loop.marked + one_if c.in-Some.recipient.marked =
          elim c.if-recipient.branch [
            | then-recipient w ↦ w.marked-is ∙ ap (λ (b : Bool). c.loop.marked + one_if b) (sym w.if-recipient.true ∙ mark)
            | else-recipient w ↦ w.marked-is ∙ none_more ∙ ap (λ (b : Bool). c.loop.marked + one_if b) (sym w.if-recipient.false ∙ mark)
          ] in
          let moved : c.skip.new.self.at ≡ c.loop.window.at + recipient_size c.args.version c.in-Some.recipient = c.skip.ensures.at (omega arith) ∙ ap (λ (n : ℕ). n + c.recipient_size.result) c.fill.ensures.at ∙ ap (λ (n : ℕ). c.loop.window.at + n) c.recipient_size.ensures.size in
          step_reads c.args.version c.args.recipients c.loop.counter c.loop.marked c.if-recipient.marked c.loop.window.at c.skip.new.self.at file c.fill.new.self.bytes c.in-Some.recipient c.loop-test.true front is counts moved
          ∙ inv.reads t file here shows;
    }
