use Rattle.std.proofs.Common.{◌≡◌, ◌+◌, ◌<◌, ◌^◌, ℕ, ap, arith, length, subst, sym, ◌∙◌}
use Rattle.q_model.specs.QueueFileBytes.{recipient_at, recipient_size}
use Rattle.q_message.specs.Readings.{version_at}
use Rattle.q_message.specs.Windows.{Shows}
use Rattle.q_message.proofs.NameLaws.{not_within}
use Rattle.q_message.proofs.PendingLaws.{front_told, next_at, recipient_is, recipient_missing, recipient_near}
use Rattle.q_message.proofs.WindowLaws.{moved_shows}
use Rattle.q_message.proofs.names.next_recipient.Goals as goal

pub returns-in_default-clause-no_message : goal.returns-in_default-clause-no_message
returns-in_default-clause-no_message g c place is t m i s =
    let front = c.in_ok-fill.ensures.front t s.bytes s.here s.shows in
    not_within i (length m.recipients) (λ within.
    recipient_missing s.bytes m i c.args.window.now.at c.fill.new.self.bytes s.reads s.place within front (sym (front_told _ _ _ c.fill.new.self.bytes c.front_recipient.ensures c.version_at-version.ensures c.bytes-front.ensures) ∙ c.in_default.is))

pub returns-clause-is : goal.returns-clause-is
returns-clause-is g c t m i s within =
    let front = c.in_ok-fill.ensures.front t s.bytes s.here s.shows in
    let k = recipient_is s.bytes m i c.args.window.now.at c.fill.new.self.bytes s.reads s.place within front in
    k.there ∙ sym k.found ∙ sym (front_told _ _ _ c.fill.new.self.bytes c.front_recipient.ensures c.version_at-version.ensures c.bytes-front.ensures) ∙ c.in-Some.is

pub returns-clause-stands : goal.returns-clause-stands
returns-clause-stands g c t m i s within =
    let near = recipient_near s.bytes m i s.reads in
    let at = c.fill.ensures.at ∙ s.place in
    let small : c.fill.new.self.at + c.recipient_size.result < 2 ^ 64 = omega (arith, near, at, c.recipient_size.ensures.few) in
    let is = returns-clause-is g c t m i s within in
    let k = recipient_is s.bytes m i c.args.window.now.at c.fill.new.self.bytes s.reads s.place within (c.in_ok-fill.ensures.front t s.bytes s.here s.shows) in
    let version : c.version_at-version.result ≡ m.version = c.version_at-version.ensures ∙ ap version_at c.bytes-front.ensures ∙ k.version in
    record {
      bytes = s.bytes;
      here = s.here;
      reads = s.reads;
      shows = subst (Shows s.bytes) (sym (c.skip.ensures.moved small)) (moved_shows c.recipient_size.result s.bytes c.fill.new.self (c.in_ok-fill.ensures.shows t s.bytes s.here s.shows));
      place = c.skip.ensures.at small ∙ ap (λ (n : ℕ). n + c.recipient_size.result) at ∙ ap (λ (n : ℕ). recipient_at m i + n) (c.recipient_size.ensures.size ∙ ap (λ (v : ℕ). recipient_size v c.in-Some.recipient) version) ∙ sym (next_at m i c.in-Some.recipient is);
    }
