use Rattle.std.proofs.Common.{◌++◌, ℕ, take, ap, refl, sym, ◌∙◌}
use Rattle.circular_buffer.specs.Buffer.{Buffer}
use Rattle.q_session.proofs.Inboxes.{kept_behind}
use Rattle.q_session.proofs.inbox.Inbox.take_in.Goals as goal

pub returns-in-Reply-clause-feeds : goal.returns-in-Reply-clause-feeds
returns-in-Reply-clause-feeds c =
    let bytes = c.args.bytes.now in
    λ p h. (
      take c.in-Reply.used bytes,
      kept_behind bytes c.args.self.now.unused.items c.in-Reply.used c.fill_from_slice.result c.args.self.now.unused.capacity c.requires.empty c.requires.capacity c.requires.few c.fill_from_slice.ensures.count
          ∙ ap (λ (b : Buffer ℕ). take c.in-Reply.used bytes ++ b.items) (sym c.fill_from_slice.ensures.items),
      c.in-Reply.ensures.codes p h,
      c.in-Reply.ensures.reply p c.in-Reply.code c.in-Reply.used h refl,
    )
