use Rattle.std.proofs.Common.{◌≡◌, ◌<◌, ◌≤◌, ℕ, false, true, length, arith, subst, length-set}
use Rattle.std.specs.Prelude.{slice_index_or, slice_set}
use Rattle.q_look.specs.Failures.{set_count}
use Rattle.q_logfile.proofs.FlagLaws.{flag_read}
use Rattle.q_look.proofs.FlagCounts.{set_few, set_more}
use Rattle.q_look.proofs.failed.Flags.note.Goals as goal

pub overflow_add-self : goal.overflow_add-self
overflow_add-self c =
    let flags = c.args.self.now.set.items in
    let here : c.args.position < length flags = omega arith in
    let no : slice_index_or flags c.args.position false ≡ false = flag_read flags c.args.position c.index.result.now false here (c.index.ensures) c.if-index.false in
    let more = set_more flags c.args.position here no in
    let few : set_count (slice_set flags c.args.position true) ≤ length flags = subst (λ (n : ℕ). set_count (slice_set flags c.args.position true) ≤ n) (length-set flags c.args.position true) (set_few (slice_set flags c.args.position true)) in
    omega (arith, more, few, c.requires.few, c.requires.counted)
