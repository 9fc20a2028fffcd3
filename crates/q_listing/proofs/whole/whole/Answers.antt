use Rattle.std.proofs.Common.{◌≡◌, ◌∙◌, arith, drop, length, subst, sym}
use Rattle.std.specs.Option.{IfSome}
use Rattle.q_host.specs.Reads.{IsRead}
use Rattle.q_model.specs.SpoolFiles.{Files}
use Rattle.q_listing.proofs.WholeFiles.{all_read, read_back}
use Rattle.q_listing.proofs.whole.whole.Goals as goal

pub returns-clause-bytes : goal.returns-clause-bytes
returns-clause-bytes g c t =
    let area = c.args.area in
    let name = c.args.name in
    let files = (g.H.Host.view c.args.host.now).files in
    let size = c.in_ok-size.size in
    let count = c.in_ok-count.count in
    let old = c.as_mut_slice.result.now in
    let new = c.read.new.buf in
    let first = (c.in_ok-has.ensures.stays t).files in
    let there = sym (c.in_ok-has.ensures.found t) ∙ c.if-not-branch.false in
    let long = subst (λ (f : Files). IfSome (f area name) (λ file. size ≡ length file)) first (c.in_ok-size.ensures.size t) in
    let read = subst (λ (f : Files). IfSome (f area name) (λ file. IsRead file 0 old new count)) ((c.in_ok-size.ensures.stays t).files ∙ first) (c.in_ok-count.ensures.bytes t) in
    let full : length old ≡ size = omega (arith, c.as_mut_slice.ensures.len, c.in_ok-bytes.ensures.len) in
    let here = read_back new (drop (length new) c.in_ok-bytes.bytes.items) c.in_ok-bytes.bytes.len count c.in_ok-count.ensures.within (omega (arith, full, c.in_ok-count.ensures.within, c.in_ok-bytes.ensures.len)) in
    c.truncate.ensures.items ∙ here ∙ sym (all_read (files area name) old new size count there long full read)
