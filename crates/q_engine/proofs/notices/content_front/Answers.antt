use Rattle.std.proofs.Common.{◌≡◌, ◌≤◌, ◌∙◌, ap, arith, drop, length, min, replicate, subst, ℕ}
use Rattle.std.proofs.lemmas.List.{length-replicate}
use Rattle.q_host.specs.Reads.{IsPart}
use Rattle.q_model.specs.Values.{FileHead, Spot}
use Rattle.q_engine.proofs.ContentFronts.{buffer_front, front_of}
use Rattle.q_engine.proofs.notices.content_front.Goals as goal

pub returns-clause-front : goal.returns-clause-front
returns-clause-front g c t =
    let v = g.H.Host.view c.args.host.now in
    let s = c.args.spot in
    let head = c.args.head.now in
    let old = c.as_mut_slice.result.now in
    let new = c.read.new.buf in
    let n = c.in_ok-count.count in
    let place : c.head.inside.content_at ≡ head.content_at = ap (λ (x : FileHead). x.content_at) c.head.view_is in
    let size : c.head.inside.content_len ≡ head.content_len = ap (λ (x : FileHead). x.content_len) c.head.view_is in
    let zeros : c.in_ok-bytes.bytes.items ≡ replicate c.front_size.result 0 = c.in_ok-bytes.ensures.items_if_clones_equal (λ y e. e) in
    let long : length old ≡ c.front_size.result = ap length (c.as_mut_slice.ensures.value ∙ zeros) ∙ length-replicate c.front_size.result 0 in
    let within : n ≤ length new = c.in_ok-count.ensures.within in
    let short : n ≤ c.in_ok-bytes.bytes.len = omega (arith, within, c.read.auto.buf, long, c.in_ok-bytes.ensures.len) in
    front_of (v.files s.area s.name) head c.head.inside.content_at old new c.from_vec.result n place (c.requires.reading t) (subst (λ (x : Spot). IsPart v x.area x.name c.head.inside.content_at old new n) c.spot.view_is (c.in_ok-count.ensures.bytes t)) (long ∙ c.front_size.ensures ∙ ap (λ (k : ℕ). min k 50000) size)
    (c.from_vec.ensures ∙ c.truncate.ensures.items ∙ buffer_front n c.in_ok-bytes.bytes.len new (drop (length new) c.in_ok-bytes.bytes.items) short within)
