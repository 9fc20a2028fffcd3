use Rattle.std.proofs.Common.{rules, ◌≡◌, sym, ◌∙◌, None, Some}
use Rattle.q_numbers.specs.Pieces.{cut}
use Rattle.q_link.proofs.RouteReads.{four_pieces, one_piece, three_pieces, two_pieces}
use Rattle.q_link.proofs.route.read_host.Goals as goal

pub returns-in_err-a : goal.returns-in_err-a
returns-in_err-a c =
    let first : cut 46 c.args.text.now ≡ None = search rules in
    search (rules, one_piece c.args.text.now first)

pub returns-in_err-b : goal.returns-in_err-b
returns-in_err-b c =
    let first : cut 46 c.args.text.now ≡ Some (c.in_ok-a.a.now, c.in_ok-a.rest.now) = search rules in
    let second : cut 46 c.in_ok-a.rest.now ≡ None = search rules in
    search (rules, two_pieces c.args.text.now c.in_ok-a.a.now c.in_ok-a.rest.now first second)

pub returns-in_err-c : goal.returns-in_err-c
returns-in_err-c c =
    let first : cut 46 c.args.text.now ≡ Some (c.in_ok-a.a.now, c.in_ok-a.rest.now) = search rules in
    let second : cut 46 c.in_ok-a.rest.now ≡ Some (c.in_ok-b.b.now, c.in_ok-b.rest.now) = search rules in
    let third : cut 46 c.in_ok-b.rest.now ≡ None = search rules in
    search (rules, three_pieces c.args.text.now c.in_ok-a.a.now c.in_ok-a.rest.now c.in_ok-b.b.now c.in_ok-b.rest.now first second third)

pub returns : goal.returns
returns c =
    let first : cut 46 c.args.text.now ≡ Some (c.in_ok-a.a.now, c.in_ok-a.rest.now) = search rules in
    let second : cut 46 c.in_ok-a.rest.now ≡ Some (c.in_ok-b.b.now, c.in_ok-b.rest.now) = search rules in
    let third : cut 46 c.in_ok-b.rest.now ≡ Some (c.in_ok-c.c.now, c.in_ok-c.d.now) = search rules in
    c.read_octets.ensures ∙ sym (four_pieces c.args.text.now c.in_ok-a.a.now c.in_ok-a.rest.now c.in_ok-b.b.now c.in_ok-b.rest.now c.in_ok-c.c.now c.in_ok-c.d.now first second third)
