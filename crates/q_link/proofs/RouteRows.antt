-- Next hops with a route and without one.
use Rattle.std.proofs.Common.{◌≡◌, [], ◌∷◌, Some, false, refl}
use Rattle.std.specs.Prelude.{codes}
use Rattle.q_numbers.specs.Pieces.{cut}
use Rattle.q_link.specs.Routes.{has_route, route_of}

loopback : route_of (codes "[127.0.0.1]:25") ≡ Some (record { host = 127 ∷ 0 ∷ 0 ∷ 1 ∷ []; port = 25 })
unfolding cut
loopback = refl

greatest : route_of (codes "[255.255.255.255]:65535") ≡ Some (record { host = 255 ∷ 255 ∷ 255 ∷ 255 ∷ []; port = 65535 })
unfolding cut
greatest = refl

no_port : has_route (codes "[127.0.0.1]") ≡ false
unfolding cut
no_port = refl

port_0 : has_route (codes "[127.0.0.1]:0") ≡ false
unfolding cut
port_0 = refl

port_too_great : has_route (codes "[127.0.0.1]:65536") ≡ false
unfolding cut
port_too_great = refl

leading_zero : has_route (codes "[127.0.0.01]:25") ≡ false
unfolding cut
leading_zero = refl

number_too_great : has_route (codes "[127.0.0.256]:25") ≡ false
unfolding cut
number_too_great = refl

three_numbers : has_route (codes "[127.0.0]:25") ≡ false
unfolding cut
three_numbers = refl

five_numbers : has_route (codes "[127.0.0.1.1]:25") ≡ false
unfolding cut
five_numbers = refl

empty_number : has_route (codes "[127.0..1]:25") ≡ false
unfolding cut
empty_number = refl

a_name : has_route (codes "[mail.example]:25") ≡ false
unfolding cut
a_name = refl

more_behind : has_route (codes "[127.0.0.1]:25]") ≡ false
unfolding cut
more_behind = refl
