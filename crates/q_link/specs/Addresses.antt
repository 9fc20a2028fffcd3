-- What std's addresses say.
use Rattle.std.specs.Net.Addr.{ipv4_octets}
use Rattle.std.specs.Net.Socket.{v4_ip, v4_port}
use Rattle.std.specs.declared.net.socket_addr.SocketAddrV4.{SocketAddrV4}
use Rattle.q_link.specs.Routes.{Route}

-- the numbers of an address
abbrev pub route_at : SocketAddrV4 → Route
route_at address = record { host = ipv4_octets (v4_ip address); port = v4_port address }
