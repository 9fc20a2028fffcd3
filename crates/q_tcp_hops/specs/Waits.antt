-- For what a link waits, by how it is kept.
use Rattle.q_link.specs.Views.{ForRead, ForWrite, NoWait, Wait}
use Rattle.q_tcp_hops.specs.declared.link_wait.LinkWait.{LinkWait}
use Rattle.q_tcp_hops.specs.declared.link_wait.LinkWait.TheVariants as link_waits

abbrev pub wait_of : LinkWait → Wait
wait_of link_waits.No = NoWait
wait_of link_waits.ForRead = ForRead
wait_of link_waits.ForWrite = ForWrite
