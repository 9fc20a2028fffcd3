pub mod Waits
pub mod TcpLinks
pub mod TcpDoors
