pub mod Places
mod Numbered
