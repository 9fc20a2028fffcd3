pub mod ConfFiles
