mod Numbering
mod Sites
