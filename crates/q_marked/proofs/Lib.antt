mod Keying
mod FirstMarked
