mod AsciiLaws
mod BootLaws
mod JsonLaws
mod LineLaws
mod TallyLaws
