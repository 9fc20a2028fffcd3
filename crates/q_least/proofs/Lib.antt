pub mod Descent
pub mod Made
pub mod Mended
pub mod NoKeys
pub mod Numbers
pub mod Rooted
