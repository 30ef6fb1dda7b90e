mod LogLemmas
pub mod Moments
pub mod Appending
pub mod ReadingLemmas
pub mod Tearing
pub mod Mended
