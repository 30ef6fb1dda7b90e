pub mod Numbers
pub mod Entries
pub mod Fronts
pub mod Several
pub mod Again
pub mod Spelled
pub mod SpelledChanges
pub mod Found
