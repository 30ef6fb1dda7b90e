pub mod Pairs
pub mod Places
pub mod Rising
pub mod Fronts
pub mod Stripped
