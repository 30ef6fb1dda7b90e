pub mod Again
pub mod Unfit
