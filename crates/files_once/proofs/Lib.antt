pub mod Alike
pub mod Refusals
pub mod Whole
pub mod Meanwhile
pub mod Left
