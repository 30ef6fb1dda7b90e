pub mod Calls
pub mod Opened
pub mod Plain
pub mod Meant
pub mod Surviving
pub mod Rising
pub mod Streams
