pub mod Opens
pub mod Direct
pub mod Imports
pub mod Groups
pub mod Transactions
pub mod Walking
pub mod Pops
