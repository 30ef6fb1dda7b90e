-- What proofs need and no public contract names.
pub mod Owned
