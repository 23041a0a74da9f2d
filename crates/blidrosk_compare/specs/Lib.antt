-- What callers in C are handed.
pub mod Handed
