pub mod Equality
pub mod Laws
pub mod Equivalence
pub mod Handed
pub mod Looks
pub mod Seen
pub mod Worked
pub mod Derived
