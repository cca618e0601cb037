pub mod Worked
pub mod Alike
pub mod Judged
pub mod Binary
pub mod BinaryInBoth
pub mod OtherRules
pub mod InBoth
pub mod Apart
