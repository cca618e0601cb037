pub mod Line
pub mod Turn
pub mod Laws
pub mod RoundTrip
pub mod Room
