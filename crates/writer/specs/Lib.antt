pub mod Messages
pub mod RoundTrip
