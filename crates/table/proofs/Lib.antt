pub mod Agreement
pub mod PlaceTaken
pub mod Refused
pub mod ArrivalOrder
pub mod SettingsCheck
pub mod Laws
pub mod InMemory
