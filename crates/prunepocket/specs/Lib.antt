pub mod Answers
pub mod Messages
pub mod SiteFile
pub mod Following
pub mod SettingsCheck
pub mod Recordings
pub mod Loudspeaker
pub mod LoudspeakerPromise
