-- What the contracts of `read_messages` cite. Assumes nothing: these are definitions.
pub mod Words
pub mod Reading
pub mod Message
pub mod ReadMessage
pub mod Spelling
