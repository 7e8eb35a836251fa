-- What the contracts of `text` cite: the text format of calls.
pub mod Digits
pub mod DigitLaws
pub mod Floats
pub mod Choices
pub mod Words
pub mod Names
pub mod Format
pub mod Lines
pub mod LineLaws
pub mod FormatLaws
pub mod Answers
pub mod Put
pub mod Stream
pub mod show_text
pub mod replies
