-- T-12 of document 02, lines over the service cable: what a step answers; that cuts do not matter; the state in a lent table.
pub mod Cable
pub mod Cuts
pub mod Spoken
pub mod Examples
pub mod State
pub mod Bytes
pub mod Given
