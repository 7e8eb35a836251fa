-- The twelve sessions' claim, among the laws: what "Held to account" shuts out by W1, W3, W5 and W7 fails it.
pub use Rattle.steps.specs.Twelve.{twelve-pass}
