-- What the calls on headings and terms promise.
pub mod Terms
