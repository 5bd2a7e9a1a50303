pub mod Drawn
pub mod Entry
pub mod Spans
pub mod Sweep
pub mod Loads
pub mod SpanBySpan
pub mod Lawful
