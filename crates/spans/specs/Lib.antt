pub mod Spans
pub mod Climbs
pub mod Ancestors
pub mod CountLaws
pub mod SpanLaws
