mod Options
pub mod SpanLemmas
mod Utf8
