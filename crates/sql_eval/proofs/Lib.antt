pub mod CheckSteps
pub mod ColumnSteps
pub mod ExecutionSteps
pub mod ListSteps
pub mod ListingSteps
pub mod NamingSteps
pub mod OneColumnExecutionLemmas
pub mod RowSteps
