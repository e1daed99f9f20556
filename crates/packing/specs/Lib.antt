pub mod FolderPacking
pub mod LadderPacking
pub mod StreamPacking
pub mod SummaryLines
pub mod Summaries
