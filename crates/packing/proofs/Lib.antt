pub mod FolderRuns
pub mod LadderEnds
pub mod LineRuns
pub mod SummaryLines
