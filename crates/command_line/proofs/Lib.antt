pub mod Adding
mod Matched
mod Refusals
mod EntryNames
mod Numbers
mod Listing
mod Outside
