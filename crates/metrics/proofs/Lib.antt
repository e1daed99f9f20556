mod Appends
mod Lines
