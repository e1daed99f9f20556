mod Ending
mod Lines
mod Naming
mod Opened
mod Slashes
mod Watched
