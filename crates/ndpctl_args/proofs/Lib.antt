mod Matches
mod Values
