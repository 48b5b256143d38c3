mod Spelling
mod Listing
mod Blanks
