mod Histories
mod Spelled
mod Words
