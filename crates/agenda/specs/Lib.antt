-- What an agenda is. Orders: total orders and heaps; Levels: entries of one rank; Places: entries found by their index; Cells: what cells hold; Tables: what a table holds; Agendas: what the calls do.
pub mod Orders
pub mod Levels
pub mod Places
pub mod Cells
pub mod Tables
pub mod Agendas
