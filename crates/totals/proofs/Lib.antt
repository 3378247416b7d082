-- Theorems is the file to read: what is proved of figures in lent numbers. The others prove it.
pub mod Theorems
pub mod FigureNumbers
pub mod CountedEvents
pub mod TotalLoop
