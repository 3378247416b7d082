-- What a reader must believe of this crate (change request No. 1, its second and last sentences but one): Profiles, the
-- profiles and their text; Grammar, in two wordings that are proved the same; Texts, the test of a text. Reading is the
-- reader, which is proved to read exactly what is of the grammar. The other files say what the code gives to code that walks
-- a text: Scanning, the line at a place in numbers; Notes, paths that are remembered by their place; Marks, the hashes that they have; LineWords, the lines that
-- name a path in one number each, which the test leaves to the code that reads a good text. What is left at a place is
-- `lines_in (drop at t)`, at first the lines of the reading, and each line takes its head away.
pub mod Profiles
pub mod Grammar
pub mod Tokens
pub mod Reading
pub mod Texts
pub mod Scanning
pub mod Notes
pub mod Marks
pub mod LineWords
