-- Examples has each line, computed from the definitions; ExplanationLines proves the lines, in parts and whole.
pub mod Examples
pub mod ExplanationLines
