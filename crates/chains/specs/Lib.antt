-- What a reader must believe of this crate. The first three state demand 3; no row and no meet occurs in them.
pub mod History
pub mod Chains
pub mod Demand
-- On whose behalf a process runs, from the history alone.
pub mod Behalf
-- Guarded files, from the policy and the history alone.
pub mod Guards
-- What a monitor does, as the paper's table has it. Demand 3 is proved for every monitor that follows it.
pub mod Table
