-- A call that is refused, and the demands of every call.
--     Refusing    what a refused call leaves
--     Demands     the three demands, from the contract of `explore` alone
pub mod Refusing
pub mod Demands
