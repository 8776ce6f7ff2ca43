-- Working notions, not to be believed: contracts and laws name them, and what is promised does not.
--     Smooth      steps that no point ends and that do not fork
--     Tags        the input that each register and each memory word hangs on
--     Uniform     states whose values hang on one input each, at most
--     Good        groups with smooth steps behind them, their two corners, their weight
pub mod Smooth
pub mod Tags
pub mod Uniform
pub mod Good
