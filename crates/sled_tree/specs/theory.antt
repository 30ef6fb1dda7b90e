pub mod Change
pub mod Stages
pub mod StageAction
pub mod Passing
pub mod Descent
pub mod Linking
pub mod Walking
