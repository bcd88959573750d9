mod Again
mod AgainFields
mod AgainParts
mod Answers
pub mod Blocks
mod Chains
mod Enclosed
mod Ends
mod Examples
mod Growing
mod Keeps
mod Low
mod Moves
pub mod OneAnswer
mod Order
mod OrderParts
mod Placing
pub mod Shapes
mod Signs
mod Sound
mod SoundAtoms
mod SoundFields
mod SoundUnary
mod Stable
mod StableParts
mod Targets
mod Within
