pub mod Fielding
pub mod RayLaws
pub mod TweakLaws
