-- Small worked cases, so that a changed definition is refused here, and the starred cases of document 01 as one theorem (Starred).
pub mod Kit
pub mod Points
mod Planes
mod Sections
mod Cells
mod Texts
mod Answers
pub mod Starred
