-- Theorems about document 01's definitions. The headline statements stand on the page Theorems; the parts are below.
pub mod Planes
pub mod Section
pub mod Cells
pub mod Forms
pub mod Text
pub mod Theorems
pub mod Answers
pub mod Numbers
