-- The normal form grown from facets. Boundary points and facets (Facets); the form begun, up to the form itself (Begun); the list, and places in it (Places); the marks of new leaves (Beside).
-- Then the form in its table (Table), slot by slot (Slots); the walk of a plane down two operands (Sides); and what stands between planes (Standing).
pub mod Facets
pub mod Begun
pub mod Places
pub mod Beside
pub mod Table
pub mod Slots
pub mod Sides
pub mod Standing
