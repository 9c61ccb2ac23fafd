-- Planes: what the theory asks of them (General), their order (Order) and ascending lists (Lists), coincidence (Minors), lawful planes (Lawful, Apart), what each fault says (Faults).
pub mod General
pub mod Order
pub mod Lists
pub mod Minors
pub mod Lawful
pub mod Apart
pub mod Faults
