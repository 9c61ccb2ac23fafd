-- Whole numbers for proofs, and the list lemmas that the library lacks.
--     Tests        tests and what they say
--     Difference   a whole number as a difference of two naturals
--     Expr, Ring   expressions and their normal form: `ring`
--     Vec          vectors of 3 and 4: dot, cross, determinants, the product of three
--     Solve        identities by computation: `solve`
--     Lin          linear arithmetic: `lin`
--     Combo        an equation from equations: `combo`
--     Order, Sign  the order, products, cancelling; signs
--     Bounds, Code bounds of magnitudes; code over i64 fits and has its value: `Code-fits`, `code_is`
--     Gcd          the greatest common divisor
--     Lists        what holds of each entry, pair, triple and step; rotations
--     Members      members and places
--     Identities   of vectors
pub mod Tests
pub mod Difference
pub mod Expr
pub mod Ring
pub mod Vec
pub mod Solve
pub mod Lin
pub mod Combo
pub mod Order
pub mod Sign
pub mod Bounds
pub mod Code
pub mod Gcd
pub mod Lists
pub mod Members
pub mod Identities
