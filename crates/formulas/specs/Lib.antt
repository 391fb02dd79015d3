pub mod Formulas
pub mod Tests
pub mod Named
pub mod Laws
